-- Reading turns from front to back.
use Rattle.std.specs.Prelude.{ℕ, ◌+◌, ◌*◌, ◌-◌, ◌^◌, Bool, ◌&&◌, ◌==◌, not, nat_lt, nat_le, if◌then◌else◌, List, [], ◌∷◌, ◌++◌, length, Option, None, Some, option_map, option_and_then, slice_index}
use Rattle.std.specs.Str.{all_ascii_digits}
use Rattle.runs.specs.declared.turn.Turn.{Turn}

-- what stands before the first of this byte, behind other bytes, and what stands behind it
abbrev pub cut : ℕ → List ℕ → List ℕ → Option (List ℕ × List ℕ)
cut end before [] = None
cut end before (byte ∷ bytes) = if byte == end then Some (before, bytes) else cut end (before ++ byte ∷ []) bytes

-- the number that digits write behind others
abbrev pub value_after : ℕ → List ℕ → ℕ
value_after n [] = n
value_after n (digit ∷ digits) = value_after (10 * n + (digit - 48)) digits

-- one to ten digits, the first one not `0`
abbrev pub is_numeral : List ℕ → Bool
is_numeral digits = nat_lt 0 (length digits) && nat_le (length digits) 10 && not (slice_index digits 0 == 48) && all_ascii_digits digits

-- the number from 1 to 2^32 - 1 that the digits write
abbrev pub number_of : List ℕ → Option ℕ
number_of digits = if is_numeral digits && nat_lt (value_after 0 digits) (2 ^ 32) then Some (value_after 0 digits) else None

-- the number before the first of this byte, and what stands behind it
abbrev pub number_before : ℕ → List ℕ → Option (ℕ × List ℕ)
number_before end bytes = option_and_then (λ parts. option_map (λ n. (n, parts.1)) (number_of parts.0)) (cut end [] bytes)

-- the turn in front, and what stands behind its line
abbrev pub turn_before : ℕ → List ℕ → Option (Turn × List ℕ)
turn_before thread bytes = option_map (λ found. (record { thread = thread; count = found.0 }, found.1)) (number_before 10 bytes)

-- the same with its thread, which stands first in the line
abbrev pub turn_in_front : List ℕ → Option (Turn × List ℕ)
turn_in_front bytes = option_and_then (λ found. turn_before found.0 found.1) (number_before 32 bytes)
