-- The text that bytes of modified UTF-8 spell, if they spell one (JVMS 4.4.7).
use Rattle.std.specs.Prelude.{ℕ, zero, suc, ◌+◌, ◌-◌, ◌*◌, ◌&&◌, List, [], ◌∷◌, length, take, drop, Option, None, Some, option_map, Bool, nat_lt, nat_le, if◌then◌else◌, slice_index}
use Rattle.std.specs.Str.{all_scalars, bytes_eq}
use Rattle.cf_mutf8.specs.ModifiedUtf8.{character_bytes}

-- the code unit that these three bytes would be the bytes of, as the first one tells
abbrev pub unit_of : ℕ → ℕ → ℕ → ℕ
unit_of a b c = if nat_lt a 0x80 then a
    else (if nat_lt a 0xE0 then (a - 0xC0) * 0x40 + (b - 0x80)
    else (a - 0xE0) * 0x1000 + (b - 0x80) * 0x40 + (c - 0x80))

-- the code unit that these bytes begin with, if any does
abbrev pub first_unit : List ℕ → ℕ
first_unit bytes = unit_of (slice_index bytes 0) (slice_index bytes 1) (slice_index bytes 2)

-- the character that begins with this code unit, before these bytes
abbrev pub character_of : ℕ → List ℕ → ℕ
character_of unit after = if nat_le 0xD800 unit && nat_lt unit 0xDC00
    then 0x10000 + (unit - 0xD800) * 0x400 + (first_unit after - 0xDC00) else unit

-- the character that these bytes begin with, if any does
abbrev pub first_character : List ℕ → ℕ
first_character bytes = character_of (first_unit bytes) (drop 3 bytes)

-- these bytes begin with those of the character c, which is a scalar value
abbrev pub begins_with : List ℕ → ℕ → Bool
begins_with bytes c = all_scalars (c ∷ []) && bytes_eq (take (length (character_bytes c)) bytes) (character_bytes c)

-- the text that the bytes spell, which has at most so many characters
abbrev pub decoded_within : ℕ → List ℕ → Option (List ℕ)
decoded_within n [] = Some []
decoded_within zero (b ∷ bytes) = None
decoded_within (suc n) (b ∷ bytes) =
    let c = first_character (b ∷ bytes) in
    if begins_with (b ∷ bytes) c
    then option_map (λ text. c ∷ text) (decoded_within n (drop (length (character_bytes c)) (b ∷ bytes)))
    else None

-- the text that the bytes spell; None where they spell none
unfoldable pub decoded : List ℕ → Option (List ℕ)
decoded bytes = decoded_within (length bytes) bytes
