-- The forms of a number's text and what it writes (SLS 1.3.1): perhaps `0x`, then digits, then perhaps `L`.
-- A text is the list of its bytes: `0` is 48, `L` 76, `X` 88, `_` 95, `l` 108 and `x` 120.
use Rattle.std.specs.Prelude.{ℕ, ◌-◌, ◌^◌, Bool, true, false, not, ◌&&◌, ◌||◌, ◌==◌, nat_le, if◌then◌else◌, List, take, drop, length, filter, slice_index, Result, Ok, Err}
use Rattle.std.specs.List.{list_all}
use Rattle.std.specs.Char.{is_digit}
use Rattle.std.specs.Str.Parse.{digits_value}
use Rattle.sl_num.specs.declared.number.Numeral.{Numeral}
use Rattle.sl_num.specs.declared.number.Numeral.TheVariants.{Int, Long}
use Rattle.sl_num.specs.declared.number.NumFault.{NumFault}
use Rattle.sl_num.specs.declared.number.NumFault.TheVariants.{Form, TooLarge}

-- the text ends in `L` or `l`
abbrev pub is_long : List ℕ → Bool
is_long text = slice_index text (length text - 1) == 76 || slice_index text (length text - 1) == 108

-- the text begins with `0x` or `0X`
abbrev pub is_hex : List ℕ → Bool
is_hex text = slice_index text 0 == 48 && (slice_index text 1 == 120 || slice_index text 1 == 88)

-- the digits and underscores: what is left of the text without that beginning and that end
abbrev pub digits : List ℕ → List ℕ
digits text = drop (if is_hex text then 2 else 0) (take (length text - (if is_long text then 1 else 0)) text)

-- how many digits there are: 16 in hexadecimal, else 10
abbrev pub radix : Bool → ℕ
radix hex = if hex then 16 else 10

-- digits of that radix, with underscores between them: a digit is first, and a digit is last
abbrev pub are_digits : ℕ → List ℕ → Bool
are_digits base ds =
    list_all (λ c. c == 95 || is_digit c base) ds
    && (is_digit (slice_index ds 0) base && is_digit (slice_index ds (length ds - 1)) base)

-- such digits, where in decimal a first `0` stands alone
abbrev pub is_numeral : Bool → List ℕ → Bool
is_numeral hex ds = are_digits (radix hex) ds && (hex || (not (slice_index ds 0 == 48) || length ds == 1))

-- the number that the digits write, without the underscores
abbrev pub number : ℕ → List ℕ → ℕ
number base ds = digits_value base (filter (λ c. not (c == 95)) ds)

-- the greatest number that the text may write: in decimal the size of the least Int or Long, in hexadecimal all its bits
abbrev pub greatest : Bool → Bool → ℕ
greatest false false = 2 ^ 31
greatest false true = 2 ^ 63
greatest true false = 2 ^ 32 - 1
greatest true true = 2 ^ 64 - 1

-- the number itself, with its type and its radix
abbrev pub numeral : Bool → Bool → ℕ → Numeral
numeral hex false n = Int n hex
numeral hex true n = Long n hex

-- what the text writes, or why it writes no number
abbrev pub literal : List ℕ → Result Numeral NumFault
literal text =
    let hex = is_hex text in
    let long = is_long text in
    let n = number (radix hex) (digits text) in
    if is_numeral hex (digits text)
    then (if nat_le n (greatest hex long) then Ok (numeral hex long n) else Err TooLarge)
    else Err Form
