-- Text literals (SLS 1.3.5, 1.3.6): the characters and escapes between two `"` of one line.
use Rattle.std.specs.Prelude.{ℕ, ◌≤◌, zero, suc, ◌+◌, ◌*◌, ◌==◌, List, [], ◌∷◌, drop, length, Option, Some, None, if◌then◌else◌}
use Rattle.std.specs.Option.{option_and_then}
use Rattle.std.specs.List.{prefix_len}
use Rattle.std.specs.Char.{digit_value, is_digit}
use lib.Utf8.{scalar}
use Rattle.sl_lexer.specs.Characters.{first, ends_line}
use Rattle.sl_lexer.specs.declared.texts.Part.{Part}
use Rattle.sl_lexer.specs.declared.texts.Part.TheVariants as part
use Rattle.sl_lexer.specs.declared.texts.TextEnd.{TextEnd}
use Rattle.sl_lexer.specs.declared.texts.TextEnd.TheVariants as end

-- the character that a `\` and this one name: b t n f r " ' \
abbrev pub named : ℕ → Option ℕ
named c =
    if c == 98 then Some 8 else
    (if c == 116 then Some 9 else
    (if c == 110 then Some 10 else
    (if c == 102 then Some 12 else
    (if c == 114 then Some 13 else
    (if c == 34 then Some 34 else
    (if c == 39 then Some 39 else
    (if c == 92 then Some 92 else None)))))))

-- the value of a hexadecimal digit
abbrev pub hex_value : ℕ → Option ℕ
hex_value c = if is_digit c 16 then Some (digit_value c) else None

-- the value of the hexadecimal digit behind so many characters
abbrev pub hex_at : ℕ → List ℕ → Option ℕ
hex_at i a = option_and_then hex_value (first (drop i a))

-- the number that four hexadecimal digits write
abbrev pub four : Option ℕ → Option ℕ → Option ℕ → Option ℕ → Option ℕ
four (Some p) (Some q) (Some r) (Some s) = Some (((p * 16 + q) * 16 + r) * 16 + s)
four p q r s = None

-- a code that isn't a surrogate's
abbrev pub unless_surrogate : ℕ → Option ℕ
unless_surrogate v = if scalar v then Some v else None

-- the character of four hexadecimal digits
abbrev pub code : List ℕ → Option ℕ
code a = option_and_then unless_surrogate (four (hex_at 0 a) (hex_at 1 a) (hex_at 2 a) (hex_at 3 a))

-- an escape with so many characters, where it names one
abbrev pub escaped : ℕ → Option ℕ → Part
escaped n None = part.Wrong
escaped n (Some c) = part.Char c n

-- one or more `u` and four digits
abbrev pub coded : List ℕ → Part
coded a = let us = prefix_len (λ c. c == 117) a in escaped (us + 5) (code (drop us a))

-- what stands behind a `\`, by the first character there
abbrev pub escape_by : Option ℕ → List ℕ → Part
escape_by None a = part.End
escape_by (Some c) a = if ends_line c then part.End else (if c == 117 then coded a else escaped 2 (named c))

-- what stands in front, by the first character
abbrev pub part_by : Option ℕ → List ℕ → Part
part_by None a = part.End
part_by (Some c) a =
    if c == 34 then part.Close else
    (if ends_line c then part.End else
    (if c == 92 then escape_by (first (drop 1 a)) (drop 1 a) else part.Char c 1))

-- What stands in front in a text literal: a character or an escape with so many characters, the closing `"`, a wrong
-- escape, or the end of the line or the file, a `\` before it included.
abbrev pub part_of : List ℕ → Part
part_of a = part_by (first a) a

-- this character first, and then what stands behind it
abbrev pub with_char : ℕ → ℕ → TextEnd → TextEnd
with_char c n (end.Closed value m) = end.Closed (c ∷ value) (n + m)
with_char c n e = e

-- how a text literal ends that begins with this part, by how it ends behind so many characters
abbrev pub by_part : (ℕ → TextEnd) → Part → TextEnd
by_part behind (part.Char c n) = with_char c n (behind n)
by_part behind part.Close = end.Closed [] 1
by_part behind part.Wrong = end.Wrong
by_part behind part.End = end.Open

-- part after part, at most so many
unfoldable pub text_in : ℕ → List ℕ → TextEnd
text_in zero a = end.Open
text_in (suc n) a = by_part (λ k. text_in n (drop k a)) (part_of a)

-- How a text literal ends, from behind its `"`: it is closed, with its value and the number of characters up to there;
-- or a wrong escape, or the line's end, comes first. Each part has a character, so there are no more of them.
abbrev pub text_end : List ℕ → TextEnd
text_end a = text_in (suc (length a)) a

-- a text that is closed is so within these characters
abbrev pub IsClosedWithin : List ℕ → TextEnd → Type 0
IsClosedWithin a (end.Closed value n) = n ≤ length a
IsClosedWithin a e = Unit {0}
