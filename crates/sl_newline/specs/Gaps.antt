-- The characters between two tokens: whether a line ends there, and whether a line of white space alone stands there.
use Rattle.std.specs.Prelude.{ℕ, ◌-◌, ◌==◌, ◌&&◌, ◌||◌, Bool, false, List, [], ◌∷◌, take, drop, if◌then◌else◌}
use Rattle.std.specs.List.{list_any}
use Rattle.sl_text.specs.declared.span.Span.{Span}

-- white space that ends no line: space, tab, FF, CR
abbrev pub is_white : ℕ → Bool
is_white c = (c == 32) || (c == 9) || (c == 12) || (c == 13)

-- a line ends there
abbrev pub has_line : List ℕ → Bool
has_line gap = list_any (λ c. c == 10) gap

-- what is left of a line is white, and the line ends
abbrev pub rests : List ℕ → Bool
rests [] = false
rests (c ∷ a) = (c == 10) || (is_white c && rests a)

-- behind some line's end stands a line of white space alone
abbrev pub has_blank_line : List ℕ → Bool
has_blank_line [] = false
has_blank_line (c ∷ a) = ((c == 10) && rests a) || has_blank_line a

-- what stands behind one span and before another
abbrev pub between : List ℕ → Span → Span → List ℕ
between text before behind = take (behind.from - before.to) (drop before.to text)

-- how many newlines these characters bring
abbrev pub newlines : List ℕ → ℕ
newlines gap = if has_blank_line gap then 2 else (if has_line gap then 1 else 0)

-- ---- for proofs only

-- a line of white space alone ends with this character
abbrev pub ends_blank : Bool → ℕ → Bool
ends_blank fresh c = fresh && (c == 10)

-- white space alone stands behind the last line's end, after this character
abbrev pub is_fresh : Bool → ℕ → Bool
is_fresh fresh c = (c == 10) || (fresh && is_white c)
