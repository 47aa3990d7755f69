-- Lists of characters, and what a character may begin, continue or end (SLS 1.1, 1.2).
use Rattle.std.specs.Prelude.{ℕ, ◌+◌, ◌==◌, ◌&&◌, ◌||◌, not, Bool, false, List, [], ◌∷◌, Option, Some, None, codes, cond}
use Rattle.std.specs.List.{list_any}

-- the first character of a list
abbrev pub first : List ℕ → Option ℕ
first [] = None
first (c ∷ a) = Some c

-- there is a character, and it is this one
abbrev pub is : ℕ → Option ℕ → Bool
is c None = false
is c (Some d) = d == c

-- there is a character, and it has the property
abbrev pub holds : (ℕ → Bool) → Option ℕ → Bool
holds p None = false
holds p (Some c) = p c

-- LF or CR, which no text literal goes past
abbrev pub ends_line : ℕ → Bool
ends_line c = (c == 10) || (c == 13)

-- the characters of operators
abbrev pub is_operator : ℕ → Bool
is_operator c = list_any (λ d. d == c) (codes "!#%&*+-/:<=>?@\\^|~")

-- `//` or `/*`
abbrev pub comment_begins : ℕ → Option ℕ → Bool
comment_begins c next = (c == 47) && (is 47 next || is 42 next)

-- an operator goes on with this character, where that one follows it
abbrev pub goes_on : ℕ → Option ℕ → Bool
goes_on c next = is_operator c && not (comment_begins c next)

-- how many operator characters there are in front, up to a comment
abbrev pub operator_len : List ℕ → ℕ
operator_len [] = 0
operator_len (c ∷ a) = cond (goes_on c (first a)) (1 + operator_len a) 0
