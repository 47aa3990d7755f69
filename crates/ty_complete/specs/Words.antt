-- The words of a name, which `$` separates; what the passes of the compiler make of names is told by them.
use Rattle.std.specs.Prelude.{ℕ, ◌-◌, Bool, true, false, List, [], ◌∷◌, ◌++◌, codes, nat_eq, length, slice_get, option_map, if◌then◌else◌}
use Rattle.std.specs.Option.{unwrap_or}
use Rattle.std.specs.Str.{bytes_eq}
use Rattle.ty_complete.specs.declared.word.Word.{Word}
use Rattle.ty_complete.specs.declared.word.Word.TheVariants as word

-- a list without items
abbrev pub is_empty : {A : Type 0} → List A → Bool
is_empty [] = true
is_empty (x ∷ xs) = false

-- whether a word ends with `_`, as that of a setter before `$eq`
abbrev pub ends_low : List ℕ → Bool
ends_low characters = unwrap_or (option_map (nat_eq 95) (slice_get characters (length characters - 1))) false

-- which word it is
abbrev pub word_of : List ℕ → Word
word_of characters =
    if is_empty characters then word.Empty else
    if bytes_eq characters (codes "super") then word.Super else
    if bytes_eq characters (codes "main") then word.Main else
    if bytes_eq characters (codes "eq") then word.Eq else
    if bytes_eq characters (codes "init") then word.Init else
    if bytes_eq characters (codes "lzy") then word.Lzy else
    if ends_low characters then word.Low else word.Other

-- the words of a name behind the characters of one that has begun
abbrev pub words_behind : List ℕ → List ℕ → List Word
words_behind begun [] = word_of begun ∷ []
words_behind begun (character ∷ rest) =
    if nat_eq 36 character then word_of begun ∷ words_behind [] rest else words_behind (begun ++ character ∷ []) rest

-- the words of a name
abbrev pub words : List ℕ → List Word
words name = words_behind [] name

-- the empty word
abbrev pub is_none : Word → Bool
is_none word.Empty = true
is_none _ = false

-- `super`
abbrev pub is_super : Word → Bool
is_super word.Super = true
is_super _ = false

-- `main`
abbrev pub is_main : Word → Bool
is_main word.Main = true
is_main _ = false

-- `eq`
abbrev pub is_eq : Word → Bool
is_eq word.Eq = true
is_eq _ = false

-- `init`
abbrev pub is_init : Word → Bool
is_init word.Init = true
is_init _ = false

-- `lzy`
abbrev pub is_lzy : Word → Bool
is_lzy word.Lzy = true
is_lzy _ = false

-- a word that ends with `_`
abbrev pub is_low : Word → Bool
is_low word.Low = true
is_low _ = false

-- a word that a definition may have as its name: not nothing, and not `super`, which is reserved (SLS 1.1)
abbrev pub is_own : Word → Bool
is_own word.Empty = false
is_own word.Super = false
is_own _ = true
