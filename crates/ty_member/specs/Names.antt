-- Names of class files, in the order of their classes' numbers.
use Rattle.std.specs.Prelude.{List, ℕ, Bool, ◌∷◌, ◌++◌, [], Option, codes, if◌then◌else◌}
use Rattle.std.specs.List.{list_any, position_from}
use Rattle.std.specs.Str.{bytes_eq}

-- whether a list has a name
abbrev pub has_name : List (List ℕ) → List ℕ → Bool
has_name names name = list_any (bytes_eq name) names

-- names with one put behind them, unless they have it
abbrev pub with_name : List (List ℕ) → List ℕ → List (List ℕ)
with_name names name = if has_name names name then names else names ++ name ∷ []

-- names with others put behind them, one by one
abbrev pub with_names : List (List ℕ) → List (List ℕ) → List (List ℕ)
with_names names [] = names
with_names names (name ∷ more) = with_names (with_name names name) more

-- the number of a name
abbrev pub number_in : List (List ℕ) → List ℕ → Option ℕ
number_in names name = position_from (bytes_eq name) 0 names

-- the name of the class file of an object; that of a class or trait is its own name
abbrev pub object_file : List ℕ → List ℕ
object_file name = name ++ codes "$"
