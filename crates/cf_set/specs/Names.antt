-- The names of a set's classes, in the order of their numbers.
use Rattle.std.specs.Prelude.{◌≡◌, List, ℕ, ◌∷◌, ◌++◌, [], Option, Some, slice_get, if◌then◌else◌}
use Rattle.std.specs.List.{position_from}
use Rattle.std.specs.Str.{bytes_eq}
use Rattle.cf_link.specs.OfFiles.{has_text}

-- names with one put behind them, unless they have it
abbrev pub with_name : List (List ℕ) → List ℕ → List (List ℕ)
with_name names name = if has_text names name then names else names ++ name ∷ []

-- the number of a name
abbrev pub number_in : List (List ℕ) → List ℕ → Option ℕ
number_in names name = position_from (bytes_eq name) 0 names

-- names with others put behind them, one by one
abbrev pub with_names : List (List ℕ) → List (List ℕ) → List (List ℕ)
with_names names [] = names
with_names names (name ∷ more) = with_names (with_name names name) more

-- no name stands at two numbers
abbrev pub AreDistinct : List (List ℕ) → Type 0
AreDistinct names = (i j : ℕ) (name : List ℕ) → slice_get names i ≡ Some name → slice_get names j ≡ Some name → i ≡ j
