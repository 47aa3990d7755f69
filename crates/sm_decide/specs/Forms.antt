-- For proofs only: what small functions give.
use Rattle.std.specs.Prelude.{ℕ, Bool, true, false, List, [], ◌∷◌, ◌++◌, codes, Option, Some, None}
use Rattle.ty_prog.specs.Shape.{One}
use Rattle.sm_state.specs.declared.value.Value.{Value}
use Rattle.sm_state.specs.declared.value.Value.TheVariants as value

-- the text of a value that is shown: null is `null`
abbrev pub shown_text : Value → Option (List ℕ)
shown_text (value.Text t) = Some t
shown_text value.Null = Some (codes "null")
shown_text other = None

-- whether a case has a guard
abbrev pub one_if : Bool → Option One
one_if true = Some tt
one_if false = None

-- a list with one item more, if there is one
abbrev pub pushed : List (Option Value) → Option Value → List (Option Value)
pushed made None = made
pushed made (Some v) = made ++ Some v ∷ []
