-- Which value may stand, as it is, where one of a type is wanted. A value of Int, Long, Boolean or Unit is boxed where
-- Any is wanted, so it doesn't stand there itself (SLS 12.2). What an expression gives is told by the list of the types
-- of its values, since the branches of one expression may have several.
use Rattle.std.specs.Prelude.{Bool, true, false, ◌&&◌, not, is_some, List, [], ◌∷◌, Option, Some, None, if◌then◌else◌}
use Rattle.std.specs.List.{list_all}
use Rattle.ty_prog.specs.declared.class.Class.{Class}
use Rattle.ty_prog.specs.declared.ty.Ty.{Ty}
use Rattle.ty_prog.specs.declared.ty.Ty.TheVariants as ty
use Rattle.ty_conform.specs.Conforms.{conforms}

-- the type Any
abbrev pub is_any : Ty → Bool
is_any ty.Any = true
is_any other = false

-- a type whose values are no references, or that of the parameter of `main`
abbrev pub is_apart : Ty → Bool
is_apart ty.Unit = true
is_apart ty.Boolean = true
is_apart ty.Int = true
is_apart ty.Long = true
is_apart ty.Array = true
is_apart other = false

-- a value of the first type may stand where one of the second is wanted
abbrev pub stands_for : List Class → Ty → Ty → Bool
stands_for classes lower upper = conforms classes lower upper && not (is_apart lower && is_any upper)

-- values of these types may stand where one of a type is wanted
abbrev pub fits : List Class → List Ty → Ty → Bool
fits classes types wanted = list_all (λ lower. stands_for classes lower wanted) types

-- the first of some types for which the values of each of several expressions may stand
abbrev pub common : List Class → List Ty → List (List Ty) → Option Ty
common classes [] several = None
common classes (first ∷ choices) several =
    if list_all (λ types. fits classes types first) several then Some first else common classes choices several

-- the kinds of values: each value is of one of these types, a reference is of Any
abbrev pub kinds : List Ty
kinds = ty.Any ∷ ty.Unit ∷ ty.Boolean ∷ ty.Int ∷ ty.Long ∷ ty.Array ∷ []

-- the kinds of values that have a text and that `==` compares
abbrev pub compared : List Ty
compared = ty.Any ∷ ty.Unit ∷ ty.Boolean ∷ ty.Int ∷ ty.Long ∷ []

-- the types of numbers
abbrev pub numbers : List Ty
numbers = ty.Int ∷ ty.Long ∷ []

-- the types on which bits are worked
abbrev pub bits : List Ty
bits = ty.Int ∷ ty.Long ∷ ty.Boolean ∷ []

-- values of these types are of one kind
abbrev pub is_value : List Class → List Ty → Bool
is_value classes types = is_some (common classes kinds (types ∷ []))

-- as many values as types are wanted, and each may stand where its type is wanted
abbrev pub all_fit : List Class → List (List Ty) → List Ty → Bool
all_fit classes [] [] = true
all_fit classes (types ∷ several) (wanted ∷ rest) = fits classes types wanted && all_fit classes several rest
all_fit classes several wanted = false
