-- Which type conforms to which (SLS 3.5.2). Each conforms to Any, also those whose values are boxed there (SLS 12.2). Int
-- doesn't conform to Long: it is widened, which makes another value (SLS 6.26.1). Neither does a type conform to Unit
-- because its value may be dropped there, nor Array to AnyRef, since it is the type of a parameter alone.
use Rattle.std.specs.Prelude.{◌≡◌, ℕ, Bool, true, false, ◌==◌, ◌||◌, IsTrue, List, [], slice_get, option_map}
use Rattle.std.specs.Option.{unwrap_or}
use Rattle.ty_prog.specs.declared.class.Class.{Class}
use Rattle.ty_prog.specs.declared.ty.Ty.{Ty}
use Rattle.ty_prog.specs.declared.ty.Ty.TheVariants as ty
use Rattle.ty_linear.specs.Linear.{is_in}

-- the linearisation of a class; empty where there is no such class
abbrev pub linear_of : List Class → ℕ → List ℕ
linear_of classes class = unwrap_or (option_map (λ c. c.linear) (slice_get classes class)) []

-- what a class conforms to: itself, the classes of its linearisation, AnyRef and Any
abbrev pub class_conforms : List Class → ℕ → Ty → Bool
class_conforms classes lower ty.Any = true
class_conforms classes lower ty.AnyRef = true
class_conforms classes lower (ty.Class upper) = (lower == upper) || is_in (linear_of classes lower) upper
class_conforms classes lower upper = false

-- whether the first type conforms to the second
abbrev pub conforms : List Class → Ty → Ty → Bool
conforms classes (ty.Class lower) upper = class_conforms classes lower upper
conforms classes lower ty.Any = true
conforms classes ty.Nothing upper = true
conforms classes ty.Null ty.AnyRef = true
conforms classes ty.Null ty.Text = true
conforms classes ty.Null (ty.Class upper) = true
conforms classes ty.Text ty.AnyRef = true
conforms classes ty.AnyRef ty.AnyRef = true
conforms classes ty.Null ty.Null = true
conforms classes ty.Unit ty.Unit = true
conforms classes ty.Boolean ty.Boolean = true
conforms classes ty.Int ty.Int = true
conforms classes ty.Long ty.Long = true
conforms classes ty.Text ty.Text = true
conforms classes ty.Array ty.Array = true
conforms classes lower upper = false

-- the linearisation of a class has the linearisations of the classes in it
abbrev pub AreClosed : List Class → Type 0
AreClosed classes = (lower middle upper : ℕ) → IsTrue (is_in (linear_of classes lower) middle)
    → IsTrue (is_in (linear_of classes middle) upper) → IsTrue (is_in (linear_of classes lower) upper)

-- no two classes stand in each other's linearisations
abbrev pub AreOneWay : List Class → Type 0
AreOneWay classes = (one other : ℕ) → IsTrue (is_in (linear_of classes one) other)
    → IsTrue (is_in (linear_of classes other) one) → one ≡ other
