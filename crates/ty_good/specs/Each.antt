-- What holds of each class of a program by its number.
use Rattle.std.specs.Prelude.{◌≡◌, ℕ, List, Some, slice_get}
use Rattle.ty_prog.specs.declared.class.Class.{Class}

-- P holds of each class and its number
pub record EachClass (P : ℕ → Class → Type 0) (classes : List Class) : Type 0 where
  pub each : (number : ℕ) (class : Class) → slice_get classes number ≡ Some class → P number class
