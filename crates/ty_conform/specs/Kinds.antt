-- What a class is by its number: a trait, an object, what its superclass is (SLS 5.1, 5.3.3, 5.5).
use Rattle.std.specs.Prelude.{ℕ, Bool, true, false, ◌&&◌, not, nat_eq, nat_lt, List, [], ◌∷◌, Option, Some, None, slice_get, option_map, option_and_then, length, if◌then◌else◌}
use Rattle.std.specs.Option.{unwrap_or}
use Rattle.ty_prog.specs.declared.class.Class.{Class}
use Rattle.ty_prog.specs.declared.kind.Kind.{Kind}
use Rattle.ty_prog.specs.declared.kind.Kind.TheVariants as kind
use Rattle.ty_prog.specs.declared.ty.Ty.{Ty}
use Rattle.ty_prog.specs.declared.ty.Ty.TheVariants as ty
use Rattle.ty_linear.specs.Linear.{is_in}
use Rattle.ty_conform.specs.Conforms.{linear_of}

-- the kind of traits
abbrev pub is_trait_kind : Kind → Bool
is_trait_kind kind.Trait = true
is_trait_kind other = false

-- whether a class is a trait
abbrev pub is_trait : List Class → ℕ → Bool
is_trait classes class = unwrap_or (option_map (λ c. is_trait_kind c.kind) (slice_get classes class)) false

-- the kind of object definitions
abbrev pub is_object_kind : Kind → Bool
is_object_kind kind.Object = true
is_object_kind other = false

-- whether a class is that of an object definition
abbrev pub is_object : List Class → ℕ → Bool
is_object classes class = unwrap_or (option_map (λ c. is_object_kind c.kind) (slice_get classes class)) false

-- what stands in a list of parents as the superclass: the first, if that is no trait (SLS 5.1); None for AnyRef
abbrev pub superclass : List Class → List ℕ → Option ℕ
superclass classes [] = None
superclass classes (first ∷ parents) = (if is_trait classes first then None else Some first)

-- the superclass of a class by its number
abbrev pub superclass_of : List Class → ℕ → Option ℕ
superclass_of classes class = option_and_then (λ c. superclass classes c.parents) (slice_get classes class)

-- whether the second class is in the chain of superclasses of the first (SLS 5.1): behind it in its linearisation, and no
-- trait
abbrev pub is_superclass : List Class → ℕ → ℕ → Bool
is_superclass classes lower upper = not (nat_eq lower upper) && is_in (linear_of classes lower) upper && not (is_trait classes upper)

-- whether the linearisation of a superclass has a class; that of AnyRef has none
abbrev pub reaches : List Class → Option ℕ → ℕ → Bool
reaches classes None class = false
reaches classes (Some super) class = is_in (linear_of classes super) class

-- a type that names no class that isn't there
abbrev pub is_known : List Class → Ty → Bool
is_known classes (ty.Class class) = nat_lt class (length classes)
is_known classes other = true
