-- The member of a name that an object of a class has, and the one that `super` means (SLS 5.1.2, 5.1.3, 6.5).
use Rattle.std.specs.Prelude.{◌≡◌, ℕ, Bool, false, IsSome, ◌++◌, ◌==◌, ◌&&◌, not, is_some, nat_lt, if◌then◌else◌, List, [], ◌∷◌, Option, Some, None, slice_get, option_and_then}
use Rattle.std.specs.Option.{option_map, option_or}
use Rattle.std.specs.List.{position_from, AllByRecursion}
use Rattle.std.specs.Str.{bytes_eq}
use Rattle.ty_prog.specs.declared.class.Class.{Class}
use Rattle.ty_prog.specs.declared.method.Method.{Method}
use Rattle.ty_prog.specs.declared.program.Program.{Program}

-- a concrete member of a name: a method with a body that isn't static
abbrev pub is_concrete : List ℕ → Method → Bool
is_concrete name m = is_some m.body && not m.is_static && bytes_eq m.name name

-- a number of a method, which has 32 bits
abbrev pub number : ℕ → Option ℕ
number i = if nat_lt i 4294967296 then Some i else None

-- the first concrete member of a name of a class's own, by its class and its number
abbrev pub own : List Class → List ℕ → ℕ → Option (ℕ × ℕ)
own classes name class =
    option_and_then (λ c. option_map (λ m. (class, m)) (option_and_then number (position_from (is_concrete name) 0 c.methods)))
    (slice_get classes class)

-- the first one of the classes in a list
abbrev pub first_in : List Class → List ℕ → List ℕ → Option (ℕ × ℕ)
first_in classes name [] = None
first_in classes name (class ∷ linear) = option_or (own classes name class) (first_in classes name linear)

-- what stands in a list behind a class
abbrev pub behind : ℕ → List ℕ → List ℕ
behind after [] = []
behind after (class ∷ linear) = if class == after then linear else behind after linear

-- the first concrete member of a name in the linearisation of a class
abbrev pub find : Program → ℕ → List ℕ → Option (ℕ × ℕ)
find p class name = option_and_then (λ c. first_in p.classes name c.linear) (slice_get p.classes class)

-- the first one behind a template in the linearisation of a class
abbrev pub super_find : Program → ℕ → ℕ → List ℕ → Option (ℕ × ℕ)
super_find p class after name = option_and_then (λ c. first_in p.classes name (behind after c.linear)) (slice_get p.classes class)

-- the class gives a member of the name to the linearisation, and no class before it does
pub record IsFirst (classes : List Class) (name linear : List ℕ) (found : ℕ × ℕ) : Type 0 where
  pub before : List ℕ
  pub class : ℕ
  pub rest : List ℕ
  pub is : linear ≡ before ++ class ∷ rest
  pub lacking : AllByRecursion (λ c. own classes name c ≡ None) before
  pub gives : own classes name class ≡ Some found

-- there is such a method, it has a body and isn't static, and this is its name
pub record IsConcrete (classes : List Class) (name : List ℕ) (found : ℕ × ℕ) : Type 0 where
  pub class : Class
  pub method : Method
  pub class_is : slice_get classes found.0 ≡ Some class
  pub method_is : slice_get class.methods found.1 ≡ Some method
  pub body : IsSome method.body
  pub instance : method.is_static ≡ false
  pub named : method.name ≡ name
