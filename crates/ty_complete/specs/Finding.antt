-- What a class finds, in parts that are decided one by one.
use Rattle.std.specs.Prelude.{◌≡◌, ℕ, Bool, true, false, IsTrue, is_some, not, ◌||◌, List, Some, slice_get, option_map, nat_eq}
use Rattle.std.specs.List.{All, list_all}
use Rattle.std.specs.Option.{unwrap_or}
use Rattle.ty_prog.specs.declared.class.Class.{Class}
use Rattle.ty_prog.specs.declared.method.Method.{Method}
use Rattle.ty_prog.specs.declared.program.Program.{Program}
use Rattle.ty_prog.specs.Find.{find, super_find}
use Rattle.ty_prog.specs.Tree.{Tree}
use Rattle.ty_walk.specs.Everywhere.{AllNodesOf}
use Rattle.ty_complete.specs.Complete.{made, super_of}

-- a node doesn't make an object of the class
abbrev pub makes_other : ℕ → Tree → Bool
makes_other class node = not (unwrap_or (option_map (nat_eq class) (made node)) false)

-- a method is static, or the class finds its name
abbrev pub method_found : Program → ℕ → Method → Bool
method_found p class method = method.is_static || is_some (find p class method.name)

-- so for each method of the class with another number
abbrev pub methods_found : Program → ℕ → ℕ → Bool
methods_found p class number = unwrap_or (option_map (λ c. list_all (method_found p class) c.methods) (slice_get p.classes number)) true

-- what a node calls by `super` is found from the class
abbrev pub super_found : Program → ℕ → Tree → Bool
super_found p class node = unwrap_or (option_map (λ s. is_some (super_find p class s.0 s.1)) (super_of node)) true

-- P holds of the class with a number, if there is one
pub record HoldsOf (classes : List Class) (P : Class → Type 0) (number : ℕ) : Type 0 where
  pub each : (class : Class) → slice_get classes number ≡ Some class → P class

-- two methods that aren't static have other names, or the same parameters and result
pub record MethodsAgree (one two : Method) : Type 0 where
  pub each : one.is_static ≡ false → two.is_static ≡ false → one.name ≡ two.name → (one.params ≡ two.params) × (one.result ≡ two.result)

-- each of some methods agrees with each of others
abbrev pub ListsAgree : List Method → List Method → Type 0
ListsAgree ones others = All (λ one. All (MethodsAgree one) others) ones

-- the methods of a class agree with those of each class of a list
abbrev pub AgreesWith : List Class → List ℕ → Class → Type 0
AgreesWith classes linear class = All (HoldsOf classes (λ other. ListsAgree class.methods other.methods)) linear

-- what each class of a list calls by `super` is found
abbrev pub SupersFound : Program → ℕ → List ℕ → Type 0
SupersFound p class linear = All (HoldsOf p.classes (AllNodesOf (λ node. IsTrue (super_found p class node)))) linear

-- the two parts, over a linearisation
pub record FindsIn (p : Program) (class : ℕ) (linear : List ℕ) : Type 0 where
  pub found : IsTrue (list_all (methods_found p class) linear)
  pub super : SupersFound p class linear
