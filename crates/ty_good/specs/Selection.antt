-- Which method a call on an object of a class runs (JVMS 5.4.6, with default methods and no access flags), and that it is
-- the first one of the linearisation.
use Rattle.std.specs.Prelude.{◌≡◌, ℕ, Bool, true, false, ◌&&◌, ◌||◌, not, nat_eq, nat_le, is_some, IsTrue, List, [], ◌∷◌, ◌++◌, Option, Some, None, codes, slice_get, option_map, option_and_then, if◌then◌else◌}
use Rattle.std.specs.List.{list_all, list_any, position_from}
use Rattle.std.specs.Option.{option_or, unwrap_or}
use Rattle.std.specs.Str.{bytes_eq}
use Rattle.ty_prog.specs.declared.class.Class.{Class}
use Rattle.ty_prog.specs.declared.method.Method.{Method}
use Rattle.ty_prog.specs.declared.program.Program.{Program}
use Rattle.ty_prog.specs.declared.ty.Ty.{Ty}
use Rattle.ty_prog.specs.declared.ty.Ty.TheVariants as ty
use Rattle.ty_prog.specs.Find.{find, number}
use Rattle.ty_linear.specs.Linear.{is_in}
use Rattle.ty_conform.specs.Conforms.{linear_of}
use Rattle.ty_conform.specs.Kinds.{is_trait, is_trait_kind}
use Rattle.ty_complete.specs.Complete.{is_unit}
use Rattle.ty_typed.specs.Members.{method_at}
use Rattle.ty_good.specs.Each.{EachClass}

-- a type that a descriptor writes as Object (JVMS 4.3.2)
abbrev pub is_plain : Ty → Bool
is_plain ty.Any = true
is_plain ty.AnyRef = true
is_plain ty.Nothing = true
is_plain ty.Null = true
is_plain ty.Unit = true
is_plain other = false

-- two types that a descriptor writes alike
abbrev pub alike : Ty → Ty → Bool
alike ty.Boolean ty.Boolean = true
alike ty.Int ty.Int = true
alike ty.Long ty.Long = true
alike ty.Text ty.Text = true
alike ty.Array ty.Array = true
alike (ty.Class one) (ty.Class other) = nat_eq one other
alike one other = is_plain one && is_plain other

-- two results: one of Unit is written as void (JVMS 4.3.3)
abbrev pub results_alike : Ty → Ty → Bool
results_alike one other = if is_unit one then is_unit other else not (is_unit other) && alike one other

-- parameters that a descriptor writes alike
abbrev pub params_alike : List Ty → List Ty → Bool
params_alike [] [] = true
params_alike (one ∷ ones) (other ∷ others) = alike one other && params_alike ones others
params_alike ones others = false

-- a method that isn't static, of the name and the descriptor of another
abbrev pub is_same_member : Method → Method → Bool
is_same_member wanted m =
    not m.is_static && bytes_eq wanted.name m.name && params_alike wanted.params m.params && results_alike wanted.result m.result

-- the name and the descriptor of a method that Object has, `toString` or `equals` (SLS 12.1)
abbrev pub is_built_in : Method → Bool
is_built_in m =
    bytes_eq m.name (codes "toString") && params_alike m.params [] && results_alike m.result ty.Text
    || bytes_eq m.name (codes "equals") && params_alike m.params (ty.Any ∷ []) && results_alike m.result ty.Boolean

-- whether the method with these numbers has a body
abbrev pub has_body : List Class → ℕ × ℕ → Bool
has_body classes found = unwrap_or (option_map (λ m. is_some m.body) (method_at classes found.0 found.1)) false

-- the method, if it has a body
abbrev pub if_concrete : List Class → Option (ℕ × ℕ) → List (ℕ × ℕ)
if_concrete classes None = []
if_concrete classes (Some found) = if has_body classes found then found ∷ [] else []

-- the one of a list
abbrev pub only : List (ℕ × ℕ) → Option (ℕ × ℕ)
only [] = None
only (found ∷ []) = Some found
only (found ∷ next ∷ rest) = None

module _ (classes : List Class) (wanted : Method) where
  -- the method of that name and descriptor that a class declares
  abbrev pub declared_in : ℕ → Option (ℕ × ℕ)
  declared_in class =
      option_and_then (λ c. option_map (λ m. (class, m)) (option_and_then number (position_from (is_same_member wanted) 0 c.methods)))
      (slice_get classes class)

  -- the first of a linearisation that is declared by a class that isn't a trait: such classes of it are the class itself
  -- and then its superclasses in turn
  abbrev pub inherited : List ℕ → Option (ℕ × ℕ)
  inherited [] = None
  inherited (class ∷ linear) = option_or (if is_trait classes class then None else declared_in class) (inherited linear)

  -- a trait below another that declares the method again
  abbrev pub declares_again : ℕ → ℕ → Bool
  declares_again trait lower =
      not (nat_eq lower trait) && is_trait classes lower && is_in (linear_of classes lower) trait && is_some (declared_in lower)

  -- the concrete method of a trait that no trait of a linearisation below it declares again
  abbrev pub default_of : List ℕ → ℕ → List (ℕ × ℕ)
  default_of all trait =
      if is_trait classes trait && not (list_any (declares_again trait) all) then if_concrete classes (declared_in trait) else []

  -- all of these in a linearisation
  abbrev pub defaults : List ℕ → List ℕ → List (ℕ × ℕ)
  defaults all [] = []
  defaults all (trait ∷ linear) = default_of all trait ++ defaults all linear

  -- what is selected where no such class declares the method: nothing of the program where Object has it, which stands
  -- last of the superclasses; else the one default method, if it is one
  abbrev pub otherwise : List ℕ → Option (ℕ × ℕ)
  otherwise linear = if is_built_in wanted then None else only (defaults linear linear)

  -- the selected method of the program, the first one in the class and its superclasses; None where the built-in method of
  -- Object is selected, or none is
  abbrev pub selected : ℕ → Option (ℕ × ℕ)
  selected class = option_or (inherited (linear_of classes class)) (otherwise (linear_of classes class))

-- a class selects a method
abbrev pub Selects : List Class → ℕ → Method → ℕ × ℕ → Type 0
Selects classes class wanted found = selected classes wanted class ≡ Some found

-- the method that was found is the selected one
abbrev pub is_found : ℕ × ℕ → Option (ℕ × ℕ) → Bool
is_found found None = false
is_found found (Some other) = nat_eq found.0 other.0 && nat_eq found.1 other.1

module _ (p : Program) (class : ℕ) where
  -- the class selects the method that it finds, if it finds one
  abbrev pub selects_if_found : Option (ℕ × ℕ) → Bool
  selects_if_found None = true
  selects_if_found (Some found) =
      unwrap_or (option_map (λ m. is_found found (selected p.classes m class)) (method_at p.classes found.0 found.1)) true

  -- a method is static, or the class selects what it finds by its name
  abbrev pub selects_method : Method → Bool
  selects_method m = m.is_static || selects_if_found (find p class m.name)

  -- so for each name of a method that isn't static of a class in its linearisation
  abbrev pub selects_all_of : ℕ → Bool
  selects_all_of above = unwrap_or (option_map (λ c. list_all selects_method c.methods) (slice_get p.classes above)) true

-- a class that isn't a trait selects, for each name of which `find` gives it a method, that method
abbrev pub class_selects : Program → ℕ → Class → Bool
class_selects p number class = is_trait_kind class.kind || list_all (selects_all_of p number) class.linear

-- from the lowering of traits on, each does
pub record SelectsFound (k : ℕ) (p : Program) : Type 0 where
  pub after : IsTrue (nat_le 2 k) → EachClass (λ number class. IsTrue (class_selects p number class)) p.classes
