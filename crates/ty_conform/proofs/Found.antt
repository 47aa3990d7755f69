-- The first member of a list is the one that a search gives.
use Rattle.std.proofs.Common.{◌≡◌, ℕ, List, [], ◌∷◌, ◌++◌, Option, Some, None, refl, ◌∙◌, ap}
use Rattle.std.specs.Prelude.{slice_get, option_and_then, option_map}
use Rattle.std.specs.Option.{unwrap_or}
use Rattle.std.specs.List.{AllByRecursion}
use Rattle.ty_prog.specs.declared.class.Class.{Class}
use Rattle.ty_prog.specs.declared.program.Program.{Program}
use Rattle.ty_prog.specs.Find.{own, first_in, behind, super_find, IsFirst}
use Rattle.ty_conform.specs.Conforms.{linear_of}

-- `super_find` looks through what is behind the template in the class's linearisation
pub super_linear : (p : Program) (class after : ℕ) (name : List ℕ)
    → super_find p class after name ≡ first_in p.classes name (behind after (linear_of p.classes class))
super_linear p class after name = of_class (slice_get p.classes class) where
  of_class : (o : Option Class) → option_and_then (λ c. first_in p.classes name (behind after c.linear)) o
      ≡ first_in p.classes name (behind after (unwrap_or (option_map (λ c. c.linear) o) []))
  of_class None = refl
  of_class (Some c) = refl

-- a search goes past classes that lack the member, to the one that has it
past : (classes : List Class) (name before : List ℕ) (class : ℕ) (rest : List ℕ) (found : ℕ × ℕ)
    → AllByRecursion (λ c. own classes name c ≡ None) before → own classes name class ≡ Some found
    → first_in classes name (before ++ class ∷ rest) ≡ Some found
past classes name [] class rest found lacking gives = rw gives refl
past classes name (first ∷ before) class rest found lacking gives = rw lacking.0 (past classes name before class rest found lacking.1 gives)

pub first_found : (classes : List Class) (name linear : List ℕ) (found : ℕ × ℕ) → IsFirst classes name linear found
    → first_in classes name linear ≡ Some found
first_found classes name linear found first =
    ap (first_in classes name) first.is ∙ past classes name first.before first.class first.rest found first.lacking first.gives

-- a search among classes that lack the member gives none
pub none_found : (classes : List Class) (name linear : List ℕ) → AllByRecursion (λ c. own classes name c ≡ None) linear
    → first_in classes name linear ≡ None
none_found classes name [] lacking = refl
none_found classes name (class ∷ linear) lacking = rw lacking.0 (none_found classes name linear lacking.1)
