-- The member of a name that an object of a class has, and the one that `super` means, as relations (SLS 5.1.2, 5.1.3, 6.5).
use Rattle.std.specs.Prelude.{◌≡◌, ℕ, List, None}
use Rattle.std.specs.List.{AllByRecursion}
use Rattle.ty_prog.specs.declared.program.Program.{Program}
use Rattle.ty_prog.specs.Find.{own, behind, IsFirst}
use Rattle.ty_conform.specs.Conforms.{linear_of}

-- the method at these numbers is the first concrete one of the name in the linearisation of the class
abbrev pub Finds : Program → ℕ → List ℕ → ℕ × ℕ → Type 0
Finds p class name found = IsFirst p.classes name (linear_of p.classes class) found

-- it is the first one behind a template there
abbrev pub SuperFinds : Program → ℕ → ℕ → List ℕ → ℕ × ℕ → Type 0
SuperFinds p class after name found = IsFirst p.classes name (behind after (linear_of p.classes class)) found

-- no class of the linearisation has a concrete method of the name
abbrev pub FindsNone : Program → ℕ → List ℕ → Type 0
FindsNone p class name = AllByRecursion (λ above. own p.classes name above ≡ None) (linear_of p.classes class)
