-- What the code's place of an expression stands for.
use Rattle.std.specs.Prelude.{ℕ, List, Option}
use Rattle.ty_prog.specs.declared.program.Program.{Program}
use Rattle.ty_prog.specs.declared.class.Class.{Class}
use Rattle.ty_prog.specs.declared.ty.Ty.{Ty}
use Rattle.ty_typed.specs.declared.scope.Scope.{Scope}

-- the classes of the program at this place
abbrev pub classes_of : Scope → List Class
classes_of scope = scope.program.now.classes

-- a definition at this place
abbrev pub within : {A : Type 0} → Scope → (Program → Option ℕ → List Ty → A) → A
within scope definition = definition scope.program.now scope.this scope.locals.now
