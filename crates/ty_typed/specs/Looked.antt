-- The types of the value that a pattern looks at.
use Rattle.std.specs.Prelude.{ℕ, List, [], ◌∷◌, Option, map}
use Rattle.ty_prog.specs.declared.program.Program.{Program}
use Rattle.ty_prog.specs.declared.pattern.Pattern.{Pattern}
use Rattle.ty_prog.specs.declared.ty.Ty.{Ty}
use Rattle.ty_typed.specs.declared.looking.Looked.{Looked}
use Rattle.ty_typed.specs.declared.looking.Looked.TheVariants as looked
use Rattle.ty_typed.specs.Types.{Asks, types_of, asks}

module _ (p : Program) (this : Option ℕ) (locals : List Ty) where
  -- those of an expression, or one type
  abbrev pub looked_types : Looked → List Ty
  looked_types (looked.At e) = types_of p this locals e.now
  looked_types (looked.Is type) = type ∷ []

  -- what each of several patterns asks
  abbrev pub asks_of_each : List Pattern → List Asks
  asks_of_each parts = map (asks p this locals) parts
