use Rattle.std.proofs.Common.{drop}
use Rattle.std.specs.Prelude.{◌↔◌}
use Rattle.ty_typed.specs.Parts.{Begins}
use Rattle.ty_typed.proofs.bodies.begins.Given as goal

abbrev pub invariant-loop-ty : goal.invariant-loop-ty
invariant-loop-ty l = Begins (drop l.ty-index l.given) l.rest ↔ Begins l.given l.locals
