use Rattle.std.proofs.Common.{length}
use Rattle.std.specs.Prelude.{◌↔◌}
use Rattle.ty_typed.specs.Bodies.{ClassesTyped}
use Rattle.ty_typed.proofs.is_typed_with.Given as goal

abbrev pub invariant-loop-class : goal.invariant-loop-class
invariant-loop-class l = ClassesTyped l.p l.number l.classes l.rest ↔ ClassesTyped l.p 0 l.p.classes l.locals

abbrev pub decreases-loop-class : goal.decreases-loop-class
decreases-loop-class l = length l.classes
