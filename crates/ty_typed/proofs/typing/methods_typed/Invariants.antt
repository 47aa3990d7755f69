use Rattle.std.proofs.Common.{length}
use Rattle.std.specs.Prelude.{◌↔◌}
use Rattle.ty_typed.specs.Bodies.{AllBoth, MethodTyped}
use Rattle.ty_typed.proofs.typing.methods_typed.Given as goal

abbrev pub invariant-loop-method : goal.invariant-loop-method
invariant-loop-method l = AllBoth (MethodTyped l.p l.class) l.methods l.rest ↔ AllBoth (MethodTyped l.p l.class) l.fn.methods l.locals

abbrev pub decreases-loop-method : goal.decreases-loop-method
decreases-loop-method l = length l.methods
