use Rattle.ty_flow.specs.Settled.{ClassSettled, ConstructorSettled, CellSettled, MethodSettled}
use Rattle.ty_flow.proofs.set_first.class_is_set_first.Goals as goal

pub returns : goal.returns
unfolding ClassSettled ConstructorSettled CellSettled MethodSettled
returns c = (
  λ holds. let parts = c.parts_are_set_first.ensures.0 holds in record { constructor = parts.0; cells = parts.1; methods = parts.2 },
  λ settled. c.parts_are_set_first.ensures.1 (settled.constructor, settled.cells, settled.methods),
)
