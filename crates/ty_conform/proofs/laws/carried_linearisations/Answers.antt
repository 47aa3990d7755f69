use Rattle.ty_conform.proofs.CarriedLists.{carried_closed, carried_one_way}
use Rattle.ty_conform.proofs.laws.carried_linearisations.Goals as goal

pub returns : goal.returns
returns c = record {
  closed = carried_closed c.linearisations.ensures.members;
  one_way = carried_one_way c.linearisations.ensures.members c.linearisations.ensures.acyclic;
}
