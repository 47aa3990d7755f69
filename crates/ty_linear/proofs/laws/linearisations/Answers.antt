use Rattle.ty_linear.proofs.Members.{apart}
use Rattle.ty_linear.proofs.Merges.{linear_first, linear_distinct, linear_members, linear_only, linear_acyclic}
use Rattle.ty_linear.proofs.Exists.{linear_exists}
use Rattle.ty_linear.proofs.laws.linearisations.Goals as goal

pub returns : goal.returns
returns c = record {
  first = linear_first;
  distinct = λ parents class list h. apart list (linear_distinct parents class list h);
  members = linear_members;
  only = linear_only;
  acyclic = linear_acyclic;
  exists = linear_exists;
}
