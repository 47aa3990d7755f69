use Rattle.ty_prog.proofs.Members.{own_first, inherited, find_first, find_concrete, find_none, behind_first}
use Rattle.ty_prog.proofs.laws.inheriting.Goals as goal

pub returns : goal.returns
returns c = record {
  own = own_first;
  inherited = inherited;
  first = find_first;
  concrete = find_concrete;
  none = find_none;
  behind = behind_first;
}
