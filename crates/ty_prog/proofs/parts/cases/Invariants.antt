use Rattle.std.proofs.Common.{◌≡◌, ◌++◌, ◌-◌, map, take, drop}
use Rattle.ty_prog.specs.Part.{in_order}
use Rattle.ty_prog.specs.Rebuilt.{as_case}
use Rattle.ty_prog.proofs.parts.cases.Given as goal

abbrev pub invariant-loop : goal.invariant-loop
invariant-loop l = record {
  taken : l.made ++ map as_case (take (l.count - l.counter) (in_order l.left)) ≡ map as_case (take l.count (in_order l.initial.left));
  rest : drop (l.count - l.counter) (in_order l.left) ≡ drop l.count (in_order l.initial.left);
}
