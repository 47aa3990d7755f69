use Rattle.std.proofs.Common.{◌≡◌, take, drop}
use Rattle.cf_instr.specs.Raws.{AreSettled}
use Rattle.cf_instr.proofs.settling.settle.Given as goal

abbrev pub invariant-loop-n : goal.invariant-loop-n
invariant-loop-n l = record {
  settled : AreSettled l.fn.raws l.n (take l.n l.raws);
  others : drop l.n l.raws ≡ drop l.n l.fn.raws;
}
