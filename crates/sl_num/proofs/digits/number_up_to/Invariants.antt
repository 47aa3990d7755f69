use Rattle.std.proofs.Common.{◌≡◌, ◌≤◌, drop}
use Rattle.sl_num.specs.Literal.{number}
use Rattle.sl_num.proofs.Written.{number_after}
use Rattle.sl_num.proofs.digits.number_up_to.Given as goal

abbrev pub invariant-loop-c : goal.invariant-loop-c
invariant-loop-c l = record {
  left : number_after l.base l.number (drop l.c-index l.digits) ≡ number l.base l.digits;
  within : l.number ≤ l.most;
}
