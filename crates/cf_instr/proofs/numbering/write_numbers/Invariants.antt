use Rattle.std.proofs.Common.{◌≡◌, length}
use Rattle.cf_instr.specs.Raws.{AreNumbers}
use Rattle.cf_instr.proofs.numbering.write_numbers.Given as goal

abbrev pub invariant-loop-n : goal.invariant-loop-n
invariant-loop-n l = record {
  numbers : AreNumbers l.starts l.n l.numbers;
  many : length l.numbers ≡ length l.fn.numbers;
}
