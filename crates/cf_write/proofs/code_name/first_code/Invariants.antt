use Rattle.std.proofs.Common.{◌≡◌, ◌+◌, drop}
use Rattle.cf_write.specs.Spelling.{first_code_from}
use Rattle.cf_write.proofs.code_name.first_code.Given as goal

abbrev pub invariant-loop-constant : goal.invariant-loop-constant
invariant-loop-constant l =
    (l.at ≡ l.constant-index + 1) × (first_code_from l.at (drop l.constant-index l.pool) ≡ first_code_from 1 l.pool)
