use Rattle.std.proofs.Common.{take}
use Rattle.std.specs.List.{All}
use Rattle.cf_link.specs.Faults.{IsDescribed}
use Rattle.cf_super.proofs.descriptors.are_described.Given as goal

abbrev pub invariant-loop-constant : goal.invariant-loop-constant
invariant-loop-constant l = All (IsDescribed l.pool) (take l.constant-index l.pool)
