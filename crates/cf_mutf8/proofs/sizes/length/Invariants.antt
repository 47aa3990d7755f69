use Rattle.std.proofs.Common.{◌≡◌, take}
use Rattle.std.specs.List.{sum_by}
use Rattle.cf_mutf8.specs.Share.{share}
use Rattle.cf_mutf8.proofs.sizes.length.Given as goal

abbrev pub invariant-loop-byte : goal.invariant-loop-byte
invariant-loop-byte l = l.count ≡ sum_by share (take l.byte-index l.byte-items)
