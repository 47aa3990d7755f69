use Rattle.std.proofs.Common.{ℕ, ◌<◌, length, slice_index_or}
use Rattle.lz_proto.specs.declared.act.Act.{Act}
use Rattle.lz_proto.proofs.tests.are_there.Given as goal

abbrev pub invariant-loop-given : goal.invariant-loop-given
invariant-loop-given l =
    (k : ℕ) (d : ℕ × Act) → k < l.given-index → (slice_index_or l.acts k d).0 < length l.p.at
