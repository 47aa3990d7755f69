use Rattle.std.proofs.Common.{◌≤◌, drop}
use Rattle.lz_proto.proofs.Midway.{Midway}
use Rattle.lz_proto.proofs.proto.Proto.run.Given as goal

abbrev pub invariant-loop-given : goal.invariant-loop-given
invariant-loop-given l =
    (Midway l.fn.self l.acts l.self (drop l.given-index l.acts) l.made) × (l.made ≤ l.given-index)
