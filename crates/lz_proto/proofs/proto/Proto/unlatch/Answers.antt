use Rattle.lz_proto.proofs.Latches.{opens_keep}
use Rattle.lz_proto.proofs.Acting.{ended_keeps}
use Rattle.lz_proto.proofs.Own.{opens_kept}
use Rattle.lz_proto.proofs.Standing.{ended_unfound}
use Rattle.lz_proto.specs.Steps.{ended}
use Rattle.lz_proto.proofs.proto.Proto.unlatch.Goals as goal

pub open-requires-clause-kept : goal.open-requires-clause-kept
open-requires-clause-kept c =
    rw c.end_of.ensures (opens_kept c.args.self.now c.requires.kept c.args.who c.requires.there (ended c.args.ended_with) (ended_unfound c.args.ended_with) c.args.latch (_, opens_keep c.args.self.now c.requires.kept.0 c.requires.kept.1 c.args.who c.requires.there c.args.latch c.args.ended_with c.requires.at (λ cells n stage. ended_keeps c.args.ended_with cells n stage c.args.who)))
