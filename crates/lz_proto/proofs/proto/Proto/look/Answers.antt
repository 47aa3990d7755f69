use Rattle.std.proofs.Common.{refl}
use Rattle.lz_proto.proofs.Acting.{look_keeps}
use Rattle.lz_proto.specs.declared.act.Act.TheVariants.{Go}
use Rattle.lz_proto.specs.Steps.{next}
use Rattle.lz_proto.proofs.Own.{whole}
use Rattle.std.proofs.Common.{ap}
use Rattle.lz_proto.proofs.proto.Proto.look.Goals as goal

pub stand-requires-clause-kept : goal.stand-requires-clause-kept
stand-requires-clause-kept c =
    rw (c.looked-next.ensures, c.cell.ensures) (whole c.args.self.now _ c.requires.kept c.args.who c.requires.there Go (ap (next c.args.self.now c.args.who) c.requires.at) (look_keeps c.args.self.now c.requires.kept.0 c.requires.kept.1 c.args.who c.requires.there c.args.cell c.requires.at _ refl _ refl))
