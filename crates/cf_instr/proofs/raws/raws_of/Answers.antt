use Rattle.std.proofs.Common.{◌-◌, length, refl}
use Rattle.cf_instr.proofs.Sizes.{raws_more, shorter}
use Rattle.cf_instr.proofs.raws.raws_of.Goals as goal

pub loop-rest-smaller : goal.loop-rest-smaller
loop-rest-smaller c = shorter c.loop-rest.rest.now c.in-Ok-front_of.behind.now c.in-Ok-front_of.raw c.in-Ok-front_of.ensures.0 c.in-Ok-front_of.ensures.1

pub loop-rest-preserved : goal.loop-rest-preserved
loop-rest-preserved c =
    rw (c.in-Ok-keep.ensures.raws, c.in-Ok-keep.ensures.starts)
    (raws_more c.args.bytes.now c.loop-rest.raws.items c.loop-rest.starts.items c.loop-rest.rest.now c.in-Ok-front_of.raw c.in-Ok-front_of.behind.now (length c.args.bytes.now - length c.loop-rest.rest.now) c.loop-rest.invariant c.in-Ok-front_of.ensures.0 c.in-Ok-front_of.ensures.1 refl)
