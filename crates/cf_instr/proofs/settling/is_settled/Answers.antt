use Rattle.std.proofs.Common.{◌≡◌, length, refl, sym, ◌∙◌, arith}
use Rattle.cf_instr.proofs.Targets.{plain_here, settled_all}
use Rattle.cf_instr.proofs.settling.is_settled.Goals as goal

pub loop-raw-preserved : goal.loop-raw-preserved
loop-raw-preserved c =
    plain_here c.args.raws.now c.args.starts.now c.loop-raw.raw-index _ c.requires c.loop-raw-test.true (sym c.is_jump.ensures ∙ c.if-is_jump.false) c.loop-raw.invariant

pub returns : goal.returns
returns c =
    let e : c.loop-raw.raw-index ≡ length c.args.raws.now = omega arith in
    λ _. settled_all c.args.raws.now c.args.raws.now c.loop-raw.raw-index e refl c.loop-raw.invariant
