use Rattle.std.proofs.Common.{◌≡◌, length, arith}
use Rattle.cf_instr.proofs.Targets.{settled_here, astray_here, settled_all}
use Rattle.cf_instr.proofs.settling.settle.Goals as goal

pub returns-in_default : goal.returns-in_default
returns-in_default c = astray_here c.args.raws.now c.loop-n.raws c.args.starts.now c.loop-n.n _ c.requires.starts c.loop-n-test.true c.loop-n.invariant.others c.in_default.ensures c.loop-n.invariant.settled

pub loop-n-preserved : goal.loop-n-preserved
loop-n-preserved c =
    let h = settled_here c.args.raws.now c.loop-n.raws c.args.starts.now c.loop-n.n _ c.in-Some.instr c.requires.starts c.loop-n-test.true c.loop-n.auto.raws c.loop-n.invariant.others c.in-Some.ensures c.loop-n.invariant.settled in
    record { settled = h.0; others = h.1 }

pub returns : goal.returns
returns c =
    let e : c.loop-n.n ≡ length c.args.raws.now = omega arith in
    settled_all c.args.raws.now c.loop-n.raws c.loop-n.n e c.loop-n.auto.raws c.loop-n.invariant.settled
