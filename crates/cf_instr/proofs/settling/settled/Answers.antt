use Rattle.std.proofs.Common.{arith, rules}
use Rattle.std.specs.Int.{w32}
use mir.Val.{SFits}
use Rattle.cf_instr.proofs.Targets.{settles_plain, settles_jump}
use Rattle.cf_instr.proofs.settling.settled.Goals as goal

pub returns-then-not-is_jump : goal.returns-then-not-is_jump
returns-then-not-is_jump c = settles_plain c.args.starts.now c.args.at c.args.raw (cc)

pub returns-in-Some : goal.returns-in-Some
returns-in-Some c =
    let fa : SFits w32 c.args.raw.a = search rules in
    let fb : SFits w32 c.args.raw.b = search rules in
    settles_jump c.args.starts.now c.args.at c.args.raw c.in-Some.m (cc) fa fb (omega (arith, c.in-Some.ensures.0)) c.in-Some.ensures
