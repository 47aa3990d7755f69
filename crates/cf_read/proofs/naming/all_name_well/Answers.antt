use Rattle.std.proofs.Common.{refl}
use Rattle.cf_form.specs.ClassFiles.{NamesWell}
use Rattle.cf_read.proofs.Needing.{all_more, all_done, all_at}
use Rattle.cf_read.proofs.naming.all_name_well.Goals as goal

pub returns-then-not-names_well : goal.returns-then-not-names_well
returns-then-not-names_well c =
    (λ e. absurd cc, λ all. let t = c.names_well.ensures.1 (all_at (NamesWell c.args.pool.now) c.args.instrs.now c.loop-instr.instr-index _ c.loop-instr-test.true all) in let u = c.if-not-names_well.true in cc)

pub loop-instr-preserved : goal.loop-instr-preserved
loop-instr-preserved c =
    all_more (NamesWell c.args.pool.now) c.args.instrs.now c.loop-instr.instr-index _ c.loop-instr-test.true c.loop-instr.invariant (c.names_well.ensures.0 c.if-not-names_well.false)

pub returns : goal.returns
returns c = (λ e. all_done (NamesWell c.args.pool.now) c.args.instrs.now c.loop-instr.instr-index c.loop-instr-test.false c.loop-instr.invariant, λ h. refl)
