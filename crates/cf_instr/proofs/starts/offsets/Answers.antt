use Rattle.std.proofs.Common.{arith, ap, ◌∙◌, List, ◌++◌, ◌∷◌, [], ℕ}
use Rattle.cf_instr.proofs.Sizes.{next_offset, offsets_none, offsets_more, offsets_not_falling, offsets_are}
use Rattle.cf_instr.proofs.starts.offsets.Goals as goal

pub loop-instr-init : goal.loop-instr-init
loop-instr-init c = offsets_none c.args.instrs.now c.push.new.self.items (c.in_ok-push.ensures.items ∙ ap (λ (t : List ℕ). t ++ 0 ∷ []) c.in_ok-offsets.ensures.items)

pub overflow_add-at : goal.overflow_add-at
overflow_add-at c =
    omega (arith, (next_offset c.args.instrs.now c.loop-instr.instr-index _ c.loop-instr.at c.size-at.result c.loop-instr-test.true c.loop-instr.invariant.next c.size-at.ensures).1)

pub loop-instr-preserved : goal.loop-instr-preserved
loop-instr-preserved c =
    let e = (next_offset c.args.instrs.now c.loop-instr.instr-index _ c.loop-instr.at c.size-at.result c.loop-instr-test.true c.loop-instr.invariant.next c.size-at.ensures).0 in
    rw c.in_ok-push-2.ensures.items (offsets_more c.args.instrs.now c.loop-instr.instr-index c.loop-instr.at _ c.loop-instr.offsets.items c.loop-instr.invariant e)

pub returns-clause-not_falling : goal.returns-clause-not_falling
returns-clause-not_falling c = offsets_not_falling c.args.instrs.now _ _ _ c.loop-instr.invariant

pub returns-clause-offsets : goal.returns-clause-offsets
returns-clause-offsets c = offsets_are c.args.instrs.now _ _ _ (omega arith) (omega arith) c.loop-instr.invariant
