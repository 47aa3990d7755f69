use Rattle.std.proofs.Common.{[], ◌∷◌, ◌++◌, ap, ◌∙◌}
use Rattle.std.proofs.lemmas.Result.{on_ok_weaker}
use Rattle.sl_top.specs.declared.code.Instruction.{Instruction}
use Rattle.sl_top.proofs.Emitted.{EmittedSoFar-start, EmittedSoFar-more, EmittedSoFar-all}
use Rattle.sl_top.proofs.compiling.put_chain.Goals as goal

pub loop-term-init : goal.loop-term-init
loop-term-init c = EmittedSoFar-start _ _ _ (c.in_ok-put.ensures ∙ ap (λ (i : Instruction). c.args.code.now.items ++ i ∷ []) c.push_of.ensures)

pub loop-term-preserved : goal.loop-term-preserved
loop-term-preserved c = EmittedSoFar-more _ _ _ _ _ _ _ _ c.loop-term-test.true c.loop-term.invariant c.in_ok-waiting.ensures.emitted c.in_ok-waiting.ensures.waits

pub returns : goal.returns
returns c =
    on_ok_weaker c.put_waiting.result
    (λ e. rw (← c.as_slice-terms.ensures) (EmittedSoFar-all _ _ _ _ _ _ c.loop-term-test.false c.loop-term.invariant e))
    c.put_waiting.ensures
