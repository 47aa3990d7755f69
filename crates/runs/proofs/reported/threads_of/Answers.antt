use Rattle.std.proofs.Common.{ℕ, List, [], ◌∷◌, ◌++◌, sym, ap, arith, ◌∙◌}
use Rattle.runs.proofs.Leasts.{never_ends}
use Rattle.runs.proofs.Reporting.{cycle_starts, cycle_more, cycle_ends, cycle_came}
use Rattle.runs.proofs.reported.threads_of.Goals as goal

pub loop-step-init : goal.loop-step-init
loop-step-init c =
    ([], c.in_ok-push.ensures.ok ∙ ap (λ (xs : List ℕ). xs ++ c.args.circuit.thread ∷ []) c.new-threads.ensures, cycle_starts _ _ _ c.requires)

pub returns-in_default : goal.returns-in_default
returns-in_default c = never_ends _ _ _ c.requires _ _ c.loop-step-test.true c.loop-step.invariant.2.come (sym c.in_default.ensures)

pub returns-then-next-circuit : goal.returns-then-next-circuit
returns-then-next-circuit c =
    rw c.loop-step.invariant.1 (cycle_ends _ _ _ c.requires _ _ _ _ c.loop-step.invariant.2 (sym c.in-Some.ensures) c.if-next-circuit.true)

pub loop-step-preserved : goal.loop-step-preserved
loop-step-preserved c = (
  c.loop-step.invariant.0 ++ c.in-Some.next ∷ [],
  c.in_ok-push-2.ensures.ok ∙ ap (λ (xs : List ℕ). xs ++ c.in-Some.next ∷ []) c.loop-step.invariant.1,
  cycle_more _ _ _ c.requires _ _ _ _ c.loop-step.invariant.2 (sym c.in-Some.ensures) c.if-next-circuit.false,
)

pub returns : goal.returns
returns c = cycle_came _ _ _ c.requires _ _ _ c.loop-step-test.false (omega arith) c.loop-step.invariant.2
