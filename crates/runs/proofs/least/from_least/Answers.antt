use Rattle.std.proofs.Common.{◌≡◌, ◌≤◌, ◌⊎◌, sym, arith, inl, inr}
use Rattle.runs.proofs.Leasts.{along_none, along_more, never_ends, least_from, circuit_from}
use Rattle.runs.proofs.least.from_least.Goals as goal
use Rattle.runs.proofs.least.from_least.Goals.{then-thread-least, else-thread-least, in-Some, in_default}

pub loop-step-init : goal.loop-step-init
loop-step-init c = along_none _ _ _ c.requires

pub loop-step-preserved : goal.loop-step-preserved
loop-step-preserved c =
    let least : (c.if-thread-least.least ≤ c.loop-step.least) × (c.if-thread-least.least ≤ c.loop-step.thread) × ((c.if-thread-least.least ≡ c.loop-step.least) ⊎ (c.if-thread-least.least ≡ c.loop-step.thread)) = elim c.if-thread-least.branch [
      | then-thread-least w ↦ (omega arith, omega arith, inr w.least-is)
      | else-thread-least w ↦ (omega arith, omega arith, inl w.least-is)
    ] in
    elim c.match-awaited_by.branch [
      | in-Some w ↦ rw w.thread-is (along_more _ _ _ c.requires _ _ _ _ _ c.loop-step-test.true c.loop-step.invariant (sym w.in-Some.ensures) least.0 least.1 least.2)
      | in_default w ↦ never_ends _ _ _ c.requires _ _ c.loop-step-test.true c.loop-step.invariant.come (sym w.in_default.ensures)
    ]

pub returns-clause-circuit : goal.returns-clause-circuit
returns-clause-circuit c = circuit_from _ _ _ c.requires _ _ _ c.loop-step.invariant

pub returns-clause-least : goal.returns-clause-least
returns-clause-least c = least_from _ _ _ c.requires _ _ _ c.loop-step-test.false (omega arith) c.loop-step.invariant
