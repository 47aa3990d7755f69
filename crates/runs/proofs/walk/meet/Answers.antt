use Rattle.std.proofs.Common.{◌+◌, sym, arith, length-set}
use Rattle.runs.proofs.Walkways.{dead, left_table, came_to_old, came_round, walks_on, zeros_fall}
use Rattle.runs.proofs.walk.meet.Goals as goal

pub returns-in_default : goal.returns-in_default
returns-in_default c =
    let ends = dead _ _ _ _ _ _ _ c.steps.invariant (sym c.in_default.ensures) in
    record { marked = ends.marked; start = ends.begun; kept = ends.grows; circuit = ends.on }

pub returns-then-thread-marks : goal.returns-then-thread-marks
returns-then-thread-marks c =
    let ends = left_table _ _ _ _ _ _ _ c.steps.invariant _ (sym c.in-Some.ensures) c.if-thread-marks.true in
    record { marked = ends.marked; start = ends.begun; kept = ends.grows; circuit = ends.on }

pub returns-then-mark-before : goal.returns-then-mark-before
returns-then-mark-before c =
    let ends = came_round _ _ _ _ _ _ _ c.steps.invariant _ (sym c.in-Some.ensures) c.if-mark-before.true in
    record { marked = ends.marked; start = ends.begun; kept = ends.grows; circuit = ends.on }

pub returns-then-mark-gt0 : goal.returns-then-mark-gt0
returns-then-mark-gt0 c =
    let ends = came_to_old _ _ _ _ _ _ _ c.steps.invariant _ c.requires.marked (sym c.in-Some.ensures) c.if-mark-gt0.true c.if-mark-before.false in
    record { marked = ends.marked; start = ends.begun; kept = ends.grows; circuit = ends.on }

pub steps-smaller : goal.steps-smaller
steps-smaller c = zeros_fall _ _ _ _ _ _ _ c.steps.invariant

pub steps-preserved : goal.steps-preserved
steps-preserved c =
    walks_on _ _ _ _ _ _ _ _ c.steps.invariant (sym c.in-Some.ensures) (omega (arith, c.if-thread-marks.false, length-set c.steps.marks c.steps.thread (c.steps.met + 1))) (omega (arith, c.if-mark-gt0.false))
