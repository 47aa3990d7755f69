use Rattle.std.proofs.Common.{◌≤◌, length, arith}
use Rattle.runs.proofs.Leasts.{search_starts, search_past, search_none, search_found, search_ends}
use Rattle.runs.proofs.least.search.Goals as goal
use Rattle.runs.proofs.least.search.Goals.{in-Some, in_default}

pub loop-start-init : goal.loop-start-init
loop-start-init c = search_starts _ _ c.requires

pub loop-start-preserved-then-marks-start-gt0 : goal.loop-start-preserved-then-marks-start-gt0
loop-start-preserved-then-marks-start-gt0 c = search_past _ _ _ _ _ c.loop-start.invariant c.if-marks-start-gt0.true

pub loop-start-preserved : goal.loop-start-preserved
loop-start-preserved c =
    let met = c.meet-walk.ensures in
    elim c.match-walk.branch [
      | in-Some w ↦ rw w.least-is (search_found _ _ _ _ _ _ _ _ _ _ c.loop-start.invariant met.marked met.start met.kept (rw w.in-Some.is at met.circuit) w.from_least.ensures.circuit w.from_least.ensures.least w.lesser.ensures)
      | in_default w ↦ rw w.least-is (search_none _ _ _ _ _ _ _ c.loop-start.invariant met.marked met.start met.kept (rw w.in_default.is at met.circuit))
    ]

pub returns : goal.returns
returns c =
    let all : length c.loop-start.marks ≤ c.loop-start.start = omega (arith, c.loop-start-test.false) in
    search_ends _ _ _ _ all _ c.loop-start.invariant
