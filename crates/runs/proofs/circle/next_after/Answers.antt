use Rattle.std.proofs.Common.{◌+◌, ◌<◌, arith, refl}
use Rattle.std.proofs.lemmas.Nat.{mod_below}
use Rattle.runs.proofs.Circling.{passed_none, passed_on, passed_round, comes, all_rest, none_there}
use Rattle.runs.proofs.circle.next_after.Goals as goal
use Rattle.runs.proofs.circle.next_after.Goals.{then-thread-threads, else-thread-threads}

pub returns-then-threads-eq0-clause-next : goal.returns-then-threads-eq0-clause-next
returns-then-threads-eq0-clause-next g c = none_there (g.M.Standing.system c.args.machine.now) (g.M.Standing.state c.args.machine.now) _ 0 c.threads-threads.ensures.count c.if-threads-eq0.true c.threads-threads.ensures.others

pub loop-passed-init : goal.loop-passed-init
loop-passed-init g c =
    let pos : 0 < c.threads-threads.result = omega arith in
    (mod_below c.args.last c.threads-threads.result pos, passed_none _ _ _ _ _ refl)

pub loop-passed-preserved : goal.loop-passed-preserved
loop-passed-preserved g c =
    let below = c.loop-passed.invariant.0 in
    elim c.if-thread-threads.branch [
      | then-thread-threads w ↦ rw w.before-is (let pos : 0 < c.threads-threads.result = omega arith in (pos, passed_round _ _ _ _ _ _ _ c.loop-passed.invariant.1 w.if-thread-threads.true c.what_next.ensures c.in-Waits.is))
      | else-thread-threads w ↦ rw w.before-is (let lt : c.loop-passed.before + 1 < c.threads-threads.result = omega (arith, w.if-thread-threads.false) in (lt, passed_on _ _ _ _ _ _ _ c.loop-passed.invariant.1 lt c.what_next.ensures c.in-Waits.is))
    ]

pub returns-in-Moves-clause-next : goal.returns-in-Moves-clause-next
returns-in-Moves-clause-next g c =
    comes _ _ _ _ _ _ _ c.threads-threads.ensures.count c.loop-passed-test.true c.loop-passed.invariant.1 c.what_next.ensures c.in-Moves.is

pub returns-clause-next : goal.returns-clause-next
returns-clause-next g c =
    all_rest _ _ _ _ _ _ c.threads-threads.ensures.count c.loop-passed-test.false c.threads-threads.ensures.others c.loop-passed.invariant.1
