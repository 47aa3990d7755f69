use Rattle.std.proofs.Common.{◌≡◌, sym, arith, ◌∙◌}
use Rattle.runs.proofs.Walking.{walked_none, walked_moves, walked_waits, walked_ended, none_stuck, some_moves, none_moves, some_waits, all_ended, told_stuck, none_below}
use Rattle.runs.proofs.judging.ending_of.Goals as goal
use Rattle.runs.proofs.judging.ending_of.Goals.{in-Moves, in-Waits, in-Ended}

pub loop-before-init : goal.loop-before-init
loop-before-init g c = walked_none _ _

pub loop-before-preserved : goal.loop-before-preserved
loop-before-preserved g c = elim c.match-what_next.branch [
  | in-Moves w ↦ rw (w.moves-is, w.waits-is) (walked_moves _ _ _ _ _ c.loop-before.invariant (sym w.in-Moves.ensures))
  | in-Waits w ↦ rw (w.moves-is, w.waits-is) (walked_waits _ _ _ _ _ c.loop-before.invariant (sym w.in-Waits.ensures))
  | in-Ended w ↦ rw (w.moves-is, w.waits-is) (walked_ended _ _ _ _ _ c.loop-before.invariant (sym w.in-Ended.ensures))
]

pub returns-in-Stuck : goal.returns-in-Stuck
returns-in-Stuck g c =
    (told_stuck _ c.in-Stuck.ensures, none_below _ _ _ _ _ c.loop-before.invariant c.threads-before-end.ensures.others)

pub returns-then-moves : goal.returns-then-moves
returns-then-moves g c =
    let n : c.loop-before.before ≡ c.threads-before-end.result = omega arith in
    let is = n ∙ c.threads-before-end.ensures.count in (
      some_moves _ _ _ _ _ c.loop-before.invariant c.if-moves.true,
      none_stuck _ _ _ _ _ c.loop-before.invariant c.threads-before-end.ensures.others is,
    )

pub returns-then-waits : goal.returns-then-waits
returns-then-waits g c =
    let n : c.loop-before.before ≡ c.threads-before-end.result = omega arith in
    let is = n ∙ c.threads-before-end.ensures.count in (
      none_stuck _ _ _ _ _ c.loop-before.invariant c.threads-before-end.ensures.others is,
      none_moves _ _ _ _ _ c.loop-before.invariant c.if-moves.false c.threads-before-end.ensures.others is,
      some_waits _ _ _ _ _ c.loop-before.invariant c.if-waits.true,
    )

pub returns-else-waits : goal.returns-else-waits
returns-else-waits g c =
    let n : c.loop-before.before ≡ c.threads-before-end.result = omega arith in
    let is = n ∙ c.threads-before-end.ensures.count in
    all_ended _ _ _ _ _ c.loop-before.invariant c.if-moves.false c.if-waits.false c.threads-before-end.ensures.others is
