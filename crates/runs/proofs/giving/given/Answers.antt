use Rattle.std.proofs.Common.{refl}
use Rattle.runs.specs.Planned.{Given}
use Rattle.runs.proofs.Coursing.{course_joins, ends_later, given_ends, joined, run_planned, run_state}
use Rattle.runs.proofs.giving.given.Goals as goal

pub returns-in_ok-ending-in-Used-clause-state : goal.returns-in_ok-ending-in-Used-clause-state
returns-in_ok-ending-in-Used-clause-state g c =
    let made = rw c.in-Used.is at c.in_ok-left.ensures.made in
    let went = rw c.in_ok-left.ensures.system at c.in_ok-ending-in-Used.ensures.rounds in
    run_state _ _ _ _ _ _ _ _ c.requires c.new-schedule.ensures (joined _ c.given_turns.new.schedule _ _ _ made.1 went.1) _ (course_joins _ _ _ _ _ _ _ _ made.2 _ _ _ went.2)

pub returns-in_ok-ending-in-Used-clause-planned : goal.returns-in_ok-ending-in-Used-clause-planned
returns-in_ok-ending-in-Used-clause-planned g c =
    let made = rw c.in-Used.is at c.in_ok-left.ensures.made in
    let went = rw c.in_ok-left.ensures.system at c.in_ok-ending-in-Used.ensures.rounds in
    run_planned _ _ _ _ _ _ _ _ c.requires c.new-schedule.ensures (joined _ c.given_turns.new.schedule _ _ _ made.1 went.1) (Given c.args.turns.now) (course_joins _ _ _ _ _ _ _ _ made.2 _ _ _ went.2)

pub returns-in_ok-ending-in-Used-clause-ending : goal.returns-in_ok-ending-in-Used-clause-ending
returns-in_ok-ending-in-Used-clause-ending g c =
    let made = rw c.in-Used.is at c.in_ok-left.ensures.made in
    let went = rw c.in_ok-left.ensures.system at c.in_ok-ending-in-Used.ensures.rounds in
    given_ends _ _ _ _ _ _ _ _ _ c.requires c.new-schedule.ensures (joined _ c.given_turns.new.schedule _ _ _ made.1 went.1) (course_joins _ _ _ _ _ _ _ _ made.2 _ _ _ went.2) (ends_later _ _ _ _ _ _ _ _ made.2 _ _ _ went.3)

pub returns-in-Stopped-clause-ending : goal.returns-in-Stopped-clause-ending
returns-in-Stopped-clause-ending g c =
    let made = rw c.in-Stopped.is at c.in_ok-left.ensures.made in
    let ends = rw c.in_ok-left.ensures.system at c.ended-ending.ensures in
    given_ends _ _ _ _ _ _ _ _ _ c.requires c.new-schedule.ensures made.1 made.2 (ends _ (made.2.stops refl))

pub returns-in-Ok-clause-planned : goal.returns-in-Ok-clause-planned
returns-in-Ok-clause-planned g c =
    let made = rw c.in-BadTurn.is at c.in_ok-left.ensures.made in
    run_planned _ _ _ _ _ _ _ _ c.requires c.new-schedule.ensures made.1 (Given c.args.turns.now) made.2
