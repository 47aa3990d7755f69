use Rattle.std.proofs.Common.{◌≡◌, ◌++◌, ◌∙◌, arith, inl, inr, sym, true≢false}
use Rattle.runs.specs.Planned.{kept}
use Rattle.runs.proofs.Coursing.{course_over, joined, round_halts, round_more, round_some}
use Rattle.runs.proofs.rounds.rounds.Goals as goal

pub loop-left-smaller : goal.loop-left-smaller
loop-left-smaller g c =
    let was = c.loop-left.invariant in
    let halted = rw was.0 at c.in_ok-taken.ensures.halted in
    let cut = rw was.0 at c.in_ok-taken.ensures.cut in
    let made = round_some _ _ _ _ _ _ _ _ _ _ _ was.1.2 (rw was.0 at c.next_after.ensures.others) (rw was.0 at c.in-Some.ensures.next) cut c.loop-left-test.true c.requires
    (λ h. absurd (true≢false (sym (halted.1 h) ∙ c.if-taken.false))) in
    omega (arith, made, cut.within)

pub loop-left-preserved : goal.loop-left-preserved
loop-left-preserved g c =
    let was = c.loop-left.invariant in
    let halted = rw was.0 at c.in_ok-taken.ensures.halted in (
      c.in_ok-taken.ensures.system ∙ was.0,
      (
        was.1.0 ++ kept _ c.in_ok-taken.taken.made,
        joined _ c.loop-left.schedule _ was.1.0 _ was.1.1 c.in_ok-taken.ensures.schedule,
        round_more _ _ _ _ _ _ _ _ _ _ _ was.1.2 (rw was.0 at c.next_after.ensures.others) (rw was.0 at c.in-Some.ensures.next) (rw was.0 at c.in_ok-taken.ensures.cut) c.loop-left-test.true c.requires
            (λ h. absurd (true≢false (sym (halted.1 h) ∙ c.if-taken.false))),
      ),
    )

pub returns-in_default-clause-rounds : goal.returns-in_default-clause-rounds
returns-in_default-clause-rounds g c =
    let was = c.loop-left.invariant in (was.1.0, was.1.1, course_over _ _ _ _ _ _ _ _ was.1.2 (inr (rw was.0 at c.in_default.ensures.next)))

pub returns-then-taken-clause-rounds : goal.returns-then-taken-clause-rounds
returns-then-taken-clause-rounds g c =
    let was = c.loop-left.invariant in
    let halted = rw was.0 at c.in_ok-taken.ensures.halted in (
      was.1.0 ++ kept _ c.in_ok-taken.taken.made,
      joined _ c.loop-left.schedule _ was.1.0 _ was.1.1 c.in_ok-taken.ensures.schedule,
      round_halts _ _ _ _ _ _ _ _ _ _ _ was.1.2 (rw was.0 at c.next_after.ensures.others) (rw was.0 at c.in-Some.ensures.next) (rw was.0 at c.in_ok-taken.ensures.cut) c.loop-left-test.true c.requires
          (halted.0 c.if-taken.true),
    )

pub returns-clause-rounds : goal.returns-clause-rounds
returns-clause-rounds g c =
    let was = c.loop-left.invariant in
    (was.1.0, was.1.1, course_over _ _ _ _ _ _ _ _ was.1.2 (inl (let none : c.loop-left.left ≡ 0 = omega (arith, c.loop-left-test.false) in none)))
