use Rattle.std.proofs.Common.{◌++◌, ◌<◌, ◌∙◌, arith, inl, inr, sym, true≢false}
use Rattle.runs.specs.Planned.{kept}
use Rattle.runs.proofs.Coursing.{given_absent, given_halts, given_more, given_over, given_used, joined}
use Rattle.runs.proofs.given_turns.given_turns.Goals as goal
use Rattle.runs.proofs.given_turns.given_turns.Goals.{then-turn-eq0-via-then-turn-eq0, then-turn-eq0-via-else-turn-eq0+then-turn-threads}

pub returns-then-left-eq0-clause-made : goal.returns-then-left-eq0-clause-made
returns-then-left-eq0-clause-made g c =
    let was = c.loop-index.invariant in (was.1.0, was.1.1, given_over _ _ _ _ _ _ _ _ was.1.2 (inl c.if-left-eq0.true))

pub returns-in-None-clause-made : goal.returns-in-None-clause-made
returns-in-None-clause-made g c =
    let was = c.loop-index.invariant in (was.1.0, was.1.1, given_over _ _ _ _ _ _ _ _ was.1.2 (inr (rw was.0 at c.in-None.ensures)))

pub returns-then-turn-eq0-clause-made : goal.returns-then-turn-eq0-clause-made
returns-then-turn-eq0-clause-made g c =
    let was = c.loop-index.invariant in
    let some : 0 < c.loop-index.left = omega (arith, c.if-left-eq0.false) in (
      was.1.0,
      was.1.1,
      given_absent _ _ _ _ _ _ _ _ was.1.2 _ c.loop-index-test.true _ some (rw was.0 at c.in-Some.ensures) (elim c.then-turn-eq0.branch [
        | then-turn-eq0-via-then-turn-eq0 w ↦ inl w.if-turn-eq0.true
        | then-turn-eq0-via-else-turn-eq0+then-turn-threads w ↦ inr (rw (w.threads.ensures.count, was.0) at w.if-turn-threads.true)
      ]),
    )

pub returns-then-taken-clause-made : goal.returns-then-taken-clause-made
returns-then-taken-clause-made g c =
    let was = c.loop-index.invariant in
    let some : 0 < c.loop-index.left = omega (arith, c.if-left-eq0.false) in (
      was.1.0 ++ kept _ c.in_ok-taken.taken.made,
      joined _ c.loop-index.schedule _ was.1.0 _ was.1.1 c.in_ok-taken.ensures.schedule,
      given_halts _ _ _ _ _ _ _ _ was.1.2 _ c.loop-index-test.true _ some (rw was.0 at c.in-Some.ensures) _ (rw was.0 at c.threads.ensures.count) c.if-turn-eq0.false (omega (arith, c.if-turn-threads.false)) _ _ (rw was.0 at c.in_ok-taken.ensures.cut) (rw was.0 at c.in_ok-taken.ensures.halted.0 c.if-taken.true),
    )

pub loop-index-preserved : goal.loop-index-preserved
loop-index-preserved g c =
    let was = c.loop-index.invariant in
    let some : 0 < c.loop-index.left = omega (arith, c.if-left-eq0.false) in
    let halted = rw was.0 at c.in_ok-taken.ensures.halted in (
      c.in_ok-taken.ensures.system ∙ was.0,
      (
        was.1.0 ++ kept _ c.in_ok-taken.taken.made,
        joined _ c.loop-index.schedule _ was.1.0 _ was.1.1 c.in_ok-taken.ensures.schedule,
        given_more _ _ _ _ _ _ _ _ was.1.2 _ c.loop-index-test.true _ some (rw was.0 at c.in-Some.ensures) _ (rw was.0 at c.threads.ensures.count) c.if-turn-eq0.false (omega (arith, c.if-turn-threads.false)) _ _ (rw was.0 at c.in_ok-taken.ensures.cut) (λ h. absurd (true≢false (sym (halted.1 h) ∙ c.if-taken.false))),
      ),
    )

pub returns-clause-made : goal.returns-clause-made
returns-clause-made g c =
    let was = c.loop-index.invariant in (was.1.0, was.1.1, given_used _ _ _ _ _ _ _ _ was.1.2 (omega (arith, c.loop-index-test.false)))
