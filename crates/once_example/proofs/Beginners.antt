-- A refinement that no simulation shows in which the thread that begins makes no move.
use Rattle.std.proofs.Common.{◌≡◌, ℕ, zero, suc, Bool, true, false, ◌∙◌, sym, ap, subst, refl, inl, inr, ◌⊎◌, ⊎_elim, arith, true≢false}
use Rattle.runs.specs.System.{Next, Goes, Waits, Ended, Stuck, System}
use Rattle.runs.specs.Refines.{Agree, Refines}
use Rattle.runs.specs.Matches.{ThreadMatches}
use Rattle.runs.specs.Simulates.{AreReached, Comes, Pairs, Simulates}
use Rattle.runs.proofs.Agreeing.{goes_on, waits_on}
use Rattle.runs.proofs.Matched.{matches_refine}
use Rattle.runs.proofs.Reaching.{reached_first, reached_goes}
use Rattle.runs.proofs.Simulated.{answer_reached}
use Rattle.once_example.specs.Beginner.{low_next, many, up_next, with_next}
use Rattle.once_example.proofs.Once.{next_unlike}

abbrev low : System (Unit {0}) (Unit {0}) ℕ
low = with_next low_next

abbrev up : System (Unit {0}) (Unit {0}) ℕ
up = with_next up_next

abbrev target : Next ℕ → ℕ
target (Goes x) = x
target Waits = 0
target Ended = 0
target Stuck = 0

-- moves of thread 1 lead from 0 to 0 or 1 alone
reaches : (n i y : ℕ) → Comes up 1 n i 0 y → (y ≡ 0) ⊎ (y ≡ 1)
reaches zero i y h = inl (sym h.0)
reaches (suc n) i y h = inr (after n h.2 h.0 y (sym (ap target h.1)) h.4)
  where
    after : (n j z y : ℕ) → z ≡ 1 → Comes up 1 n j z y → y ≡ 1
    after zero j z y e h = sym h.0 ∙ e
    after (suc n) j z y e h = absurd (goes_on (sym (sym (ap (λ z. up_next z 1) e) ∙ h.1)))

-- neither agrees with the lower state
apart : (x y : ℕ) → x ≡ 1 → (y ≡ 0) ⊎ (y ≡ 1) → Agree low up x y → ⊥
apart x y e (inl z) h = let same : many 1 ≡ many 0 = sym (ap many e) ∙ h.threads ∙ ap many z in absurd (omega (arith, same))
apart x y e (inr o) h =
    let waits : low_next x 2 ≡ Waits = ap (λ x. low_next x 2) e in
    ⊎_elim (λ w. next_unlike (Goes 2) Waits (omega arith) (sym (ap (λ y. up_next y 2) o) ∙ w)) (λ f. true≢false (sym f.1.2)) (h.waits 2 waits)

pub no_other : {W : Type 0} (pairs : Pairs ℕ ℕ W) (there : ℕ → ℕ → Bool) (c : ℕ) (sim : Simulates low up pairs there c) → ((w : W) (reached : AreReached low up pairs w) (t x : ℕ) (goes : low_next (pairs.low w) t ≡ Goes x) → (sim.step w reached t x goes).answer.makes ≡ 0) → ⊥
no_other pairs there c sim none =
    let reached : AreReached low up pairs sim.first = (rw sim.first_low (reached_first low), rw sim.first_up (reached_first up)) in
    let goes : low_next (pairs.low sim.first) 1 ≡ Goes 1 = ap (λ x. low_next x 1) sim.first_low in
    let step = sim.step sim.first reached 1 1 goes in
    let a = step.answer in
    let there_at : a.between ≡ pairs.up step.next = (subst (λ n. Comes up a.starts n 0 a.between (pairs.up step.next)) (none sim.first reached 1 1 goes) a.up_starts).0 in
    let from : Comes up 1 a.moves a.inits 0 (pairs.up step.next) = subst (λ y. Comes up 1 a.moves a.inits 0 y) there_at (subst (λ y. Comes up 1 a.moves a.inits y a.between) sim.first_up a.up) in
    let now : AreReached low up pairs step.next = (rw step.low (reached_goes low _ 1 1 goes reached.0), answer_reached up _ c 1 _ _ a reached.1) in
    apart _ _ step.low (reaches a.moves a.inits _ from) (sim.agree step.next now)

-- the pairs: before, and where both wait
data Both : Type 0 where
  Before : Both
  After : Both

abbrev at_low : Both → ℕ
at_low Before = 0
at_low After = 1

abbrev at_up : Both → ℕ
at_up Before = 0
at_up After = 2

abbrev both : Pairs ℕ ℕ Both
both = record { low = at_low; up = at_up; rank = λ w t. 0 }

abbrev is_there : ℕ → ℕ → Bool
is_there x zero = false
is_there x (suc zero) = true
is_there zero (suc (suc u)) = false
is_there (suc x) (suc (suc zero)) = true
is_there (suc x) (suc (suc (suc u))) = false

thread : (w : Both) (t : ℕ) → ThreadMatches low up both is_there 1 w t (low_next (at_low w) t)
thread Before zero = refl
thread Before (suc zero) = record {
  next = After;
  low = refl;
  answer = record {
    moves = 1;
    few = omega arith;
    inits = 0;
    between = 1;
    up = (1, refl, 0, refl, (refl, refl));
    starts = 2;
    makes = 1;
    makes_few = omega arith;
    up_starts = (2, refl, 0, refl, (refl, refl));
    new = inr (refl, refl);
  };
  no_more_inits = omega arith;
  silent = λ z. absurd (omega arith);
  others = λ z u ne is. omega arith;
}
thread Before (suc (suc t)) = refl
thread After zero = refl
thread After (suc zero) = refl
thread After (suc (suc zero)) = record {
  unfinished = waits_on;
  waits = inl refl;
  freed = λ f. absurd (true≢false (sym f.1.2));
  place = λ all. refl;
  blocks = λ all u. refl;
}
thread After (suc (suc (suc t))) = refl

threads_same : (w : Both) → many (at_low w) ≡ many (at_up w)
threads_same Before = refl
threads_same After = refl

trace_same : (w : Both) → low.trace (at_low w) ≡ up.trace (at_up w)
trace_same w = refl

-- thread 1 alone moves, and once
moves_once : (w : Both) (t x : ℕ) → low_next (at_low w) t ≡ Goes x → (w ≡ Before) × (t ≡ 1) × (x ≡ 1)
moves_once Before zero x e = absurd (goes_on (sym e))
moves_once Before (suc zero) x e = (refl, refl, sym (ap target e))
moves_once Before (suc (suc t)) x e = absurd (goes_on (sym e))
moves_once After zero x e = absurd (goes_on (sym e))
moves_once After (suc zero) x e = absurd (goes_on (sym e))
moves_once After (suc (suc zero)) x e = absurd (next_unlike (Goes x) Waits (omega arith) (sym e))
moves_once After (suc (suc (suc t))) x e = absurd (goes_on (sym e))

stays : (u : ℕ) → is_there 0 u ≡ true → is_there 1 u ≡ true
stays zero e = e
stays (suc zero) e = refl
stays (suc (suc u)) e = absurd (true≢false (sym e))

pub refines : Refines low up 2
refines = matches_refine low up both is_there 1 (record {
  first = Before;
  first_low = refl;
  first_up = refl;
  small = λ w t. omega arith;
  trace = λ w reached. trace_same w;
  threads = λ w reached. threads_same w;
  thread = λ w reached t. thread w t;
  moves_there = λ w t x goes. let m = moves_once w t x goes in rw (m.0, m.1) refl;
  stays_there = λ w t x goes u is. let m = moves_once w t x goes in rw m.2 (stays u (subst (λ w. is_there (at_low w) u ≡ true) m.0 is));
})
