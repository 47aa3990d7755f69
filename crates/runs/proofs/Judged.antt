-- A run that stops ends in one way.
use Rattle.std.proofs.Common.{◌≡◌, ℕ, ◌-◌, ◌<◌, ◌≤◌, ◌⊎◌, List, refl, sym, subst, arith, ap, ◌∙◌, ⊎_elim, inl, inr, Option, None, Some}
use Rattle.std.proofs.lemmas.Bool.{cases_lt}
use Rattle.runs.specs.declared.turn.Turn.{Turn}
use Rattle.runs.specs.declared.ending.Ending.{Ending}
use Rattle.runs.specs.declared.ending.Ending.TheVariants.{Finished, Deadlock, Budget, Stuck, BadTurn}
use Rattle.runs.specs.System.{Next, Waits, Ended, System, start}
use Rattle.runs.specs.Planned.{Moves, IsStuck, IsBadTurn, Given, at_first}
use Rattle.runs.specs.Ends.{SomeMoves, NoneStuck, NoBadTurn, EndsByState, EndsAs, GivenEndsAs}
use Rattle.runs.proofs.Determined.{allowed_once}

module _ {Event Place S : Type 0} (s : System Event Place S) (x : S) where
  ended_stuck : (t : ℕ) → s.next x t ≡ Ended → IsStuck (s.next x t) → ⊥
  ended_stuck t e h = subst IsStuck e h

  ended_moves : (t : ℕ) → s.next x t ≡ Ended → Moves (s.next x t) → ⊥
  ended_moves t e h = subst Moves e h

  ended_waits : (n : Next S) → n ≡ Ended → n ≡ Waits → ⊥
  ended_waits n e f = let g : Waits ≡ Ended = sym f ∙ e in cc

  pub halts_once : (one other : Ending) → EndsByState s x one → EndsByState s x other → one ≡ other
  halts_once Finished Finished h k = refl
  halts_once Finished Deadlock h k = absurd (ended_waits (s.next x k.2.0) (h k.2.0) k.2.1)
  halts_once Finished (Stuck t) h k = absurd (ended_stuck t (h t) k.0)
  halts_once Deadlock Finished h k = absurd (ended_waits (s.next x h.2.0) (k h.2.0) h.2.1)
  halts_once Deadlock Deadlock h k = refl
  halts_once Deadlock (Stuck t) h k = absurd (h.0 t k.0)
  halts_once (Stuck t) Finished h k = absurd (ended_stuck t (k t) h.0)
  halts_once (Stuck t) Deadlock h k = absurd (k.0 t h.0)
  halts_once (Stuck t) (Stuck u) h k = ap (λ (n : ℕ). Stuck n) (⊎_elim
      (λ (lt : t < u). absurd (k.1 t lt h.0))
      (λ (ge : u ≤ t). ⊎_elim (λ (lt : u < t). absurd (h.1 u lt k.0)) (λ (le : t ≤ u). (let e : t ≡ u = omega arith in e)) (cases_lt u t))
      (cases_lt t u))
  halts_once Finished Budget h k = absurd k
  halts_once Finished (BadTurn i) h k = absurd k
  halts_once Deadlock Budget h k = absurd k
  halts_once Deadlock (BadTurn i) h k = absurd k
  halts_once (Stuck t) Budget h k = absurd k
  halts_once (Stuck t) (BadTurn i) h k = absurd k
  halts_once Budget other h k = absurd h
  halts_once (BadTurn i) other h k = absurd h

  pub halts_moving : (end : Ending) → EndsByState s x end → SomeMoves s x → NoneStuck s x → ⊥
  halts_moving Finished h moves none = ended_moves moves.0 (h moves.0) moves.1
  halts_moving Deadlock h moves none = h.1 moves.0 moves.1
  halts_moving (Stuck t) h moves none = none t h.0
  halts_moving Budget h moves none = h
  halts_moving (BadTurn i) h moves none = h

  -- an end that isn't for want of budget
  by_state : (left : ℕ) (end : Ending) → EndsAs s left x end → (end ≡ Budget) ⊎ EndsByState s x end
  by_state left Finished h = inr h
  by_state left Deadlock h = inr h
  by_state left (Stuck t) h = inr h
  by_state left Budget h = inl refl
  by_state left (BadTurn i) h = absurd h

  pub ends_once : (left : ℕ) (one other : Ending) → EndsAs s left x one → EndsAs s left x other → one ≡ other
  ends_once left one other h k = ⊎_elim
      (λ (e : one ≡ Budget). ⊎_elim
      (λ (f : other ≡ Budget). e ∙ sym f)
      (λ (halts : EndsByState s x other). let b = subst (EndsAs s left x) e h in absurd (halts_moving other halts b.1 b.2))
      (by_state left other k))
      (λ (halts : EndsByState s x one). ⊎_elim
      (λ (f : other ≡ Budget). let b = subst (EndsAs s left x) f k in absurd (halts_moving one halts b.1 b.2))
      (λ (others : EndsByState s x other). halts_once one other halts others)
      (by_state left other k))
      (by_state left one h)

pub bad_once : {Event Place S : Type 0} (s : System Event Place S) (turns : List Turn) (budget i j : ℕ) → IsBadTurn s turns budget i → IsBadTurn s turns budget j → i ≡ j
bad_once s turns budget i j h k =
    some_once (allowed_once s budget (at_first (Given turns)) (start s) h.0 (Some i) k.0 (Some j) h.1 k.1).1
  where
    default : Option ℕ → ℕ
    default None = 0
    default (Some n) = n

    some_once : Some i ≡ Some j → i ≡ j
    some_once e = ap default e

module _ {Event Place S : Type 0} (s : System Event Place S) (turns : List Turn) (budget moves : ℕ) (x : S) where
  -- a bad turn, or the end of the state
  abbrev BadOrEnds : Ending → Type 0
  BadOrEnds end = ((i : ℕ) × (end ≡ BadTurn i) × IsBadTurn s turns budget i) ⊎ (EndsAs s (budget - moves) x end × NoBadTurn s turns budget)

  given_as : (end : Ending) → GivenEndsAs s turns budget moves x end → BadOrEnds end
  given_as (BadTurn i) h = inl (i, refl, h)
  given_as Finished h = inr h
  given_as Deadlock h = inr h
  given_as (Stuck t) h = inr h
  given_as Budget h = inr h

  pub given_once : (one other : Ending) → GivenEndsAs s turns budget moves x one → GivenEndsAs s turns budget moves x other → one ≡ other
  given_once one other h k = go (given_as one h) (given_as other k)
    where
      go : BadOrEnds one → BadOrEnds other → one ≡ other
      go (inl a) (inl b) = a.1 ∙ (ap (λ (n : ℕ). BadTurn n) (bad_once s turns budget a.0 b.0 a.2 b.2) ∙ sym b.1)
      go (inl a) (inr b) = absurd (b.1 a.0 a.2)
      go (inr a) (inl b) = absurd (a.1 b.0 b.2)
      go (inr a) (inr b) = ends_once s x (budget - moves) one other a.0 b.0
