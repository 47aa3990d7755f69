-- What shows that two states agree, and what follows from it.
use Rattle.std.proofs.Common.{◌≡◌, ◌≢◌, ℕ, List, [], ◌∷◌, ◌↔◌, ◌∙◌, sym, subst, refl, inl, ⊎_elim}
use Rattle.runs.specs.System.{Next, Goes, Waits, Ended, Stuck, System}
use Rattle.runs.specs.Refines.{Agree}
use Rattle.runs.specs.Waiting.{AllWait, Chain, For, IsCycle, IsLeastCycle, LeastCycle}
use Rattle.runs.specs.Simulates.{AgreePlainly, ThreadAgrees, WaitAgrees}

abbrev IsGoes : {S : Type 0} → Next S → Type 0
IsGoes (Goes x) = Unit {0}
IsGoes Waits = ⊥
IsGoes Ended = ⊥
IsGoes Stuck = ⊥

abbrev IsWaits : {S : Type 0} → Next S → Type 0
IsWaits (Goes x) = ⊥
IsWaits Waits = Unit {0}
IsWaits Ended = ⊥
IsWaits Stuck = ⊥

-- a thread that goes on hasn't ended, nor has one that waits
pub goes_on : {S : Type 0} {x : S} → Goes x ≢ Ended
goes_on e = subst IsGoes e tt

pub waits_on : {S : Type 0} → ◌≢◌ {A = Next S} Waits Ended
waits_on e = subst IsWaits e tt

pub waits_not_ended : {S : Type 0} (n : Next S) → n ≡ Waits → n ≢ Ended
waits_not_ended n w e = waits_on (sym w ∙ e)

-- the shorter form
pub agree_plainly : {Event Place A B : Type 0} (lower : System Event Place A) (upper : System Event Place B) (x : A) (y : B) → AgreePlainly lower upper x y → Agree lower upper x y
agree_plainly {Place = Place} lower upper x y h = record {
  trace = h.trace;
  threads = h.threads;
  ended = h.ended;
  waits = λ t w. inl (h.waits t w);
  freed = λ t w f. (f.0, (h.frees t w f.0).1 f.1);
  cycles = cycles;
  never_stuck = h.never_stuck;
}
  where
    cycles : AllWait lower x → (t u : ℕ) (place : Place) → For lower x t u place ↔ For upper y t u place
    cycles all t u place = (
      (λ f. (h.awaited all t f.0 u place).0 f),
      (λ f. let w = all t (λ e. waits_not_ended (upper.next y t) f.0 ((h.ended t).0 e)) in (h.awaited all t w u place).1 f),
    )

module _ {Event Place A B : Type 0} (lower : System Event Place A) (upper : System Event Place B) (x : A) (y : B) where
  thread_ended : (t : ℕ) (n : Next A) → ThreadAgrees lower upper x y t n → upper.next y t ≡ Ended → n ≡ Ended
  thread_ended t (Goes z) h e = absurd (h e)
  thread_ended t Waits h e = absurd (h.unfinished e)
  thread_ended t Ended h e = refl
  thread_ended t Stuck h e = absurd h

  -- the states agree where each thread does
  pub agree_by_thread : lower.trace x ≡ upper.trace y → lower.threads x ≡ upper.threads y → ((t : ℕ) → ThreadAgrees lower upper x y t (lower.next x t)) → Agree lower upper x y
  agree_by_thread trace threads h = record {
    trace = trace;
    threads = threads;
    ended = λ t. ((λ e. subst (ThreadAgrees lower upper x y t) e (h t)), (λ e. thread_ended t (lower.next x t) (h t) e));
    waits = λ t w. (at t w).waits;
    freed = λ t w. (at t w).freed;
    cycles = λ all t u place. (
      (λ f. let k = at t f.0 in let blocks = k.blocks all in (waits_too all t f.0, sym (k.place all) ∙ f.1, sym (blocks u) ∙ f.2, λ v lt. sym (blocks v) ∙ f.3 v lt)),
      (λ f. let w = all t (λ e. waits_not_ended (upper.next y t) f.0 (subst (ThreadAgrees lower upper x y t) e (h t))) in
          let k = at t w in let blocks = k.blocks all in (w, k.place all ∙ f.1, blocks u ∙ f.2, λ v lt. blocks v ∙ f.3 v lt)),
    );
    never_stuck = λ t e. subst (ThreadAgrees lower upper x y t) e (h t);
  }
    where
      at : (t : ℕ) → lower.next x t ≡ Waits → WaitAgrees lower upper x y t
      at t w = subst (ThreadAgrees lower upper x y t) w (h t)

      waits_too : AllWait lower x → (t : ℕ) → lower.next x t ≡ Waits → upper.next y t ≡ Waits
      waits_too all t w = ⊎_elim (λ v. v) (λ f. absurd (f.1.0 (all f.0 f.1.1))) (at t w).waits

-- chains of a relation are chains of one that it implies
pub chain_maps : {R Q : ℕ → ℕ → Type 0} → ((t u : ℕ) → R t u → Q t u) → (t : ℕ) (us : List ℕ) (end : ℕ) → Chain R t us end → Chain Q t us end
chain_maps f t [] end h = f t end h
chain_maps f t (u ∷ us) end h = (f t u h.0, chain_maps f u us end h.1)

pub cycle_maps : {R Q : ℕ → ℕ → Type 0} → ((t u : ℕ) → R t u → Q t u) → (ts : List ℕ) → IsCycle R ts → IsCycle Q ts
cycle_maps f [] h = h
cycle_maps f (t ∷ ts) h = (h.0, chain_maps f t ts t h.1)

-- the least cycle of a relation is that of an equivalent one
pub least_maps : {R Q : ℕ → ℕ → Type 0} → ((t u : ℕ) → R t u ↔ Q t u) → (ts : List ℕ) → IsLeastCycle R ts → IsLeastCycle Q ts
least_maps both [] h = h
least_maps both (t ∷ ts) h = (cycle_maps (λ t u. (both t u).0) (t ∷ ts) h.0, λ us c. h.1 us (cycle_maps (λ t u. (both t u).1) us c))

module _ {Event Place A B : Type 0} (lower : System Event Place A) (upper : System Event Place B) (x : A) (y : B) (h : Agree lower upper x y) (all : AllWait lower x) where
  -- what is reported below is the cycle above
  pub least_cycle_up : (ts : List ℕ) → LeastCycle lower x ts → LeastCycle upper y ts
  least_cycle_up = least_maps (λ t u. ((λ w. (w.0, (h.cycles all t u w.0).0 w.1)), (λ w. (w.0, (h.cycles all t u w.0).1 w.1))))
