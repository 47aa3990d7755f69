-- Bounds of zero don't compose by 2 * b * c.
use Rattle.std.proofs.Common.{◌≡◌, ℕ, zero, suc, ◌*◌, ◌≤◌, List, [], ◌∷◌, Bool, true, false, ◌∙◌, sym, ap, refl, nat_eq, if◌then◌else◌, arith, true≢false}
use Rattle.runs.specs.declared.turn.Turn.{Turn}
use Rattle.runs.specs.System.{Next, Goes, Waits, Ended, Stuck, System, Reached, tries, tried, run, start, reach, one_more}
use Rattle.runs.specs.Refines.{Refines, Agree}

-- nothing moves
abbrev still : System (Unit {0}) (Unit {0}) Bool
still = record { first = false; next = λ s t. Ended; inits = λ s t. 0; threads = λ s. 1; trace = λ s. []; place = λ s t. tt; blocks = λ s t u. false; opens = λ s u t. false }

abbrev one_move : Bool → Next Bool
one_move false = Goes true
one_move true = Ended

abbrev next_one : ℕ → Bool → Next Bool
next_one zero s = Ended
next_one (suc zero) s = one_move s
next_one (suc (suc t)) s = Ended

-- thread 1 makes one move, which shows nowhere
abbrev once : System (Unit {0}) (Unit {0}) Bool
once = record { first = false; next = λ s t. next_one t s; inits = λ s t. 0; threads = λ s. 1; trace = λ s. []; place = λ s t. tt; blocks = λ s t u. false; opens = λ s u t. false }

abbrev IsEnded : {S : Type 0} → Next S → Bool
IsEnded (Goes x) = false
IsEnded Waits = false
IsEnded Ended = true
IsEnded Stuck = false

over : (t : ℕ) → next_one t true ≡ Ended
over zero = refl
over (suc zero) = refl
over (suc (suc t)) = refl

still_tries : (t n : ℕ) (r : Reached Bool) → tries still t n r ≡ r
still_tries t zero r = refl
still_tries t (suc n) r = still_tries t n r

still_run : (turns : List Turn) (r : Reached Bool) → run still turns r ≡ r
still_run [] r = refl
still_run (turn ∷ turns) r = ap (run still turns) (still_tries turn.thread turn.count r) ∙ still_run turns r

agree : (s x : Bool) (T : System (Unit {0}) (Unit {0}) Bool) → ((t : ℕ) → T.next x t ≡ Ended) → T.trace x ≡ [] → T.threads x ≡ 1 → Agree still T s x
agree s x T all trace threads = record {
  trace = sym trace;
  threads = sym threads;
  ended = λ t. ((λ e. all t), (λ e. refl));
  waits = λ t w. absurd (true≢false (ap IsEnded w));
  freed = λ t w. absurd (true≢false (ap IsEnded w));
  cycles = λ a t u p. ((λ f. absurd (true≢false (ap IsEnded f.0))), (λ f. absurd (true≢false (ap IsEnded (sym (all t) ∙ f.0)))));
  never_stuck = λ t e. true≢false (ap IsEnded e);
}

low : Refines still still 0
low = record { run = λ turns. ([], rw (still_run turns (start still)) (record { states = agree false false still (λ t. refl) refl refl; pace = record { steps = λ t. omega arith; moves = λ t. omega arith }; inits = omega arith })) }

counted_if : (b : Bool) → (if b then suc 0 else 0) ≤ 1
counted_if true = omega arith
counted_if false = omega arith

counted : (t : ℕ) → one_more 1 (λ u. 0) t ≤ 1
counted t = counted_if (nat_eq t 1)

high : Refines still once 1
high = record { run = λ turns. (record { thread = 1; count = 1 } ∷ [], rw (still_run turns (start still)) (record { states = agree false true once over refl refl; pace = record { steps = λ t. omega arith; moves = λ t. omega (arith, counted t) }; inits = omega arith })) }

-- while thread 1 has made no move, it has one to make
record Idle (r : Reached Bool) : Type 0 where
  is : r.moves 1 ≤ 0 → r.state ≡ false

idle_tried : (t : ℕ) (r : Reached Bool) → Idle r → Idle (tried once t r)
idle_tried zero r h = h
idle_tried (suc zero) r h = go r.state refl
  where
    go : (s : Bool) → r.state ≡ s → Idle (tried once 1 r)
    go false e = rw e (record { is = λ le. absurd (omega arith) })
    go true e = rw e (record { is = λ le. sym e ∙ h.is le })
idle_tried (suc (suc t)) r h = h

idle_tries : (t n : ℕ) (r : Reached Bool) → Idle r → Idle (tries once t n r)
idle_tries t zero r h = h
idle_tries t (suc n) r h = idle_tries t n (tried once t r) (idle_tried t r h)

idle_run : (turns : List Turn) (r : Reached Bool) → Idle r → Idle (run once turns r)
idle_run [] r h = h
idle_run (turn ∷ turns) r h = idle_run turns _ (idle_tries turn.thread turn.count r h)

not_zero : Refines still once 0 → ⊥
not_zero h =
    let a = h.run [] in
    let idle = idle_run a.0 (start once) (record { is = λ le. refl }) in
    let at : (reach once a.0).state ≡ false = idle.is (a.1.pace.moves 1) in
    true≢false (sym (ap (λ s. IsEnded (next_one 1 s)) (sym at) ∙ ap IsEnded ((a.1.states.ended 1).0 refl)))

pub zero_fails : ((low mid up : System (Unit {0}) (Unit {0}) Bool) (b c : ℕ) → Refines low mid b → Refines mid up c → Refines low up (2 * b * c)) → ⊥
zero_fails law = not_zero (law still still once 0 1 low high)
