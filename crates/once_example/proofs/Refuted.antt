-- The two wrong lowerings are refused.
use Rattle.std.proofs.Common.{◌≡◌, ℕ, ◌≤◌, List, [], ◌∷◌, Bool, true, false, ◌∙◌, sym, ap, subst, refl, ⊎_elim, nat_eq, nat_le, ◌&&◌, if◌then◌else◌, arith, eq-eqb, ne_eqb, true≢false, leb-true}
use Rattle.runs.specs.declared.turn.Turn.{Turn}
use Rattle.runs.specs.System.{Waits, Ended, reach}
use Rattle.runs.specs.Refines.{Refines, Follows}
use Rattle.runs.specs.Waiting.{DoesWait}
use Rattle.once_example.specs.Upper.{Cell, Running, Task, Reads, Inside, Tells, State, is_running, move, upper}
use Rattle.once_example.specs.Lower.{Sleep, Look, opens_at, Position}
use Rattle.once_example.specs.Wrong.{no_exchange, stays_evaluating, with_step}
use Rattle.runs.proofs.Putting.{same_or_not}
use Rattle.once_example.proofs.Once.{next_unlike}
use Rattle.once_example.proofs.Above.{Sound, sound, runs_inside, waits_at}

waits_reads : (ends : ℕ → ℕ) (s : State) (t : ℕ) (task : Task) (cell : Cell) → move ends s t task cell ≡ Waits → runs_inside task ≡ false
waits_reads ends s t (Reads m) cell w = refl
waits_reads ends s t (Inside m) cell w = absurd (next_unlike _ Waits (omega arith) w)
waits_reads ends s t (Tells m said) cell w = refl

ended_reads : (ends : ℕ → ℕ) (s : State) (t : ℕ) (task : Task) (cell : Cell) → move ends s t task cell ≡ Ended → runs_inside task ≡ false
ended_reads ends s t (Reads m) cell w = refl
ended_reads ends s t (Inside m) cell w = absurd (next_unlike _ Ended (omega arith) w)
ended_reads ends s t (Tells m said) cell w = refl

-- the thread that runs is one of the threads
runner_in : (n : ℕ) (s : State) → Sound n s → (u : ℕ) → s.cell ≡ Running u → (runs_inside (s.tasks u) ≡ true) × (nat_le 1 u && nat_le u n) ≡ true
runner_in n s h u c =
    let at : runs_inside (s.tasks u) ≡ true = h.inside u ∙ ap (λ d. is_running d u) c ∙ eq-eqb u u refl in
    (at, go (nat_le 1 u && nat_le u n) refl at)
  where
    go : (b : Bool) → (nat_le 1 u && nat_le u n) ≡ b → runs_inside (s.tasks u) ≡ true → b ≡ true
    go true e at = refl
    go false e at = absurd (true≢false (sym at ∙ ap runs_inside (h.outside u e)))

pub between : (n u : ℕ) → (nat_le 1 u && nat_le u n) ≡ true → (1 ≤ u) × (u ≤ n)
between n u e = go (nat_le 1 u) (nat_le u n) refl refl e
  where
    go : (a b : Bool) → nat_le 1 u ≡ a → nat_le u n ≡ b → (a && b) ≡ true → (1 ≤ u) × (u ≤ n)
    go true true x y e = (leb-true 1 u x, leb-true u n y)
    go true false x y e = absurd (true≢false (sym e))
    go false b x y e = absurd (true≢false (sym e))

first_opens_none : (reads : ℕ) (b : Bool) → opens_at (if b then Look reads else Look 0) (Sleep 0 0) ≡ false
first_opens_none reads true = refl
first_opens_none reads false = refl

-- thread 1 fails, and reads again
abbrev alone : List Turn
alone = record { thread = 1; count = 12 } ∷ []

alone_positions : ℕ → Position
alone_positions = (reach (with_step stays_evaluating (λ t. 0) 1 2) alone).state.positions

alone_one : opens_at (alone_positions 1) (Sleep 0 0) ≡ false
unfolding alone_positions
alone_one = refl

alone_other : (u : ℕ) → nat_eq u 1 ≡ false → opens_at (alone_positions u) (Sleep 0 0) ≡ false
unfolding alone_positions
alone_other u e = rw e (first_opens_none 2 (nat_le 1 u && nat_le u 1))

alone_none : (u : ℕ) → opens_at (alone_positions u) (Sleep 0 0) ≡ false
alone_none u =
    ⊎_elim
    (λ e. subst (λ v. opens_at (alone_positions v) (Sleep 0 0) ≡ false) {x = 1} {y = u} (sym e) alone_one)
    (λ ne. alone_other u (ne_eqb u 1 ne))
    (same_or_not u 1)

not_evaluating : (b : ℕ) → Refines (with_step stays_evaluating (λ t. 0) 1 2) (upper (λ t. 0) 1 2) b → ⊥
unfolding alone_positions
not_evaluating b h = ⊎_elim above (λ f. true≢false (sym f.1.2 ∙ alone_none f.0)) (a.1.states.waits 1 refl)
  where
    a : (above : List Turn) × Follows (with_step stays_evaluating (λ t. 0) 1 2) (upper (λ t. 0) 1 2) b (reach (with_step stays_evaluating (λ t. 0) 1 2) alone) (reach (upper (λ t. 0) 1 2) above)
    a = h.run alone

    above : DoesWait (upper (λ t. 0) 1 2) (reach (upper (λ t. 0) 1 2) a.0).state 1 → ⊥
    above w =
        let s = (reach (upper (λ t. 0) 1 2) a.0).state in
        let c = waits_at (λ t. 0) s 1 (s.tasks 1) s.cell w in
        let r = runner_in 1 s (sound (λ t. 0) 1 2 a.0) c.0 c.1 in
        let at = between 1 c.0 r.1 in
        let one : c.0 ≡ 1 = omega arith in
        true≢false (sym r.0 ∙ ap (λ u. runs_inside (s.tasks u)) one ∙ waits_reads (λ t. 0) s 1 (s.tasks 1) s.cell w)

-- thread 2 sleeps while thread 1 stores and ends
abbrev two : List Turn
two = record { thread = 1; count = 2 } ∷ record { thread = 2; count = 4 } ∷ record { thread = 1; count = 3 } ∷ []

two_positions : ℕ → Position
two_positions = (reach (with_step no_exchange (λ t. 1) 2 1) two).state.positions

two_one : opens_at (two_positions 1) (Sleep 0 0) ≡ false
unfolding two_positions
two_one = refl

two_two : opens_at (two_positions 2) (Sleep 0 0) ≡ false
unfolding two_positions
two_two = refl

two_other : (u : ℕ) → nat_eq u 1 ≡ false → nat_eq u 2 ≡ false → opens_at (two_positions u) (Sleep 0 0) ≡ false
unfolding two_positions
two_other u e d = rw (e, d) (first_opens_none 1 (nat_le 1 u && nat_le u 2))

two_none : (u : ℕ) → opens_at (two_positions u) (Sleep 0 0) ≡ false
two_none u =
    ⊎_elim
    (λ e. subst (λ v. opens_at (two_positions v) (Sleep 0 0) ≡ false) {x = 1} {y = u} (sym e) two_one)
    (λ ne. ⊎_elim
    (λ e. subst (λ v. opens_at (two_positions v) (Sleep 0 0) ≡ false) {x = 2} {y = u} (sym e) two_two)
    (λ other. two_other u (ne_eqb u 1 ne) (ne_eqb u 2 other))
    (same_or_not u 2))
    (same_or_not u 1)

no_wake : (b : ℕ) → Refines (with_step no_exchange (λ t. 1) 2 1) (upper (λ t. 1) 2 1) b → ⊥
unfolding two_positions
no_wake b h = ⊎_elim above (λ f. true≢false (sym f.1.2 ∙ two_none f.0)) (a.1.states.waits 2 refl)
  where
    a : (above : List Turn) × Follows (with_step no_exchange (λ t. 1) 2 1) (upper (λ t. 1) 2 1) b (reach (with_step no_exchange (λ t. 1) 2 1) two) (reach (upper (λ t. 1) 2 1) above)
    a = h.run two

    above : DoesWait (upper (λ t. 1) 2 1) (reach (upper (λ t. 1) 2 1) a.0).state 2 → ⊥
    above w =
        let s = (reach (upper (λ t. 1) 2 1) a.0).state in
        let c = waits_at (λ t. 1) s 2 (s.tasks 2) s.cell w in
        let r = runner_in 2 s (sound (λ t. 1) 2 1 a.0) c.0 c.1 in
        let at = between 2 c.0 r.1 in
        let ended = (a.1.states.ended 1).0 refl in
        ⊎_elim
        (λ one. true≢false (sym r.0 ∙ ap (λ u. runs_inside (s.tasks u)) one ∙ ended_reads (λ t. 1) s 1 (s.tasks 1) s.cell ended))
        (λ ne. let second : c.0 ≡ 2 = omega arith in true≢false (sym r.0 ∙ ap (λ u. runs_inside (s.tasks u)) second ∙ waits_reads (λ t. 1) s 2 (s.tasks 2) s.cell w))
        (same_or_not c.0 1)

pub wrong_ones : (b : ℕ) → (Refines (with_step no_exchange (λ t. 1) 2 1) (upper (λ t. 1) 2 1) b → ⊥) × (Refines (with_step stays_evaluating (λ t. 0) 1 2) (upper (λ t. 0) 1 2) b → ⊥)
wrong_ones b = (no_wake b, not_evaluating b)
