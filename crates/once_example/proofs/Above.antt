-- The law of cycles for the atomic cell.
use Rattle.std.proofs.Common.{◌≡◌, ◌≢◌, ℕ, zero, suc, ◌<◌, ◌≤◌, ◌⊎◌, inl, inr, List, Bool, true, false, ◌∙◌, sym, ap, refl, nat_eq, nat_le, ◌&&◌, if◌then◌else◌, arith, eqb-true, eq-eqb, true≢false, leb-true}
use Rattle.runs.specs.declared.turn.Turn.{Turn}
use Rattle.runs.specs.System.{AbsentHaveEnded, KeptBy, Waits, Ended, put, reach}
use Rattle.runs.specs.Refines.{Implements}
use Rattle.runs.specs.Waiting.{HasCycles, WaitsForUnfinished}
use Rattle.runs.proofs.Keeping.{kept_by_runs}
use Rattle.runs.proofs.Putting.{each}
use Rattle.runs.proofs.Cycling.{law_of_cycles}
use Rattle.runs.proofs.Refining.{refines_implements}
use Rattle.once_example.specs.Upper.{Cell, Empty, Running, Done, Task, Reads, Inside, Tells, State, is_running, content, move, upper}
use Rattle.once_example.specs.Lower.{lower}
use Rattle.once_example.proofs.Once.{refines, busy, busy_goes_on, next_unlike, content_idle, only}

abbrev pub runs_inside : Task → Bool
runs_inside (Reads n) = false
runs_inside (Inside n) = true
runs_inside (Tells n said) = false

-- who runs is inside, and the other numbers are no threads
pub record Sound (n : ℕ) (s : State) : Type 0 where
  pub inside : (u : ℕ) → runs_inside (s.tasks u) ≡ is_running s.cell u
  pub outside : (t : ℕ) → (nat_le 1 t && nat_le t n) ≡ false → s.tasks t ≡ Reads 0

module _ (ends : ℕ → ℕ) (n : ℕ) where
  -- t goes on to another task, as one that is no thread can't
  others : (s : State) → Sound n s → (t : ℕ) (task : Task) → s.tasks t ≢ Reads 0 → (u : ℕ) → (nat_le 1 u && nat_le u n) ≡ false → put t task s.tasks u ≡ Reads 0
  others s h t task busy = each (λ u z. (nat_le 1 u && nat_le u n) ≡ false → z ≡ Reads 0) t task s.tasks (λ lt. absurd (busy (h.outside t lt))) (λ u ne. h.outside u)

  pub task_busy : (task : Task) → busy task ≡ true → task ≢ Reads 0
  task_busy task b e = true≢false (sym b ∙ ap busy e)

  pub kept : (s : State) (t : ℕ) → Sound n s → (task : Task) (cell : Cell) → s.tasks t ≡ task → s.cell ≡ cell → KeptBy (Sound n) (move ends s t task cell)
  kept s t h (Reads zero) cell e c = tt
  kept s t h (Reads (suc m)) Empty e c = record {
    inside = each (λ u z. runs_inside z ≡ is_running (Running t) u) t (Inside m) s.tasks (sym (eq-eqb t t refl)) (λ u ne. h.inside u ∙ ap (λ d. is_running d u) c ∙ sym (only t u ne));
    outside = others s h t (Inside m) (task_busy (s.tasks t) (ap busy e));
  }
  kept s t h (Reads (suc m)) (Running u) e c = tt
  kept s t h (Reads (suc m)) (Done v) e c = record {
    inside = each (λ u z. runs_inside z ≡ is_running s.cell u) t (Tells m (suc v)) s.tasks (sym (ap runs_inside e) ∙ h.inside t) (λ u ne. h.inside u);
    outside = others s h t (Tells m (suc v)) (task_busy (s.tasks t) (ap busy e));
  }
  kept s t h (Inside m) cell e c = record {
    inside = each (λ u z. runs_inside z ≡ is_running (content (ends t)) u) t (Tells m (ends t)) s.tasks (sym (content_idle (ends t) t)) (λ u ne. alone u ne (s.cell) refl ∙ sym (content_idle (ends t) u));
    outside = others s h t (Tells m (ends t)) (task_busy (s.tasks t) (ap busy e));
  }
    where
      alone : (u : ℕ) → u ≢ t → (d : Cell) → s.cell ≡ d → runs_inside (s.tasks u) ≡ false
      alone u ne Empty d = h.inside u ∙ ap (λ z. is_running z u) d
      alone u ne (Done v) d = h.inside u ∙ ap (λ z. is_running z u) d
      alone u ne (Running v) d =
          let at : v ≡ t = eqb-true v t (sym (ap (λ z. is_running z t) d) ∙ sym (h.inside t) ∙ ap runs_inside e) in
          h.inside u ∙ ap (λ z. is_running z u) (d ∙ ap Running at) ∙ only t u ne
  kept s t h (Tells m said) cell e c = record {
    inside = each (λ u z. runs_inside z ≡ is_running s.cell u) t (Reads m) s.tasks (sym (ap runs_inside e) ∙ h.inside t) (λ u ne. h.inside u);
    outside = others s h t (Reads m) (task_busy (s.tasks t) (ap busy e));
  }

first_sound : (n reads : ℕ) (u : ℕ) (b : Bool) → runs_inside (if b then Reads reads else Reads 0) ≡ false
first_sound n reads u true = refl
first_sound n reads u false = refl

first_outside : (reads : ℕ) (b : Bool) → b ≡ false → (if b then Reads reads else Reads 0) ≡ Reads 0
first_outside reads true e = absurd (true≢false e)
first_outside reads false e = refl

-- one that waits waits for who runs
pub waits_at : (ends : ℕ → ℕ) (s : State) (t : ℕ) (task : Task) (cell : Cell) → move ends s t task cell ≡ Waits → (u : ℕ) × cell ≡ Running u
waits_at ends s t (Reads zero) cell w = absurd (next_unlike Ended Waits (omega arith) w)
waits_at ends s t (Reads (suc m)) Empty w = absurd (next_unlike _ Waits (omega arith) w)
waits_at ends s t (Reads (suc m)) (Running u) w = (u, refl)
waits_at ends s t (Reads (suc m)) (Done v) w = absurd (next_unlike _ Waits (omega arith) w)
waits_at ends s t (Inside m) cell w = absurd (next_unlike _ Waits (omega arith) w)
waits_at ends s t (Tells m said) cell w = absurd (next_unlike _ Waits (omega arith) w)

inside_busy : (task : Task) → runs_inside task ≡ true → busy task ≡ true
inside_busy (Reads n) e = absurd (true≢false (sym e))
inside_busy (Inside n) e = refl
inside_busy (Tells n said) e = refl

module _ (ends : ℕ → ℕ) (n reads : ℕ) where
  pub sound : (turns : List Turn) → Sound n (reach (upper ends n reads) turns).state
  sound = kept_by_runs (upper ends n reads) (Sound n) (λ s t h. kept ends n s t h (s.tasks t) s.cell refl refl) (record {
    inside = λ u. first_sound n reads u (nat_le 1 u && nat_le u n);
    outside = λ t o. first_outside reads (nat_le 1 t && nat_le t n) o;
  })

  waits_for : (s : State) → Sound n s → WaitsForUnfinished (upper ends n reads) s
  waits_for s h all t ne =
      let c = waits_at ends s t (s.tasks t) s.cell (all t ne) in
      let runs : (v : ℕ) → is_running s.cell v ≡ nat_eq c.0 v = λ v. ap (λ d. is_running d v) c.1 in
      let at : is_running s.cell c.0 ≡ true = runs c.0 ∙ eq-eqb c.0 c.0 refl in (
        c.0,
        (tt, (all t ne, refl, at, λ v lt. let ne : v ≢ c.0 = omega arith in runs v ∙ only c.0 v ne)),
        busy_goes_on ends s c.0 (s.tasks c.0) s.cell (inside_busy (s.tasks c.0) (h.inside c.0 ∙ at)),
      )

  pub in_range : (s : State) → Sound n s → (t : ℕ) → s.tasks t ≢ Reads 0 → (nat_le 1 t && nat_le t n) ≡ true
  in_range s h t busy = go (nat_le 1 t && nat_le t n) refl
    where
      go : (b : Bool) → (nat_le 1 t && nat_le t n) ≡ b → b ≡ true
      go true e = refl
      go false e = absurd (busy (h.outside t e))

  absent : (s : State) → Sound n s → AbsentHaveEnded (upper ends n reads) s
  absent s h t out = ended (h.outside t (out_of_range out))
    where
      ended : s.tasks t ≡ Reads 0 → move ends s t (s.tasks t) s.cell ≡ Ended
      ended e = rw e refl

      right : (a b : Bool) → (a && b) ≡ true → b ≡ true
      right true b e = e
      right false b e = absurd (true≢false (sym e))

      past : n < t → (b : Bool) → (nat_le 1 t && nat_le t n) ≡ b → b ≡ false
      past lt true e = let le : t ≤ n = leb-true t n (right (nat_le 1 t) (nat_le t n) e) in absurd (omega arith)
      past lt false e = refl

      out_of_range : (t ≡ 0) ⊎ (n < t) → (nat_le 1 t && nat_le t n) ≡ false
      out_of_range (inl none) = rw none refl
      out_of_range (inr lt) = past lt _ refl

  cycles : HasCycles (upper ends n reads)
  cycles = law_of_cycles (upper ends n reads) (λ turns. absent _ (sound turns)) (λ turns. waits_for _ (sound turns))

  pub implements : Implements (lower ends n reads) (upper ends n reads)
  implements = refines_implements (lower ends n reads) (upper ends n reads) 6 (omega arith) (refines ends n reads) cycles
