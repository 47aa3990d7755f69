-- In every state that a run comes to, each thread that a cell names as running its initialiser has a context of it.
use Rattle.std.proofs.Common.{◌≡◌, ℕ, suc, ◌<◌, ◌≤◌, ◌⊎◌, inl, inr, ⊎_elim, nat_eq, nat_lt, Bool, true, false, if◌then◌else◌, List, [], Option, Some, None, refl, ap, sym, subst, ◌∙◌, arith, eqb-true, eq-eqb, ltb-true, ltb-false}
use Rattle.runs.specs.declared.turn.Turn.{Turn}
use Rattle.runs.specs.System.{Next, Goes, Waits, Ended, Stuck, KeptBy, reach}
use Rattle.runs.specs.System as system
use Rattle.runs.specs.SharedHeap.{HeapState, Stepped, count_with, threads_with, stepped, left_by}
use Rattle.runs.proofs.Keeping.{kept_by_runs}
use Rattle.ty_prog.specs.declared.program.Program.{Program}
use Rattle.sm_state.specs.declared.heap.Heap.{Heap}
use Rattle.sm_state.specs.declared.once.Once.TheVariants as once
use Rattle.sm_state.specs.declared.thread.Thread.{Thread}
use Rattle.sm_state.specs.Entering.{main_context, begun_thread}
use Rattle.sm_rule.specs.Step.{After, next_of, step}
use Rattle.sm_rule.specs.Machine.{first_threads, meaning}
use Rattle.sm_cells.specs.Running.{cell_at, RunsIn, CellsRun}
use Rattle.sm_cells.proofs.Slices.{none_at}
use Rattle.sm_cells.proofs.Editing.{same_or_not, cell_there}
use Rattle.sm_cells.proofs.Moving.{run_on, StepKept, next_kept}

-- threads that aren't there have no context
abbrev Absent : HeapState Heap Thread → Type 0
Absent s = (u : ℕ) → s.count < u → (s.threads u).contexts ≡ []

abbrev Fine : Program → HeapState Heap Thread → Type 0
Fine p s = CellsRun p s × Absent s

some_thread : (n t : ℕ) → (n < t) ⊎ (t ≤ n)
some_thread n t = on (nat_lt n t) refl
  where
    on : (b : Bool) → nat_lt n t ≡ b → (n < t) ⊎ (t ≤ n)
    on true e = inl (ltb-true n t e)
    on false e = inr (ltb-false n t e)

-- a thread without contexts makes no step
abbrev Makes : After → Type 0
Makes (Goes x) = Unit {0}
Makes Waits = ⊥
Makes Ended = ⊥
Makes Stuck = ⊥

no_step : (p : Program) (t : ℕ) (h : Heap) (th : Thread) → th.contexts ≡ [] → Makes (step p t h th) → ⊥
no_step p t h th none makes = subst (λ cs. Makes (next_of p h t cs th.value th.thrown)) none makes

put_at : {X : Type 0} (t : ℕ) (x : X) (f : ℕ → X) → system.put t x f t ≡ x
put_at t x f = let same : nat_eq t t ≡ true = eq-eqb t t refl in rw same refl

put_off : {X : Type 0} (t : ℕ) (x : X) (f : ℕ → X) (u : ℕ) → (u ≡ t → ⊥) → system.put t x f u ≡ f u
put_off t x f u ne = on (nat_eq u t) refl
  where
    on : (b : Bool) → nat_eq u t ≡ b → (if b then x else f u) ≡ f u
    on true e = absurd (ne (eqb-true u t e))
    on false e = refl

module _ (p : Program) (s : HeapState Heap Thread) (t : ℕ) (fine : Fine p s) where
  module _ (x : Stepped Heap Thread) (there : t ≤ s.count) (kept : StepKept p t s.heap (s.threads t).contexts (Goes x)) where
    abbrev after : ℕ → Thread
    after = system.put t x.thread s.threads

    -- among the threads that were there
    runs : (i at u : ℕ) → cell_at x.heap i at ≡ Some (once.Running u) → RunsIn p x.heap i at (after u).contexts
    runs i at u ran = ⊎_elim (λ a. mine a.0 a.1) (λ b. old b.0 b.1 (same_or_not u t)) (kept.1 i at u ran)
      where
        mine : u ≡ t → RunsIn p x.heap i at x.thread.contexts → RunsIn p x.heap i at (after u).contexts
        mine is r = subst (λ th. RunsIn p x.heap i at th.contexts) (sym (ap after is ∙ put_at t x.thread s.threads)) r

        old : cell_at s.heap i at ≡ Some (once.Running u) → (RunsIn p s.heap i at (s.threads t).contexts → RunsIn p x.heap i at x.thread.contexts) → (u ≡ t) ⊎ (u ≡ t → ⊥) → RunsIn p x.heap i at (after u).contexts
        old was onto (inl is) = mine is (onto (subst (λ k. RunsIn p s.heap i at (s.threads k).contexts) is (fine.0 i at u was)))
        old was onto (inr ne) = subst (λ th. RunsIn p x.heap i at th.contexts) (sym (put_off t x.thread s.threads u ne)) (run_on p s.heap x.heap i at (s.threads u).contexts kept.0 (fine.0 i at u was))

    absent : (u : ℕ) → s.count < u → (after u).contexts ≡ []
    absent u past = ap (λ th. th.contexts) (put_off t x.thread s.threads u (λ is. no_such u past is)) ∙ fine.1 u past
      where
        no_such : (u : ℕ) → s.count < u → u ≡ t → ⊥
        no_such u past is = omega (arith, past, is, there)

    all_run : (o : Option Thread) (i at u : ℕ) → cell_at x.heap i at ≡ Some (once.Running u) → RunsIn p x.heap i at (threads_with s.count o after u).contexts
    all_run None i at u ran = runs i at u ran
    all_run (Some th) i at u ran = on (same_or_not u (suc s.count))
      where
        on : (u ≡ suc s.count) ⊎ (u ≡ suc s.count → ⊥) → RunsIn p x.heap i at (system.put (suc s.count) th after u).contexts
        on (inl is) = absurd (subst (RunsIn p x.heap i at) (absent u (past is)) (runs i at u ran))
          where
            past : u ≡ suc s.count → s.count < u
            past is = omega (arith, is)
        on (inr ne) = subst (λ y. RunsIn p x.heap i at y.contexts) (sym (put_off (suc s.count) th after u ne)) (runs i at u ran)

    all_absent : (o : Option Thread) (u : ℕ) → count_with s.count o < u → (threads_with s.count o after u).contexts ≡ []
    all_absent None u past = absent u past
    all_absent (Some th) u past = ap (λ y. y.contexts) (put_off (suc s.count) th after u (λ is. no_such is)) ∙ absent u (less past)
      where
        no_such : u ≡ suc s.count → ⊥
        no_such is = omega (arith, past, is)

        less : suc s.count < u → s.count < u
        less past = omega (arith, past)

    all_fine : Fine p (left_by t s x.heap x.thread x.begun)
    all_fine = (all_run x.begun, all_absent x.begun)

  after_step : (n : After) → (Makes n → t ≤ s.count) → StepKept p t s.heap (s.threads t).contexts n → KeptBy (Fine p) (stepped t s n)
  after_step (Goes x) there kept = all_fine x (there tt) kept
  after_step Waits there kept = tt
  after_step Ended there kept = tt
  after_step Stuck there kept = tt

  goes_on : KeptBy (Fine p) (stepped t s (step p t s.heap (s.threads t)))
  goes_on =
      after_step (step p t s.heap (s.threads t)) (λ makes. ⊎_elim (λ past. absurd (no_step p t s.heap (s.threads t) (fine.1 t past) makes)) (λ there. there) (some_thread s.count t))
      (next_kept p t s.heap (s.threads t).contexts (s.threads t).value (s.threads t).thrown)

first_absent : (p : Program) (u : ℕ) → 1 < u → (first_threads p u).contexts ≡ []
first_absent p u past = on (nat_eq u 1) refl
  where
    on : (b : Bool) → nat_eq u 1 ≡ b → (if b then begun_thread (main_context p) else begun_thread None).contexts ≡ []
    on true e = absurd (omega (arith, past, eqb-true u 1 e))
    on false e = refl

first_fine : (p : Program) → Fine p (meaning p).first
first_fine p = (λ i at u e. none_at i (cell_there [] i at (once.Running u) e).0 (cell_there [] i at (once.Running u) e).1, first_absent p)

pub fine_reached : (p : Program) (turns : List Turn) → Fine p (reach (meaning p) turns).state
fine_reached p turns = kept_by_runs (meaning p) (Fine p) (λ s t fine. goes_on p s t fine) (first_fine p) turns

pub cells_run : (p : Program) (turns : List Turn) → CellsRun p (reach (meaning p) turns).state
cells_run p turns = (fine_reached p turns).0
