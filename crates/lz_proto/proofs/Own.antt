-- An accessor whose own thread runs the cell throws LazyCycle, and awaits no latch of its thread.
use Rattle.std.proofs.Common.{◌≡◌, ◌≢◌, ℕ, ◌<◌, List, [], ◌∷◌, length, get_or, slice_set, Bool, true, false, nat_eq, ◌⊎◌, inl, inr, sym, ap, subst, refl, ◌∙◌, eqb-true, eq-eqb, true≢false, if◌then◌else◌}
use Rattle.std.proofs.lemmas.List.{get_or-set_same, get_or-set_other, get_or_append_left}
use Rattle.runs.proofs.Putting.{same_or_not}
use Rattle.lz_proto.specs.declared.state.State.{State}
use Rattle.lz_proto.specs.declared.state.State.TheVariants.{Empty, Evaluating, Waiting, Done}
use Rattle.lz_proto.specs.declared.pos.Pos.{Pos}
use Rattle.lz_proto.specs.declared.pos.Pos.TheVariants.{Look, Mark, Sleep, Cycle, Idle, Install}
use Rattle.lz_proto.specs.declared.once.Once.{Once}
use Rattle.lz_proto.specs.declared.once.Once.TheVariants as once
use Rattle.lz_proto.specs.declared.act.Act.{Act}
use Rattle.lz_proto.specs.declared.act.Act.TheVariants.{Go}
use Rattle.lz_proto.specs.Protocol.{Protocol, content, position, thread, named}
use Rattle.lz_proto.specs.Steps.{Moves, acted, goes, looked, next}
use Rattle.lz_proto.specs.Once.{once_of}
use Rattle.lz_proto.specs.Kept.{Stage, Keeps, IsRunBy, IsRun, Holds, IsHeld, IsApart, IsKept}
use Rattle.lz_proto.specs.Causes.{IsOwn}
use Rattle.lz_proto.proofs.Latches.{made_for}
use Rattle.lz_proto.proofs.Acting.{waits_for_made, act_keeps}
use Rattle.lz_proto.proofs.Following.{running_of}
use Rattle.lz_proto.proofs.Standing.{is_found, found, others_stand, threads_stay, names_stay}

abbrev IsCycle : Pos → Type 0
IsCycle Cycle = Unit {0}
IsCycle other = ⊥

abbrev IsAsleep : Pos → Type 0
IsAsleep (Sleep c latch) = Unit {0}
IsAsleep other = ⊥

abbrev latch_of : Pos → ℕ
latch_of (Sleep c latch) = latch
latch_of other = 0

abbrev IsRunning : Once → Type 0
IsRunning (once.Running u) = Unit {0}
IsRunning other = ⊥

abbrev accessor_of : Once → ℕ
accessor_of (once.Running u) = u
accessor_of other = 0

module _ (p : Protocol) (stage : ℕ → Stage) (h : Holds p stage) (who c : ℕ) where
  -- a cell that names this thread is run by an accessor of it
  runs_own : (t : ℕ) → IsRunBy p c t → t ≡ thread p who → IsOwn p who c
  runs_own t run same = (run.0, running_of p stage h c run.0 run.1, run.2 ∙ same)

  -- what is read where LazyCycle is thrown
  pub own_found : (s : State) → content p c ≡ s → looked p who c s ≡ Cycle → IsOwn p who c
  own_found Empty is e = absurd (subst IsCycle (sym e) tt)
  own_found (Done v) is e = absurd (subst IsCycle (sym e) tt)
  own_found (Evaluating t) is e = go (nat_eq t (thread p who)) refl e
    where
      go : (b : Bool) → nat_eq t (thread p who) ≡ b → (if b then Cycle else Mark c t) ≡ Cycle → IsOwn p who c
      go true same e = runs_own t (subst (IsRun p c) is (h.runs c)) (eqb-true t (thread p who) same)
      go false same e = absurd (subst IsCycle (sym e) tt)
  own_found (Waiting latch) is e = go (nat_eq (named p latch) (thread p who)) refl e
    where
      go : (b : Bool) → nat_eq (named p latch) (thread p who) ≡ b → (if b then Cycle else Sleep c latch) ≡ Cycle → IsOwn p who c
      go true same e = runs_own (named p latch) (subst (IsRun p c) is (h.runs c)) (eqb-true (named p latch) (thread p who) same)
      go false same e = absurd (subst IsCycle (sym e) tt)

  -- who runs the cell names this thread
  names_own : (t : ℕ) → IsRunBy p c t → IsOwn p who c → t ≡ thread p who
  names_own t run own =
      let same : run.0 ≡ own.0 = ap accessor_of (sym (running_of p stage h c run.0 run.1) ∙ own.1) in
      sym run.2 ∙ ap (thread p) same ∙ own.2

  -- LazyCycle is thrown where its own thread runs the cell
  pub own_cycles : (s : State) → content p c ≡ s → IsOwn p who c → looked p who c s ≡ Cycle
  own_cycles Empty is own = absurd (subst IsRunning (sym own.1 ∙ ap (once_of p c) is) tt)
  own_cycles (Done v) is own = absurd (subst IsRunning (sym own.1 ∙ ap (once_of p c) is) tt)
  own_cycles (Evaluating t) is own = rw (eq-eqb t (thread p who) (names_own t (subst (IsRun p c) is (h.runs c)) own)) refl
  own_cycles (Waiting latch) is own = rw (eq-eqb (named p latch) (thread p who) (names_own (named p latch) (subst (IsRun p c) is (h.runs c)) own)) refl

-- a latch that is awaited is in the cell that was read, and names another thread
found_asleep : (p : Protocol) (who d c latch : ℕ) (s : State) → looked p who d s ≡ Sleep c latch → (s ≡ Waiting latch) × (named p latch ≢ thread p who)
found_asleep p who d c latch Empty e = absurd (subst IsAsleep (sym e) tt)
found_asleep p who d c latch (Done v) e = absurd (subst IsAsleep (sym e) tt)
found_asleep p who d c latch (Evaluating t) e = go (nat_eq t (thread p who)) e
  where
    go : (b : Bool) → (if b then Cycle else Mark d t) ≡ Sleep c latch → (Evaluating t ≡ Waiting latch) × (named p latch ≢ thread p who)
    go true e = absurd (subst IsAsleep (sym e) tt)
    go false e = absurd (subst IsAsleep (sym e) tt)
found_asleep p who d c latch (Waiting other) e = go (nat_eq (named p other) (thread p who)) refl e
  where
    go : (b : Bool) → nat_eq (named p other) (thread p who) ≡ b → (if b then Cycle else Sleep d other) ≡ Sleep c latch → (Waiting other ≡ Waiting latch) × (named p latch ≢ thread p who)
    go true n e = absurd (subst IsAsleep (sym e) tt)
    go false n e =
        let same : other ≡ latch = ap latch_of e in
        (ap Waiting same, λ own. true≢false (sym (eq-eqb (named p other) (thread p who) (ap (named p) same ∙ own)) ∙ n))

module _ (p q : Protocol) (kept : IsKept p) (who : ℕ) (within : who < length p.at) (act : Act) (moved : acted p who act ≡ Moves q) where
  -- a latch that an accessor awaits behind a step was made before
  stays_named : (latch : ℕ) → latch < length p.opened → named q latch ≡ named p latch
  stays_named latch made = names_stay p who act q moved latch (subst (λ n. latch < n) (sym kept.1.owners) made)

  stays_of : (u : ℕ) → thread q u ≡ thread p u
  stays_of u = ap (λ threads. thread_in threads u) (threads_stay p who act q moved)
    where
      thread_in : List ℕ → ℕ → ℕ
      thread_in threads u = thread (record p { threads = threads }) u

  apart_stays : IsApart q
  apart_stays u c latch asleep own = go (same_or_not u who)
    where
      go : (u ≡ who) ⊎ (u ≢ who) → ⊥
      go (inr ne) =
          let before : position p u ≡ Sleep c latch = sym (others_stand p who act q moved u ne) ∙ asleep in
          let made = (subst (Keeps p.cells (length p.opened) kept.0 u) before (kept.1.keeps u)).1 in
          kept.2 u c latch before (sym (stays_named latch made) ∙ own ∙ stays_of u)
      go (inl same) =
          let here = found p who act q within moved (Sleep c latch) (subst (λ u. position q u ≡ Sleep c latch) same asleep) refl in
          let was = found_asleep p who here.0 c latch (content p here.0) here.2 in
          let made = waits_for_made p kept.0 kept.1 here.0 latch was.0 in
          was.1 (sym (stays_named latch made) ∙ own ∙ stays_of u ∙ ap (thread p) same)

  -- each step keeps what every state keeps
  pub whole : IsHeld q → IsKept q
  whole held = (held.0, held.1, apart_stays)

  pub step_keeps : IsKept q
  step_keeps = whole (act_keeps p kept.0 kept.1 who within act q moved)

  pub cycle_found : position q who ≡ Cycle → (c : ℕ) × (position p who ≡ Look c) × IsOwn p who c
  cycle_found at =
      let here = found p who act q within moved Cycle at refl in
      (here.0, here.1, own_found p kept.0 kept.1 who here.0 (content p here.0) refl here.2)

pub cycle_thrown : (p : Protocol) → IsKept p → (who c : ℕ) → position p who ≡ Look c → IsOwn p who c → acted p who Go ≡ goes p who Cycle
cycle_thrown p kept who c at own = ap (next p who) at ∙ ap (goes p who) (own_cycles p kept.0 kept.1 who c (content p c) refl own)

-- a state in which no accessor but this one moved, and it isn't asleep
module _ (p : Protocol) (kept : IsKept p) (who : ℕ) (within : who < length p.at) (to : Pos) (awake : is_found to ≡ false) where
  near_apart : (q : Protocol) → q.at ≡ slice_set p.at who to → ((u : ℕ) → thread q u ≡ thread p u) → ((latch : ℕ) → latch < length p.opened → named q latch ≡ named p latch) → IsApart q
  near_apart q at threads names u c latch asleep own = go (same_or_not u who)
    where
      go : (u ≡ who) ⊎ (u ≢ who) → ⊥
      go (inl same) =
          let there : to ≡ Sleep c latch = sym (ap (λ u. get_or (slice_set p.at who to) u Idle) same ∙ get_or-set_same p.at who to Idle within) ∙ ap (λ at. get_or at u Idle) (sym at) ∙ asleep in
          true≢false (sym (ap is_found there) ∙ awake)
      go (inr ne) =
          let before : position p u ≡ Sleep c latch = sym (get_or-set_other p.at who u to Idle ne) ∙ ap (λ at. get_or at u Idle) (sym at) ∙ asleep in
          let made = (subst (Keeps p.cells (length p.opened) kept.0 u) before (kept.1.keeps u)).1 in
          kept.2 u c latch before (sym (names latch made) ∙ own ∙ threads u)

  pub stands_kept : IsHeld (record p { at = slice_set p.at who to }) → IsKept (record p { at = slice_set p.at who to })
  stands_kept held = (held.0, held.1, near_apart (record p { at = slice_set p.at who to }) refl (λ u. refl) (λ latch made. refl))

  pub writes_kept : (c : ℕ) (new : State) → IsHeld (record p { cells = slice_set p.cells c new; at = slice_set p.at who to }) → IsKept (record p { cells = slice_set p.cells c new; at = slice_set p.at who to })
  writes_kept c new held = (held.0, held.1, near_apart (record p { cells = slice_set p.cells c new; at = slice_set p.at who to }) refl (λ u. refl) (λ latch made. refl))

  pub opens_kept : (latch : ℕ) → IsHeld (record p { opened = slice_set p.opened latch true; at = slice_set p.at who to }) → IsKept (record p { opened = slice_set p.opened latch true; at = slice_set p.at who to })
  opens_kept latch held = (held.0, held.1, near_apart (record p { opened = slice_set p.opened latch true; at = slice_set p.at who to }) refl (λ u. refl) (λ latch made. refl))

pub makes_kept : (p : Protocol) → IsKept p → (who c t : ℕ) → who < length p.at → IsHeld (made_for p who c t) → IsKept (made_for p who c t)
makes_kept p kept who c t within held = (
  held.0,
  held.1,
  near_apart p kept who within (Install c (length p.opened)) refl (made_for p who c t) refl (λ u. refl) (λ latch made. get_or_append_left p.owner (t ∷ []) 0 latch (subst (λ n. latch < n) (sym kept.1.owners) made)),
)
