-- Whoever is awaited can go on, where it isn't in its initialiser.
use Rattle.std.proofs.Common.{◌≡◌, ℕ, length, Bool, true, false, nat_eq, Option, ◌⊎◌, inl, inr, sym, ap, subst, refl, ◌∙◌, arith, eqb-true, eq-eqb, true≢false, if◌then◌else◌}
use Rattle.lz_proto.specs.declared.state.State.{State}
use Rattle.lz_proto.specs.declared.state.State.TheVariants.{Empty, Evaluating, Waiting, Done}
use Rattle.lz_proto.specs.declared.pos.Pos.{Pos}
use Rattle.lz_proto.specs.declared.pos.Pos.TheVariants.{Idle, Look, Claim, Body, Store, Take, Swap, Open, Mark, Install, Sleep, Got, Failed, Cycle}
use Rattle.lz_proto.specs.declared.once.Once.{Once}
use Rattle.lz_proto.specs.declared.once.Once.TheVariants as once
use Rattle.lz_proto.specs.declared.act.Act.TheVariants.{Go}
use Rattle.lz_proto.specs.Protocol.{Protocol, content, position, thread, is_open, named}
use Rattle.lz_proto.specs.Steps.{Outcome, Moves, Waits, Refuses, stores, takes, swaps, next, acted}
use Rattle.lz_proto.specs.Once.{is_inside, abstract_of, once_of}
use Rattle.lz_proto.specs.Kept.{Stage, IsLatched, Keeps, IsRunBy, IsRun, Holds}
use Rattle.lz_proto.specs.Causes.{CanGo}
use Rattle.lz_proto.proofs.Acting.{number, moves_same}
use Rattle.lz_proto.proofs.Following.{running_of}
use Rattle.lz_proto.proofs.Standing.{opened_is}

moving : (o : Outcome) → number o ≡ 0 → (q : Protocol) × (o ≡ Moves q)
moving (Moves q) e = (q, refl)
moving Waits e = absurd (omega (arith, e))
moving Refuses e = absurd (omega (arith, e))

if_moves : (b : Bool) (x y : Outcome) → number x ≡ 0 → number y ≡ 0 → number (if b then x else y) ≡ 0
if_moves true x y nx ny = nx
if_moves false x y nx ny = ny

abbrev IsRunning : Once → Type 0
IsRunning (once.Running u) = Unit {0}
IsRunning other = ⊥

abbrev accessor_of : Once → ℕ
accessor_of (once.Running u) = u
accessor_of other = 0

module _ (p : Protocol) (who : ℕ) where
  stores_move : (c : ℕ) (r : Option ℕ) (s : State) → number (stores p who c r s) ≡ 0
  stores_move c r (Evaluating t) = if_moves (nat_eq t (thread p who)) _ _ refl refl
  stores_move c r Empty = refl
  stores_move c r (Waiting other) = refl
  stores_move c r (Done v) = refl

  takes_move : (c : ℕ) (r : Option ℕ) (s : State) → IsLatched s → number (takes p who c r s) ≡ 0
  takes_move c r (Waiting latch) l = refl
  takes_move c r Empty l = absurd l
  takes_move c r (Evaluating t) l = absurd l
  takes_move c r (Done v) l = absurd l

  swaps_move : (c : ℕ) (r : Option ℕ) (latch : ℕ) → number (swaps p who c r latch (Waiting latch)) ≡ 0
  swaps_move c r latch = rw (eq-eqb latch latch refl) refl

  can_go : (pos : Pos) → position p who ≡ pos → number (next p who pos) ≡ 0 → CanGo p who
  can_go pos at e = let moved = moving (next p who pos) e in (moved.0, ap (next p who) at ∙ moved.1)

  pub opener_goes : (latch : ℕ) (r : Option ℕ) → position p who ≡ Open latch r → CanGo p who
  opener_goes latch r at = can_go (Open latch r) at refl

  pub opener_opens : (q : Protocol) (latch : ℕ) (r : Option ℕ) → position p who ≡ Open latch r → acted p who Go ≡ Moves q → is_open q latch ≡ true
  opener_opens q latch r at e =
      subst (λ q. is_open q latch ≡ true) (moves_same (sym (ap (next p who) at) ∙ e)) (opened_is p.opened latch)

  pub sleeper_goes : (c latch : ℕ) → position p who ≡ Sleep c latch → is_open p latch ≡ true → CanGo p who
  sleeper_goes c latch at o = can_go (Sleep c latch) at (rw o refl)

module _ (p : Protocol) (stage : ℕ → Stage) (h : Holds p stage) where
  named_inside : (c u t : ℕ) → abstract_of p c ≡ once.Running u → IsRunBy p c t → is_inside c (position p u) ≡ true
  named_inside c u t is run =
      let same : run.0 ≡ u = ap accessor_of (sym (running_of p stage h c run.0 run.1) ∙ is) in
      subst (λ u. is_inside c (position p u) ≡ true) same run.1

  -- who runs a cell is inside it
  pub running_inside : (c u : ℕ) (s : State) → content p c ≡ s → abstract_of p c ≡ once.Running u → is_inside c (position p u) ≡ true
  running_inside c u Empty held is = absurd (subst IsRunning (sym is ∙ ap (once_of p c) held) tt)
  running_inside c u (Done v) held is = absurd (subst IsRunning (sym is ∙ ap (once_of p c) held) tt)
  running_inside c u (Evaluating t) held is = named_inside c u t is (subst (IsRun p c) held (h.runs c))
  running_inside c u (Waiting latch) held is = named_inside c u (named p latch) is (subst (IsRun p c) held (h.runs c))

  inside_goes : (c u : ℕ) (pos : Pos) → position p u ≡ pos → is_inside c pos ≡ true → (position p u ≡ Body c) ⊎ CanGo p u
  inside_goes c u (Body d) at inside = inl (at ∙ ap Body (eqb-true d c inside))
  inside_goes c u (Store d r) at inside = inr (can_go p u (Store d r) at (stores_move p u d r (content p d)))
  inside_goes c u (Take d r) at inside =
      inr (can_go p u (Take d r) at (takes_move p u d r (content p d) (subst (Keeps p.cells (length p.opened) stage u) at (h.keeps u)).1))
  inside_goes c u (Swap d r latch) at inside =
      inr (can_go p u (Swap d r latch) at (subst (λ s. number (swaps p u d r latch s) ≡ 0) (sym (subst (Keeps p.cells (length p.opened) stage u) at (h.keeps u)).1) (swaps_move p u d r latch)))
  inside_goes c u Idle at inside = absurd (true≢false (sym inside))
  inside_goes c u (Look d) at inside = absurd (true≢false (sym inside))
  inside_goes c u (Claim d) at inside = absurd (true≢false (sym inside))
  inside_goes c u (Open latch r) at inside = absurd (true≢false (sym inside))
  inside_goes c u (Mark d t) at inside = absurd (true≢false (sym inside))
  inside_goes c u (Install d latch) at inside = absurd (true≢false (sym inside))
  inside_goes c u (Sleep d latch) at inside = absurd (true≢false (sym inside))
  inside_goes c u (Got v) at inside = absurd (true≢false (sym inside))
  inside_goes c u Failed at inside = absurd (true≢false (sym inside))
  inside_goes c u Cycle at inside = absurd (true≢false (sym inside))

  pub runner_goes : (u c : ℕ) → abstract_of p c ≡ once.Running u → (position p u ≡ Body c) ⊎ CanGo p u
  runner_goes u c is = inside_goes c u (position p u) refl (running_inside c u (content p c) refl is)
