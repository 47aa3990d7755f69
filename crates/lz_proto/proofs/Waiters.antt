-- An accessor waits at a closed latch alone, and no waiter is lost.
use Rattle.std.proofs.Common.{◌≡◌, ◌≢◌, ℕ, length, Bool, true, false, nat_eq, nat_lt, Option, Some, None, ◌⊎◌, inl, inr, sym, ap, subst, refl, ◌∙◌, arith, true≢false, if◌then◌else◌, ◌&&◌}
use Rattle.lz_proto.specs.declared.state.State.{State}
use Rattle.lz_proto.specs.declared.state.State.TheVariants.{Empty, Evaluating, Waiting, Done}
use Rattle.lz_proto.specs.declared.pos.Pos.{Pos}
use Rattle.lz_proto.specs.declared.pos.Pos.TheVariants.{Idle, Look, Claim, Body, Store, Take, Swap, Open, Mark, Install, Sleep, Got, Failed, Cycle}
use Rattle.lz_proto.specs.declared.once.Once.TheVariants as once
use Rattle.lz_proto.specs.declared.act.Act.{Act}
use Rattle.lz_proto.specs.declared.act.Act.TheVariants.{Read, Return, Throw, Go}
use Rattle.lz_proto.specs.Protocol.{Protocol, content, position, thread, is_open, named}
use Rattle.lz_proto.specs.Steps.{Outcome, Waits, Refuses, has_ended, marks, claims, installs, sleeps, stores, takes, swaps, next, read, finish, acted}
use Rattle.lz_proto.specs.Once.{abstract_of}
use Rattle.lz_proto.specs.Kept.{Stage, Mine, Set, Going, Over, IsShared, is_over, Keeps, IsRun, Holds, IsApart}
use Rattle.lz_proto.specs.Causes.{WaitsWell, IsBarred}
use Rattle.lz_proto.proofs.Acting.{number}
use Rattle.lz_proto.proofs.Following.{running_of}

-- an outcome that is no wait
unwaited : {A : Type 0} (o : Outcome) → number o ≢ 1 → o ≡ Waits → A
unwaited o ne e = absurd (ne (ap number e))

if_unwaited : (b : Bool) (x y : Outcome) → number x ≢ 1 → number y ≢ 1 → number (if b then x else y) ≢ 1
if_unwaited true x y nx ny = nx
if_unwaited false x y nx ny = ny

module _ (p : Protocol) (stage : ℕ → Stage) (h : Holds p stage) (apart : IsApart p) (who : ℕ) where
  sleeper : (c latch : ℕ) → position p who ≡ Sleep c latch → is_open p latch ≡ false → WaitsWell p who
  sleeper c latch at closed = (c, latch, at, closed, apart who c latch at, go (stage latch) refl (subst (Keeps p.cells (length p.opened) stage who) at (h.keeps who)).2)
    where
      go : (s : Stage) → stage latch ≡ s → IsShared c s → ((u : ℕ) × (abstract_of p c ≡ once.Running u) × (named p latch ≡ thread p u)) ⊎ ((u : ℕ) × (r : Option ℕ) × (position p u ≡ Open latch r))
      go (Mine w) e shared = absurd shared
      go (Set d) e shared =
          let run = subst (IsRun p c) (h.set latch c (e ∙ ap Set shared)) (h.runs c) in
          inl (run.0, running_of p stage h c run.0 run.1, sym run.2)
      go (Going w) e shared = let o = h.going latch w e in inr (w, o.0, o.1)
      go Over e shared = absurd (true≢false (sym (h.over latch ∙ ap is_over e) ∙ closed))

  claims_on : (c : ℕ) (s : State) → number (claims p who c s) ≢ 1
  claims_on c Empty = omega arith
  claims_on c (Evaluating t) = omega arith
  claims_on c (Waiting latch) = omega arith
  claims_on c (Done v) = omega arith

  installs_on : (c latch : ℕ) (s : State) → number (installs p who c latch s) ≢ 1
  installs_on c latch (Evaluating t) = if_unwaited (nat_eq t (named p latch)) _ _ (omega arith) (omega arith)
  installs_on c latch Empty = omega arith
  installs_on c latch (Waiting other) = omega arith
  installs_on c latch (Done v) = omega arith

  stores_on : (c : ℕ) (r : Option ℕ) (s : State) → number (stores p who c r s) ≢ 1
  stores_on c r (Evaluating t) = if_unwaited (nat_eq t (thread p who)) _ _ (omega arith) (omega arith)
  stores_on c r Empty = omega arith
  stores_on c r (Waiting other) = omega arith
  stores_on c r (Done v) = omega arith

  takes_on : (c : ℕ) (r : Option ℕ) (s : State) → number (takes p who c r s) ≢ 1
  takes_on c r (Waiting latch) = omega arith
  takes_on c r Empty = omega arith
  takes_on c r (Evaluating t) = omega arith
  takes_on c r (Done v) = omega arith

  swaps_on : (c : ℕ) (r : Option ℕ) (latch : ℕ) (s : State) → number (swaps p who c r latch s) ≢ 1
  swaps_on c r latch (Waiting other) = if_unwaited (nat_eq other latch) _ _ (omega arith) (omega arith)
  swaps_on c r latch Empty = omega arith
  swaps_on c r latch (Evaluating t) = omega arith
  swaps_on c r latch (Done v) = omega arith

  sleeps_on : (c latch : ℕ) → position p who ≡ Sleep c latch → (b : Bool) → is_open p latch ≡ b → sleeps p who c b ≡ Waits → WaitsWell p who
  sleeps_on c latch at true e w = unwaited (sleeps p who c true) (omega arith) w
  sleeps_on c latch at false e w = sleeper c latch at e

  next_waits : (pos : Pos) → position p who ≡ pos → next p who pos ≡ Waits → WaitsWell p who
  next_waits (Look c) at w = unwaited (next p who (Look c)) (omega arith) w
  next_waits (Claim c) at w = unwaited (claims p who c (content p c)) (claims_on c (content p c)) w
  next_waits (Store c r) at w = unwaited (stores p who c r (content p c)) (stores_on c r (content p c)) w
  next_waits (Take c r) at w = unwaited (takes p who c r (content p c)) (takes_on c r (content p c)) w
  next_waits (Swap c r latch) at w = unwaited (swaps p who c r latch (content p c)) (swaps_on c r latch (content p c)) w
  next_waits (Open latch r) at w = unwaited (next p who (Open latch r)) (omega arith) w
  next_waits (Mark c t) at w = unwaited (marks p who c t) (if_unwaited (nat_lt 0 p.spare) _ _ (omega arith) (omega arith)) w
  next_waits (Install c latch) at w = unwaited (installs p who c latch (content p c)) (installs_on c latch (content p c)) w
  next_waits (Sleep c latch) at w = sleeps_on c latch at (is_open p latch) refl w
  next_waits Idle at w = unwaited Refuses (omega arith) w
  next_waits (Body c) at w = unwaited Refuses (omega arith) w
  next_waits (Got v) at w = unwaited Refuses (omega arith) w
  next_waits Failed at w = unwaited Refuses (omega arith) w
  next_waits Cycle at w = unwaited Refuses (omega arith) w

  finish_waits : (pos : Pos) (r : Option ℕ) → finish p who pos r ≡ Waits → WaitsWell p who
  finish_waits (Body c) r w = unwaited (finish p who (Body c) r) (omega arith) w
  finish_waits Idle r w = unwaited Refuses (omega arith) w
  finish_waits (Look c) r w = unwaited Refuses (omega arith) w
  finish_waits (Claim c) r w = unwaited Refuses (omega arith) w
  finish_waits (Store c s) r w = unwaited Refuses (omega arith) w
  finish_waits (Take c s) r w = unwaited Refuses (omega arith) w
  finish_waits (Swap c s latch) r w = unwaited Refuses (omega arith) w
  finish_waits (Open latch s) r w = unwaited Refuses (omega arith) w
  finish_waits (Mark c t) r w = unwaited Refuses (omega arith) w
  finish_waits (Install c latch) r w = unwaited Refuses (omega arith) w
  finish_waits (Sleep c latch) r w = unwaited Refuses (omega arith) w
  finish_waits (Got v) r w = unwaited Refuses (omega arith) w
  finish_waits Failed r w = unwaited Refuses (omega arith) w
  finish_waits Cycle r w = unwaited Refuses (omega arith) w

  pub act_waits : (act : Act) → acted p who act ≡ Waits → WaitsWell p who
  act_waits (Read c) w = unwaited (read p who (position p who) c) (if_unwaited (has_ended (position p who) && nat_lt c (length p.cells)) _ _ (omega arith) (omega arith)) w
  act_waits (Return v) w = finish_waits (position p who) (Some v) w
  act_waits Throw w = finish_waits (position p who) None w
  act_waits Go w = next_waits (position p who) refl w

-- and waits wherever it goes on at a closed latch
pub barred_waits : (p : Protocol) (who : ℕ) (act : Act) → IsBarred p who act → acted p who act ≡ Waits
barred_waits p who act barred =
    ap (acted p who) barred.0 ∙ ap (next p who) barred.3 ∙ ap (sleeps p who barred.1) barred.4
