-- An act is refused exactly where the accessor can't do it, or there is no room.
use Rattle.std.proofs.Common.{◌≡◌, ◌≢◌, ℕ, ◌<◌, ◌≤◌, length, Bool, true, false, nat_eq, nat_lt, Option, Some, None, ◌⊎◌, inl, inr, sym, ap, subst, refl, ◌∙◌, arith, eq-eqb, true≢false, if◌then◌else◌, ◌&&◌}
use Rattle.std.proofs.lemmas.Bool.{ltb-true}
use Rattle.lz_proto.specs.declared.state.State.{State}
use Rattle.lz_proto.specs.declared.state.State.TheVariants.{Empty, Evaluating, Waiting, Done}
use Rattle.lz_proto.specs.declared.pos.Pos.{Pos}
use Rattle.lz_proto.specs.declared.pos.Pos.TheVariants.{Idle, Look, Claim, Body, Store, Take, Swap, Open, Mark, Install, Sleep, Got, Failed, Cycle}
use Rattle.lz_proto.specs.declared.act.Act.{Act}
use Rattle.lz_proto.specs.declared.act.Act.TheVariants.{Read, Return, Throw, Go}
use Rattle.lz_proto.specs.Protocol.{Protocol, content, position, thread, is_open, named}
use Rattle.lz_proto.specs.Steps.{Outcome, Moves, Refuses, has_ended, goes, marks, claims, installs, sleeps, stores, takes, swaps, next, read, finish, acted}
use Rattle.lz_proto.specs.Kept.{Stage, IsLatched, Keeps, Holds}
use Rattle.lz_proto.specs.Causes.{is_in_body, IsWrong, IsFull}
use Rattle.lz_proto.proofs.Latches.{made_for}
use Rattle.lz_proto.proofs.Acting.{number}

-- an outcome that is no refusal
made : {A : Type 0} (o : Outcome) → number o ≢ 2 → o ≡ Refuses → A
made o ne e = absurd (ne (ap number e))

if_made : (b : Bool) (x y : Outcome) → number x ≢ 2 → number y ≢ 2 → number (if b then x else y) ≢ 2
if_made true x y nx ny = nx
if_made false x y nx ny = ny

-- its own next step isn't there, or would make a latch without room
abbrev Stuck : Protocol → Pos → Type 0
Stuck p pos = ((has_ended pos ≡ true) ⊎ (is_in_body pos ≡ true)) ⊎ ((c : ℕ) × (t : ℕ) × (pos ≡ Mark c t) × (p.spare ≡ 0))

module _ (p : Protocol) (who : ℕ) where
  claims_made : (c : ℕ) (s : State) → number (claims p who c s) ≢ 2
  claims_made c Empty = omega arith
  claims_made c (Evaluating t) = omega arith
  claims_made c (Waiting latch) = omega arith
  claims_made c (Done v) = omega arith

  installs_made : (c latch : ℕ) (s : State) → number (installs p who c latch s) ≢ 2
  installs_made c latch (Evaluating t) = if_made (nat_eq t (named p latch)) _ _ (omega arith) (omega arith)
  installs_made c latch Empty = omega arith
  installs_made c latch (Waiting other) = omega arith
  installs_made c latch (Done v) = omega arith

  stores_made : (c : ℕ) (r : Option ℕ) (s : State) → number (stores p who c r s) ≢ 2
  stores_made c r (Evaluating t) = if_made (nat_eq t (thread p who)) _ _ (omega arith) (omega arith)
  stores_made c r Empty = omega arith
  stores_made c r (Waiting other) = omega arith
  stores_made c r (Done v) = omega arith

  sleeps_made : (c : ℕ) (b : Bool) → number (sleeps p who c b) ≢ 2
  sleeps_made c true = omega arith
  sleeps_made c false = omega arith

  takes_made : (c : ℕ) (r : Option ℕ) (s : State) → IsLatched s → number (takes p who c r s) ≢ 2
  takes_made c r (Waiting latch) l = omega arith
  takes_made c r Empty l = absurd l
  takes_made c r (Evaluating t) l = absurd l
  takes_made c r (Done v) l = absurd l

  swaps_made : (c : ℕ) (r : Option ℕ) (latch : ℕ) → number (swaps p who c r latch (Waiting latch)) ≢ 2
  swaps_made c r latch = rw (eq-eqb latch latch refl) (omega arith)

  marks_refused : (c t : ℕ) → marks p who c t ≡ Refuses → Stuck p (Mark c t)
  marks_refused c t e = go (nat_lt 0 p.spare) refl e
    where
      go : (b : Bool) → nat_lt 0 p.spare ≡ b → (if b then Moves (made_for p who c t) else Refuses) ≡ Refuses → Stuck p (Mark c t)
      go true n e = made (Moves (made_for p who c t)) (omega arith) e
      go false n e = inr (c, t, refl, none p.spare n)
        where
          none : (n : ℕ) → nat_lt 0 n ≡ false → n ≡ 0
          none n e = grind (arith, e)

module _ (p : Protocol) (stage : ℕ → Stage) (h : Holds p stage) (who : ℕ) where
  next_refused : (pos : Pos) → position p who ≡ pos → next p who pos ≡ Refuses → Stuck p pos
  next_refused (Look c) at e = made (next p who (Look c)) (omega arith) e
  next_refused (Claim c) at e = made (claims p who c (content p c)) (claims_made p who c (content p c)) e
  next_refused (Store c r) at e = made (stores p who c r (content p c)) (stores_made p who c r (content p c)) e
  next_refused (Take c r) at e = made (takes p who c r (content p c)) (takes_made p who c r (content p c) (subst (Keeps p.cells (length p.opened) stage who) at (h.keeps who)).1) e
  next_refused (Swap c r latch) at e =
      made (swaps p who c r latch (content p c)) (subst (λ s. number (swaps p who c r latch s) ≢ 2) (sym (subst (Keeps p.cells (length p.opened) stage who) at (h.keeps who)).1) (swaps_made p who c r latch)) e
  next_refused (Open latch r) at e = made (next p who (Open latch r)) (omega arith) e
  next_refused (Mark c t) at e = marks_refused p who c t e
  next_refused (Install c latch) at e = made (installs p who c latch (content p c)) (installs_made p who c latch (content p c)) e
  next_refused (Sleep c latch) at e = made (sleeps p who c (is_open p latch)) (sleeps_made p who c (is_open p latch)) e
  next_refused Idle at e = inl (inl refl)
  next_refused (Body c) at e = inl (inr refl)
  next_refused (Got v) at e = inl (inl refl)
  next_refused Failed at e = inl (inl refl)
  next_refused Cycle at e = inl (inl refl)

  finish_refused : (pos : Pos) (r : Option ℕ) → finish p who pos r ≡ Refuses → is_in_body pos ≡ false
  finish_refused (Body c) r e = made (finish p who (Body c) r) (omega arith) e
  finish_refused Idle r e = refl
  finish_refused (Look c) r e = refl
  finish_refused (Claim c) r e = refl
  finish_refused (Store c s) r e = refl
  finish_refused (Take c s) r e = refl
  finish_refused (Swap c s latch) r e = refl
  finish_refused (Open latch s) r e = refl
  finish_refused (Mark c t) r e = refl
  finish_refused (Install c latch) r e = refl
  finish_refused (Sleep c latch) r e = refl
  finish_refused (Got v) r e = refl
  finish_refused Failed r e = refl
  finish_refused Cycle r e = refl

  read_refused : (c : ℕ) → read p who (position p who) c ≡ Refuses → IsWrong p who (Read c)
  read_refused c e = go (has_ended (position p who)) (nat_lt c (length p.cells)) refl refl e
    where
      go : (a b : Bool) → has_ended (position p who) ≡ a → nat_lt c (length p.cells) ≡ b → (if a && b then goes p who (Look c) else Refuses) ≡ Refuses → IsWrong p who (Read c)
      go true true a b e = made (goes p who (Look c)) (omega arith) e
      go true false a b e = inr (past c (length p.cells) b)
        where
          past : (m n : ℕ) → nat_lt m n ≡ false → n ≤ m
          past m n e = grind (arith, e)
      go false b a n e = inl a

  pub act_refused : (act : Act) → acted p who act ≡ Refuses → IsWrong p who act ⊎ IsFull p who act
  act_refused (Read c) e = inl (read_refused c e)
  act_refused (Return v) e = inl (finish_refused (position p who) (Some v) e)
  act_refused Throw e = inl (finish_refused (position p who) None e)
  act_refused Go e = go (next_refused (position p who) refl e)
    where
      go : Stuck p (position p who) → IsWrong p who Go ⊎ IsFull p who Go
      go (inl wrong) = inl wrong
      go (inr full) = inr (refl, full.0, full.1, full.2, full.3)

module _ (p : Protocol) (who : ℕ) where
  finish_wrong : (pos : Pos) (r : Option ℕ) → is_in_body pos ≡ false → finish p who pos r ≡ Refuses
  finish_wrong (Body c) r e = absurd (true≢false e)
  finish_wrong Idle r e = refl
  finish_wrong (Look c) r e = refl
  finish_wrong (Claim c) r e = refl
  finish_wrong (Store c s) r e = refl
  finish_wrong (Take c s) r e = refl
  finish_wrong (Swap c s latch) r e = refl
  finish_wrong (Open latch s) r e = refl
  finish_wrong (Mark c t) r e = refl
  finish_wrong (Install c latch) r e = refl
  finish_wrong (Sleep c latch) r e = refl
  finish_wrong (Got v) r e = refl
  finish_wrong Failed r e = refl
  finish_wrong Cycle r e = refl

  next_ended : (pos : Pos) → has_ended pos ≡ true → next p who pos ≡ Refuses
  next_ended Idle e = refl
  next_ended (Look c) e = absurd (true≢false (sym e))
  next_ended (Claim c) e = absurd (true≢false (sym e))
  next_ended (Body c) e = refl
  next_ended (Store c r) e = absurd (true≢false (sym e))
  next_ended (Take c r) e = absurd (true≢false (sym e))
  next_ended (Swap c r latch) e = absurd (true≢false (sym e))
  next_ended (Open latch r) e = absurd (true≢false (sym e))
  next_ended (Mark c t) e = absurd (true≢false (sym e))
  next_ended (Install c latch) e = absurd (true≢false (sym e))
  next_ended (Sleep c latch) e = absurd (true≢false (sym e))
  next_ended (Got v) e = refl
  next_ended Failed e = refl
  next_ended Cycle e = refl

  next_body : (pos : Pos) → is_in_body pos ≡ true → next p who pos ≡ Refuses
  next_body (Body c) e = refl
  next_body Idle e = absurd (true≢false (sym e))
  next_body (Look c) e = absurd (true≢false (sym e))
  next_body (Claim c) e = absurd (true≢false (sym e))
  next_body (Store c r) e = absurd (true≢false (sym e))
  next_body (Take c r) e = absurd (true≢false (sym e))
  next_body (Swap c r latch) e = absurd (true≢false (sym e))
  next_body (Open latch r) e = absurd (true≢false (sym e))
  next_body (Mark c t) e = absurd (true≢false (sym e))
  next_body (Install c latch) e = absurd (true≢false (sym e))
  next_body (Sleep c latch) e = absurd (true≢false (sym e))
  next_body (Got v) e = absurd (true≢false (sym e))
  next_body Failed e = absurd (true≢false (sym e))
  next_body Cycle e = absurd (true≢false (sym e))

  read_wrong : (c : ℕ) → IsWrong p who (Read c) → read p who (position p who) c ≡ Refuses
  read_wrong c (inl e) = rw e refl
  read_wrong c (inr past) = go (has_ended (position p who)) (nat_lt c (length p.cells)) refl
    where
      go : (a b : Bool) → nat_lt c (length p.cells) ≡ b → (if a && b then goes p who (Look c) else Refuses) ≡ Refuses
      go true true e = let within : c < length p.cells = ltb-true c (length p.cells) e in absurd (omega arith)
      go true false e = refl
      go false b e = refl

  wrong_refused : (act : Act) → IsWrong p who act → acted p who act ≡ Refuses
  wrong_refused (Read c) w = read_wrong c w
  wrong_refused (Return v) w = finish_wrong (position p who) (Some v) w
  wrong_refused Throw w = finish_wrong (position p who) None w
  wrong_refused Go (inl e) = next_ended (position p who) e
  wrong_refused Go (inr e) = next_body (position p who) e

  full_refused : (act : Act) → IsFull p who act → acted p who act ≡ Refuses
  full_refused act full =
      ap (acted p who) full.0 ∙ ap (next p who) full.3 ∙ no_room full.1 full.2 full.4
    where
      no_room : (c t : ℕ) → p.spare ≡ 0 → marks p who c t ≡ Refuses
      no_room c t e = rw (ap (nat_lt 0) e) refl

  pub is_refused : (act : Act) → IsWrong p who act ⊎ IsFull p who act → acted p who act ≡ Refuses
  is_refused act (inl w) = wrong_refused act w
  is_refused act (inr full) = full_refused act full
