-- Each act keeps what every state keeps.
use Rattle.std.proofs.Common.{◌≡◌, ◌≢◌, ℕ, ◌<◌, List, length, Bool, true, false, nat_eq, nat_lt, Option, Some, None, sym, ap, subst, refl, ◌∙◌, arith, eqb-true, eq-eqb, true≢false, if◌then◌else◌, ◌&&◌, slice_set}
use Rattle.std.proofs.lemmas.Bool.{ltb-true}
use Rattle.lz_proto.specs.declared.state.State.{State}
use Rattle.lz_proto.specs.declared.state.State.TheVariants.{Empty, Evaluating, Waiting, Done}
use Rattle.lz_proto.specs.declared.pos.Pos.{Pos}
use Rattle.lz_proto.specs.declared.pos.Pos.TheVariants.{Idle, Look, Claim, Body, Store, Take, Swap, Open, Mark, Install, Sleep, Got, Failed, Cycle}
use Rattle.lz_proto.specs.declared.act.Act.{Act}
use Rattle.lz_proto.specs.declared.act.Act.TheVariants.{Read, Return, Throw, Go}
use Rattle.lz_proto.specs.Protocol.{Protocol, content, position, thread, is_open, named}
use Rattle.lz_proto.specs.Steps.{Outcome, Moves, Waits, Refuses, result_of, ended, has_ended, goes, looked, claims, installs, sleeps, stores, takes, swaps, next, read, finish, acted}
use Rattle.lz_proto.specs.Once.{is_inside}
use Rattle.lz_proto.specs.Kept.{Stage, Set, is_over, IsShared, IsLatched, Keeps, IsIdle, IsRun, Holds, IsHeld}
use Rattle.lz_proto.proofs.Kept.{is_opening, goes_keeps}
use Rattle.lz_proto.proofs.Writing.{claims_keep, stores_keep, swaps_keep}
use Rattle.lz_proto.proofs.Latches.{made, made_for, marks_keep, installs_keep, opens_keep}

abbrev pub number : Outcome → ℕ
number (Moves q) = 0
number Waits = 1
number Refuses = 2

abbrev behind : Protocol → Outcome → Protocol
behind p (Moves q) = q
behind p Waits = p
behind p Refuses = p

pub moves_same : {a b : Protocol} → Moves a ≡ Moves b → a ≡ b
moves_same {a} e = ap (behind a) e

-- an outcome that isn't a move
pub unmoved : (o : Outcome) (q : Protocol) → number o ≢ 0 → o ≡ Moves q → ⊥
unmoved o q ne e = ne (ap number e)

pub ended_keeps : (r : Option ℕ) (cells : List State) (n : ℕ) (stage : ℕ → Stage) (who : ℕ) → Keeps cells n stage who (ended r)
ended_keeps (Some v) cells n stage who = tt
ended_keeps None cells n stage who = tt

pub rests_closed : (pos : Pos) → has_ended pos ≡ true → is_opening pos ≡ false
rests_closed Idle e = refl
rests_closed (Look c) e = refl
rests_closed (Claim c) e = refl
rests_closed (Body c) e = refl
rests_closed (Store c r) e = refl
rests_closed (Take c r) e = refl
rests_closed (Swap c r latch) e = refl
rests_closed (Open latch r) e = absurd (true≢false (sym e))
rests_closed (Mark c t) e = refl
rests_closed (Install c latch) e = refl
rests_closed (Sleep c latch) e = refl
rests_closed (Got v) e = refl
rests_closed Failed e = refl
rests_closed Cycle e = refl

pub rests_outside : (pos : Pos) → has_ended pos ≡ true → (c : ℕ) → is_inside c pos ≡ false
rests_outside Idle e c = refl
rests_outside (Look d) e c = refl
rests_outside (Claim d) e c = refl
rests_outside (Body d) e c = absurd (true≢false (sym e))
rests_outside (Store d r) e c = absurd (true≢false (sym e))
rests_outside (Take d r) e c = absurd (true≢false (sym e))
rests_outside (Swap d r latch) e c = absurd (true≢false (sym e))
rests_outside (Open latch r) e c = refl
rests_outside (Mark d t) e c = refl
rests_outside (Install d latch) e c = refl
rests_outside (Sleep d latch) e c = refl
rests_outside (Got v) e c = refl
rests_outside Failed e c = refl
rests_outside Cycle e c = refl

pub evaluating_same : {a b : ℕ} → Evaluating a ≡ Evaluating b → a ≡ b
evaluating_same e = ap by_thread e
  where
    by_thread : State → ℕ
    by_thread (Evaluating t) = t
    by_thread other = 0

-- a latch in a cell was made
pub waits_for_made : (p : Protocol) (stage : ℕ → Stage) → Holds p stage → (c latch : ℕ) → content p c ≡ Waiting latch → latch < length p.opened
waits_for_made p stage h c latch is = made p.opened latch (h.over latch ∙ ap is_over (h.held c latch is))

module _ (p : Protocol) (stage : ℕ → Stage) (h : Holds p stage) (who : ℕ) (within : who < length p.at) where
  abbrev pub Kept : Outcome → Type 0
  Kept o = (q : Protocol) → o ≡ Moves q → IsHeld q

  refuses : Kept Refuses
  refuses q e = absurd (unmoved Refuses q (omega arith) e)

  -- what an accessor at this position relies on
  pub relied : (pos : Pos) → position p who ≡ pos → Keeps p.cells (length p.opened) stage who pos
  relied pos at = subst (Keeps p.cells (length p.opened) stage who) at (h.keeps who)

  -- it goes on, inside the same cells
  pub goes_on : (pos to : Pos) → position p who ≡ pos → is_opening pos ≡ false → ((c : ℕ) → is_inside c to ≡ is_inside c pos) → Keeps p.cells (length p.opened) stage who to → Kept (goes p who to)
  goes_on pos to at closed inside keep q e = subst IsHeld (moves_same e) (stage, goes_keeps p stage h who within pos to at closed inside keep)

  pub read_keeps : (pos : Pos) (c : ℕ) → position p who ≡ pos → Kept (read p who pos c)
  read_keeps pos c at = go (has_ended pos) (nat_lt c (length p.cells)) refl refl
    where
      go : (a b : Bool) → has_ended pos ≡ a → nat_lt c (length p.cells) ≡ b → Kept (if a && b then goes p who (Look c) else Refuses)
      go true true e n = goes_on pos (Look c) at (rests_closed pos e) (λ d. sym (rests_outside pos e d)) (ltb-true c (length p.cells) n)
      go true false e n = refuses
      go false b e n = refuses

  pub finish_keeps : (pos : Pos) (r : Option ℕ) → position p who ≡ pos → Kept (finish p who pos r)
  finish_keeps (Body c) r at = goes_on (Body c) (Store c r) at refl (λ d. refl) (relied (Body c) at)
  finish_keeps Idle r at = refuses
  finish_keeps (Look c) r at = refuses
  finish_keeps (Claim c) r at = refuses
  finish_keeps (Store c s) r at = refuses
  finish_keeps (Take c s) r at = refuses
  finish_keeps (Swap c s latch) r at = refuses
  finish_keeps (Open latch s) r at = refuses
  finish_keeps (Mark c t) r at = refuses
  finish_keeps (Install c latch) r at = refuses
  finish_keeps (Sleep c latch) r at = refuses
  finish_keeps (Got v) r at = refuses
  finish_keeps Failed r at = refuses
  finish_keeps Cycle r at = refuses

  pub look_keeps : (c : ℕ) → position p who ≡ Look c → (s : State) → content p c ≡ s → Kept (goes p who (looked p who c s))
  look_keeps c at Empty is = goes_on (Look c) (Claim c) at refl (λ d. refl) (relied (Look c) at)
  look_keeps c at (Evaluating t) is = go (nat_eq t (thread p who))
    where
      go : (b : Bool) → Kept (goes p who (if b then Cycle else Mark c t))
      go true = goes_on (Look c) Cycle at refl (λ d. refl) tt
      go false = goes_on (Look c) (Mark c t) at refl (λ d. refl) (relied (Look c) at)
  look_keeps c at (Waiting latch) is = go (nat_eq (named p latch) (thread p who))
    where
      set : stage latch ≡ Set c
      set = h.held c latch is

      go : (b : Bool) → Kept (goes p who (if b then Cycle else Sleep c latch))
      go true = goes_on (Look c) Cycle at refl (λ d. refl) tt
      go false = goes_on (Look c) (Sleep c latch) at refl (λ d. refl) (relied (Look c) at, made p.opened latch (h.over latch ∙ ap is_over set), subst (IsShared c) (sym set) refl)
  look_keeps c at (Done v) is = goes_on (Look c) (Got v) at refl (λ d. refl) tt

  pub claim_keeps : (c : ℕ) → position p who ≡ Claim c → (s : State) → content p c ≡ s → Kept (claims p who c s)
  claim_keeps c at Empty is = λ q e. subst IsHeld (moves_same e) (stage, claims_keep p stage h who within c (relied (Claim c) at) at is)
  claim_keeps c at (Evaluating t) is = goes_on (Claim c) (Look c) at refl (λ d. refl) (relied (Claim c) at)
  claim_keeps c at (Waiting latch) is = goes_on (Claim c) (Look c) at refl (λ d. refl) (relied (Claim c) at)
  claim_keeps c at (Done v) is = goes_on (Claim c) (Look c) at refl (λ d. refl) (relied (Claim c) at)

  pub install_keeps : (c latch : ℕ) → position p who ≡ Install c latch → (s : State) → content p c ≡ s → Kept (installs p who c latch s)
  install_keeps c latch at (Evaluating t) is = go (nat_eq t (named p latch)) refl
    where
      go : (b : Bool) → nat_eq t (named p latch) ≡ b → Kept (if b then Moves (record p { cells = slice_set p.cells c (Waiting latch); at = slice_set p.at who (Look c) }) else goes p who (Look c))
      go true e = λ q m. subst IsHeld (moves_same m) (_, installs_keep p stage h who within c latch t at is (eqb-true t (named p latch) e))
      go false e = goes_on (Install c latch) (Look c) at refl (λ d. refl) (relied (Install c latch) at).0
  install_keeps c latch at Empty is = goes_on (Install c latch) (Look c) at refl (λ d. refl) (relied (Install c latch) at).0
  install_keeps c latch at (Waiting other) is = goes_on (Install c latch) (Look c) at refl (λ d. refl) (relied (Install c latch) at).0
  install_keeps c latch at (Done v) is = goes_on (Install c latch) (Look c) at refl (λ d. refl) (relied (Install c latch) at).0

  pub sleep_keeps : (c latch : ℕ) → position p who ≡ Sleep c latch → (b : Bool) → Kept (sleeps p who c b)
  sleep_keeps c latch at true = goes_on (Sleep c latch) (Look c) at refl (λ d. refl) (relied (Sleep c latch) at).0
  sleep_keeps c latch at false = λ q e. absurd (unmoved Waits q (omega arith) e)

  -- who stores a result is the one that runs the cell
  runs_here : (q : Pos) (c t : ℕ) → position p who ≡ q → is_inside c q ≡ true → content p c ≡ Evaluating t → t ≡ thread p who
  runs_here q c t at inside is =
      let run = subst (IsRun p c) is (h.runs c) in
      let same : run.0 ≡ who = h.one c who run.0 (ap (is_inside c) at ∙ inside) run.1 in
      sym run.2 ∙ ap (thread p) same

  busy_here : (q : Pos) (c : ℕ) → position p who ≡ q → is_inside c q ≡ true → IsIdle p c → ⊥
  busy_here q c at inside idle = true≢false (sym (ap (is_inside c) at ∙ inside) ∙ idle who)

  pub store_keeps : (c : ℕ) (r : Option ℕ) → position p who ≡ Store c r → (s : State) → content p c ≡ s → Kept (stores p who c r s)
  store_keeps c r at (Evaluating t) is = go (nat_eq t (thread p who)) refl
    where
      go : (b : Bool) → nat_eq t (thread p who) ≡ b → Kept (if b then Moves (record p { cells = slice_set p.cells c (result_of r); at = slice_set p.at who (ended r) }) else goes p who (Take c r))
      go true e = λ q m. subst IsHeld (moves_same m) (stage, stores_keep p stage h who within c (relied (Store c r) at) r t at is (ended_keeps r (slice_set p.cells c (result_of r)) (length p.opened) stage who))
      go false e = absurd (true≢false (sym (eq-eqb t (thread p who) (runs_here (Store c r) c t at (eq-eqb c c refl) is)) ∙ e))
  store_keeps c r at Empty is = absurd (busy_here (Store c r) c at (eq-eqb c c refl) (subst (IsRun p c) is (h.runs c)))
  store_keeps c r at (Waiting latch) is =
      goes_on (Store c r) (Take c r) at refl (λ d. refl) (relied (Store c r) at, subst IsLatched (sym is) tt)
  store_keeps c r at (Done v) is = absurd (busy_here (Store c r) c at (eq-eqb c c refl) (subst (IsRun p c) is (h.runs c)))

  pub take_keeps : (c : ℕ) (r : Option ℕ) → position p who ≡ Take c r → (s : State) → content p c ≡ s → Kept (takes p who c r s)
  take_keeps c r at (Waiting latch) is =
      goes_on (Take c r) (Swap c r latch) at refl (λ d. refl) ((relied (Take c r) at).0, is)
  take_keeps c r at Empty is = refuses
  take_keeps c r at (Evaluating t) is = refuses
  take_keeps c r at (Done v) is = refuses

  pub swap_keeps : (c : ℕ) (r : Option ℕ) (latch : ℕ) → position p who ≡ Swap c r latch → (s : State) → content p c ≡ s → Kept (swaps p who c r latch s)
  swap_keeps c r latch at (Waiting other) is = go (nat_eq other latch) refl
    where
      go : (b : Bool) → nat_eq other latch ≡ b → Kept (if b then Moves (record p { cells = slice_set p.cells c (result_of r); at = slice_set p.at who (Open latch r) }) else Refuses)
      go true e = λ q m. subst IsHeld (moves_same m) (_, swaps_keep p stage h who within c (relied (Swap c r latch) at).0 r latch at (is ∙ ap Waiting (eqb-true other latch e)))
      go false e = refuses
  swap_keeps c r latch at Empty is = refuses
  swap_keeps c r latch at (Evaluating t) is = refuses
  swap_keeps c r latch at (Done v) is = refuses

  mark_keeps : (c t : ℕ) → position p who ≡ Mark c t → (b : Bool) → Kept (if b then Moves (made_for p who c t) else Refuses)
  mark_keeps c t at true = λ q e. subst IsHeld (moves_same e) (_, marks_keep p stage h who within c t at)
  mark_keeps c t at false = refuses

  pub next_keeps : (pos : Pos) → position p who ≡ pos → Kept (next p who pos)
  next_keeps (Look c) at = look_keeps c at (content p c) refl
  next_keeps (Claim c) at = claim_keeps c at (content p c) refl
  next_keeps (Store c r) at = store_keeps c r at (content p c) refl
  next_keeps (Take c r) at = take_keeps c r at (content p c) refl
  next_keeps (Swap c r latch) at = swap_keeps c r latch at (content p c) refl
  next_keeps (Open latch r) at = λ q e. subst IsHeld (moves_same e) (_, opens_keep p stage h who within latch r at (λ cells n stage. ended_keeps r cells n stage who))
  next_keeps (Mark c t) at = mark_keeps c t at (nat_lt 0 p.spare)
  next_keeps (Install c latch) at = install_keeps c latch at (content p c) refl
  next_keeps (Sleep c latch) at = sleep_keeps c latch at (is_open p latch)
  next_keeps Idle at = refuses
  next_keeps (Body c) at = refuses
  next_keeps (Got v) at = refuses
  next_keeps Failed at = refuses
  next_keeps Cycle at = refuses

  pub act_keeps : (act : Act) → Kept (acted p who act)
  act_keeps (Read c) = read_keeps (position p who) c refl
  act_keeps (Return v) = finish_keeps (position p who) (Some v) refl
  act_keeps Throw = finish_keeps (position p who) None refl
  act_keeps Go = next_keeps (position p who) refl

  -- what the field holds where a result isn't stored at once
  pub left_latched : (c : ℕ) (r : Option ℕ) → position p who ≡ Store c r → ((t : ℕ) → content p c ≡ Evaluating t → t ≡ thread p who → ⊥) → IsLatched (content p c)
  left_latched c r at other = go (content p c) refl
    where
      go : (s : State) → content p c ≡ s → IsLatched s
      go Empty is = absurd (busy_here (Store c r) c at (eq-eqb c c refl) (subst (IsRun p c) is (h.runs c)))
      go (Evaluating t) is = absurd (other t is (runs_here (Store c r) c t at (eq-eqb c c refl) is))
      go (Waiting latch) is = tt
      go (Done v) is = absurd (busy_here (Store c r) c at (eq-eqb c c refl) (subst (IsRun p c) is (h.runs c)))
