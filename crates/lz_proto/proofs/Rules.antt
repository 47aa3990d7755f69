-- Each act is a step by the rules.
use Rattle.std.proofs.Common.{◌≡◌, ◌≢◌, ℕ, ◌<◌, length, get_or, slice_set, Bool, true, false, nat_eq, nat_lt, Option, Some, None, sym, ap, subst, refl, ◌∙◌, arith, eqb-true, eq-eqb, ne_eqb, if◌then◌else◌, ◌&&◌}
use Rattle.lz_proto.specs.declared.state.State.{State}
use Rattle.lz_proto.specs.declared.state.State.TheVariants.{Empty, Evaluating, Waiting, Done}
use Rattle.lz_proto.specs.declared.pos.Pos.{Pos}
use Rattle.lz_proto.specs.declared.pos.Pos.TheVariants.{Idle, Look, Claim, Body, Store, Take, Swap, Open, Mark, Install, Sleep, Got, Failed, Cycle}
use Rattle.lz_proto.specs.declared.once.Once.{Once}
use Rattle.lz_proto.specs.declared.once.Once.TheVariants as once
use Rattle.lz_proto.specs.declared.act.Act.{Act}
use Rattle.lz_proto.specs.declared.act.Act.TheVariants.{Read, Return, Throw, Go}
use Rattle.lz_proto.specs.Protocol.{Protocol, content, position, thread, is_open, named}
use Rattle.lz_proto.specs.Steps.{Outcome, Moves, Waits, Refuses, result_of, ended, has_ended, goes, looked, claims, installs, sleeps, stores, takes, swaps, next, read, finish, acted}
use Rattle.lz_proto.specs.Once.{is_inside, abstract_of, once_of, Ends, Tells, task, Rule, enters, gives, meets, returns, throws, fails, Follows, Shows, silent, begins, moves, IsExchange, claim, store, swap, Runs}
use Rattle.lz_proto.specs.Once.{stores as stores_value}
use Rattle.lz_proto.specs.Kept.{Stage, IsRunBy, IsRun, Holds, IsHeld}
use Rattle.lz_proto.proofs.Kept.{inside_same, moved_there, written_there, written_other}
use Rattle.runs.proofs.Putting.{everywhere}
use Rattle.lz_proto.proofs.Writing.{ended_outside}
use Rattle.lz_proto.proofs.Acting.{moves_same, unmoved, act_keeps, relied, rests_outside}
use Rattle.lz_proto.proofs.Latches.{made_for}
use Rattle.lz_proto.proofs.Standing.{others_stand, threads_stay}
use Rattle.lz_proto.proofs.Following.{Alike, alike_self, once_stays, running_of}

module _ (p : Protocol) (stage : ℕ → Stage) (h : Holds p stage) (who : ℕ) (within : who < length p.at) where
  abbrev pub Ruled : Act → Outcome → Type 0
  Ruled act o = (q : Protocol) → o ≡ Moves q → Shows p who act q

  refuses : {act : Act} → Ruled act Refuses
  refuses q e = absurd (unmoved Refuses q (omega arith) e)

  -- a state behind a step in which cells are alike and the same accessors are inside
  module _ (act : Act) (pos to : Pos) (at : position p who ≡ pos) (q : Protocol) (kept : IsHeld q) (moved : (u : ℕ) → position q u ≡ get_or (slice_set p.at who to) u Idle) where
    pub stay : ((d : ℕ) → is_inside d to ≡ is_inside d pos) → ((d : ℕ) → Alike (content p d) (content q d)) → (d : ℕ) → abstract_of q d ≡ abstract_of p d
    stay inside alike d =
        once_stays p q stage kept.0 h kept.1 d (content p d) (content q d) refl refl (alike d) (λ u. ap (is_inside d) (moved u) ∙ inside_same p stage h who within pos to at d (inside d) u)

    there : position q who ≡ to
    there = moved who ∙ moved_there p stage h who within pos to at

    pub quiet : ((d : ℕ) → is_inside d to ≡ is_inside d pos) → ((d : ℕ) → Alike (content p d) (content q d)) → act ≡ Go → task to ≡ task pos → Shows p who act q
    quiet inside alike go same = silent go (stay inside alike) (ap task there ∙ same ∙ ap task (sym at))

    -- a move by the rules that leaves all cells as they are
    pub told : (c : ℕ) → ((d : ℕ) → is_inside d to ≡ is_inside d pos) → ((d : ℕ) → Alike (content p d) (content q d)) → (o : Once) → abstract_of p c ≡ o → Rule p who c act o (task pos) o (task to) → Shows p who act q
    told c inside alike o is rule =
        let same = stay inside alike in
        moves c (λ d ne. same d) (rw (at, there, same c, is) rule) (λ ne. absurd (ne (same c)))

    -- a move by the rules that gives a cell a new content
    pub wrote : (c : ℕ) (here : c < length p.cells) (new : State) → ((d : ℕ) → content q d ≡ get_or (slice_set p.cells c new) d Empty) → ((d : ℕ) → d ≢ c → is_inside d to ≡ is_inside d pos) → (a b : Once) → abstract_of p c ≡ a → abstract_of q c ≡ b → Rule p who c act a (task pos) b (task to) → IsExchange c pos → Shows p who act q
    wrote c here new written inside a b was is rule exchange =
        moves c
        (λ d ne. once_stays p q stage kept.0 h kept.1 d (content p d) (content q d) refl refl (subst (Alike (content p d)) (sym (written d ∙ written_other p stage h who within pos to at c here new d ne)) (alike_self (content p d))) (λ u. ap (is_inside d) (moved u) ∙ inside_same p stage h who within pos to at d (inside d ne) u))
        (rw (at, there, was, is) rule)
        (λ ne. subst (IsExchange c) (sym at) exchange)

  -- it goes on, and nothing is seen of it
  passes : (act : Act) (pos to : Pos) → act ≡ Go → position p who ≡ pos → acted p who act ≡ goes p who to → ((d : ℕ) → is_inside d to ≡ is_inside d pos) → task to ≡ task pos → Ruled act (goes p who to)
  passes act pos to go at is inside same q e =
      subst (Shows p who act) (moves_same e)
      (quiet act pos to at (record p { at = slice_set p.at who to }) (act_keeps p stage h who within act _ is) (λ u. refl) inside (λ d. alike_self (content p d)) go same)

  -- it goes on with a move by the rules that leaves all cells as they are
  tells_of : (act : Act) (pos to : Pos) → position p who ≡ pos → acted p who act ≡ goes p who to → ((d : ℕ) → is_inside d to ≡ is_inside d pos) → (c : ℕ) (o : Once) → abstract_of p c ≡ o → Rule p who c act o (task pos) o (task to) → Ruled act (goes p who to)
  tells_of act pos to at is inside c o was rule q e =
      subst (Shows p who act) (moves_same e)
      (told act pos to at (record p { at = slice_set p.at who to }) (act_keeps p stage h who within act _ is) (λ u. refl) c inside (λ d. alike_self (content p d)) o was rule)

  idle_done : (c v : ℕ) → content p c ≡ Done v → abstract_of p c ≡ once.Done v
  idle_done c v is = ap (once_of p c) is

  idle_empty : (c : ℕ) → content p c ≡ Empty → abstract_of p c ≡ once.Empty
  idle_empty c is = ap (once_of p c) is

  read_follows : (c : ℕ) (pos : Pos) → position p who ≡ pos → acted p who (Read c) ≡ read p who pos c → Ruled (Read c) (read p who pos c)
  read_follows c pos at is = go (has_ended pos) (nat_lt c (length p.cells)) refl refl
    where
      go : (a b : Bool) → has_ended pos ≡ a → nat_lt c (length p.cells) ≡ b → Ruled (Read c) (if a && b then goes p who (Look c) else Refuses)
      go true true e n = λ q m. subst (Shows p who (Read c)) (moves_same m) (
          let to : Protocol = record p { at = slice_set p.at who (Look c) } in
          let kept : IsHeld to = act_keeps p stage h who within (Read c) to (is ∙ rw (e, n) refl) in
          begins c refl (stay (Read c) pos (Look c) at to kept (λ u. refl) (λ d. sym (rests_outside pos e d)) (λ d. alike_self (content p d))) (ap has_ended at ∙ e) (ap task (moved_there p stage h who within pos (Look c) at))
          )
      go true false e n = refuses
      go false b e n = refuses

  finish_follows : (act : Act) (r : Option ℕ) (pos : Pos) → ((c : ℕ) → Rule p who c act (once.Running who) (Runs c) (once.Running who) (Ends c r)) → position p who ≡ pos → acted p who act ≡ finish p who pos r → Ruled act (finish p who pos r)
  finish_follows act r (Body c) ends at is = λ q m. subst (Shows p who act) (moves_same m) (
      let to : Protocol = record p { at = slice_set p.at who (Store c r) } in
      told act (Body c) (Store c r) at to (act_keeps p stage h who within act to is) (λ u. refl) c (λ d. refl) (λ d. alike_self (content p d)) (once.Running who) (running_of p stage h c who (ap (is_inside c) at ∙ eq-eqb c c refl)) (ends c)
      )
  finish_follows act r Idle ends at is = refuses
  finish_follows act r (Look c) ends at is = refuses
  finish_follows act r (Claim c) ends at is = refuses
  finish_follows act r (Store c s) ends at is = refuses
  finish_follows act r (Take c s) ends at is = refuses
  finish_follows act r (Swap c s latch) ends at is = refuses
  finish_follows act r (Open latch s) ends at is = refuses
  finish_follows act r (Mark c t) ends at is = refuses
  finish_follows act r (Install c latch) ends at is = refuses
  finish_follows act r (Sleep c latch) ends at is = refuses
  finish_follows act r (Got v) ends at is = refuses
  finish_follows act r Failed ends at is = refuses
  finish_follows act r Cycle ends at is = refuses

  -- a cell that names the accessor's own thread is run by an accessor of that thread
  meets_follow : (c t : ℕ) → position p who ≡ Look c → acted p who Go ≡ goes p who Cycle → IsRunBy p c t → t ≡ thread p who → Ruled Go (goes p who Cycle)
  meets_follow c t at is run own =
      tells_of Go (Look c) Cycle at is (λ d. refl) c (once.Running run.0) (running_of p stage h c run.0 run.1) (meets run.0 (run.2 ∙ own))

  look_follows : (c : ℕ) → position p who ≡ Look c → (s : State) → content p c ≡ s → acted p who Go ≡ goes p who (looked p who c s) → Ruled Go (goes p who (looked p who c s))
  look_follows c at Empty held = λ is. passes Go (Look c) (Claim c) refl at is (λ d. refl) refl
  look_follows c at (Evaluating t) held = go (nat_eq t (thread p who)) refl
    where
      go : (b : Bool) → nat_eq t (thread p who) ≡ b → acted p who Go ≡ goes p who (if b then Cycle else Mark c t) → Ruled Go (goes p who (if b then Cycle else Mark c t))
      go true e is = meets_follow c t at is (subst (IsRun p c) held (h.runs c)) (eqb-true t (thread p who) e)
      go false e is = passes Go (Look c) (Mark c t) refl at is (λ d. refl) refl
  look_follows c at (Waiting latch) held = go (nat_eq (named p latch) (thread p who)) refl
    where
      go : (b : Bool) → nat_eq (named p latch) (thread p who) ≡ b → acted p who Go ≡ goes p who (if b then Cycle else Sleep c latch) → Ruled Go (goes p who (if b then Cycle else Sleep c latch))
      go true e is = meets_follow c (named p latch) at is (subst (IsRun p c) held (h.runs c)) (eqb-true (named p latch) (thread p who) e)
      go false e is = passes Go (Look c) (Sleep c latch) refl at is (λ d. refl) refl
  look_follows c at (Done v) held = λ is. tells_of Go (Look c) (Got v) at is (λ d. refl) c (once.Done v) (idle_done c v held) (gives v)

  claim_follows : (c : ℕ) → position p who ≡ Claim c → (s : State) → content p c ≡ s → acted p who Go ≡ claims p who c s → Ruled Go (claims p who c s)
  claim_follows c at Empty held is q m = subst (Shows p who Go) (moves_same m) (
      let new : State = Evaluating (thread p who) in
      let to : Protocol = record p { cells = slice_set p.cells c new; at = slice_set p.at who (Body c) } in
      let kept : IsHeld to = act_keeps p stage h who within Go to is in
      wrote Go (Claim c) (Body c) at to kept (λ u. refl) c (relied p stage h who within (Claim c) at) new (λ d. refl) (λ d ne. ne_eqb c d (λ e. ne (sym e))) once.Empty (once.Running who) (idle_empty c held) (running_of to kept.0 kept.1 c who (ap (is_inside c) (moved_there p stage h who within (Claim c) (Body c) at) ∙ eq-eqb c c refl)) enters claim
      )
  claim_follows c at (Evaluating t) held is q m = passes Go (Claim c) (Look c) refl at is (λ d. refl) refl q m
  claim_follows c at (Waiting latch) held is q m = passes Go (Claim c) (Look c) refl at is (λ d. refl) refl q m
  claim_follows c at (Done v) held is q m = passes Go (Claim c) (Look c) refl at is (λ d. refl) refl q m

  -- a result is written where its accessor runs the cell
  result_follows : (c : ℕ) (r : Option ℕ) (pos to : Pos) (at : position p who ≡ pos) → c < length p.cells → is_inside c pos ≡ true → task pos ≡ Ends c r → task to ≡ Tells r → ((d : ℕ) → d ≢ c → is_inside d to ≡ is_inside d pos) → IsExchange c pos → (kept : IsHeld (record p { cells = slice_set p.cells c (result_of r); at = slice_set p.at who to })) → Shows p who Go (record p { cells = slice_set p.cells c (result_of r); at = slice_set p.at who to })
  result_follows c (Some v) pos to at here inside before behind others exchange kept =
      wrote Go pos to at (record p { cells = slice_set p.cells c (Done v); at = slice_set p.at who to }) kept (λ u. refl) c here (Done v) (λ d. refl) others (once.Running who) (once.Done v) (running_of p stage h c who (ap (is_inside c) at ∙ inside)) (ap (once_of (record p { cells = slice_set p.cells c (Done v); at = slice_set p.at who to }) c) (written_there p stage h who within pos to at c here (Done v))) (rw (before, behind) (stores_value v)) exchange
  result_follows c None pos to at here inside before behind others exchange kept =
      wrote Go pos to at (record p { cells = slice_set p.cells c Empty; at = slice_set p.at who to }) kept (λ u. refl) c here Empty (λ d. refl) others (once.Running who) once.Empty (running_of p stage h c who (ap (is_inside c) at ∙ inside)) (ap (once_of (record p { cells = slice_set p.cells c Empty; at = slice_set p.at who to }) c) (written_there p stage h who within pos to at c here Empty)) (rw (before, behind) fails) exchange

  ended_task : (r : Option ℕ) → task (ended r) ≡ Tells r
  ended_task (Some v) = refl
  ended_task None = refl

  store_follows : (c : ℕ) (r : Option ℕ) → position p who ≡ Store c r → (s : State) → acted p who Go ≡ stores p who c r s → Ruled Go (stores p who c r s)
  store_follows c r at (Evaluating t) = go (nat_eq t (thread p who))
    where
      go : (b : Bool) → acted p who Go ≡ (if b then Moves (record p { cells = slice_set p.cells c (result_of r); at = slice_set p.at who (ended r) }) else goes p who (Take c r)) → Ruled Go (if b then Moves (record p { cells = slice_set p.cells c (result_of r); at = slice_set p.at who (ended r) }) else goes p who (Take c r))
      go true is q m = subst (Shows p who Go) (moves_same m) (result_follows c r (Store c r) (ended r) at (relied p stage h who within (Store c r) at) (eq-eqb c c refl) refl (ended_task r) (λ d ne. ended_outside d r ∙ sym (ne_eqb c d (λ e. ne (sym e)))) (store r) (act_keeps p stage h who within Go _ is))
      go false is q m = passes Go (Store c r) (Take c r) refl at is (λ d. refl) refl q m
  store_follows c r at Empty = λ is. passes Go (Store c r) (Take c r) refl at is (λ d. refl) refl
  store_follows c r at (Waiting latch) = λ is. passes Go (Store c r) (Take c r) refl at is (λ d. refl) refl
  store_follows c r at (Done v) = λ is. passes Go (Store c r) (Take c r) refl at is (λ d. refl) refl

  take_follows : (c : ℕ) (r : Option ℕ) → position p who ≡ Take c r → (s : State) → acted p who Go ≡ takes p who c r s → Ruled Go (takes p who c r s)
  take_follows c r at (Waiting latch) is = passes Go (Take c r) (Swap c r latch) refl at is (λ d. refl) refl
  take_follows c r at Empty is = refuses
  take_follows c r at (Evaluating t) is = refuses
  take_follows c r at (Done v) is = refuses

  swap_follows : (c : ℕ) (r : Option ℕ) (latch : ℕ) → position p who ≡ Swap c r latch → (s : State) → acted p who Go ≡ swaps p who c r latch s → Ruled Go (swaps p who c r latch s)
  swap_follows c r latch at (Waiting other) = go (nat_eq other latch)
    where
      go : (b : Bool) → acted p who Go ≡ (if b then Moves (record p { cells = slice_set p.cells c (result_of r); at = slice_set p.at who (Open latch r) }) else Refuses) → Ruled Go (if b then Moves (record p { cells = slice_set p.cells c (result_of r); at = slice_set p.at who (Open latch r) }) else Refuses)
      go true is q m = subst (Shows p who Go) (moves_same m) (result_follows c r (Swap c r latch) (Open latch r) at (relied p stage h who within (Swap c r latch) at).0 (eq-eqb c c refl) refl refl (λ d ne. sym (ne_eqb c d (λ e. ne (sym e)))) (swap r latch) (act_keeps p stage h who within Go _ is))
      go false is q m = refuses q m
  swap_follows c r latch at Empty = λ is. refuses
  swap_follows c r latch at (Evaluating t) = λ is. refuses
  swap_follows c r latch at (Done v) = λ is. refuses

  install_follows : (c latch : ℕ) → position p who ≡ Install c latch → (s : State) → content p c ≡ s → acted p who Go ≡ installs p who c latch s → Ruled Go (installs p who c latch s)
  install_follows c latch at (Evaluating t) held = go (nat_eq t (named p latch))
    where
      go : (b : Bool) → acted p who Go ≡ (if b then Moves (record p { cells = slice_set p.cells c (Waiting latch); at = slice_set p.at who (Look c) }) else goes p who (Look c)) → Ruled Go (if b then Moves (record p { cells = slice_set p.cells c (Waiting latch); at = slice_set p.at who (Look c) }) else goes p who (Look c))
      go true is q m = subst (Shows p who Go) (moves_same m) (
          let here = (relied p stage h who within (Install c latch) at).0 in
          quiet Go (Install c latch) (Look c) at (record p { cells = slice_set p.cells c (Waiting latch); at = slice_set p.at who (Look c) }) (act_keeps p stage h who within Go _ is) (λ u. refl) (λ d. refl) (everywhere (λ d. Alike (content p d) (get_or (slice_set p.cells c (Waiting latch)) d Empty)) c (rw (held, written_there p stage h who within (Install c latch) (Look c) at c here (Waiting latch)) tt) (λ d ne. rw (written_other p stage h who within (Install c latch) (Look c) at c here (Waiting latch) d ne) (alike_self (content p d)))) refl refl
          )
      go false is q m = passes Go (Install c latch) (Look c) refl at is (λ d. refl) refl q m
  install_follows c latch at Empty held = λ is. passes Go (Install c latch) (Look c) refl at is (λ d. refl) refl
  install_follows c latch at (Waiting other) held = λ is. passes Go (Install c latch) (Look c) refl at is (λ d. refl) refl
  install_follows c latch at (Done v) held = λ is. passes Go (Install c latch) (Look c) refl at is (λ d. refl) refl

  sleep_follows : (c latch : ℕ) → position p who ≡ Sleep c latch → (b : Bool) → acted p who Go ≡ sleeps p who c b → Ruled Go (sleeps p who c b)
  sleep_follows c latch at true is = passes Go (Sleep c latch) (Look c) refl at is (λ d. refl) refl
  sleep_follows c latch at false is = λ q e. absurd (unmoved Waits q (omega arith) e)

  mark_follows : (c t : ℕ) → position p who ≡ Mark c t → (b : Bool) → acted p who Go ≡ (if b then Moves (made_for p who c t) else Refuses) → Ruled Go (if b then Moves (made_for p who c t) else Refuses)
  mark_follows c t at true is = λ q m. subst (Shows p who Go) (moves_same m) (quiet Go (Mark c t) (Install c (length p.opened)) at (made_for p who c t) (act_keeps p stage h who within Go _ is) (λ u. refl) (λ d. refl) (λ d. alike_self (content p d)) refl refl)
  mark_follows c t at false is = refuses

  next_follows : (pos : Pos) → position p who ≡ pos → acted p who Go ≡ next p who pos → Ruled Go (next p who pos)
  next_follows (Look c) at is = look_follows c at (content p c) refl is
  next_follows (Claim c) at is = claim_follows c at (content p c) refl is
  next_follows (Store c r) at is = store_follows c r at (content p c) is
  next_follows (Take c r) at is = take_follows c r at (content p c) is
  next_follows (Swap c r latch) at is = swap_follows c r latch at (content p c) is
  next_follows (Open latch r) at is = λ q m. subst (Shows p who Go) (moves_same m) (quiet Go (Open latch r) (ended r) at _ (act_keeps p stage h who within Go _ is) (λ u. refl) (λ d. ended_outside d r) (λ d. alike_self (content p d)) refl (ended_task r))
  next_follows (Mark c t) at is = mark_follows c t at (nat_lt 0 p.spare) is
  next_follows (Install c latch) at is = install_follows c latch at (content p c) refl is
  next_follows (Sleep c latch) at is = sleep_follows c latch at (is_open p latch) is
  next_follows Idle at is = refuses
  next_follows (Body c) at is = refuses
  next_follows (Got v) at is = refuses
  next_follows Failed at is = refuses
  next_follows Cycle at is = refuses

  act_shows : (act : Act) → Ruled act (acted p who act)
  act_shows (Read c) = read_follows c (position p who) refl refl
  act_shows (Return v) = finish_follows (Return v) (Some v) (position p who) (λ c. returns v) refl refl
  act_shows Throw = finish_follows Throw None (position p who) (λ c. throws) refl refl
  act_shows Go = next_follows (position p who) refl refl

  pub act_follows : (act : Act) (q : Protocol) → acted p who act ≡ Moves q → Follows p who act q
  act_follows act q e = record {
    shows = act_shows act q e;
    others = λ u ne. others_stand p who act q e u ne;
    threads = threads_stay p who act q e;
  }
