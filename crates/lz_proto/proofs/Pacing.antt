-- The steps of one read, by the changes of its cell.
use Rattle.std.proofs.Common.{◌≡◌, ℕ, suc, ◌<◌, ◌≤◌, ◌+◌, [], ◌∷◌, ◌++◌, length, get_or, slice_set, Bool, true, false, nat_eq, nat_lt, Option, Some, None, ⊎_elim, sym, ap, subst, refl, ◌∙◌, arith, eqb-true, eq-eqb, true≢false, if◌then◌else◌, ◌&&◌}
use Rattle.std.proofs.Math.Seq.{get_or-append_seam}
use Rattle.runs.proofs.Putting.{same_or_not}
use Rattle.lz_proto.specs.declared.state.State.{State}
use Rattle.lz_proto.specs.declared.state.State.TheVariants.{Empty, Evaluating, Waiting, Done}
use Rattle.lz_proto.specs.declared.pos.Pos.{Pos}
use Rattle.lz_proto.specs.declared.pos.Pos.TheVariants.{Idle, Look, Claim, Body, Store, Take, Swap, Open, Mark, Install, Sleep, Got, Failed, Cycle}
use Rattle.lz_proto.specs.declared.act.Act.{Act}
use Rattle.lz_proto.specs.declared.act.Act.TheVariants.{Read, Return, Throw, Go}
use Rattle.lz_proto.specs.Protocol.{Protocol, content, position, thread, is_open, named}
use Rattle.lz_proto.specs.Steps.{Outcome, Moves, Waits, Refuses, result_of, ended, has_ended, goes, looked, claims, installs, sleeps, stores, takes, swaps, next, finish, acted}
use Rattle.lz_proto.specs.declared.once.Once.{Once}
use Rattle.lz_proto.specs.declared.once.Once.TheVariants as once
use Rattle.lz_proto.specs.Once.{abstract_of, once_of, task}
use Rattle.lz_proto.specs.Kept.{Stage, is_over, Holds}
use Rattle.lz_proto.specs.Promises.{IsRead}
use Rattle.lz_proto.proofs.Kept.{moved_there, written_there, written_other}
use Rattle.lz_proto.proofs.Latches.{made_for}
use Rattle.lz_proto.proofs.Acting.{unmoved, moves_same, relied}
use Rattle.lz_proto.proofs.Serving.{Serves}

-- how many steps an accessor that looks may make before its cell changes
abbrev pub from_look : State → ℕ
from_look Empty = 7
from_look (Evaluating t) = 4
from_look (Waiting latch) = 1
from_look (Done v) = 1

abbrev pub from_claim : State → ℕ
from_claim Empty = 6
from_claim other = from_look other + 1

-- a latch for the thread that runs now is installed, one for another isn't
abbrev pub from_mark : ℕ → State → ℕ
from_mark t (Evaluating u) = if nat_eq u t then 3 else 6
from_mark t other = from_look other + 2

abbrev pub from_install : ℕ → State → ℕ
from_install t (Evaluating u) = if nat_eq u t then 2 else 5
from_install t other = from_look other + 1

abbrev pub from_sleep : ℕ → State → ℕ
from_sleep latch (Waiting other) = if nat_eq other latch then 0 else 2
from_sleep latch other = from_look other + 1

abbrev pub rank : Protocol → State → Pos → ℕ
rank p s Idle = 0
rank p s (Look c) = from_look s
rank p s (Claim c) = from_claim s
rank p s (Body c) = 5
rank p s (Store c r) = 4
rank p s (Take c r) = 3
rank p s (Swap c r latch) = 2
rank p s (Open latch r) = 1
rank p s (Mark c t) = from_mark t s
rank p s (Install c latch) = from_install (named p latch) s
rank p s (Sleep c latch) = from_sleep latch s
rank p s (Got v) = 0
rank p s Failed = 0
rank p s Cycle = 0

look_small : (s : State) → from_look s ≤ 7
look_small Empty = omega arith
look_small (Evaluating t) = omega arith
look_small (Waiting latch) = omega arith
look_small (Done v) = omega arith

claim_small : (s : State) → from_claim s ≤ 9
claim_small Empty = omega arith
claim_small (Evaluating t) = omega arith
claim_small (Waiting latch) = omega arith
claim_small (Done v) = omega arith

if_small : (b : Bool) (m n : ℕ) → m ≤ 9 → n ≤ 9 → (if b then m else n) ≤ 9
if_small true m n hm hn = hm
if_small false m n hm hn = hn

mark_small : (t : ℕ) (s : State) → from_mark t s ≤ 9
mark_small t (Evaluating u) = if_small (nat_eq u t) 3 6 (omega arith) (omega arith)
mark_small t Empty = omega arith
mark_small t (Waiting latch) = omega arith
mark_small t (Done v) = omega arith

install_small : (t : ℕ) (s : State) → from_install t s ≤ 9
install_small t (Evaluating u) = if_small (nat_eq u t) 2 5 (omega arith) (omega arith)
install_small t Empty = omega arith
install_small t (Waiting latch) = omega arith
install_small t (Done v) = omega arith

sleep_small : (latch : ℕ) (s : State) → from_sleep latch s ≤ 9
sleep_small latch (Waiting other) = if_small (nat_eq other latch) 0 2 (omega arith) (omega arith)
sleep_small latch Empty = omega arith
sleep_small latch (Evaluating t) = omega arith
sleep_small latch (Done v) = omega arith

pub rank_small : (p : Protocol) (s : State) (pos : Pos) → rank p s pos ≤ 9
rank_small p s Idle = omega arith
rank_small p s (Look c) = omega (arith, look_small s)
rank_small p s (Claim c) = claim_small s
rank_small p s (Body c) = omega arith
rank_small p s (Store c r) = omega arith
rank_small p s (Take c r) = omega arith
rank_small p s (Swap c r latch) = omega arith
rank_small p s (Open latch r) = omega arith
rank_small p s (Mark c t) = mark_small t s
rank_small p s (Install c latch) = install_small (named p latch) s
rank_small p s (Sleep c latch) = sleep_small latch s
rank_small p s (Got v) = omega arith
rank_small p s Failed = omega arith
rank_small p s Cycle = omega arith

ended_rank : (p : Protocol) (s : State) (r : Option ℕ) → rank p s (ended r) ≡ 0
ended_rank p s (Some v) = refl
ended_rank p s None = refl

-- marks and installations rank above what follows them
mark_install : (t : ℕ) (s : State) → from_install t s < from_mark t s
mark_install t (Evaluating u) = go (nat_eq u t)
  where
    go : (b : Bool) → (if b then 2 else 5) < (if b then 3 else 6)
    go true = omega arith
    go false = omega arith
mark_install t Empty = omega arith
mark_install t (Waiting latch) = omega arith
mark_install t (Done v) = omega arith

claim_look : (s : State) → from_claim s < suc (from_claim s)
claim_look s = omega arith

module _ (p : Protocol) (stage : ℕ → Stage) (h : Holds p stage) (who : ℕ) (within : who < length p.at) (c : ℕ) where
  -- this accessor's step ranks lower than where it stood
  abbrev pub Falls : ℕ → Outcome → Type 0
  Falls above o = (q : Protocol) → o ≡ Moves q → rank q (content q c) (position q who) < above

  refuses : {n : ℕ} → Falls n Refuses
  refuses q e = absurd (unmoved Refuses q (omega arith) e)

  -- it goes on to a position of a lower rank
  goes_falls : (pos to : Pos) (n : ℕ) → position p who ≡ pos → rank p (content p c) to < n → Falls n (goes p who to)
  goes_falls pos to n at lower q m =
      subst (λ q. rank q (content q c) (position q who) < n) (moves_same m)
      (let q' : Protocol = record p { at = slice_set p.at who to } in
      rw (moved_there p stage h who within pos to at) (same q' to lower))
    where
      same : (q' : Protocol) (to : Pos) → rank p (content p c) to < n → rank (record p { at = slice_set p.at who to }) (content p c) to < n
      same q' Idle l = l
      same q' (Look d) l = l
      same q' (Claim d) l = l
      same q' (Body d) l = l
      same q' (Store d r) l = l
      same q' (Take d r) l = l
      same q' (Swap d r latch) l = l
      same q' (Open latch r) l = l
      same q' (Mark d t) l = l
      same q' (Install d latch) l = l
      same q' (Sleep d latch) l = l
      same q' (Got v) l = l
      same q' Failed l = l
      same q' Cycle l = l

  -- it gives a cell another content, and stands at a position of a fixed rank
  writes_falls : (d : ℕ) (new : State) (pos to : Pos) (n k : ℕ) → position p who ≡ pos → ((q : Protocol) (s : State) → rank q s to ≡ k) → k < n → Falls n (Moves (record p { cells = slice_set p.cells d new; at = slice_set p.at who to }))
  writes_falls d new pos to n k at is lower q m =
      subst (λ q. rank q (content q c) (position q who) < n) (moves_same m)
      (let q' : Protocol = record p { cells = slice_set p.cells d new; at = slice_set p.at who to } in
      rw (moved_there p stage h who within pos to at, is q' (content q' c)) lower)

  finish_falls : (pos : Pos) (r : Option ℕ) → position p who ≡ pos → Falls (rank p (content p c) pos) (finish p who pos r)
  finish_falls (Body d) r at = goes_falls (Body d) (Store d r) 5 at (omega arith)
  finish_falls Idle r at = refuses
  finish_falls (Look d) r at = refuses
  finish_falls (Claim d) r at = refuses
  finish_falls (Store d s) r at = refuses
  finish_falls (Take d s) r at = refuses
  finish_falls (Swap d s latch) r at = refuses
  finish_falls (Open latch s) r at = refuses
  finish_falls (Mark d t) r at = refuses
  finish_falls (Install d latch) r at = refuses
  finish_falls (Sleep d latch) r at = refuses
  finish_falls (Got v) r at = refuses
  finish_falls Failed r at = refuses
  finish_falls Cycle r at = refuses

  look_falls : (d : ℕ) → position p who ≡ Look d → (s : State) → content p c ≡ s → Falls (from_look s) (goes p who (looked p who d s))
  look_falls d at Empty is = goes_falls (Look d) (Claim d) 7 at (rw is (omega arith))
  look_falls d at (Evaluating t) is = go (nat_eq t (thread p who))
    where
      go : (b : Bool) → Falls 4 (goes p who (if b then Cycle else Mark d t))
      go true = goes_falls (Look d) Cycle 4 at (omega arith)
      go false = goes_falls (Look d) (Mark d t) 4 at (rw (is, eq-eqb t t refl) (omega arith))
  look_falls d at (Waiting latch) is = go (nat_eq (named p latch) (thread p who))
    where
      go : (b : Bool) → Falls 1 (goes p who (if b then Cycle else Sleep d latch))
      go true = goes_falls (Look d) Cycle 1 at (omega arith)
      go false = goes_falls (Look d) (Sleep d latch) 1 at (rw (is, eq-eqb latch latch refl) (omega arith))
  look_falls d at (Done v) is = goes_falls (Look d) (Got v) 1 at (omega arith)

  claim_falls : (d : ℕ) → position p who ≡ Claim d → (s : State) → content p c ≡ s → Falls (from_claim s) (claims p who d s)
  claim_falls d at Empty is = writes_falls d (Evaluating (thread p who)) (Claim d) (Body d) 6 5 at (λ q s. refl) (omega arith)
  claim_falls d at (Evaluating t) is = goes_falls (Claim d) (Look d) 5 at (rw is (omega arith))
  claim_falls d at (Waiting latch) is = goes_falls (Claim d) (Look d) 2 at (rw is (omega arith))
  claim_falls d at (Done v) is = goes_falls (Claim d) (Look d) 2 at (rw is (omega arith))

  store_falls : (d : ℕ) (r : Option ℕ) → position p who ≡ Store d r → (s : State) → Falls 4 (stores p who d r s)
  store_falls d r at (Evaluating t) = go (nat_eq t (thread p who))
    where
      go : (b : Bool) → Falls 4 (if b then Moves (record p { cells = slice_set p.cells d (result_of r); at = slice_set p.at who (ended r) }) else goes p who (Take d r))
      go true = writes_falls d (result_of r) (Store d r) (ended r) 4 0 at (λ q s. ended_rank q s r) (omega arith)
      go false = goes_falls (Store d r) (Take d r) 4 at (omega arith)
  store_falls d r at Empty = goes_falls (Store d r) (Take d r) 4 at (omega arith)
  store_falls d r at (Waiting latch) = goes_falls (Store d r) (Take d r) 4 at (omega arith)
  store_falls d r at (Done v) = goes_falls (Store d r) (Take d r) 4 at (omega arith)

  take_falls : (d : ℕ) (r : Option ℕ) → position p who ≡ Take d r → (s : State) → Falls 3 (takes p who d r s)
  take_falls d r at (Waiting latch) = goes_falls (Take d r) (Swap d r latch) 3 at (omega arith)
  take_falls d r at Empty = refuses
  take_falls d r at (Evaluating t) = refuses
  take_falls d r at (Done v) = refuses

  swap_falls : (d : ℕ) (r : Option ℕ) (latch : ℕ) → position p who ≡ Swap d r latch → (s : State) → Falls 2 (swaps p who d r latch s)
  swap_falls d r latch at (Waiting other) = go (nat_eq other latch)
    where
      go : (b : Bool) → Falls 2 (if b then Moves (record p { cells = slice_set p.cells d (result_of r); at = slice_set p.at who (Open latch r) }) else Refuses)
      go true = writes_falls d (result_of r) (Swap d r latch) (Open latch r) 2 1 at (λ q s. refl) (omega arith)
      go false = refuses
  swap_falls d r latch at Empty = refuses
  swap_falls d r latch at (Evaluating t) = refuses
  swap_falls d r latch at (Done v) = refuses

  open_falls : (latch : ℕ) (r : Option ℕ) → position p who ≡ Open latch r → Falls 1 (Moves (record p { opened = slice_set p.opened latch true; at = slice_set p.at who (ended r) }))
  open_falls latch r at q m =
      subst (λ q. rank q (content q c) (position q who) < 1) (moves_same m)
      (let q' : Protocol = record p { opened = slice_set p.opened latch true; at = slice_set p.at who (ended r) } in
      rw (moved_there p stage h who within (Open latch r) (ended r) at, ended_rank q' (content p c) r) (omega arith))

  mark_falls : (d t : ℕ) → position p who ≡ Mark d t → (b : Bool) → Falls (from_mark t (content p c)) (if b then Moves (made_for p who d t) else Refuses)
  mark_falls d t at false = refuses
  mark_falls d t at true = λ q m.
      subst (λ q. rank q (content q c) (position q who) < from_mark t (content p c)) (moves_same m)
      (let names : get_or (p.owner ++ t ∷ []) (length p.opened) 0 ≡ t = subst (λ n. get_or (p.owner ++ t ∷ []) n 0 ≡ t) h.owners (get_or-append_seam p.owner t [] 0) in
      rw (moved_there p stage h who within (Mark d t) (Install d (length p.opened)) at, names) (mark_install t (content p c)))

  install_falls : (d latch : ℕ) → d ≡ c → position p who ≡ Install d latch → (s : State) → content p c ≡ s → Falls (from_install (named p latch) s) (installs p who d latch s)
  install_falls d latch e at (Evaluating t) is = go (nat_eq t (named p latch))
    where
      here : c < length p.cells
      here = subst (λ d. d < length p.cells) e (relied p stage h who within (Install d latch) at).0

      go : (b : Bool) → Falls (if b then 2 else 5) (if b then Moves (record p { cells = slice_set p.cells d (Waiting latch); at = slice_set p.at who (Look d) }) else goes p who (Look d))
      go true q m =
          subst (λ q. rank q (content q c) (position q who) < 2) (moves_same m)
          (rw (e, moved_there p stage h who within (Install c latch) (Look c) (at ∙ ap (λ d. Install d latch) e), written_there p stage h who within (Install c latch) (Look c) (at ∙ ap (λ d. Install d latch) e) c here (Waiting latch)) (omega arith))
      go false q m = goes_falls (Install d latch) (Look d) 5 at (rw is (omega arith)) q m
  install_falls d latch e at Empty is = goes_falls (Install d latch) (Look d) 8 at (rw is (omega arith))
  install_falls d latch e at (Waiting other) is = goes_falls (Install d latch) (Look d) 2 at (rw is (omega arith))
  install_falls d latch e at (Done v) is = goes_falls (Install d latch) (Look d) 2 at (rw is (omega arith))

  sleep_falls : (d latch : ℕ) → position p who ≡ Sleep d latch → (s : State) → content p c ≡ s → (b : Bool) → is_open p latch ≡ b → Falls (from_sleep latch s) (sleeps p who d b)
  sleep_falls d latch at s is false o = λ q m. absurd (unmoved Waits q (omega arith) m)
  sleep_falls d latch at (Waiting other) is true o = go (nat_eq other latch) refl
    where
      go : (b : Bool) → nat_eq other latch ≡ b → Falls (if b then 0 else 2) (goes p who (Look d))
      go true same =
          let closed : is_open p other ≡ false = h.over other ∙ ap is_over (h.held c other is) in
          absurd (true≢false (sym o ∙ ap (is_open p) (sym (eqb-true other latch same)) ∙ closed))
      go false other = goes_falls (Sleep d latch) (Look d) 2 at (rw is (omega arith))
  sleep_falls d latch at Empty is true o = goes_falls (Sleep d latch) (Look d) 8 at (rw is (omega arith))
  sleep_falls d latch at (Evaluating t) is true o = goes_falls (Sleep d latch) (Look d) 5 at (rw is (omega arith))
  sleep_falls d latch at (Done v) is true o = goes_falls (Sleep d latch) (Look d) 2 at (rw is (omega arith))

  at_cell : (pos : Pos) (d : ℕ) → d ≡ c → Falls (rank p (content p d) pos) (next p who pos) → Falls (rank p (content p c) pos) (next p who pos)
  at_cell pos d e = subst (λ d. Falls (rank p (content p d) pos) (next p who pos)) e

  next_falls : (pos : Pos) → position p who ≡ pos → Serves c (abstract_of p c) (task pos) → Falls (rank p (content p c) pos) (next p who pos)
  next_falls (Look d) at e = at_cell (Look d) d e (look_falls d at (content p d) (ap (content p) (sym e)))
  next_falls (Claim d) at e = at_cell (Claim d) d e (claim_falls d at (content p d) (ap (content p) (sym e)))
  next_falls (Store d r) at e = store_falls d r at (content p d)
  next_falls (Take d r) at e = take_falls d r at (content p d)
  next_falls (Swap d r latch) at e = swap_falls d r latch at (content p d)
  next_falls (Open latch r) at e = open_falls latch r at
  next_falls (Mark d t) at e = mark_falls d t at (nat_lt 0 p.spare)
  next_falls (Install d latch) at e = at_cell (Install d latch) d e (install_falls d latch e at (content p d) (ap (content p) (sym e)))
  next_falls (Sleep d latch) at e = at_cell (Sleep d latch) d e (sleep_falls d latch at (content p d) (ap (content p) (sym e)) (is_open p latch) refl)
  next_falls Idle at e = refuses
  next_falls (Body d) at e = refuses
  next_falls (Got v) at e = refuses
  next_falls Failed at e = refuses
  next_falls Cycle at e = refuses

  pub own_falls : (act : Act) → (IsRead act → ⊥) → Serves c (abstract_of p c) (task (position p who)) → Falls (rank p (content p c) (position p who)) (acted p who act)
  own_falls (Read d) unread e = absurd (unread tt)
  own_falls (Return v) unread e = finish_falls (position p who) (Some v) refl
  own_falls Throw unread e = finish_falls (position p who) None refl
  own_falls Go unread e = next_falls (position p who) refl e

-- what another's step does to a cell that stays what it is to its readers: nothing, or a latch instead of `Evaluating`
pub data Kin (p q : Protocol) (c : ℕ) : Type 0 where
  same : content q c ≡ content p c → Kin p q c
  installed : (t latch : ℕ) → content p c ≡ Evaluating t → content q c ≡ Waiting latch → Kin p q c
  changed : (abstract_of q c ≡ abstract_of p c → ⊥) → Kin p q c

abbrev IsRunning : Once → Type 0
IsRunning (once.Running u) = Unit {0}
IsRunning other = ⊥

result_idle : (q : Protocol) (c : ℕ) (r : Option ℕ) → IsRunning (once_of q c (result_of r)) → ⊥
result_idle q c (Some v) i = i
result_idle q c None i = i

module _ (p : Protocol) (stage : ℕ → Stage) (h : Holds p stage) (who : ℕ) (within : who < length p.at) (c : ℕ) where
  abbrev Kindred : Outcome → Type 0
  Kindred o = (q : Protocol) → o ≡ Moves q → Kin p q c

  refuses_kin : Kindred Refuses
  refuses_kin q e = absurd (unmoved Refuses q (omega arith) e)

  goes_kin : (to : Pos) → Kindred (goes p who to)
  goes_kin to q m = subst (λ q. Kin p q c) (moves_same m) (same refl)

  -- a cell is written: another one, or this one with what it becomes
  writes_kin : (pos to : Pos) → position p who ≡ pos → (d : ℕ) → d < length p.cells → (new : State) → (d ≡ c → get_or (slice_set p.cells d new) c Empty ≡ new → Kin p (record p { cells = slice_set p.cells d new; at = slice_set p.at who to }) c) → Kindred (Moves (record p { cells = slice_set p.cells d new; at = slice_set p.at who to }))
  writes_kin pos to at d here new here_is q m =
      subst (λ q. Kin p q c) (moves_same m)
      (⊎_elim
      (λ e. here_is e (subst (λ c. get_or (slice_set p.cells d new) c Empty ≡ new) e (written_there p stage h who within pos to at d here new)))
      (λ ne. same (written_other p stage h who within pos to at d here new c (λ e. ne (sym e))))
      (same_or_not d c))

  claims_kin : (d : ℕ) → position p who ≡ Claim d → (s : State) → content p d ≡ s → Kindred (claims p who d s)
  claims_kin d at Empty is = writes_kin (Claim d) (Body d) at d (relied p stage h who within (Claim d) at) (Evaluating (thread p who)) (λ e written. changed (λ stays. subst IsRunning (sym (ap (once_of (record p { cells = slice_set p.cells d (Evaluating (thread p who)); at = slice_set p.at who (Body d) }) c) written) ∙ stays ∙ ap (once_of p c) (ap (content p) (sym e) ∙ is)) tt))
  claims_kin d at (Evaluating t) is = goes_kin (Look d)
  claims_kin d at (Waiting latch) is = goes_kin (Look d)
  claims_kin d at (Done v) is = goes_kin (Look d)

  -- a result is written where the cell was running
  result_kin : (pos to : Pos) → position p who ≡ pos → (d : ℕ) → d < length p.cells → (r : Option ℕ) (s : State) → content p d ≡ s → IsRunning (once_of p c s) → Kindred (Moves (record p { cells = slice_set p.cells d (result_of r); at = slice_set p.at who to }))
  result_kin pos to at d here r s is running =
      writes_kin pos to at d here (result_of r) (λ e written. changed (λ stays. result_idle (record p { cells = slice_set p.cells d (result_of r); at = slice_set p.at who to }) c r (subst IsRunning (sym (ap (once_of p c) (ap (content p) (sym e) ∙ is)) ∙ sym stays ∙ ap (once_of (record p { cells = slice_set p.cells d (result_of r); at = slice_set p.at who to }) c) written) running)))

  stores_kin : (d : ℕ) (r : Option ℕ) → position p who ≡ Store d r → (s : State) → content p d ≡ s → Kindred (stores p who d r s)
  stores_kin d r at (Evaluating t) is = go (nat_eq t (thread p who))
    where
      go : (b : Bool) → Kindred (if b then Moves (record p { cells = slice_set p.cells d (result_of r); at = slice_set p.at who (ended r) }) else goes p who (Take d r))
      go true = result_kin (Store d r) (ended r) at d (relied p stage h who within (Store d r) at) r (Evaluating t) is tt
      go false = goes_kin (Take d r)
  stores_kin d r at Empty is = goes_kin (Take d r)
  stores_kin d r at (Waiting latch) is = goes_kin (Take d r)
  stores_kin d r at (Done v) is = goes_kin (Take d r)

  takes_kin : (d : ℕ) (r : Option ℕ) (s : State) → Kindred (takes p who d r s)
  takes_kin d r (Waiting latch) = goes_kin (Swap d r latch)
  takes_kin d r Empty = refuses_kin
  takes_kin d r (Evaluating t) = refuses_kin
  takes_kin d r (Done v) = refuses_kin

  swaps_kin : (d : ℕ) (r : Option ℕ) (latch : ℕ) → position p who ≡ Swap d r latch → (s : State) → content p d ≡ s → Kindred (swaps p who d r latch s)
  swaps_kin d r latch at (Waiting other) is = go (nat_eq other latch)
    where
      go : (b : Bool) → Kindred (if b then Moves (record p { cells = slice_set p.cells d (result_of r); at = slice_set p.at who (Open latch r) }) else Refuses)
      go true = result_kin (Swap d r latch) (Open latch r) at d (relied p stage h who within (Swap d r latch) at).0 r (Waiting other) is tt
      go false = refuses_kin
  swaps_kin d r latch at Empty is = refuses_kin
  swaps_kin d r latch at (Evaluating t) is = refuses_kin
  swaps_kin d r latch at (Done v) is = refuses_kin

  installs_kin : (d latch : ℕ) → position p who ≡ Install d latch → (s : State) → content p d ≡ s → Kindred (installs p who d latch s)
  installs_kin d latch at (Evaluating t) is = go (nat_eq t (named p latch))
    where
      go : (b : Bool) → Kindred (if b then Moves (record p { cells = slice_set p.cells d (Waiting latch); at = slice_set p.at who (Look d) }) else goes p who (Look d))
      go true = writes_kin (Install d latch) (Look d) at d (relied p stage h who within (Install d latch) at).0 (Waiting latch) (λ e written. installed t latch (ap (content p) (sym e) ∙ is) written)
      go false = goes_kin (Look d)
  installs_kin d latch at Empty is = goes_kin (Look d)
  installs_kin d latch at (Waiting other) is = goes_kin (Look d)
  installs_kin d latch at (Done v) is = goes_kin (Look d)

  sleeps_kin : (d : ℕ) (b : Bool) → Kindred (sleeps p who d b)
  sleeps_kin d true = goes_kin (Look d)
  sleeps_kin d false = λ q e. absurd (unmoved Waits q (omega arith) e)

  marks_kin : (d t : ℕ) (b : Bool) → Kindred (if b then Moves (made_for p who d t) else Refuses)
  marks_kin d t true = λ q m. subst (λ q. Kin p q c) (moves_same m) (same refl)
  marks_kin d t false = refuses_kin

  next_kin : (pos : Pos) → position p who ≡ pos → Kindred (next p who pos)
  next_kin (Look d) at = goes_kin (looked p who d (content p d))
  next_kin (Claim d) at = claims_kin d at (content p d) refl
  next_kin (Store d r) at = stores_kin d r at (content p d) refl
  next_kin (Take d r) at = takes_kin d r (content p d)
  next_kin (Swap d r latch) at = swaps_kin d r latch at (content p d) refl
  next_kin (Open latch r) at = λ q m. subst (λ q. Kin p q c) (moves_same m) (same refl)
  next_kin (Mark d t) at = marks_kin d t (nat_lt 0 p.spare)
  next_kin (Install d latch) at = installs_kin d latch at (content p d) refl
  next_kin (Sleep d latch) at = sleeps_kin d (is_open p latch)
  next_kin Idle at = refuses_kin
  next_kin (Body d) at = refuses_kin
  next_kin (Got v) at = refuses_kin
  next_kin Failed at = refuses_kin
  next_kin Cycle at = refuses_kin

  finish_kin : (pos : Pos) (r : Option ℕ) → Kindred (finish p who pos r)
  finish_kin (Body d) r = goes_kin (Store d r)
  finish_kin Idle r = refuses_kin
  finish_kin (Look d) r = refuses_kin
  finish_kin (Claim d) r = refuses_kin
  finish_kin (Store d s) r = refuses_kin
  finish_kin (Take d s) r = refuses_kin
  finish_kin (Swap d s latch) r = refuses_kin
  finish_kin (Open latch s) r = refuses_kin
  finish_kin (Mark d t) r = refuses_kin
  finish_kin (Install d latch) r = refuses_kin
  finish_kin (Sleep d latch) r = refuses_kin
  finish_kin (Got v) r = refuses_kin
  finish_kin Failed r = refuses_kin
  finish_kin Cycle r = refuses_kin

  read_kin : (b : Bool) (d : ℕ) → Kindred (if b then goes p who (Look d) else Refuses)
  read_kin true d = goes_kin (Look d)
  read_kin false d = refuses_kin

  pub act_kin : (act : Act) → Kindred (acted p who act)
  act_kin (Read d) = read_kin (has_ended (position p who) && nat_lt d (length p.cells)) d
  act_kin (Return v) = finish_kin (position p who) (Some v)
  act_kin Throw = finish_kin (position p who) None
  act_kin Go = next_kin (position p who) refl
