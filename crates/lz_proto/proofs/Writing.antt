-- The exchanges of a cell's content keep what every state keeps.
use Rattle.std.proofs.Common.{◌≡◌, ◌≢◌, ℕ, ◌<◌, length, get_or, slice_set, Bool, true, false, ◌⊎◌, inl, inr, ⊎_elim, nat_eq, Option, Some, None, sym, ap, subst, refl, ◌∙◌, eq-eqb, ne_eqb, true≢false}
use Rattle.std.proofs.lemmas.List.{length-set}
use Rattle.runs.specs.System.{put}
use Rattle.runs.proofs.Putting.{put-same, put-other, same_or_not, each}
use Rattle.lz_proto.specs.declared.state.State.{State}
use Rattle.lz_proto.specs.declared.state.State.TheVariants.{Empty, Evaluating, Waiting}
use Rattle.lz_proto.specs.declared.pos.Pos.{Pos}
use Rattle.lz_proto.specs.declared.pos.Pos.TheVariants.{Idle, Claim, Body, Store, Swap, Open}
use Rattle.lz_proto.specs.Protocol.{Protocol, content, position, thread, is_open}
use Rattle.lz_proto.specs.Steps.{result_of, ended}
use Rattle.lz_proto.specs.Once.{is_inside}
use Rattle.lz_proto.specs.Kept.{Stage, Mine, Set, Going, Over, is_over, IsShared, IsLatched, Keeps, IsIdle, IsRun, Holds}
use Rattle.lz_proto.proofs.Lists.{each_item}
use Rattle.lz_proto.proofs.Kept.{moved_there, still_going, others_keep, all_run, still_one, set_stays, held_stays, was_inside, written_there, written_other}

-- what a result leaves in a cell is no latch, and its accessor is outside
pub result_unlatched : (r : Option ℕ) → IsLatched (result_of r) → ⊥
result_unlatched (Some v) l = l
result_unlatched None l = l

pub ended_outside : (c : ℕ) (r : Option ℕ) → is_inside c (ended r) ≡ false
ended_outside c (Some v) = refl
ended_outside c None = refl

-- a stage of a latch that a cell holds
abbrev pub IsSet : Stage → Type 0
IsSet (Set c) = Unit {0}
IsSet other = ⊥

abbrev waiting_on : State → ℕ
waiting_on (Waiting latch) = latch
waiting_on other = 0

pub waiting_same : {a b : ℕ} → Waiting a ≡ Waiting b → a ≡ b
waiting_same e = ap waiting_on e

abbrev number_of : Stage → ℕ
number_of (Mine who) = who
number_of (Set c) = c
number_of (Going who) = who
number_of Over = 0

pub set_same : {a b : ℕ} → Set a ≡ Set b → a ≡ b
set_same e = ap number_of e

pub going_same : {a b : ℕ} → Going a ≡ Going b → a ≡ b
going_same e = ap number_of e

pub mine_same : {a b : ℕ} → Mine a ≡ Mine b → a ≡ b
mine_same e = ap number_of e

-- the state behind an exchange of a cell's content
abbrev pub wrote : Protocol → ℕ → ℕ → State → Pos → Protocol
wrote p who c new next = record p { cells = slice_set p.cells c new; at = slice_set p.at who next }

module _ (p : Protocol) (stage : ℕ → Stage) (h : Holds p stage) (who : ℕ) (within : who < length p.at) (c : ℕ) (here : c < length p.cells) where
  -- null is exchanged for `Evaluating`
  pub claims_keep : position p who ≡ Claim c → content p c ≡ Empty → Holds (wrote p who c (Evaluating (thread p who)) (Body c)) stage
  claims_keep at empty = record {
    threads = h.threads ∙ sym (length-set p.at who (Body c));
    owners = h.owners;
    keeps = each_item (Keeps (slice_set p.cells c new) (length p.opened) stage) p.at who (Body c) Idle within (subst (λ n. c < n) (sym (length-set p.cells c new)) here) (others_keep p stage h who within (Claim c) (Body c) at c here new stage (λ u ne i l. absurd (true≢false (sym i ∙ idle u))) (λ latch u ne e. e) (λ latch d s. s) (λ latch u ne e. e));
    runs = all_run p stage h who within (Claim c) (Body c) at c here new (λ d ne. other d ne) (who, ap (is_inside c) there ∙ eq-eqb c c refl, refl);
    one = still_one p stage h who within (Claim c) (Body c) at c here new (λ d ne. other d ne) (λ v u a b. only u b ∙ sym (only v a));
    set = set_stays p stage h who within (Claim c) (Body c) at c here new (λ l. subst IsLatched empty l);
    held = held_stays p stage h who within (Claim c) (Body c) at c here new (λ l. l);
    going = still_going p stage h who within (Claim c) (Body c) at refl;
    over = h.over;
  }
    where
      new : State
      new = Evaluating (thread p who)

      there : get_or (slice_set p.at who (Body c)) who Idle ≡ Body c
      there = moved_there p stage h who within (Claim c) (Body c) at

      idle : (u : ℕ) → is_inside c (position p u) ≡ false
      idle = subst (IsRun p c) empty (h.runs c)

      other : (d : ℕ) → d ≢ c → nat_eq c d ≡ false
      other d ne = ne_eqb c d (λ e. ne (sym e))

      only : (u : ℕ) → is_inside c (get_or (slice_set p.at who (Body c)) u Idle) ≡ true → u ≡ who
      only u e =
          ⊎_elim (λ same. same)
          (λ ne. absurd (true≢false (sym (was_inside p stage h who within (Claim c) (Body c) at c here new u ne e) ∙ idle u)))
          (same_or_not u who)

  -- the accessor that is inside is the only one
  pub alone : (q : Pos) → position p who ≡ q → is_inside c q ≡ true → (u : ℕ) → u ≢ who → is_inside c (position p u) ≡ false
  alone q at inside u ne = go (is_inside c (position p u)) refl
    where
      go : (b : Bool) → is_inside c (position p u) ≡ b → b ≡ false
      go false e = refl
      go true e = absurd (ne (h.one c who u (ap (is_inside c) at ∙ inside) e))

  -- nobody is inside once it has given its result
  pub nobody : (q next : Pos) (new : State) → position p who ≡ q → is_inside c q ≡ true → is_inside c next ≡ false → (u : ℕ) → is_inside c (get_or (slice_set p.at who next) u Idle) ≡ false
  nobody q next new at inside outside =
      each_item (λ u z. is_inside c z ≡ false) p.at who next Idle within outside (alone q at inside)

  idle_run : (r : Option ℕ) (p' : Protocol) → IsIdle p' c → IsRun p' c (result_of r)
  idle_run (Some v) p' idle = idle
  idle_run None p' idle = idle

  -- `Evaluating` is exchanged for the result
  pub stores_keep : (r : Option ℕ) (t : ℕ) → position p who ≡ Store c r → content p c ≡ Evaluating t → Keeps (slice_set p.cells c (result_of r)) (length p.opened) stage who (ended r) → Holds (wrote p who c (result_of r) (ended r)) stage
  stores_keep r t at was keep = record {
    threads = h.threads ∙ sym (length-set p.at who (ended r));
    owners = h.owners;
    keeps = each_item (Keeps (slice_set p.cells c (result_of r)) (length p.opened) stage) p.at who (ended r) Idle within keep (others_keep p stage h who within (Store c r) (ended r) at c here (result_of r) stage (λ u ne i l. subst IsLatched was l) (λ latch u ne e. e) (λ latch d s. s) (λ latch u ne e. e));
    runs = all_run p stage h who within (Store c r) (ended r) at c here (result_of r) (λ d ne. other d ne) (idle_run r (wrote p who c (result_of r) (ended r)) idle);
    one = still_one p stage h who within (Store c r) (ended r) at c here (result_of r) (λ d ne. other d ne) (λ v u a b. absurd (true≢false (sym a ∙ idle v)));
    set = set_stays p stage h who within (Store c r) (ended r) at c here (result_of r) (λ l. subst IsLatched was l);
    held = held_stays p stage h who within (Store c r) (ended r) at c here (result_of r) (result_unlatched r);
    going = still_going p stage h who within (Store c r) (ended r) at refl;
    over = h.over;
  }
    where
      idle : (u : ℕ) → is_inside c (get_or (slice_set p.at who (ended r)) u Idle) ≡ false
      idle = nobody (Store c r) (ended r) (result_of r) at (eq-eqb c c refl) (ended_outside c r)

      other : (d : ℕ) → d ≢ c → is_inside d (ended r) ≡ nat_eq c d
      other d ne = ended_outside d r ∙ sym (ne_eqb c d (λ e. ne (sym e)))

  -- the latch in the cell is exchanged for the result
  pub swaps_keep : (r : Option ℕ) (latch : ℕ) → position p who ≡ Swap c r latch → content p c ≡ Waiting latch → Holds (wrote p who c (result_of r) (Open latch r)) (put latch (Going who) stage)
  swaps_keep r latch at was = record {
    threads = h.threads ∙ sym (length-set p.at who (Open latch r));
    owners = h.owners;
    keeps = each_item (Keeps (slice_set p.cells c (result_of r)) (length p.opened) stage') p.at who (Open latch r) Idle within (put-same latch (Going who) stage) (others_keep p stage h who within (Swap c r latch) (Open latch r) at c here (result_of r) stage' (λ u ne i l. absurd (true≢false (sym i ∙ alone (Swap c r latch) at (eq-eqb c c refl) u ne))) (λ l u ne. mine l u) (λ l d. shared d l) (λ l u ne. goes l u ne));
    runs = all_run p stage h who within (Swap c r latch) (Open latch r) at c here (result_of r) (λ d ne. other d ne) (idle_run r (wrote p who c (result_of r) (Open latch r)) idle);
    one = still_one p stage h who within (Swap c r latch) (Open latch r) at c here (result_of r) (λ d ne. other d ne) (λ v u a b. absurd (true≢false (sym a ∙ idle v)));
    set = λ l d. set l d (same_or_not l latch);
    held = λ d l. held d l (same_or_not d c);
    going = λ l u. going l u (same_or_not l latch);
    over = each (λ l s. is_open p l ≡ is_over s) latch (Going who) stage (h.over latch ∙ ap is_over held_before) (λ l ne. h.over l);
  }
    where
      stage' : ℕ → Stage
      stage' = put latch (Going who) stage

      held_before : stage latch ≡ Set c
      held_before = h.held c latch was

      idle : (u : ℕ) → is_inside c (get_or (slice_set p.at who (Open latch r)) u Idle) ≡ false
      idle = nobody (Swap c r latch) (Open latch r) (result_of r) at (eq-eqb c c refl) refl

      other : (d : ℕ) → d ≢ c → false ≡ nat_eq c d
      other d ne = sym (ne_eqb c d (λ e. ne (sym e)))

      mine : (l u : ℕ) → stage l ≡ Mine u → stage' l ≡ Mine u
      mine l u = each (λ l s. stage l ≡ Mine u → s ≡ Mine u) latch (Going who) stage (λ e. absurd (set_unlike (sym held_before ∙ e))) (λ l ne e. e) l
        where
          set_unlike : Set c ≡ Mine u → ⊥
          set_unlike e = subst IsSet e tt

      shared : (d l : ℕ) → IsShared d (stage l) → IsShared d (stage' l)
      shared d = each (λ l s. IsShared d (stage l) → IsShared d s) latch (Going who) stage (λ s. tt) (λ l ne s. s)

      goes : (l u : ℕ) → u ≢ who → stage l ≡ Going u → stage' l ≡ Going u
      goes l u ne = each (λ l s. stage l ≡ Going u → s ≡ Going u) latch (Going who) stage (λ e. absurd (subst IsSet (sym held_before ∙ e) tt)) (λ l ne e. e) l

      set : (l d : ℕ) → (l ≡ latch) ⊎ (l ≢ latch) → stage' l ≡ Set d → get_or (slice_set p.cells c (result_of r)) d Empty ≡ Waiting l
      set l d (inl same) e = absurd (subst IsSet (sym e ∙ ap stage' same ∙ put-same latch (Going who) stage) tt)
      set l d (inr ne) e =
          let before : content p d ≡ Waiting l = h.set l d (sym (put-other latch (Going who) stage l ne) ∙ e) in
          let elsewhere : d ≢ c = λ same. ne (waiting_same (sym before ∙ ap (content p) same ∙ was)) in
          written_other p stage h who within (Swap c r latch) (Open latch r) at c here (result_of r) d elsewhere ∙ before

      held : (d l : ℕ) → (d ≡ c) ⊎ (d ≢ c) → get_or (slice_set p.cells c (result_of r)) d Empty ≡ Waiting l → stage' l ≡ Set d
      held d l (inl same) e =
          absurd (result_unlatched r (subst IsLatched (sym e ∙ ap (λ d. get_or (slice_set p.cells c (result_of r)) d Empty) same ∙ written_there p stage h who within (Swap c r latch) (Open latch r) at c here (result_of r)) tt))
      held d l (inr ne) e =
          let before : content p d ≡ Waiting l = sym (written_other p stage h who within (Swap c r latch) (Open latch r) at c here (result_of r) d ne) ∙ e in
          let is : stage l ≡ Set d = h.held d l before in
          let apart : l ≢ latch = λ same. ne (set_same (sym is ∙ ap stage same ∙ held_before)) in
          put-other latch (Going who) stage l apart ∙ is

      going : (l u : ℕ) → (l ≡ latch) ⊎ (l ≢ latch) → stage' l ≡ Going u → (s : Option ℕ) × (get_or (slice_set p.at who (Open latch r)) u Idle ≡ Open l s)
      going l u (inl same) e =
          let by : who ≡ u = going_same (sym (ap stage' same ∙ put-same latch (Going who) stage) ∙ e) in
          (r, ap (λ u. get_or (slice_set p.at who (Open latch r)) u Idle) (sym by) ∙ moved_there p stage h who within (Swap c r latch) (Open latch r) at ∙ ap (λ l. Open l r) (sym same))
      going l u (inr ne) e =
          still_going p stage h who within (Swap c r latch) (Open latch r) at refl l u (sym (put-other latch (Going who) stage l ne) ∙ e)
