-- Each step keeps what every state of the protocol keeps.
use Rattle.std.proofs.Common.{◌≡◌, ◌≢◌, ℕ, ◌<◌, ◌≤◌, List, length, get_or, slice_set, Bool, true, false, ◌⊎◌, inl, inr, Option, sym, ap, subst, refl, ◌∙◌, arith, eq-eqb, true≢false}
use Rattle.std.proofs.lemmas.List.{length-set, get_or-set_same, get_or-set_other}
use Rattle.runs.proofs.Putting.{same_or_not, everywhere}
use Rattle.lz_proto.specs.declared.state.State.{State}
use Rattle.lz_proto.specs.declared.state.State.TheVariants.{Empty, Evaluating, Waiting, Done}
use Rattle.lz_proto.specs.declared.pos.Pos.{Pos}
use Rattle.lz_proto.specs.declared.pos.Pos.TheVariants.{Idle, Look, Claim, Body, Store, Take, Swap, Open, Mark, Install, Sleep, Got, Failed, Cycle}
use Rattle.lz_proto.specs.Protocol.{Protocol, content, position, thread, named}
use Rattle.lz_proto.specs.Once.{is_inside}
use Rattle.lz_proto.specs.Kept.{Stage, Mine, Set, Going, IsShared, IsLatched, Keeps, IsRun, Holds}
use Rattle.lz_proto.proofs.Lists.{each_item}

-- an accessor that is about to open a latch
abbrev pub is_opening : Pos → Bool
is_opening (Open latch r) = true
is_opening other = false

-- what another accessor relies on, where cells and latches change
pub keeps_moves : (cells cells' : List State) (made made' : ℕ) (stage stage' : ℕ → Stage) (u : ℕ) (q : Pos) → length cells ≡ length cells' → made ≤ made' → ((c : ℕ) → is_inside c q ≡ true → IsLatched (get_or cells c Empty) → get_or cells' c Empty ≡ get_or cells c Empty) → ((latch : ℕ) → stage latch ≡ Mine u → stage' latch ≡ Mine u) → ((latch c : ℕ) → latch < made → IsShared c (stage latch) → IsShared c (stage' latch)) → ((latch : ℕ) → stage latch ≡ Going u → stage' latch ≡ Going u) → Keeps cells made stage u q → Keeps cells' made' stage' u q
keeps_moves cells cells' made made' stage stage' u Idle n m same mine shared going k = k
keeps_moves cells cells' made made' stage stage' u (Look c) n m same mine shared going k = omega arith
keeps_moves cells cells' made made' stage stage' u (Claim c) n m same mine shared going k = omega arith
keeps_moves cells cells' made made' stage stage' u (Body c) n m same mine shared going k = omega arith
keeps_moves cells cells' made made' stage stage' u (Store c r) n m same mine shared going k = omega arith
keeps_moves cells cells' made made' stage stage' u (Take c r) n m same mine shared going k =
    (subst (λ i. c < i) n k.0, subst IsLatched (sym (same c (eq-eqb c c refl) k.1)) k.1)
keeps_moves cells cells' made made' stage stage' u (Swap c r latch) n m same mine shared going k =
    (subst (λ i. c < i) n k.0, same c (eq-eqb c c refl) (subst IsLatched (sym k.1) tt) ∙ k.1)
keeps_moves cells cells' made made' stage stage' u (Open latch r) n m same mine shared going k = going latch k
keeps_moves cells cells' made made' stage stage' u (Mark c t) n m same mine shared going k = omega arith
keeps_moves cells cells' made made' stage stage' u (Install c latch) n m same mine shared going k =
    (subst (λ i. c < i) n k.0, mine latch k.1)
keeps_moves cells cells' made made' stage stage' u (Sleep c latch) n m same mine shared going k =
    let here : latch < made = k.1 in
    (subst (λ i. c < i) n k.0, omega arith, shared latch c k.1 k.2)
keeps_moves cells cells' made made' stage stage' u (Got v) n m same mine shared going k = k
keeps_moves cells cells' made made' stage stage' u Failed n m same mine shared going k = k
keeps_moves cells cells' made made' stage stage' u Cycle n m same mine shared going k = k

-- who runs a cell, where the same accessors are inside
pub run_moves : (p q : Protocol) (c : ℕ) (s : State) → ((u : ℕ) → is_inside c (position q u) ≡ is_inside c (position p u)) → ((u : ℕ) → thread q u ≡ thread p u) → ((latch : ℕ) → s ≡ Waiting latch → named q latch ≡ named p latch) → IsRun p c s → IsRun q c s
run_moves p q c Empty inside threads names run = λ u. inside u ∙ run u
run_moves p q c (Evaluating t) inside threads names run = (run.0, inside run.0 ∙ run.1, threads run.0 ∙ run.2)
run_moves p q c (Waiting latch) inside threads names run =
    (run.0, inside run.0 ∙ run.1, threads run.0 ∙ run.2 ∙ sym (names latch refl))
run_moves p q c (Done v) inside threads names run = λ u. inside u ∙ run u

-- a cell is changed by one accessor's step
module _ (p : Protocol) (stage : ℕ → Stage) (h : Holds p stage) (who : ℕ) (within : who < length p.at) (q next : Pos) (at : position p who ≡ q) where
  -- the accessors at their positions behind the step
  abbrev moved : ℕ → Pos
  moved u = get_or (slice_set p.at who next) u Idle

  -- the accessors inside a cell stay the same where this one does
  pub inside_same : (c : ℕ) → is_inside c next ≡ is_inside c q → (u : ℕ) → is_inside c (moved u) ≡ is_inside c (position p u)
  inside_same c e = each_item (λ u z. is_inside c z ≡ is_inside c (position p u)) p.at who next Idle within (e ∙ sym (ap (is_inside c) at)) (λ u ne. refl)

  pub moved_there : moved who ≡ next
  moved_there = get_or-set_same p.at who next Idle within

  pub moved_other : (u : ℕ) → u ≢ who → moved u ≡ position p u
  moved_other u ne = get_or-set_other p.at who u next Idle ne

  -- a latch that is about to be opened still is, where this accessor isn't about to
  pub still_going : is_opening q ≡ false → (latch u : ℕ) → stage latch ≡ Going u → (r : Option ℕ) × (moved u ≡ Open latch r)
  still_going e latch u g = go (h.going latch u g) (same_or_not u who)
    where
      go : (r : Option ℕ) × (position p u ≡ Open latch r) → (u ≡ who) ⊎ (u ≢ who) → (r : Option ℕ) × (moved u ≡ Open latch r)
      go o (inl same) = absurd (true≢false (sym (ap is_opening o.1) ∙ ap (λ v. is_opening (position p v)) same ∙ ap is_opening at ∙ e))
      go o (inr ne) = (o.0, moved_other u ne ∙ o.1)

  -- it goes on to another position, and all else stays
  pub goes_keeps : is_opening q ≡ false → ((c : ℕ) → is_inside c next ≡ is_inside c q) → Keeps p.cells (length p.opened) stage who next → Holds (record p { at = slice_set p.at who next }) stage
  goes_keeps closed inside keep = record {
    threads = h.threads ∙ sym (length-set p.at who next);
    owners = h.owners;
    keeps = each_item (Keeps p.cells (length p.opened) stage) p.at who next Idle within keep (λ u ne. h.keeps u);
    runs = λ c. run_moves p (record p { at = slice_set p.at who next }) c (content p c) (inside_same c (inside c)) (λ u. refl) (λ latch e. refl) (h.runs c);
    one = λ c v u a b. h.one c v u (sym (inside_same c (inside c) v) ∙ a) (sym (inside_same c (inside c) u) ∙ b);
    set = h.set;
    held = h.held;
    going = still_going closed;
    over = h.over;
  }

  -- a cell gets a new content, and latches may change hands
  module _ (c : ℕ) (here : c < length p.cells) (new : State) where
    abbrev written : ℕ → State
    written d = get_or (slice_set p.cells c new) d Empty

    pub written_there : written c ≡ new
    written_there = get_or-set_same p.cells c new Empty here

    pub written_other : (d : ℕ) → d ≢ c → written d ≡ content p d
    written_other d ne = get_or-set_other p.cells c d new Empty ne

    abbrev behind : Protocol
    behind = record p { cells = slice_set p.cells c new; at = slice_set p.at who next }

    -- the others find what they rely on, where none of them relies on a latch in the cell
    pub others_keep : (stage' : ℕ → Stage) → ((u : ℕ) → u ≢ who → is_inside c (position p u) ≡ true → IsLatched (content p c) → ⊥) → ((latch u : ℕ) → u ≢ who → stage latch ≡ Mine u → stage' latch ≡ Mine u) → ((latch d : ℕ) → IsShared d (stage latch) → IsShared d (stage' latch)) → ((latch u : ℕ) → u ≢ who → stage latch ≡ Going u → stage' latch ≡ Going u) → (u : ℕ) → u ≢ who → Keeps (slice_set p.cells c new) (length p.opened) stage' u (position p u)
    others_keep stage' unlatched mine shared going u ne =
        keeps_moves p.cells (slice_set p.cells c new) (length p.opened) (length p.opened) stage stage' u (position p u) (sym (length-set p.cells c new)) (omega arith) (λ d. same d (same_or_not d c)) (λ latch. mine latch u ne) (λ latch d i. shared latch d) (λ latch. going latch u ne) (h.keeps u)
      where
        same : (d : ℕ) → (d ≡ c) ⊎ (d ≢ c) → is_inside d (position p u) ≡ true → IsLatched (content p d) → written d ≡ content p d
        same d (inl e) inside latched = absurd (unlatched u ne (subst (λ d. is_inside d (position p u) ≡ true) e inside) (subst (λ d. IsLatched (content p d)) e latched))
        same d (inr ne) inside latched = written_other d ne

    -- who runs each cell, where this accessor is inside the same other cells
    pub all_run : ((d : ℕ) → d ≢ c → is_inside d next ≡ is_inside d q) → IsRun behind c new → (d : ℕ) → IsRun behind d (written d)
    all_run inside run =
        everywhere (λ d. IsRun behind d (written d)) c
        (subst (IsRun behind c) (sym written_there) run)
        (λ d ne. subst (IsRun behind d) (sym (written_other d ne)) (run_moves p behind d (content p d) (inside_same d (inside d ne)) (λ u. refl) (λ latch e. refl) (h.runs d)))

    -- each cell is run by one accessor, where this one is inside the same other cells
    pub still_one : ((d : ℕ) → d ≢ c → is_inside d next ≡ is_inside d q) → ((v u : ℕ) → is_inside c (moved v) ≡ true → is_inside c (moved u) ≡ true → u ≡ v) → (d v u : ℕ) → is_inside d (moved v) ≡ true → is_inside d (moved u) ≡ true → u ≡ v
    still_one inside one =
        everywhere (λ d. (v u : ℕ) → is_inside d (moved v) ≡ true → is_inside d (moved u) ≡ true → u ≡ v) c one
        (λ d ne v u a b. h.one d v u (sym (inside_same d (inside d ne) v) ∙ a) (sym (inside_same d (inside d ne) u) ∙ b))

    -- no latch is put into the cell or taken out of it
    pub set_stays : (IsLatched (content p c) → ⊥) → (latch d : ℕ) → stage latch ≡ Set d → written d ≡ Waiting latch
    set_stays was latch =
        everywhere (λ d. stage latch ≡ Set d → written d ≡ Waiting latch) c
        (λ e. absurd (was (subst IsLatched (sym (h.set latch c e)) tt)))
        (λ d ne e. written_other d ne ∙ h.set latch d e)

    pub held_stays : (IsLatched new → ⊥) → (d latch : ℕ) → written d ≡ Waiting latch → stage latch ≡ Set d
    held_stays is d latch =
        everywhere (λ d. written d ≡ Waiting latch → stage latch ≡ Set d) c
        (λ e. absurd (is (subst IsLatched (sym e ∙ written_there) tt)))
        (λ d ne e. h.held d latch (sym (written_other d ne) ∙ e)) d

    -- another accessor that is inside the cell was inside it before
    pub was_inside : (u : ℕ) → u ≢ who → is_inside c (moved u) ≡ true → is_inside c (position p u) ≡ true
    was_inside u ne e = ap (is_inside c) (sym (moved_other u ne)) ∙ e
