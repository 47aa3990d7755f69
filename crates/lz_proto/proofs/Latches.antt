-- Latches that are made, installed and opened keep what every state keeps.
use Rattle.std.proofs.Common.{◌≡◌, ◌≢◌, ℕ, ◌<◌, ◌≤◌, ◌+◌, ◌-◌, List, [], ◌∷◌, ◌++◌, length, get_or, slice_set, Bool, true, false, ◌⊎◌, inl, inr, Option, sym, ap, subst, refl, ◌∙◌, arith, true≢false}
use Rattle.std.proofs.lemmas.List.{length-set, length-append, get_or_past, get_or_append_left}
use Rattle.std.proofs.Math.Seq.{get_or-append_seam}
use Rattle.runs.specs.System.{put}
use Rattle.runs.proofs.Putting.{put-same, put-other, same_or_not, each, everywhere}
use Rattle.lz_proto.specs.declared.state.State.{State}
use Rattle.lz_proto.specs.declared.state.State.TheVariants.{Empty, Evaluating, Waiting}
use Rattle.lz_proto.specs.declared.pos.Pos.{Pos}
use Rattle.lz_proto.specs.declared.pos.Pos.TheVariants.{Idle, Look, Open, Mark, Install}
use Rattle.lz_proto.specs.Protocol.{Protocol, content, position, is_open, named}
use Rattle.lz_proto.specs.Steps.{ended}
use Rattle.lz_proto.specs.Kept.{Stage, Mine, Set, Going, Over, is_over, IsShared, IsLatched, Keeps, IsRunBy, IsRun, Holds}
use Rattle.lz_proto.proofs.Lists.{each_item}
use Rattle.lz_proto.proofs.Kept.{keeps_moves, run_moves, inside_same, moved_other, still_going, others_keep, all_run, written_there, written_other}
use Rattle.lz_proto.proofs.Writing.{wrote, IsSet, waiting_same, set_same, going_same, mine_same, ended_outside}

-- a latch of an accessor that is about to install it, or to open it
abbrev pub IsMine : Stage → Type 0
IsMine (Mine who) = Unit {0}
IsMine other = ⊥

abbrev pub IsGoing : Stage → Type 0
IsGoing (Going who) = Unit {0}
IsGoing other = ⊥

abbrev pub IsOver : Stage → Type 0
IsOver Over = Unit {0}
IsOver other = ⊥

-- a latch that is closed was made
pub made : (opened : List Bool) (latch : ℕ) → get_or opened latch true ≡ false → latch < length opened
made opened latch closed = go (nat_cases latch (length opened))
  where
    nat_cases : (a b : ℕ) → (a < b) ⊎ (b ≤ a)
    nat_cases a b = grind arith

    go : (latch < length opened) ⊎ (length opened ≤ latch) → latch < length opened
    go (inl within) = within
    go (inr past) = absurd (true≢false (sym (get_or_past opened latch true past) ∙ closed))

-- what holds of each item of a list with one more at its end
pub each_grown : {A : Type 0} (P : ℕ → A → Type 0) (xs : List A) (x d : A) → P (length xs) x → ((j : ℕ) → j ≢ length xs → P j (get_or xs j d)) → (j : ℕ) → P j (get_or (xs ++ x ∷ []) j d)
each_grown P xs x d at others =
    everywhere (λ j. P j (get_or (xs ++ x ∷ []) j d)) (length xs)
    (subst (P (length xs)) (sym (get_or-append_seam xs x [] d)) at)
    (λ j ne. go j ne (cases j (length xs)))
  where
    cases : (a b : ℕ) → (a < b) ⊎ (b ≤ a)
    cases a b = grind arith

    go : (j : ℕ) → j ≢ length xs → (j < length xs) ⊎ (length xs ≤ j) → P j (get_or (xs ++ x ∷ []) j d)
    go j ne (inl within) = subst (P j) (sym (get_or_append_left xs (x ∷ []) d j within)) (others j ne)
    go j ne (inr past) =
        let longer : length (xs ++ x ∷ []) ≤ j = omega (arith, length-append xs (x ∷ [])) in
        subst (P j) (get_or_past xs j d past ∙ sym (get_or_past (xs ++ x ∷ []) j d longer)) (others j ne)

-- the state behind the making of a latch
abbrev pub made_for : Protocol → ℕ → ℕ → ℕ → Protocol
made_for p who c t = record p { opened = p.opened ++ false ∷ []; owner = p.owner ++ t ∷ []; at = slice_set p.at who (Install c (length p.opened)); spare = p.spare - 1 }

module _ (p : Protocol) (stage : ℕ → Stage) (h : Holds p stage) (who : ℕ) (within : who < length p.at) where
  -- a latch is made
  pub marks_keep : (c t : ℕ) → position p who ≡ Mark c t → Holds (made_for p who c t) (put (length p.opened) (Mine who) stage)
  marks_keep c t at = record {
    threads = h.threads ∙ sym (length-set p.at who next);
    owners = length-append p.owner (t ∷ []) ∙ ap (λ n. n + 1) h.owners ∙ sym (length-append p.opened (false ∷ []));
    keeps = each_item (Keeps p.cells (length (p.opened ++ false ∷ [])) stage') p.at who next Idle within (subst (Keeps p.cells (length p.opened) stage who) at (h.keeps who), put-same latch (Mine who) stage) (λ u ne. keeps_moves p.cells p.cells (length p.opened) (length (p.opened ++ false ∷ [])) stage stage' u (position p u) refl (omega (arith, length-append p.opened (false ∷ []))) (λ d i l. refl) (λ l. mine l u) (λ l d. shared d l) (λ l. goes l u) (h.keeps u));
    runs = λ d. run_moves p behind d (content p d) (inside_same p stage h who within (Mark c t) next at d refl) (λ u. refl) (λ l e. named_before l (h.held d l e)) (h.runs d);
    one = λ d v u a b. h.one d v u (sym (inside_same p stage h who within (Mark c t) next at d refl v) ∙ a) (sym (inside_same p stage h who within (Mark c t) next at d refl u) ∙ b);
    set = λ l d. each (λ l s. s ≡ Set d → content p d ≡ Waiting l) latch (Mine who) stage (λ e. absurd (subst IsMine e tt)) (λ l ne e. h.set l d e) l;
    held = λ d l e. put-other latch (Mine who) stage l (apart l (subst IsSet (sym (h.held d l e)) tt)) ∙ h.held d l e;
    going = λ l u e. still_going p stage h who within (Mark c t) next at refl l u (each (λ l s. s ≡ Going u → stage l ≡ Going u) latch (Mine who) stage (λ e. absurd (subst IsMine e tt)) (λ l ne e. e) l e);
    over = each_grown (λ l b. b ≡ is_over (stage' l)) p.opened false true (ap is_over (sym (put-same latch (Mine who) stage))) (λ l ne. h.over l ∙ ap is_over (sym (put-other latch (Mine who) stage l ne)));
  }
    where
      latch : ℕ
      latch = length p.opened

      next : Pos
      next = Install c latch

      stage' : ℕ → Stage
      stage' = put latch (Mine who) stage

      behind : Protocol
      behind = record p { opened = p.opened ++ false ∷ []; owner = p.owner ++ t ∷ []; at = slice_set p.at who next; spare = p.spare - 1 }

      fresh : is_over (stage latch) ≡ true
      fresh = sym (h.over latch) ∙ get_or_past p.opened latch true (omega arith)

      was_over : IsOver (stage latch)
      was_over = go (stage latch) fresh
        where
          go : (s : Stage) → is_over s ≡ true → IsOver s
          go (Mine u) e = absurd (true≢false (sym e))
          go (Set d) e = absurd (true≢false (sym e))
          go (Going u) e = absurd (true≢false (sym e))
          go Over e = tt

      apart : (l : ℕ) → IsSet (stage l) → l ≢ latch
      apart l s e = go (stage latch) was_over (subst (λ l. IsSet (stage l)) e s)
        where
          go : (s : Stage) → IsOver s → IsSet s → ⊥
          go (Mine u) o i = i
          go (Set d) o i = o
          go (Going u) o i = i
          go Over o i = i

      named_before : (l : ℕ) {d : ℕ} → stage l ≡ Set d → named behind l ≡ named p l
      named_before l e =
          let closed : is_open p l ≡ false = h.over l ∙ ap is_over e in
          let there : l < length p.opened = made p.opened l closed in
          get_or_append_left p.owner (t ∷ []) 0 l (subst (λ n. l < n) (sym h.owners) there)

      mine : (l u : ℕ) → stage l ≡ Mine u → stage' l ≡ Mine u
      mine l u = each (λ l s. stage l ≡ Mine u → s ≡ Mine u) latch (Mine who) stage (λ e. absurd (subst IsOver e was_over)) (λ l ne e. e) l

      shared : (d l : ℕ) → l < length p.opened → IsShared d (stage l) → IsShared d (stage' l)
      shared d l i s = let ne : l ≢ latch = omega arith in subst (IsShared d) (sym (put-other latch (Mine who) stage l ne)) s

      goes : (l u : ℕ) → stage l ≡ Going u → stage' l ≡ Going u
      goes l u = each (λ l s. stage l ≡ Going u → s ≡ Going u) latch (Mine who) stage (λ e. absurd (subst IsOver e was_over)) (λ l ne e. e) l

  -- `Evaluating` is exchanged for the latch
  pub installs_keep : (c latch t : ℕ) → position p who ≡ Install c latch → content p c ≡ Evaluating t → t ≡ named p latch → Holds (wrote p who c (Waiting latch) (Look c)) (put latch (Set c) stage)
  installs_keep c latch t at was by = record {
    threads = h.threads ∙ sym (length-set p.at who (Look c));
    owners = h.owners;
    keeps = each_item (Keeps (slice_set p.cells c new) (length p.opened) stage') p.at who (Look c) Idle within (subst (λ n. c < n) (sym (length-set p.cells c new)) here) (others_keep p stage h who within q (Look c) at c here new stage' (λ u ne i l. subst IsLatched was l) (λ l u ne. mine l u ne) (λ l d. shared d l) (λ l u ne. goes l u));
    runs = all_run p stage h who within q (Look c) at c here new (λ d ne. refl) (run (subst (IsRun p c) was (h.runs c)));
    one = λ d v u a b. h.one d v u (sym (inside_same p stage h who within q (Look c) at d refl v) ∙ a) (sym (inside_same p stage h who within q (Look c) at d refl u) ∙ b);
    set = λ l d. set l d (same_or_not l latch);
    held = λ d l. held d l (same_or_not d c);
    going = λ l u e. still_going p stage h who within q (Look c) at refl l u (each (λ l s. s ≡ Going u → stage l ≡ Going u) latch (Set c) stage (λ e. absurd (subst IsSet e tt)) (λ l ne e. e) l e);
    over = each (λ l s. is_open p l ≡ is_over s) latch (Set c) stage (h.over latch ∙ ap is_over mine_before) (λ l ne. h.over l);
  }
    where
      q : Pos
      q = Install c latch

      new : State
      new = Waiting latch

      stage' : ℕ → Stage
      stage' = put latch (Set c) stage

      relied : (c < length p.cells) × (stage latch ≡ Mine who)
      relied = subst (Keeps p.cells (length p.opened) stage who) at (h.keeps who)

      here : c < length p.cells
      here = relied.0

      mine_before : stage latch ≡ Mine who
      mine_before = relied.1

      run : IsRunBy p c t → IsRunBy (wrote p who c new (Look c)) c (named p latch)
      run r = (r.0, inside_same p stage h who within q (Look c) at c refl r.0 ∙ r.1, r.2 ∙ by)

      mine : (l u : ℕ) → u ≢ who → stage l ≡ Mine u → stage' l ≡ Mine u
      mine l u ne = each (λ l s. stage l ≡ Mine u → s ≡ Mine u) latch (Set c) stage (λ e. absurd (ne (mine_same (sym e ∙ mine_before)))) (λ l ne e. e) l

      shared : (d l : ℕ) → IsShared d (stage l) → IsShared d (stage' l)
      shared d = each (λ l s. IsShared d (stage l) → IsShared d s) latch (Set c) stage (λ s. absurd (subst (IsShared d) mine_before s)) (λ l ne s. s)

      goes : (l u : ℕ) → stage l ≡ Going u → stage' l ≡ Going u
      goes l u = each (λ l s. stage l ≡ Going u → s ≡ Going u) latch (Set c) stage (λ e. absurd (subst IsMine (sym mine_before ∙ e) tt)) (λ l ne e. e) l

      set : (l d : ℕ) → (l ≡ latch) ⊎ (l ≢ latch) → stage' l ≡ Set d → get_or (slice_set p.cells c new) d Empty ≡ Waiting l
      set l d (inl same) e =
          let is : c ≡ d = set_same (sym (ap stage' same ∙ put-same latch (Set c) stage) ∙ e) in
          ap (λ d. get_or (slice_set p.cells c new) d Empty) (sym is) ∙ written_there p stage h who within q (Look c) at c here new ∙ ap Waiting (sym same)
      set l d (inr ne) e =
          let before : content p d ≡ Waiting l = h.set l d (sym (put-other latch (Set c) stage l ne) ∙ e) in
          let elsewhere : d ≢ c = λ same. subst IsLatched (sym before ∙ ap (content p) same ∙ was) tt in
          written_other p stage h who within q (Look c) at c here new d elsewhere ∙ before

      held : (d l : ℕ) → (d ≡ c) ⊎ (d ≢ c) → get_or (slice_set p.cells c new) d Empty ≡ Waiting l → stage' l ≡ Set d
      held d l (inl same) e =
          let is : latch ≡ l = waiting_same (sym (ap (λ d. get_or (slice_set p.cells c new) d Empty) same ∙ written_there p stage h who within q (Look c) at c here new) ∙ e) in
          ap stage' (sym is) ∙ put-same latch (Set c) stage ∙ ap Set (sym same)
      held d l (inr ne) e =
          let is : stage l ≡ Set d = h.held d l (sym (written_other p stage h who within q (Look c) at c here new d ne) ∙ e) in
          let apart : l ≢ latch = λ same. subst IsSet (sym is ∙ ap stage same ∙ mine_before) tt in
          put-other latch (Set c) stage l apart ∙ is

  -- the latch is opened
  pub opens_keep : (latch : ℕ) (r : Option ℕ) → position p who ≡ Open latch r → ((cells : List State) (made : ℕ) (stage : ℕ → Stage) → Keeps cells made stage who (ended r)) → Holds (record p { opened = slice_set p.opened latch true; at = slice_set p.at who (ended r) }) (put latch Over stage)
  opens_keep latch r at keep = record {
    threads = h.threads ∙ sym (length-set p.at who next);
    owners = h.owners ∙ sym (length-set p.opened latch true);
    keeps = each_item (Keeps p.cells (length (slice_set p.opened latch true)) stage') p.at who next Idle within (keep p.cells (length (slice_set p.opened latch true)) stage') (λ u ne. keeps_moves p.cells p.cells (length p.opened) (length (slice_set p.opened latch true)) stage stage' u (position p u) refl (omega (arith, length-set p.opened latch true)) (λ d i l. refl) (λ l. mine l u) (λ l d i. shared d l) (λ l. goes l u ne) (h.keeps u));
    runs = λ d. run_moves p behind d (content p d) (inside_same p stage h who within q next at d (ended_outside d r)) (λ u. refl) (λ l e. refl) (h.runs d);
    one = λ d v u a b. h.one d v u (sym (inside_same p stage h who within q next at d (ended_outside d r) v) ∙ a) (sym (inside_same p stage h who within q next at d (ended_outside d r) u) ∙ b);
    set = λ l d. each (λ l s. s ≡ Set d → content p d ≡ Waiting l) latch Over stage (λ e. absurd (subst IsOver e tt)) (λ l ne e. h.set l d e) l;
    held = λ d l e. put-other latch Over stage l (λ same. subst IsSet (sym (h.held d l e) ∙ ap stage same ∙ going_before) tt) ∙ h.held d l e;
    going = λ l u. going l u (same_or_not l latch);
    over = each_item (λ l b. b ≡ is_over (stage' l)) p.opened latch true true there (ap is_over (sym (put-same latch Over stage))) (λ l ne. h.over l ∙ ap is_over (sym (put-other latch Over stage l ne)));
  }
    where
      q : Pos
      q = Open latch r

      next : Pos
      next = ended r

      stage' : ℕ → Stage
      stage' = put latch Over stage

      behind : Protocol
      behind = record p { opened = slice_set p.opened latch true; at = slice_set p.at who next }

      going_before : stage latch ≡ Going who
      going_before = subst (Keeps p.cells (length p.opened) stage who) at (h.keeps who)

      there : latch < length p.opened
      there = made p.opened latch (h.over latch ∙ ap is_over going_before)

      mine : (l u : ℕ) → stage l ≡ Mine u → stage' l ≡ Mine u
      mine l u = each (λ l s. stage l ≡ Mine u → s ≡ Mine u) latch Over stage (λ e. absurd (subst IsGoing (sym going_before ∙ e) tt)) (λ l ne e. e) l

      shared : (d l : ℕ) → IsShared d (stage l) → IsShared d (stage' l)
      shared d = each (λ l s. IsShared d (stage l) → IsShared d s) latch Over stage (λ s. tt) (λ l ne s. s)

      goes : (l u : ℕ) → u ≢ who → stage l ≡ Going u → stage' l ≡ Going u
      goes l u ne = each (λ l s. stage l ≡ Going u → s ≡ Going u) latch Over stage (λ e. absurd (ne (going_same (sym e ∙ going_before)))) (λ l ne e. e) l

      going : (l u : ℕ) → (l ≡ latch) ⊎ (l ≢ latch) → stage' l ≡ Going u → (s : Option ℕ) × (get_or (slice_set p.at who next) u Idle ≡ Open l s)
      going l u (inl same) e = absurd (subst IsGoing (sym e ∙ ap stage' same ∙ put-same latch Over stage) tt)
      going l u (inr ne) e =
          let is : stage l ≡ Going u = sym (put-other latch Over stage l ne) ∙ e in
          let o = h.going l u is in
          let apart : u ≢ who = λ same. ne (open_same (sym o.1 ∙ ap (position p) same ∙ at)) in
          (o.0, moved_other p stage h who within q next at u apart ∙ o.1)
        where
          open_same : {a b : ℕ} {s r : Option ℕ} → Open a s ≡ Open b r → a ≡ b
          open_same e = ap opening e
            where
              opening : Pos → ℕ
              opening (Open l s) = l
              opening other = 0
