-- One read makes few steps between changes of its cell.
use Rattle.std.proofs.Common.{◌≡◌, ◌≢◌, ℕ, ◌<◌, ◌≤◌, ◌+◌, ◌*◌, List, [], ◌∷◌, length, Bool, true, false, nat_eq, nat_lt, ◌&&◌, ◌⊎◌, inl, inr, sym, ap, subst, refl, ◌∙◌, arith, eqb-true, eq-eqb, ne_eqb, if◌then◌else◌}
use Rattle.std.proofs.lemmas.List.{get_or-set_same}
use Rattle.runs.proofs.Putting.{same_or_not}
use Rattle.lz_proto.specs.declared.state.State.{State}
use Rattle.lz_proto.specs.declared.state.State.TheVariants.{Evaluating, Waiting}
use Rattle.lz_proto.specs.declared.pos.Pos.{Pos}
use Rattle.lz_proto.specs.declared.pos.Pos.TheVariants.{Idle, Look, Claim, Body, Store, Take, Swap, Open, Mark, Install, Sleep, Got, Failed, Cycle}
use Rattle.lz_proto.specs.declared.once.Once.{Once}
use Rattle.lz_proto.specs.declared.once.Once.TheVariants as once
use Rattle.lz_proto.specs.declared.act.Act.{Act}
use Rattle.lz_proto.specs.declared.act.Act.TheVariants.{Read}
use Rattle.lz_proto.specs.Protocol.{Protocol, content, position, named}
use Rattle.lz_proto.specs.Steps.{Outcome, Moves, Waits, Refuses, has_ended, goes, acted}
use Rattle.lz_proto.specs.Once.{abstract_of, task}
use Rattle.lz_proto.specs.Kept.{Stage, Mine, is_over, Keeps, IsKept}
use Rattle.lz_proto.specs.Promises.{after, ran, IsOneRead, steps, changes, differ, if_moved}
use Rattle.lz_proto.proofs.Latches.{made}
use Rattle.lz_proto.proofs.Acting.{moves_same, unmoved}
use Rattle.lz_proto.proofs.Own.{step_keeps}
use Rattle.lz_proto.proofs.Standing.{others_stand, as_many, names_stay}
use Rattle.lz_proto.proofs.Serving.{Serves, own_serves, other_serves, got_is_done}
use Rattle.lz_proto.proofs.Pacing.{rank, rank_small, own_falls, Kin, same, installed, changed, act_kin}

-- a latch instead of `Evaluating` ranks no position higher
mark_installed : (b : Bool) → 3 ≤ (if b then 3 else 6)
mark_installed true = omega arith
mark_installed false = omega arith

install_installed : (b : Bool) → 2 ≤ (if b then 2 else 5)
install_installed true = omega arith
install_installed false = omega arith

sleep_installed : (b : Bool) → (if b then 0 else 2) ≤ 5
sleep_installed true = omega arith
sleep_installed false = omega arith

installed_lower : (p q : Protocol) (t latch : ℕ) (pos : Pos) → rank q (Waiting latch) pos ≤ rank p (Evaluating t) pos
installed_lower p q t latch Idle = omega arith
installed_lower p q t latch (Look d) = omega arith
installed_lower p q t latch (Claim d) = omega arith
installed_lower p q t latch (Body d) = omega arith
installed_lower p q t latch (Store d r) = omega arith
installed_lower p q t latch (Take d r) = omega arith
installed_lower p q t latch (Swap d r l) = omega arith
installed_lower p q t latch (Open l r) = omega arith
installed_lower p q t latch (Mark d u) = mark_installed (nat_eq t u)
installed_lower p q t latch (Install d l) = install_installed (nat_eq t (named p l))
installed_lower p q t latch (Sleep d l) = sleep_installed (nat_eq latch l)
installed_lower p q t latch (Got v) = omega arith
installed_lower p q t latch Failed = omega arith
installed_lower p q t latch Cycle = omega arith

-- an accessor ranks the same where its latch names the same thread
same_rank : (p q : Protocol) (s : State) (pos : Pos) → ((d latch : ℕ) → pos ≡ Install d latch → named q latch ≡ named p latch) → rank q s pos ≤ rank p s pos
same_rank p q s Idle names = omega arith
same_rank p q s (Look d) names = omega arith
same_rank p q s (Claim d) names = omega arith
same_rank p q s (Body d) names = omega arith
same_rank p q s (Store d r) names = omega arith
same_rank p q s (Take d r) names = omega arith
same_rank p q s (Swap d r l) names = omega arith
same_rank p q s (Open l r) names = omega arith
same_rank p q s (Mark d u) names = omega arith
same_rank p q s (Install d l) names = rw (names d l refl) (omega arith)
same_rank p q s (Sleep d l) names = omega arith
same_rank p q s (Got v) names = omega arith
same_rank p q s Failed names = omega arith
same_rank p q s Cycle names = omega arith

abbrev unlike : Bool → ℕ
unlike b = if b then 0 else 1

-- cells that differ to readers, or don't
differ_if : {A : Type 0} (f : ℕ → A) (m n : ℕ) → (f m ≡ f n) ⊎ (unlike (nat_eq m n) ≡ 1)
differ_if f m n = go (nat_eq m n) refl
  where
    go : (b : Bool) → nat_eq m n ≡ b → (f m ≡ f n) ⊎ (unlike b ≡ 1)
    go true e = inl (ap f (eqb-true m n e))
    go false e = inr refl

differ_or_same : (a b : Once) → (a ≡ b) ⊎ (differ a b ≡ 1)
differ_or_same once.Empty once.Empty = inl refl
differ_or_same (once.Running u) (once.Running w) = differ_if once.Running u w
differ_or_same (once.Done v) (once.Done w) = differ_if once.Done v w
differ_or_same once.Empty (once.Running w) = inr refl
differ_or_same once.Empty (once.Done w) = inr refl
differ_or_same (once.Running u) once.Empty = inr refl
differ_or_same (once.Running u) (once.Done w) = inr refl
differ_or_same (once.Done v) once.Empty = inr refl
differ_or_same (once.Done v) (once.Running w) = inr refl

module _ (p : Protocol) (kept : IsKept p) (a : ℕ × Act) (there : a.0 < length p.at) (q : Protocol) (moved : acted p a.0 a.1 ≡ Moves q) (who c : ℕ) where
  -- another's step ranks this accessor no higher, but where the cell changes
  other_rank : a.0 ≢ who → rank q (content q c) (position q who) ≤ rank p (content p c) (position p who) + 9 * differ (abstract_of p c) (abstract_of q c)
  other_rank ne = go (differ_or_same (abstract_of p c) (abstract_of q c)) (act_kin p kept.0 kept.1 a.0 there c a.1 q moved)
    where
      stands : position q who ≡ position p who
      stands = others_stand p a.0 a.1 q moved who (λ e. ne (sym e))

      names : (d latch : ℕ) → position p who ≡ Install d latch → named q latch ≡ named p latch
      names d latch at =
          let mine : stage_of latch ≡ Mine who = (subst (Keeps p.cells (length p.opened) kept.0 who) at (kept.1.keeps who)).1 in
          let within : latch < length p.opened = made p.opened latch (kept.1.over latch ∙ ap is_over mine) in
          names_stay p a.0 a.1 q moved latch (subst (λ n. latch < n) (sym kept.1.owners) within)
        where
          stage_of : ℕ → Stage
          stage_of = kept.0

      go : (abstract_of p c ≡ abstract_of q c) ⊎ (differ (abstract_of p c) (abstract_of q c) ≡ 1) → Kin p q c → rank q (content q c) (position q who) ≤ rank p (content p c) (position p who) + 9 * differ (abstract_of p c) (abstract_of q c)
      go (inr one) k = rw one (let small : rank q (content q c) (position q who) ≤ 9 = rank_small q (content q c) (position q who) in omega arith)
      go (inl e) (changed ne) = absurd (ne (sym e))
      go (inl e) (same is) = rw (stands, is) (let low : rank q (content p c) (position p who) ≤ rank p (content p c) (position p who) = same_rank p q (content p c) (position p who) names in omega arith)
      go (inl e) (installed t latch was is) = rw (stands, was, is) (let low : rank q (Waiting latch) (position p who) ≤ rank p (Evaluating t) (position p who) = installed_lower p q t latch (position p who) in omega arith)

  -- its own step ranks lower
  own_rank : (a.0 ≡ who) → (IsOneRead (length p.at) who (a ∷ [])) → Serves c (abstract_of p c) (task (position p who)) → rank q (content q c) (position q who) < rank p (content p c) (position p who)
  unfolding IsOneRead
  own_rank e one serves =
      subst (λ u. rank q (content q c) (position q u) < rank p (content p c) (position p u)) e
      (own_falls p kept.0 kept.1 a.0 there c a.1 (one.1 e) (subst (λ u. Serves c (abstract_of p c) (task (position p u))) (sym e) serves) q moved)

abbrev none_of : Bool → ℕ
none_of b = if b then 0 else 0

nothing : (b : Bool) → none_of b ≡ 0
nothing true = refl
nothing false = refl

-- the steps of a read, by the changes of its cell
pub paced : (who c : ℕ) (acts : List (ℕ × Act)) (p : Protocol) → IsKept p → IsOneRead (length p.at) who acts → Serves c (abstract_of p c) (task (position p who)) → steps who p acts ≤ rank p (content p c) (position p who) + 9 * changes c p acts
unfolding IsOneRead steps changes
paced who c [] p kept one serves = omega arith
paced who c (a ∷ acts) p kept one serves = go (λ q k o s. paced who c acts q k o s) (acted p a.0 a.1) refl (same_or_not a.0 who)
  where
    go : ((q : Protocol) → IsKept q → IsOneRead (length q.at) who acts → Serves c (abstract_of q c) (task (position q who)) → steps who q acts ≤ rank q (content q c) (position q who) + 9 * changes c q acts) → (o : Outcome) → acted p a.0 a.1 ≡ o → (a.0 ≡ who) ⊎ (a.0 ≢ who) → (if nat_eq a.0 who then if_moved o else 0) + steps who (after p o) acts ≤ rank p (content p c) (position p who) + 9 * (differ (abstract_of p c) (abstract_of (after p o) c) + changes c (after p o) acts)
    go rec (Moves q) e (inl is_who) =
        let next : steps who q acts ≤ rank q (content q c) (position q who) + 9 * changes c q acts = rec q (step_keeps p q kept a.0 one.0 a.1 e) (subst (λ n. IsOneRead n who acts) (sym (as_many p a.0 a.1 q e)) one.2) (subst (λ u. Serves c (abstract_of q c) (task (position q u))) is_who (own_serves p kept a.0 one.0 a.1 q e (one.1 is_who) c (subst (λ u. Serves c (abstract_of p c) (task (position p u))) (sym is_who) serves))) in
        let lower : rank q (content q c) (position q who) < rank p (content p c) (position p who) = own_rank p kept a one.0 q e who c is_who (one.0, one.1, tt) serves in
        rw (eq-eqb a.0 who is_who) (omega arith)
    go rec (Moves q) e (inr ne) =
        let next : steps who q acts ≤ rank q (content q c) (position q who) + 9 * changes c q acts = rec q (step_keeps p q kept a.0 one.0 a.1 e) (subst (λ n. IsOneRead n who acts) (sym (as_many p a.0 a.1 q e)) one.2) (other_serves p kept a.0 one.0 a.1 q e who (λ e. ne (sym e)) c serves) in
        let low : rank q (content q c) (position q who) ≤ rank p (content p c) (position p who) + 9 * differ (abstract_of p c) (abstract_of q c) = other_rank p kept a one.0 q e who c ne in
        rw (ne_eqb a.0 who ne) (omega arith)
    go rec Waits e s = let next = rec p kept one.2 serves in rw (nothing (nat_eq a.0 who)) (omega arith)
    go rec Refuses e s = let next = rec p kept one.2 serves in rw (nothing (nat_eq a.0 who)) (omega arith)

-- an accessor that is entered looks at its cell
pub entered : (p q : Protocol) (who c : ℕ) → who < length p.at → acted p who (Read c) ≡ Moves q → position q who ≡ Look c
entered p q who c within e = go (has_ended (position p who) && nat_lt c (length p.cells)) e
  where
    go : (b : Bool) → (if b then goes p who (Look c) else Refuses) ≡ Moves q → position q who ≡ Look c
    go true e = subst (λ q. position q who ≡ Look c) (moves_same e) (get_or-set_same p.at who (Look c) Idle within)
    go false e = absurd (unmoved Refuses q (omega arith) e)

pub read_paced : (who c : ℕ) (acts : List (ℕ × Act)) (p q : Protocol) → IsKept p → who < length p.at → acted p who (Read c) ≡ Moves q → IsOneRead (length p.at) who acts → steps who p ((who, Read c) ∷ acts) ≤ 16 * (2 + changes c p ((who, Read c) ∷ acts))
unfolding steps changes
read_paced who c acts p q kept within e one = go (acted p who (Read c)) e
  where
    bound : steps who q acts ≤ 9 + 9 * changes c q acts
    bound =
        let most = paced who c acts q (step_keeps p q kept who within (Read c) e) (subst (λ n. IsOneRead n who acts) (sym (as_many p who (Read c) q e)) one) (subst (λ x. Serves c (abstract_of q c) (task x)) (sym (entered p q who c within e)) refl) in
        let small : rank q (content q c) (position q who) ≤ 9 = rank_small q (content q c) (position q who) in
        omega arith

    go : (o : Outcome) → o ≡ Moves q → (if nat_eq who who then if_moved o else 0) + steps who (after p o) acts ≤ 16 * (2 + (differ (abstract_of p c) (abstract_of (after p o) c) + changes c (after p o) acts))
    go o is = subst (λ o. (if nat_eq who who then if_moved o else 0) + steps who (after p o) acts ≤ 16 * (2 + (differ (abstract_of p c) (abstract_of (after p o) c) + changes c (after p o) acts))) (sym is) (rw (eq-eqb who who refl) (let most = bound in omega arith))

pub read_value : (who c : ℕ) (acts : List (ℕ × Act)) (p q : Protocol) → IsKept p → who < length p.at → acted p who (Read c) ≡ Moves q → IsOneRead (length p.at) who acts → (v : ℕ) → position (ran q acts) who ≡ Got v → abstract_of (ran q acts) c ≡ once.Done v
read_value who c acts p q kept within e one =
    got_is_done who c acts q (step_keeps p q kept who within (Read c) e) (subst (λ n. IsOneRead n who acts) (sym (as_many p who (Read c) q e)) one) (entered p q who c within e)
