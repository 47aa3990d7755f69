-- A cell is written once.
use Rattle.std.proofs.Common.{◌≡◌, ◌≢◌, ℕ, ◌<◌, ◌≤◌, ◌+◌, List, [], ◌∷◌, length, Bool, true, false, Option, Some, ◌⊎◌, inl, inr, sym, ap, subst, refl, ◌∙◌, arith, eqb-true, eq-eqb, true≢false, if◌then◌else◌}
use Rattle.std.specs.List.{All}
use Rattle.std.proofs.lemmas.List.Elements.{All-head, All-tail}
use Rattle.runs.proofs.Putting.{same_or_not}
use Rattle.lz_proto.specs.declared.pos.Pos.{Pos}
use Rattle.lz_proto.specs.declared.pos.Pos.TheVariants.{Idle, Look, Claim, Body, Store, Take, Swap, Open, Mark, Install, Sleep, Got, Failed, Cycle}
use Rattle.lz_proto.specs.declared.once.Once.{Once}
use Rattle.lz_proto.specs.declared.once.Once.TheVariants as once
use Rattle.lz_proto.specs.declared.act.Act.{Act}
use Rattle.lz_proto.specs.declared.act.Act.TheVariants.{Read, Return, Throw, Go}
use Rattle.lz_proto.specs.Protocol.{Protocol, position}
use Rattle.lz_proto.specs.Steps.{Outcome, Moves, Waits, Refuses, finish, acted}
use Rattle.lz_proto.specs.Once.{is_inside, abstract_of, Task, Runs, Ends, task, Rule, enters, gives, meets, returns, throws, stores, fails, Shows, silent, begins, moves}
use Rattle.lz_proto.specs.Kept.{IsKept}
use Rattle.lz_proto.specs.Promises.{after, ran, is_return, returned}
use Rattle.lz_proto.proofs.Acting.{rests_outside, number}
use Rattle.lz_proto.proofs.Own.{step_keeps}
use Rattle.lz_proto.proofs.Following.{running_of}
use Rattle.lz_proto.proofs.Rules.{act_follows}
use Rattle.lz_proto.proofs.Serving.{values_stay}
use Rattle.lz_proto.proofs.Standing.{others_stand, as_many}

-- a value was returned: it is in the cell, or about to be stored
abbrev Given : ℕ → Protocol → Type 0
Given c p = ((v : ℕ) × (abstract_of p c ≡ once.Done v)) ⊎ ((u : ℕ) × (v : ℕ) × (task (position p u) ≡ Ends c (Some v)))

abbrev IsEnding : Task → Type 0
IsEnding (Ends c r) = Unit {0}
IsEnding other = ⊥

abbrev IsRunning : Task → Type 0
IsRunning (Runs c) = Unit {0}
IsRunning other = ⊥

abbrev IsValue : Task → Type 0
IsValue (Ends c (Some v)) = Unit {0}
IsValue other = ⊥

abbrev IsReturn : Act → Type 0
IsReturn (Return v) = Unit {0}
IsReturn other = ⊥

abbrev IsDone : Once → Type 0
IsDone (once.Done v) = Unit {0}
IsDone other = ⊥

abbrev cell_of : Task → ℕ
cell_of (Runs c) = c
cell_of (Ends c r) = c
cell_of other = 0

-- where an initialiser returns
return_body : (c : ℕ) (pos : Pos) (act : Act) → is_return c pos act ≡ true → (v : ℕ) × (act ≡ Return v) × (pos ≡ Body c)
return_body c (Body d) (Return v) e = (v, refl, ap Body (eqb-true d c e))
return_body c (Body d) (Read b) e = absurd (true≢false (sym e))
return_body c (Body d) Throw e = absurd (true≢false (sym e))
return_body c (Body d) Go e = absurd (true≢false (sym e))
return_body c Idle act e = absurd (true≢false (sym e))
return_body c (Look d) act e = absurd (true≢false (sym e))
return_body c (Claim d) act e = absurd (true≢false (sym e))
return_body c (Store d r) act e = absurd (true≢false (sym e))
return_body c (Take d r) act e = absurd (true≢false (sym e))
return_body c (Swap d r latch) act e = absurd (true≢false (sym e))
return_body c (Open latch r) act e = absurd (true≢false (sym e))
return_body c (Mark d t) act e = absurd (true≢false (sym e))
return_body c (Install d latch) act e = absurd (true≢false (sym e))
return_body c (Sleep d latch) act e = absurd (true≢false (sym e))
return_body c (Got v) act e = absurd (true≢false (sym e))
return_body c Failed act e = absurd (true≢false (sym e))
return_body c Cycle act e = absurd (true≢false (sym e))

-- who stores a result is inside its cell
ends_inside : (c : ℕ) (r : Option ℕ) (pos : Pos) → task pos ≡ Ends c r → is_inside c pos ≡ true
ends_inside c r (Store d s) e = eq-eqb d c (ap cell_of e)
ends_inside c r (Take d s) e = eq-eqb d c (ap cell_of e)
ends_inside c r (Swap d s latch) e = eq-eqb d c (ap cell_of e)
ends_inside c r Idle e = absurd (subst IsEnding (sym e) tt)
ends_inside c r (Look d) e = absurd (subst IsEnding (sym e) tt)
ends_inside c r (Claim d) e = absurd (subst IsEnding (sym e) tt)
ends_inside c r (Body d) e = absurd (subst IsEnding (sym e) tt)
ends_inside c r (Open latch s) e = absurd (subst IsEnding (sym e) tt)
ends_inside c r (Mark d t) e = absurd (subst IsEnding (sym e) tt)
ends_inside c r (Install d latch) e = absurd (subst IsEnding (sym e) tt)
ends_inside c r (Sleep d latch) e = absurd (subst IsEnding (sym e) tt)
ends_inside c r (Got v) e = absurd (subst IsEnding (sym e) tt)
ends_inside c r Failed e = absurd (subst IsEnding (sym e) tt)
ends_inside c r Cycle e = absurd (subst IsEnding (sym e) tt)

-- a value that is about to be stored is
rule_stores : (p : Protocol) (who c d v : ℕ) (act : Act) (a b : Once) (t s : Task) → Rule p who d act a t b s → t ≡ Ends c (Some v) → (w : ℕ) × (d ≡ c) × (b ≡ once.Done w)
rule_stores p who c d v act a b t s (stores w) e = (w, ap cell_of e, refl)
rule_stores p who c d v act a b t s enters e = absurd (subst IsEnding (sym e) tt)
rule_stores p who c d v act a b t s (gives w) e = absurd (subst IsEnding (sym e) tt)
rule_stores p who c d v act a b t s (meets u same) e = absurd (subst IsEnding (sym e) tt)
rule_stores p who c d v act a b t s (returns w) e = absurd (subst IsEnding (sym e) tt)
rule_stores p who c d v act a b t s throws e = absurd (subst IsEnding (sym e) tt)
rule_stores p who c d v act a b t s fails e = absurd (subst IsValue (sym e) tt)

-- a return is about to be stored
rule_returns : (p : Protocol) (who c d : ℕ) (act : Act) (a b : Once) (t s : Task) → Rule p who d act a t b s → t ≡ Runs c → IsReturn act → (w : ℕ) × (s ≡ Ends c (Some w))
rule_returns p who c d act a b t s (returns w) e is = (w, ap (λ c. Ends c (Some w)) (ap cell_of e))
rule_returns p who c d act a b t s throws e is = absurd is
rule_returns p who c d act a b t s (stores w) e is = absurd (subst IsRunning (sym e) tt)
rule_returns p who c d act a b t s enters e is = absurd (subst IsRunning (sym e) tt)
rule_returns p who c d act a b t s (gives w) e is = absurd (subst IsRunning (sym e) tt)
rule_returns p who c d act a b t s (meets u same) e is = absurd (subst IsRunning (sym e) tt)
rule_returns p who c d act a b t s fails e is = absurd (subst IsRunning (sym e) tt)

module _ (p : Protocol) (kept : IsKept p) (who : ℕ) (within : who < length p.at) (act : Act) (c : ℕ) where
  -- no initialiser returns once one has
  none_returns : Given c p → is_return c (position p who) act ≡ true → ⊥
  none_returns given e = go given
    where
      body : position p who ≡ Body c
      body = (return_body c (position p who) act e).2

      inside : is_inside c (position p who) ≡ true
      inside = ap (is_inside c) body ∙ eq-eqb c c refl

      go : Given c p → ⊥
      go (inl done) = subst IsDone (sym done.1 ∙ running_of p kept.0 kept.1 c who inside) tt
      go (inr ends) =
          let same : ends.0 ≡ who = kept.1.one c who ends.0 inside (ends_inside c (Some ends.1) (position p ends.0) ends.2) in
          subst IsEnding (sym ends.2 ∙ ap (λ u. task (position p u)) same ∙ ap task body) tt

  module _ (q : Protocol) (moved : acted p who act ≡ Moves q) where
    given_stays : Given c p → Given c q
    given_stays (inl done) = inl (done.0, values_stay p kept who within act q moved c done.0 done.1)
    given_stays (inr ends) = go (same_or_not ends.0 who)
      where
        shown : ends.0 ≡ who → Shows p who act q → Given c q
        shown same (silent e stay t) = inr (who, ends.1, t ∙ ap (λ u. task (position p u)) (sym same) ∙ ends.2)
        shown same (begins d e stay rested t) =
            absurd (true≢false (sym (ends_inside c (Some ends.1) (position p ends.0) ends.2) ∙ ap (λ u. is_inside c (position p u)) same ∙ rests_outside (position p who) rested c))
        shown same (moves d others rule exchange) =
            let stored = rule_stores p who c d ends.1 act (abstract_of p d) (abstract_of q d) (task (position p who)) (task (position q who)) rule (ap (λ u. task (position p u)) (sym same) ∙ ends.2) in
            inl (stored.0, subst (λ d. abstract_of q d ≡ once.Done stored.0) stored.1 stored.2)

        go : (ends.0 ≡ who) ⊎ (ends.0 ≢ who) → Given c q
        go (inr ne) = inr (ends.0, ends.1, ap task (others_stand p who act q moved ends.0 ne) ∙ ends.2)
        go (inl same) = shown same (act_follows p kept.0 kept.1 who within act q moved).shows

    return_gives : is_return c (position p who) act ≡ true → Given c q
    return_gives e = shown (act_follows p kept.0 kept.1 who within act q moved).shows
      where
        is : IsReturn act
        is = subst IsReturn (sym (return_body c (position p who) act e).1) tt

        body : task (position p who) ≡ Runs c
        body = ap task (return_body c (position p who) act e).2

        shown : Shows p who act q → Given c q
        shown (silent go stay t) = absurd (subst IsReturn go is)
        shown (begins d read stay rested t) = absurd (subst IsReturn read is)
        shown (moves d others rule exchange) =
            let given = rule_returns p who c d act (abstract_of p d) (abstract_of q d) (task (position p who)) (task (position q who)) rule body is in
            inr (who, given.0, given.1)

  -- a return moves
  return_moves : (o : Outcome) → acted p who act ≡ o → is_return c (position p who) act ≡ true → number o ≡ 0
  return_moves o e is =
      let by = return_body c (position p who) act is in
      ap number (sym e ∙ ap (acted p who) by.1 ∙ ap (λ pos. finish p who pos (Some by.0)) by.2)

none_more : (c : ℕ) (acts : List (ℕ × Act)) (p : Protocol) → IsKept p → All (λ a. a.0 < length p.at) acts → Given c p → returned c p acts ≡ 0
unfolding returned
none_more c [] p kept there given = refl
none_more c (a ∷ acts) p kept there given = go (λ q k t g. none_more c acts q k t g) (is_return c (position p a.0) a.1) refl (acted p a.0 a.1) refl
  where
    here : a.0 < length p.at
    here = All-head (λ a. a.0 < length p.at) a acts there

    others : All (λ a. a.0 < length p.at) acts
    others = All-tail (λ a. a.0 < length p.at) a acts there

    go : ((q : Protocol) → IsKept q → All (λ a. a.0 < length q.at) acts → Given c q → returned c q acts ≡ 0) → (b : Bool) → is_return c (position p a.0) a.1 ≡ b → (o : Outcome) → acted p a.0 a.1 ≡ o → (if b then 1 else 0) + returned c (after p o) acts ≡ 0
    go rec true r o e = absurd (none_returns p kept a.0 here a.1 c given r)
    go rec false r (Moves q) e =
        let rest : returned c q acts ≡ 0 = rec q (step_keeps p q kept a.0 here a.1 e) (subst (λ n. All (λ a. a.0 < n) acts) (sym (as_many p a.0 a.1 q e)) others) (given_stays p kept a.0 here a.1 c q e given) in
        omega arith
    go rec false r Waits e = let rest : returned c p acts ≡ 0 = rec p kept others given in omega arith
    go rec false r Refuses e = let rest : returned c p acts ≡ 0 = rec p kept others given in omega arith

pub returned_once : (c : ℕ) (acts : List (ℕ × Act)) (p : Protocol) → IsKept p → All (λ a. a.0 < length p.at) acts → returned c p acts ≤ 1
unfolding returned
returned_once c [] p kept there = omega arith
returned_once c (a ∷ acts) p kept there = go (λ q k t. returned_once c acts q k t) (is_return c (position p a.0) a.1) refl (acted p a.0 a.1) refl
  where
    here : a.0 < length p.at
    here = All-head (λ a. a.0 < length p.at) a acts there

    others : All (λ a. a.0 < length p.at) acts
    others = All-tail (λ a. a.0 < length p.at) a acts there

    there_behind : (q : Protocol) → acted p a.0 a.1 ≡ Moves q → All (λ a. a.0 < length q.at) acts
    there_behind q e = subst (λ n. All (λ a. a.0 < n) acts) (sym (as_many p a.0 a.1 q e)) others

    go : ((q : Protocol) → IsKept q → All (λ a. a.0 < length q.at) acts → returned c q acts ≤ 1) → (b : Bool) → is_return c (position p a.0) a.1 ≡ b → (o : Outcome) → acted p a.0 a.1 ≡ o → (if b then 1 else 0) + returned c (after p o) acts ≤ 1
    go rec true r (Moves q) e =
        let rest : returned c q acts ≡ 0 = none_more c acts q (step_keeps p q kept a.0 here a.1 e) (there_behind q e) (return_gives p kept a.0 here a.1 c q e r) in
        omega arith
    go rec true r Waits e = absurd (let none = return_moves p kept a.0 here a.1 c Waits e r in omega (arith, none))
    go rec true r Refuses e = absurd (let none = return_moves p kept a.0 here a.1 c Refuses e r in omega (arith, none))
    go rec false r (Moves q) e =
        let rest : returned c q acts ≤ 1 = rec q (step_keeps p q kept a.0 here a.1 e) (there_behind q e) in
        omega arith
    go rec false r Waits e = let rest : returned c p acts ≤ 1 = rec p kept others in omega arith
    go rec false r Refuses e = let rest : returned c p acts ≤ 1 = rec p kept others in omega arith

-- a value stays
pub value_kept : (c v : ℕ) (acts : List (ℕ × Act)) (p : Protocol) → IsKept p → All (λ a. a.0 < length p.at) acts → abstract_of p c ≡ once.Done v → abstract_of (ran p acts) c ≡ once.Done v
unfolding ran
value_kept c v [] p kept there is = is
value_kept c v (a ∷ acts) p kept there is = go (λ q k t i. value_kept c v acts q k t i) (acted p a.0 a.1) refl
  where
    here : a.0 < length p.at
    here = All-head (λ a. a.0 < length p.at) a acts there

    others : All (λ a. a.0 < length p.at) acts
    others = All-tail (λ a. a.0 < length p.at) a acts there

    go : ((q : Protocol) → IsKept q → All (λ a. a.0 < length q.at) acts → abstract_of q c ≡ once.Done v → abstract_of (ran q acts) c ≡ once.Done v) → (o : Outcome) → acted p a.0 a.1 ≡ o → abstract_of (ran (after p o) acts) c ≡ once.Done v
    go rec (Moves q) e =
        rec q (step_keeps p q kept a.0 here a.1 e) (subst (λ n. All (λ a. a.0 < n) acts) (sym (as_many p a.0 a.1 q e)) others) (values_stay p kept a.0 here a.1 q e c v is)
    go rec Waits e = rec p kept others is
    go rec Refuses e = rec p kept others is
