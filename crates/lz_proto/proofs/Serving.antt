-- A value that was got is the cell's.
use Rattle.std.proofs.Common.{◌≡◌, ◌≢◌, ℕ, ◌<◌, List, [], ◌∷◌, length, Some, None, ⊎_elim, sym, ap, subst, refl, ◌∙◌}
use Rattle.runs.proofs.Putting.{same_or_not}
use Rattle.lz_proto.specs.declared.once.Once.{Once}
use Rattle.lz_proto.specs.declared.once.Once.TheVariants as once
use Rattle.lz_proto.specs.declared.act.Act.{Act}
use Rattle.lz_proto.specs.declared.pos.Pos.TheVariants.{Look, Got}
use Rattle.lz_proto.specs.Protocol.{Protocol, position}
use Rattle.lz_proto.specs.Steps.{Outcome, Moves, Waits, Refuses, acted}
use Rattle.lz_proto.specs.Once.{abstract_of, Task, Rests, Reads, Runs, Ends, Tells, Meets, task, Rule, enters, gives, meets, returns, throws, stores, fails, Shows, silent, begins, moves}
use Rattle.lz_proto.specs.Kept.{IsKept}
use Rattle.lz_proto.specs.Promises.{after, ran, IsRead, IsOneRead}
use Rattle.lz_proto.proofs.Own.{step_keeps}
use Rattle.lz_proto.proofs.Rules.{act_follows}
use Rattle.lz_proto.proofs.Standing.{others_stand, as_many}

-- what an accessor that reads this cell is at, where the cell is this
abbrev pub Serves : ℕ → Once → Task → Type 0
Serves c o Rests = ⊥
Serves c o (Reads d) = d ≡ c
Serves c o (Runs d) = d ≡ c
Serves c o (Ends d r) = d ≡ c
Serves c o (Tells (Some v)) = o ≡ once.Done v
Serves c o (Tells None) = Unit {0}
Serves c o Meets = Unit {0}

-- a move of its own
rule_serves : (p : Protocol) (who c d : ℕ) (act : Act) (a b : Once) (t s : Task) → Rule p who d act a t b s → (o : Once) → (d ≡ c → o ≡ b) → (o' : Once) → Serves c o' t → Serves c o s
rule_serves p who c d act a b t s enters o is o' h = h
rule_serves p who c d act a b t s (gives v) o is o' h = is h
rule_serves p who c d act a b t s (meets u same) o is o' h = tt
rule_serves p who c d act a b t s (returns v) o is o' h = h
rule_serves p who c d act a b t s throws o is o' h = h
rule_serves p who c d act a b t s (stores v) o is o' h = is h
rule_serves p who c d act a b t s fails o is o' h = tt

-- a value in a cell stays
value_stays : (p : Protocol) (who d v : ℕ) (act : Act) (a b : Once) (t s : Task) → Rule p who d act a t b s → a ≡ once.Done v → b ≡ once.Done v
value_stays p who d v act a b t s enters e = absurd (empty_unlike e)
  where
    is_empty : Once → Type 0
    is_empty once.Empty = Unit {0}
    is_empty other = ⊥

    empty_unlike : once.Empty ≡ once.Done v → ⊥
    empty_unlike e = subst is_empty e tt
value_stays p who d v act a b t s (gives w) e = e
value_stays p who d v act a b t s (meets u same) e = e
value_stays p who d v act a b t s (returns w) e = e
value_stays p who d v act a b t s throws e = e
value_stays p who d v act a b t s (stores w) e = absurd (running_unlike e)
  where
    is_running : Once → Type 0
    is_running (once.Running u) = Unit {0}
    is_running other = ⊥

    running_unlike : once.Running who ≡ once.Done v → ⊥
    running_unlike e = subst is_running e tt
value_stays p who d v act a b t s fails e = absurd (running_unlike e)
  where
    is_running : Once → Type 0
    is_running (once.Running u) = Unit {0}
    is_running other = ⊥

    running_unlike : once.Running who ≡ once.Done v → ⊥
    running_unlike e = subst is_running e tt

module _ (p : Protocol) (kept : IsKept p) (who : ℕ) (within : who < length p.at) (act : Act) (q : Protocol) (moved : acted p who act ≡ Moves q) where
  -- cells with a value keep it
  pub values_stay : (c v : ℕ) → abstract_of p c ≡ once.Done v → abstract_of q c ≡ once.Done v
  values_stay c v is = go (act_follows p kept.0 kept.1 who within act q moved).shows
    where
      go : Shows p who act q → abstract_of q c ≡ once.Done v
      go (silent e same t) = same c ∙ is
      go (begins d e same o t) = same c ∙ is
      go (moves d others rule exchange) =
          ⊎_elim
          (λ e. ap (abstract_of q) e ∙ value_stays p who d v act (abstract_of p d) (abstract_of q d) (task (position p who)) (task (position q who)) rule (ap (abstract_of p) (sym e) ∙ is))
          (λ ne. others c ne ∙ is)
          (same_or_not c d)

  -- its own step goes on with its read
  pub own_serves : (IsRead act → ⊥) → (c : ℕ) → Serves c (abstract_of p c) (task (position p who)) → Serves c (abstract_of q c) (task (position q who))
  own_serves unread c h = go (act_follows p kept.0 kept.1 who within act q moved).shows
    where
      go : Shows p who act q → Serves c (abstract_of q c) (task (position q who))
      go (silent e same t) = rw (same c, t) h
      go (begins d e same o t) = absurd (unread (subst IsRead (sym e) tt))
      go (moves d others rule exchange) =
          rule_serves p who c d act (abstract_of p d) (abstract_of q d) (task (position p who)) (task (position q who)) rule (abstract_of q c) (λ e. ap (abstract_of q) (sym e)) (abstract_of p c) h

  -- a step of another leaves it so
  pub other_serves : (u : ℕ) → u ≢ who → (c : ℕ) → Serves c (abstract_of p c) (task (position p u)) → Serves c (abstract_of q c) (task (position q u))
  other_serves u ne c h = rw (others_stand p who act q moved u ne) (go (task (position p u)) h)
    where
      go : (t : Task) → Serves c (abstract_of p c) t → Serves c (abstract_of q c) t
      go Rests h = h
      go (Reads d) h = h
      go (Runs d) h = h
      go (Ends d r) h = h
      go (Tells (Some v)) h = values_stay c v h
      go (Tells None) h = tt
      go Meets h = tt

-- a read goes on through acts that don't enter its accessor again
pub ran_serves : (who c : ℕ) (acts : List (ℕ × Act)) (p : Protocol) → IsKept p → IsOneRead (length p.at) who acts → Serves c (abstract_of p c) (task (position p who)) → Serves c (abstract_of (ran p acts) c) (task (position (ran p acts) who))
unfolding ran IsOneRead
ran_serves who c [] p kept one h = h
ran_serves who c (a ∷ acts) p kept one h = go (λ q k o s. ran_serves who c acts q k o s) (acted p a.0 a.1) refl
  where
    go : ((q : Protocol) → IsKept q → IsOneRead (length q.at) who acts → Serves c (abstract_of q c) (task (position q who)) → Serves c (abstract_of (ran q acts) c) (task (position (ran q acts) who))) → (o : Outcome) → acted p a.0 a.1 ≡ o → Serves c (abstract_of (ran (after p o) acts) c) (task (position (ran (after p o) acts) who))
    go rec (Moves q) e =
        rec q (step_keeps p q kept a.0 one.0 a.1 e) (subst (λ n. IsOneRead n who acts) (sym (as_many p a.0 a.1 q e)) one.2)
        (⊎_elim
        (λ same. subst (λ u. Serves c (abstract_of q c) (task (position q u))) same (own_serves p kept a.0 one.0 a.1 q e (one.1 same) c (subst (λ u. Serves c (abstract_of p c) (task (position p u))) (sym same) h)))
        (λ ne. other_serves p kept a.0 one.0 a.1 q e who (λ same. ne (sym same)) c h)
        (same_or_not a.0 who))
    go rec Waits e = rec p kept one.2 h
    go rec Refuses e = rec p kept one.2 h

pub got_is_done : (who c : ℕ) (acts : List (ℕ × Act)) (p : Protocol) → IsKept p → IsOneRead (length p.at) who acts → position p who ≡ Look c → (v : ℕ) → position (ran p acts) who ≡ Got v → abstract_of (ran p acts) c ≡ once.Done v
got_is_done who c acts p kept one at v got =
    subst (λ x. Serves c (abstract_of (ran p acts) c) (task x)) got (ran_serves who c acts p kept one (subst (λ x. Serves c (abstract_of p c) (task x)) (sym at) refl))
