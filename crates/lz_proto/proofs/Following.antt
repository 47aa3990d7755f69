-- Each act follows the rules of a cell that is written once.
use Rattle.std.proofs.Common.{◌≡◌, ℕ, zero, suc, List, [], ◌∷◌, get_or, Bool, true, false, sym, ap, subst, refl, ◌∙◌, arith, true≢false, if◌then◌else◌}
use Rattle.lz_proto.specs.declared.state.State.{State}
use Rattle.lz_proto.specs.declared.state.State.TheVariants.{Empty, Evaluating, Waiting, Done}
use Rattle.lz_proto.specs.declared.pos.Pos.{Pos}
use Rattle.lz_proto.specs.declared.pos.Pos.TheVariants.{Idle}
use Rattle.lz_proto.specs.declared.once.Once.TheVariants as once
use Rattle.lz_proto.specs.Protocol.{Protocol, content, position, named}
use Rattle.lz_proto.specs.Once.{is_inside, first_inside, runner, once_of, abstract_of}
use Rattle.lz_proto.specs.Kept.{Stage, IsRunBy, IsRun, Holds}

-- who alone is inside a cell is the first
found : (c : ℕ) (at : List Pos) (who : ℕ) → is_inside c (get_or at who Idle) ≡ true → ((u : ℕ) → is_inside c (get_or at u Idle) ≡ true → u ≡ who) → first_inside c at ≡ who
unfolding first_inside
found c [] who inside only = absurd (true≢false (sym inside))
found c (pos ∷ at) who inside only = go (λ w i o. found c at w i o) (is_inside c pos) who refl inside only
  where
    go : ((w : ℕ) → is_inside c (get_or at w Idle) ≡ true → ((u : ℕ) → is_inside c (get_or at u Idle) ≡ true → u ≡ w) → first_inside c at ≡ w) → (b : Bool) (who : ℕ) → is_inside c pos ≡ b → is_inside c (get_or (pos ∷ at) who Idle) ≡ true → ((u : ℕ) → is_inside c (get_or (pos ∷ at) u Idle) ≡ true → u ≡ who) → (if b then 0 else suc (first_inside c at)) ≡ who
    go rec true who e inside only = only 0 e
    go rec false zero e inside only = absurd (true≢false (sym inside ∙ e))
    go rec false (suc w) e inside only = ap suc (rec w inside (λ u i. suc_same (only (suc u) i)))
      where
        suc_same : {a b : ℕ} → suc a ≡ suc b → a ≡ b
        suc_same e = omega (arith, e)

module _ (p : Protocol) (stage : ℕ → Stage) (h : Holds p stage) where
  -- who is inside a cell is the one that is found
  pub runner_is : (c who : ℕ) → is_inside c (position p who) ≡ true → runner p c ≡ who
  runner_is c who inside = found c p.at who inside (λ u i. h.one c who u inside i)

  -- a cell is running for who is inside
  pub running_of : (c who : ℕ) → is_inside c (position p who) ≡ true → abstract_of p c ≡ once.Running who
  running_of c who inside = go (content p c) (h.runs c)
    where
      go : (s : State) → IsRun p c s → once_of p c s ≡ once.Running who
      go Empty run = absurd (true≢false (sym inside ∙ run who))
      go (Evaluating t) run = ap once.Running (runner_is c who inside)
      go (Waiting latch) run = ap once.Running (runner_is c who inside)
      go (Done v) run = absurd (true≢false (sym inside ∙ run who))

-- contents that are the same to readers
abbrev pub Alike : State → State → Type 0
Alike Empty Empty = Unit {0}
Alike (Done v) (Done w) = w ≡ v
Alike (Evaluating t) (Evaluating u) = Unit {0}
Alike (Evaluating t) (Waiting latch) = Unit {0}
Alike (Waiting latch) (Waiting other) = Unit {0}
Alike (Waiting latch) (Evaluating t) = Unit {0}
Alike s s' = ⊥

pub alike_self : (s : State) → Alike s s
alike_self Empty = tt
alike_self (Evaluating t) = tt
alike_self (Waiting latch) = tt
alike_self (Done v) = refl

same_runner : (p q : Protocol) (stage stage' : ℕ → Stage) → Holds p stage → Holds q stage' → (c t : ℕ) → ((u : ℕ) → is_inside c (position q u) ≡ is_inside c (position p u)) → IsRunBy p c t → abstract_of q c ≡ abstract_of p c
same_runner p q stage stage' h k c t inside run =
    running_of q stage' k c run.0 (inside run.0 ∙ run.1) ∙ sym (running_of p stage h c run.0 run.1)

-- cells stay what they are, where their contents and who is inside them stay
pub once_stays : (p q : Protocol) (stage stage' : ℕ → Stage) → Holds p stage → Holds q stage' → (c : ℕ) → (s s' : State) → content p c ≡ s → content q c ≡ s' → Alike s s' → ((u : ℕ) → is_inside c (position q u) ≡ is_inside c (position p u)) → abstract_of q c ≡ abstract_of p c
once_stays p q stage stage' h k c Empty Empty was is alike inside = ap (once_of q c) is ∙ ap (once_of p c) (sym was)
once_stays p q stage stage' h k c (Done v) (Done w) was is alike inside = ap (once_of q c) is ∙ ap once.Done alike ∙ ap (once_of p c) (sym was)
once_stays p q stage stage' h k c (Evaluating t) s' was is alike inside = same_runner p q stage stage' h k c t inside (subst (IsRun p c) was (h.runs c))
once_stays p q stage stage' h k c (Waiting latch) s' was is alike inside = same_runner p q stage stage' h k c (named p latch) inside (subst (IsRun p c) was (h.runs c))
once_stays p q stage stage' h k c Empty (Evaluating t) was is alike inside = absurd alike
once_stays p q stage stage' h k c Empty (Waiting latch) was is alike inside = absurd alike
once_stays p q stage stage' h k c Empty (Done v) was is alike inside = absurd alike
once_stays p q stage stage' h k c (Done v) Empty was is alike inside = absurd alike
once_stays p q stage stage' h k c (Done v) (Evaluating t) was is alike inside = absurd alike
once_stays p q stage stage' h k c (Done v) (Waiting latch) was is alike inside = absurd alike
