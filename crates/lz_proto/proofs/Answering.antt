-- What an answer tells of its act.
use Rattle.std.proofs.Common.{◌≡◌, ℕ, ◌<◌, length, ◌⊎◌, inl, inr, sym, ap, subst, refl, ◌∙◌, arith}
use Rattle.lz_proto.specs.declared.pos.Pos.TheVariants.{Mark}
use Rattle.lz_proto.specs.declared.act.Act.{Act}
use Rattle.lz_proto.specs.declared.stepped.Stepped.{Stepped}
use Rattle.lz_proto.specs.declared.stepped.Stepped.TheVariants as stepped
use Rattle.lz_proto.specs.Protocol.{Protocol, position}
use Rattle.lz_proto.specs.Steps.{Outcome, Moves, Waits, Refuses, acted}
use Rattle.lz_proto.specs.Once.{Follows}
use Rattle.lz_proto.specs.Kept.{IsKept}
use Rattle.lz_proto.specs.Causes.{WaitsWell, IsBarred, IsWrong, IsFull}
use Rattle.lz_proto.specs.Promises.{Answers}
use Rattle.lz_proto.proofs.Rules.{act_follows}
use Rattle.lz_proto.proofs.Waiters.{act_waits, barred_waits}
use Rattle.lz_proto.proofs.Refusing.{act_refused, is_refused}

abbrev number : Stepped → ℕ
number stepped.Moved = 0
number stepped.Waits = 1
number stepped.Wrong = 2

unlike : {A : Type 0} {a b : Stepped} → a ≡ b → (number a ≡ number b → ⊥) → A
unlike e ne = absurd (ne (ap number e))

moved_of : (answer : Stepped) (o : Outcome) (p q : Protocol) → Answers answer o p q → answer ≡ stepped.Moved → o ≡ Moves q
moved_of answer (Moves r) p q a e = ap Moves (sym a.1)
moved_of answer Waits p q a e = unlike (sym a.0 ∙ e) (λ n. omega (arith, n))
moved_of answer Refuses p q a e = unlike (sym a.0 ∙ e) (λ n. omega (arith, n))

waits_of : (answer : Stepped) (o : Outcome) (p q : Protocol) → Answers answer o p q → answer ≡ stepped.Waits → o ≡ Waits
waits_of answer (Moves r) p q a e = unlike (sym a.0 ∙ e) (λ n. omega (arith, n))
waits_of answer Waits p q a e = refl
waits_of answer Refuses p q a e = unlike (sym a.0 ∙ e) (λ n. omega (arith, n))

wrong_of : (answer : Stepped) (o : Outcome) (p q : Protocol) → Answers answer o p q → answer ≡ stepped.Wrong → o ≡ Refuses
wrong_of answer (Moves r) p q a e = unlike (sym a.0 ∙ e) (λ n. omega (arith, n))
wrong_of answer Waits p q a e = unlike (sym a.0 ∙ e) (λ n. omega (arith, n))
wrong_of answer Refuses p q a e = refl

wait_is : (answer : Stepped) (o : Outcome) (p q : Protocol) → Answers answer o p q → o ≡ Waits → answer ≡ stepped.Waits
wait_is answer o p q a e = (subst (λ o. Answers answer o p q) e a).0

refused_is : (answer : Stepped) (o : Outcome) (p q : Protocol) → Answers answer o p q → o ≡ Refuses → answer ≡ stepped.Wrong
refused_is answer o p q a e = (subst (λ o. Answers answer o p q) e a).0

module _ (p q : Protocol) (kept : IsKept p) (who : ℕ) (within : who < length p.at) (act : Act) (answer : Stepped) (done : Answers answer (acted p who act) p q) where
  pub answers_moved : answer ≡ stepped.Moved → Follows p who act q
  answers_moved e = act_follows p kept.0 kept.1 who within act q (moved_of answer (acted p who act) p q done e)

  pub answers_waits : answer ≡ stepped.Waits → WaitsWell p who
  answers_waits e = act_waits p kept.0 kept.1 kept.2 who act (waits_of answer (acted p who act) p q done e)

  pub barred_answers : IsBarred p who act → answer ≡ stepped.Waits
  barred_answers barred = wait_is answer (acted p who act) p q done (barred_waits p who act barred)

  pub answers_wrong : ((c t : ℕ) → position p who ≡ Mark c t → 0 < p.spare) → answer ≡ stepped.Wrong → IsWrong p who act
  answers_wrong room e = go (act_refused p kept.0 kept.1 who act (wrong_of answer (acted p who act) p q done e))
    where
      go : IsWrong p who act ⊎ IsFull p who act → IsWrong p who act
      go (inl wrong) = wrong
      go (inr full) = let some : 0 < p.spare = room full.1 full.2 full.3 in absurd (omega (arith, full.4))

  pub wrong_answers : IsWrong p who act → answer ≡ stepped.Wrong
  wrong_answers wrong = refused_is answer (acted p who act) p q done (is_refused p who act (inl wrong))
