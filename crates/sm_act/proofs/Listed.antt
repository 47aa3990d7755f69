-- Arguments of calls, item by item, and texts.
use Rattle.std.proofs.Common.{◌≡◌, ℕ, zero, suc, ◌+◌, List, [], ◌∷◌, ◌++◌, drop, Option, Some, None, refl, sym, ap, ◌∙◌, arith}
use Rattle.std.specs.Prelude.{slice_get, option_to_list}
use Rattle.std.proofs.lemmas.List.{append_assoc}
use Rattle.std.specs.Option.{unwrap_or}
use Rattle.std.specs.Str.{IsAscii, chars}
use Rattle.std.proofs.lemmas.Str.{chars-IsAscii}
use Rattle.sm_state.specs.declared.value.Value.{Value}
use Rattle.sm_rule.specs.declared.answer.Answer.{Answer}
use Rattle.sm_rule.specs.declared.answer.Answer.TheVariants as answer
use Rattle.sm_rule.specs.Perform.{with_first}
use Rattle.sm_act.specs.Forms.{first_of}

-- the item with a number, if there is one, stands before those behind it
drop_get : {A : Type 0} (xs : List A) (k : ℕ) → option_to_list (slice_get xs k) ++ drop (suc k) xs ≡ drop k xs
drop_get [] zero = refl
drop_get [] (suc k) = refl
drop_get (x ∷ xs) zero = refl
drop_get (x ∷ xs) (suc k) = drop_get xs k

-- a step of a loop that copies a list from an item on
pub drop_step : {A : Type 0} (xs made whole : List A) (k : ℕ) → made ++ drop k xs ≡ whole → (made ++ option_to_list (slice_get xs k)) ++ drop (k + 1) xs ≡ whole
drop_step xs made whole k was =
    let next : k + 1 ≡ suc k = omega arith in
    ap (λ n. (made ++ option_to_list (slice_get xs k)) ++ drop n xs) next
    ∙ append_assoc made (option_to_list (slice_get xs k)) (drop (suc k) xs)
    ∙ ap (λ l. made ++ l) (drop_get xs k)
    ∙ was

pub first_is : (args : List (Option Value)) (this : Value) → slice_get args 0 ≡ Some (Some this) → first_of args ≡ Some (this, drop 1 args)
first_is [] this is = absurd (cc)
first_is (None ∷ args) this is = absurd (cc)
first_is (Some v ∷ args) this is = ap (λ v. Some (v, args)) (cc)

pub first_unset : (args : List (Option Value)) → slice_get args 0 ≡ Some None → first_of args ≡ None
first_unset [] is = refl
first_unset (None ∷ args) is = refl
first_unset (Some v ∷ args) is = absurd (cc)

pub first_missing : (args : List (Option Value)) → slice_get args 0 ≡ None → first_of args ≡ None
first_missing [] is = refl
first_missing (v ∷ args) is = absurd (cc)

-- what is done with the first argument
pub with_first_of : (f : Value → List (Option Value) → Answer) (args rest : List (Option Value)) (this : Value) → Some (this, rest) ≡ first_of args → with_first f args ≡ f this rest
with_first_of f [] rest this is = absurd (cc)
with_first_of f (None ∷ args) rest this is = absurd (cc)
with_first_of f (Some v ∷ args) rest this is =
    let both : (this, rest) ≡ (v, args) = ap (λ o. unwrap_or o (this, rest)) is in
    ap (λ q. f q.0 q.1) (sym both)

pub with_first_none : (f : Value → List (Option Value) → Answer) (args : List (Option Value)) → None ≡ first_of args → with_first f args ≡ answer.Wrong
with_first_none f [] is = refl
with_first_none f (None ∷ args) is = refl
with_first_none f (Some v ∷ args) is = absurd (cc)

pub ascii_chars : (bs text : List ℕ) → IsAscii bs → bs ≡ text → chars bs ≡ text
ascii_chars bs text ascii is = chars-IsAscii bs ascii ∙ is
