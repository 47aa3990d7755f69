-- Lists made along the numbers below a bound.
use Rattle.std.proofs.Common.{◌≡◌, ◌∙◌, ℕ, suc, ◌+◌, Bool, true, false, [], ◌∷◌, ◌++◌, ap, append-nil, arith}
use Rattle.std.specs.List.{filter}
use Rattle.std.proofs.lemmas.List.Elements.{filter-append}
use Rattle.cf_link.specs.Layout.{numbers}

pub numbers_more : (n : ℕ) → numbers (n + 1) ≡ numbers n ++ n ∷ []
numbers_more n = let next : n + 1 ≡ suc n = omega arith in ap numbers next

filter_one : (p : ℕ → Bool) (n : ℕ) (b : Bool) → p n ≡ b → filter p (n ∷ []) ≡ (elim b [ true ↦ n ∷ [] | false ↦ [] ])
filter_one p n true is = simp is
filter_one p n false is = simp is

pub filter_in : (p : ℕ → Bool) (n : ℕ) → p n ≡ true → filter p (numbers (n + 1)) ≡ filter p (numbers n) ++ n ∷ []
filter_in p n is = ap (filter p) (numbers_more n) ∙ filter-append p (numbers n) (n ∷ []) ∙ ap (λ xs. filter p (numbers n) ++ xs) (filter_one p n true is)

pub filter_out : (p : ℕ → Bool) (n : ℕ) → p n ≡ false → filter p (numbers (n + 1)) ≡ filter p (numbers n)
filter_out p n is = ap (filter p) (numbers_more n) ∙ filter-append p (numbers n) (n ∷ []) ∙ ap (λ xs. filter p (numbers n) ++ xs) (filter_one p n false is) ∙ append-nil (filter p (numbers n))
