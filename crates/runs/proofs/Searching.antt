-- The first number of a range where something fails.
use Rattle.std.proofs.Common.{ℕ, zero, suc, ◌<◌, ◌≤◌, ◌⊎◌, ⊎_elim, inl, inr, subst, arith}
use Rattle.std.proofs.lemmas.Bool.{cases_lt}

abbrev pub Decided : Type 0 → Type 0
Decided P = P ⊎ (P → ⊥)

-- P holds of the numbers from `low` on and below n
abbrev pub Throughout : (ℕ → Type 0) → ℕ → ℕ → Type 0
Throughout P low n = (d : ℕ) → low ≤ d → d < n → P d

-- the first of them of which P fails
pub record FirstFailing (P : ℕ → Type 0) (low n : ℕ) : Type 0 where
  pub at : ℕ
  pub above : low ≤ at
  pub below : at < n
  pub fails : P at → ⊥
  pub before : Throughout P low at

pub all_or_first : (P : ℕ → Type 0) (decide : (d : ℕ) → Decided (P d)) (low n : ℕ) → Throughout P low n ⊎ FirstFailing P low n
all_or_first P decide low zero = inl (λ d ge lt. absurd (omega arith))
all_or_first P decide low (suc n) = go (all_or_first P decide low n) (decide n) (cases_lt n low)
  where
    go : Throughout P low n ⊎ FirstFailing P low n → Decided (P n) → (n < low) ⊎ (low ≤ n) → Throughout P low (suc n) ⊎ FirstFailing P low (suc n)
    go (inr f) last within = inr (record { at = f.at; above = f.above; below = omega (arith, f.below); fails = f.fails; before = f.before })
    go (inl all) (inl holds) within = inl (λ d ge lt. ⊎_elim (λ less. all d ge less) (λ le. subst P (omega arith) holds) (cases_lt d n))
    go (inl all) (inr fails) (inl none) = inl (λ d ge lt. absurd (omega arith))
    go (inl all) (inr fails) (inr le) = inr (record { at = n; above = le; below = omega arith; fails = fails; before = all })
