-- What a call returned.
use Rattle.std.proofs.Common.{◌≡◌, List, [], ◌∷◌, ℕ, suc, refl, sym, ◌∙◌, arith, ne_eqb, Bool, true≢false, Option, Some, None, MatchOption, IsTrue, ◌↔◌, ◌==◌, length}

-- what was read, seen otherwise
pub in_either : {X P P' : Type 0} {Q Q' : X → Type 0} (r : Option X) → MatchOption r P Q → (P → P') → ((x : X) → Q x → Q' x) → MatchOption r P' Q'
in_either None h none some = none h
in_either (Some x) h none some = some x h

-- a list of length 0
pub is_nil : (xs : List ℕ) (b : Bool) → b ≡ (length xs == 0) → IsTrue b ↔ (xs ≡ [])
is_nil [] b e = ((λ _. refl), (λ _. e))
is_nil (x ∷ xs) b e = ((λ t. absurd (true≢false (sym t ∙ e ∙ ne_eqb (suc (length xs)) 0 (λ n. omega (arith, n))))), (λ n. absurd cc))
