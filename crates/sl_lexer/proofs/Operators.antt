-- Operators grow by a character.
use Rattle.std.proofs.Common.{◌≡◌, ℕ, ◌+◌, Bool, true, false, cond, List, [], ◌∷◌, drop, length, Some, None, refl, ap, ◌∙◌, arith}
use Rattle.sl_lexer.specs.Characters.{first, goes_on, operator_len}

pub none : (a : List ℕ) → first a ≡ None → operator_len a ≡ 0
none [] h = refl
none (c ∷ a) h = absurd cc

at : (d c : ℕ) (a : List ℕ) (b : Bool) → d ≡ c → goes_on c (first a) ≡ b → operator_len (d ∷ a) ≡ cond b (1 + operator_len a) 0
at d c a b e h = ap (λ x. cond x (1 + operator_len a) 0) (ap (λ x. goes_on x (first a)) e ∙ h)

pub stops : (a : List ℕ) (c : ℕ) → first a ≡ Some c → goes_on c (first (drop 1 a)) ≡ false → operator_len a ≡ 0
stops [] c h k = absurd cc
stops (d ∷ a) c h k = let e : d ≡ c = cc in at d c a false e k

pub goes : (a : List ℕ) (c : ℕ) → first a ≡ Some c → goes_on c (first (drop 1 a)) ≡ true → operator_len a ≡ 1 + operator_len (drop 1 a)
goes [] c h k = absurd cc
goes (d ∷ a) c h k = let e : d ≡ c = cc in at d c a true e k

pub less : (a : List ℕ) (c : ℕ) → first a ≡ Some c → length (drop 1 a) + 1 ≡ length a
less [] c h = absurd cc
less (d ∷ a) c h = omega arith
