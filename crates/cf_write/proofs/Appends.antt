-- Loops that append one piece for each element of a list.
use Rattle.std.proofs.Common.{◌≡◌, ℕ, zero, suc, ◌+◌, ◌<◌, List, [], ◌∷◌, ◌++◌, length, get_or, take, sym, ap, ◌∙◌, arith}
use Rattle.std.specs.List.{flat_map, AllByRecursion}
use Rattle.std.proofs.lemmas.List.{take_more, flat_map_more}

-- one more piece
pub pieces_more : {X : Type 0} (f : X → List ℕ) (xs : List X) (i : ℕ) (d : X) (old now new : List ℕ) → i < length xs
    → now ≡ old ++ flat_map f (take i xs) → new ≡ now ++ f (get_or xs i d) → new ≡ old ++ flat_map f (take (i + 1) xs)
pieces_more f xs i d old now new h p q =
    q ∙ ap (λ b. b ++ f (get_or xs i d)) p ∙ flat_map_more f old (take i xs) (get_or xs i d)
    ∙ ap (λ l. old ++ flat_map f l) (sym (take_more xs i d h))

-- what holds of each element
pub each_of : {X : Type 0} (P : X → Type 0) (xs : List X) (i : ℕ) (d : X) → AllByRecursion P xs → i < length xs → P (get_or xs i d)
each_of P [] i d a h = absurd (omega arith)
each_of P (x ∷ xs) zero d a h = a.0
each_of P (x ∷ xs) (suc i) d a h = each_of P xs i d a.1 (omega arith)
