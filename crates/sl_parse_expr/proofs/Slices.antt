-- Taking one more.
use Rattle.std.proofs.Common.{◌≡◌, ℕ, zero, suc, List, [], ◌∷◌, ◌++◌, take, drop, refl, ap}
use Rattle.sl_ast.specs.declared.token.Token.{Token}
use Rattle.sl_parse_expr.specs.Reading.{first, rest}

pub take_more : (n : ℕ) (ts : List Token) → take (suc n) ts ≡ take n ts ++ first (drop n ts)
take_more zero [] = refl
take_more zero (t ∷ ts) = refl
take_more (suc n) [] = refl
take_more (suc n) (t ∷ ts) = ap (λ (z : List Token). t ∷ z) (take_more n ts)

pub drop_more : (n : ℕ) (ts : List Token) → drop (suc n) ts ≡ rest (drop n ts)
drop_more zero [] = refl
drop_more zero (t ∷ ts) = refl
drop_more (suc n) [] = refl
drop_more (suc n) (t ∷ ts) = drop_more n ts
