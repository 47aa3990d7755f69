-- Loops over items that leave nothing held: what they give is a list of the grammar, and such a list is read.
use Rattle.std.proofs.Common.{◌≡◌, Bool, true, false, List, [], ◌∷◌, ◌++◌, refl, sym, ap, subst, ◌∙◌, append_assoc}
use Rattle.std.specs.Prelude.{◌&&◌}
use Rattle.std.proofs.lemmas.List.{append-nil}
use Rattle.sl_ast.specs.declared.token.Token.{Token}
use Rattle.sl_parse_expr.specs.declared.ahead.Ahead.{Ahead}
use Rattle.sl_parse_expr.specs.declared.ahead.Ahead.TheVariants as see
use Rattle.sl_parse_expr.specs.Reading.{Reader, ahead, nothing, fold, clean}
use Rattle.sl_parse_expr.specs.Rules.{added}
use Rattle.sl_parse_expr.proofs.Theory.{Held, ok_of, fold_goes, fold_stays}
use Rattle.sl_parse_expr.proofs.Choices.{both_false}
use Rattle.sl_parse_expr.proofs.Loops.{Eats}
use Rattle.sl_parse_expr.proofs.Gives.{Gives, Clean, weaker, loop}
use Rattle.sl_parse_expr.proofs.Reaches.{Lands}

module _ {X : Type 0} (test : Ahead → Bool) (item : Reader X) (end : test see.End ≡ false) (eats : Eats item) where
  never : (xs : List X) (d : Held) → clean (λ (_ : List X) o. test o) xs see.End d ≡ false
  never xs d = ap (λ (b : Bool). nothing d && b) end ∙ both_false (nothing d)

  -- ---- what is given: L says what the list is, and whatever its rest is completes the whole, W

  module _ (I : X → List Token → List Token → Type 0) (L : List X → List Token → List Token → Type 0) (W : List X → List Token → Type 0)
      (nil : (r : List Token) → test (ahead r) ≡ false → L [] r r) (cons : (x : X) (xs : List X) (a b r : List Token) → I x a b → L xs b r → L (x ∷ xs) a r)
      (item_is : (a : List Token) → Gives item [] a (Clean (λ x b. I x a b))) where
    abbrev So : List X → Held → List Token → Type 0
    So xs d a = (d ≡ []) × ((zs : List X) (r : List Token) → L zs a r → W (xs ++ zs) r)

    step : (xs : List X) (d : Held) (a : List Token) → So xs d a → clean (λ (_ : List X) o. test o) xs (ahead a) d ≡ true → Gives item d a (λ x e b. So (xs ++ x ∷ []) e b)
    step xs [] a inv h = weaker (item_is a) (λ x e b k. (k.none, λ zs r j. subst (λ (z : List X). W z r) (sym (append_assoc xs (x ∷ []) zs)) (inv.1 (x ∷ zs) r (cons x zs a b r k.is j))))
    step xs (t ∷ d) a inv h = absurd cc

    done : (xs : List X) (d : Held) (a : List Token) → So xs d a → clean (λ (_ : List X) o. test o) xs (ahead a) d ≡ false → Clean W xs d a
    done xs [] a inv h = record { none = refl; is = subst (λ (z : List X). W z a) (append-nil xs) (inv.1 [] a (nil a h)) }
    done xs (t ∷ d) a inv h = absurd (let i = inv.0 in cc)

    pub list_is : (xs : List X) (a : List Token) → ((zs : List X) (r : List Token) → L zs a r → W (xs ++ zs) r) → Gives (fold (clean (λ _ o. test o)) item added xs) [] a (Clean W)
    list_is xs a whole = loop (λ _ o. test o) item added (λ _. end) eats So (Clean W) step done xs [] a (refl, whole)

  -- ---- what is read

  pub list_ends : (xs : List X) (m : List Token) → test (ahead m) ≡ false → Lands (fold (clean (λ _ o. test o)) item added xs) [] m (xs ++ []) m
  list_ends xs m h = record { reads = fold_stays (clean (λ _ o. test o)) item added never xs [] m h ∙ ap (λ (z : List X). ok_of z [] m) (sym (append-nil xs)) }

  pub list_goes : (xs : List X) (x : X) (ys : List X) (m b r : List Token) → test (ahead m) ≡ true → Lands item [] m x b → Lands (fold (clean (λ _ o. test o)) item added (xs ++ x ∷ [])) [] b ((xs ++ x ∷ []) ++ ys) r → Lands (fold (clean (λ _ o. test o)) item added xs) [] m (xs ++ x ∷ ys) r
  list_goes xs x ys m b r h g k = record { reads = fold_goes (clean (λ _ o. test o)) item added never xs [] m x [] b h g.reads (eats.eats ([], m) x ([], b) g.reads) ∙ k.reads ∙ ap (λ (z : List X). ok_of z [] r) (append_assoc xs (x ∷ []) ys) }
