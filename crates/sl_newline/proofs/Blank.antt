-- Lines of white space alone, from left to right.
use Rattle.std.proofs.Common.{◌≡◌, ℕ, ◌+◌, ◌<◌, Bool, true, false, List, [], ◌∷◌, length, drop, get_or, refl, sym, ap, ◌∙◌, drop-cons, add-one}
use Rattle.std.specs.Prelude.{◌==◌, ◌&&◌, ◌||◌}
use Rattle.sl_newline.specs.Gaps.{is_white, rests, has_blank_line, ends_blank, is_fresh}

-- `fresh`: white space alone stands between here and the last line's end
unfoldable pub blank_from : Bool → List ℕ → Bool
blank_from fresh [] = false
blank_from fresh (c ∷ a) = ends_blank fresh c || blank_from (is_fresh fresh c) a

both : (fresh : Bool) (a : List ℕ) → blank_from fresh a ≡ ((fresh && rests a) || has_blank_line a)
unfolding blank_from
both true [] = refl
both false [] = refl
both fresh (c ∷ a) = go fresh (c == 10) (is_white c) (λ f. both f a)
  where
    go : (f n w : Bool) → ((g : Bool) → blank_from g a ≡ ((g && rests a) || has_blank_line a))
        → ((f && n) || blank_from (n || (f && w)) a) ≡ ((f && (n || (w && rests a))) || ((n && rests a) || has_blank_line a))
    go true true w k = refl
    go false true w k = k true
    go true false true k = k true
    go true false false k = k false
    go false false w k = k false

pub begins : (a : List ℕ) → has_blank_line a ≡ blank_from false a
begins a = sym (both false a)

cons_at : (a : List ℕ) (i d : ℕ) → i < length a → drop i a ≡ get_or a i d ∷ drop (i + 1) a
cons_at a i d h = rw (add-one, drop-cons a i d) refl

at : (fresh : Bool) (a : List ℕ) (i d c : ℕ) → i < length a → c ≡ get_or a i d → blank_from fresh (drop i a) ≡ (ends_blank fresh c || blank_from (is_fresh fresh c) (drop (i + 1) a))
unfolding blank_from
at fresh a i d c l h = ap (blank_from fresh) (cons_at a i d l) ∙ ap (λ (z : ℕ). ends_blank fresh z || blank_from (is_fresh fresh z) (drop (i + 1) a)) (sym h)

pub hit : (fresh : Bool) (a : List ℕ) (i d c : ℕ) → i < length a → c ≡ get_or a i d → ends_blank fresh c ≡ true → blank_from fresh (drop i a) ≡ true
hit fresh a i d c l h e = at fresh a i d c l h ∙ ap (λ (z : Bool). z || blank_from (is_fresh fresh c) (drop (i + 1) a)) e

pub passed : (fresh : Bool) (a : List ℕ) (i d c : ℕ) → i < length a → c ≡ get_or a i d → ends_blank fresh c ≡ false → blank_from fresh (drop i a) ≡ blank_from (is_fresh fresh c) (drop (i + 1) a)
passed fresh a i d c l h e = at fresh a i d c l h ∙ ap (λ (z : Bool). z || blank_from (is_fresh fresh c) (drop (i + 1) a)) e

pub at_end : (fresh : Bool) (a : List ℕ) → blank_from fresh (drop (length a) a) ≡ false
unfolding blank_from
at_end fresh [] = refl
at_end fresh (c ∷ a) = at_end fresh a
