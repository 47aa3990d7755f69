-- Texts put behind others, each once, list by list.
use Rattle.std.proofs.Common.{◌≡◌, ◌∙◌, ℕ, ◌+◌, List, [], ◌∷◌, ◌++◌, if◌then◌else◌, take, Some, slice_get, refl, sym, ap, add-one, append-nil}
use Rattle.std.specs.List.{flat_map}
use Rattle.std.proofs.Math.Seq.{take-suc}
use Rattle.std.proofs.lemmas.List.Concat.{flat_map-append}
use Rattle.std.proofs.lemmas.Option.{slice_get_within, get_or_from_slice_get}
use Rattle.cf_link.specs.OfFiles.{each_once, has_text}

pub once_append : (found xs ys : List (List ℕ)) → each_once found (xs ++ ys) ≡ each_once (each_once found xs) ys
once_append found [] ys = refl
once_append found (x ∷ xs) ys = once_append (if has_text found x then found else found ++ x ∷ []) xs ys

-- the texts of one more
pub once_more : {A : Type 0} (f : A → List (List ℕ)) (found : List (List ℕ)) (xs : List A) (i : ℕ) (x : A) → slice_get xs i ≡ Some x
    → each_once (each_once found (flat_map f (take i xs))) (f x) ≡ each_once found (flat_map f (take (i + 1) xs))
once_more f found xs i x at =
    sym (once_append found (flat_map f (take i xs)) (f x)) ∙ ap (each_once found) whole
  where
    next : take (i + 1) xs ≡ take i xs ++ x ∷ []
    next =
        ap (λ n. take n xs) (add-one i) ∙ take-suc xs i x (slice_get_within xs i x at)
        ∙ ap (λ y. take i xs ++ y ∷ []) (get_or_from_slice_get xs i x x at)

    whole : flat_map f (take i xs) ++ f x ≡ flat_map f (take (i + 1) xs)
    whole =
        ap (λ ys. flat_map f (take i xs) ++ ys) (sym (append-nil (f x))) ∙ sym (flat_map-append f (take i xs) (x ∷ [])) ∙ sym (ap (flat_map f) next)
