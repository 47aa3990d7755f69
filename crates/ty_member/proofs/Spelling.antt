-- Names and the texts that spell them.
use Rattle.std.proofs.Common.{◌≡◌, ◌∙◌, ℕ, Bool, List, [], ◌∷◌, ◌++◌, true, false, ◌||◌, cond, if◌then◌else◌, map, String, Some, refl, sym, ap, subst, encode_utf8_all, ◌+◌}
use Rattle.std.specs.Str.{chars, bytes_eq, IsUtf8}
use Rattle.std.specs.String.{string_bytes, string_eq}
use Rattle.std.proofs.lemmas.Iterator.Adapters.{position_from-zero}
use Rattle.indexmap.specs.IndexSet.{insert_key}
use Rattle.ty_member.specs.Names.{has_name, with_name, number_in}
use Rattle.std.specs.List.{list_any, position, position_from}
use Rattle.std.proofs.lemmas.List.{map-append}
use Rattle.std.proofs.lemmas.Str.{encodes-chars, IsUtf8-string_bytes}
use Rattle.std.proofs.lemmas.Slice.Eq.{bytes_eq-Decides, slice_eq-Decides}
use Rattle.std.proofs.lemmas.Bool.Decides.{Decides-like, Decides-eqb, same_from_decides}

-- texts are equal exactly where their characters are
pub same_spelled : (xs ys : List ℕ) → IsUtf8 xs → IsUtf8 ys → bytes_eq xs ys ≡ bytes_eq (chars xs) (chars ys)
same_spelled xs ys u v =
    same_from_decides (bytes_eq xs ys) (bytes_eq (chars xs) (chars ys))
    (Decides-like (bytes_eq xs ys) (λ p. ap chars p) (λ p. sym (encodes-chars xs u) ∙ ap encode_utf8_all p ∙ encodes-chars ys v) (slice_eq-Decides Decides-eqb xs ys (bytes_eq xs ys) refl))
    (bytes_eq-Decides (chars xs) (chars ys))

-- tests that agree along a map find alike
pub any_alike : {A B : Type 0} (p : A → Bool) (q : B → Bool) (f : A → B) → ((x : A) → p x ≡ q (f x)) → (xs : List A) → list_any p xs ≡ list_any q (map f xs)
any_alike p q f same [] = refl
any_alike p q f same (x ∷ xs) = ap (λ b. b || list_any p xs) (same x) ∙ ap (λ b. q (f x) || b) (any_alike p q f same xs)

pub first_alike : {A B : Type 0} (p : A → Bool) (q : B → Bool) (f : A → B) → ((x : A) → p x ≡ q (f x)) → (i : ℕ) (xs : List A) → position_from p i xs ≡ position_from q i (map f xs)
first_alike p q f same i [] = refl
first_alike p q f same i (x ∷ xs) =
    ap (λ b. cond b (Some i) (position_from p (i + 1) xs)) (same x)
    ∙ ap (λ o. cond (q (f x)) (Some i) o) (first_alike p q f same (i + 1) xs)

-- a text is that of a key exactly where it spells the same name
pub key_alike : {Z : Type 0} (text name : List ℕ) → IsUtf8 text → chars text ≡ name → (key : String Z) → bytes_eq text (string_bytes key) ≡ bytes_eq name (chars (string_bytes key))
key_alike text name u is key =
    same_spelled text (string_bytes key) u (IsUtf8-string_bytes key) ∙ ap (λ n. bytes_eq n (chars (string_bytes key))) is

-- the names that keys spell
abbrev pub spelled : {Z : Type 0} → List (String Z) → List (List ℕ)
spelled keys = map (λ k. chars (string_bytes k)) keys

pub spelled_number : {Z : Type 0} (text name : List ℕ) → IsUtf8 text → chars text ≡ name → (keys : List (String Z)) → position (λ k. bytes_eq text (string_bytes k)) keys ≡ number_in (spelled keys) name
spelled_number text name u is keys =
    position_from-zero (λ k. bytes_eq text (string_bytes k)) keys
    ∙ first_alike (λ k. bytes_eq text (string_bytes k)) (bytes_eq name) (λ k. chars (string_bytes k)) (key_alike text name u is) 0 keys

-- a new key is one whose name is new
pub spelled_has : {Z : Type 0} (value : String Z) (name : List ℕ) → chars (string_bytes value) ≡ name → (keys : List (String Z)) → list_any (λ k. string_eq value k) keys ≡ has_name (spelled keys) name
spelled_has value name is keys =
    any_alike (λ k. string_eq value k) (bytes_eq name) (λ k. chars (string_bytes k)) (key_alike (string_bytes value) name (IsUtf8-string_bytes value) is) keys

-- what a key that is put in makes of the names
pub spelled_with : {Z : Type 0} (value : String Z) (name : List ℕ) → chars (string_bytes value) ≡ name → (keys : List (String Z)) → spelled (insert_key string_eq keys value) ≡ with_name (spelled keys) name
spelled_with value name is keys =
    choose (list_any (λ k. string_eq value k) keys) (has_name (spelled keys) name) (spelled_has value name is keys)
  where
    choose : (b d : Bool) → b ≡ d → spelled (if b then keys else keys ++ value ∷ []) ≡ (if d then spelled keys else spelled keys ++ name ∷ [])
    choose b d e = subst (λ z. spelled (if b then keys else keys ++ value ∷ []) ≡ (if z then spelled keys else spelled keys ++ name ∷ [])) e (at b)
      where
        at : (b : Bool) → spelled (if b then keys else keys ++ value ∷ []) ≡ (if b then spelled keys else spelled keys ++ name ∷ [])
        at true = refl
        at false = map-append (λ k. chars (string_bytes k)) keys (value ∷ []) ∙ ap (λ n. spelled keys ++ n ∷ []) is
