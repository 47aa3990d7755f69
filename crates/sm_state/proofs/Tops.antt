-- The last items of a list are the first ones of the list reversed.
use Rattle.std.proofs.Common.{◌≡◌, ℕ, zero, suc, ◌+◌, ◌-◌, ◌<◌, ◌≤◌, List, [], ◌∷◌, ◌++◌, length, take, drop, reverse, get_or, refl, sym, ap, ◌∙◌, arith, length-drop, ⊎_elim}
use Rattle.std.specs.Prelude.{slice_set, slice_get, Some, None}
use Rattle.std.proofs.lemmas.List.{reverse-append, reverse-reverse, length-reverse, take-append-drop, take_all, drop-drop, drop_all}
use Rattle.std.proofs.lemmas.Bool.{cases_lt}
use Rattle.std.proofs.lemmas.Grind.{reverse_onto}
use Rattle.std.proofs.Math.Seq.{set-append_seam, drop-append_seam, take-append_seam, get_or-append_seam}

last_set : {A : Type 0} (r : List A) (w : A) → 0 < length r → reverse (slice_set (reverse r) (length r - 1) w) ≡ w ∷ drop 1 r
last_set [] w some = absurd (omega arith)
last_set (x ∷ r) w some =
    let at : length (x ∷ r) - 1 ≡ length (reverse r) = omega (arith, length-reverse r) in
    ap (λ l. reverse (slice_set l (length (x ∷ r) - 1) w)) (reverse_onto r x [])
    ∙ ap (λ k. reverse (slice_set (reverse r ++ x ∷ []) k w)) at
    ∙ ap reverse (set-append_seam (reverse r) x [] w)
    ∙ reverse-append (reverse r) (w ∷ [])
    ∙ ap (λ l. w ∷ l) (reverse-reverse r)

pub reverse-set_last : {A : Type 0} (xs : List A) (w : A) → 0 < length xs → reverse (slice_set xs (length xs - 1) w) ≡ w ∷ drop 1 (reverse xs)
reverse-set_last xs w some =
    ap (λ n. reverse (slice_set xs (n - 1) w)) (sym (length-reverse xs))
    ∙ ap (λ l. reverse (slice_set l (length (reverse xs) - 1) w)) (sym (reverse-reverse xs))
    ∙ last_set (reverse xs) w (omega (arith, length-reverse xs))

take_front : {A : Type 0} (xs : List A) (n : ℕ) → n ≤ length xs → reverse (take (length xs - n) xs) ≡ drop n (reverse xs)
take_front xs n le =
    let k = length xs - n in
    let a = reverse (drop k xs) in
    let count : n ≡ length a = omega (arith, length-reverse (drop k xs), length-drop k xs) in
    sym (ap (λ l. drop n (reverse l)) (sym (take-append-drop k xs)) ∙ ap (drop n) (reverse-append (take k xs) (drop k xs)) ∙ ap (λ m. drop m (a ++ reverse (take k xs))) count ∙ drop-append_seam a (reverse (take k xs)))

last_get : {A : Type 0} (r : List A) (d : A) → 0 < length r → slice_get r 0 ≡ Some (get_or (reverse r) (length r - 1) d)
last_get [] d some = absurd (omega arith)
last_get (x ∷ r) d some =
    let at : length (x ∷ r) - 1 ≡ length (reverse r) = omega (arith, length-reverse r) in
    ap Some (sym (ap (λ l. get_or l (length (x ∷ r) - 1) d) (reverse_onto r x []) ∙ ap (λ k. get_or (reverse r ++ x ∷ []) k d) at ∙ get_or-append_seam (reverse r) x [] d))

pub reverse-get_last : {A : Type 0} (xs : List A) (d : A) → 0 < length xs → slice_get (reverse xs) 0 ≡ Some (get_or xs (length xs - 1) d)
reverse-get_last xs d some =
    last_get (reverse xs) d (omega (arith, length-reverse xs))
    ∙ ap (λ l. Some (get_or l (length (reverse xs) - 1) d)) (reverse-reverse xs)
    ∙ ap (λ n. Some (get_or xs (n - 1) d)) (length-reverse xs)

pub reverse-take_front : {A : Type 0} (xs : List A) (n : ℕ) → reverse (take (length xs - n) xs) ≡ drop n (reverse xs)
reverse-take_front xs n = ⊎_elim
    (λ lt. let none : length xs - n ≡ 0 = omega arith in ap (λ k. reverse (take k xs)) none ∙ sym (drop_all n (reverse xs) (omega (arith, length-reverse xs))))
    (λ le. take_front xs n le)
    (cases_lt (length xs) n)

get_behind : {A : Type 0} (xs ys : List A) (x : A) (k : ℕ) → k < length xs → slice_get (xs ++ ys) k ≡ slice_get xs k
get_behind [] ys x k lt = absurd (omega arith)
get_behind (y ∷ xs) ys x zero lt = refl
get_behind (y ∷ xs) ys x (suc k) lt = get_behind xs ys x k (omega arith)

get_seam : {A : Type 0} (xs : List A) (x : A) → slice_get (xs ++ x ∷ []) (length xs) ≡ Some x
get_seam [] x = refl
get_seam (y ∷ xs) x = get_seam xs x

pub get_reverse : {A : Type 0} (xs : List A) (k : ℕ) → k < length xs → slice_get (reverse xs) k ≡ slice_get xs (length xs - 1 - k)
get_reverse [] k lt = absurd (omega arith)
get_reverse (x ∷ xs) k lt = ⊎_elim
    (λ below.
    let at : length (x ∷ xs) - 1 - k ≡ suc (length xs - 1 - k) = omega arith in
    ap (λ l. slice_get l k) (reverse_onto xs x [])
    ∙ get_behind (reverse xs) (x ∷ []) x k (omega (arith, length-reverse xs))
    ∙ get_reverse xs k below
    ∙ sym (ap (slice_get (x ∷ xs)) at))
    (λ above.
    let last : k ≡ length (reverse xs) = omega (arith, length-reverse xs) in
    let first : length (x ∷ xs) - 1 - k ≡ 0 = omega arith in
    ap (λ l. slice_get l k) (reverse_onto xs x [])
    ∙ ap (slice_get (reverse xs ++ x ∷ [])) last
    ∙ get_seam (reverse xs) x
    ∙ sym (ap (slice_get (x ∷ xs)) first))
    (cases_lt k (length xs))

none_at : {A : Type 0} (xs : List A) (k : ℕ) → length xs ≤ k → slice_get xs k ≡ None
none_at [] k le = refl
none_at (x ∷ xs) zero le = absurd (omega arith)
none_at (x ∷ xs) (suc k) le = none_at xs k (omega arith)

pub get_past : {A : Type 0} (xs : List A) (k : ℕ) → length xs ≤ k → slice_get (reverse xs) k ≡ None
get_past xs k le = none_at (reverse xs) k (omega (arith, length-reverse xs))

reverse-drop_split : {A : Type 0} (f b : List A) (n : ℕ) → length b ≡ n → reverse b ≡ take n (reverse (f ++ b))
reverse-drop_split f b n is =
    sym (ap (λ l. take n l) (reverse-append f b)
    ∙ ap (λ k. take k (reverse b ++ reverse f)) (omega (arith, length-reverse b))
    ∙ take-append_seam (reverse b) (reverse f))

reverse-drop_front : {A : Type 0} (xs : List A) (n : ℕ) → n ≤ length xs → reverse (drop (length xs - n) xs) ≡ take n (reverse xs)
reverse-drop_front xs n le =
    reverse-drop_split (take (length xs - n) xs) (drop (length xs - n) xs) n (omega (arith, length-drop (length xs - n) xs))
    ∙ ap (λ l. take n (reverse l)) (take-append-drop (length xs - n) xs)

reverse-drop_back : {A : Type 0} (xs : List A) (n : ℕ) → reverse (drop (length xs - n) xs) ≡ take n (reverse xs)
reverse-drop_back xs n = ⊎_elim
    (λ lt. let none : length xs - n ≡ 0 = omega arith in ap (λ k. reverse (drop k xs)) none ∙ sym (take_all n (reverse xs) (omega (arith, length-reverse xs))))
    (λ le. reverse-drop_front xs n le)
    (cases_lt (length xs) n)

pub reverse_cut : {A : Type 0} (xs : List A) (kept count : ℕ) → reverse (take (length xs - kept - count) xs ++ drop (length xs - kept) xs) ≡ take kept (reverse xs) ++ drop count (drop kept (reverse xs))
reverse_cut xs kept count =
    let joined : length xs - kept - count ≡ length xs - (kept + count) = omega arith in
    reverse-append (take (length xs - kept - count) xs) (drop (length xs - kept) xs)
    ∙ ap (λ l. l ++ reverse (take (length xs - kept - count) xs)) (reverse-drop_back xs kept)
    ∙ ap (λ l. take kept (reverse xs) ++ l)
    (ap (λ k. reverse (take k xs)) joined ∙ reverse-take_front xs (kept + count) ∙ sym (drop-drop count kept (reverse xs)))
