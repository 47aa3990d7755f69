-- Numbers of the texts of a pool, entry by entry.
use Rattle.std.proofs.Common.{◌≡◌, refl, sym, ap, ◌∙◌, ℕ, zero, suc, ◌+◌, ◌^◌, ◌<◌, List, [], ◌∷◌, ◌++◌, length, take, get_or, Option, None, Some, Bool, true, false, encode_utf8_all, arith, add-one, ⊎_elim, length-take-le}
use Rattle.std.specs.Prelude.{◌≢◌, ◌==◌, slice_get, cond}
use Rattle.std.specs.BTreeMap.{BTreeMap, IsEmpty}
use Rattle.std.specs.Borrow.{Bor}
use Rattle.std.specs.Option.{unwrap_or}
use Rattle.std.specs.Str.{bytes_eq, chars}
use Rattle.std.proofs.lemmas.Bool.{cases_eq, eq-eqb, ne_eqb}
use Rattle.std.proofs.lemmas.Bool.Decides.{same_from_decides, Decides-eqb, Decides-like}
use Rattle.std.proofs.lemmas.List.{length_push, get_or_push, take_more}
use Rattle.std.proofs.lemmas.Slice.Eq.{bytes_eq-Decides}
use Rattle.cf_form.specs.Pool.{text_at, text_by}
use Rattle.cf_form.specs.declared.constant.Const.{Const}
use Rattle.cf_read.specs.Reading.{same_text}
use Rattle.cf_read.specs.Seen.{text_number, NumbersTexts, first_of, IsNumber}

-- ---- an entry at the end

get_new : (xs : List Const) (x : Const) → slice_get (xs ++ x ∷ []) (length xs) ≡ Some x
get_new [] x = refl
get_new (y ∷ xs) x = get_new xs x

get_old : (xs : List Const) (x : Const) (k : ℕ) → k ≢ length xs → slice_get (xs ++ x ∷ []) k ≡ slice_get xs k
get_old [] x zero ne = absurd (ne refl)
get_old [] x (suc k) ne = refl
get_old (y ∷ xs) x zero ne = refl
get_old (y ∷ xs) x (suc k) ne = get_old xs x k (λ e. ne (ap suc e))

get_past : (xs : List Const) → slice_get xs (length xs) ≡ None
get_past [] = refl
get_past (y ∷ xs) = get_past xs

number_old : (xs : List ℕ) (x : ℕ) (k : ℕ) → k ≢ length xs → get_or (xs ++ x ∷ []) k 0 ≡ get_or xs k 0
number_old [] x zero ne = absurd (ne refl)
number_old [] x (suc k) ne = refl
number_old (y ∷ xs) x zero ne = refl
number_old (y ∷ xs) x (suc k) ne = number_old xs x k (λ e. ne (ap suc e))

text_new : (xs : List Const) (x : Const) → text_at (xs ++ x ∷ []) (suc (length xs)) ≡ text_by (Some x)
text_new xs x = ap text_by (get_new xs x)

text_old : (xs : List Const) (x : Const) (i : ℕ) → i ≢ suc (length xs) → text_at (xs ++ x ∷ []) i ≡ text_at xs i
text_old xs x zero ne = refl
text_old xs x (suc k) ne = ap text_by (get_old xs x k (λ e. ne (ap suc e)))

text_past : (xs : List Const) → text_at xs (suc (length xs)) ≡ None
text_past xs = ap text_by (get_past xs)

no_text : {text : List ℕ} → None ≡ Some text → ⊥
no_text e = cc

no_number : {number : ℕ} → None ≡ Some number → ⊥
no_number e = cc

text_kept : (xs : List Const) (x : Const) (i : ℕ) (text : List ℕ) → text_at xs i ≡ Some text → text_at (xs ++ x ∷ []) i ≡ Some text
text_kept xs x i text h =
    text_old xs x i (λ e. no_text (sym (text_past xs) ∙ ap (text_at xs) (sym e) ∙ h)) ∙ h

-- ---- the numbers of these entries

-- the number of an entry with this text, or of one that is no text
abbrev pub HasNumber : List Const → BTreeMap (Bor (List ℕ)) ℕ → Option (List ℕ) → ℕ → Type 0
HasNumber pool firsts None number = number ≡ 0
HasNumber pool firsts (Some text) number =
    (first_of firsts (encode_utf8_all text) ≡ Some number) × (text_at pool number ≡ Some text)

pub record IsNumbering (pool : List Const) (texts : List ℕ) (firsts : BTreeMap (Bor (List ℕ)) ℕ) : Type 0 where
  pub long : length texts ≡ suc (length pool)
  pub numbers : (i : ℕ) → HasNumber pool firsts (text_at pool i) (text_number texts i)
  pub fit : (i : ℕ) → text_number texts i < 2 ^ 16
  pub found : (bytes : List ℕ) (number : ℕ) → first_of firsts bytes ≡ Some number → text_at pool number ≡ Some (chars bytes)

none_yet : (firsts : BTreeMap (Bor (List ℕ)) ℕ) → (i : ℕ) → HasNumber [] firsts (text_at [] i) (text_number (0 ∷ []) i)
none_yet firsts zero = refl
none_yet firsts (suc k) = refl

none_fit : (i : ℕ) → text_number (0 ∷ []) i < 2 ^ 16
none_fit zero = omega arith
none_fit (suc k) = omega arith

pub numbering_none : (firsts : BTreeMap (Bor (List ℕ)) ℕ) → IsEmpty firsts → IsNumbering [] (0 ∷ []) firsts
numbering_none firsts empty = record {
  long = refl;
  numbers = none_yet firsts;
  fit = none_fit;
  found = λ bytes number h. (let none : first_of firsts bytes ≡ None = rw empty refl in absurd (no_number (sym none ∙ h)));
}

some_same : {x y : ℕ} → Some x ≡ Some y → x ≡ y
some_same e = cc

text_some : {x y : List ℕ} → Some x ≡ Some y → x ≡ y
text_some e = cc

module _ (pool : List Const) (x : Const) (old new : BTreeMap (Bor (List ℕ)) ℕ) (number : ℕ) where
  -- a text that had a first index keeps it
  first_kept : (now : Option (List ℕ)) → IsNumber old new (suc (length pool)) now number → (bytes : List ℕ) (n : ℕ) → first_of old bytes ≡ Some n → first_of new bytes ≡ Some n
  first_kept None step bytes n h = step.1 bytes ∙ h
  first_kept (Some text) step bytes n h = at (bytes_eq (encode_utf8_all text) bytes) refl
    where
      at : (b : Bool) → bytes_eq (encode_utf8_all text) bytes ≡ b → first_of new bytes ≡ Some n
      at true e =
          let same : encode_utf8_all text ≡ bytes = (bytes_eq-Decides (encode_utf8_all text) bytes).0 e in
          let is : number ≡ n = step.1 ∙ ap (λ bs. unwrap_or (first_of old bs) (suc (length pool))) same ∙ ap (λ o. unwrap_or o (suc (length pool))) h in
          step.2 bytes ∙ ap (λ b. cond b (Some number) (first_of old bytes)) e ∙ ap (λ m. Some m) is
      at false e = step.2 bytes ∙ ap (λ b. cond b (Some number) (first_of old bytes)) e ∙ h

  -- the first index of the text at the end
  first_text : (text : List ℕ) → text_by (Some x) ≡ Some text → ((bytes : List ℕ) (n : ℕ) → first_of old bytes ≡ Some n → text_at pool n ≡ Some (chars bytes)) → chars (encode_utf8_all text) ≡ text → (o : Option ℕ) → first_of old (encode_utf8_all text) ≡ o → text_at (pool ++ x ∷ []) (unwrap_or o (suc (length pool))) ≡ Some text
  first_text text is found again None h = text_new pool x ∙ is
  first_text text is found again (Some n) h = text_kept pool x n text (found (encode_utf8_all text) n h ∙ ap (λ t. Some t) again)

  -- a first index has the text
  found_push : (now : Option (List ℕ)) → text_by (Some x) ≡ now → IsNumber old new (suc (length pool)) now number → ((bytes : List ℕ) (n : ℕ) → first_of old bytes ≡ Some n → text_at pool n ≡ Some (chars bytes)) → (bytes : List ℕ) (n : ℕ) → first_of new bytes ≡ Some n → text_at (pool ++ x ∷ []) n ≡ Some (chars bytes)
  found_push None is step found bytes n h = text_kept pool x n (chars bytes) (found bytes n (sym (step.1 bytes) ∙ h))
  found_push (Some text) is step found bytes n h = at (bytes_eq (encode_utf8_all text) bytes) refl
    where
      at : (b : Bool) → bytes_eq (encode_utf8_all text) bytes ≡ b → text_at (pool ++ x ∷ []) n ≡ Some (chars bytes)
      at true e =
          let same : encode_utf8_all text ≡ bytes = (bytes_eq-Decides (encode_utf8_all text) bytes).0 e in
          let is_n : number ≡ n = some_same (sym (step.2 bytes ∙ ap (λ b. cond b (Some number) (first_of old bytes)) e) ∙ h) in
          let here = first_text text is found step.0 (first_of old (encode_utf8_all text)) refl in
          ap (text_at (pool ++ x ∷ [])) (sym is_n ∙ step.1) ∙ here ∙ ap (λ t. Some t) (sym step.0 ∙ ap chars same)
      at false e =
          text_kept pool x n (chars bytes) (found bytes n (sym (step.2 bytes ∙ ap (λ b. cond b (Some number) (first_of old bytes)) e) ∙ h))

  kept : (now : Option (List ℕ)) → IsNumber old new (suc (length pool)) now number → (o : Option (List ℕ)) (n : ℕ) → HasNumber pool old o n → HasNumber (pool ++ x ∷ []) new o n
  kept now step None n h = h
  kept now step (Some text) n h = (first_kept now step (encode_utf8_all text) n h.0, text_kept pool x n text h.1)

  added : (now : Option (List ℕ)) → text_by (Some x) ≡ now → IsNumber old new (suc (length pool)) now number → ((bytes : List ℕ) (n : ℕ) → first_of old bytes ≡ Some n → text_at pool n ≡ Some (chars bytes)) → HasNumber (pool ++ x ∷ []) new now number
  added None is step found = step.0
  added (Some text) is step found =
      let bytes = encode_utf8_all text in
      let self : bytes_eq bytes bytes ≡ true = (bytes_eq-Decides bytes bytes).1 refl in
      let first : first_of new bytes ≡ Some number = step.2 bytes ∙ ap (λ b. cond b (Some number) (first_of old bytes)) self in
      (first, found_push (Some text) is step found bytes number first ∙ ap (λ t. Some t) step.0)

  pub numbering_push : (texts : List ℕ) → number < 2 ^ 16 → IsNumbering pool texts old → IsNumber old new (suc (length pool)) (text_by (Some x)) number → IsNumbering (pool ++ x ∷ []) (texts ++ number ∷ []) new
  numbering_push texts small before step = record {
    long = length_push texts number ∙ ap (λ n. n + 1) before.long ∙ ap (λ n. n + 1) (sym (omega (arith, length_push pool x))) ∙ add-one (length (pool ++ x ∷ []));
    numbers = λ i. ⊎_elim (here i) (other i) (cases_eq i (suc (length pool)));
    fit = λ i. ⊎_elim (here_fits i) (other_fits i) (cases_eq i (suc (length pool)));
    found = found_push (text_by (Some x)) refl step before.found;
  }
    where
      here : (i : ℕ) → i ≡ suc (length pool) → HasNumber (pool ++ x ∷ []) new (text_at (pool ++ x ∷ []) i) (text_number (texts ++ number ∷ []) i)
      here i e =
          rw (e, text_new pool x, get_or_push texts number 0 (suc (length pool)) before.long) (added (text_by (Some x)) refl step before.found)

      other : (i : ℕ) → i ≢ suc (length pool) → HasNumber (pool ++ x ∷ []) new (text_at (pool ++ x ∷ []) i) (text_number (texts ++ number ∷ []) i)
      other i ne =
          rw (text_old pool x i ne, number_old texts number i (λ e. ne (e ∙ before.long))) (kept (text_by (Some x)) step (text_at pool i) (text_number texts i) (before.numbers i))

      here_fits : (i : ℕ) → i ≡ suc (length pool) → text_number (texts ++ number ∷ []) i < 2 ^ 16
      here_fits i e = rw (e, get_or_push texts number 0 (suc (length pool)) before.long) small

      other_fits : (i : ℕ) → i ≢ suc (length pool) → text_number (texts ++ number ∷ []) i < 2 ^ 16
      other_fits i ne = rw (number_old texts number i (λ e. ne (e ∙ before.long))) (before.fit i)

-- ---- all of them

pub numbering_more : (pool : List Const) (i : ℕ) (x : Const) (texts : List ℕ) (old new : BTreeMap (Bor (List ℕ)) ℕ) (number : ℕ) → i < length pool → x ≡ get_or pool i x → number < 2 ^ 16 → IsNumbering (take i pool) texts old → IsNumber old new (i + 1) (text_by (Some x)) number → IsNumbering (take (i + 1) pool) (texts ++ number ∷ []) new
numbering_more pool i x texts old new number lt is small before step =
    let more : take (i + 1) pool ≡ take i pool ++ x ∷ [] = take_more pool i x lt ∙ ap (λ y. take i pool ++ y ∷ []) (sym is) in
    let long : i + 1 ≡ suc (length (take i pool)) = ap (λ n. n + 1) (sym (length-take-le i pool (omega (arith, lt)))) ∙ add-one (length (take i pool)) in
    let next : IsNumber old new (suc (length (take i pool))) (text_by (Some x)) number = rw long at step in
    rw more (numbering_push (take i pool) x old new number texts small before next)

same_numbers : (pool : List Const) (firsts : BTreeMap (Bor (List ℕ)) ℕ) → (a b : Option (List ℕ)) (m n : ℕ) → HasNumber pool firsts a m → HasNumber pool firsts b n → (m == n) ≡ same_text a b
same_numbers pool firsts None None m n p q = eq-eqb m n (p ∙ sym q)
same_numbers pool firsts None (Some u) m n p q = ne_eqb m n (λ e. no_text (ap (text_at pool) (sym p ∙ e) ∙ q.1))
same_numbers pool firsts (Some t) None m n p q = ne_eqb m n (λ e. no_text (ap (text_at pool) (sym q ∙ sym e) ∙ p.1))
same_numbers pool firsts (Some t) (Some u) m n p q =
    same_from_decides (m == n) (bytes_eq t u)
    (Decides-like (m == n) (λ e. text_some (sym p.1 ∙ ap (text_at pool) e ∙ q.1)) (λ e. some_same (sym p.0 ∙ ap (λ s. first_of firsts (encode_utf8_all s)) e ∙ q.0)) (Decides-eqb m n))
    (bytes_eq-Decides t u)

pub numbers_texts : (pool : List Const) (texts : List ℕ) (firsts : BTreeMap (Bor (List ℕ)) ℕ) → IsNumbering pool texts firsts → NumbersTexts pool texts
numbers_texts pool texts firsts h = record {
  same = λ i j. same_numbers pool firsts (text_at pool i) (text_at pool j) (text_number texts i) (text_number texts j) (h.numbers i) (h.numbers j);
  fit = h.fit;
}
