-- Reading one after the other, as a loop does.
use Rattle.std.proofs.Common.{◌≡◌, refl, sym, ap, ◌∙◌, subst, ◌⊎◌, inl, inr, ℕ, zero, suc, ◌+◌, ◌-◌, ◌<◌, ◌≤◌, List, [], ◌∷◌, ◌++◌, ◌==◌, length, drop, get_or, Result, Ok, Err, append_assoc, arith}
use Rattle.std.proofs.lemmas.List.{append-nil, drop_all}
use Rattle.std.proofs.Math.Seq.{drop-cons}
use Rattle.std.proofs.lemmas.Bool.{cond-true, cond-false, ne_eqb}
use Rattle.std.specs.Prelude.{true, false, if◌then◌else◌}
use Rattle.cf_form.specs.Pool.{constant_bytes, entries_of, is_of}
use Rattle.cf_form.specs.declared.constant.Const.TheVariants.{Utf8, Int, Float, Long, Double, Class, Text, Field, Method, Interface, NameType, Rest}
use Rattle.cf_form.specs.declared.kind.Kind.TheVariants as kind
use Rattle.cf_form.specs.declared.constant.Const.{Const}
use Rattle.cf_read.specs.declared.fault.Fault.{Fault}
use Rattle.cf_read.specs.declared.fault.Stop.{Stop}
use Rattle.cf_read.specs.declared.fault.Stop.TheVariants as stop
use Rattle.cf_read.specs.Giving.{Fails}
use Rattle.cf_read.specs.Reading.{Read, ◌>>=◌, many_at, constant_at, entries_at, passed_one_at, passed_at, references_at, all_references_at}

-- what was read before, and what is still read
abbrev pub with_front : {A : Type 0} → List A → Read (List A) → Read (List A)
with_front front read = read >>= λ x. Ok (front ++ x.0, x.1)

pub regroup : {A : Type 0} (front : List A) (x : A) (read : Read (List A))
    → with_front front (read >>= λ others. Ok (x ∷ others.0, others.1)) ≡ with_front (front ++ x ∷ []) read
regroup front x (Ok y) = ap (λ xs. Ok (xs, y.1)) (sym (append_assoc front (x ∷ []) y.0))
regroup front x (Err f) = refl

-- a fault is the fault of all that was to be read
pub stops : {A B : Type 0} (e : Stop) (one : Result A Fault) (more : A → Result B Fault) → Fails e one → Fails e (one >>= more)
stops stop.Memory one more h = tt
stops (stop.Met f) one more h = ap (λ r. r >>= more) h

pub fails_so : {A : Type 0} (e : Stop) (one other : Result A Fault) → one ≡ other → Fails e one → Fails e other
fails_so e one other same h = subst (Fails e) same h

many_more : {A : Type 0} (one : List ℕ → Read A) (n : ℕ) (bytes : List ℕ)
    → many_at one (suc n) bytes ≡ (one bytes >>= λ first. many_at one n first.1 >>= λ others. Ok (first.0 ∷ others.0, others.1))
unfolding many_at
many_more one n bytes = refl

many_none : {A : Type 0} (one : List ℕ → Read A) (bytes : List ℕ) → many_at one zero bytes ≡ Ok ([], bytes)
unfolding many_at
many_none one bytes = refl

pub many_goes : {A : Type 0} (one : List ℕ → Read A) (front : List A) (count i : ℕ) (bytes after : List ℕ) (x : A) (total : Read (List A))
    → i < count → one bytes ≡ Ok (x, after) → with_front front (many_at one (count - i) bytes) ≡ total
    → with_front (front ++ x ∷ []) (many_at one (count - (i + 1)) after) ≡ total
many_goes one front count i bytes after x total l h so_far =
    let n : ℕ = count - (i + 1) in
    let k : count - i ≡ suc n = omega arith in
    sym (regroup front x (many_at one n after))
    ∙ ap (λ r. with_front front (r >>= λ first. many_at one n first.1 >>= λ others. Ok (first.0 ∷ others.0, others.1))) (sym h)
    ∙ ap (with_front front) (sym (ap (λ m. many_at one m bytes) k ∙ many_more one n bytes)) ∙ so_far

pub many_ends : {A : Type 0} (one : List ℕ → Read A) (e : Stop) (front : List A) (count i : ℕ) (bytes : List ℕ) (total : Read (List A))
    → i < count → Fails e (one bytes) → with_front front (many_at one (count - i) bytes) ≡ total → Fails e total
many_ends {A} one e front count i bytes total l h so_far =
    let n : ℕ = count - (i + 1) in
    let k : count - i ≡ suc n = omega arith in
    let rest : A × List ℕ → Read (List A) = λ first. many_at one n first.1 >>= λ others. Ok (first.0 ∷ others.0, others.1) in
    let whole : (one bytes >>= rest) ≡ many_at one (count - i) bytes = sym (ap (λ m. many_at one m bytes) k ∙ many_more one n bytes) in
    let part : Fails e (many_at one (count - i) bytes) = fails_so e (one bytes >>= rest) (many_at one (count - i) bytes) whole (stops e (one bytes) rest h) in
    fails_so e (with_front front (many_at one (count - i) bytes)) total so_far (stops e (many_at one (count - i) bytes) (λ x. Ok (front ++ x.0, x.1)) part)

pub many_done : {A : Type 0} (one : List ℕ → Read A) (front : List A) (count i : ℕ) (bytes : List ℕ) (total : Read (List A))
    → count ≤ i → with_front front (many_at one (count - i) bytes) ≡ total → total ≡ Ok (front, bytes)
many_done one front count i bytes total l so_far =
    let k : count - i ≡ zero = omega arith in
    sym so_far ∙ ap (with_front front) (ap (λ m. many_at one m bytes) k ∙ many_none one bytes) ∙ ap (λ xs. Ok (xs, bytes)) (append-nil front)

-- attributes that are passed over
passed_more : (count i : ℕ) (bytes : List ℕ) → i < count
    → passed_at (count - i) bytes ≡ (passed_one_at bytes >>= λ first. passed_at (count - (i + 1)) first.1)
unfolding passed_at
passed_more count i bytes l =
    let k : count - i ≡ suc (count - (i + 1)) = omega arith in
    ap (λ n. passed_at n bytes) k

pub passed_goes : (count i : ℕ) (bytes after : List ℕ) (total : Read (Unit {0})) → i < count → passed_one_at bytes ≡ Ok (tt, after)
    → passed_at (count - i) bytes ≡ total → passed_at (count - (i + 1)) after ≡ total
passed_goes count i bytes after total l h so_far =
    ap (λ r. r >>= λ first. passed_at (count - (i + 1)) first.1) (sym h) ∙ sym (passed_more count i bytes l) ∙ so_far

pub passed_ends : (e : Stop) (count i : ℕ) (bytes : List ℕ) (total : Read (Unit {0})) → i < count → Fails e (passed_one_at bytes)
    → passed_at (count - i) bytes ≡ total → Fails e total
passed_ends e count i bytes total l h so_far =
    let rest : Unit {0} × List ℕ → Read (Unit {0}) = λ first. passed_at (count - (i + 1)) first.1 in
    fails_so e (passed_one_at bytes >>= rest) total (sym (passed_more count i bytes l) ∙ so_far) (stops e (passed_one_at bytes) rest h)

pub passed_done : (count i : ℕ) (bytes : List ℕ) (total : Read (Unit {0})) → count ≤ i → passed_at (count - i) bytes ≡ total
    → total ≡ Ok (tt, bytes)
unfolding passed_at
passed_done count i bytes total l so_far =
    let k : count - i ≡ zero = omega arith in
    sym so_far ∙ ap (λ n. passed_at n bytes) k

-- the references of the constants from the i-th on
references_more : (pool cs : List Const) (i : ℕ) (d : Const) (bytes : List ℕ) → i < length cs
    → all_references_at pool (drop i cs) bytes
    ≡ (references_at pool (get_or cs i d) (drop 1 bytes) >>= λ _. all_references_at pool (drop (i + 1) cs) (drop (length (constant_bytes (get_or cs i d))) bytes))
unfolding all_references_at
references_more pool cs i d bytes l =
    let next : suc i ≡ i + 1 = omega arith in
    ap (λ l. all_references_at pool l bytes) (drop-cons cs i d l)
    ∙ ap (λ n. references_at pool (get_or cs i d) (drop 1 bytes) >>= λ _. all_references_at pool (drop n cs) (drop (length (constant_bytes (get_or cs i d))) bytes)) next

pub references_go : (pool cs : List Const) (i : ℕ) (d : Const) (bytes : List ℕ) (total : Result (Unit {0}) Fault) → i < length cs
    → references_at pool (get_or cs i d) (drop 1 bytes) ≡ Ok tt → all_references_at pool (drop i cs) bytes ≡ total
    → all_references_at pool (drop (i + 1) cs) (drop (length (constant_bytes (get_or cs i d))) bytes) ≡ total
references_go pool cs i d bytes total l h so_far =
    ap (λ (r : Result (Unit {0}) Fault). r >>= λ _. all_references_at pool (drop (i + 1) cs) (drop (length (constant_bytes (get_or cs i d))) bytes)) (sym h)
    ∙ sym (references_more pool cs i d bytes l) ∙ so_far

pub references_end : (e : Stop) (pool cs : List Const) (i : ℕ) (d : Const) (bytes : List ℕ) (total : Result (Unit {0}) Fault) → i < length cs
    → Fails e (references_at pool (get_or cs i d) (drop 1 bytes)) → all_references_at pool (drop i cs) bytes ≡ total → Fails e total
references_end e pool cs i d bytes total l h so_far =
    let rest : Unit {0} → Result (Unit {0}) Fault = λ _. all_references_at pool (drop (i + 1) cs) (drop (length (constant_bytes (get_or cs i d))) bytes) in
    let first : Result (Unit {0}) Fault = references_at pool (get_or cs i d) (drop 1 bytes) in
    fails_so e (first >>= rest) total (sym (references_more pool cs i d bytes l) ∙ so_far) (stops e first rest h)

pub references_done : (pool cs : List Const) (i : ℕ) (bytes : List ℕ) (total : Result (Unit {0}) Fault) → length cs ≤ i
    → all_references_at pool (drop i cs) bytes ≡ total → total ≡ Ok tt
unfolding all_references_at
references_done pool cs i bytes total l so_far = sym so_far ∙ ap (λ l. all_references_at pool l bytes) (drop_all i cs l)

-- how many entries a constant takes
pub count_of : (c : Const) → ((is_of kind.Double c ≡ true) × (length (entries_of c) ≡ 2)) ⊎ ((is_of kind.Double c ≡ false) × (length (entries_of c) ≡ 1))
count_of (Long x) = inl (refl, refl)
count_of (Double bits) = inl (refl, refl)
count_of (Utf8 text) = inr (refl, refl)
count_of (Int x) = inr (refl, refl)
count_of (Float bits) = inr (refl, refl)
count_of (Class name) = inr (refl, refl)
count_of (Text text) = inr (refl, refl)
count_of (Field class member) = inr (refl, refl)
count_of (Method class member) = inr (refl, refl)
count_of (Interface class member) = inr (refl, refl)
count_of (NameType name descriptor) = inr (refl, refl)
count_of Rest = inr (refl, refl)

abbrev others_of : ℕ → Const × List ℕ → Read (List Const)
others_of n one = if is_of kind.Double one.0 then entries_at n one.1 else entries_at (suc n) one.1

others_are : (n : ℕ) (one : Const × List ℕ) → others_of n one ≡ entries_at (suc (suc n) - length (entries_of one.0)) one.1
others_are n one = by (count_of one.0)
  where
    by : ((is_of kind.Double one.0 ≡ true) × (length (entries_of one.0) ≡ 2)) ⊎ ((is_of kind.Double one.0 ≡ false) × (length (entries_of one.0) ≡ 1))
        → others_of n one ≡ entries_at (suc (suc n) - length (entries_of one.0)) one.1
    by (inl w) = let k : n ≡ suc (suc n) - length (entries_of one.0) = omega (arith, w.1) in cond-true _ _ _ w.0 ∙ ap (λ m. entries_at m one.1) k
    by (inr w) = let k : suc n ≡ suc (suc n) - length (entries_of one.0) = omega (arith, w.1) in cond-false _ _ _ w.0 ∙ ap (λ m. entries_at m one.1) k

none_left : (c : Const) (bytes : List ℕ) → entries_at (1 - length (entries_of c)) bytes ≡ Ok ([], bytes)
unfolding entries_at
none_left c bytes = by (count_of c)
  where
    by : ((is_of kind.Double c ≡ true) × (length (entries_of c) ≡ 2)) ⊎ ((is_of kind.Double c ≡ false) × (length (entries_of c) ≡ 1))
        → entries_at (1 - length (entries_of c)) bytes ≡ Ok ([], bytes)
    by (inl w) = ap (λ n. entries_at (1 - n) bytes) w.1
    by (inr w) = ap (λ n. entries_at (1 - n) bytes) w.1

-- a constant with its entries, and what comes after it
pub entries_more : (left : ℕ) (bytes : List ℕ) → 0 < left
    → entries_at left bytes ≡ (constant_at (left == 1) bytes >>= λ one. with_front (entries_of one.0) (entries_at (left - length (entries_of one.0)) one.1))
unfolding entries_at
entries_more zero bytes l = absurd (omega arith)
entries_more (suc zero) bytes l = by (constant_at true bytes)
  where
    by : (r : Read Const)
        → (r >>= λ one. Ok (entries_of one.0, one.1)) ≡ (r >>= λ one. with_front (entries_of one.0) (entries_at (1 - length (entries_of one.0)) one.1))
    by (Ok one) =
        sym (ap (with_front (entries_of one.0)) (none_left one.0 one.1) ∙ ap (λ xs. Ok (xs, one.1)) (append-nil (entries_of one.0)))
    by (Err f) = refl
entries_more (suc (suc n)) bytes l = ap (λ b. constant_at b bytes >>= step) (sym (ne_eqb (suc (suc n)) 1 (λ e. omega arith))) ∙ by (constant_at (suc (suc n) == 1) bytes)
  where
    step : Const × List ℕ → Read (List Const)
    step one = with_front (entries_of one.0) (others_of n one)

    by : (r : Read Const) → (r >>= step) ≡ (r >>= λ one. with_front (entries_of one.0) (entries_at (suc (suc n) - length (entries_of one.0)) one.1))
    by (Ok one) = ap (with_front (entries_of one.0)) (others_are n one)
    by (Err f) = refl

twice : {A : Type 0} (front next : List A) (read : Read (List A)) → with_front front (with_front next read) ≡ with_front (front ++ next) read
twice front next (Ok x) = ap (λ xs. Ok (xs, x.1)) (sym (append_assoc front next x.0))
twice front next (Err f) = refl

pub entries_go : (front : List Const) (left : ℕ) (bytes after : List ℕ) (c : Const) (total : Read (List Const)) → 0 < left
    → constant_at (left == 1) bytes ≡ Ok (c, after) → with_front front (entries_at left bytes) ≡ total
    → with_front (front ++ entries_of c) (entries_at (left - length (entries_of c)) after) ≡ total
entries_go front left bytes after c total l h so_far =
    sym (twice front (entries_of c) (entries_at (left - length (entries_of c)) after))
    ∙ ap (λ (r : Read Const). with_front front (r >>= λ one. with_front (entries_of one.0) (entries_at (left - length (entries_of one.0)) one.1))) (sym h)
    ∙ ap (with_front front) (sym (entries_more left bytes l)) ∙ so_far

pub entries_end : (e : Stop) (front : List Const) (left : ℕ) (bytes : List ℕ) (total : Read (List Const)) → 0 < left
    → Fails e (constant_at (left == 1) bytes) → with_front front (entries_at left bytes) ≡ total → Fails e total
entries_end e front left bytes total l h so_far =
    let first : Read Const = constant_at (left == 1) bytes in
    let rest : Const × List ℕ → Read (List Const) = λ one. with_front (entries_of one.0) (entries_at (left - length (entries_of one.0)) one.1) in
    let part : Fails e (entries_at left bytes) = fails_so e (first >>= rest) (entries_at left bytes) (sym (entries_more left bytes l)) (stops e first rest h) in
    fails_so e (with_front front (entries_at left bytes)) total so_far (stops e (entries_at left bytes) (λ x. Ok (front ++ x.0, x.1)) part)

pub entries_done : (front : List Const) (left : ℕ) (bytes : List ℕ) (total : Read (List Const)) → left ≡ 0
    → with_front front (entries_at left bytes) ≡ total → total ≡ Ok (front, bytes)
unfolding entries_at
entries_done front left bytes total l so_far =
    sym so_far ∙ ap (λ n. with_front front (entries_at n bytes)) l ∙ ap (λ xs. Ok (xs, bytes)) (append-nil front)
