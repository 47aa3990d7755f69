-- Counts of classes in a list, and the classes that wait for no parent.
use Rattle.std.proofs.Common.{◌≡◌, ◌≢◌, inl, inr, ℕ, ◌+◌, ◌-◌, ◌<◌, ◌≤◌, false, ◌||◌, cond, List, [], ◌∷◌, ◌++◌, length, get_or, set, take, eqb, refl, sym, ap, ◌∙◌, subst, arith}
use Rattle.std.specs.List.{All}
use Rattle.std.proofs.lemmas.Bool.{cases_eq, eq-eqb, ne_eqb, or_right}
use Rattle.std.proofs.lemmas.List.{take_more, get_or-set_same, get_or-set_other, length-set}
use Rattle.std.proofs.lemmas.List.Elements.{All-push, All-nil, All-weaker, All-contains}
use Rattle.std.proofs.lemmas.List.Sums.{sum_by_push, sum_by-take-drop}
use Rattle.ty_linear.specs.Linear.{is_in}
use Rattle.ty_linear.specs.Order.{IsReady, count_of}
use Rattle.ty_linear.proofs.Members.{Distinct, Distinct-nil, Contains-from_In, is_in-append, is_in-missing, Distinct-push}
use Rattle.ty_linear.proofs.Gathered.{other}

-- one if two classes are the same, else none
abbrev pub one_if : ℕ → ℕ → ℕ
one_if a b = cond (eqb a b) 1 0

pub one_same : (a b : ℕ) → a ≡ b → one_if a b ≡ 1
one_same a b e = ap (λ t. cond t 1 0) (eq-eqb a b e)

pub one_other : (a b : ℕ) → a ≢ b → one_if a b ≡ 0
one_other a b n = ap (λ t. cond t 1 0) (ne_eqb a b n)

pub count-push : (xs : List ℕ) (x class : ℕ) → count_of (xs ++ x ∷ []) class ≡ count_of xs class + one_if class x
count-push xs x class = sum_by_push (λ y. cond (eqb class y) 1 0) xs x

pub count_more : (xs : List ℕ) (i class : ℕ) → i < length xs → count_of (take (i + 1) xs) class ≡ count_of (take i xs) class + one_if class (get_or xs i 0)
count_more xs i class h = ap (λ ys. count_of ys class) (take_more xs i 0 h) ∙ count-push (take i xs) (get_or xs i 0) class

pub count_front : (xs : List ℕ) (i class : ℕ) → count_of (take i xs) class ≤ count_of xs class
count_front xs i class = omega (arith, sum_by-take-drop (λ y. cond (eqb class y) 1 0) xs i)

-- a class that is counted down
module _ (waiting ready : List ℕ) (x : ℕ) (are : IsReady waiting ready) (here : x < length waiting) (some : 1 ≤ get_or waiting x 0) where
  waits : is_in ready x ≡ false
  waits = are.each x here ∙ ne_eqb (get_or waiting x 0) 0 (λ e. omega (arith, e, some))

  pub ready_push : get_or waiting x 0 - 1 ≡ 0 → IsReady (set waiting x (get_or waiting x 0 - 1)) (ready ++ x ∷ [])
  ready_push zero =
      let v = get_or waiting x 0 - 1 in
      record {
        within = (rw (length-set waiting x v) (All-push (λ class. class < length waiting) ready x are.within here));
        distinct = Distinct-push ready x are.distinct waits;
        each = λ class h.
            let low : class < length waiting = omega (arith, h, length-set waiting x v) in
            elim (cases_eq class x) [
              | inl e ↦ (
                  is_in-append ready (x ∷ []) class ∙ or_right (is_in ready class) (is_in (x ∷ []) class) (ap (λ b. b || false) (eq-eqb class x e))
                  ∙ sym (ap (λ y. eqb (get_or (set waiting x v) y 0) 0) e ∙ eq-eqb (get_or (set waiting x v) x 0) 0 (get_or-set_same waiting x v 0 here ∙ zero)))
              | inr n ↦ (
                  is_in-append ready (x ∷ []) class ∙ other (is_in ready class) (eqb class x) (ne_eqb class x n)
                  ∙ are.each class low ∙ sym (ap (λ y. eqb y 0) (get_or-set_other waiting x class v 0 n)))
            ];
      }

  pub ready_wait : (get_or waiting x 0 - 1) ≢ 0 → IsReady (set waiting x (get_or waiting x 0 - 1)) ready
  ready_wait more =
      let v = get_or waiting x 0 - 1 in
      record {
        within = (rw (length-set waiting x v) are.within);
        distinct = are.distinct;
        each = λ class h.
            let low : class < length waiting = omega (arith, h, length-set waiting x v) in
            elim (cases_eq class x) [
              | inl e ↦ (
                  ap (is_in ready) e ∙ waits
                  ∙ sym (ap (λ y. eqb (get_or (set waiting x v) y 0) 0) e ∙ ne_eqb (get_or (set waiting x v) x 0) 0 (λ z. more (sym (get_or-set_same waiting x v 0 here) ∙ z))))
              | inr n ↦ (are.each class low ∙ sym (ap (λ y. eqb y 0) (get_or-set_other waiting x class v 0 n)))
            ];
      }

-- what is still to be taken from the counts
abbrev pub AreFewer : List ℕ → List ℕ → List ℕ → Type 0
AreFewer before after classes = (class : ℕ) → class < length before → get_or after class 0 + count_of classes class ≡ get_or before class 0

-- the next class still waits
pub still_waits : (before after classes : List ℕ) (i : ℕ) → i < length classes → get_or classes i 0 < length before → AreFewer before after (take i classes)
    → count_of classes (get_or classes i 0) ≤ get_or before (get_or classes i 0) 0 → 1 ≤ get_or after (get_or classes i 0) 0
still_waits before after classes i here low fewer enough =
    let x = get_or classes i 0 in
    let a = fewer x low in
    let b = count_more classes i x here in
    let c = count_front classes (i + 1) x in
    let d = one_same x x refl in
    omega (arith, a, b, c, d, enough)

pub fewer_more : (before after classes : List ℕ) (i : ℕ) → i < length classes → length after ≡ length before → get_or classes i 0 < length before
    → AreFewer before after (take i classes) → 1 ≤ get_or after (get_or classes i 0) 0
    → AreFewer before (set after (get_or classes i 0) (get_or after (get_or classes i 0) 0 - 1)) (take (i + 1) classes)
fewer_more before after classes i here long low fewer some class h =
    let x = get_or classes i 0 in
    let v = get_or after x 0 - 1 in
    let a = fewer class h in
    let b = count_more classes i class here in
    elim (cases_eq class x) [
      | inl e ↦ (
          let c : get_or (set after x v) class 0 ≡ v = ap (λ y. get_or (set after x v) y 0) e ∙ get_or-set_same after x v 0 (omega (arith, low, long)) in
          let d = one_same class x e in
          let f : get_or after class 0 ≡ get_or after x 0 = ap (λ y. get_or after y 0) e in
          omega (arith, a, b, c, d, f, some))
      | inr n ↦ (
          let c = get_or-set_other after x class v 0 n in
          let d = one_other class x n in
          omega (arith, a, b, c, d))
    ]

-- the classes below k that wait for no parent
pub record IsReadyTo (waiting ready : List ℕ) (k : ℕ) : Type 0 where
  pub below : All (λ class. class < k) ready
  pub distinct : Distinct ready
  pub each : (class : ℕ) → class < k → is_in ready class ≡ eqb (get_or waiting class 0) 0

not_yet : (waiting ready : List ℕ) (k : ℕ) → IsReadyTo waiting ready k → is_in ready k ≡ false
not_yet waiting ready k are = is_in-missing ready k (λ h.
    let low = All-contains (λ class. class < k) ready k are.below (Contains-from_In ready k h) in omega (arith, low))

pub ready_to_none : (waiting : List ℕ) → IsReadyTo waiting [] 0
ready_to_none waiting = record { below = All-nil (λ class. class < 0); distinct = Distinct-nil; each = λ class h. absurd (omega (arith, h)) }

pub ready_to_push : (waiting ready : List ℕ) (k : ℕ) → IsReadyTo waiting ready k → get_or waiting k 0 ≡ 0 → IsReadyTo waiting (ready ++ k ∷ []) (k + 1)
ready_to_push waiting ready k are zero = record {
  below = All-push (λ class. class < k + 1) ready k (All-weaker (λ class. class < k) (λ class. class < k + 1) (λ class h. omega (arith, h)) ready are.below) (omega arith);
  distinct = Distinct-push ready k are.distinct (not_yet waiting ready k are);
  each = λ class h. is_in-append ready (k ∷ []) class ∙ elim (cases_eq class k) [
    | inl e ↦ (
        or_right (is_in ready class) (is_in (k ∷ []) class) (ap (λ b. b || false) (eq-eqb class k e))
        ∙ sym (ap (λ y. eqb (get_or waiting y 0) 0) e ∙ eq-eqb (get_or waiting k 0) 0 zero))
    | inr n ↦ (
        let low : class < k = omega (arith, h, n) in
        other (is_in ready class) (eqb class k) (ne_eqb class k n) ∙ are.each class low)
  ];
}

pub ready_to_skip : (waiting ready : List ℕ) (k : ℕ) → IsReadyTo waiting ready k → get_or waiting k 0 ≢ 0 → IsReadyTo waiting ready (k + 1)
ready_to_skip waiting ready k are more = record {
  below = All-weaker (λ class. class < k) (λ class. class < k + 1) (λ class h. omega (arith, h)) ready are.below;
  distinct = are.distinct;
  each = λ class h. elim (cases_eq class k) [
    | inl e ↦ (ap (is_in ready) e ∙ not_yet waiting ready k are ∙ sym (ap (λ y. eqb (get_or waiting y 0) 0) e ∙ ne_eqb (get_or waiting k 0) 0 more))
    | inr n ↦ (let low : class < k = omega (arith, h, n) in are.each class low)
  ];
}

pub ready_to_all : (waiting ready : List ℕ) (k : ℕ) → k ≡ length waiting → IsReadyTo waiting ready k → IsReady waiting ready
ready_to_all waiting ready k e are = record {
  within = (let P : ℕ → Type 0 = λ n. All (λ class. class < n) ready in subst P e are.below);
  distinct = are.distinct;
  each = λ class h. are.each class (omega (arith, h, e));
}
