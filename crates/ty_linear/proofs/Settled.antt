-- The order, as far as it has been gone along.
use Rattle.std.proofs.Common.{◌≡◌, ◌≢◌, inl, inr, ℕ, ◌+◌, ◌<◌, ◌≤◌, true, false, not, ◌||◌, cond, Vec, List, [], ◌∷◌, ◌++◌, length, get_or, take, drop, map, eqb, refl, sym, ap, ◌∙◌, arith}
use Rattle.std.specs.declared.alloc.Global.{Global}
use Rattle.std.specs.List.{count_by, All}
use Rattle.std.proofs.lemmas.Bool.{cases_eq, cases_lt, cases_Bool, eq-eqb, eqb-true, eqb-false, ne_eqb, or_left, or_right, both_ways}
use Rattle.std.proofs.lemmas.List.{get_or_past, take_more, take_all, take-take, take-append-le, take-append-drop, get_or-take, get_or_append_left, get_or-map, get_or_default, length-take-le}
use Rattle.std.proofs.lemmas.List.Elements.{All-nil, All-cons, All-weaker, All-contains, Contains-get_or}
use Rattle.std.proofs.lemmas.List.Sums.{sum_by-cons}
use Rattle.std.proofs.lemmas.Map.Keys.{apart_from_distinct}
use Rattle.std.proofs.lemmas.Map.Steps.{length-le_from_distinct_below}
use Rattle.ty_linear.specs.Linear.{rows, parents_of, is_in}
use Rattle.ty_linear.specs.Order.{IsReady, IsOrder, AreLeft, count_of}
use Rattle.ty_linear.proofs.Members.{In, Distinct, In-first, In-later, In-cases, In-from_Contains, Contains-from_In, is_in-append, is_in-missing}
use Rattle.ty_linear.proofs.Gathered.{other}
use Rattle.ty_linear.proofs.Counts.{AreFewer, one_if, one_same}
use Rattle.ty_linear.proofs.Tables.{row_read}

-- how many of the classes are not in the order
abbrev pub unordered : List ℕ → List ℕ → ℕ
unordered ordered ps = count_by (λ p. not (is_in ordered p)) ps

abbrev one_unordered : List ℕ → ℕ → ℕ
one_unordered ordered p = cond (not (is_in ordered p)) 1 0

unordered-cons : (ordered : List ℕ) (p : ℕ) (ps : List ℕ) → unordered ordered (p ∷ ps) ≡ one_unordered ordered p + unordered ordered ps
unordered-cons ordered p ps = sum_by-cons (one_unordered ordered) p ps

one_there : (ordered : List ℕ) (p : ℕ) → is_in ordered p ≡ true → one_unordered ordered p ≡ 0
one_there ordered p e = ap (λ b. cond (not b) 1 0) e

one_missing : (ordered : List ℕ) (p : ℕ) → is_in ordered p ≡ false → one_unordered ordered p ≡ 1
one_missing ordered p e = ap (λ b. cond (not b) 1 0) e

unordered-none : (ps : List ℕ) → unordered [] ps ≡ length ps
unordered-none [] = refl
unordered-none (p ∷ ps) =
    let a = unordered-cons [] p ps in
    let b = one_missing [] p refl in
    let c = unordered-none ps in
    omega (arith, a, b, c)

unordered-push : (ordered : List ℕ) (x : ℕ) (ps : List ℕ) → is_in ordered x ≡ false → unordered ordered ps ≡ unordered (ordered ++ x ∷ []) ps + count_of ps x
unordered-push ordered x [] e = refl
unordered-push ordered x (p ∷ ps) e =
    let a = unordered-cons ordered p ps in
    let b = unordered-cons (ordered ++ x ∷ []) p ps in
    let c = sum_by-cons (one_if x) p ps in
    let d = unordered-push ordered x ps e in
    elim (cases_eq p x) [
      | inl s ↦ (
          let f = one_missing ordered p (ap (is_in ordered) s ∙ e) in
          let g = one_there (ordered ++ x ∷ []) p (is_in-append ordered (x ∷ []) p ∙ or_right (is_in ordered p) (is_in (x ∷ []) p) (ap (λ t. t || false) (eq-eqb p x s))) in
          let h : one_if x p ≡ 1 = ap (λ t. cond t 1 0) (eq-eqb x p (sym s)) in
          omega (arith, a, b, c, d, f, g, h))
      | inr n ↦ (
          let f : one_unordered (ordered ++ x ∷ []) p ≡ one_unordered ordered p =
          ap (λ t. cond (not t) 1 0) (is_in-append ordered (x ∷ []) p ∙ other (is_in ordered p) (eqb p x) (ne_eqb p x n)) in
          let h : one_if x p ≡ 0 = ap (λ t. cond t 1 0) (ne_eqb x p (λ s. n (sym s))) in
          omega (arith, a, b, c, d, f, h))
    ]

unordered_zero : (ordered ps : List ℕ) → unordered ordered ps ≡ 0 → All (λ p. is_in ordered p ≡ true) ps
unordered_zero ordered [] e = All-nil (λ p. is_in ordered p ≡ true)
unordered_zero ordered (p ∷ ps) e =
    let a = unordered-cons ordered p ps in
    elim (cases_Bool (is_in ordered p)) [
      | inl t ↦ (
          let b = one_there ordered p t in
          All-cons (λ q. is_in ordered q ≡ true) p ps t (unordered_zero ordered ps (omega (arith, a, b, e))))
      | inr t ↦ (let b = one_missing ordered p t in absurd (omega (arith, a, b, e)))
    ]

unordered_some : (ordered ps : List ℕ) → unordered ordered ps ≢ 0 → (p : ℕ) × In ps p × (is_in ordered p ≡ false)
unordered_some ordered [] n = absurd (n refl)
unordered_some ordered (p ∷ ps) n =
    let a = unordered-cons ordered p ps in
    elim (cases_Bool (is_in ordered p)) [
      | inl t ↦ (
          let b = one_there ordered p t in
          let rest = unordered_some ordered ps (λ e. n (a ∙ (omega (arith, b, e)))) in
          (rest.0, In-later p ps rest.0 rest.1, rest.2))
      | inr t ↦ (p, In-first p ps, t)
    ]

-- a front of a list
in_front : (xs : List ℕ) (m n x : ℕ) → m ≤ n → In (take m xs) x → In (take n xs) x
in_front xs m n x h has =
    let split : take m (take n xs) ++ drop m (take n xs) ≡ take n xs = take-append-drop m (take n xs) in
    let at : is_in (take m (take n xs)) x ≡ true = ap (λ (l : List ℕ). is_in l x) (take-take m n xs h) ∙ has in
    ap (λ (l : List ℕ). is_in l x) (sym split) ∙ is_in-append (take m (take n xs)) (drop m (take n xs)) x
    ∙ or_left (is_in (take m (take n xs)) x) (is_in (drop m (take n xs)) x) at

not_before : (xs : List ℕ) (k : ℕ) → Distinct xs → k < length xs → is_in (take k xs) (get_or xs k 0) ≡ false
not_before xs k distinct here = is_in-missing (take k xs) (get_or xs k 0) (λ h.
    let at = Contains-from_In (take k xs) (get_or xs k 0) h in
    let low : at.0 < k = omega (arith, at.1, length-take-le k xs (omega (arith, here))) in
    let same : get_or xs at.0 0 ≡ get_or xs k 0 =
    get_or_default xs at.0 0 (get_or xs k 0) (omega (arith, low, here)) ∙ sym (get_or-take k xs at.0 (get_or xs k 0) low) ∙ at.2 in
    both_ways (eqb (get_or xs at.0 0) (get_or xs k 0)) (apart_from_distinct eqb xs at.0 k 0 distinct low here) (eq-eqb (get_or xs at.0 0) (get_or xs k 0) same))

-- the counts are of the parents that the order has not before this number; each class of the order stands behind its parents
pub record IsSettled (parents : List (List ℕ)) (waiting order : List ℕ) (number : ℕ) : Type 0 where
  pub long : length waiting ≡ length parents
  pub ready : IsReady waiting order
  pub waits : (class : ℕ) → class < length waiting → get_or waiting class 0 ≡ unordered (take number order) (parents_of parents class)
  pub behind : (k : ℕ) → k < length order → All (λ p. is_in (take k order) p ≡ true) (parents_of parents (get_or order k 0))

-- the parents of a class that waits for none
parents_ordered : (parents : List (List ℕ)) (waiting order : List ℕ) (number k : ℕ) → IsReady waiting order
    → ((class : ℕ) → class < length waiting → get_or waiting class 0 ≡ unordered (take number order) (parents_of parents class))
    → k < length order → number ≤ k → All (λ p. is_in (take k order) p ≡ true) (parents_of parents (get_or order k 0))
parents_ordered parents waiting order number k ready waits here later =
    let x = get_or order k 0 in
    let low : x < length waiting = ready.within k 0 here in
    let there : is_in order x ≡ true = In-from_Contains order x (Contains-get_or order k 0 here) in
    let zero : get_or waiting x 0 ≡ 0 = eqb-true (get_or waiting x 0) 0 (sym (ready.each x low) ∙ there) in
    All-weaker (λ p. is_in (take number order) p ≡ true) (λ p. is_in (take k order) p ≡ true) (λ p h. in_front order number k p later h)
    (parents_of parents x) (unordered_zero (take number order) (parents_of parents x) (sym (waits x low) ∙ zero))

pub settled_start : (parents : List (List ℕ)) (waiting order : List ℕ) → waiting ≡ map (λ (ps : List ℕ). length ps) parents → length waiting ≡ length parents
    → IsReady waiting order → IsSettled parents waiting order 0
settled_start parents waiting order are long ready =
    let waits : (class : ℕ) → class < length waiting → get_or waiting class 0 ≡ unordered (take 0 order) (parents_of parents class) = λ class h.
    ap (λ (l : List ℕ). get_or l class 0) are ∙ get_or-map (λ (ps : List ℕ). length ps) parents class [] 0 (omega (arith, h, long))
    ∙ sym (unordered-none (parents_of parents class)) in
    record { long = long; ready = ready; waits = waits; behind = λ k h. parents_ordered parents waiting order 0 k ready waits h (omega arith) }

pub settled_more : (parents : List (List ℕ)) (waiting order waiting' order' more classes : List ℕ) (number : ℕ) → IsSettled parents waiting order number → number < length order
    → ((class : ℕ) → count_of classes class ≡ count_of (parents_of parents class) (get_or order number 0))
    → AreFewer waiting waiting' classes → IsReady waiting' order' → order' ≡ order ++ more → length waiting' ≡ length waiting
    → IsSettled parents waiting' order' (number + 1)
settled_more parents waiting order waiting' order' more classes number so_far here are fewer ready behind same =
    let x = get_or order number 0 in
    let front : (k : ℕ) → k ≤ length order → take k order' ≡ take k order = λ k h. ap (take k) behind ∙ take-append-le k order more h in
    let ordered : take (number + 1) order' ≡ take number order ++ x ∷ [] = front (number + 1) (omega (arith, here)) ∙ take_more order number 0 here in
    let waits : (class : ℕ) → class < length waiting' → get_or waiting' class 0 ≡ unordered (take (number + 1) order') (parents_of parents class) = λ class h.
    let low : class < length waiting = omega (arith, h, same) in
    let a = fewer class low in
    let b = so_far.waits class low in
    let c = are class in
    let d = unordered-push (take number order) x (parents_of parents class) (not_before order number so_far.ready.distinct here) in
    let e = ap (λ (l : List ℕ). unordered l (parents_of parents class)) ordered in
    omega (arith, a, b, c, d, e) in
    record {
      long = same ∙ so_far.long;
      ready = ready;
      waits = waits;
      behind = λ k h. elim (cases_lt k (length order)) [
        | inl old ↦ (
            let at : get_or order' k 0 ≡ get_or order k 0 = ap (λ (l : List ℕ). get_or l k 0) behind ∙ get_or_append_left order more 0 k old in
            rw (at, front k (omega (arith, old))) (so_far.behind k old))
        | inr new ↦ parents_ordered parents waiting' order' (number + 1) k ready waits h (omega (arith, new, here))
      ];
    }

-- the next class and its children
pub settled_enough : (parents : List (List ℕ)) (waiting order classes : List ℕ) (number : ℕ) → IsSettled parents waiting order number → number < length order
    → ((class : ℕ) → count_of classes class ≡ count_of (parents_of parents class) (get_or order number 0))
    → (class : ℕ) → class < length waiting → count_of classes class ≤ get_or waiting class 0
settled_enough parents waiting order classes number so_far here are class low =
    let a = so_far.waits class low in
    let b = are class in
    let c = unordered-push (take number order) (get_or order number 0) (parents_of parents class) (not_before order number so_far.ready.distinct here) in
    omega (arith, a, b, c)

pub settled_short : (parents : List (List ℕ)) (waiting order : List ℕ) (number : ℕ) → IsSettled parents waiting order number → length order ≤ length parents
settled_short parents waiting order number so_far =
    length-le_from_distinct_below order (length parents) so_far.ready.distinct
    (λ q h. let low = All-contains (λ c. c < length waiting) order q so_far.ready.within (Contains-from_In order q h) in
    omega (arith, low, so_far.long))

pub settled_order : (parents : List (List ℕ)) (waiting order : List ℕ) (number : ℕ) → IsSettled parents waiting order number → IsOrder parents order
settled_order parents waiting order number so_far = record {
  within = λ k d h. let low = so_far.ready.within k d h in omega (arith, low, so_far.long);
  behind = so_far.behind;
}

pub settled_left : (parents : List (List ℕ)) (waiting order : List ℕ) (number : ℕ) → length order ≤ number → IsSettled parents waiting order number → AreLeft parents order
settled_left parents waiting order number out so_far class low missing =
    let here : class < length waiting = omega (arith, low, so_far.long) in
    let all : take number order ≡ order = take_all number order out in
    let waits : get_or waiting class 0 ≢ 0 = eqb-false (get_or waiting class 0) 0 (sym (so_far.ready.each class here) ∙ missing) in
    let left = unordered_some order (parents_of parents class) (λ e. waits (so_far.waits class here ∙ ap (λ (l : List ℕ). unordered l (parents_of parents class)) all ∙ e)) in
    (left.0, Contains-from_In (parents_of parents class) left.0 left.1, left.2)

-- the children that are read for the next class
pub read_children : (parents : List (List ℕ)) (table : List (Vec ℕ Global)) (order list : List ℕ) (number x : ℕ) (row : Vec ℕ Global)
    → ((p child : ℕ) → count_of (get_or (rows table) p []) child ≡ count_of (parents_of parents child) p)
    → x ≡ get_or order number 0 → x < length table → row ≡ get_or table x row → list ≡ row.items
    → (class : ℕ) → count_of list class ≡ count_of (parents_of parents class) (get_or order number 0)
read_children parents table order list number x row each at low is same class =
    ap (λ (l : List ℕ). count_of l class) (same ∙ sym (row_read table x row low is)) ∙ each x class
    ∙ ap (λ (y : ℕ). count_of (parents_of parents class) y) at

in_counts : (xs : List ℕ) (x : ℕ) → In xs x → 1 ≤ count_of xs x
in_counts [] x h = let no : false ≡ true = h in cc
in_counts (y ∷ ys) x h =
    let a = sum_by-cons (one_if x) y ys in
    elim (In-cases y ys x h) [
      | inl e ↦ (let b = one_same x y e in omega (arith, a, b))
      | inr u ↦ (let b = in_counts ys x u in omega (arith, a, b))
    ]

pub children_within : (parents : List (List ℕ)) (list : List ℕ) (p : ℕ) → ((class : ℕ) → count_of list class ≡ count_of (parents_of parents class) p)
    → All (λ class. class < length parents) list
children_within parents list p are = λ k d h.
    let class = get_or list k d in
    let some = in_counts list class (In-from_Contains list class (Contains-get_or list k d h)) in
    elim (cases_lt class (length parents)) [
      | inl low ↦ low
      | inr out ↦ (
          let none : parents_of parents class ≡ [] = get_or_past parents class [] out in
          let zero : count_of (parents_of parents class) p ≡ 0 = ap (λ (ps : List ℕ). count_of ps p) none in
          let same = are class in
          absurd (omega (arith, some, zero, same)))
    ]

-- the lengths of the rows
pub row_counts : (table : List (Vec ℕ Global)) → map (λ (ps : List ℕ). length ps) (rows table) ≡ map (λ (row : Vec ℕ Global). length row.items) table
row_counts [] = refl
row_counts (row ∷ table) = ap (λ (l : List ℕ). length row.items ∷ l) (row_counts table)
