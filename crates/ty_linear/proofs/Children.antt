-- The children of each class.
use Rattle.std.proofs.Common.{◌≡◌, inl, inr, ℕ, ◌+◌, ◌<◌, ◌≤◌, Bool, true, false, cond, Vec, List, [], ◌∷◌, ◌++◌, length, get_or, set, take, replicate, eqb, ltb, refl, sym, ap, ◌∙◌, arith}
use Rattle.std.specs.declared.alloc.Global.{Global}
use Rattle.std.proofs.lemmas.Bool.{cases_eq, cases_lt, cases_order, eq-eqb, ne_eqb, lt-ltb, le-ltb}
use Rattle.std.proofs.lemmas.List.{get_or_past, length-replicate, get_or-map, length-map, get_or-set_same, get_or-set_other, get_or-replicate}
use Rattle.ty_linear.specs.Linear.{rows, parents_of}
use Rattle.ty_linear.specs.Order.{count_of}
use Rattle.ty_linear.proofs.Tables.{set_row}
use Rattle.ty_linear.proofs.Counts.{one_if, one_same, one_other, count-push, count_more}

-- the number where the test holds, else none
abbrev pub when : Bool → ℕ → ℕ
when b n = cond b n 0

when_none : (b : Bool) → when b 0 ≡ 0
when_none true = refl
when_none false = refl

-- the child was put behind the children of each of the parents
abbrev pub AreAdded : List (Vec ℕ Global) → List (Vec ℕ Global) → ℕ → List ℕ → Type 0
AreAdded before after child ps = (p class : ℕ) →
    count_of (get_or (rows after) p []) class ≡ count_of (get_or (rows before) p []) class + when (eqb class child) (count_of ps p)

pub added_none : (children : List (Vec ℕ Global)) (child : ℕ) → AreAdded children children child []
added_none children child p class = let c = when_none (eqb class child) in omega (arith, c)

pub added_more : (before children : List (Vec ℕ Global)) (child i : ℕ) (ps : List ℕ) (row d : Vec ℕ Global) → i < length ps → get_or ps i 0 < length children
    → row.items ≡ (get_or children (get_or ps i 0) d).items ++ child ∷ [] → AreAdded before children child (take i ps)
    → AreAdded before (set children (get_or ps i 0) row) child (take (i + 1) ps)
added_more before children child i ps row d here low push added p class =
    let x = get_or ps i 0 in
    let old = get_or (rows children) p [] in
    let new = get_or (rows (set children x row)) p [] in
    let a = added p class in
    let m = count_more ps i p here in
    let grown : count_of new class ≡ count_of old class + when (eqb class child) (one_if p x) = elim (cases_eq p x) [
      | inl e ↦ (
          let in_rows : x < length (rows children) = omega (arith, low, length-map children (λ (r : Vec ℕ Global). r.items)) in
          let was : get_or (rows children) p [] ≡ (get_or children x d).items =
          ap (λ (y : ℕ). get_or (rows children) y []) e ∙ get_or-map (λ (r : Vec ℕ Global). r.items) children x d [] low in
          let is : new ≡ old ++ child ∷ [] =
          ap (λ (table : List (List ℕ)). get_or table p []) (set_row children x row) ∙ ap (λ (y : ℕ). get_or (set (rows children) x row.items) y []) e
          ∙ get_or-set_same (rows children) x row.items [] in_rows ∙ push ∙ ap (λ (l : List ℕ). l ++ child ∷ []) (sym was) in
          let one : when (eqb class child) (one_if p x) ≡ one_if class child = ap (λ n. when (eqb class child) n) (one_same p x e) in
          ap (λ (l : List ℕ). count_of l class) is ∙ count-push old child class ∙ ap (λ n. count_of old class + n) (sym one))
      | inr n ↦ (
          let is : new ≡ old = ap (λ (table : List (List ℕ)). get_or table p []) (set_row children x row) ∙ get_or-set_other (rows children) x p row.items [] n in
          let none : when (eqb class child) (one_if p x) ≡ 0 = ap (λ n. when (eqb class child) n) (one_other p x n) ∙ when_none (eqb class child) in
          ap (λ (l : List ℕ). count_of l class) is ∙ (let z = none in omega (arith, z)))
    ] in
    elim (cases_eq class child) [
      | inl e ↦ (
          let t = eq-eqb class child e in
          let f = ap (λ b. when b (count_of (take i ps) p)) t in
          let g = ap (λ b. when b (count_of (take (i + 1) ps) p)) t in
          let h = ap (λ b. when b (one_if p x)) t in
          omega (arith, a, m, grown, f, g, h))
      | inr n ↦ (
          let t = ne_eqb class child n in
          let f = ap (λ b. when b (count_of (take i ps) p)) t in
          let g = ap (λ b. when b (count_of (take (i + 1) ps) p)) t in
          let h = ap (λ b. when b (one_if p x)) t in
          omega (arith, a, m, grown, f, g, h))
    ]

-- each class's children among the classes below k, as often as it is their parent
abbrev pub AreChildren : List (List ℕ) → List (List ℕ) → ℕ → Type 0
AreChildren parents children k = (p class : ℕ) → count_of (get_or children p []) class ≡ when (ltb class k) (count_of (parents_of parents class) p)

abbrev no_classes : List ℕ
no_classes = []

nothing : (n p : ℕ) → get_or (replicate n no_classes) p no_classes ≡ no_classes
nothing n p = elim (cases_lt p n) [
  | inl h ↦ get_or-replicate n p no_classes no_classes h
  | inr h ↦ get_or_past (replicate n no_classes) p no_classes (omega (arith, h, length-replicate n no_classes))
]

pub children_none : (parents : List (List ℕ)) (n : ℕ) → AreChildren parents (replicate n no_classes) 0
children_none parents n p class =
    let none : count_of (get_or (replicate n no_classes) p no_classes) class ≡ 0 = ap (λ (l : List ℕ). count_of l class) (nothing n p) in
    none ∙ sym (ap (λ b. when b (count_of (parents_of parents class) p)) (le-ltb class 0 (omega arith)))

pub children_more : (parents : List (List ℕ)) (before after : List (Vec ℕ Global)) (k : ℕ) (ps : List ℕ) → parents_of parents k ≡ ps
    → AreChildren parents (rows before) k → AreAdded before after k ps → AreChildren parents (rows after) (k + 1)
children_more parents before after k ps are so_far added p class =
    let n = count_of (parents_of parents class) p in
    let a = so_far p class in
    let b = added p class in
    elim (cases_order class k) [
      | inl e ↦ (
          let f : when (ltb class k) n ≡ 0 = ap (λ t. when t n) (le-ltb class k (omega (arith, e))) in
          let g : when (eqb class k) (count_of ps p) ≡ count_of ps p = ap (λ t. when t (count_of ps p)) (eq-eqb class k e) in
          let h : when (ltb class (k + 1)) n ≡ n = ap (λ t. when t n) (lt-ltb class (k + 1) (omega (arith, e))) in
          let m : n ≡ count_of ps p = ap (λ c. count_of (parents_of parents c) p) e ∙ ap (λ (l : List ℕ). count_of l p) are in
          omega (arith, a, b, f, g, h, m))
      | inr (inl l) ↦ (
          let f : when (ltb class k) n ≡ n = ap (λ t. when t n) (lt-ltb class k l) in
          let g : when (eqb class k) (count_of ps p) ≡ 0 = ap (λ t. when t (count_of ps p)) (ne_eqb class k (λ e. omega (arith, e, l))) in
          let h : when (ltb class (k + 1)) n ≡ n = ap (λ t. when t n) (lt-ltb class (k + 1) (omega (arith, l))) in
          omega (arith, a, b, f, g, h))
      | inr (inr l) ↦ (
          let f : when (ltb class k) n ≡ 0 = ap (λ t. when t n) (le-ltb class k (omega (arith, l))) in
          let g : when (eqb class k) (count_of ps p) ≡ 0 = ap (λ t. when t (count_of ps p)) (ne_eqb class k (λ e. omega (arith, e, l))) in
          let h : when (ltb class (k + 1)) n ≡ 0 = ap (λ t. when t n) (le-ltb class (k + 1) (omega (arith, l))) in
          omega (arith, a, b, f, g, h))
    ]

pub children_all : (parents children : List (List ℕ)) (k : ℕ) → length parents ≤ k → AreChildren parents children k
    → (p class : ℕ) → count_of (get_or children p []) class ≡ count_of (parents_of parents class) p
children_all parents children k out are p class =
    let n = count_of (parents_of parents class) p in
    elim (cases_lt class k) [
      | inl l ↦ (are p class ∙ ap (λ t. when t n) (lt-ltb class k l))
      | inr l ↦ (
          let none : parents_of parents class ≡ [] = get_or_past parents class [] (omega (arith, l, out)) in
          are p class ∙ ap (λ t. when t n) (le-ltb class k l) ∙ sym (ap (λ (ps : List ℕ). count_of ps p) none))
    ]
