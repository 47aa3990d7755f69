-- A linearisation made from those of the parents, and a table of them.
use Rattle.std.proofs.Common.{◌≡◌, ◌⊎◌, inl, inr, true, ℕ, ◌+◌, ◌<◌, ◌≤◌, Vec, List, [], ◌∷◌, ◌++◌, reverse, length, get_or, set, take, refl, sym, ap, ◌∙◌, subst, arith}
use Rattle.std.specs.declared.alloc.Global.{Global}
use Rattle.std.specs.List.{All, Contains}
use Rattle.std.proofs.lemmas.Bool.{cases_eq}
use Rattle.std.proofs.lemmas.List.{get_or-map, length-map, map-set, reverse-append, take_more, take_all, get_or-set_same, get_or-set_other}
use Rattle.std.proofs.lemmas.List.Elements.{All-more, All-weaker, All-contains, Contains-get_or}
use Rattle.ty_linear.specs.Linear.{rows, parents_of, is_in, ◌+>◌, IsMerged, more, IsLinearisation}
use Rattle.ty_linear.specs.Gather.{gathered}
use Rattle.ty_linear.proofs.Members.{Contains-from_In}
use Rattle.ty_linear.proofs.Merges.{linear_distinct}
use Rattle.ty_linear.proofs.Gathered.{reverse-gathered}
use Rattle.ty_linear.proofs.Within.{Within}

-- a row that is read
pub row_read : (table : List (Vec ℕ Global)) (class : ℕ) (row : Vec ℕ Global) → class < length table → row ≡ get_or table class row
    → get_or (rows table) class [] ≡ row.items
row_read table class row here is = get_or-map (λ (r : Vec ℕ Global). r.items) table class row [] here ∙ ap (λ (r : Vec ℕ Global). r.items) (sym is)

-- one more parent's list is merged
pub merge_more : (parents : List (List ℕ)) (ps : List ℕ) (i : ℕ) (merged list next : List ℕ) → i < length ps
    → IsMerged parents (reverse (take i ps)) (reverse merged) → IsLinearisation parents (get_or ps i 0) list → next ≡ gathered merged (reverse list)
    → IsMerged parents (reverse (take (i + 1) ps)) (reverse next)
merge_more parents ps i merged list next here so_far is made =
    let p = get_or ps i 0 in
    let front : reverse (take (i + 1) ps) ≡ p ∷ reverse (take i ps) = ap reverse (take_more ps i 0 here) ∙ reverse-append (take i ps) (p ∷ []) in
    let behind : reverse next ≡ (p ∷ is.above) +> reverse merged =
    ap reverse made ∙ reverse-gathered merged list (linear_distinct parents p list is) ∙ ap (λ l. l +> reverse merged) is.is in
    let step : IsMerged parents (p ∷ reverse (take i ps)) ((p ∷ is.above) +> reverse merged) =
    more p (reverse (take i ps)) is.above (reverse merged) is.merged so_far in
    rw (front, behind) step

-- the class behind all, and the list turned round
pub merge_all : (parents : List (List ℕ)) (class i : ℕ) (ps merged pushed list : List ℕ) → parents_of parents class ≡ ps → length ps ≤ i
    → IsMerged parents (reverse (take i ps)) (reverse merged) → pushed ≡ merged ++ class ∷ [] → list ≡ reverse pushed → IsLinearisation parents class list
merge_all parents class i ps merged pushed list are out so_far push turned = record {
  above = reverse merged;
  merged = (let all : take i ps ≡ parents_of parents class = take_all i ps out ∙ sym are in rw all at so_far);
  is = turned ∙ ap reverse push ∙ reverse-append merged (class ∷ []);
}

-- the classes of a list have their lists
abbrev pub Have : List (List ℕ) → List (Vec ℕ Global) → List ℕ → Type 0
Have parents table classes = All (λ (class : ℕ). IsLinearisation parents class (get_or (rows table) class [])) classes

pub set_row : (table : List (Vec ℕ Global)) (class : ℕ) (row : Vec ℕ Global) → rows (set table class row) ≡ set (rows table) class row.items
set_row table class row = map-set (λ (r : Vec ℕ Global). r.items) table class row

-- a class's list is set
pub Have-set : (parents : List (List ℕ)) (table : List (Vec ℕ Global)) (class x : ℕ) (row : Vec ℕ Global) → class < length table
    → IsLinearisation parents class row.items → (x ≡ class) ⊎ IsLinearisation parents x (get_or (rows table) x [])
    → IsLinearisation parents x (get_or (rows (set table class row)) x [])
Have-set parents table class x row here is was =
    let in_rows : class < length (rows table) = omega (arith, here, length-map table (λ (r : Vec ℕ Global). r.items)) in
    let new : IsLinearisation parents class (get_or (rows (set table class row)) class []) =
    rw (set_row table class row, get_or-set_same (rows table) class row.items [] in_rows) is in
    elim (cases_eq x class) [
      | inl e ↦ subst (λ (y : ℕ). IsLinearisation parents y (get_or (rows (set table class row)) y [])) (sym e) new
      | inr n ↦ elim was [
        | inl e ↦ absurd (n e)
        | inr old ↦ (rw (set_row table class row, get_or-set_other (rows table) class x row.items [] n) old)
      ]
    ]

pub Have-more : (parents : List (List ℕ)) (table : List (Vec ℕ Global)) (order : List ℕ) (number : ℕ) (row : Vec ℕ Global) → number < length order
    → get_or order number 0 < length table → IsLinearisation parents (get_or order number 0) row.items → Have parents table (take number order)
    → Have parents (set table (get_or order number 0) row) (take (number + 1) order)
Have-more parents table order number row here within is have =
    let class = get_or order number 0 in
    All-more (λ (x : ℕ). IsLinearisation parents x (get_or (rows (set table class row)) x [])) order number 0 here
    (All-weaker (λ (x : ℕ). IsLinearisation parents x (get_or (rows table) x [])) (λ (x : ℕ). IsLinearisation parents x (get_or (rows (set table class row)) x []))
    (λ x h. Have-set parents table class x row within is (inr h)) (take number order) have)
    (Have-set parents table class class row within is (inl refl))

-- the parents of a class in the order have their lists
pub Have-parents : (parents : List (List ℕ)) (table : List (Vec ℕ Global)) (order ps : List ℕ) (number : ℕ) → Have parents table (take number order)
    → All (λ p. is_in (take number order) p ≡ true) ps → Have parents table ps
Have-parents parents table order ps number have behind =
    All-weaker (λ p. is_in (take number order) p ≡ true) (λ (x : ℕ). IsLinearisation parents x (get_or (rows table) x []))
    (λ p h. All-contains (λ (x : ℕ). IsLinearisation parents x (get_or (rows table) x [])) (take number order) p have (Contains-from_In (take number order) p h)) ps behind

-- the list that is read for a parent is its linearisation
pub parent_list : (parents : List (List ℕ)) (table : List (Vec ℕ Global)) (class i : ℕ) (ps list : List ℕ) (row : Vec ℕ Global) → Within parents
    → parents_of parents class ≡ ps → i < length ps → length table ≡ length parents → Have parents table (parents_of parents class)
    → row ≡ get_or table (get_or ps i 0) row → list ≡ row.items
    → (get_or ps i 0 < length parents) × IsLinearisation parents (get_or ps i 0) list
parent_list parents table class i ps list row within are here count have is same =
    let p = get_or ps i 0 in
    let has : Contains (parents_of parents class) p = rw are (Contains-get_or ps i 0 here) in
    let low : p < length parents = within class p has in
    let linear : IsLinearisation parents p (get_or (rows table) p []) =
    All-contains (λ (x : ℕ). IsLinearisation parents x (get_or (rows table) x [])) (parents_of parents class) p have has in
    let read : get_or (rows table) p [] ≡ list = row_read table p row (omega (arith, low, count)) is ∙ sym same in
    (low, subst (λ (l : List ℕ). IsLinearisation parents p l) read linear)
