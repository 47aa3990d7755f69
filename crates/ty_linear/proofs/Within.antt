-- Numbers that are those of classes.
use Rattle.std.proofs.Common.{◌≡◌, inl, inr, ℕ, ◌<◌, Vec, List, [], length, get_or, sym, subst, arith, ◌≤◌}
use Rattle.std.specs.declared.alloc.Global.{Global}
use Rattle.std.specs.List.{All, Contains}
use Rattle.std.proofs.lemmas.Bool.{cases_lt}
use Rattle.std.proofs.lemmas.List.{get_or_past, length-map}
use Rattle.std.proofs.lemmas.List.Elements.{All-map, All-get_or, All-contains, Contains-get_or}
use Rattle.ty_linear.specs.Linear.{rows, AreClasses, parents_of, IsAncestor, parent, beyond, IsLinearisation}
use Rattle.ty_linear.proofs.Ancestors.{IsAtOrAbove}
use Rattle.ty_linear.proofs.Merges.{linear_members}

-- each parent is a class
abbrev pub Within : List (List ℕ) → Type 0
Within parents = (class p : ℕ) → Contains (parents_of parents class) p → p < length parents

pub no_parents : (parents : List (List ℕ)) (class p : ℕ) → length parents ≤ class → Contains (parents_of parents class) p → ⊥
no_parents parents class p out has =
    let e : parents_of parents class ≡ [] = get_or_past parents class [] out in
    let has' : Contains [] p = subst (λ (xs : List ℕ). Contains xs p) e has in
    absurd (omega (arith, has'.1))

pub Within-rows : (table : List (Vec ℕ Global)) → AreClasses table → Within (rows table)
Within-rows table are class p has =
    let count : length (rows table) ≡ length table = length-map table (λ row. row.items) in
    elim (cases_lt class (length (rows table))) [
      | inr out ↦ absurd (no_parents (rows table) class p out has)
      | inl here ↦ (
          let all = All-map (All (λ (c : ℕ). c < length table)) (λ (row : Vec ℕ Global). row.items) table are in
          let row = All-get_or (All (λ (c : ℕ). c < length table)) (rows table) class [] here all in
          rw count (All-contains (λ (c : ℕ). c < length table) (parents_of (rows table) class) p row has))
    ]

pub ancestor_within : (parents : List (List ℕ)) → Within parents → (x class : ℕ) → IsAncestor parents x class → x < length parents
ancestor_within parents within x class (parent _ _ has) = within class x has
ancestor_within parents within x class (beyond _ middle _ has rest) = ancestor_within parents within x middle rest

pub linear_within : (parents : List (List ℕ)) → Within parents → (class : ℕ) (list : List ℕ) → class < length parents
    → IsLinearisation parents class list → All (λ x. x < length parents) list
linear_within parents within class list here is = λ k d h.
    let x = get_or list k d in
    let a : IsAtOrAbove parents x class = (linear_members parents class list is x).0 (Contains-get_or list k d h) in
    elim a [ inl e ↦ rw e here | inr s ↦ ancestor_within parents within x class s ]

-- the classes of a row that is read
pub row_within : (table : List (Vec ℕ Global)) → AreClasses table → (class : ℕ) (row : Vec ℕ Global) → class < length table → row ≡ get_or table class row
    → All (λ (c : ℕ). c < length table) row.items
row_within table are class row here is =
    let P : Vec ℕ Global → Type 0 = λ r. All (λ (c : ℕ). c < length table) r.items in
    subst P (sym is) (are class row here)
