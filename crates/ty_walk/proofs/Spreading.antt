-- What holds everywhere in a tree holds at its root and everywhere in its children.
use Rattle.std.proofs.Common.{◌≡◌, ℕ, ◌<◌, ◌+◌, List, [], ◌∷◌, Option, Some, None, refl, ap, sym, subst, ◌∙◌, arith, ◌⊎◌, inl, inr}
use Rattle.std.proofs.lemmas.Option.{slice_get_within, slice_get_cases}
use Rattle.std.specs.Prelude.{Bool, true, false, IsTrue, ◌↔◌, slice_get, option_and_then}
use Rattle.ty_prog.specs.Tree.{Tree, children}
use Rattle.ty_prog.specs.Node.{tree_at}
use Rattle.ty_walk.specs.Everywhere.{Everywhere}

-- P holds everywhere in each child before this number
abbrev pub Before : (Tree → Type 0) → Tree → ℕ → Type 0
Before P tree i = (j : ℕ) (part : Tree) → j < i → slice_get (children tree) j ≡ Some part → Everywhere P part

one_of : {A : Type 0} (o : Option A) → (o ≡ None) ⊎ ((x : A) × (o ≡ Some x))
one_of None = inl refl
one_of (Some x) = inr (x, refl)

abbrev lacking : Option Tree
lacking = None

module _ (P : Tree → Type 0) (tree : Tree) where
  pub at_root : Everywhere P tree → P tree
  at_root all = all.each [] tree refl

  pub at_child : Everywhere P tree → (i : ℕ) (part : Tree) → slice_get (children tree) i ≡ Some part → Everywhere P part
  at_child all i part is = record {
    each = λ place node there. all.each (i ∷ place) node (ap (option_and_then (λ child. tree_at child place)) is ∙ there);
  }

  at_places : P tree → ((i : ℕ) (part : Tree) → slice_get (children tree) i ≡ Some part → Everywhere P part)
      → (place : List ℕ) (node : Tree) → tree_at tree place ≡ Some node → P node
  at_places root parts [] node is = let same : tree ≡ node = cc in subst P same root
  at_places root parts (i ∷ place) node is =
      elim (one_of (slice_get (children tree) i)) [
        | inl none ↦ absurd (let h : lacking ≡ Some node = sym (ap (option_and_then (λ child. tree_at child place)) none) ∙ is in cc)
        | inr one ↦
            let h : tree_at one.0 place ≡ Some node = sym (ap (option_and_then (λ child. tree_at child place)) one.1) ∙ is in
            (parts i one.0 one.1).each place node h
      ]

  pub spreads : P tree → ((i : ℕ) (part : Tree) → slice_get (children tree) i ≡ Some part → Everywhere P part) → Everywhere P tree
  spreads root parts = record { each = at_places root parts }

last_or_before : (j i : ℕ) → j < i + 1 → (j < i) ⊎ (j ≡ i)
last_or_before j i below = grind arith

pub some_injective : {A : Type 0} (x y : A) → Some x ≡ Some y → x ≡ y
some_injective x y h = cc

-- the number of a child is below that of no child
before_none : (trees : List Tree) (i j : ℕ) (part : Tree) → slice_get trees i ≡ None → slice_get trees j ≡ Some part → j < i
before_none trees i j part none is =
    elim ((slice_get_cases trees i).1) [
      | inl there ↦ absurd (let h : None ≡ Some there.0 = sym none ∙ there.2 in cc)
      | inr past ↦ omega (arith, past.0, slice_get_within trees j part is)
    ]

-- the steps of a walk over a tree that tests each node
module _ (holds : Tree → Bool) (tree : Tree) where
  abbrev pub Keeps : Tree → Type 0
  Keeps node = IsTrue (holds node)

  pub broken_at_root : holds tree ≡ false → IsTrue false ↔ Everywhere Keeps tree
  broken_at_root breaks = (λ h. absurd (cc), λ all. let kept : holds tree ≡ true = at_root Keeps tree all in cc)

  pub broken_at_child : (i : ℕ) (part : Tree) (answer : Bool) → slice_get (children tree) i ≡ Some part
      → (IsTrue answer ↔ Everywhere Keeps part) → answer ≡ false → IsTrue false ↔ Everywhere Keeps tree
  broken_at_child i part answer is told breaks =
      (λ h. absurd (cc), λ all. let kept : answer ≡ true = told.1 (at_child Keeps tree all i part is) in cc)

  pub kept_at_child : (i : ℕ) (part : Tree) (answer : Bool) → slice_get (children tree) i ≡ Some part
      → (IsTrue answer ↔ Everywhere Keeps part) → answer ≡ true → Before Keeps tree i → Before Keeps tree (i + 1)
  kept_at_child i part answer is told kept before j other below there =
      elim (last_or_before j i below) [
        | inl earlier ↦ before j other earlier there
        | inr last ↦
            let same : Some part ≡ Some other = sym is ∙ ap (slice_get (children tree)) (sym last) ∙ there in
            subst (Everywhere Keeps) (some_injective part other same) (told.0 kept)
      ]

  pub kept_throughout : holds tree ≡ true → (i : ℕ) → slice_get (children tree) i ≡ None → Before Keeps tree i → IsTrue true ↔ Everywhere Keeps tree
  kept_throughout kept i none before =
      (λ h. spreads Keeps tree kept (λ j part is. before j part (before_none (children tree) i j part none is) is), λ all. refl)
