-- What holds of each node that stands in a class holds everywhere in its parts.
use Rattle.std.proofs.Common.{◌≡◌, ℕ, ◌+◌, ◌<◌, ◌≤◌, length, take, get_or, List, Some, refl, sym, subst, ◌∙◌}
use Rattle.std.proofs.lemmas.List.Elements.{All-weaker, All-contains, All-contains_itself, All-get_or, All-more}
use Rattle.std.proofs.lemmas.List.{take_all}
use Rattle.std.specs.Prelude.{Bool, true, false, IsTrue, ◌↔◌}
use Rattle.std.specs.List.{All, Contains}
use Rattle.ty_prog.specs.declared.class.Class.{Class}
use Rattle.ty_prog.specs.declared.expr.Expr.{Expr}
use Rattle.ty_prog.specs.declared.method.Method.{Method}
use Rattle.ty_prog.specs.Tree.{Tree, ExprTree, ConstructorTree}
use Rattle.ty_walk.proofs.Spreading.{some_injective}
use Rattle.ty_walk.specs.Everywhere.{Everywhere, StandsIn, in_constructor, in_cell, in_method, AllNodesOf}
use Rattle.ty_walk.specs.Parts.{KeptInCell, KeptInMethod}

module _ (P : Tree → Type 0) where
  pub with_body : (method : Method) (body : Expr) → method.body ≡ Some body → Everywhere P (ExprTree body) → KeptInMethod P method
  with_body method body is kept =
      record { each = λ other there. subst (λ e. Everywhere P (ExprTree e)) (some_injective body other (sym is ∙ there)) kept }

  module _ (class : Class) where
    pub in_its_constructor : AllNodesOf P class → Everywhere P (ConstructorTree class)
    in_its_constructor all = record { each = λ place node is. all.each node (in_constructor place is) }

    pub in_its_cells : AllNodesOf P class → All (KeptInCell P) class.cells
    in_its_cells all =
        All-weaker (Contains class.cells) (KeptInCell P)
        (λ cell has. record { each = λ place node is. all.each node (in_cell cell place has is) }) class.cells (All-contains_itself class.cells)

    pub in_its_methods : AllNodesOf P class → All (KeptInMethod P) class.methods
    in_its_methods all =
        All-weaker (Contains class.methods) (KeptInMethod P)
        (λ method has. record { each = λ body there. record { each = λ place node is. all.each node (in_method method body place has there is) } })
        class.methods (All-contains_itself class.methods)

    at_part : Everywhere P (ConstructorTree class) → All (KeptInCell P) class.cells → All (KeptInMethod P) class.methods
        → (node : Tree) → StandsIn class node → P node
    at_part constructor cells methods node (in_constructor place is) = constructor.each place node is
    at_part constructor cells methods node (in_cell cell place has is) =
        (All-contains (KeptInCell P) class.cells cell cells has).each place node is
    at_part constructor cells methods node (in_method method body place has there is) =
        ((All-contains (KeptInMethod P) class.methods method methods has).each body there).each place node is

    pub in_its_parts : Everywhere P (ConstructorTree class) → All (KeptInCell P) class.cells → All (KeptInMethod P) class.methods
        → AllNodesOf P class
    in_its_parts constructor cells methods = record { each = at_part constructor cells methods }

-- answers that say as much
pub told_as_much : {A B : Type 0} → (A → B) → (B → A) → (answer : Bool) → IsTrue answer ↔ A → IsTrue answer ↔ B
told_as_much to from answer told = (λ h. to (told.0 h), λ b. told.1 (from b))

pub broken_in_part : (A B : Type 0) → (B → A) → (answer : Bool) → IsTrue answer ↔ A → answer ≡ false → IsTrue false ↔ B
broken_in_part A B part answer told breaks = (λ h. absurd (cc), λ all. let kept : answer ≡ true = told.1 (part all) in cc)

-- the steps of a loop over items each of which has an answer
module _ {X : Type 0} (P : X → Type 0) (xs : List X) (i : ℕ) where
  pub broken_at_item : (x : X) (answer : Bool) → i < length xs → x ≡ get_or xs i x → (IsTrue answer ↔ P x) → answer ≡ false → IsTrue false ↔ All P xs
  broken_at_item x answer within is told breaks =
      (λ h. absurd (cc), λ all. let kept : answer ≡ true = told.1 (subst P (sym is) (All-get_or P xs i x within all)) in cc)

  pub kept_at_item : (x : X) (answer : Bool) → i < length xs → x ≡ get_or xs i x → (IsTrue answer ↔ P x) → answer ≡ true
      → All P (take i xs) → All P (take (i + 1) xs)
  kept_at_item x answer within is told kept all = All-more P xs i x within all (subst P is (told.0 kept))

  pub kept_at_each : length xs ≤ i → All P (take i xs) → IsTrue true ↔ All P xs
  kept_at_each past all = (λ h. subst (All P) (take_all i xs past) all, λ h. refl)
