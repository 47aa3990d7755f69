-- The nodes of a placed context are nodes of its class.
use Rattle.std.proofs.Common.{◌≡◌, ℕ, ⊎_elim, List, [], ◌∷◌, Option, Some, None, option_map, Contains, slice_get, refl, ap, sym, subst}
use Rattle.std.proofs.lemmas.List.Elements.{Contains-get_or}
use Rattle.std.proofs.lemmas.Option.{get_or_from_slice_get, slice_get_within}
use Rattle.std.specs.List.{AllByRecursion}
use Rattle.std.specs.Option.{option_and_then}
use Rattle.ty_prog.specs.declared.class.Class.{Class}
use Rattle.ty_prog.specs.declared.cell.Cell.{Cell}
use Rattle.ty_prog.specs.declared.expr.Expr.{Expr}
use Rattle.ty_prog.specs.declared.method.Method.{Method}
use Rattle.ty_prog.specs.declared.program.Program.{Program}
use Rattle.ty_prog.specs.Node.{tree_at}
use Rattle.ty_prog.specs.Tree.{Tree, ExprTree, ConstructorTree}
use Rattle.ty_walk.specs.Everywhere.{StandsIn, in_constructor, in_cell, in_method}
use Rattle.sm_state.specs.declared.entry.Body.{Body}
use Rattle.sm_state.specs.declared.part.Part.{Part}
use Rattle.sm_state.specs.declared.part.Part.TheVariants as part
use Rattle.sm_state.specs.declared.thread.Context.{Context}
use Rattle.sm_state.specs.declared.thread.Level.{Level}
use Rattle.sm_state.specs.Entering.{method_body, cell_body, body_in}
use Rattle.sm_placed.specs.Nodes.{InClass}
use Rattle.sm_placed.specs.Placed.{StandsBelow, AwaitsBelow, StandsOrAwaits, place_of, Placed}
use Rattle.sm_placed.proofs.Reached.{stands_at}

contains_at : {X : Type 0} (xs : List X) (i : ℕ) (x : X) → slice_get xs i ≡ Some x → Contains xs x
contains_at xs i x e = subst (Contains xs) (get_or_from_slice_get xs i x x e) (Contains-get_or xs i x (slice_get_within xs i x e))

-- the tree of a body that is there
abbrev node_or : Tree → Option Body → Tree
node_or tree None = tree
node_or tree (Some b) = b.node

method_stands : (class : Class) (i : ℕ) (b : Body) (m : Method) → slice_get class.methods i ≡ Some m → (o : Option Expr) → m.body ≡ o
    → option_map (λ e. record { node = ExprTree e; locals = m.locals }) o ≡ Some b → (place : List ℕ) (node : Tree) → tree_at b.node place ≡ Some node → StandsIn class node
method_stands class i b m there None has is place node at = absurd (cc)
method_stands class i b m there (Some e) has is place node at =
    in_method m e place (contains_at class.methods i m there) has (subst (λ root. tree_at root place ≡ Some node) (sym (ap (node_or b.node) is)) at)

part_stands : (class : Class) (x : Part) (b : Body) → body_in class x ≡ Some b → (place : List ℕ) (node : Tree) → tree_at b.node place ≡ Some node → StandsIn class node
part_stands class (part.Method i) b = on (slice_get class.methods i) refl
  where
    on : (o : Option Method) → slice_get class.methods i ≡ o → option_and_then method_body o ≡ Some b → (place : List ℕ) (node : Tree) → tree_at b.node place ≡ Some node → StandsIn class node
    on None there is place node at = absurd (cc)
    on (Some m) there is place node at = method_stands class i b m there m.body refl is place node at
part_stands class (part.Init i) b = on (slice_get class.cells i) refl
  where
    on : (o : Option Cell) → slice_get class.cells i ≡ o → option_map cell_body o ≡ Some b → (place : List ℕ) (node : Tree) → tree_at b.node place ≡ Some node → StandsIn class node
    on None there is place node at = absurd (cc)
    on (Some cell) there is place node at = in_cell cell place (contains_at class.cells i cell there) (subst (λ root. tree_at root place ≡ Some node) (sym (ap (node_or b.node) is)) at)
part_stands class part.Constructor b = on
  where
    on : Some (record { node = ConstructorTree class; locals = class.locals }) ≡ Some b → (place : List ℕ) (node : Tree) → tree_at b.node place ≡ Some node → StandsIn class node
    on is place node at = in_constructor place (subst (λ root. tree_at root place ≡ Some node) (sym (ap (node_or b.node) is)) at)

module _ (class : Class) (x : Part) (b : Body) (is : body_in class x ≡ Some b) where
  node_stands : (node : Tree) (levels : List Level) → StandsBelow b.node node levels → StandsIn class node
  node_stands node levels stands = part_stands class x b is (place_of levels) node (stands_at b.node node levels stands)

  above_stand : (node : Tree) (levels : List Level) → StandsBelow b.node node levels → AllByRecursion (λ l. StandsIn class l.node) levels
  above_stand node [] stands = tt
  above_stand node (l ∷ levels) stands = (node_stands l.node levels stands.1, above_stand l.node levels stands.1)

  awaiting_stands : (node : Tree) (levels : List Level) → AwaitsBelow b.node node levels → StandsIn class node × AllByRecursion (λ l. StandsIn class l.node) levels
  awaiting_stands node [] awaits = absurd awaits
  awaiting_stands node (l ∷ levels) awaits =
      let here = node_stands l.node levels awaits.2 in
      (subst (StandsIn class) (sym awaits.0) here, (here, above_stand l.node levels awaits.2))

  all_stand : (node : Tree) (levels : List Level) → StandsOrAwaits b.node node levels → StandsIn class node × AllByRecursion (λ l. StandsIn class l.node) levels
  all_stand node levels stands = ⊎_elim (λ at. (node_stands node levels at, above_stand node levels at)) (λ awaits. awaiting_stands node levels awaits) stands

pub nodes_in : (p : Program) (c : Context) → Placed p c → InClass p c
nodes_in p c placed = on (slice_get p.classes c.class) refl placed.of_part
  where
    on : (o : Option Class) → slice_get p.classes c.class ≡ o → option_and_then (λ k. body_in k c.part) o ≡ Some placed.body → InClass p c
    on None there is = absurd (cc)
    on (Some class) there is =
        let all = all_stand class c.part placed.body is c.node c.levels placed.stands in
        record { class = class; is = there; node = all.0; above = all.1 }
