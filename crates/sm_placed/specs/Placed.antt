-- Where a context stands: at a node of its part, below the nodes of its levels, with as many operands as these keep.
use Rattle.std.specs.Prelude.{◌≡◌, ℕ, ◌+◌, ◌≤◌, ◌⊎◌, nat_eq, Bool, true, false, List, [], ◌∷◌, ◌++◌, length, Option, Some, None, slice_get}
use Rattle.std.specs.List.{AllByRecursion}
use Rattle.runs.specs.System.{Goes, Waits, Ended, Stuck}
use Rattle.ty_prog.specs.Tree.{Tree, children}
use Rattle.ty_prog.specs.Shape.{Shape, ExprShape, CaseShape, PatternShape, ConstructorShape, StageShape, ExprForm, PatternForm, shape}
use Rattle.ty_prog.specs.declared.catch.Catch.TheOpen.{Expr-F, Pattern-F}
use Rattle.ty_prog.specs.declared.program.Program.{Program}
use Rattle.sm_state.specs.declared.entry.Body.{Body}
use Rattle.sm_state.specs.declared.thread.Context.{Context}
use Rattle.sm_state.specs.declared.thread.Level.{Level}
use Rattle.sm_state.specs.declared.thread.Thread.{Thread}
use Rattle.sm_state.specs.declared.value.Value.{Value}
use Rattle.sm_state.specs.Entering.{body_of}
use Rattle.sm_rule.specs.Moves.{kept}
use Rattle.sm_rule.specs.Step.{After}

-- the node stands below the root: as the child that the innermost level tells of that level's node, and so on up
abbrev pub StandsBelow : Tree → Tree → List Level → Type 0
StandsBelow root node [] = node ≡ root
StandsBelow root node (l ∷ levels) = (slice_get (children l.node) l.child ≡ Some node) × StandsBelow root l.node levels

-- the place of the node at which these levels end, from the root on
abbrev pub place_of : List Level → List ℕ
place_of [] = []
place_of (l ∷ levels) = place_of levels ++ l.child ∷ []

-- whether an expression gets what an act gives as from a child of this number: the text of a value, or the object
-- that it has made
abbrev pub expr_awaits : ExprForm → ℕ → Bool
expr_awaits (Expr-F.TextOf e) i = nat_eq i 1
expr_awaits (Expr-F.Println e) i = nat_eq i 1
expr_awaits (Expr-F.New class []) i = nat_eq i 0
expr_awaits other i = false

-- the same of a pattern: the object that it compares with
abbrev pub pattern_awaits : PatternForm → ℕ → Bool
pattern_awaits (Pattern-F.Object class) i = nat_eq i 0
pattern_awaits other i = false

-- the same of a node of any form
abbrev pub awaits : Shape → ℕ → Bool
awaits (ExprShape e) i = expr_awaits e i
awaits (CaseShape c) i = false
awaits (PatternShape p) i = pattern_awaits p i
awaits (ConstructorShape class) i = false
awaits (StageShape s) i = false

-- the node gets what an act gives in this way, and stands below the root
abbrev pub AwaitsBelow : Tree → Tree → List Level → Type 0
AwaitsBelow root node [] = ⊥
AwaitsBelow root node (l ∷ levels) = (node ≡ l.node) × (awaits (shape l.node) l.child ≡ true) × StandsBelow root l.node levels

-- how many operands the nodes of these levels keep
abbrev pub kept_by : List Level → ℕ
kept_by [] = 0
kept_by (l ∷ levels) = kept (shape l.node) l.child + kept_by levels

-- the context is one of a part of the program, stands in the part's tree, has the operands that the nodes above keep, and
-- no fewer locals than the part
pub record PlacedIn (Stands : Tree → Tree → List Level → Type 0) (p : Program) (c : Context) : Type 0 where
  pub body : Body
  pub of_part : body_of p c.class c.part ≡ Some body
  pub stands : Stands body.node c.node c.levels
  pub operands : length c.operands ≡ kept_by c.levels
  pub locals : body.locals ≤ length c.locals

-- it stands at a node of the part
abbrev pub AtNode : Program → Context → Type 0
AtNode = PlacedIn StandsBelow

-- the node stands below the root, or is one that awaits what an act gives
abbrev pub StandsOrAwaits : Tree → Tree → List Level → Type 0
StandsOrAwaits root node levels = StandsBelow root node levels ⊎ AwaitsBelow root node levels

-- the same, or its node awaits what an act gives
abbrev pub Placed : Program → Context → Type 0
Placed = PlacedIn StandsOrAwaits

-- so all contexts of a thread, and the innermost one is at a node where neither a value nor an exception is handed up
abbrev pub ContextsPlaced : Program → List Context → Option Value → Option Value → Type 0
ContextsPlaced p [] value thrown = Unit {0}
ContextsPlaced p (c ∷ cs) value (Some x) = Placed p c × AllByRecursion (Placed p) cs
ContextsPlaced p (c ∷ cs) None None = AtNode p c × AllByRecursion (Placed p) cs
ContextsPlaced p (c ∷ cs) (Some v) None = Placed p c × AllByRecursion (Placed p) cs

-- the same of a thread
abbrev pub ThreadPlaced : Program → Thread → Type 0
ThreadPlaced p th = ContextsPlaced p th.contexts th.value th.thrown

-- the same of the thread that a move begins, if it begins one
abbrev pub BegunPlaced : Program → Option Thread → Type 0
BegunPlaced p None = Unit {0}
BegunPlaced p (Some th) = ThreadPlaced p th

-- what a move leaves stands so: its thread, and the one that it begins
abbrev pub AfterPlaced : Program → After → Type 0
AfterPlaced p (Goes x) = ThreadPlaced p x.thread × BegunPlaced p x.begun
AfterPlaced p Waits = Unit {0}
AfterPlaced p Ended = Unit {0}
AfterPlaced p Stuck = Unit {0}
