-- The law of copied nodes: what it needs of a pass, and what it gives: both programs make the same move, to threads that
-- belong together again.
use Rattle.std.specs.Prelude.{◌≡◌, ℕ, ◌≤◌, ◌⊎◌, Bool, true, false, List, [], ◌∷◌, ◌++◌, ◌-◌, length, replicate, Option, Some, None, slice_get, slice_set}
use Rattle.runs.specs.System.{Goes, Waits, Stuck}
use Rattle.runs.specs.SharedHeap.{Stepped}
use Rattle.ty_prog.specs.Tree.{Tree, children}
use Rattle.ty_prog.specs.Shape.{Shape, ExprShape, CaseShape, PatternShape, ConstructorShape, StageShape, shape}
use Rattle.ty_prog.specs.declared.catch.Catch.TheOpen.{Expr-F}
use Rattle.ty_prog.specs.declared.class.Class.{Class}
use Rattle.ty_prog.specs.declared.program.Program.{Program}
use Rattle.ty_prog.specs.declared.stage.Stage.TheVariants as stage
use Rattle.sm_state.specs.declared.entry.Body.{Body}
use Rattle.sm_state.specs.declared.entry.Entry.{Entry}
use Rattle.sm_state.specs.declared.heap.Heap.{Heap}
use Rattle.sm_state.specs.declared.module.Module.TheVariants as modules
use Rattle.sm_state.specs.declared.part.Part.{Part}
use Rattle.sm_state.specs.declared.thread.Context.{Context}
use Rattle.sm_state.specs.declared.thread.Level.{Level}
use Rattle.sm_state.specs.declared.thread.Thread.{Thread}
use Rattle.sm_state.specs.declared.value.Value.{Value}
use Rattle.sm_state.specs.declared.value.Value.TheVariants as value
use Rattle.sm_state.specs.Entering.{body_of}
use Rattle.sm_state.specs.Layout.{made}
use Rattle.sm_rule.specs.declared.act.Act.{Act}
use Rattle.sm_rule.specs.declared.act.Act.TheVariants as act
use Rattle.sm_rule.specs.declared.answer.Answer.{Answer}
use Rattle.sm_rule.specs.declared.answer.Answer.TheVariants as answer
use Rattle.sm_rule.specs.declared.answer.Edit.TheVariants as edit
use Rattle.sm_rule.specs.declared.moves.Move.{Move}
use Rattle.sm_rule.specs.declared.moves.Move.TheVariants as move
use Rattle.sm_rule.specs.Edits.{edited}
use Rattle.sm_rule.specs.Moves.{Sight, sets_none, begun, received, passed, caught}
use Rattle.sm_rule.specs.Perform.{perform}
use Rattle.sm_rule.specs.Machine.{act_of}
use Rattle.sm_rule.specs.Step.{After, awaits_object, parameter, noted, dropped, is_replaced, uncaught}
use Rattle.sm_law.specs.Twins.{Rung, Twin, copy}
use Rattle.sm_law.specs.Passes.{Pass, up_context, low_context, low_deeper, AtNode, Pair, Plain, Threads, up_thread, low_thread, ThreadsFit, debts}

-- ---- shapes that make the same moves

-- the second constructor has the kind, the class parameters and the number of arguments for the superclass that the first
-- one has, and sets the reference of its object as that does
pub record AlikeClass (c d : Class) : Type 0 where
  pub kind : d.kind ≡ c.kind
  pub params : d.params ≡ c.params
  pub args : length d.super_args ≡ length c.super_args
  pub sets : sets_none d.body ≡ sets_none c.body

-- the second shape makes the moves of the first: it is the same, or that of such a constructor
abbrev pub Alike : Shape → Shape → Type 0
Alike (ConstructorShape c) s = (d : Class) × (s ≡ ConstructorShape d) × AlikeClass c d
Alike (ExprShape e) s = s ≡ ExprShape e
Alike (CaseShape c) s = s ≡ CaseShape c
Alike (PatternShape p) s = s ≡ PatternShape p
Alike (StageShape g) s = s ≡ StageShape g

-- what is a child of the first tree became one of the second, and neither has any other
abbrev pub ChildLows : {X : Type 0} → Pass X → ℕ → Part → ℕ → Option Tree → Option Tree → Type 0
ChildLows P class part n None None = Unit {0}
ChildLows P class part n (Some c) (Some d) = P.Lows class part n c d
ChildLows P class part n _ _ = ⊥

-- ---- what moves look at and change

-- a node of this shape makes the move, in a context on this object
pub data Makes (this : Value) (s : Shape) (m : Move) : Type 0 where
  ByBeginning : (sight : Sight) (here : sight.this ≡ this) (is : begun sight s ≡ m) → Makes this s m
  ByReceiving : (i : ℕ) (v : Value) (operands : List Value) (is : received this i v operands s ≡ m) → Makes this s m
  ByPassing : (i : ℕ) (operands : List Value) (is : passed i operands s ≡ m) → Makes this s m
  ByCatching : (i : ℕ) (x : Value) (is : caught i x s ≡ Some m) → Makes this s m

-- a move of a copied node
pub record CopiedMove {X : Type 0} (P : Pass X) (w : Twin) (m : Move) : Type 0 where
  pub at : AtNode P w
  pub copied : P.is_copied w.class w.part (shape w.node) ≡ true
  pub makes : Makes w.this (shape w.node) m

-- the local that a move sets
abbrev pub local_set : Move → Option ℕ
local_set (move.Store local v gives) = Some local
local_set (move.Bind local v i) = Some local
local_set other = None

-- whether a move is one that constructors alone make
abbrev pub builds : Move → Bool
builds move.Embody = true
builds (move.Advance i) = true
builds (move.Publish i) = true
builds other = false

-- the local that a node of this shape reads when it begins as a child of this number
abbrev pub local_read : ℕ → Shape → Option ℕ
local_read i (ExprShape (Expr-F.Local local)) = Some local
local_read i (StageShape (stage.Parameter field)) = Some i
local_read i other = None

-- whether a node of this shape looks at `this`
abbrev pub names_this : Shape → Bool
names_this (ExprShape Expr-F.This) = true
names_this (ExprShape (Expr-F.SuperCall after name args)) = true
names_this (ConstructorShape class) = true
names_this (StageShape stage) = true
names_this other = false

-- two lists have the same first item, or both have none
abbrev pub SameTop : List Value → List Value → Type 0
SameTop (v ∷ vs) (u ∷ us) = u ≡ v
SameTop [] [] = Unit {0}
SameTop _ _ = ⊥

-- what a node of this shape that begins sees of the nodes above it is the same in the second sight
abbrev pub SeesAlike : Sight → Sight → Shape → Type 0
SeesAlike a b (CaseShape c) = SameTop a.operands b.operands
SeesAlike a b (PatternShape p) = SameTop a.operands b.operands
SeesAlike a b (StageShape s) = (b.child ≡ a.child) × (b.operands ≡ a.operands)
SeesAlike a b (ExprShape e) = Unit {0}
SeesAlike a b (ConstructorShape c) = Unit {0}

-- the innermost rung, if there is one, is that of a copied node
abbrev pub TopCopied : {X : Type 0} → Pass X → (class : ℕ) → Part → List Rung → Type 0
TopCopied P class part [] = Unit {0}
TopCopied P class part (r ∷ rs) = (P.is_copied class part (shape r.node) ≡ true) × (r.under ≡ copy r)

-- contexts are left in both lists or in none
abbrev pub EndTogether : List Context → List Context → Type 0
EndTogether [] [] = Unit {0}
EndTogether (c ∷ cs) (d ∷ ds) = Unit {0}
EndTogether _ _ = ⊥

-- ---- what comes of an act

-- the second entry is that of the first one's part in the lowered program, or one that the pass tells
abbrev pub EntryFits : {X : Type 0} → Pass X → Entry → Entry → Type 0
EntryFits P e f =
    ((P.is_entered e.class e.part ≡ true)
    × (f ≡ record { class = e.class; part = P.part_below e.class e.part; this = P.this_below e.class e.part e.this; args = e.args }))
    ⊎ P.Ahead e f

-- so do entries that may not be there
abbrev pub EntriesFit : {X : Type 0} → Pass X → Option Entry → Option Entry → Type 0
EntriesFit P None None = Unit {0}
EntriesFit P (Some e) (Some f) = EntryFits P e f
EntriesFit P _ _ = ⊥

-- the second answer is the first one's in the lowered program, and the heaps that they leave belong together
abbrev pub SameAnswer : {X : Type 0} → Pass X → (Heap → Heap → Type 0) → Heap → Heap → Answer → Answer → Type 0
SameAnswer P Heaps h k (answer.Gives d v) (answer.Gives e w) = (w ≡ v) × Heaps (edited d h) (edited e k)
SameAnswer P Heaps h k (answer.Enters d a) (answer.Enters e b) = EntryFits P a b × Heaps (edited d h) (edited e k)
SameAnswer P Heaps h k (answer.Starts d a) (answer.Starts e b) = EntriesFit P a b × Heaps (edited d h) (edited e k)
SameAnswer P Heaps h k (answer.Throws c m) (answer.Throws d n) = (d ≡ c) × (n ≡ m)
SameAnswer P Heaps h k answer.Waits answer.Waits = Unit {0}
SameAnswer P Heaps h k answer.Wrong other = Unit {0}
SameAnswer P Heaps h k _ _ = ⊥

-- ---- what the law needs of a pass. Heaps that belong together are told apart from the pass, so that it may take them at a
-- state of its own

-- what a pass proves of its two programs
pub record Laws {X : Type 0} (P : Pass X) (Heaps : Heap → Heap → Type 0) (p q : Program) : Type 0 where
  -- a copied node makes the moves that it made, and its children are what the children became
  pub copied : (class : ℕ) (part : Part) (n : ℕ) (e f : Tree) → P.Lows class part n e f → P.is_copied class part (shape e) ≡ true
      → Alike (shape e) (shape f) × ((i : ℕ) → ChildLows P class part n (slice_get (children e) i) (slice_get (children f) i))
  -- what it reads of locals and of `this` is the same
  pub reads : (w : Twin) (i x : ℕ) → AtNode P w → P.is_copied w.class w.part (shape w.node) ≡ true → local_read i (shape w.node) ≡ Some x
      → P.Agree w.class w.part w.this w.up_locals w.low_locals → slice_get w.low_locals x ≡ slice_get w.up_locals x
  pub this_is : (class : ℕ) (part : Part) (s : Shape) (this : Value) → P.is_copied class part s ≡ true → names_this s ≡ true
      → P.this_below class part this ≡ this
  pub object_is : (w : Twin) (m : Move) (v : Value) → CopiedMove P w m → builds m ≡ true → P.this_below w.class w.part v ≡ v
  -- what it sets is of no concern to others
  pub sets : (w : Twin) (m : Move) (x : ℕ) (v : Value) → CopiedMove P w m → local_set m ≡ Some x
      → P.Agree w.class w.part w.this w.up_locals w.low_locals
      → P.Agree w.class w.part w.this (slice_set w.up_locals x (Some v)) (slice_set w.low_locals x (Some v))
  pub keeps_special : (w : Twin) (m : Move) (x : ℕ) (v : Value) → CopiedMove P w m → local_set m ≡ Some x → (n : ℕ) (r : Rung)
      → P.Special w.class w.part r n w.low_locals → P.Special w.class w.part r n (slice_set w.low_locals x (Some v))
  -- the object of a constructor is made
  pub embodies : (w : Twin) (v : Value) → CopiedMove P w move.Embody → P.Agree w.class w.part w.this w.up_locals w.low_locals
      → P.Agree w.class w.part v w.up_locals w.low_locals
  -- its acts come out the same
  pub performs : (w : Twin) (m : Move) (a : Act) (t : ℕ) (h k : Heap) → CopiedMove P w m → act_of m ≡ Some a → Heaps h k
      → SameAnswer P Heaps h k (perform p h t a) (perform q k t a)
  -- new objects
  pub objects : (h k : Heap) → Heaps h k → length k.objects ≡ length h.objects
  pub makes : (class : ℕ) (first : Option Value) (h k : Heap) → Heaps h k
      → Heaps (edited (edit.AddObject (made p.classes class first)) h) (edited (edit.AddObject (made q.classes class first)) k)
  -- a part of a case class's object
  pub parameters : (w : Twin) (class i : ℕ) (of : Value) (h k : Heap) → CopiedMove P w (move.Open class i of) → Heaps h k
      → parameter q k class i of ≡ parameter p h class i of
  -- the reference of an object definition is set
  pub publishes : (w : Twin) (i t : ℕ) (h k : Heap) → CopiedMove P w (move.Publish i) → Heaps h k
      → Heaps (edited (edit.Module w.class (modules.Running t w.this)) h) (edited (edit.Module w.class (modules.Running t w.this)) k)
  -- parts are entered
  pub enters : (class : ℕ) (part : Part) (b : Body) → P.is_entered class part ≡ true → body_of p class part ≡ Some b
      → (c : Body) × (body_of q class (P.part_below class part) ≡ Some c) × P.Lows class part (P.fresh class part) b.node c.node
      × ((this : Value) (args : List (Option Value)) → P.Agree class part this (args ++ replicate (b.locals - length args) None) (args ++ replicate (c.locals - length args) None))
  pub ahead : (e f : Entry) (b : Body) → P.Ahead e f → body_of p e.class e.part ≡ Some b → (c : Body) × (body_of q f.class f.part ≡ Some c)
  -- the object of `main` is read by both, and is the same
  pub main_reads : (t : ℕ) (h k : Heap) → Heaps h k → SameAnswer P Heaps h k (perform p h t (act.ReadModule p.main)) (perform q k t (act.ReadModule q.main))
  pub main_is : (w : Twin) (v : Value) → awaits_object w.this w.part ≡ true
      → P.Agree w.class w.part w.this w.up_locals w.low_locals → (P.this_below w.class w.part v ≡ v) × P.Agree w.class w.part v w.up_locals w.low_locals
  pub awaits : (class : ℕ) (part : Part) (this : Value) → awaits_object (P.this_below class part this) (P.part_below class part) ≡ awaits_object this part
  -- parts are left, by a value or by an exception
  pub notes : (w : Twin) (v : Value) (h k : Heap) → P.is_left w.class w.part ≡ true → Heaps h k
      → Heaps (edited (noted p h (up_context w) v w.part) h) (edited (noted q k (low_context P w) v (P.part_below w.class w.part)) k)
  pub drops : (w : Twin) (node : Tree) (levels : List Level) (operands : List Value) (h k : Heap) → P.is_left w.class w.part ≡ true → Heaps h k
      → Heaps (edited (dropped p h (up_context w) w.part) h) (edited (dropped q k (low_deeper P w node levels operands) (P.part_below w.class w.part)) k)
  pub replaces : (w : Twin) (node : Tree) (levels : List Level) (operands : List Value) (x : Value) (h k : Heap) → P.is_left w.class w.part ≡ true → Heaps h k
      → is_replaced q k (low_deeper P w node levels operands) x (P.part_below w.class w.part) ≡ is_replaced p h (up_context w) x w.part
  pub reports : (t : ℕ) (x : Value) (h k : Heap) → Heaps h k → Heaps (edited (uncaught p h t x) h) (edited (uncaught q k t x) k)

-- ---- what the law gives

-- the threads that both begin, if they begin one
abbrev pub BornFit : {X : Type 0} → Pass X → Program → Program → Option Thread → Option Thread → Type 0
BornFit P p q None None = Unit {0}
BornFit {X = X} P p q (Some a) (Some b) =
    (g : Threads X) × (a ≡ up_thread g) × (b ≡ low_thread P g) × ThreadsFit P p q g × (debts P g.pairs ≡ 0)
BornFit P p q _ _ = ⊥

-- the innermost pair is one of this part, and its object is as it was or was made now
abbrev pub InPart : ℕ → Part → Value → Twin → Type 0
InPart class part this w = (w.class ≡ class) × (w.part ≡ part) × ((w.this ≡ this) ⊎ (this ≡ value.Null))

-- how the pairs go on from an innermost one of this part on this object: in that part; in one that it enters; or without it
abbrev pub GoesOn : {X : Type 0} → ℕ → Part → Value → List (Pair X) → List (Pair X) → Type 0
GoesOn {X = X} class part this es new =
    ((w : Twin) × InPart class part this w × (new ≡ Plain w ∷ es))
    ⊎ (((e : Pair X) × (w : Twin) × InPart class part this w × (new ≡ e ∷ Plain w ∷ es))
    ⊎ (new ≡ es))

-- both threads made their moves, and belong together
pub record Matched {X : Type 0} (P : Pass X) (Heaps : Heap → Heap → Type 0) (p q : Program) (most class : ℕ) (part : Part) (this : Value) (es : List (Pair X)) (x y : Stepped Heap Thread) : Type 0 where
  pub threads : Threads X
  pub up : x.thread ≡ up_thread threads
  pub low : y.thread ≡ low_thread P threads
  pub fit : ThreadsFit P p q threads
  pub heaps : Heaps x.heap y.heap
  pub born : BornFit P p q x.begun y.begun
  pub owed : debts P threads.pairs ≤ most
  pub how : GoesOn class part this es threads.pairs

-- both make the same move; where the program is stuck, nothing is said
abbrev pub Same : {X : Type 0} → Pass X → (Heap → Heap → Type 0) → Program → Program → (most class : ℕ) → Part → Value → List (Pair X) → After → After → Type 0
Same P Heaps p q most class part this es (Goes x) (Goes y) = Matched P Heaps p q most class part this es x y
Same P Heaps p q most class part this es Waits Waits = Unit {0}
Same P Heaps p q most class part this es Stuck other = Unit {0}
Same P Heaps p q most class part this es _ _ = ⊥
