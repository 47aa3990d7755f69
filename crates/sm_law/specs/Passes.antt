-- What a lowering says of itself, and how contexts and threads of the lowered program then stand beside those of the
-- program.
use Rattle.std.specs.Prelude.{◌≡◌, ℕ, ◌+◌, ◌⊎◌, Bool, true, false, List, [], ◌∷◌, ◌++◌, length, Option, Some, None, slice_get}
use Rattle.ty_prog.specs.Tree.{Tree, children}
use Rattle.ty_prog.specs.Shape.{Shape, shape}
use Rattle.ty_prog.specs.declared.program.Program.{Program}
use Rattle.sm_state.specs.declared.entry.Body.{Body}
use Rattle.sm_state.specs.declared.entry.Entry.{Entry}
use Rattle.sm_state.specs.declared.part.Part.{Part}
use Rattle.sm_state.specs.declared.thread.Context.{Context}
use Rattle.sm_state.specs.declared.thread.Level.{Level}
use Rattle.sm_state.specs.declared.thread.Thread.{Thread}
use Rattle.sm_state.specs.declared.value.Value.{Value}
use Rattle.sm_state.specs.Entering.{body_of, entered}
use Rattle.sm_rule.specs.declared.moves.Move.{Move}
use Rattle.sm_rule.specs.Moves.{kept, caught}
use Rattle.sm_rule.specs.Step.{awaits_object}
use Rattle.sm_law.specs.Twins.{Frame, Rung, Twin, up_levels, up_kept, low_levels, low_kept, FramesKeep, NoneCatches, copy}

-- what a lowering says of itself. `class` and `part` are those of the program in which a node stands
pub record Pass (X : Type 0) : Type 1 where
  -- what a node became, where fresh locals begin at this number; and what is known of all nodes of the program
  pub Lows : (class : ℕ) → Part → ℕ → Tree → Tree → Type 0
  -- whether nodes of this shape are copied
  pub is_copied : (class : ℕ) → Part → Shape → Bool
  -- a level that isn't copied: its frames, the first fresh local below it, and what the locals of the lowered context hold
  pub Special : (class : ℕ) → Part → Rung → ℕ → List (Option Value) → Type 0
  -- quiet moves that the frames of such a level owe when a value comes up
  pub debt : Rung → ℕ
  -- the part, and `this` in it
  pub part_below : (class : ℕ) → Part → Part
  pub this_below : (class : ℕ) → Part → Value → Value
  -- the first number of a fresh local
  pub fresh : (class : ℕ) → Part → ℕ
  -- the locals of both contexts of a part on this object
  pub Agree : (class : ℕ) → Part → (this : Value) → List (Option Value) → List (Option Value) → Type 0
  -- whether a part is entered at both roots, and whether both contexts are left alike
  pub is_entered : (class : ℕ) → Part → Bool
  pub is_left : (class : ℕ) → Part → Bool
  -- the entry of a part that the lowered program enters otherwise
  pub Ahead : Entry → Entry → Type 0
  -- contexts of the lowered program alone
  pub extra : X → Context
  pub FitsExtra : X → Type 0

-- ---- contexts

-- the context of the program
abbrev pub up_context : Twin → Context
up_context w = record {
  class = w.class;
  part = w.part;
  this = w.this;
  node = w.node;
  levels = up_levels w.rungs;
  operands = up_kept w.rungs;
  locals = w.up_locals;
}

-- the context of the lowered program
abbrev pub low_context : {X : Type 0} → Pass X → Twin → Context
low_context P w = record {
  class = w.class;
  part = P.part_below w.class w.part;
  this = P.this_below w.class w.part w.this;
  node = w.low;
  levels = low_levels w.rungs;
  operands = low_kept w.rungs;
  locals = w.low_locals;
}

-- the same, further down: at another node, below these levels
abbrev pub low_deeper : {X : Type 0} → Pass X → Twin → Tree → List Level → List Value → Context
low_deeper P w node levels operands = record (low_context P w) { node = node; levels = levels; operands = operands }

-- the level does something with each exception from below, and so does a frame of it, but none further in
pub record CatchesBoth (r : Rung) : Type 0 where
  pub inner : List Frame
  pub at : Frame
  pub outer : List Frame
  pub under : r.under ≡ inner ++ at ∷ outer
  pub none : NoneCatches inner
  pub up : Value → Move
  pub low : Value → Move
  pub up_is : (x : Value) → caught r.child x (shape r.node) ≡ Some (up x)
  pub low_is : (x : Value) → caught at.child x (shape at.node) ≡ Some (low x)

-- neither the level nor a frame of it does anything with an exception
abbrev pub CatchesNone : Rung → Type 0
CatchesNone r = NoneCatches r.under × ((x : Value) → caught r.child x (shape r.node) ≡ None)

-- the level is copied, or told by the pass; fresh locals below it begin at n
abbrev pub RungFits : {X : Type 0} → Pass X → ℕ → Part → Rung → ℕ → List (Option Value) → Type 0
RungFits P class part r n locals =
    ((P.is_copied class part (shape r.node) ≡ true) × (r.under ≡ copy r) × (n ≡ r.free))
    ⊎ ((P.is_copied class part (shape r.node) ≡ false) × P.Special class part r n locals × (CatchesNone r ⊎ CatchesBoth r))

-- the node is the child that the innermost rung tells of
abbrev pub IsChild : Tree → List Rung → Type 0
IsChild node [] = Unit {0}
IsChild node (r ∷ rs) = slice_get (children r.node) r.child ≡ Some node

-- the rungs fit, one above the other; fresh locals below them begin at n
abbrev pub Chain : {X : Type 0} → Pass X → ℕ → Part → List (Option Value) → ℕ → List Rung → Type 0
Chain P class part locals n [] = n ≡ P.fresh class part
Chain P class part locals n (r ∷ rs) =
    P.Lows class part r.free r.node r.low
    × IsChild r.node rs
    × (length r.kept ≡ kept (shape r.node) r.child)
    × FramesKeep r.under
    × RungFits P class part r n locals
    × Chain P class part locals r.free rs

-- the node of the second is what that of the first became, and stands below the rungs
abbrev pub AtNode : {X : Type 0} → Pass X → Twin → Type 0
AtNode P w = P.Lows w.class w.part w.free w.node w.low × IsChild w.node w.rungs

-- both contexts belong together, whatever their nodes are: a value or an exception comes to them. `main` is at its root until
-- its object is there
pub record TwinFits {X : Type 0} (P : Pass X) (w : Twin) : Type 0 where
  pub chain : Chain P w.class w.part w.low_locals w.free w.rungs
  pub agree : P.Agree w.class w.part w.this w.up_locals w.low_locals
  pub main : awaits_object w.this w.part ≡ true → (w.rungs ≡ []) × AtNode P w

-- ---- threads

-- what stands in a thread: two contexts; one of the lowered program alone; or two that are entered otherwise
pub data Pair (X : Type 0) : Type 0 where
  Plain : (w : Twin) → Pair X
  Extra : (x : X) → Pair X
  Before : (entry : Entry) (body : Body) (low_entry : Entry) (low_body : Body) → Pair X

-- the contexts of the program
abbrev pub ups : {X : Type 0} → List (Pair X) → List Context
ups [] = []
ups (Plain w ∷ es) = up_context w ∷ ups es
ups (Extra x ∷ es) = ups es
ups (Before e b f c ∷ es) = entered e b ∷ ups es

-- the contexts of the lowered program
abbrev pub lows : {X : Type 0} → Pass X → List (Pair X) → List Context
lows P [] = []
lows P (Plain w ∷ es) = low_context P w ∷ lows P es
lows P (Extra x ∷ es) = P.extra x ∷ lows P es
lows P (Before e b f c ∷ es) = entered f c ∷ lows P es

-- they belong together
abbrev pub PairFits : {X : Type 0} → Pass X → Program → Program → Pair X → Type 0
PairFits P p q (Plain w) = TwinFits P w
PairFits P p q (Extra x) = P.FitsExtra x
PairFits P p q (Before e b f c) = P.Ahead e f × (body_of p e.class e.part ≡ Some b) × (body_of q f.class f.part ≡ Some c)

-- so do all of a list
abbrev pub AllFit : {X : Type 0} → Pass X → Program → Program → List (Pair X) → Type 0
AllFit P p q [] = Unit {0}
AllFit P p q (e ∷ es) = PairFits P p q e × AllFit P p q es

-- two threads, by what stands in them and what both hand up
pub record Threads (X : Type 0) : Type 0 where
  pub pairs : List (Pair X)
  pub value : Option Value
  pub thrown : Option Value

-- the thread of the program
abbrev pub up_thread : {X : Type 0} → Threads X → Thread
up_thread g = record { contexts = ups g.pairs; value = g.value; thrown = g.thrown }

-- the thread of the lowered program
abbrev pub low_thread : {X : Type 0} → Pass X → Threads X → Thread
low_thread P g = record { contexts = lows P g.pairs; value = g.value; thrown = g.thrown }

-- where nothing is handed up, the innermost contexts are at their nodes
abbrev pub TopAtNode : {X : Type 0} → Pass X → List (Pair X) → Option Value → Option Value → Type 0
TopAtNode P (Plain w ∷ es) None None = AtNode P w
TopAtNode P _ _ _ = Unit {0}

-- two threads belong together
abbrev pub ThreadsFit : {X : Type 0} → Pass X → Program → Program → Threads X → Type 0
ThreadsFit P p q g = AllFit P p q g.pairs × TopAtNode P g.pairs g.value g.thrown

-- ---- what frames owe

-- what a level that isn't copied owes
abbrev pub rung_debt : Bool → ℕ → ℕ
rung_debt true n = 0
rung_debt false n = n

-- what the levels of a context owe
abbrev pub rungs_debt : {X : Type 0} → Pass X → ℕ → Part → List Rung → ℕ
rungs_debt P class part [] = 0
rungs_debt P class part (r ∷ rs) = rung_debt (P.is_copied class part (shape r.node)) (P.debt r) + rungs_debt P class part rs

-- what a thread owes
abbrev pub debts : {X : Type 0} → Pass X → List (Pair X) → ℕ
debts P [] = 0
debts P (Plain w ∷ es) = rungs_debt P w.class w.part w.rungs + debts P es
debts P (e ∷ es) = debts P es
