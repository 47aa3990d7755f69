-- A context of a program beside one of the lowered program: the nodes at which both stand, and the levels above them. Each
-- level of the program stands beside some of the lowered one.
use Rattle.std.specs.Prelude.{◌≡◌, ℕ, List, [], ◌∷◌, ◌++◌, length, Option, None}
use Rattle.ty_prog.specs.Tree.{Tree}
use Rattle.ty_prog.specs.Shape.{shape}
use Rattle.sm_state.specs.declared.part.Part.{Part}
use Rattle.sm_state.specs.declared.thread.Level.{Level}
use Rattle.sm_state.specs.declared.value.Value.{Value}
use Rattle.sm_rule.specs.Moves.{kept, caught}

-- a level of the lowered program, with the operands that its node keeps
pub record Frame : Type 0 where
  pub node : Tree
  pub child : ℕ
  pub kept : List Value

-- a level of the program with its operands; what its node became, and the number of the first fresh local there; and the
-- frames that stand for it, the innermost first
pub record Rung : Type 0 where
  pub node : Tree
  pub low : Tree
  pub free : ℕ
  pub child : ℕ
  pub kept : List Value
  pub under : List Frame

-- a context of each program: the node of the first one, what it became, the first fresh local there, the rungs above, and the
-- locals of both
pub record Twin : Type 0 where
  pub class : ℕ
  pub part : Part
  pub this : Value
  pub node : Tree
  pub low : Tree
  pub free : ℕ
  pub rungs : List Rung
  pub up_locals : List (Option Value)
  pub low_locals : List (Option Value)

-- the levels of the program
abbrev pub up_levels : List Rung → List Level
up_levels [] = []
up_levels (r ∷ rs) = record { node = r.node; child = r.child } ∷ up_levels rs

-- the operands of the program
abbrev pub up_kept : List Rung → List Value
up_kept [] = []
up_kept (r ∷ rs) = r.kept ++ up_kept rs

-- frames as levels, on top of others
abbrev pub frames_levels : List Frame → List Level → List Level
frames_levels [] levels = levels
frames_levels (f ∷ fs) levels = record { node = f.node; child = f.child } ∷ frames_levels fs levels

-- their operands, on top of others
abbrev pub frames_kept : List Frame → List Value → List Value
frames_kept [] operands = operands
frames_kept (f ∷ fs) operands = f.kept ++ frames_kept fs operands

-- the levels of the lowered program
abbrev pub low_levels : List Rung → List Level
low_levels [] = []
low_levels (r ∷ rs) = frames_levels r.under (low_levels rs)

-- the operands of the lowered program
abbrev pub low_kept : List Rung → List Value
low_kept [] = []
low_kept (r ∷ rs) = frames_kept r.under (low_kept rs)

-- each frame keeps as many operands as its node does for its child
abbrev pub FramesKeep : List Frame → Type 0
FramesKeep [] = Unit {0}
FramesKeep (f ∷ fs) = (length f.kept ≡ kept (shape f.node) f.child) × FramesKeep fs

-- no frame does anything with an exception that comes from below
abbrev pub NoneCatches : List Frame → Type 0
NoneCatches [] = Unit {0}
NoneCatches (f ∷ fs) = ((x : Value) → caught f.child x (shape f.node) ≡ None) × NoneCatches fs

-- the frame of a copied level: the same child and the same operands
abbrev pub copy : Rung → List Frame
copy r = record { node = r.low; child = r.child; kept = r.kept } ∷ []
