-- Cells, latches and accessors, each by its number.
use Rattle.std.specs.Prelude.{ℕ, List, Bool, true, get_or}
use Rattle.lz_proto.specs.declared.state.State.{State}
use Rattle.lz_proto.specs.declared.state.State.TheVariants as state
use Rattle.lz_proto.specs.declared.pos.Pos.{Pos}
use Rattle.lz_proto.specs.declared.pos.Pos.TheVariants as pos

-- what each cell holds; whether each latch is open, and which thread it names; where each accessor stands, and its thread; how many latches may still be made
pub record Protocol : Type 0 where
  pub cells : List State
  pub opened : List Bool
  pub owner : List ℕ
  pub at : List Pos
  pub threads : List ℕ
  pub spare : ℕ

module _ (p : Protocol) where
  -- what a cell holds
  abbrev pub content : ℕ → State
  content c = get_or p.cells c state.Empty

  -- where an accessor stands
  abbrev pub position : ℕ → Pos
  position who = get_or p.at who pos.Idle

  -- the thread of an accessor
  abbrev pub thread : ℕ → ℕ
  thread who = get_or p.threads who 0

  -- whether a latch is open
  abbrev pub is_open : ℕ → Bool
  is_open latch = get_or p.opened latch true

  -- the thread that a latch names
  abbrev pub named : ℕ → ℕ
  named latch = get_or p.owner latch 0
