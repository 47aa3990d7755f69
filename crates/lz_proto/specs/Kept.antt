-- What every state of the protocol keeps.
use Rattle.std.specs.Prelude.{◌≡◌, ℕ, ◌<◌, List, Bool, true, false, Option, length, get_or}
use Rattle.lz_proto.specs.declared.state.State.{State}
use Rattle.lz_proto.specs.declared.state.State.TheVariants.{Empty, Evaluating, Waiting, Done}
use Rattle.lz_proto.specs.declared.pos.Pos.{Pos}
use Rattle.lz_proto.specs.declared.pos.Pos.TheVariants.{Idle, Look, Claim, Body, Store, Take, Swap, Open, Mark, Install, Sleep, Got, Failed, Cycle}
use Rattle.lz_proto.specs.Protocol.{Protocol, content, position, thread, is_open, named}
use Rattle.lz_proto.specs.Once.{is_inside}

-- whose a latch is: it is an accessor's that is about to install it, a cell's, an accessor's that is about to open it, or nobody's, since it is open or not made
pub data Stage : Type 0 where
  Mine : (who : ℕ) → Stage
  Set : (c : ℕ) → Stage
  Going : (who : ℕ) → Stage
  Over : Stage

-- whether nobody runs the initialiser any more
abbrev pub is_over : Stage → Bool
is_over Over = true
is_over other = false

-- accessors of this cell may sleep on the latch
abbrev pub IsShared : ℕ → Stage → Type 0
IsShared c (Mine who) = ⊥
IsShared c (Set d) = d ≡ c
IsShared c (Going who) = Unit {0}
IsShared c Over = Unit {0}

-- the cell holds a latch
abbrev pub IsLatched : State → Type 0
IsLatched (Waiting latch) = Unit {0}
IsLatched other = ⊥

-- what an accessor at this position relies on, by the cells and the number of latches: its cell and latch are there, and the cell or the latch is still as it left it
abbrev pub Keeps : List State → ℕ → (ℕ → Stage) → ℕ → Pos → Type 0
Keeps cells made stage who Idle = Unit {0}
Keeps cells made stage who (Look c) = c < length cells
Keeps cells made stage who (Claim c) = c < length cells
Keeps cells made stage who (Body c) = c < length cells
Keeps cells made stage who (Store c r) = c < length cells
Keeps cells made stage who (Take c r) = (c < length cells) × IsLatched (get_or cells c Empty)
Keeps cells made stage who (Swap c r latch) = (c < length cells) × (get_or cells c Empty ≡ Waiting latch)
Keeps cells made stage who (Open latch r) = stage latch ≡ Going who
Keeps cells made stage who (Mark c t) = c < length cells
Keeps cells made stage who (Install c latch) = (c < length cells) × (stage latch ≡ Mine who)
Keeps cells made stage who (Sleep c latch) = (c < length cells) × (latch < made) × IsShared c (stage latch)
Keeps cells made stage who (Got v) = Unit {0}
Keeps cells made stage who Failed = Unit {0}
Keeps cells made stage who Cycle = Unit {0}

-- an accessor is inside the cell, and its thread is this
abbrev pub IsRunBy : Protocol → ℕ → ℕ → Type 0
IsRunBy p c t = (who : ℕ) × (is_inside c (position p who) ≡ true) × (thread p who ≡ t)

-- no accessor is inside the cell
abbrev pub IsIdle : Protocol → ℕ → Type 0
IsIdle p c = (who : ℕ) → is_inside c (position p who) ≡ false

-- a cell is evaluating or waiting exactly where an accessor is inside, and names its thread
abbrev pub IsRun : Protocol → ℕ → State → Type 0
IsRun p c Empty = IsIdle p c
IsRun p c (Evaluating t) = IsRunBy p c t
IsRun p c (Waiting latch) = IsRunBy p c (named p latch)
IsRun p c (Done v) = IsIdle p c

-- what is kept, where the latches are at these stages
pub record Holds (p : Protocol) (stage : ℕ → Stage) : Type 0 where
  pub threads : length p.threads ≡ length p.at
  pub owners : length p.owner ≡ length p.opened
  -- each accessor finds what it relies on
  pub keeps : (who : ℕ) → Keeps p.cells (length p.opened) stage who (position p who)
  -- each cell is run by one accessor at most, and named after it
  pub runs : (c : ℕ) → IsRun p c (content p c)
  pub one : (c who u : ℕ) → is_inside c (position p who) ≡ true → is_inside c (position p u) ≡ true → u ≡ who
  -- a latch is in one cell at most
  pub set : (latch c : ℕ) → stage latch ≡ Set c → content p c ≡ Waiting latch
  pub held : (c latch : ℕ) → content p c ≡ Waiting latch → stage latch ≡ Set c
  -- a latch that is about to be opened is so by the accessor that says so
  pub going : (latch who : ℕ) → stage latch ≡ Going who → (r : Option ℕ) × (position p who ≡ Open latch r)
  pub over : (latch : ℕ) → is_open p latch ≡ is_over (stage latch)

-- the same, for some stages
abbrev pub IsHeld : Protocol → Type 0
IsHeld p = (stage : ℕ → Stage) × Holds p stage

-- no accessor awaits a latch that names its own thread
abbrev pub IsApart : Protocol → Type 0
IsApart p = (who c latch : ℕ) → position p who ≡ Sleep c latch → named p latch ≡ thread p who → ⊥

-- what every state of the protocol keeps
abbrev pub IsKept : Protocol → Type 0
IsKept p = (stage : ℕ → Stage) × Holds p stage × IsApart p
