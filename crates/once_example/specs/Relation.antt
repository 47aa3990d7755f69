-- How a state with exchanges and latches is related to one with an atomic cell.
use Rattle.std.specs.Prelude.{◌≡◌, ℕ, zero, suc, ◌≤◌, Bool, true, false, nat_eq, if◌then◌else◌}
use Rattle.once_example.specs.Upper.{Cell, Empty, Running, Done, Task, Reads, Inside, Tells, is_running}
use Rattle.once_example.specs.Upper.{State as Above}
use Rattle.once_example.specs.Lower.{Field, Null, Evaluating, Latched, Value, Position, Look, Claim, Park, Hang, Sleep, Body, Store, Swap, Open, Tell, is_inside, is_opening}
use Rattle.once_example.specs.Lower.{State as Below}

-- what became of a latch
pub data Stage : Type 0 where
  Fresh : Stage
  Mine : (t : ℕ) → Stage
  Set : Stage
  Going : (t : ℕ) → Stage
  Over : Stage

-- what a thread at this position is at above
abbrev pub task_of : Position → Task
task_of (Look n) = Reads n
task_of (Claim n) = Reads (suc n)
task_of (Park n) = Reads (suc n)
task_of (Hang n k) = Reads (suc n)
task_of (Sleep n k) = Reads (suc n)
task_of (Body n) = Inside n
task_of (Store n said) = Inside n
task_of (Swap n said) = Inside n
task_of (Open n said k) = Tells n said
task_of (Tell n said) = Tells n said

-- the cell above, by the field
abbrev pub CellIs : Field → Cell → Type 0
CellIs Null cell = cell ≡ Empty
CellIs Evaluating cell = (u : ℕ) × cell ≡ Running u
CellIs (Latched k) cell = (u : ℕ) × cell ≡ Running u
CellIs (Value v) cell = cell ≡ Done v

-- the field holds a latch
abbrev pub IsLatched : Field → Type 0
IsLatched (Latched k) = Unit {0}
IsLatched other = ⊥

-- others may sleep on the latch
abbrev pub IsShared : Stage → Type 0
IsShared Fresh = ⊥
IsShared (Mine t) = ⊥
IsShared Set = Unit {0}
IsShared (Going t) = Unit {0}
IsShared Over = Unit {0}

-- what a thread at this position may rely on
abbrev pub Keeps : (ℕ → ℕ) → Field → (ℕ → Stage) → ℕ → Position → Type 0
Keeps ends field stage t (Hang n k) = stage k ≡ Mine t
Keeps ends field stage t (Sleep n k) = IsShared (stage k)
Keeps ends field stage t (Open n said k) = stage k ≡ Going t
Keeps ends field stage t (Store n said) = said ≡ ends t
Keeps ends field stage t (Swap n said) = (said ≡ ends t) × IsLatched field
Keeps ends field stage t other = Unit {0}

-- the latch stands in the field
abbrev pub is_set : Stage → Bool
is_set Set = true
is_set other = false

-- the latch is open
abbrev pub is_over : Stage → Bool
is_over Over = true
is_over other = false

-- the field holds this latch
abbrev pub holds : Field → ℕ → Bool
holds (Latched j) k = nat_eq j k
holds other k = false

-- what holds between related states
pub record Holds (ends : ℕ → ℕ) (x : Below) (y : Above) (stage : ℕ → Stage) : Type 0 where
  pub cells : CellIs x.field y.cell
  pub told : x.told ≡ y.told
  pub tasks : (t : ℕ) → y.tasks t ≡ task_of (x.positions t)
  pub runs : (t : ℕ) → is_inside (x.positions t) ≡ is_running y.cell t
  pub keeps : (t : ℕ) → Keeps ends x.field stage t (x.positions t)
  pub fresh : (k : ℕ) → x.made ≤ k → stage k ≡ Fresh
  pub set : (k : ℕ) → is_set (stage k) ≡ holds x.field k
  pub going : (k u : ℕ) → stage k ≡ Going u → is_opening (x.positions u) k ≡ true
  pub over : (k : ℕ) → x.opened k ≡ is_over (stage k)

-- related states, with what became of each latch
pub record Related (ends : ℕ → ℕ) : Type 0 where
  pub low : Below
  pub up : Above
  pub stage : ℕ → Stage
  pub holds : Holds ends low up stage

-- the steps that a thread may make before it waits or makes a move above
abbrev pub rank_at : Field → Position → ℕ
rank_at field (Look zero) = 0
rank_at Null (Look (suc n)) = 1
rank_at Evaluating (Look (suc n)) = 4
rank_at (Latched k) (Look (suc n)) = 1
rank_at (Value v) (Look (suc n)) = 0
rank_at Null (Claim n) = 0
rank_at Evaluating (Claim n) = 5
rank_at (Latched k) (Claim n) = 2
rank_at (Value v) (Claim n) = 1
rank_at Null (Park n) = 3
rank_at Evaluating (Park n) = 3
rank_at (Latched k) (Park n) = 3
rank_at (Value v) (Park n) = 2
rank_at Null (Hang n k) = 2
rank_at Evaluating (Hang n k) = 2
rank_at (Latched j) (Hang n k) = 2
rank_at (Value v) (Hang n k) = 1
rank_at Null (Sleep n k) = 2
rank_at Evaluating (Sleep n k) = 5
rank_at (Latched j) (Sleep n k) = if nat_eq j k then 0 else 2
rank_at (Value v) (Sleep n k) = 1
rank_at field (Body n) = 2
rank_at field (Store n said) = 1
rank_at field (Swap n said) = 0
rank_at field (Open n said k) = 1
rank_at field (Tell n said) = 0
