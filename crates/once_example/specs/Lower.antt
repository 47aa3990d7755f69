-- The same threads, where the cell is a field and a read is a loop of exchanges and latches.
use Rattle.std.specs.Prelude.{ℕ, zero, suc, List, [], ◌∷◌, ◌++◌, nat_eq, nat_le, ◌&&◌, if◌then◌else◌, Bool, true, false}
use Rattle.runs.specs.System.{Next, Goes, Waits, Ended, Stuck, System, put}

-- what the field holds
pub data Field : Type 0 where
  Null : Field
  Evaluating : Field
  Latched : (k : ℕ) → Field
  Value : (v : ℕ) → Field

-- where a thread stands, with the reads that are left
pub data Position : Type 0 where
  Look : (left : ℕ) → Position
  Claim : (left : ℕ) → Position
  Park : (left : ℕ) → Position
  Hang : (left k : ℕ) → Position
  Sleep : (left k : ℕ) → Position
  Body : (left : ℕ) → Position
  Store : (left said : ℕ) → Position
  Swap : (left said : ℕ) → Position
  Open : (left said k : ℕ) → Position
  Tell : (left said : ℕ) → Position

-- the field, how many latches were made and which are open, where each thread stands, and what was told
pub record State : Type 0 where
  pub field : Field
  pub made : ℕ
  pub opened : ℕ → Bool
  pub positions : ℕ → Position
  pub told : List (ℕ × ℕ)

-- what an initialiser that ended with this leaves in the field
abbrev pub stored : ℕ → Field
stored zero = Null
stored (suc v) = Value v

-- t goes on to this position, and all else stays
abbrev pub goes : State → ℕ → Position → Next State
goes s t position = Goes (record s { positions = put t position s.positions })

-- the same, with a new content of the field
abbrev pub writes : State → ℕ → Field → Position → Next State
writes s t field position = Goes (record s { field = field; positions = put t position s.positions })

-- a thread that sleeps on a latch goes on where it is open
abbrev pub sleep : State → ℕ → ℕ → Bool → Next State
sleep s t n false = Waits
sleep s t n true = goes s t (Look (suc n))

-- the next step of t, by its position and the field
abbrev pub step : (ℕ → ℕ) → State → ℕ → Position → Field → Next State
step ends s t (Look zero) field = Ended
step ends s t (Look (suc n)) Null = goes s t (Claim n)
step ends s t (Look (suc n)) Evaluating = goes s t (Park n)
step ends s t (Look (suc n)) (Latched k) = goes s t (Sleep n k)
step ends s t (Look (suc n)) (Value v) = goes s t (Tell n (suc v))
step ends s t (Claim n) Null = writes s t Evaluating (Body n)
step ends s t (Claim n) field = goes s t (Look (suc n))
step ends s t (Park n) field = Goes (record s { made = suc s.made; positions = put t (Hang n s.made) s.positions })
step ends s t (Hang n k) Evaluating = writes s t (Latched k) (Look (suc n))
step ends s t (Hang n k) field = goes s t (Look (suc n))
step ends s t (Sleep n k) field = sleep s t n (s.opened k)
step ends s t (Body n) field = goes s t (Store n (ends t))
step ends s t (Store n said) Evaluating = writes s t (stored said) (Tell n said)
step ends s t (Store n said) field = goes s t (Swap n said)
step ends s t (Swap n said) (Latched k) = writes s t (stored said) (Open n said k)
step ends s t (Swap n said) field = Stuck
step ends s t (Open n said k) field = Goes (record s { opened = put k true s.opened; positions = put t (Tell n said) s.positions })
step ends s t (Tell n said) field = Goes (record s { told = s.told ++ (t, said) ∷ []; positions = put t (Look n) s.positions })

-- it has claimed the cell, and hasn't given a result to the field yet
abbrev pub is_inside : Position → Bool
is_inside (Body n) = true
is_inside (Store n said) = true
is_inside (Swap n said) = true
is_inside other = false

-- its frame of the initialiser is still there
abbrev pub is_in_body : Position → Bool
is_in_body (Body n) = true
is_in_body other = false

-- it is about to open this latch
abbrev pub is_opening : Position → ℕ → Bool
is_opening (Open n said j) k = nat_eq j k
is_opening other k = false

-- it is about to open the latch that another sleeps on
abbrev pub opens_at : Position → Position → Bool
opens_at (Open n said k) (Sleep m j) = nat_eq k j
opens_at other position = false

-- the threads 1 to n, of which each makes so many reads
abbrev pub first_positions : ℕ → ℕ → ℕ → Position
first_positions n reads t = if nat_le 1 t && nat_le t n then Look reads else Look 0

-- the system of n threads
abbrev pub lower : (ℕ → ℕ) → ℕ → ℕ → System (ℕ × ℕ) (Unit {0}) State
lower ends n reads = record {
  first = record { field = Null; made = 0; opened = λ k. false; positions = first_positions n reads; told = [] };
  next = λ s t. step ends s t (s.positions t) s.field;
  inits = λ s t. 0;
  threads = λ s. n;
  trace = λ s. s.told;
  place = λ s t. tt;
  blocks = λ s t u. is_in_body (s.positions u);
  opens = λ s u t. opens_at (s.positions u) (s.positions t);
}
