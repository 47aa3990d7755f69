-- How a call comes to its end, with its status and its line on `err`.
use Rattle.std.specs.Prelude.{◌≡◌, ◌==◌, ◌⊎◌, ℕ, List, [], ◌∷◌, ◌++◌, if◌then◌else◌, codes}
use Rattle.runs.specs.declared.Turn.{Turn}
use Rattle.sl_top.specs.declared.outcome.Outcome.{Outcome}
use Rattle.sl_top.specs.declared.outcome.Outcome.TheVariants.{Printed, NotBuilt, Refused, ShelfFault, OutFault, Usage, Memory, Missing, Long}
use Rattle.sl_top.specs.Refusals.{refusal_line}
use Rattle.sl_top.specs.Outside.{SinkSeen, IsWritten, IsBroken, IsCut}

-- the status of an outcome
abbrev pub status_of : Outcome → ℕ
status_of Printed = 0
status_of NotBuilt = 4
status_of (Refused r) = 4
status_of ShelfFault = 5
status_of OutFault = 5
status_of Usage = 6
status_of Memory = 7
status_of Missing = 8
status_of Long = 8

-- the line, with the file's name where it tells it; the empty text where the outcome has no line
abbrev pub line_of : Outcome → List ℕ → List ℕ
line_of Printed name = []
line_of NotBuilt name = name ++ (codes ": not built" ++ 10 ∷ [])
line_of (Refused r) name = refusal_line name r
line_of ShelfFault name = codes "fault: " ++ (name ++ 10 ∷ [])
line_of OutFault name = []
line_of Usage name = codes "usage: scalazy COMMAND FILE [OPTIONS]" ++ 10 ∷ []
line_of Memory name = codes "memory" ++ 10 ∷ []
line_of Missing name = codes "missing: " ++ (name ++ 10 ∷ [])
line_of Long name = codes "long: " ++ (name ++ 10 ∷ [])

-- whether an outcome has a line
abbrev pub HasLine : Outcome → Type 0
HasLine Printed = ⊥
HasLine NotBuilt = Unit {0}
HasLine (Refused r) = Unit {0}
HasLine ShelfFault = Unit {0}
HasLine OutFault = ⊥
HasLine Usage = Unit {0}
HasLine Memory = Unit {0}
HasLine Missing = Unit {0}
HasLine Long = Unit {0}

-- what is told of an outcome: the whole line, with its status; or a front of it, where `err` failed or memory ran out
abbrev pub Told : Outcome → List ℕ → SinkSeen → ℕ → Type 0
Told outcome name err status =
    (IsWritten err (line_of outcome name) × (status ≡ status_of outcome))
    ⊎ (HasLine outcome
    × ((IsBroken err (line_of outcome name) × (status ≡ 5)) ⊎ (IsCut err (line_of outcome name) × (status ≡ 7))))

-- the schedule that is handed out: that of the run, but after want of memory none
abbrev pub schedule_at : ℕ → List Turn → List Turn
schedule_at status schedule = if status == 7 then [] else schedule

-- a status that yields to faults and to want of memory alone
abbrev pub Yields : ℕ → ℕ → Type 0
Yields status due = (status ≡ due) ⊎ ((status ≡ 5) ⊎ (status ≡ 7))
