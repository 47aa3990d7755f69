-- What a contract sees of the outside over a call.
use Rattle.std.specs.Prelude.{◌≡◌, ℕ, List, Bool, Option}
use Rattle.sl_io.specs.Counts.{Rose, SameCounts}
use Rattle.sl_io.specs.Files.{Files}
use Rattle.sl_io.specs.Gains.{Gains, GainsFront}

-- a shelf: whether it told its files before the call, its files before and after, and each name's count of faults before and after
pub record ShelfSeen : Type 0 where
  pub tells : Bool
  pub file : Files
  pub file_after : Files
  pub before : List ℕ → ℕ
  pub after : List ℕ → ℕ

-- a sink: what it held, where it tells, and its count of faults, before and after
pub record SinkSeen : Type 0 where
  pub old : Option (List ℕ)
  pub new : Option (List ℕ)
  pub before : ℕ
  pub after : ℕ

-- a shelf that was `old` before the call and is `new` after it, by what its trait tells
abbrev pub shelf_over : {F : Type 0} → (F → Bool) → (F → Files) → (F → List ℕ → ℕ) → F → F → ShelfSeen
shelf_over tells file faults old new =
    record { tells = tells old; file = file old; file_after = file new; before = faults old; after = faults new }

-- the same of a sink
abbrev pub sink_over : {S : Type 0} → (S → Option (List ℕ)) → (S → ℕ) → S → S → SinkSeen
sink_over contents faults old new =
    record { old = contents old; new = contents new; before = faults old; after = faults new }

-- the shelf met no fault, at any name
abbrev pub IsCalm : ShelfSeen → Type 0
IsCalm shelf = SameCounts shelf.before shelf.after

-- the sink gained nothing, and met no fault
abbrev pub IsUntouched : SinkSeen → Type 0
IsUntouched sink = (sink.new ≡ sink.old) × (sink.after ≡ sink.before)

-- the text was written whole: the sink gained it, and met no fault
abbrev pub IsWritten : SinkSeen → List ℕ → Type 0
IsWritten sink text = Gains sink.old text sink.new × (sink.after ≡ sink.before)

-- a fault broke the writing off: the sink gained a front of the text, and its count of faults rose
abbrev pub IsBroken : SinkSeen → List ℕ → Type 0
IsBroken sink text = GainsFront sink.old text sink.new × Rose sink.before sink.after

-- want of memory cut the writing off: the sink gained a front of the text, and met no fault
abbrev pub IsCut : SinkSeen → List ℕ → Type 0
IsCut sink text = GainsFront sink.old text sink.new × (sink.after ≡ sink.before)
