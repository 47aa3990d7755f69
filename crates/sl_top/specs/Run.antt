-- How a call of `run FILE` goes.
use Rattle.std.specs.Prelude.{◌≡◌, ℕ, ◌<◌, ◌≤◌, List, [], length, encode_utf8_all, IsTrue, Option, None, Some, ◌⊎◌}
use Rattle.runs.specs.declared.Turn.{Turn}
use Rattle.sl_io.specs.Files.{SameFiles}
use Rattle.sl_top.specs.declared.chain.Chain.{Chain}
use Rattle.sl_top.specs.declared.outcome.Outcome.{Outcome}
use Rattle.sl_top.specs.declared.outcome.Outcome.TheVariants.{Printed, NotBuilt, OutFault, Memory}
use Rattle.sl_top.specs.declared.finished.Finished.{Finished}
use Rattle.sl_top.specs.declared.source_file.TheConstants.{SOURCE_LIMIT}
use Rattle.sl_top.specs.Outcome.{Told, schedule_at, Yields}
use Rattle.sl_top.specs.Listing.{IsListing}
use Rattle.sl_top.specs.Outside.{ShelfSeen, SinkSeen, IsCalm, IsUntouched, IsWritten, IsBroken, IsCut}
use Rattle.sl_top.specs.Fetched.{IsSource, IsUnread}
use Rattle.sl_top.specs.Printing.{IsNotBuilt, PrintsFile, one_turn}

-- why the file of a name isn't run: it is no listing, or it wasn't had
abbrev pub Cause : Outcome → ShelfSeen → List ℕ → Type 0
Cause NotBuilt shelf name =
    IsCalm shelf × ((bytes : List ℕ) × IsSource shelf.tells shelf.file name bytes × IsNotBuilt bytes)
Cause outcome shelf name = IsUnread outcome shelf name

-- the file isn't run, for this cause, and nothing is printed
pub record IsUnrun (outcome : Outcome) (name : List ℕ) (shelf : ShelfSeen) (out : SinkSeen) (schedule : List Turn) : Type 0 where
  pub cause : Cause outcome shelf name
  pub quiet : IsUntouched out
  pub none : schedule ≡ []

-- what becomes of the text of a run that is over; no other outcome comes then
abbrev pub EndsPrinting : Outcome → SinkSeen → List ℕ → Type 0
EndsPrinting Printed out text = IsWritten out text
EndsPrinting OutFault out text = IsBroken out text
EndsPrinting Memory out text = IsCut out text
EndsPrinting outcome out text = ⊥

-- the file is run, its text goes to `out`, and the schedule is that of the run
pub record IsRun (outcome : Outcome) (name : List ℕ) (shelf : ShelfSeen) (out : SinkSeen) (schedule : List Turn) : Type 0 where
  pub text : List ℕ
  pub steps : ℕ
  pub prints : PrintsFile shelf.tells shelf.file name text steps
  pub calm : IsCalm shelf
  pub printed : EndsPrinting outcome out text
  pub turns : schedule ≡ one_turn steps

-- the end of a run of the file of a name, before anything is told of it
abbrev pub EndsRun : Outcome → List ℕ → ShelfSeen → SinkSeen → List Turn → Type 0
EndsRun outcome name shelf out schedule = IsUnrun outcome name shelf out schedule ⊎ IsRun outcome name shelf out schedule

-- the status that a file gives, where neither the outside nor memory fails; None where there is no file
pub data IsDue : Option (List ℕ) → ℕ → Type 0 where
  missing : IsDue None 8
  long : {bytes : List ℕ} → SOURCE_LIMIT < length bytes → IsDue (Some bytes) 8
  not_built : {bytes : List ℕ} → length bytes ≤ SOURCE_LIMIT → IsNotBuilt bytes → IsDue (Some bytes) 4
  printed : {bytes : List ℕ} {chains : List Chain} → length bytes ≤ SOURCE_LIMIT → IsListing bytes chains
      → IsDue (Some bytes) 0

-- a call of `run FILE`: how it ends, what is told of that, and that no file is put or handed out
pub record Runs (name : List ℕ) (shelf : ShelfSeen) (out err : SinkSeen) (finished : Finished) : Type 0 where
  pub outcome : Outcome
  pub schedule : List Turn
  pub ends : EndsRun outcome name shelf out schedule
  pub told : Told outcome (encode_utf8_all name) err finished.status
  pub scheduled : finished.schedule ≡ schedule_at finished.status schedule
  pub files : finished.files ≡ []
  pub nothing_put : SameFiles shelf.file shelf.file_after
  -- where the shelf tells its files, the file gives the status
  pub exactly : IsTrue shelf.tells → (due : ℕ) → IsDue (shelf.file (encode_utf8_all name)) due → Yields finished.status due
