-- How a call of `check FILE` goes.
use Rattle.std.specs.Prelude.{◌≡◌, ℕ, ◌<◌, ◌≤◌, ◌⊎◌, List, [], length, encode_utf8_all, IsTrue, Option, None, Some}
use Rattle.sl_ast.specs.declared.unit.Unit as file_tree
use Rattle.sl_io.specs.Files.{SameFiles}
use Rattle.sl_source.specs.declared.refusal.Refusal.{Refusal}
use Rattle.sl_source.specs.Source as of_bytes
use Rattle.sl_top.specs.declared.outcome.Outcome.{Outcome}
use Rattle.sl_top.specs.declared.outcome.Outcome.TheVariants.{NotBuilt, Refused, ShelfFault, Memory, Missing, Long}
use Rattle.sl_top.specs.declared.finished.Finished.{Finished}
use Rattle.sl_top.specs.declared.source_file.TheConstants.{SOURCE_LIMIT}
use Rattle.sl_top.specs.Outcome.{Told}
use Rattle.sl_top.specs.Outside.{ShelfSeen, SinkSeen, IsCalm, IsUntouched}
use Rattle.sl_top.specs.Fetched.{IsSource, IsUnread}

-- what is found of the bytes of a source file: their tree, behind which nothing is built yet, or their first fault
pub data IsFound (bytes : List ℕ) : Outcome → Type 0 where
  not_built : {tree : file_tree.Unit} → of_bytes.IsSource bytes tree → IsFound bytes NotBuilt
  refused : {r : Refusal} → of_bytes.FirstFault bytes r → IsFound bytes (Refused r)

-- how the file of a name is checked: it wasn't had, or this is found of its bytes, or memory ran out
pub data IsChecked (shelf : ShelfSeen) (name : List ℕ) (outcome : Outcome) : Type 0 where
  unread : IsUnread outcome shelf name → IsChecked shelf name outcome
  found : {bytes : List ℕ} → IsCalm shelf → IsSource shelf.tells shelf.file name bytes → IsFound bytes outcome → IsChecked shelf name outcome
  forgotten : IsCalm shelf → outcome ≡ Memory → IsChecked shelf name outcome

-- the outcome that a file gives; None where there is no file
pub data IsDue : Option (List ℕ) → Outcome → Type 0 where
  missing : IsDue None Missing
  long : {bytes : List ℕ} → SOURCE_LIMIT < length bytes → IsDue (Some bytes) Long
  read : {bytes : List ℕ} {outcome : Outcome} → length bytes ≤ SOURCE_LIMIT → IsFound bytes outcome → IsDue (Some bytes) outcome

-- an outcome that yields to faults of the shelf and to want of memory alone
abbrev pub IsDueBut : Outcome → Outcome → Type 0
IsDueBut outcome due = (outcome ≡ due) ⊎ ((outcome ≡ ShelfFault) ⊎ (outcome ≡ Memory))

-- a call of `check FILE`: what is found and told of it; nothing is printed, run, put or handed out
pub record Checks (name : List ℕ) (shelf : ShelfSeen) (out err : SinkSeen) (finished : Finished) : Type 0 where
  pub outcome : Outcome
  pub checked : IsChecked shelf name outcome
  pub told : Told outcome (encode_utf8_all name) err finished.status
  pub quiet : IsUntouched out
  pub unrun : finished.schedule ≡ []
  pub files : finished.files ≡ []
  pub nothing_put : SameFiles shelf.file shelf.file_after
  -- where the shelf tells its files, the file gives the outcome, and so the status and the line
  pub exactly : IsTrue shelf.tells → (due : Outcome) → IsDue (shelf.file (encode_utf8_all name)) due → IsDueBut outcome due
