-- How a call goes whose words ask for nothing.
use Rattle.std.specs.Prelude.{◌≡◌, ◌⊎◌, List, []}
use Rattle.sl_io.specs.Files.{SameFiles}
use Rattle.sl_top.specs.declared.outcome.Outcome.{Outcome}
use Rattle.sl_top.specs.declared.outcome.Outcome.TheVariants.{Usage, Memory}
use Rattle.sl_top.specs.declared.finished.Finished.{Finished}
use Rattle.sl_top.specs.Outcome.{Told}
use Rattle.sl_top.specs.Outside.{ShelfSeen, SinkSeen, IsCalm, IsUntouched}

-- the usage is told, or memory runs out; nothing else happens
pub record IsUsage (shelf : ShelfSeen) (out err : SinkSeen) (finished : Finished) : Type 0 where
  pub outcome : Outcome
  pub ends : (outcome ≡ Usage) ⊎ (outcome ≡ Memory)
  pub told : Told outcome [] err finished.status
  pub quiet : IsUntouched out
  pub calm : IsCalm shelf
  pub unrun : finished.schedule ≡ []
  pub files : finished.files ≡ []
  pub nothing_put : SameFiles shelf.file shelf.file_after
