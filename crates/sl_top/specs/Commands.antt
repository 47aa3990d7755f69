-- How a call goes that carries out a request: a record for each command.
use Rattle.sl_top.specs.declared.request.Request.{Request}
use Rattle.sl_top.specs.declared.request.Request.TheVariants.{Run, Check}
use Rattle.sl_top.specs.declared.finished.Finished.{Finished}
use Rattle.sl_top.specs.Outside.{ShelfSeen, SinkSeen}
use Rattle.sl_top.specs.Check.{Checks}
use Rattle.sl_top.specs.Run.{Runs}

-- a call carries out a request: its command's own record holds of the shelf, the sinks and what is handed back
abbrev pub CarriesOut : Request → ShelfSeen → SinkSeen → SinkSeen → Finished → Type 0
CarriesOut (Check name) shelf out err finished = Checks name shelf out err finished
CarriesOut (Run name options) shelf out err finished = Runs name shelf out err finished
