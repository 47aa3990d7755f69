-- What a new thread begins with, as the code tells it.
use Rattle.std.specs.Prelude.{List, Result, Ok, Err}
use Rattle.vm_state.specs.declared.frame.Frame.{Frame}
use Rattle.vm_state.specs.declared.outcomes.StuckKind.{StuckKind}
use Rattle.vm_state.specs.Natives.{Run, Begins, Cannot}

abbrev pub run_told : Result (List Frame) StuckKind → Run
run_told (Ok frames) = Begins frames
run_told (Err kind) = Cannot kind
