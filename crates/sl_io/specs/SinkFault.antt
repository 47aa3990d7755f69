-- A fact for one fault of a sink.
use Rattle.std.specs.Prelude.{Result, Ok, Err}
use Rattle.sl_io.specs.declared.sink.SinkFault.{SinkFault}
use Rattle.sl_io.specs.declared.sink.SinkFault.TheVariants.{Failed, Memory}

-- P holds where the outside failed
abbrev pub OnSinkFailed : {T : Type 0} → Result T SinkFault → Type 0 → Type 0
OnSinkFailed (Ok x) P = Unit {0}
OnSinkFailed (Err Failed) P = P
OnSinkFailed (Err Memory) P = Unit {0}

-- P holds where memory ran out
abbrev pub OnSinkMemory : {T : Type 0} → Result T SinkFault → Type 0 → Type 0
OnSinkMemory (Ok x) P = Unit {0}
OnSinkMemory (Err Failed) P = Unit {0}
OnSinkMemory (Err Memory) P = P
