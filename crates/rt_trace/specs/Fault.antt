-- What a fault says.
use Rattle.std.specs.Prelude.{ℕ, ⊤}
use Rattle.rt_trace.specs.declared.fault.TurnFault.{TurnFault}
use Rattle.rt_trace.specs.declared.fault.TurnFault.TheVariants.{Line, Memory}

-- P holds of the line of a Line
abbrev pub IfLine : TurnFault → (ℕ → Type 0) → Type 0
IfLine (Line line) P = P line
IfLine Memory P = ⊤
