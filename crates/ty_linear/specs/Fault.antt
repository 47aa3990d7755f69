-- What a fault says.
use Rattle.std.specs.Prelude.{ℕ, ⊤}
use Rattle.ty_linear.specs.declared.fault.LinearFault.{LinearFault}
use Rattle.ty_linear.specs.declared.fault.LinearFault.TheVariants.{Cyclic, Memory}

-- P holds of the class of a Cyclic
abbrev pub IfCyclic : LinearFault → (ℕ → Type 0) → Type 0
IfCyclic (Cyclic class) P = P class
IfCyclic Memory P = ⊤
