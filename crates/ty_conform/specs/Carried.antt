-- That classes carry their linearisations.
use Rattle.std.specs.Prelude.{map}
use Rattle.ty_prog.specs.declared.program.Program.{Program}
use Rattle.ty_linear.specs.Linear.{AreLinearisations}

-- no class is its own ancestor, and each carries its linearisation (SLS 5.1.2)
abbrev pub HasLinearisations : Program → Type 0
HasLinearisations p = AreLinearisations (map (λ c. c.parents) p.classes) (map (λ c. c.linear) p.classes)
