-- The names of the prelude's classes, each once.
use Rattle.std.proofs.Common.{◌≡◌, map, [], refl}
use Rattle.ty_prog.specs.Prelude.{prelude}
use Rattle.ty_member.specs.Names.{with_names}

pub all : with_names [] (map (λ c. c.name) prelude) ≡ map (λ c. c.name) prelude
all = refl
