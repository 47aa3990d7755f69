use Rattle.std.proofs.Common.{◌≡◌, drop}
use Rattle.ty_typed.specs.Stands.{all_fit}
use Rattle.ty_typed.specs.Scopes.{within, classes_of}
use Rattle.ty_typed.specs.Parts.{types_of_each}
use Rattle.ty_typed.proofs.arguments.args_fit.Given as goal

abbrev pub invariant-loop-e : goal.invariant-loop-e
invariant-loop-e l =
    all_fit (classes_of l.scope) (within l.scope types_of_each (drop l.e-index l.args)) l.rest
    ≡ all_fit (classes_of l.scope) (within l.scope types_of_each l.args) l.wanted
