use Rattle.std.proofs.Common.{◌≡◌, drop}
use Rattle.ty_good.specs.Traits.{are_locals}
use Rattle.ty_good.proofs.traits.are_locals.Given as goal

abbrev pub invariant-loop-number : goal.invariant-loop-number
invariant-loop-number l =
    are_locals l.number (drop l.number l.args) ≡ are_locals 0 l.args
