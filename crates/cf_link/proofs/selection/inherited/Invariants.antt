use Rattle.std.proofs.Common.{◌≡◌, drop}
use Rattle.cf_link.specs.Selection.{inherited}
use Rattle.cf_link.proofs.selection.inherited.Given as goal

abbrev pub invariant-loop-class : goal.invariant-loop-class
invariant-loop-class l =
    inherited l.classes l.name l.descriptor (drop l.class-index l.chain) ≡ inherited l.classes l.name l.descriptor l.chain
