use Rattle.std.proofs.Common.{◌≡◌, ◌++◌, drop}
use Rattle.std.specs.Prelude.{option_to_list}
use Rattle.ty_good.specs.Selection.{defaults}
use Rattle.ty_good.proofs.selection.only_default.Given as goal

abbrev pub invariant-loop-class : goal.invariant-loop-class
invariant-loop-class l =
    defaults l.classes l.wanted l.linear l.linear ≡ option_to_list l.one ++ defaults l.classes l.wanted l.linear (drop l.class-index l.linear)
