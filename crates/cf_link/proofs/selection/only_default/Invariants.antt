use Rattle.std.proofs.Common.{◌≡◌, ◌++◌, drop}
use Rattle.std.specs.Prelude.{option_to_list}
use Rattle.cf_link.specs.Selection.{defaults}
use Rattle.cf_link.proofs.selection.only_default.Given as goal

abbrev pub invariant-loop-class : goal.invariant-loop-class
invariant-loop-class l =
    defaults l.classes l.name l.descriptor l.line l.line ≡ option_to_list l.one ++ defaults l.classes l.name l.descriptor l.line (drop l.class-index l.line)
