use Rattle.std.proofs.Common.{◌≡◌}
use Rattle.std.specs.Prelude.{◌&&◌}
use Rattle.std.specs.List.{filter}
use Rattle.ty_linear.specs.Linear.{is_in}
use Rattle.cf_link.specs.Classes.{is_interface, line_of}
use Rattle.cf_link.specs.Layout.{numbers}
use Rattle.cf_link.proofs.tables.interfaces_of.Given as goal

abbrev pub invariant-loop-i : goal.invariant-loop-i
invariant-loop-i l =
    l.interfaces ≡ filter (λ i. is_interface l.classes i && is_in (line_of l.classes l.class) i) (numbers l.i)
