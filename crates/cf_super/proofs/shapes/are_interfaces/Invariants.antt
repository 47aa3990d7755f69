use Rattle.std.proofs.Common.{take, true}
use Rattle.std.specs.List.{All}
use Rattle.cf_link.specs.Faults.{IsInterfaceAt}
use Rattle.cf_super.proofs.shapes.are_interfaces.Given as goal

abbrev pub invariant-loop-index : goal.invariant-loop-index
invariant-loop-index l = All (IsInterfaceAt l.files true l.file) (take l.index-index l.file.interfaces)
