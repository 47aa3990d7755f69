use Rattle.std.proofs.Common.{◌≡◌, ◌++◌, take}
use Rattle.std.specs.List.{flat_map}
use Rattle.cf_form.specs.Pool.{u2}
use Rattle.cf_write.proofs.interfaces.put_each_interface.Given as goal

abbrev pub invariant-loop-interface : goal.invariant-loop-interface
invariant-loop-interface l = l.into.items ≡ l.initial.into.items ++ flat_map u2 (take l.interface-index l.interfaces)
