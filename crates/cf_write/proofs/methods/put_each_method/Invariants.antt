use Rattle.std.proofs.Common.{◌≡◌, ◌++◌, take}
use Rattle.std.specs.List.{flat_map}
use Rattle.cf_write.specs.Spelling.{method_bytes}
use Rattle.cf_write.proofs.methods.put_each_method.Given as goal

abbrev pub invariant-loop-method : goal.invariant-loop-method
invariant-loop-method l = l.into.items ≡ l.initial.into.items ++ flat_map (method_bytes l.name) (take l.method-index l.methods)
