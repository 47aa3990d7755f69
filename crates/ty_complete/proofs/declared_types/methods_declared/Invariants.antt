use Rattle.std.proofs.Common.{◌≡◌, drop}
use Rattle.std.specs.List.{list_all}
use Rattle.ty_complete.specs.Complete.{method_declared}
use Rattle.ty_complete.proofs.declared_types.methods_declared.Given as goal

abbrev pub invariant-loop-method : goal.invariant-loop-method
invariant-loop-method l =
    list_all method_declared (drop l.method-index l.methods) ≡ list_all method_declared l.methods
