use Rattle.std.proofs.Common.{◌≡◌, drop, length}
use Rattle.vm_state.specs.Methods.{are_arguments}
use Rattle.vm_state.proofs.selecting.are_arguments.Given as goal

abbrev pub invariant-loop-kind : goal.invariant-loop-kind
invariant-loop-kind l = record {
  left : l.left ≡ length (drop l.kind-index l.kinds);
  so_far : are_arguments (drop l.kind-index l.kinds) l.stack.values ≡ are_arguments l.kinds l.stack.values;
}
