use Rattle.std.proofs.Common.{◌≡◌, Some}
use Rattle.vm_state.specs.Methods.{code_of}
use Rattle.vm_local.specs.Batches.{after, AllStay}
use Rattle.vm_local.proofs.running.run_frame.Given as goal

abbrev pub invariant-loop-n : goal.invariant-loop-n
invariant-loop-n l = record {
  code : code_of l.k l.f.class l.f.method ≡ Some l.code;
  frame : l.f ≡ after l.k l.n l.initial.f;
  stay : AllStay l.k l.n l.initial.f;
}
