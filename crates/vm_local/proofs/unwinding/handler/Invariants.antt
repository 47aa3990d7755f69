use Rattle.std.proofs.Common.{◌≡◌, drop}
use Rattle.vm_state.specs.Local.{handler}
use Rattle.vm_local.proofs.unwinding.handler.Given as goal

abbrev pub invariant-loop-h : goal.invariant-loop-h
invariant-loop-h l = handler l.k l.f l.e (drop l.h-index l.handlers) ≡ handler l.k l.f l.e l.handlers
