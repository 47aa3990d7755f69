use Rattle.std.proofs.Common.{ℕ, ◌<◌, slice_index_or}
use Rattle.ty_prog.specs.declared.class.Class.{Class}
use Rattle.ty_complete.specs.Merged.{IsCarried}
use Rattle.ty_complete.proofs.linearised.all_carried.Given as goal

abbrev pub invariant-loop-number : goal.invariant-loop-number
invariant-loop-number l = (k : ℕ) (d : Class) → k < l.number → IsCarried l.classes k (slice_index_or l.classes k d)
