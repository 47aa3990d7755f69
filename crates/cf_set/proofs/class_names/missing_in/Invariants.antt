use Rattle.cf_set.specs.First.{LacksAt, NoneBefore}
use Rattle.cf_set.proofs.class_names.missing_in.Given as goal

abbrev pub invariant-loop-i : goal.invariant-loop-i
invariant-loop-i l = NoneBefore (LacksAt l.names l.pool) l.i
