use Rattle.cf_set.proofs.Missing.{NoneMissing}
use Rattle.cf_set.proofs.class_names.first_missing.Given as goal

abbrev pub invariant-loop-i : goal.invariant-loop-i
invariant-loop-i l = NoneMissing l.files l.i
