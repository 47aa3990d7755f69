use Rattle.cf_set.proofs.Twice.{AreNamed}
use Rattle.cf_set.proofs.file_names.add_files.Given as goal

abbrev pub invariant-loop-i : goal.invariant-loop-i
invariant-loop-i l = AreNamed l.files l.i l.names
