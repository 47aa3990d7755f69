use Rattle.vm_local.proofs.moves.+insert.Given as goal

abbrev pub decreases-insert : goal.decreases-insert
decreases-insert l = l.under
