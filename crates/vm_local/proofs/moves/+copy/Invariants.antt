use Rattle.vm_local.proofs.moves.+copy.Given as goal

abbrev pub decreases-copy : goal.decreases-copy
decreases-copy l = l.count
