use Rattle.ty_walk.proofs.walking.holds_in_program.Goals as goal

pub returns : goal.returns
returns g c = rw c.as_slice.ensures at c.holds_in_classes.ensures
