use Rattle.ty_room.proofs.Sums.{cells_kept, methods_kept, class_entries_sum, class_supers_sum}
use Rattle.ty_room.proofs.limits.keeping_members.Goals as goal

pub returns-clause-cells : goal.returns-clause-cells
returns-clause-cells c = cells_kept

pub returns-clause-methods : goal.returns-clause-methods
returns-clause-methods c = methods_kept

pub returns-clause-entries : goal.returns-clause-entries
returns-clause-entries c = class_entries_sum

pub returns-clause-supers : goal.returns-clause-supers
returns-clause-supers c = class_supers_sum
