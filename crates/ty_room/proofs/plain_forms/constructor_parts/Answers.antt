use Rattle.ty_room.proofs.Leaves.{a_superclass, all_dropped, a_field}
use Rattle.ty_room.proofs.plain_forms.constructor_parts.Goals as goal

pub returns-clause-superclass : goal.returns-clause-superclass
returns-clause-superclass c = a_superclass

pub returns-clause-statements : goal.returns-clause-statements
returns-clause-statements c = all_dropped

pub returns-clause-field : goal.returns-clause-field
returns-clause-field c = a_field
