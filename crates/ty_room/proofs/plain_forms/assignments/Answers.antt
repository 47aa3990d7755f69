use Rattle.ty_room.proofs.Assigned.{set_definition, set_of_local, set_of_member, set_added_to_local, set_added_to_member, set_text_to_local, set_added_to_other, set_text_to_other}
use Rattle.ty_room.proofs.plain_forms.assignments.Goals as goal

pub returns-clause-definition : goal.returns-clause-definition
returns-clause-definition c = set_definition

pub returns-clause-of_local : goal.returns-clause-of_local
returns-clause-of_local c = set_of_local

pub returns-clause-of_member : goal.returns-clause-of_member
returns-clause-of_member c = set_of_member

pub returns-clause-added_to_local : goal.returns-clause-added_to_local
returns-clause-added_to_local c = set_added_to_local

pub returns-clause-added_to_member : goal.returns-clause-added_to_member
returns-clause-added_to_member c = set_added_to_member

pub returns-clause-text_to_local : goal.returns-clause-text_to_local
returns-clause-text_to_local c = set_text_to_local

pub returns-clause-added_to_other : goal.returns-clause-added_to_other
returns-clause-added_to_other c = set_added_to_other

pub returns-clause-text_to_other : goal.returns-clause-text_to_other
returns-clause-text_to_other c = set_text_to_other
