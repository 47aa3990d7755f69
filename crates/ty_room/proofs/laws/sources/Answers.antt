use Rattle.ty_room.proofs.FormsWorth.{an_equal, some_texts, a_text_added, with_one, a_block, more_nodes, a_call, an_own_call, a_super_call, a_new, an_operation, a_choice, a_loop}
use Rattle.ty_room.proofs.laws.sources.Goals as goal

pub returns-clause-more_nodes : goal.returns-clause-more_nodes
returns-clause-more_nodes c = more_nodes

pub returns-clause-call : goal.returns-clause-call
returns-clause-call c = a_call

pub returns-clause-own_call : goal.returns-clause-own_call
returns-clause-own_call c = an_own_call

pub returns-clause-super_call : goal.returns-clause-super_call
returns-clause-super_call c = a_super_call

pub returns-clause-made : goal.returns-clause-made
returns-clause-made c = a_new

pub returns-clause-operation : goal.returns-clause-operation
returns-clause-operation c = an_operation

pub returns-clause-choice : goal.returns-clause-choice
returns-clause-choice c = a_choice

pub returns-clause-repeated : goal.returns-clause-repeated
returns-clause-repeated c = a_loop

pub returns-clause-equal : goal.returns-clause-equal
returns-clause-equal c = an_equal

pub returns-clause-texts : goal.returns-clause-texts
returns-clause-texts c = some_texts

pub returns-clause-text_added : goal.returns-clause-text_added
returns-clause-text_added c = a_text_added

pub returns-clause-with_one : goal.returns-clause-with_one
returns-clause-with_one c = with_one

pub returns-clause-block : goal.returns-clause-block
returns-clause-block c = a_block
