use Rattle.ty_room.proofs.BranchesWorth.{a_guarded_case, a_case, a_name, alternatives, made, a_match, a_try, a_finally, a_catch, a_catch_finally}
use Rattle.ty_room.proofs.laws.branches.Goals as goal

pub returns-clause-guarded_case : goal.returns-clause-guarded_case
returns-clause-guarded_case c = a_guarded_case

pub returns-clause-plain_case : goal.returns-clause-plain_case
returns-clause-plain_case c = a_case

pub returns-clause-named : goal.returns-clause-named
returns-clause-named c = a_name

pub returns-clause-alternatives : goal.returns-clause-alternatives
returns-clause-alternatives c = alternatives

pub returns-clause-made : goal.returns-clause-made
returns-clause-made c = made

pub returns-clause-matched : goal.returns-clause-matched
returns-clause-matched c = a_match

pub returns-clause-tried : goal.returns-clause-tried
returns-clause-tried c = a_try

pub returns-clause-finished : goal.returns-clause-finished
returns-clause-finished c = a_finally

pub returns-clause-caught : goal.returns-clause-caught
returns-clause-caught c = a_catch

pub returns-clause-caught_and_finished : goal.returns-clause-caught_and_finished
returns-clause-caught_and_finished c = a_catch_finally
