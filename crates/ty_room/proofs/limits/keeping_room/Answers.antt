use Rattle.ty_room.proofs.Keeping.{body_kept, statements_kept, one_more, constructor_kept, pool_kept, room_kept}
use Rattle.ty_room.proofs.limits.keeping_room.Goals as goal

pub returns-clause-bodies : goal.returns-clause-bodies
returns-clause-bodies c = body_kept

pub returns-clause-constructors : goal.returns-clause-constructors
returns-clause-constructors c = constructor_kept

pub returns-clause-pools : goal.returns-clause-pools
returns-clause-pools c = pool_kept

pub returns-clause-programs : goal.returns-clause-programs
returns-clause-programs c = room_kept

pub returns-clause-statements : goal.returns-clause-statements
returns-clause-statements c = statements_kept

pub returns-clause-one_statement_more : goal.returns-clause-one_statement_more
returns-clause-one_statement_more c = one_more
