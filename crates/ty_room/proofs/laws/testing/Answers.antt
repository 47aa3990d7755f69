use Rattle.ty_room.proofs.Rows.{read_local, read_part, read_cast, int_variable}
use Rattle.ty_room.proofs.laws.testing.Goals as goal

pub returns-clause-of_local : goal.returns-clause-of_local
returns-clause-of_local c = read_local

pub returns-clause-of_part : goal.returns-clause-of_part
returns-clause-of_part c = read_part

pub returns-clause-of_cast_part : goal.returns-clause-of_cast_part
returns-clause-of_cast_part c = read_cast

pub returns-clause-int_variable : goal.returns-clause-int_variable
returns-clause-int_variable c = int_variable
