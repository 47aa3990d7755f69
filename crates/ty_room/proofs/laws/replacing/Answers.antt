use Rattle.ty_room.proofs.Rows.{objects_replaced, traits_replaced, lazies_replaced, conversions_replaced, variables_replaced}
use Rattle.ty_room.proofs.laws.replacing.Goals as goal

pub returns-clause-objects : goal.returns-clause-objects
returns-clause-objects c = objects_replaced

pub returns-clause-traits : goal.returns-clause-traits
returns-clause-traits c = traits_replaced

pub returns-clause-lazy_members : goal.returns-clause-lazy_members
returns-clause-lazy_members c = lazies_replaced

pub returns-clause-conversions : goal.returns-clause-conversions
returns-clause-conversions c = conversions_replaced

pub returns-clause-variables : goal.returns-clause-variables
returns-clause-variables c = variables_replaced
