use Rattle.ty_room.specs.Ahead.{ahead_of}
use Rattle.ty_room.proofs.Copied.{expr_no_more, handler_no_more, pattern_no_more, case_no_more}
use Rattle.ty_room.proofs.Laterness.{later_of}
use Rattle.ty_room.proofs.laws.copying.Goals as goal

pub returns-clause-exprs : goal.returns-clause-exprs
returns-clause-exprs c = λ j k level le. expr_no_more (ahead_of j) (ahead_of k) (later_of j k le) level

pub returns-clause-handlers : goal.returns-clause-handlers
returns-clause-handlers c = handler_no_more

pub returns-clause-patterns : goal.returns-clause-patterns
returns-clause-patterns c = pattern_no_more

pub returns-clause-cases : goal.returns-clause-cases
returns-clause-cases c = case_no_more
