use Rattle.std.proofs.Common.{map, take, fold}
use Rattle.ty_room.specs.Capped.{IsSize}
use Rattle.ty_room.specs.Sizing.{beside, behind, nothing, expr_size, case_sizes, pattern_size}
use Rattle.ty_room.proofs.sizing.+sizes.Given as goal

abbrev pub invariant-all_exprs-loop-e : goal.invariant-all_exprs-loop-e
invariant-all_exprs-loop-e l = IsSize l.so_far (fold beside nothing (map (expr_size l.ahead) (take l.e-index l.es)))

abbrev pub invariant-all_cases-loop-c : goal.invariant-all_cases-loop-c
invariant-all_cases-loop-c l = IsSize l.so_far (fold beside nothing (map (case_sizes l.ahead) (take l.c-index l.cases)))

abbrev pub invariant-patterns-loop-p : goal.invariant-patterns-loop-p
invariant-patterns-loop-p l = IsSize l.so_far (fold beside nothing (map (pattern_size l.ahead) (take l.p-index l.parts)))

abbrev pub invariant-block_size-loop-e : goal.invariant-block_size-loop-e
invariant-block_size-loop-e l = IsSize l.so_far (fold behind nothing (map (expr_size l.ahead) (take l.e-index l.es)))
