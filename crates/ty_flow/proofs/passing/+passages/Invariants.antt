use Rattle.std.proofs.Common.{◌≡◌, false, map, take, fold}
use Rattle.ty_flow.specs.Uses.{untouched, literal, no_case, followed, both, one_of, or_else, expr_passage}
use Rattle.ty_flow.specs.Parts.{case_passage, pattern_passage}
use Rattle.ty_flow.proofs.passing.+passages.Given as goal

abbrev pub invariant-exprs_behind-loop-e : goal.invariant-exprs_behind-loop-e
invariant-exprs_behind-loop-e l = l.passed ≡ fold followed l.fn.before (map (expr_passage l.local) (take l.e-index l.es))

abbrev pub invariant-first_case-loop-c : goal.invariant-first_case-loop-c
invariant-first_case-loop-c l = l.passed ≡ fold or_else no_case (map (case_passage l.local) (take l.c-index l.cases))

abbrev pub invariant-all_parts-loop-p : goal.invariant-all_parts-loop-p
invariant-all_parts-loop-p l = l.passed ≡ fold both untouched (map (pattern_passage l.local) (take l.p-index l.parts))

abbrev pub invariant-one_part-loop-p : goal.invariant-one_part-loop-p
invariant-one_part-loop-p l = l.passed ≡ fold one_of (literal false) (map (pattern_passage l.local) (take l.p-index l.parts))
