use Rattle.std.proofs.Common.{◌∙◌, sym, ap, false}
use Rattle.ty_flow.specs.Uses.{untouched, literal, no_case, followed, both, one_of, or_else, expr_passage}
use Rattle.ty_flow.specs.Parts.{case_passage, pattern_passage}
use Rattle.ty_flow.proofs.Levels.{try_passage}
use Rattle.ty_flow.proofs.Orders.{one_more}
use Rattle.ty_flow.proofs.passing.+passages.Goals as goal

pub expr_passage-returns-in-Try : goal.expr_passage-returns-in-Try
expr_passage-returns-in-Try t c =
    let whole = ap (expr_passage c.args.local) c.in-Try.is ∙ try_passage c.args.local c.in-Try.body c.in-Try.handler c.in-Try.last in
    rw (c.tried.ensures, c.ended.ensures, c.optional-in-Try.ensures, c.handled.ensures, c.expr_passage-in-Try.ensures, c.get-in-Try.ensures) (sym whole)

pub exprs_behind-loop-e-preserved : goal.exprs_behind-loop-e-preserved
exprs_behind-loop-e-preserved t c =
    c.followed-passed.ensures
    ∙ one_more followed c.args.before (expr_passage c.args.local) c.args.es.now c.loop-e.e-index c.e-item.result c.loop-e.passed _ c.loop-e-test.true c.e-item.is c.loop-e.invariant c.expr_passage.ensures

pub first_case-loop-c-preserved : goal.first_case-loop-c-preserved
first_case-loop-c-preserved t c =
    c.or_else-passed.ensures
    ∙ one_more or_else no_case (case_passage c.args.local) c.args.cases.now c.loop-c.c-index c.c-item.result c.loop-c.passed _ c.loop-c-test.true c.c-item.is c.loop-c.invariant c.case_passage.ensures

pub all_parts-loop-p-preserved : goal.all_parts-loop-p-preserved
all_parts-loop-p-preserved t c =
    c.both-passed.ensures
    ∙ one_more both untouched (pattern_passage c.args.local) c.args.parts.now c.loop-p.p-index c.p-item.result c.loop-p.passed _ c.loop-p-test.true c.p-item.is c.loop-p.invariant c.pattern_passage.ensures

pub one_part-loop-p-preserved : goal.one_part-loop-p-preserved
one_part-loop-p-preserved t c =
    c.one_of-passed.ensures
    ∙ one_more one_of (literal false) (pattern_passage c.args.local) c.args.parts.now c.loop-p.p-index c.p-item.result c.loop-p.passed _ c.loop-p-test.true c.p-item.is c.loop-p.invariant c.pattern_passage.ensures
