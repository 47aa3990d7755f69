use Rattle.ty_room.specs.Sizing.{beside, behind, nothing, expr_size, case_sizes, pattern_size}
use Rattle.ty_room.proofs.Folds.{fold_next}
use Rattle.ty_room.proofs.Steps.{println_is, try_is, case_is}
use Rattle.ty_room.proofs.sizing.+sizes.Goals as goal

pub all_exprs-loop-e-preserved : goal.all_exprs-loop-e-preserved
all_exprs-loop-e-preserved t c =
    rw (fold_next beside nothing (expr_size c.args.ahead) c.args.es.now c.loop-e.e-index c.e-item.result c.loop-e-test.true c.e-item.is)
    (c.beside-so_far.ensures _ _ c.loop-e.invariant c.expr_size.ensures)

pub all_cases-loop-c-preserved : goal.all_cases-loop-c-preserved
all_cases-loop-c-preserved t c =
    rw (fold_next beside nothing (case_sizes c.args.ahead) c.args.cases.now c.loop-c.c-index c.c-item.result c.loop-c-test.true c.c-item.is)
    (c.beside-so_far.ensures _ _ c.loop-c.invariant c.case_size.ensures)

pub patterns-loop-p-preserved : goal.patterns-loop-p-preserved
patterns-loop-p-preserved t c =
    rw (fold_next beside nothing (pattern_size c.args.ahead) c.args.parts.now c.loop-p.p-index c.p-item.result c.loop-p-test.true c.p-item.is)
    (c.beside-so_far.ensures _ _ c.loop-p.invariant c.pattern_size.ensures)

pub block_size-loop-e-preserved : goal.block_size-loop-e-preserved
block_size-loop-e-preserved t c =
    rw (fold_next behind nothing (expr_size c.args.ahead) c.args.es.now c.loop-e.e-index c.e-item.result c.loop-e-test.true c.e-item.is)
    (c.behind-so_far.ensures _ _ c.loop-e.invariant c.expr_size.ensures)

pub expr_size-returns-in-Println : goal.expr_size-returns-in-Println
expr_size-returns-in-Println t c =
    rw (c.in-Println.is, println_is c.args.ahead c.in-Println.of)
    (c.node_size-in-Println.ensures _ _ c.form-in-Println.ensures (c.with_optional.ensures _ c.nothing-in-Println.ensures))

pub expr_size-returns-in-Try : goal.expr_size-returns-in-Try
expr_size-returns-in-Try t c =
    rw (c.in-Try.is, try_is c.args.ahead c.in-Try.body c.in-Try.handler c.in-Try.last)
    (c.trying.ensures _ (c.with_finally.ensures _ (c.with_handler.ensures _ c.one-in-Try.ensures)))

pub case_size-returns : goal.case_size-returns
case_size-returns t c =
    rw (case_is c.args.ahead c.args.c.now)
    (c.node_size.ensures _ _ c.form.ensures
    (c.beside.ensures _ _ (c.with_guard-guarded.ensures _ (c.beside-pattern.ensures _ _ c.nothing.ensures c.pattern_size.ensures)) c.expr_size.ensures))

pub with_guard-returns-in-Some : goal.with_guard-returns-in-Some
with_guard-returns-in-Some t c = λ x sx.
    rw c.in-Some.is (c.beside.ensures x _ sx (c.deciding_size.ensures _ c.expr_size.ensures))
