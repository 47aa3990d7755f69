use Rattle.std.proofs.Common.{◌≡◌, ◌∙◌, ◌≤◌, sym, ap, length, List}
use Rattle.ty_prog.specs.declared.expr.Expr.{Expr}
use Rattle.ty_prog.specs.declared.ty.Ty.{Ty}
use Rattle.ty_typed.specs.Kinds.{kinds_fit, all_kinds_fit}
use Rattle.ty_typed.specs.Types.{types_of, last_of, all_of}
use Rattle.ty_typed.specs.Scopes.{within, classes_of}
use Rattle.ty_typed.specs.Parts.{types_of_each, types_of_case, types_of_handler}
use Rattle.ty_typed.proofs.Branching.{try_types}
use Rattle.ty_typed.proofs.Lasts.{last_of_map}
use Rattle.ty_typed.proofs.Meets.{one_more, all_cons, case_cons, kinds_append}
use Rattle.ty_typed.proofs.kinds.+kinds.Goals as goal

pub all_kinds_fit-loop-e-preserved : goal.all_kinds_fit-loop-e-preserved
all_kinds_fit-loop-e-preserved t c =
    let classes = classes_of c.args.scope in
    rw (c.both-fit.ensures, c.kinds_fit.ensures)
    (one_more (kinds_fit classes) (all_kinds_fit classes) (all_cons classes) (within c.args.scope types_of) c.as_slice-e-items.result.now c.loop-e.e-index
    c.e-item.result c.loop-e.fit _ c.loop-e-test.true c.e-item.is c.loop-e.invariant)

pub case_kinds-loop-c-preserved : goal.case_kinds-loop-c-preserved
case_kinds-loop-c-preserved t c =
    let classes = classes_of c.args.scope in
    rw (c.both-fit.ensures, c.one_case_kinds.ensures)
    (one_more (kinds_fit classes) (λ (several : List (List Ty)). kinds_fit classes (all_of several)) (case_cons classes) (within c.args.scope types_of_case)
    c.as_slice-c-items.result.now c.loop-c.c-index c.c-item.result c.loop-c.fit _ c.loop-c-test.true c.c-item.is c.loop-c.invariant)

pub kinds_fit-returns-in-Try : goal.kinds_fit-returns-in-Try
kinds_fit-returns-in-Try t c =
    let classes = classes_of c.args.scope in
    let of = within c.args.scope types_of in
    let whole = ap of c.in-Try.is ∙ try_types c.args.scope.program.now c.args.scope.this c.args.scope.locals.now c.in-Try.body c.in-Try.handler c.in-Try.last in
    rw (c.both-in-Try.ensures, c.handler_kinds.ensures, c.kinds_fit-in-Try.ensures, c.get-in-Try.ensures)
    (sym (ap (kinds_fit classes) whole ∙ kinds_append classes (of c.in-Try.body) (within c.args.scope types_of_handler c.in-Try.handler)))

pub last_kinds-returns-in-len1-up : goal.last_kinds-returns-in-len1-up
last_kinds-returns-in-len1-up t c =
    let of = within c.args.scope types_of in
    let each = within c.args.scope types_of_each in
    let some : 1 ≤ length c.as_slice.result.now = c.in-len1-up.len_at_least in
    let last : last_of (each c.as_slice.result.now) ≡ of c.last-item.result =
    last_of_map of c.as_slice.result.now c.last-item.result some ∙ ap of (sym c.last-item.is) in
    let same : last_of (each c.args.es.now) ≡ of c.last-item.result =
    ap (λ (es : List Expr). last_of (each es)) (sym c.as_slice.ensures) ∙ last in
    c.kinds_fit.ensures ∙ ap (λ (types : List Ty). kinds_fit (classes_of c.args.scope) types) (sym same)
