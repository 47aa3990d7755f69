use Rattle.std.proofs.Common.{◌≡◌, ◌∙◌, ◌≤◌, sym, ap, length, List}
use Rattle.ty_prog.specs.declared.expr.Expr.{Expr}
use Rattle.ty_prog.specs.declared.ty.Ty.{Ty}
use Rattle.ty_typed.specs.Types.{types_of, last_of}
use Rattle.ty_typed.specs.Scopes.{within, classes_of}
use Rattle.ty_typed.specs.Parts.{all_suit, types_of_each}
use Rattle.ty_typed.proofs.Lasts.{last_of_map}
use Rattle.ty_typed.proofs.expressions.+fitting.Goals as goal

pub last_suits-returns-in-len1-up : goal.last_suits-returns-in-len1-up
last_suits-returns-in-len1-up t c =
    let of = within c.args.scope types_of in
    let each = within c.args.scope types_of_each in
    let some : 1 ≤ length c.as_slice.result.now = c.in-len1-up.len_at_least in
    let last : last_of (each c.as_slice.result.now) ≡ of c.last-item.result =
    last_of_map of c.as_slice.result.now c.last-item.result some ∙ ap of (sym c.last-item.is) in
    let same : last_of (each c.args.es.now) ≡ of c.last-item.result =
    ap (λ (es : List Expr). last_of (each es)) (sym c.as_slice.ensures) ∙ last in
    c.all_suit.ensures ∙ ap (λ (types : List Ty). all_suit (classes_of c.args.scope) c.args.wanted types) (sym same)
