use Rattle.std.proofs.Common.{◌≡◌, ◌∙◌, ◌+◌, ◌*◌, ◌-◌, length, sum_by, ap, refl}
use Rattle.ty_room.specs.Capped.{capped}
use Rattle.ty_room.specs.Sizing.{expr_size}
use Rattle.ty_room.specs.Room.{superclass_size, PARAMETER_WEIGHT, MIXIN_WEIGHT, RETURN_WEIGHT}
use Rattle.ty_room.proofs.bodies.constructor_weight.Goals as goal

pub returns : goal.returns
returns c =
    let superclass : c.superclass_size-superclass.result.value ≡ capped (superclass_size c.args.ahead c.args.class.now.super_args).value =
    rw c.as_slice.ensures at c.superclass_size-superclass.ensures.value in
    let statements : c.statements_weight-statements.result ≡ capped (sum_by (λ e. (expr_size c.args.ahead e).value + 1) c.args.class.now.body) =
    rw c.as_slice-2.ensures at c.statements_weight-statements.ensures in
    let params : c.times-params.result ≡ capped (PARAMETER_WEIGHT * length c.args.class.now.params) =
    c.times-params.ensures ∙ ap (λ n. capped (PARAMETER_WEIGHT * n)) c.len.ensures in
    let mixins : c.times-mixins.result ≡ capped (MIXIN_WEIGHT * length c.args.class.now.mixins) =
    c.times-mixins.ensures ∙ ap (λ n. capped (MIXIN_WEIGHT * n)) c.len-2.ensures in
    let locals : c.past.result ≡ capped (c.args.class.now.locals - length c.args.class.now.params) =
    c.past.ensures ∙ ap (λ n. capped (c.args.class.now.locals - n)) c.len-3.ensures in
    c.plus-5.ensures.whole _ _
    (c.plus-4.ensures.whole _ RETURN_WEIGHT
    (c.plus-3.ensures.whole _ _
    (c.plus-stages.ensures.whole _ _ (c.plus-2.ensures.whole _ _ (c.plus.ensures.whole _ _ superclass statements) params) mixins)
    c.object_weight-object.ensures)
    refl)
    locals
