use Rattle.std.proofs.Common.{sym, subst, List, map, take, ◌+◌}
use Rattle.std.proofs.lemmas.Result.{err_from_is_err_and}
use Rattle.cf_form.specs.ClassFiles.{Each}
use Rattle.cf_form.specs.declared.class_file.MethodInfo.{MethodInfo}
use Rattle.cf_read.specs.Codes.{IsMethodRead}
use Rattle.cf_read.specs.Looking.{IsShort, IsMethodStop}
use Rattle.cf_read.specs.Views.{method_of}
use Rattle.cf_read.specs.declared.parts.MethodParts.{MethodParts}
use Rattle.cf_read.proofs.OneByOne.{all_at, read_more, methods_stop}
use Rattle.cf_read.proofs.codes.methods_with_codes.Goals as goal

pub method_with_code-requires : goal.method_with_code-requires
method_with_code-requires c =
    subst (λ (m : MethodParts). IsShort (method_of m)) (sym c.method-item.is) (all_at IsShort method_of c.args.methods.now c.loop-method.method-index c.method-item.result c.loop-method-test.true c.requires)

pub returns-in_err-info : goal.returns-in_err-info
returns-in_err-info c =
    let p = err_from_is_err_and c.from_residual-in_err-info.result c.from_residual-in_err-info.ensures.1 in
    let e = c.in_err-info.field-0.0 in
    let failed = subst (λ (m : MethodParts). IsMethodStop c.args.pool.now (method_of m) e) c.method-item.is c.in_err-info.ensures in
    rw (p.1, p.2) (methods_stop c.args.pool.now c.args.methods.now c.loop-method.infos.items c.loop-method.method-index c.method-item.result e c.loop-method-test.true c.loop-method.invariant failed)

pub loop-method-preserved : goal.loop-method-preserved
loop-method-preserved c =
    let right = subst (λ (m : MethodParts). IsMethodRead c.args.pool.now (method_of m) c.in_ok-info.info) c.method-item.is c.in_ok-info.ensures in
    let more = read_more c.args.pool.now c.args.methods.now c.loop-method.infos.items c.loop-method.method-index c.method-item.result c.in_ok-info.info c.loop-method-test.true c.loop-method.invariant right in
    subst (λ (infos : List MethodInfo). Each (IsMethodRead c.args.pool.now) (map method_of (take (c.loop-method.method-index + 1) c.args.methods.now)) infos) (sym c.in_ok-push.ensures.items) more
