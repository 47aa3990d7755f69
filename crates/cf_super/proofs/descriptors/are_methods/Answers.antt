use Rattle.std.proofs.Common.{◌≡◌, Some, slice_get, refl}
use Rattle.std.proofs.lemmas.Option.{slice_get_read}
use Rattle.cf_form.specs.Pool.{text_at}
use Rattle.cf_form.specs.declared.class_file.MethodInfo.{MethodInfo}
use Rattle.cf_link.specs.Faults.{IsMethodText}
use Rattle.cf_super.proofs.Shaped.{decided_all, more_of}
use Rattle.cf_super.proofs.descriptors.are_methods.Goals as goal

pub loop-method-preserved : goal.loop-method-preserved
loop-method-preserved c =
    let xs = c.args.methods.now in
    let item = c.method-item.result in
    let at : slice_get xs c.loop-method.method-index ≡ Some item = slice_get_read xs _ c.loop-method.method-index item refl c.loop-method-test.true c.method-item.is in
    more_of (λ (m : MethodInfo). IsMethodText (text_at c.args.pool.now m.descriptor)) xs c.loop-method.method-index item at c.loop-method.invariant (c.in_ok-is_method.ensures.0 c.if-not-branch.false)

pub returns : goal.returns
returns c = decided_all (λ (m : MethodInfo). IsMethodText (text_at c.args.pool.now m.descriptor)) (c.args.methods.now) c.loop-method.method-index c.loop-method-test.false c.loop-method.invariant
