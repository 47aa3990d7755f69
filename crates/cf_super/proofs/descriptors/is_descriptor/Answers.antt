use Rattle.std.proofs.Common.{refl}
use Rattle.cf_form.specs.Pool.{text_at}
use Rattle.cf_link.specs.Faults.{field}
use Rattle.cf_super.proofs.Shaped.{descriptor_decides}
use Rattle.cf_super.proofs.descriptors.is_descriptor.Goals as goal

pub returns-then-is_field_at : goal.returns-then-is_field_at
returns-then-is_field_at c = (λ yes. field (text_at c.args.pool.now c.args.index) (c.is_field_at.ensures.0 c.if-is_field_at.true), λ described. refl)

pub returns-in_ok-is_method_at : goal.returns-in_ok-is_method_at
returns-in_ok-is_method_at c =
    descriptor_decides (text_at c.args.pool.now c.args.index) c.is_field_at.result c.in_ok-is_method_at.field-0 c.is_field_at.ensures c.if-is_field_at.false c.in_ok-is_method_at.ensures
