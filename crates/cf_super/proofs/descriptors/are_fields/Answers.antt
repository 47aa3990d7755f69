use Rattle.std.proofs.lemmas.List.Elements.{All-more}
use Rattle.cf_form.specs.Pool.{text_at}
use Rattle.cf_form.specs.declared.class_file.FieldInfo.{FieldInfo}
use Rattle.cf_link.specs.Faults.{IsFieldText}
use Rattle.cf_super.proofs.Shaped.{decided_all, decided_item}
use Rattle.cf_super.proofs.descriptors.are_fields.Goals as goal

-- what a slot past the end would be
none : FieldInfo
none = record { access = 0; name = 0; descriptor = 0 }

pub returns-then-not-is_field : goal.returns-then-not-is_field
unfolding none
returns-then-not-is_field c =
    decided_item (λ (f : FieldInfo). IsFieldText (text_at c.args.pool.now f.descriptor)) c.args.fields.now c.loop-field.field-index none c.loop-field-test.true c.is_field.result c.is_field.ensures c.if-not-is_field.true

pub loop-field-preserved : goal.loop-field-preserved
unfolding none
loop-field-preserved c =
    All-more (λ (f : FieldInfo). IsFieldText (text_at c.args.pool.now f.descriptor)) c.args.fields.now c.loop-field.field-index none c.loop-field-test.true c.loop-field.invariant (c.is_field.ensures.0 c.if-not-is_field.false)

pub returns : goal.returns
returns c = decided_all (λ (f : FieldInfo). IsFieldText (text_at c.args.pool.now f.descriptor)) c.args.fields.now c.loop-field.field-index c.loop-field-test.false c.loop-field.invariant
