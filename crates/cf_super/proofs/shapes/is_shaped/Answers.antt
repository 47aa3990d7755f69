use Rattle.std.proofs.Common.{subst}
use Rattle.std.specs.Bool.{Decides}
use Rattle.std.specs.List.{All}
use Rattle.cf_form.specs.Pool.{text_at}
use Rattle.cf_form.specs.declared.class_file.FieldInfo.{FieldInfo}
use Rattle.cf_form.specs.declared.class_file.MethodInfo.{MethodInfo}
use Rattle.cf_link.specs.Faults.{IsFieldText, IsMethodText, IsDescribed}
use Rattle.cf_super.proofs.shapes.is_shaped.Goals as goal

pub returns : goal.returns
returns c =
    let file = c.args.file.now in
    let here = c.as_slice-pool.result.now in
    let fields : Decides c.are_fields.result (All (λ (f : FieldInfo). IsFieldText (text_at file.pool f.descriptor)) file.fields) =
    subst (λ pool. Decides c.are_fields.result (All (λ (f : FieldInfo). IsFieldText (text_at pool f.descriptor)) file.fields)) c.as_slice-pool.ensures
    (subst (λ fs. Decides c.are_fields.result (All (λ (f : FieldInfo). IsFieldText (text_at here f.descriptor)) fs)) c.as_slice.ensures c.are_fields.ensures) in
    let methods : Decides c.in_ok-are_methods.field-0 (All (λ (m : MethodInfo). IsMethodText (text_at file.pool m.descriptor)) file.methods) =
    subst (λ pool. Decides c.in_ok-are_methods.field-0 (All (λ (m : MethodInfo). IsMethodText (text_at pool m.descriptor)) file.methods)) c.as_slice-pool.ensures
    (subst (λ ms. Decides c.in_ok-are_methods.field-0 (All (λ (m : MethodInfo). IsMethodText (text_at here m.descriptor)) ms)) c.as_slice-2.ensures c.in_ok-are_methods.ensures) in
    let entries : Decides c.in_ok-are_described.field-0 (All (IsDescribed file.pool) file.pool) =
    subst (λ pool. Decides c.in_ok-are_described.field-0 (All (IsDescribed pool) pool)) c.as_slice-pool.ensures c.in_ok-are_described.ensures in (
      λ yes. record {
        parent = c.is_at.ensures.0 c.if-not-is_at.false;
        interfaces = c.are_interfaces.ensures.0 c.if-not-are_interfaces.false;
        fields = fields.0 c.if-not-are_fields.false;
        methods = methods.0 c.if-not-branch.false;
        entries = entries.0 yes;
      },
      λ shaped. entries.1 shaped.entries,
    )
