-- What class files say of a linked class determines its members.
use Rattle.std.proofs.Common.{◌≡◌, ◌∙◌, ℕ, List, [], ◌∷◌, Option, Some, refl, sym, ap, subst}
use Rattle.std.specs.Prelude.{encode_utf8_all}
use Rattle.std.specs.List.{All}
use Rattle.std.proofs.lemmas.Option.{same_Some}
use Rattle.std.proofs.lemmas.List.Elements.{All-head, All-tail}
use Rattle.cf_form.specs.ClassFiles.{Each}
use Rattle.cf_form.specs.declared.class_file.ClassFile.{ClassFile}
use Rattle.cf_form.specs.declared.class_file.FieldInfo.{FieldInfo}
use Rattle.cf_form.specs.declared.class_file.MethodInfo.{MethodInfo}
use Rattle.cf_form.specs.declared.code.Code.{Code}
use Rattle.cf_form.specs.declared.constant.Const.{Const}
use Rattle.cf_link.specs.BuiltIns.{BuiltIn, IsBuiltIn}
use Rattle.cf_link.specs.Descriptors.{IsType, IsMethodType}
use Rattle.cf_link.specs.Linked.{IsField, IsMethod}
use Rattle.cf_link.specs.OfFiles.{IsFieldOf, IsMethodOf, IsOfFile}
use Rattle.cf_link.specs.declared.linked_class.LinkedClass.{LinkedClass}
use Rattle.cf_link.specs.declared.member.LinkedField.{LinkedField}
use Rattle.cf_link.specs.declared.member.LinkedMethod.{LinkedMethod}
use Rattle.cf_link.specs.declared.native.Native.{Native}
use Rattle.cf_link.specs.declared.value_kind.ValueKind.{ValueKind}
use Rattle.cf_set.specs.Names.{AreDistinct}
use Rattle.cf_super.proofs.Found.{number_found, each_only}
use Rattle.cf_layout.proofs.OneKind.{type_kind, method_kinds}

-- two classes declare the same
pub record AreAlike (c d : LinkedClass) : Type 0 where
  pub name : c.name ≡ d.name
  pub access : c.access ≡ d.access
  pub parent : c.parent ≡ d.parent
  pub interfaces : c.interfaces ≡ d.interfaces
  pub fields : c.fields ≡ d.fields
  pub statics : c.statics ≡ d.statics
  pub methods : c.methods ≡ d.methods

-- its members have the kinds of their descriptors
pub record HasKinds (c : LinkedClass) : Type 0 where
  pub fields : All IsField c.fields
  pub statics : All IsField c.statics
  pub methods : All IsMethod c.methods

field : List ℕ → List ℕ → ValueKind → LinkedField
field name descriptor kind = record { name = name; descriptor = descriptor; kind = kind }

field_whole : (f : LinkedField) → field f.name f.descriptor f.kind ≡ f
unfolding field
field_whole f = refl

same_field : (pool : List Const) (i : FieldInfo) (f g : LinkedField) → IsFieldOf pool i f → IsFieldOf pool i g → IsField f → IsField g → f ≡ g
same_field pool i f g one other kind kind' =
    let name : f.name ≡ g.name = same_Some f.name g.name (sym one.0 ∙ other.0) in
    let descriptor : f.descriptor ≡ g.descriptor = same_Some f.descriptor g.descriptor (sym one.1 ∙ other.1) in
    let kinds : f.kind ≡ g.kind = type_kind (encode_utf8_all g.descriptor) f.kind g.kind (subst (λ d. IsType (encode_utf8_all d) f.kind) descriptor kind) kind' in
    let both : field f.name f.descriptor f.kind ≡ field g.name g.descriptor g.kind = cc in
    sym (field_whole f) ∙ both ∙ field_whole g

pub same_fields : (pool : List Const) (infos : List FieldInfo) (fs gs : List LinkedField) → Each (IsFieldOf pool) infos fs → Each (IsFieldOf pool) infos gs
    → All IsField fs → All IsField gs → fs ≡ gs
same_fields pool [] [] [] one other kinds kinds' = refl
same_fields pool (i ∷ infos) (f ∷ fs) (g ∷ gs) one other kinds kinds' =
    ap (λ x. x ∷ fs) (same_field pool i f g one.0 other.0 (All-head IsField f fs kinds) (All-head IsField g gs kinds'))
    ∙ ap (λ xs. g ∷ xs) (same_fields pool infos fs gs one.1 other.1 (All-tail IsField f fs kinds) (All-tail IsField g gs kinds'))
same_fields pool [] [] (g ∷ gs) one other kinds kinds' = absurd other
same_fields pool [] (f ∷ fs) gs one other kinds kinds' = absurd one
same_fields pool (i ∷ infos) [] gs one other kinds kinds' = absurd one
same_fields pool (i ∷ infos) (f ∷ fs) [] one other kinds kinds' = absurd other

method : List ℕ → List ℕ → ℕ → List ValueKind → Option ValueKind → Option Code → Option Native → LinkedMethod
method name descriptor access parameters result code native = record {
  name = name;
  descriptor = descriptor;
  access = access;
  parameters = parameters;
  result = result;
  code = code;
  native = native;
}

method_whole : (m : LinkedMethod) → method m.name m.descriptor m.access m.parameters m.result m.code m.native ≡ m
unfolding method
method_whole m = refl

same_method : (pool : List Const) (i : MethodInfo) (m n : LinkedMethod) → IsMethodOf pool i m → IsMethodOf pool i n → IsMethod m → IsMethod n → m ≡ n
same_method pool i m n one other kind kind' =
    let name : m.name ≡ n.name = same_Some m.name n.name (sym one.0 ∙ other.0) in
    let descriptor : m.descriptor ≡ n.descriptor = same_Some m.descriptor n.descriptor (sym one.1 ∙ other.1) in
    let access : m.access ≡ n.access = one.2 ∙ sym other.2 in
    let code : m.code ≡ n.code = one.3 ∙ sym other.3 in
    let native : m.native ≡ n.native = one.4 ∙ sym other.4 in
    let kinds = method_kinds (encode_utf8_all n.descriptor) m.parameters n.parameters m.result n.result
    (subst (λ d. IsMethodType (encode_utf8_all d) m.parameters m.result) descriptor kind) kind' in
    let parameters : m.parameters ≡ n.parameters = kinds.0 in
    let result : m.result ≡ n.result = kinds.1 in
    let both : method m.name m.descriptor m.access m.parameters m.result m.code m.native ≡ method n.name n.descriptor n.access n.parameters n.result n.code n.native = cc in
    sym (method_whole m) ∙ both ∙ method_whole n

pub same_methods : (pool : List Const) (infos : List MethodInfo) (ms ns : List LinkedMethod) → Each (IsMethodOf pool) infos ms → Each (IsMethodOf pool) infos ns
    → All IsMethod ms → All IsMethod ns → ms ≡ ns
same_methods pool [] [] [] one other kinds kinds' = refl
same_methods pool (i ∷ infos) (m ∷ ms) (n ∷ ns) one other kinds kinds' =
    ap (λ x. x ∷ ms) (same_method pool i m n one.0 other.0 (All-head IsMethod m ms kinds) (All-head IsMethod n ns kinds'))
    ∙ ap (λ xs. n ∷ xs) (same_methods pool infos ms ns one.1 other.1 (All-tail IsMethod m ms kinds) (All-tail IsMethod n ns kinds'))
same_methods pool [] [] (n ∷ ns) one other kinds kinds' = absurd other
same_methods pool [] (m ∷ ms) ns one other kinds kinds' = absurd one
same_methods pool (i ∷ infos) [] ns one other kinds kinds' = absurd one
same_methods pool (i ∷ infos) (m ∷ ms) [] one other kinds kinds' = absurd other

-- two classes of one built-in class, and of one file
pub alike_built : (b : BuiltIn) (c d : LinkedClass) → IsBuiltIn b c → IsBuiltIn b d → AreAlike c d
alike_built b c d one other = record {
  name = one.name ∙ sym other.name;
  access = one.access ∙ sym other.access;
  parent = one.parent ∙ sym other.parent;
  interfaces = one.interfaces ∙ sym other.interfaces;
  fields = one.fields ∙ sym other.fields;
  statics = one.statics ∙ sym other.statics;
  methods = one.methods ∙ sym other.methods;
}

pub alike_file : (names : List (List ℕ)) → AreDistinct names → (file : ClassFile) (c d : LinkedClass) → IsOfFile names file c → IsOfFile names file d → HasKinds c → HasKinds d → AreAlike c d
alike_file names apart file c d one other kinds kinds' = record {
  name = one.name ∙ sym other.name;
  access = one.access ∙ sym other.access;
  parent = one.parent.1 ∙ ap Some number ∙ sym other.parent.1;
  interfaces = sym (each_only names apart file.pool file.interfaces c.interfaces one.interfaces) ∙ each_only names apart file.pool file.interfaces d.interfaces other.interfaces;
  fields = same_fields file.pool _ c.fields d.fields one.fields other.fields kinds.fields kinds'.fields;
  statics = same_fields file.pool _ c.statics d.statics one.statics other.statics kinds.statics kinds'.statics;
  methods = same_methods file.pool file.methods c.methods d.methods one.methods other.methods kinds.methods kinds'.methods;
}
  where
    number : one.parent.0 ≡ other.parent.0
    number = same_Some one.parent.0 other.parent.0
        (sym (number_found names apart file.pool file.parent one.parent.0 one.parent.2) ∙ number_found names apart file.pool file.parent other.parent.0 other.parent.2)
