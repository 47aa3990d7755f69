use Rattle.std.proofs.Common.{◌≡◌, ◌≢◌, List, ℕ, [], ◌∷◌, Some, None, length, refl, sym, ap, subst, arith, rules, encode_utf8_all, ◌∙◌}
use Rattle.cf_link.specs.Parsing.{type_in_front}
use Rattle.cf_link.specs.declared.value_kind.ValueKind.{ValueKind}
use Rattle.cf_link.specs.Descriptors.{IsType}
use Rattle.cf_link.proofs.Types.{whole_given, whole_read, whole_kind}
use Rattle.cf_link.proofs.descriptors.field_kind.Goals as goal

nil_from_length : (xs : List ℕ) → length xs ≡ 0 → xs ≡ []
nil_from_length [] none = refl
nil_from_length (x ∷ xs) none = absurd (omega arith)

pub returns-then-is_empty-clause-kind : goal.returns-then-is_empty-clause-kind
returns-then-is_empty-clause-kind c =
    let text : c.as_bytes.result.now ≡ encode_utf8_all c.args.descriptor.now = c.as_bytes.ensures.value ∙ c.as_str.ensures.bytes in
    let zero : length c.in-Some.after.now ≡ 0 = search rules in
    whole_given (encode_utf8_all c.args.descriptor.now) c.in-Some.kind c.in-Some.after.now
    (subst (λ xs. type_in_front xs ≡ Some (c.in-Some.kind, c.in-Some.after.now)) text c.in-Some.ensures)
    (nil_from_length c.in-Some.after.now zero)

unread : (bytes : List ℕ) (kind : ValueKind) → type_in_front bytes ≡ None → IsType bytes kind → ⊥
unread bytes kind read is =
    let whole : None ≡ Some (kind, []) = sym read ∙ whole_read bytes kind is in
    cc whole

pub returns-else-is_empty-clause-only : goal.returns-else-is_empty-clause-only
returns-else-is_empty-clause-only c = λ kind is.
    let text : c.as_bytes.result.now ≡ encode_utf8_all c.args.descriptor.now = c.as_bytes.ensures.value ∙ c.as_str.ensures.bytes in
    let some : c.in-Some.after.now ≢ [] = search rules in
    absurd (some (whole_kind (encode_utf8_all c.args.descriptor.now) c.in-Some.kind kind c.in-Some.after.now
    (subst (λ xs. type_in_front xs ≡ Some (c.in-Some.kind, c.in-Some.after.now)) text c.in-Some.ensures) is).1)

pub returns-in-None-clause-only : goal.returns-in-None-clause-only
returns-in-None-clause-only c = λ kind is.
    let text : c.as_bytes.result.now ≡ encode_utf8_all c.args.descriptor.now = c.as_bytes.ensures.value ∙ c.as_str.ensures.bytes in
    absurd (unread (encode_utf8_all c.args.descriptor.now) kind (subst (λ xs. type_in_front xs ≡ None) text c.in-None.ensures) is)

pub returns-then-is_empty-clause-only : goal.returns-then-is_empty-clause-only
returns-then-is_empty-clause-only c = λ kind is.
    let text : c.as_bytes.result.now ≡ encode_utf8_all c.args.descriptor.now = c.as_bytes.ensures.value ∙ c.as_str.ensures.bytes in
    ap Some (whole_kind (encode_utf8_all c.args.descriptor.now) c.in-Some.kind kind c.in-Some.after.now
    (subst (λ xs. type_in_front xs ≡ Some (c.in-Some.kind, c.in-Some.after.now)) text c.in-Some.ensures) is).0
