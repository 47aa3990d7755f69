use Rattle.std.proofs.Common.{rules, ◌≡◌, ◌≢◌, ◌∙◌, Some, None, length, slice_index_or, sym, ap, subst, encode_utf8_all}
use Rattle.cf_link.specs.Descriptors.{IsResult}
use Rattle.std.specs.Prelude.{MatchOption}
use Rattle.cf_link.specs.Signatures.{AreParameters, NoParameters}
use Rattle.cf_link.proofs.Methods.{behind, opened, method_given, method_same}
use Rattle.cf_link.proofs.method_descriptors.method_kinds.Goals as goal

pub returns-in-Some-result_kind-clause-kinds : goal.returns-in-Some-result_kind-clause-kinds
returns-in-Some-result_kind-clause-kinds c =
    let text : c.as_bytes-bytes.result.now ≡ encode_utf8_all c.args.descriptor.now = c.as_bytes-bytes.ensures.value ∙ c.as_str.ensures.bytes in
    let some : length c.as_bytes-bytes.result.now ≢ 0 = search rules in
    let first : slice_index_or c.as_bytes-bytes.result.now 0 0 ≡ 40 = search rules in
    let are : AreParameters (behind c.as_bytes-bytes.result.now) c.put_parameters.new.kinds c.in-Some.after.now =
    subst (λ o. MatchOption o (NoParameters (behind c.as_bytes-bytes.result.now)) (λ after. AreParameters (behind c.as_bytes-bytes.result.now) c.put_parameters.new.kinds after.now))
    c.in-Some.is c.in_ok-after.ensures in
    let is : IsResult c.in-Some.after.now c.in-Some-result_kind.returned = search rules in
    method_given (encode_utf8_all c.args.descriptor.now) (behind c.as_bytes-bytes.result.now) c.in-Some.after.now c.put_parameters.new.kinds c.in-Some-result_kind.returned
    (sym text ∙ opened c.as_bytes-bytes.result.now some first) are is

pub returns-in-Some-result_kind-clause-only : goal.returns-in-Some-result_kind-clause-only
returns-in-Some-result_kind-clause-only c = λ kinds returned is.
    let text : c.as_bytes-bytes.result.now ≡ encode_utf8_all c.args.descriptor.now = c.as_bytes-bytes.ensures.value ∙ c.as_str.ensures.bytes in
    let some : length c.as_bytes-bytes.result.now ≢ 0 = search rules in
    let first : slice_index_or c.as_bytes-bytes.result.now 0 0 ≡ 40 = search rules in
    let are : AreParameters (behind c.as_bytes-bytes.result.now) c.put_parameters.new.kinds c.in-Some.after.now =
    subst (λ o. MatchOption o (NoParameters (behind c.as_bytes-bytes.result.now)) (λ after. AreParameters (behind c.as_bytes-bytes.result.now) c.put_parameters.new.kinds after.now))
    c.in-Some.is c.in_ok-after.ensures in
    let same : (c.put_parameters.new.kinds ≡ kinds) × IsResult c.in-Some.after.now returned =
    method_same (encode_utf8_all c.args.descriptor.now) (behind c.as_bytes-bytes.result.now) c.in-Some.after.now c.put_parameters.new.kinds kinds returned
    (sym text ∙ opened c.as_bytes-bytes.result.now some first) are is in
    let read : Some c.in-Some-result_kind.returned ≡ Some returned = c.in-Some-result_kind.ensures.only returned same.1 in
    let one : c.in-Some-result_kind.returned ≡ returned = cc read in
    ap (λ ks. Some (ks, c.in-Some-result_kind.returned)) same.0 ∙ ap (λ r. Some (kinds, r)) one

pub returns-in-None-result_kind-clause-only : goal.returns-in-None-result_kind-clause-only
returns-in-None-result_kind-clause-only c = λ kinds returned is.
    let text : c.as_bytes-bytes.result.now ≡ encode_utf8_all c.args.descriptor.now = c.as_bytes-bytes.ensures.value ∙ c.as_str.ensures.bytes in
    let some : length c.as_bytes-bytes.result.now ≢ 0 = search rules in
    let first : slice_index_or c.as_bytes-bytes.result.now 0 0 ≡ 40 = search rules in
    let are : AreParameters (behind c.as_bytes-bytes.result.now) c.put_parameters.new.kinds c.in-Some.after.now =
    subst (λ o. MatchOption o (NoParameters (behind c.as_bytes-bytes.result.now)) (λ after. AreParameters (behind c.as_bytes-bytes.result.now) c.put_parameters.new.kinds after.now))
    c.in-Some.is c.in_ok-after.ensures in
    let same : (c.put_parameters.new.kinds ≡ kinds) × IsResult c.in-Some.after.now returned =
    method_same (encode_utf8_all c.args.descriptor.now) (behind c.as_bytes-bytes.result.now) c.in-Some.after.now c.put_parameters.new.kinds kinds returned
    (sym text ∙ opened c.as_bytes-bytes.result.now some first) are is in
    let read : None ≡ Some returned = c.in-None-result_kind.ensures.only returned same.1 in
    cc read
