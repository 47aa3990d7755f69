use Rattle.std.proofs.Common.{◌∙◌, ap, sym, arith, length}
use Rattle.std.specs.Str.{chars}
use Rattle.std.proofs.lemmas.List.Sums.{sum_by_more_le}
use Rattle.std.proofs.lemmas.List.{take_all}
use Rattle.std.specs.List.{sum_by}
use Rattle.cf_mutf8.specs.ModifiedUtf8.{encoded}
use Rattle.cf_mutf8.specs.Share.{share}
use Rattle.cf_mutf8.proofs.Utf8.{utf8_share}
use Rattle.cf_mutf8.proofs.sizes.length.Goals as goal

pub overflow_add-count : goal.overflow_add-count
overflow_add-count c =
    let bytes = c.as_bytes-byte-items.result.now in
    let all = utf8_share bytes c.as_bytes-byte-items.ensures.utf8 in
    let part = sum_by_more_le share bytes c.loop-byte.byte-index 0 c.loop-byte-test.true in
    omega (arith, all.1, part, c.share-count.ensures, c.loop-byte.invariant)

pub returns : goal.returns
returns c =
    let bytes = c.as_bytes-byte-items.result.now in
    let all = utf8_share bytes c.as_bytes-byte-items.ensures.utf8 in
    c.loop-byte.invariant ∙ ap (sum_by share) (take_all c.loop-byte.byte-index bytes c.loop-byte-test.false) ∙ sym all.0
    ∙ ap (λ b. length (encoded (chars b))) c.as_bytes-byte-items.ensures.value
