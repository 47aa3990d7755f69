use Rattle.std.proofs.Common.{◌≡◌, ◌∙◌, Some, slice_get, refl, ap}
use Rattle.std.proofs.lemmas.Option.{slice_get_read}
use Rattle.cf_link.specs.OfFiles.{each_once, string_text}
use Rattle.cf_refs.proofs.Once.{once_more}
use Rattle.cf_refs.proofs.texts.put_texts.Goals as goal

pub loop-constant-preserved : goal.loop-constant-preserved
loop-constant-preserved c =
    let pool = c.args.pool.now in
    let item = c.constant-item.result in
    let at : slice_get pool c.loop-constant.constant-index ≡ Some item = slice_get_read pool _ c.loop-constant.constant-index item refl c.loop-constant-test.true c.constant-item.is in
    c.in_ok-put_text.ensures ∙ ap (λ texts. each_once texts (string_text pool item)) c.loop-constant.invariant
    ∙ once_more (string_text pool) c.args.texts.now pool c.loop-constant.constant-index item at
