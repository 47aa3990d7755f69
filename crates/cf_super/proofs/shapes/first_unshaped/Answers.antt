use Rattle.std.proofs.Common.{◌≡◌, ◌∙◌, Some, slice_get, refl, sym, true≢false}
use Rattle.std.proofs.lemmas.Option.{slice_get_read}
use Rattle.cf_super.proofs.Shaped.{first_shape, none_shape, shaped_more}
use Rattle.cf_super.proofs.shapes.first_unshaped.Goals as goal

pub returns-then-not-branch : goal.returns-then-not-branch
returns-then-not-branch c =
    let files = c.args.files.now in
    let file = c.index-files-i.result in
    let there : slice_get files c.loop-i.i ≡ Some file = slice_get_read files _ c.loop-i.i file refl c.loop-i-test.true c.index-files-i.is in
    first_shape files c.loop-i.i file there (λ shaped. true≢false (sym (c.in_ok-is_shaped.ensures.1 shaped) ∙ c.if-not-branch.true)) c.loop-i.invariant

pub loop-i-preserved : goal.loop-i-preserved
loop-i-preserved c =
    let files = c.args.files.now in
    let file = c.index-files-i.result in
    let there : slice_get files c.loop-i.i ≡ Some file = slice_get_read files _ c.loop-i.i file refl c.loop-i-test.true c.index-files-i.is in
    shaped_more files c.loop-i.i file there (c.in_ok-is_shaped.ensures.0 c.if-not-branch.false) c.loop-i.invariant

pub returns : goal.returns
returns c = none_shape c.args.files.now c.loop-i.i c.loop-i-test.false c.loop-i.invariant
