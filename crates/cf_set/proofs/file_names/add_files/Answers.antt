use Rattle.std.proofs.Common.{◌≡◌, ◌∙◌, Some, slice_get, sym, ap, refl, true, false}
use Rattle.cf_link.specs.OfFiles.{has_text, name_of}
use Rattle.cf_set.specs.Names.{with_name}
use Rattle.cf_set.proofs.Twice.{one_more, first_twice, none_twice}
use Rattle.std.proofs.lemmas.Option.{slice_get_read}
use Rattle.std.proofs.lemmas.Bool.{not-true, not-false}
use Rattle.cf_set.proofs.file_names.add_files.Goals as goal

pub returns-then-not-branch : goal.returns-then-not-branch
returns-then-not-branch c =
    let files = c.args.files.now in
    let file = c.index-files-i.result in
    let there : slice_get files c.loop-i.i ≡ Some file = slice_get_read files _ c.loop-i.i file refl c.loop-i-test.true c.index-files-i.is in
    let again : has_text c.loop-i.names (name_of file) ≡ true =
    ap (has_text c.loop-i.names) (sym c.name_of.ensures) ∙ not-false _ (sym c.in_ok-add.ensures.is_new ∙ c.if-not-branch.true) in
    first_twice files c.loop-i.i c.loop-i.names file c.loop-i.invariant there again

pub loop-i-preserved : goal.loop-i-preserved
loop-i-preserved c =
    let files = c.args.files.now in
    let file = c.index-files-i.result in
    let there : slice_get files c.loop-i.i ≡ Some file = slice_get_read files _ c.loop-i.i file refl c.loop-i-test.true c.index-files-i.is in
    let is_new : has_text c.loop-i.names (name_of file) ≡ false =
    ap (has_text c.loop-i.names) (sym c.name_of.ensures) ∙ not-true _ (sym c.in_ok-add.ensures.is_new ∙ c.if-not-branch.false) in
    one_more files c.loop-i.i c.loop-i.names c.add.new.self file c.loop-i.invariant there is_new
    (c.in_ok-add.ensures.names ∙ ap (with_name c.loop-i.names) c.name_of.ensures)

pub returns : goal.returns
returns c = none_twice c.args.files.now c.loop-i.i c.loop-i.names c.loop-i-test.false c.loop-i.invariant
