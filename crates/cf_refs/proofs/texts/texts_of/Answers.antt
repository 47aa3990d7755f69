use Rattle.std.proofs.Common.{◌≡◌, ◌∙◌, ℕ, List, [], Some, slice_get, refl, ap}
use Rattle.std.specs.List.{flat_map}
use Rattle.std.proofs.lemmas.Option.{slice_get_read}
use Rattle.cf_form.specs.declared.class_file.ClassFile.{ClassFile}
use Rattle.cf_link.specs.OfFiles.{each_once, string_text}
use Rattle.cf_refs.proofs.Once.{once_more}
use Rattle.cf_refs.proofs.texts.texts_of.Goals as goal

pub loop-file-preserved : goal.loop-file-preserved
loop-file-preserved c =
    let files = c.args.files.now in
    let file = c.file-item.result in
    let f : ClassFile → List (List ℕ) = λ file. flat_map (string_text file.pool) file.pool in
    let at : slice_get files c.loop-file.file-index ≡ Some file = slice_get_read files _ c.loop-file.file-index file refl c.loop-file-test.true c.file-item.is in
    c.in_ok-put_texts.ensures ∙ ap (λ pool. each_once c.loop-file.texts (flat_map (string_text pool) pool)) c.as_slice.ensures
    ∙ ap (λ texts. each_once texts (f file)) c.loop-file.invariant ∙ once_more f [] files c.loop-file.file-index file at
