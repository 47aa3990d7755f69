use Rattle.std.proofs.Common.{◌≡◌, ◌∙◌, sym, ap, Some, slice_get, refl, length, subst}
use Rattle.std.proofs.lemmas.Option.{slice_get_read}
use Rattle.cf_set.specs.First.{LacksAt, NoneBefore}
use Rattle.cf_set.proofs.Missing.{file_clear, first_no_class, none_no_class}
use Rattle.cf_set.proofs.class_names.first_missing.Goals as goal

pub returns-in-Some : goal.returns-in-Some
returns-in-Some c =
    let files = c.args.files.now in
    let file = c.index-files-i.result in
    let names = c.args.names.now in
    let there : slice_get files c.loop-i.i ≡ Some file = slice_get_read files _ c.loop-i.i file refl c.loop-i-test.true c.index-files-i.is in
    let found : LacksAt names file.pool c.in-Some.number × NoneBefore (LacksAt names file.pool) c.in-Some.number =
    subst (λ pool. LacksAt names pool c.in-Some.number × NoneBefore (LacksAt names pool) c.in-Some.number) (c.as_slice.ensures ∙ sym (ap (λ f. f.pool) c.index-files-i.is)) c.in-Some.ensures in
    first_no_class files c.loop-i.i c.in-Some.number file names c.requires there found.0 found.1 c.loop-i.invariant

pub loop-i-preserved : goal.loop-i-preserved
loop-i-preserved c =
    let files = c.args.files.now in
    let file = c.index-files-i.result in
    let names = c.args.names.now in
    let there : slice_get files c.loop-i.i ≡ Some file = slice_get_read files _ c.loop-i.i file refl c.loop-i-test.true c.index-files-i.is in
    file_clear files c.loop-i.i file names c.requires there
    (subst (λ pool. NoneBefore (LacksAt names pool) (length pool)) (c.as_slice.ensures ∙ sym (ap (λ f. f.pool) c.index-files-i.is)) c.in-None.ensures) c.loop-i.invariant

pub returns : goal.returns
returns c = none_no_class c.args.files.now c.loop-i.i c.loop-i-test.false c.loop-i.invariant
