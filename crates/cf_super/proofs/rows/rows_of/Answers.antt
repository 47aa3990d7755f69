use Rattle.std.proofs.Common.{◌∙◌, ap, map, ◌++◌}
use Rattle.std.proofs.lemmas.List.{take_all}
use Rattle.cf_super.specs.Rows.{built_in_rows, row_of, rows_of}
use Rattle.cf_super.proofs.rows.rows_of.Goals as goal

pub returns : goal.returns
unfolding rows_of
returns c = c.loop-file.invariant ∙ ap (λ fs. built_in_rows ++ map (row_of c.args.names.now) fs) (take_all c.loop-file.file-index c.args.files.now c.loop-file-test.false)
