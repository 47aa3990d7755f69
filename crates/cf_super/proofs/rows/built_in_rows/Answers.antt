use Rattle.std.proofs.Common.{rules}
use Rattle.cf_super.specs.Rows.{built_in_rows}
use Rattle.cf_super.proofs.rows.built_in_rows.Goals as goal

pub returns : goal.returns
unfolding built_in_rows
returns c = search rules
