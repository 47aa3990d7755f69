use Rattle.sl_text.proofs.Lines.{line_one, column_one}
use Rattle.sl_text.proofs.laws.spots.Goals as goal

pub returns-clause-line : goal.returns-clause-line
returns-clause-line c = line_one

pub returns-clause-column : goal.returns-clause-column
returns-clause-column c = column_one
