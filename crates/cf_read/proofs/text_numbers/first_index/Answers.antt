use Rattle.std.proofs.Common.{arith}
use Rattle.std.proofs.lemmas.Map.Text.{text_keys}
use Rattle.cf_read.proofs.text_numbers.first_index.Goals as goal

pub returns-clause-updates : goal.returns-clause-updates
returns-clause-updates c = λ bytes. grind (arith, text_keys)
