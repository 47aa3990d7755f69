use Rattle.cf_mutf8.proofs.Texts.{bad_one, bad_apart}
use Rattle.cf_mutf8.proofs.laws.wrong_units.Goals as goal

pub returns-clause-one : goal.returns-clause-one
returns-clause-one c = bad_one

pub returns-clause-apart : goal.returns-clause-apart
returns-clause-apart c = bad_apart
