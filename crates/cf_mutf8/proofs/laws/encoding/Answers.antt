use Rattle.cf_mutf8.proofs.Texts.{encoded_one, encoded_within}
use Rattle.cf_mutf8.proofs.laws.encoding.Goals as goal

pub returns-clause-one : goal.returns-clause-one
returns-clause-one c = encoded_one

pub returns-clause-bytes : goal.returns-clause-bytes
returns-clause-bytes c = encoded_within
