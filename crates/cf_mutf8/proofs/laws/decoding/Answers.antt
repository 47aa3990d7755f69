use Rattle.cf_mutf8.proofs.FirstCharacters.{decoded_iff}
use Rattle.cf_mutf8.proofs.laws.decoding.Goals as goal

pub returns : goal.returns
returns c = decoded_iff
