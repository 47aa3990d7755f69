use Rattle.cf_write.proofs.Spellings.{one_spelling, spelled_is}
use Rattle.cf_write.proofs.laws.spelling.Goals as goal

pub returns-clause-one : goal.returns-clause-one
returns-clause-one c = one_spelling

pub returns-clause-exact : goal.returns-clause-exact
returns-clause-exact c = spelled_is
