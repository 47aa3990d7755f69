use Rattle.cf_refs.proofs.MainMethod.{looked_up, whole}
use Rattle.cf_refs.proofs.laws.main_starts.Goals as goal

pub returns-clause-looked_up : goal.returns-clause-looked_up
returns-clause-looked_up c = looked_up

pub returns-clause-whole : goal.returns-clause-whole
returns-clause-whole c = whole
