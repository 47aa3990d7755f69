use Rattle.cf_refs.proofs.Resolving.{looked_up, whole, lacking}
use Rattle.cf_refs.proofs.laws.entries_resolve.Goals as goal

pub returns-clause-looked_up : goal.returns-clause-looked_up
returns-clause-looked_up c = looked_up

pub returns-clause-whole : goal.returns-clause-whole
returns-clause-whole c = whole

pub returns-clause-lacking : goal.returns-clause-lacking
returns-clause-lacking c = lacking
