use Rattle.sl_source.proofs.Once.{one_of_bytes, one_first, tree_or_first}
use Rattle.sl_source.proofs.laws.sources.Goals as goal

pub returns-clause-tree : goal.returns-clause-tree
returns-clause-tree c = one_of_bytes c.lexing.ensures.tokens c.lexing.ensures.never_both c.lexing.ensures.fault c.separated.ensures.tokens c.spots.ensures.line c.spots.ensures.column
    c.files.ensures.one c.refusals.ensures.one c.refusals.ensures.never_both c.encoding.ensures.text c.encoding.ensures.first c.encoding.ensures.apart

pub returns-clause-fault : goal.returns-clause-fault
returns-clause-fault c = λ bytes one other f g. one_first c.lexing.ensures.tokens c.lexing.ensures.never_both c.lexing.ensures.fault c.separated.ensures.tokens c.spots.ensures.line c.spots.ensures.column
    c.files.ensures.one c.refusals.ensures.one c.refusals.ensures.never_both c.encoding.ensures.text c.encoding.ensures.first c.encoding.ensures.apart f other g

pub returns-clause-never_both : goal.returns-clause-never_both
returns-clause-never_both c = λ bytes tree r t f. tree_or_first c.lexing.ensures.tokens c.lexing.ensures.never_both c.lexing.ensures.fault c.separated.ensures.tokens c.spots.ensures.line c.spots.ensures.column
    c.files.ensures.one c.refusals.ensures.one c.refusals.ensures.never_both c.encoding.ensures.text c.encoding.ensures.first c.encoding.ensures.apart f tree t
