use Rattle.sl_top.proofs.Parts.{one_term_more, terms_read, no_terms}
use Rattle.sl_top.proofs.reading.term.terms.Goals as goal

pub terms-preserved : goal.terms-preserved
terms-preserved c = rw c.in_ok-push.ensures.ok (one_term_more c.args.bytes.now c.terms.rest.now c.terms.terms c.in-Some.next c.in-Some.after.now c.terms.invariant c.in-Some.ensures)

pub returns-in-Some-behind : goal.returns-in-Some-behind
returns-in-Some-behind c = terms_read c.args.bytes.now c.terms.rest.now c.terms.terms c.in-Some-behind.after.now c.terms.invariant c.in_default.ensures c.in-Some-behind.ensures

pub returns : goal.returns
returns c _ = no_terms c.args.bytes.now c.terms.rest.now c.terms.terms c.terms.invariant c.in_default.ensures c.in-None.ensures
