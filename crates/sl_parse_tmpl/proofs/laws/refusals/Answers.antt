use Rattle.sl_parse_tmpl.proofs.Refused.{is_refused, one_fault, tree_or_fault, fault_within}
use Rattle.sl_parse_tmpl.proofs.laws.refusals.Goals as goal

pub returns : goal.returns
returns c = record { told = is_refused; one = one_fault; never_both = tree_or_fault; within = fault_within }
