use Rattle.std.proofs.Common.{[]}
use Rattle.sl_parse_tmpl.specs.Faults.{nesting}
use Rattle.sl_parse_tmpl.specs.Rules.{unit_to}
use Rattle.sl_parse_tmpl.proofs.Within.{tree_or_fault, never_both, fault_within}
use Rattle.sl_parse_tmpl.proofs.laws.parsing.Goals as goal

pub returns : goal.returns
returns c = record {
  either = λ tokens. tree_or_fault tokens (unit_to nesting ([], tokens));
  never_both = λ tokens. never_both tokens (unit_to nesting ([], tokens));
  within = fault_within;
}
