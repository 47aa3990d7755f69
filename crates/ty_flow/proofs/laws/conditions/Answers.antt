use Rattle.std.proofs.Common.{true, false}
use Rattle.ty_flow.proofs.Levels.{if_set_true, if_set_false, if_true, if_false, while_sets, while_reads, block_true, block_false, not_true, not_false, literal_true, literal_false, test_sets}
use Rattle.ty_flow.proofs.laws.conditions.Goals as goal

pub returns : goal.returns
returns c = record {
  reads_where_false = if_set_true;
  reads_where_true = if_set_false;
  if_true = if_true;
  if_false = if_false;
  repeated = while_sets;
  repeating = while_reads;
  last_true = block_true;
  last_false = block_false;
  not_true = not_true;
  not_false = not_false;
  always = λ local. literal_false local true;
  never = λ local. literal_true local false;
  matched = test_sets;
}
