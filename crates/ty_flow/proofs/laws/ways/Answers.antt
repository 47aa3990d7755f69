use Rattle.ty_flow.proofs.Levels.{throw_reads, throw_leaves, set_reads, set_sets, block_reads, handler_reads}
use Rattle.ty_flow.proofs.laws.ways.Goals as goal

pub returns : goal.returns
returns c = record {
  throw = throw_reads;
  leaves = throw_leaves;
  store = set_reads;
  stored = set_sets;
  block = block_reads;
  handler = handler_reads;
}
