use Rattle.cf_write.proofs.Offsets.{offsets_small}
use Rattle.cf_write.proofs.codes.put_each_handler.Goals as goal

pub put_handler-requires-clause-small : goal.put_handler-requires-clause-small
put_handler-requires-clause-small c =
    offsets_small c.args.code.now.instrs c.args.starts.now c.requires.starts c.requires.writable.most
