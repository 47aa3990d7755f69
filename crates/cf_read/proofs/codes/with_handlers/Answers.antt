use Rattle.cf_read.specs.Views.{found_of}
use Rattle.cf_read.proofs.Rows.{code_within, code_stop}
use Rattle.cf_read.proofs.codes.with_handlers.Goals as goal

pub read_handlers-requires-clause-short : goal.read_handlers-requires-clause-short
read_handlers-requires-clause-short c =
    rw c.deref.ensures.value (code_within c.args.found.now.code.now c.args.instrs.items 65535 c.requires.is_code c.requires.instrs c.requires.short).0

pub read_handlers-requires-clause-few : goal.read_handlers-requires-clause-few
read_handlers-requires-clause-few c =
    rw c.deref.ensures.value (code_within c.args.found.now.code.now c.args.instrs.items 65535 c.requires.is_code c.requires.instrs c.requires.short).1

pub returns-in-Err : goal.returns-in-Err
returns-in-Err c =
    let h = rw (c.deref.ensures.value, c.as_slice-rows.ensures.value) at c.in-Err.ensures in
    code_stop c.args.pool.now (found_of c.args.found.now) c.args.instrs.items c.in-Err.stop c.requires.is_code c.requires.instrs c.requires.names h
