use Rattle.std.proofs.Common.{arith}
use Rattle.cf_write.proofs.Offsets.{info_length, code-length}
use Rattle.cf_write.proofs.codes.info_size.Goals as goal

pub overflow_add-result : goal.overflow_add-result
overflow_add-result c =
    omega (arith, c.code_size.ensures, code-length c.args.code.now.instrs, c.requires.writable.most)

pub overflow_add-result-2 : goal.overflow_add-result-2
overflow_add-result-2 c =
    omega (arith, c.code_size.ensures, c.len.ensures, code-length c.args.code.now.instrs, c.requires.writable.most, c.requires.writable.count)

pub returns : goal.returns
returns c = omega (arith, c.code_size.ensures, c.len.ensures, info_length c.args.code.now)
