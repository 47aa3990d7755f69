use Rattle.std.proofs.Common.{sym, true, false, None, Some, arith, ap, refl}
use Rattle.cf_instr.specs.Reading.{width}
use Rattle.cf_instr.proofs.Sizes.{size_of_shape}
use Rattle.cf_instr.proofs.starts.size.Goals as goal

pub returns-then-instr : goal.returns-then-instr
returns-then-instr c =
    let e = size_of_shape c.args.instr.now (Some c.in-Some.shape) true (cc) (cc) in
    omega (arith, e, c.operand_count-operands.ensures, ap (width c.in-Some.shape) c.if-instr.true)

pub returns-else-instr : goal.returns-else-instr
returns-else-instr c =
    let e = size_of_shape c.args.instr.now (Some c.in-Some.shape) false (cc) (cc) in
    omega (arith, e, c.operand_count-operands.ensures, ap (width c.in-Some.shape) c.if-instr.false)

pub returns-in-None : goal.returns-in-None
returns-in-None c = sym (size_of_shape c.args.instr.now None _ (cc) refl)
