use Rattle.std.proofs.Common.{false, arith, rules}
use Rattle.cf_instr.proofs.Beginning.{allows-plain, handed, behind_wide}
use Rattle.cf_instr.proofs.reading.instr_of.Goals as goal

pub returns-in-Some-Wide : goal.returns-in-Some-Wide
returns-in-Some-Wide c = behind_wide c.args.op c.args.bytes.now c.wide_instr_of.result (cc) c.wide_instr_of.ensures

pub returns-in-Some : goal.returns-in-Some
returns-in-Some c = handed c.args.op false c.in-Some.shape c.args.bytes.now (cc) (allows-plain c.in-Some.shape (search rules)) (λ i. omega (arith, c.type_inv.bytes i)) c.plain.result c.plain.ensures c.with_operands.result c.with_operands.ensures
