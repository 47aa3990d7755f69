use Rattle.std.proofs.Common.{true, arith, refl}
use Rattle.cf_form.specs.declared.shape.Shape.TheVariants.{Local, Step}
use Rattle.cf_instr.proofs.Beginning.{handed}
use Rattle.cf_instr.proofs.reading.widened_of.Goals as goal

pub returns-in-Some-Local : goal.returns-in-Some-Local
returns-in-Some-Local c = handed c.args.op true Local c.args.bytes.now (cc) refl (λ i. omega (arith, c.type_inv.bytes i)) c.widened.result c.widened.ensures c.with_operands.result c.with_operands.ensures

pub returns-in-Some-Step : goal.returns-in-Some-Step
returns-in-Some-Step c = handed c.args.op true Step c.args.bytes.now (cc) refl (λ i. omega (arith, c.type_inv.bytes i)) c.widened-in-Some-Step.result c.widened-in-Some-Step.ensures c.with_operands-in-Some-Step.result c.with_operands-in-Some-Step.ensures
