-- What the private machine makes of code.
use Rattle.std.specs.Prelude.{ℕ, ℤ, ◌+◌, List, [], ◌∷◌, ◌++◌, Option, Some, None, option_and_then}
use Rattle.sl_num.specs.declared.int_op.IntOp.{IntOp}
use Rattle.sl_num.specs.declared.int_op.IntOp.TheVariants as operations
use Rattle.sl_num.specs.Int.{int}
use Rattle.ty_prog.specs.declared.event.Event.{Event}
use Rattle.sl_top.specs.declared.code.Instruction.{Instruction}
use Rattle.sl_top.specs.declared.code.Instruction.TheVariants.{Push, Add, Sub, Mul, Print, Return}
use Rattle.sl_top.specs.declared.machine.Machine.{Machine}
use Rattle.sl_top.specs.Trace.{printed_line}

-- a state of the machine: its operands, the topmost first, the lines that it printed, and the steps that it made
abbrev pub machine_with : List ℤ → List Event → ℕ → Machine
machine_with operands trace steps = record { operands = operands; trace = trace; steps = steps }

-- an operation takes its right operand from the top, and its left one from below that
abbrev pub after_operation : IntOp → List ℤ → List Event → ℕ → Option Machine
after_operation op [] trace steps = None
after_operation op (y ∷ []) trace steps = None
after_operation op (y ∷ x ∷ below) trace steps = Some (machine_with (int op x y ∷ below) trace steps)

-- a printing takes the topmost operand
abbrev pub after_print : List ℤ → List Event → ℕ → Option Machine
after_print [] trace steps = None
after_print (x ∷ below) trace steps = Some (machine_with below (trace ++ printed_line x ∷ []) steps)

-- one step; None where an operand is missing
abbrev pub after_step : Instruction → List ℤ → List Event → ℕ → Option Machine
after_step (Push x) operands trace steps = Some (machine_with (x ∷ operands) trace (steps + 1))
after_step Add operands trace steps = after_operation operations.Add operands trace (steps + 1)
after_step Sub operands trace steps = after_operation operations.Sub operands trace (steps + 1)
after_step Mul operands trace steps = after_operation operations.Mul operands trace (steps + 1)
after_step Print operands trace steps = after_print operands trace (steps + 1)
after_step Return operands trace steps = Some (machine_with operands trace (steps + 1))

-- code to its first Return; None where an operand or the Return is missing
abbrev pub after_code : List Instruction → Machine → Option Machine
after_code [] m = None
after_code (Return ∷ code) m = after_step Return m.operands m.trace m.steps
after_code (i ∷ code) m = option_and_then (after_code code) (after_step i m.operands m.trace m.steps)

-- the machine before its first step
abbrev pub machine_at_start : Machine
machine_at_start = machine_with [] [] 0
