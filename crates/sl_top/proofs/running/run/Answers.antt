use Rattle.sl_top.proofs.Runs.{length-ProgramCode, program_returns, program_prints, program_counts}
use Rattle.sl_top.proofs.running.run.Goals as goal

pub execute-requires-clause-returns : goal.execute-requires-clause-returns
execute-requires-clause-returns c = rw c.as_slice.ensures.value (program_returns _ _ c.in_ok-code.ensures)

pub execute-requires-clause-fits : goal.execute-requires-clause-fits
execute-requires-clause-fits c = rw (c.as_slice.ensures.value, length-ProgramCode _ _ c.in_ok-code.ensures) c.requires.fits

pub returns-clause-printed : goal.returns-clause-printed
returns-clause-printed c = program_prints _ _ _ c.in_ok-code.ensures (rw c.as_slice.ensures.value at c.in_ok-trace.ensures)

pub returns-clause-steps : goal.returns-clause-steps
returns-clause-steps c = program_counts _ _ _ c.in_ok-code.ensures (rw c.as_slice.ensures.value at c.in_ok-trace.ensures)
