use Rattle.std.proofs.Common.{take}
use Rattle.sl_top.specs.Code.{PrintsCode}
use Rattle.sl_top.proofs.compiling.compile.Given as goal

abbrev pub invariant-loop-chain : goal.invariant-loop-chain
invariant-loop-chain l = PrintsCode (take l.chain-index l.chains) l.code.items
