use Rattle.sl_top.proofs.Emitted.{PrintsCode-more, ProgramCode-all}
use Rattle.sl_top.proofs.compiling.compile.Goals as goal

pub loop-chain-preserved : goal.loop-chain-preserved
loop-chain-preserved c = PrintsCode-more _ _ _ _ _ _ c.loop-chain-test.true c.chain-item.is c.loop-chain.invariant c.in_ok-put_chain.ensures c.in_ok-put.ensures

pub returns : goal.returns
returns c = ProgramCode-all _ _ _ _ c.loop-chain-test.false c.loop-chain.invariant c.in_ok-put-2.ensures
