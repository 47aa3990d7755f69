use Rattle.vm_heap.proofs.Joins.{over}
use Rattle.vm_heap.proofs.stepping.instruct.Goals as goal

pub returns-in-Ends : goal.returns-in-Ends
returns-in-Ends c =
    over c.args.k.now c.args.h.now c.do_top.new.h c.end.new.h c.args.t.now c.do_top.new.t c.end.new.t c.end.result c.in-Ends.ensures.1 c.in-Ends.ensures.2 c.end.ensures

pub returns-in-Rests : goal.returns-in-Rests
returns-in-Rests c =
    over c.args.k.now c.args.h.now c.do_top.new.h c.finish.new.h c.args.t.now c.do_top.new.t c.finish.new.t c.finish.result c.in-Rests.ensures.1 c.in-Rests.ensures.2 c.finish.ensures
