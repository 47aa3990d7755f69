use Rattle.std.proofs.Common.{◌<◌, arith}
use Rattle.vm_local.proofs.Leaving.{one_more, counted_few}
use Rattle.vm_local.proofs.run_some.Goals as goal

pub returns-in-Some-left : goal.returns-in-Some-left
returns-in-Some-left c =
    let n = c.run_top-ran.result.count in
    let step = c.leave-step.result in
    let more = one_more c.args.k.now n c.args.t.now c.run_top-ran.new.t c.leave-step.new.t step c.run_top-ran.ensures.all c.run_top-ran.ensures.thread c.leave-step.ensures in
    let few : n < c.args.most = rw c.in-Some-left.is at c.run_top-ran.ensures.few in
    record {
      few = omega (arith, c.counted.ensures.count, counted_few n step, few);
      all = rw c.counted.ensures.count more.all;
      thread = rw c.counted.ensures.count more.thread;
      next = rw c.counted.ensures.step more.next;
    }
