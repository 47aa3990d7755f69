use Rattle.std.proofs.Common.{◌≡◌, [], ◌∷◌, ◌++◌, arith}
use Rattle.ty_linear.proofs.Counts.{ready_to_none, ready_to_push, ready_to_skip, ready_to_all}
use Rattle.ty_linear.proofs.order.orphans.Goals as goal
use Rattle.ty_linear.proofs.order.orphans.Goals.{then-count-eq0+in_ok-push, else-count-eq0}

pub loop-class-init : goal.loop-class-init
loop-class-init c = rw c.new-ready.ensures.items (ready_to_none c.args.waiting.now)

pub loop-class-preserved : goal.loop-class-preserved
loop-class-preserved c =
    let k = c.loop-class.class in
    elim c.if-count-eq0.branch [
      | then-count-eq0+in_ok-push w ↦ (
          let items : c.if-count-eq0.ready.items ≡ c.loop-class.ready.items ++ k ∷ [] = rw w.ready-is w.in_ok-push.ensures.items in
          rw items (ready_to_push c.args.waiting.now c.loop-class.ready.items k c.loop-class.invariant w.if-count-eq0.true))
      | else-count-eq0 w ↦ (rw w.ready-is (ready_to_skip c.args.waiting.now c.loop-class.ready.items k c.loop-class.invariant w.if-count-eq0.false))
    ]

pub returns : goal.returns
returns c = ready_to_all c.args.waiting.now c.loop-class.ready.items c.loop-class.class (omega arith) c.loop-class.invariant
