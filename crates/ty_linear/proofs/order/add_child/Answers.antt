use Rattle.std.proofs.Common.{◌≡◌, subst, take, arith}
use Rattle.std.proofs.lemmas.List.{take_all}
use Rattle.ty_linear.proofs.Children.{AreAdded, added_none, added_more}
use Rattle.ty_linear.proofs.order.add_child.Goals as goal

pub loop-parent-init : goal.loop-parent-init
loop-parent-init c = added_none c.args.children.now c.args.child

pub loop-parent-preserved : goal.loop-parent-preserved
loop-parent-preserved c =
    let i = c.loop-parent.parent-index in
    let low = c.requires i 0 (omega arith) in
    added_more c.args.children.now c.loop-parent.children c.args.child i c.args.parents.now c.push.new.self c.index-children-parent.result (omega arith) (omega (arith, low))
    c.in_ok-push.ensures.items c.loop-parent.invariant

pub returns : goal.returns
returns c =
    let all : take c.loop-parent.parent-index c.args.parents.now ≡ c.args.parents.now = take_all c.loop-parent.parent-index c.args.parents.now (omega arith) in
    subst (AreAdded c.args.children.now c.loop-parent.children c.args.child) all c.loop-parent.invariant
