use Rattle.std.proofs.Common.{◌≡◌, ◌-◌, ◌++◌, suc, take, drop, Some, ap, sym, ◌∙◌, arith}
use Rattle.std.specs.Prelude.{slice_get}
use Rattle.vm_state.specs.Local.{as_locals, local_values}
use Rattle.vm_state.proofs.Lists.{drop_item, slice_get-take}
use Rattle.vm_state.proofs.entering.arguments.Goals as goal

pub loop-left-preserved : goal.loop-left-preserved
loop-left-preserved c =
    let xs = c.args.stack.now.values in
    let ts = take c.args.count xs in
    let k = c.loop-left.left - 1 in
    let x = c.in-Some.v in
    let le = c.loop-left.invariant.0 in
    let is : slice_get ts k ≡ Some x = slice_get-take xs c.args.count k (omega arith) ∙ sym c.in-Some.ensures in
    let count : suc k ≡ c.loop-left.left = omega arith in
    let made = c.loop-left.invariant.1 ∙ ap (λ n. as_locals (drop n ts)) (sym count) in
    (omega arith, c.in_ok-add_locals.ensures ∙ ap (λ l. l ++ local_values x) made ∙ sym (ap as_locals (drop_item ts k x is)))
