use Rattle.std.proofs.Common.{◌≡◌, ◌≤◌, true, get_or, length, subst, Some, slice_get}
use Rattle.std.specs.Bool.{Decides}
use Rattle.std.proofs.lemmas.Option.{slice_get-get_or}
use Rattle.cf_link.specs.Faults.{IsInterfaceAt}
use Rattle.cf_super.proofs.Shaped.{decided_all, decided_none, more_of}
use Rattle.cf_super.proofs.shapes.are_interfaces.Goals as goal

pub returns-then-not-is_at : goal.returns-then-not-is_at
returns-then-not-is_at c =
    let xs = c.as_slice-index-items.result.now in
    let ys = c.args.file.now.interfaces in
    let P = IsInterfaceAt c.args.files.now true c.args.file.now in
    let i = c.loop-index.index-index in
    let fact : Decides c.is_at.result (P (get_or xs i 0)) = c.is_at.ensures in
    let at : slice_get ys i ≡ Some (get_or xs i 0) = subst (λ zs. slice_get zs i ≡ Some (get_or xs i 0)) c.as_slice-index-items.ensures (slice_get-get_or xs i 0 c.loop-index-test.true) in
    decided_none P ys i (get_or xs i 0) at c.is_at.result fact c.if-not-is_at.true

pub loop-index-preserved : goal.loop-index-preserved
loop-index-preserved c =
    let xs = c.as_slice-index-items.result.now in
    let ys = c.args.file.now.interfaces in
    let P = IsInterfaceAt c.args.files.now true c.args.file.now in
    let i = c.loop-index.index-index in
    let fact : Decides c.is_at.result (P (get_or xs i 0)) = c.is_at.ensures in
    let at : slice_get ys i ≡ Some (get_or xs i 0) = subst (λ zs. slice_get zs i ≡ Some (get_or xs i 0)) c.as_slice-index-items.ensures (slice_get-get_or xs i 0 c.loop-index-test.true) in
    more_of P ys i (get_or xs i 0) at c.loop-index.invariant (fact.0 c.if-not-is_at.false)

pub returns : goal.returns
returns c =
    let past : length c.args.file.now.interfaces ≤ c.loop-index.index-index = subst (λ zs. length zs ≤ c.loop-index.index-index) c.as_slice-index-items.ensures c.loop-index-test.false in
    decided_all (IsInterfaceAt c.args.files.now true c.args.file.now) c.args.file.now.interfaces c.loop-index.index-index past c.loop-index.invariant
