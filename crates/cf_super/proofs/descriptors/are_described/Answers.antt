use Rattle.std.proofs.Common.{◌≡◌, Some, slice_get, refl}
use Rattle.std.proofs.lemmas.Option.{slice_get_read}
use Rattle.cf_link.specs.Faults.{IsDescribed}
use Rattle.cf_super.proofs.Shaped.{decided_all, more_of}
use Rattle.cf_super.proofs.descriptors.are_described.Goals as goal

pub loop-constant-preserved : goal.loop-constant-preserved
loop-constant-preserved c =
    let xs = c.args.pool.now in
    let item = c.constant-item.result in
    let at : slice_get xs c.loop-constant.constant-index ≡ Some item = slice_get_read xs _ c.loop-constant.constant-index item refl c.loop-constant-test.true c.constant-item.is in
    more_of (IsDescribed c.args.pool.now) xs c.loop-constant.constant-index item at c.loop-constant.invariant (c.in_ok-is_described.ensures.0 c.if-not-branch.false)

pub returns : goal.returns
returns c = decided_all (IsDescribed c.args.pool.now) (c.args.pool.now) c.loop-constant.constant-index c.loop-constant-test.false c.loop-constant.invariant
