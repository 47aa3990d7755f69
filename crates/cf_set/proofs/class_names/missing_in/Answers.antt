use Rattle.std.proofs.Common.{arith, ◌≡◌, ◌∙◌, sym, Some, slice_get, refl}
use Rattle.std.proofs.lemmas.Option.{slice_get_read}
use Rattle.cf_set.specs.First.{LacksAt}
use Rattle.cf_set.proofs.Missing.{none_more, not_here}
use Rattle.cf_set.proofs.class_names.missing_in.Goals as goal

pub loop-i-preserved : goal.loop-i-preserved
loop-i-preserved c =
    let pool = c.args.pool.now in
    let entry = c.index-pool-i.result in
    let there : slice_get pool c.loop-i.i ≡ Some entry = slice_get_read pool _ c.loop-i.i entry refl c.loop-i-test.true c.index-pool-i.is in
    none_more (LacksAt c.args.names.now pool) c.loop-i.i c.loop-i.invariant
    (not_here c.args.names.now pool c.loop-i.i entry there (sym c.is_missing.ensures ∙ c.if-is_missing.false))

pub returns : goal.returns
returns c = λ k below one. c.loop-i.invariant k (omega (arith, below, c.loop-i-test.false)) one
