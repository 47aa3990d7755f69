use Rattle.std.proofs.Common.{ℕ, List, refl, arith}
use Rattle.std.specs.Prelude.{◌≢◌}
use Rattle.ty_complete.proofs.Pairs.{pairs_at, pairs_more}
use Rattle.ty_complete.proofs.files.all_apart.Goals as goal

abbrev Apart : List ℕ → List ℕ → Type 0
Apart one other = one ≢ other

pub returns-then-not-is_none_of : goal.returns-then-not-is_none_of
returns-then-not-is_none_of c =
    (λ h. absurd (cc), λ all. cc (c.is_none_of.ensures.1 (pairs_at Apart c.args.names.now c.loop-i.i _ c.loop-i-test.true c.index-names-i.is all)))

pub loop-i-preserved : goal.loop-i-preserved
loop-i-preserved c =
    pairs_more Apart c.args.names.now c.loop-i.i _ c.loop-i-test.true c.index-names-i.is c.loop-i.invariant (c.is_none_of.ensures.0 c.if-not-is_none_of.false)

pub returns : goal.returns
returns c = (λ h i j d first second. c.loop-i.invariant i j d (omega arith) first second, λ h. refl)
