use Rattle.std.proofs.Common.{ℕ, get_or, refl, arith}
use Rattle.std.specs.Prelude.{◌≢◌}
use Rattle.std.proofs.lemmas.List.{get_or_default}
use Rattle.ty_complete.proofs.Pairs.{pairs_at, pairs_more}
use Rattle.ty_complete.proofs.parents.all_apart.Goals as goal

abbrev Apart : ℕ → ℕ → Type 0
Apart one other = one ≢ other

pub returns-then-not-is_none_of : goal.returns-then-not-is_none_of
returns-then-not-is_none_of c =
    let numbers = c.args.numbers.now in
    let i = c.loop-i.i in
    let here = get_or_default numbers i 0 (get_or numbers i 0) c.loop-i-test.true in
    (λ h. absurd (cc), λ all. cc (c.is_none_of.ensures.1 (pairs_at Apart numbers i (get_or numbers i 0) c.loop-i-test.true here all)))

pub loop-i-preserved : goal.loop-i-preserved
loop-i-preserved c =
    let numbers = c.args.numbers.now in
    let i = c.loop-i.i in
    let here = get_or_default numbers i 0 (get_or numbers i 0) c.loop-i-test.true in
    pairs_more Apart numbers i (get_or numbers i 0) c.loop-i-test.true here c.loop-i.invariant (c.is_none_of.ensures.0 c.if-not-is_none_of.false)

pub returns : goal.returns
returns c = (λ h i j d first second. c.loop-i.invariant i j d (omega arith) first second, λ h. refl)
