use Rattle.std.proofs.Common.{◌≡◌, suc, ◌+◌, ◌-◌, ◌++◌, [], ◌∷◌, map, take, drop, sym, ap, ◌∙◌, arith}
use Rattle.ty_prog.specs.Part.{in_order}
use Rattle.ty_prog.specs.Rebuilt.{as_case}
use Rattle.ty_prog.proofs.Stacks.{one_more_of, one_dropped}
use Rattle.ty_prog.proofs.parts.cases.Goals as goal

pub loop-preserved : goal.loop-preserved
loop-preserved c =
    let n = c.args.count - (c.loop.counter + 1) in
    let more : c.args.count - c.loop.counter ≡ suc n = omega (arith, c.loop-test.true) in
    let pushed = c.in_ok-push-in-Some.ensures.ok ∙ ap (λ item. c.loop.made ++ item ∷ []) c.as_case.ensures in
    record {
      taken = ap (λ made. made ++ map as_case (take n (in_order c.pop.new.self))) pushed
          ∙ one_more_of as_case c.loop.made n c.loop.left c.pop.new.self c.in-Some.part c.in-Some.ensures
          ∙ ap (λ m. c.loop.made ++ map as_case (take m (in_order c.loop.left))) (sym more) ∙ c.loop.invariant.taken;
      rest = one_dropped n c.loop.left c.pop.new.self c.in-Some.part c.in-Some.ensures
          ∙ ap (λ m. drop m (in_order c.loop.left)) (sym more) ∙ c.loop.invariant.rest;
    }
