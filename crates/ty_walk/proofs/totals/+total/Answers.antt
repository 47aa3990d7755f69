use Rattle.std.proofs.Common.{sym, ap, arith, ◌∙◌, min, sum_by, take, slice_get}
use Rattle.std.proofs.lemmas.Option.{slice_get_within}
use Rattle.ty_prog.specs.Node.{tree_of}
use Rattle.ty_prog.specs.Tree.{children}
use Rattle.ty_walk.specs.SumOver.{sum_over}
use Rattle.ty_walk.proofs.Sums.{over_next, over_all}
use Rattle.ty_walk.proofs.totals.+total.Goals as goal

pub loop-next-smaller : goal.loop-next-smaller
loop-next-smaller g t c =
    let is = c.in-Some.ensures.child ∙ ap (λ node. slice_get (children (tree_of node)) c.loop-next.rest.at) c.loop-next.invariant.node in
    omega (arith, slice_get_within (children (tree_of c.args.root)) c.loop-next.rest.at (tree_of c.in-Some.next) (sym is), c.in-Some.ensures.at)

pub loop-next-preserved : goal.loop-next-preserved
loop-next-preserved g t c =
    let is = c.in-Some.ensures.child ∙ ap (λ node. slice_get (children (tree_of node)) c.loop-next.rest.at) c.loop-next.invariant.node in
    let next = over_next (g.M.Measure.of c.args.measure.now) (children (tree_of c.args.root)) c.loop-next.rest.at (tree_of c.in-Some.next) is in
    let further = ap (λ at. sum_by (sum_over (g.M.Measure.of c.args.measure.now)) (take at (children (tree_of c.args.root)))) c.in-Some.ensures.at in
    record {
      node = c.in-Some.ensures.node ∙ c.loop-next.invariant.node;
      summed = omega (arith, c.loop-next.invariant.summed, c.total.ensures, c.saturating_add-sum.ensures, next, further);
    }

pub returns : goal.returns
returns g t c =
    let none = c.in_default.ensures.child ∙ ap (λ node. slice_get (children (tree_of node)) c.loop-next.rest.at) c.loop-next.invariant.node in
    c.loop-next.invariant.summed ∙ ap (λ n. min n 4294967295) (over_all (g.M.Measure.of c.args.measure.now) (tree_of c.args.root) c.loop-next.rest.at none)
