use Rattle.std.proofs.Common.{sym, subst, ap, arith, ◌∙◌, slice_get}
use Rattle.std.proofs.lemmas.Option.{slice_get_within}
use Rattle.ty_prog.specs.Node.{tree_of}
use Rattle.ty_prog.specs.Tree.{children}
use Rattle.ty_walk.proofs.Spreading.{Before, broken_at_root, broken_at_child, kept_at_child, kept_throughout}
use Rattle.ty_walk.proofs.walking.+holds_everywhere.Goals as goal

pub returns-then-not-holds : goal.returns-then-not-holds
returns-then-not-holds g t c =
    broken_at_root (g.R.Rule.holds c.args.rule.now) (tree_of c.args.root) (sym c.holds.ensures ∙ c.if-not-holds.true)

pub returns-then-not-holds_everywhere : goal.returns-then-not-holds_everywhere
returns-then-not-holds_everywhere g t c =
    let is = c.in-Some.ensures.child ∙ ap (λ node. slice_get (children (tree_of node)) c.loop-next.rest.at) c.loop-next.invariant.node in
    broken_at_child (g.R.Rule.holds c.args.rule.now) (tree_of c.args.root) c.loop-next.rest.at (tree_of c.in-Some.next)
    c.holds_everywhere.result (sym is) c.holds_everywhere.ensures c.if-not-holds_everywhere.true

pub loop-next-smaller : goal.loop-next-smaller
loop-next-smaller g t c =
    let is = c.in-Some.ensures.child ∙ ap (λ node. slice_get (children (tree_of node)) c.loop-next.rest.at) c.loop-next.invariant.node in
    omega (arith, slice_get_within (children (tree_of c.args.root)) c.loop-next.rest.at (tree_of c.in-Some.next) (sym is), c.in-Some.ensures.at)

pub loop-next-preserved : goal.loop-next-preserved
loop-next-preserved g t c =
    let is = c.in-Some.ensures.child ∙ ap (λ node. slice_get (children (tree_of node)) c.loop-next.rest.at) c.loop-next.invariant.node in
    record {
      node = c.in-Some.ensures.node ∙ c.loop-next.invariant.node;
      before = subst (Before _ (tree_of c.args.root)) (sym c.in-Some.ensures.at)
          (kept_at_child (g.R.Rule.holds c.args.rule.now) (tree_of c.args.root) c.loop-next.rest.at (tree_of c.in-Some.next)
          c.holds_everywhere.result (sym is) c.holds_everywhere.ensures c.if-not-holds_everywhere.false c.loop-next.invariant.before);
    }

pub returns : goal.returns
returns g t c =
    let none = c.in_default.ensures.child ∙ ap (λ node. slice_get (children (tree_of node)) c.loop-next.rest.at) c.loop-next.invariant.node in
    kept_throughout (g.R.Rule.holds c.args.rule.now) (tree_of c.args.root) (sym c.holds.ensures ∙ c.if-not-holds.false) c.loop-next.rest.at (sym none) c.loop-next.invariant.before
