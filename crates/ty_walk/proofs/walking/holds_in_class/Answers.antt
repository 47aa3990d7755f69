use Rattle.std.proofs.Common.{IsTrue}
use Rattle.ty_walk.proofs.Standing.{in_its_constructor, in_its_cells, in_its_methods, in_its_parts, broken_in_part, told_as_much}
use Rattle.ty_walk.proofs.walking.holds_in_class.Goals as goal

pub returns-then-not-holds_everywhere : goal.returns-then-not-holds_everywhere
returns-then-not-holds_everywhere g c =
    broken_in_part _ _ (in_its_constructor (λ node. IsTrue (g.R.Rule.holds c.args.rule.now node)) c.args.class.now)
    c.holds_everywhere.result c.holds_everywhere.ensures c.if-not-holds_everywhere.true

pub returns-then-not-holds_in_cells : goal.returns-then-not-holds_in_cells
returns-then-not-holds_in_cells g c =
    broken_in_part _ _ (in_its_cells (λ node. IsTrue (g.R.Rule.holds c.args.rule.now node)) c.args.class.now)
    c.holds_in_cells.result (rw c.as_slice.ensures at c.holds_in_cells.ensures) c.if-not-holds_in_cells.true

pub returns : goal.returns
returns g c =
    let constructor = c.holds_everywhere.ensures.0 c.if-not-holds_everywhere.false in
    let cells = (rw c.as_slice.ensures at c.holds_in_cells.ensures).0 c.if-not-holds_in_cells.false in
    told_as_much (in_its_parts (λ node. IsTrue (g.R.Rule.holds c.args.rule.now node)) c.args.class.now constructor cells)
    (in_its_methods (λ node. IsTrue (g.R.Rule.holds c.args.rule.now node)) c.args.class.now) c.holds_in_methods.result (rw c.as_slice-2.ensures at c.holds_in_methods.ensures)
