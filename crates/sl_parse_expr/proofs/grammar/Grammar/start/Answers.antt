use Rattle.std.proofs.Common.{◌∙◌, sym}
use Rattle.sl_parse_expr.specs.Rules.{start}
use Rattle.sl_parse_expr.proofs.grammar.Grammar.start.Goals as goal

pub returns-else-is_at-3 : goal.returns-else-is_at-3
unfolding start
returns-else-is_at-3 g c =
    let h1 = sym c.is_at.ensures ∙ c.if-is_at.false in
    let h2 = sym c.is_at-else-is_at.ensures ∙ c.if-is_at-2.false in
    let h3 = sym c.is_at-else-is_at-2.ensures ∙ c.if-is_at-3.false in
    rw h1 (rw h2 (rw h3 c.later_start.ensures))
