use Rattle.std.proofs.Common.{◌∙◌, sym}
use Rattle.sl_parse_expr.specs.Rules.{any}
use Rattle.sl_parse_expr.proofs.grammar.Grammar.any.Goals as goal

pub returns-then-is_at-4 : goal.returns-then-is_at-4
unfolding any
returns-then-is_at-4 g c =
    let h1 = sym c.is_at.ensures ∙ c.if-is_at.false in
    let h2 = sym c.is_at-else-is_at.ensures ∙ c.if-is_at-2.false in
    let h3 = sym c.is_at-else-is_at-2.ensures ∙ c.if-is_at-3.false in
    let h4 = sym c.is_at-else-is_at-3.ensures ∙ c.if-is_at-4.true in
    rw h1 (rw h2 (rw h3 (rw h4 c.throw_expr.ensures)))

pub returns-else-is_at-4 : goal.returns-else-is_at-4
unfolding any
returns-else-is_at-4 g c =
    let h1 = sym c.is_at.ensures ∙ c.if-is_at.false in
    let h2 = sym c.is_at-else-is_at.ensures ∙ c.if-is_at-2.false in
    let h3 = sym c.is_at-else-is_at-2.ensures ∙ c.if-is_at-3.false in
    let h4 = sym c.is_at-else-is_at-3.ensures ∙ c.if-is_at-4.false in
    rw h1 (rw h2 (rw h3 (rw h4 c.plain.ensures)))
