use Rattle.std.proofs.Common.{rules, ◌≡◌, ◌++◌, arith, ◌+◌, suc, ap, ◌∙◌, take, drop, ℕ}
use Rattle.sl_parse_expr.specs.Reading.{first, rest}
use Rattle.sl_parse_expr.proofs.Slices.{take_more, drop_more}
use Rattle.sl_parse_expr.proofs.cursor.Cursor.hold.Goals as goal

pub returns-then-self : goal.returns-then-self
returns-then-self c =
    let one : c.self.inside.held + 1 ≡ suc c.self.inside.held = omega arith in
    let t : take (c.self.inside.held + 1) c.self.inside.tokens.now ≡ take c.self.inside.held c.self.inside.tokens.now ++ first (drop c.self.inside.held c.self.inside.tokens.now) = ap (λ (n : ℕ). take n c.self.inside.tokens.now) one ∙ take_more c.self.inside.held c.self.inside.tokens.now in
    let d : drop (c.self.inside.held + 1) c.self.inside.tokens.now ≡ rest (drop c.self.inside.held c.self.inside.tokens.now) = ap (λ (n : ℕ). drop n c.self.inside.tokens.now) one ∙ drop_more c.self.inside.held c.self.inside.tokens.now in
    first_of (grind (arith, t, d, c.self.view_is), search (rules, t, d, c.self.view_is))
