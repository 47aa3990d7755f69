use Rattle.std.proofs.Common.{◌≡◌, ◌++◌, ◌-◌, length, take, drop, reverse, ap, ◌∙◌, arith}
use Rattle.sm_state.proofs.Tops.{reverse_cut}
use Rattle.sm_state.proofs.stack.Stack.take_below.Goals as goal

pub returns : goal.returns
returns g c =
    let xs = c.self.inside.items.items in
    let n = c.args.kept in
    let m = c.args.count in
    let below : c.saturating_sub-below.result ≡ length xs - n = omega (arith, c.self.inside.items.ok.0) in
    let left : c.saturating_sub-left.result ≡ length xs - n - m = omega (arith, c.self.inside.items.ok.0) in
    ap reverse (c.cut_out.ensures ∙ ap (λ k. take k xs ++ drop c.saturating_sub-below.result xs) left ∙ ap (λ k. take (length xs - n - m) xs ++ drop k xs) below)
    ∙ reverse_cut xs n m
    ∙ ap (λ l. take n l ++ drop m (drop n l)) c.self.view_is
