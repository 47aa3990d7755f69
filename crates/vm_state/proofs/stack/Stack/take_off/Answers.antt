use Rattle.std.proofs.Common.{◌≡◌, ◌-◌, length, take, drop, reverse, ap, ◌∙◌, arith}
use Rattle.vm_state.proofs.Tops.{reverse-take_front}
use Rattle.vm_state.proofs.stack.Stack.take_off.Goals as goal

pub returns : goal.returns
returns g c =
    let xs = c.self.inside.items.items in
    let n = c.args.count in
    let kept : c.saturating_sub-kept.result ≡ length xs - n = omega (arith, c.self.inside.items.ok.0) in
    ap reverse (c.truncate.ensures.items ∙ ap (λ k. take k xs) kept)
    ∙ reverse-take_front xs n
    ∙ ap (drop n) c.self.view_is
