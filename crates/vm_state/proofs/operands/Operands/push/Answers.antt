use Rattle.std.proofs.Common.{reverse, ap, arith}
use Rattle.std.proofs.lemmas.List.{length-reverse}
use Rattle.vm_state.specs.Values.{depth}
use Rattle.vm_state.proofs.Depths.{width_some, length_depth}
use Rattle.vm_state.proofs.operands.Operands.push.Goals as goal

pub push_reserved-requires : goal.push_reserved-requires
push_reserved-requires c =
    let xs = c.self.inside.items.items in
    let deep = ap (λ h. depth h.values) c.self.view_is in
    let room = ap (λ h. h.room) c.self.view_is in
    omega (arith, deep, room, c.self.inside.items.ok.0, width_some c.args.v, length_depth (reverse xs), length-reverse xs)
