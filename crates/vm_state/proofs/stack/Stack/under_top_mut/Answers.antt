use Rattle.std.proofs.Common.{◌≡◌, ◌<◌, ◌-◌, length, get_or, reverse, refl, sym, ap, ◌∙◌, arith, Some}
use Rattle.std.specs.Prelude.{slice_set, slice_get}
use Rattle.std.proofs.lemmas.List.{length-reverse}
use Rattle.vm_state.proofs.Tops.{reverse-set_under, reverse-get_under}
use Rattle.vm_state.proofs.stack.Stack.under_top_mut.Goals as goal

pub returns : goal.returns
returns g c =
    let xs = c.self.inside.items.items in
    let len : c.len-at.result ≡ length xs = omega (arith, c.self.inside.items.ok.0) in
    let all = ap length c.self.view_is in
    let some : 1 < length xs = omega (arith, length-reverse xs) in
    let d = c.index_mut.result.now in (
      (refl, λ w. ap (λ k. reverse (slice_set xs (k - 2) w)) len ∙ reverse-set_under xs w some ∙ ap (λ l. slice_set l 1 w) c.self.view_is),
      record {
        writes_back = tt;
        value = ap (λ l. slice_get l 1) (sym c.self.view_is) ∙ reverse-get_under xs d some ∙ ap (λ k. Some (get_or xs (k - 2) d)) (sym len) ∙ ap Some (sym c.index_mut.ensures.value);
      },
    )
