use Rattle.std.proofs.Common.{◌≡◌, ◌<◌, ◌-◌, ◌∷◌, length, drop, get_or, reverse, refl, sym, ap, ◌∙◌, arith, Some}
use Rattle.std.specs.Prelude.{slice_set, slice_get}
use Rattle.std.proofs.lemmas.List.{length-reverse}
use Rattle.vm_state.proofs.Tops.{reverse-set_last, reverse-get_last}
use Rattle.vm_state.proofs.stack.Stack.top_mut.Goals as goal

pub returns : goal.returns
returns g c =
    let xs = c.self.inside.items.items in
    let len : c.len-last.result ≡ length xs = omega (arith, c.self.inside.items.ok.0) in
    let all = ap length c.self.view_is in
    let some : 0 < length xs = omega (arith, length-reverse xs) in
    let d = c.index_mut.result.now in (
      (refl, λ w. ap (λ k. reverse (slice_set xs (k - 1) w)) len ∙ reverse-set_last xs w some ∙ ap (λ l. w ∷ drop 1 l) c.self.view_is),
      record {
        writes_back = tt;
        value = ap (λ l. slice_get l 0) (sym c.self.view_is) ∙ reverse-get_last xs d some ∙ ap (λ k. Some (get_or xs (k - 1) d)) (sym len) ∙ ap Some (sym c.index_mut.ensures.value);
      },
    )
