use Rattle.std.proofs.Common.{◌≡◌, ◌+◌, refl, ap, arith}
use Rattle.ty_room.specs.Capped.{capped}
use Rattle.ty_room.specs.Sizing.{keeping, node_size}
use Rattle.ty_room.proofs.combining.node_size.Goals as goal

pub returns : goal.returns
unfolding node_size
returns c = λ f x e sx.
    let own : c.plus-own.result ≡ capped (keeping f x + x.value) =
    c.plus-own.ensures.whole (keeping f x) x.value (c.keeping-kept.ensures f x e sx) sx.value in
    record {
      value = omega (arith, c.plus-value.ensures.sum, own, ap (λ n. n.bytes) e);
      test = omega (arith, c.plus-test.ensures.sum, own, ap (λ n. n.jump) e);
      entries = omega (arith, c.plus-entries.ensures.sum, sx.entries, ap (λ n. n.entries) e);
      supers = omega (arith, c.plus-supers.ensures.sum, sx.supers, ap (λ n. n.supers) e);
      tries = sx.tries;
      fixed = refl;
      kept = refl;
    }
