use Rattle.std.proofs.Common.{◌≡◌, ◌∙◌, ◌<◌, sym, ap, [], length, map, arith}
use Rattle.std.specs.Str.{bytes_eq}
use Rattle.std.proofs.lemmas.List.{length-map}
use Rattle.std.proofs.lemmas.Slice.Eq.{bytes_eq-Decides}
use Rattle.sl_io.specs.Held.{stored}
use Rattle.sl_io.proofs.Numbers.{passed, stored_at}
use Rattle.sl_io.proofs.mem_shelf.number_of.Goals as goal

pub returns-then-eq : goal.returns-then-eq
returns-then-eq c =
    let here = stored_at c.args.files.now c.loop-i.i c.index-files-i.result (c.args.name.now, []) (omega arith) c.index-files-i.is in
    let same : c.as_str.result.now ≡ c.args.name.now = (bytes_eq-Decides c.as_str.result.now c.args.name.now).0 (sym c.if-eq.ensures) in
    record {
      before = c.loop-i.invariant;
      within = simp length-map (omega arith);
      named = ap (λ entry. entry.0) here ∙ sym c.as_str.ensures.bytes ∙ same;
    }

pub loop-i-preserved : goal.loop-i-preserved
loop-i-preserved c =
    let within : c.loop-i.i < length (map stored c.args.files.now) = simp length-map (omega arith) in
    let here = stored_at c.args.files.now c.loop-i.i c.index-files-i.result (stored c.index-files-i.result) (omega arith) c.index-files-i.is in
    passed _ _ _ (stored c.index-files-i.result) within c.loop-i.invariant
    (ap (λ entry. bytes_eq entry.0 c.args.name.now) here ∙ ap (λ name. bytes_eq name c.args.name.now) (sym c.as_str.ensures.bytes) ∙ sym c.if-eq.ensures)
