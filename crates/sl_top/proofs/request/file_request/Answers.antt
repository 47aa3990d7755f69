use Rattle.std.proofs.Common.{◌≡◌, codes, ℕ, List, [], ◌∷◌, ap, sym, ◌∙◌}
use Rattle.std.proofs.lemmas.Slice.Eq.{bytes_eq-Decides}
use Rattle.std.specs.Str.{chars}
use Rattle.sl_top.proofs.Words.{pair_is}
use Rattle.sl_top.proofs.request.file_request.Goals as goal

pub returns-then-eq : goal.returns-then-eq
unfolding chars
returns-then-eq c =
    let is : c.as_str.result.now ≡ codes "check" = (bytes_eq-Decides c.as_str.result.now (codes "check")).0 (sym c.if-eq.ensures) in
    pair_is _ _ _ _ (sym c.as_str.ensures.characters ∙ ap chars is) (sym c.in_ok-copy.ensures)

pub returns-then-eq-2 : goal.returns-then-eq-2
unfolding chars
returns-then-eq-2 c =
    let is : c.as_str-2.result.now ≡ codes "run" = (bytes_eq-Decides c.as_str-2.result.now (codes "run")).0 (sym c.if-eq-2.ensures) in
    (pair_is _ _ _ _ (sym c.as_str-2.ensures.characters ∙ ap chars is) (sym c.in_ok-copy-2.ensures), c.default_options.ensures)
