use Rattle.std.proofs.Common.{◌∷◌, codes}
use Rattle.sl_top.proofs.Outcomes.{in_either}
use Rattle.sl_top.proofs.reading.line.head.Goals as goal

pub returns-in_err-line : goal.returns-in_err-line
returns-in_err-line c = rw c.from_residual.ensures (λ texts h. c.in_err-line.ensures (codes "def main(): Unit = {" ∷ texts) h)

pub returns : goal.returns
returns c =
    in_either c.line-2.result c.line-2.ensures
    (λ none texts h. none texts ((c.in_ok-line.ensures (codes "def main(): Unit = {" ∷ texts)).0 h))
    (λ rest both texts. (
      (λ h. (both texts).0 ((c.in_ok-line.ensures (codes "def main(): Unit = {" ∷ texts)).0 h)),
      (λ m. (c.in_ok-line.ensures (codes "def main(): Unit = {" ∷ texts)).1 ((both texts).1 m)),
    ))
