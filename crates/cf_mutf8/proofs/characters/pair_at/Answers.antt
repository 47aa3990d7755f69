use Rattle.std.proofs.Common.{◌∙◌, sym, ◌∷◌, [], ◌+◌, drop, arith}
use Rattle.cf_mutf8.proofs.Units.{unit_same}
use Rattle.cf_mutf8.proofs.Pairs.{none_without_low, pair_read, units_pair, low_of, scalar_below}
use Rattle.cf_mutf8.proofs.characters.pair_at.Goals as goal

pub returns-in-None : goal.returns-in-None
returns-in-None c =
    none_without_low _ (drop (c.args.at + 3) c.args.bytes.now) c.args.high c.requires.surrogate (omega arith) c.requires.first
    (λ d rest s l same e. let b = scalar_below d s in c.in-None.ensures (low_of d) (omega arith) rest e)

pub returns-in-Some-paired : goal.returns-in-Some-paired
returns-in-Some-paired c =
    pair_read c.args.bytes.now c.args.at c.args.high c.in-Some.low.code c.in-Some.low.size c.in-Some-paired.value c.requires.first c.in-Some.ensures.0 c.in-Some.ensures.1 c.in-Some-paired.ensures

pub returns-in-None-paired : goal.returns-in-None-paired
returns-in-None-paired c =
    let low = c.in-Some.low.code in
    none_without_low _ (drop (c.args.at + 3) c.args.bytes.now) c.args.high c.requires.surrogate (omega arith) c.requires.first
    (λ d rest s l same e.
    let b = scalar_below d s in
    let u = unit_same low (low_of d) (drop (c.args.at + 3 + c.in-Some.low.size) c.args.bytes.now) rest (omega arith) (omega arith) (sym c.in-Some.ensures.0 ∙ e) in
    c.in-None-paired.ensures d s (units_pair d l ∙ (λ i. same i ∷ sym u.0 i ∷ [])))
