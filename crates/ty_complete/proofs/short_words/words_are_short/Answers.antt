use Rattle.std.proofs.Common.{rules, tests}
use Rattle.std.specs.Prelude.{nat_eq, nat_le, length}
use Rattle.std.proofs.lemmas.Iterator.Search.{all_from_yields_List}
use Rattle.std.proofs.lemmas.Iterator.Splits.{YieldsList-from_slice_split}
use Rattle.ty_complete.proofs.short_words.words_are_short.Goals as goal

pub returns : goal.returns
returns c =
    all_from_yields_List (λ word. nat_le (length word) 81) _ _ c.all.result c.all.ensures.ran
    (YieldsList-from_slice_split _ (nat_eq 36) c.args.characters.now c.split.ensures.rest c.split.ensures.done c.split.ensures.closure
    (λ x r q k. search (rules, tests)))
    (λ x b q k. search (rules, tests))
