use Rattle.std.proofs.lemmas.Result.{MatchResult-weaker}
use Rattle.sl_top.specs.Listing.{body_texts}
use Rattle.sl_top.proofs.Lengths.{is_short}
use Rattle.sl_top.proofs.reading.read.Goals as goal

pub returns-in_default-clause-not_built : goal.returns-in_default-clause-not_built
returns-in_default-clause-not_built c _ chains h = c.in_default.ensures (body_texts chains) h.lines

pub returns-clause-short : goal.returns-clause-short
returns-clause-short c =
    MatchResult-weaker c.body.result c.body.ensures
    (λ chains h. is_short chains c.args.bytes.now (record { literals = h.0.0; lines = (c.in-Some.ensures (body_texts chains)).1 h.0.1 }))
    (λ _ _. tt)
