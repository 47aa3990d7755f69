use Rattle.std.proofs.Common.{◌≡◌, None, drop, sym, ap, ◌∙◌}
use Rattle.sl_lexer.specs.Piece.{piece_at}
use Rattle.sl_lexer.proofs.Steps.{at_end}
use Rattle.sl_lexer.proofs.step.Goals as goal

pub returns-in-Ok-None-clause-more : goal.returns-in-Ok-None-clause-more
returns-in-Ok-None-clause-more c =
    let here : piece_at c.args.front.now.low (drop c.args.front.now.at c.args.chars.now) ≡ None = ap (piece_at c.args.front.now.low) (sym c.behind.ensures.value) ∙ sym c.in-Ok-None.ensures.value ∙ c.in-Ok-None.field-0-is in
    at_end c.args.chars.now c.args.front.now.low c.args.front.now.at c.requires.read.within here
