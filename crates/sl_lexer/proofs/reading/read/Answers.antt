use Rattle.std.proofs.Common.{◌≡◌, Some, sym, rules}
use Rattle.sl_lexer.specs.Piece.{piece_at}
use Rattle.sl_lexer.proofs.Sizes.{piece_within}
use Rattle.sl_lexer.proofs.reading.read.Goals as goal

pub returns-in_ok-piece-in-Some-clause-within : goal.returns-in_ok-piece-in-Some-clause-within
returns-in_ok-piece-in-Some-clause-within c =
    let here : Some c.in_ok-piece-in-Some.piece ≡ piece_at c.args.low c.args.left.now = search rules in
    piece_within c.args.low c.args.left.now c.in_ok-piece-in-Some.piece (sym here)
