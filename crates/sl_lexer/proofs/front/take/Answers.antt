use Rattle.std.proofs.Common.{◌≡◌, ◌-◌, length, drop, Some, sym, ap, subst, ◌∙◌, arith}
use Rattle.sl_lexer.specs.declared.piece.Piece.{Piece}
use Rattle.sl_lexer.specs.declared.piece.Piece.TheVariants as piece
use Rattle.sl_lexer.specs.declared.fault.LexFault.{LexFault}
use Rattle.sl_lexer.specs.Piece.{piece_at}
use Rattle.sl_lexer.specs.Lex.{blank}
use Rattle.sl_lexer.specs.Reading.{IsWithin, IsCause}
use Rattle.sl_lexer.proofs.Steps.{wrong_here}
use Rattle.sl_lexer.proofs.front.take.Goals as goal

pub returns-in-Blank-clause-ok : goal.returns-in-Blank-clause-ok
returns-in-Blank-clause-ok c =
    let here : piece_at c.args.front.now.low (drop c.args.front.now.at c.args.chars.now) ≡ Some (piece.Blank c.in-Blank.count) = c.requires.here ∙ ap (λ (z : Piece). Some z) c.in-Blank.is in
    let size = subst (λ (z : Piece). IsWithin z (length c.args.chars.now - c.args.front.now.at)) c.in-Blank.is c.requires.size in
    record { read = blank c.requires.read.read here; within = omega (arith, size, c.requires.read.within) }

pub returns-in-Fault-clause-err : goal.returns-in-Fault-clause-err
returns-in-Fault-clause-err c =
    let here : piece_at c.args.front.now.low (drop c.args.front.now.at c.args.chars.now) ≡ Some (piece.Fault c.in-Fault.kind c.in-Fault.count) = c.requires.here ∙ ap (λ (z : Piece). Some z) c.in-Fault.is in
    subst (λ (z : LexFault). IsCause c.args.chars.now z) (sym c.fault_at.ensures) (wrong_here c.args.chars.now c.args.front.now.tokens.items c.args.front.now.low c.args.front.now.at c.in-Fault.count c.in-Fault.kind c.requires.read.read here)
