use Rattle.std.proofs.Common.{false, List, sym, subst, arith}
use Rattle.sl_ast.specs.declared.token.Token.{Token}
use Rattle.sl_lexer.specs.Lex.{Front, start}
use Rattle.sl_lexer.proofs.front.Front.new.Goals as goal

pub returns : goal.returns
returns c = record { read = subst (λ (z : List Token). Front c.args.chars.now z false 0) (sym c.new.ensures.items) start; within = omega arith }
