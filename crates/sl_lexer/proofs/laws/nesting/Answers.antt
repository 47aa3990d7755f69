use Rattle.sl_lexer.proofs.Nested.{sounds, finds}
use Rattle.sl_lexer.proofs.laws.nesting.Goals as goal

pub returns : goal.returns
returns c = λ a r. (λ e. sounds 0 a r e, λ i. finds i 0)
