use Rattle.sl_lexer.proofs.Unique.{comes_to, no_both, one_lex, one_fault}
use Rattle.sl_lexer.proofs.Within.{lex_in, fault_in}
use Rattle.sl_lexer.proofs.laws.lexing.Goals as goal

pub returns-clause-some : goal.returns-clause-some
returns-clause-some c = comes_to

pub returns-clause-never_both : goal.returns-clause-never_both
returns-clause-never_both c = no_both

pub returns-clause-tokens : goal.returns-clause-tokens
returns-clause-tokens c = one_lex

pub returns-clause-fault : goal.returns-clause-fault
returns-clause-fault c = one_fault

pub returns-clause-within : goal.returns-clause-within
returns-clause-within c = lex_in

pub returns-clause-begins : goal.returns-clause-begins
returns-clause-begins c = fault_in
