use Rattle.sl_newline.proofs.Opened.{one_innermost}
use Rattle.sl_newline.proofs.Turn.{one_separated, has_separated, stay_in}
use Rattle.sl_newline.proofs.laws.separated.Goals as goal

pub returns-clause-region : goal.returns-clause-region
returns-clause-region c = λ ts b q r i j. one_innermost i j

pub returns-clause-tokens : goal.returns-clause-tokens
returns-clause-tokens c = λ text ts a b i j. one_separated i b j

pub returns-clause-some : goal.returns-clause-some
returns-clause-some c = has_separated

pub returns-clause-within : goal.returns-clause-within
returns-clause-within c = stay_in
