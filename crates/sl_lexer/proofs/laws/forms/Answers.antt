use Rattle.sl_lexer.proofs.OneToken.{has_form, form_is}
use Rattle.sl_lexer.proofs.laws.forms.Goals as goal

pub returns : goal.returns
returns c = λ kind text. (has_form kind text, form_is kind text)
