use Rattle.std.proofs.Common.{sym, ◌∙◌}
use Rattle.std.specs.Char.{encode_utf8}
use Rattle.sl_text.proofs.Sequences.{encode_row, encodes_is, encodes_scalar}
use Rattle.sl_text.proofs.Spelling.{spells_one, ill_formed_one, ill_formed_apart}
use Rattle.sl_text.proofs.Fronts.{well_or_ill_formed}
use Rattle.sl_text.proofs.laws.encoding.Goals as goal

pub returns-clause-all : goal.returns-clause-all
returns-clause-all c x s = (encode_utf8 x, encode_row x s)

pub returns-clause-scalar : goal.returns-clause-scalar
returns-clause-scalar c = encodes_scalar

pub returns-clause-one : goal.returns-clause-one
returns-clause-one c xs ys x p q = sym (encodes_is xs x p) ∙ encodes_is ys x q

pub returns-clause-text : goal.returns-clause-text
returns-clause-text c = spells_one

pub returns-clause-first : goal.returns-clause-first
returns-clause-first c = ill_formed_one

pub returns-clause-apart : goal.returns-clause-apart
returns-clause-apart c = ill_formed_apart

pub returns-clause-either : goal.returns-clause-either
returns-clause-either c = well_or_ill_formed
