use Rattle.std.proofs.Common.{sym, ap, ◌∙◌}
use Rattle.sl_top.specs.Reading.{unindented}
use Rattle.sl_top.proofs.Lines.{unindented_space, unindented_there}
use Rattle.sl_top.proofs.reading.text.unindented.Goals as goal

pub space-preserved : goal.space-preserved
space-preserved c = c.space.invariant ∙ ap unindented c.in-Some.ensures ∙ unindented_space c.in-Some.after.now

pub returns : goal.returns
returns c = sym (c.space.invariant ∙ unindented_there c.space.rest.now c.in_default.ensures)
