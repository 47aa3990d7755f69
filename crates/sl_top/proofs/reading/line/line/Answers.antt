use Rattle.std.proofs.Common.{sym, ◌∙◌}
use Rattle.sl_top.proofs.Outcomes.{in_either}
use Rattle.sl_top.proofs.Lines.{no_text, no_end, one_line}
use Rattle.sl_top.proofs.reading.line.line.Goals as goal

pub returns-in_err-behind : goal.returns-in_err-behind
returns-in_err-behind c = rw c.from_residual.ensures (no_text c.args.bytes.now c.args.text.now c.requires.some c.requires.no_space (λ rest e. c.in_err-behind.ensures rest (c.unindented.ensures ∙ e)))

pub returns : goal.returns
returns c =
    let e = sym c.unindented.ensures ∙ c.in_ok-behind.ensures in
    in_either c.behind-2.result c.behind-2.ensures
    (λ none. no_end c.args.bytes.now c.args.text.now c.in_ok-behind.field-0.now c.requires.some c.requires.no_space e none)
    (λ rest f. one_line c.args.bytes.now c.args.text.now c.in_ok-behind.field-0.now rest.now c.requires.some c.requires.no_space e f)
