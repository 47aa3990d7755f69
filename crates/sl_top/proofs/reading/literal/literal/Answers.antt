use Rattle.std.proofs.Common.{ℕ, ap, ◌∙◌, sym, refl, true≢false, ◌∷◌, ◌+◌}
use Rattle.sl_top.proofs.Outcomes.{in_either}
use Rattle.sl_top.proofs.Digits.{none_without_digit, none_after_zero, none_too_great, literal_read}
use Rattle.sl_top.proofs.reading.literal.literal.Goals as goal

pub returns-in_err-first : goal.returns-in_err-first
returns-in_err-first c = rw c.from_residual.ensures (none_without_digit c.args.bytes.now c.in_err-first.ensures)

pub returns-then-leads_with_zero : goal.returns-then-leads_with_zero
returns-then-leads_with_zero c =
    let leads = c.if-leads_with_zero.ensures.0 refl in
    none_after_zero c.args.bytes.now c.in_ok-first.others.now (c.in_ok-first.ensures.1 ∙ ap (λ (x : ℕ). (48 + x) ∷ c.in_ok-first.others.now) leads.0) leads.1

pub returns : goal.returns
returns c =
    in_either c.number.result c.number.ensures
    (λ h. none_too_great c.args.bytes.now h.0 h.1 h.2 h.3)
    (λ r h. literal_read c.args.bytes.now c.in_ok-first.first c.in_ok-first.others.now r.0 r.1.now c.in_ok-first.ensures.1 c.in_ok-first.ensures.0 (λ leads. true≢false (sym (c.if-leads_with_zero.ensures.1 leads))) h.0 h.1 h.2)
