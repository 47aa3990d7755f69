use Rattle.std.proofs.Common.{ℕ, List, Result, Ok, Err, IfErr, ap, sym, subst, ◌∙◌}
use Rattle.sl_text.specs.Utf8.{Spells}
use Rattle.sl_text.specs.declared.text_fault.TextFault.{TextFault}
use Rattle.sl_source.specs.declared.refusal.Refusal.TheVariants as refusal
use Rattle.sl_source.specs.declared.refusal.SourceFault.{SourceFault}
use Rattle.sl_source.specs.declared.refusal.SourceFault.TheVariants as source
use Rattle.sl_source.specs.Source.{IsCause, IsTextCause, FirstFault, not_utf8, in_text}
use Rattle.sl_source.proofs.read_source.Goals as goal

of_text : (bytes text : List ℕ) (f : SourceFault) → Spells bytes text → IsTextCause text f → IsCause bytes f
of_text bytes text (source.Refused r) s c = in_text s c
of_text bytes text source.Memory s c = tt

if_err : {T : Type 0} (bytes text : List ℕ) (r : Result T SourceFault) → Spells bytes text → IfErr r (IsTextCause text) → IfErr r (IsCause bytes)
if_err bytes text (Ok x) s c = tt
if_err bytes text (Err f) s c = of_text bytes text f s c

pub returns-in-Ok-clause-cause : goal.returns-in-Ok-clause-cause
returns-in-Ok-clause-cause c = if_err c.args.bytes.now c.in-Ok.text c.source_of.result c.in-Ok.ensures.text c.source_of.ensures.cause

pub returns-in-Err-NotUtf8-clause-cause : goal.returns-in-Err-NotUtf8-clause-cause
returns-in-Err-NotUtf8-clause-cause c =
    let ill = (c.chars_of.ensures.not_utf8 c.in-Err-NotUtf8.at).0 (c.in-Err-NotUtf8.is ∙ ap (λ (z : TextFault). Err z) c.in-Err-NotUtf8.field-0-is) in
    subst (λ (z : ℕ). FirstFault c.args.bytes.now (refusal.NotUtf8 z)) (sym c.in-Err-NotUtf8.at-is) (not_utf8 ill)
