use Rattle.std.proofs.Common.{inr, subst}
use Rattle.sl_source.specs.declared.refusal.SourceFault.{SourceFault}
use Rattle.sl_source.specs.Source.{IsCause}
use Rattle.sl_top.specs.Check.{not_built, refused}
use Rattle.sl_top.proofs.checking.found.Goals as goal

pub returns-in-Ok : goal.returns-in-Ok
returns-in-Ok c = inr (not_built (_, c.in-Ok.ensures.text, c.in-Ok.ensures.tree))

pub returns-in-Err-Refused : goal.returns-in-Err-Refused
returns-in-Err-Refused c = inr (refused (subst (λ (z : SourceFault). IsCause c.args.bytes.now z) c.in-Err-Refused.field-0-is c.in-Err-Refused.ensures.cause))
