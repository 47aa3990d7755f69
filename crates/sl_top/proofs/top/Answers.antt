use Rattle.sl_top.specs.declared.request.Request.TheVariants.{Run, Check}
use Rattle.sl_top.specs.Request.{defaults}
use Rattle.sl_top.proofs.Words.{none_asked, asked_is, carried}
use Rattle.sl_top.proofs.top.Goals as goal

pub returns-in-Ok-None-clause-check : goal.returns-in-Ok-None-clause-check
returns-in-Ok-None-clause-check g c name asks = absurd (none_asked _ _ c.in-Ok-None.ensures c.in-Ok-None.field-0-is (Check name) asks)

pub returns-in-Ok-None-clause-run : goal.returns-in-Ok-None-clause-run
returns-in-Ok-None-clause-run g c name asks = absurd (none_asked _ _ c.in-Ok-None.ensures c.in-Ok-None.field-0-is (Run name defaults) asks)

pub returns-in-Ok-Some-clause-check : goal.returns-in-Ok-Some-clause-check
returns-in-Ok-Some-clause-check g c name asks =
    carried _ (Check name) _ _ _ _ (asked_is _ _ c.in-Ok-Some.request (Check name) c.in-Ok-Some.ensures c.in-Ok-Some.field-0-is asks) c.carry_out.ensures

pub returns-in-Ok-Some-clause-run : goal.returns-in-Ok-Some-clause-run
returns-in-Ok-Some-clause-run g c name asks =
    carried _ (Run name defaults) _ _ _ _ (asked_is _ _ c.in-Ok-Some.request (Run name defaults) c.in-Ok-Some.ensures c.in-Ok-Some.field-0-is asks) c.carry_out.ensures
