use Rattle.std.proofs.Common.{◌∙◌, ap, subst}
use Rattle.sl_top.specs.Trace.{trace_text}
use Rattle.sl_top.specs.Value.{Values, steps_of}
use Rattle.sl_top.proofs.listing_run.run_listing.Goals as goal

pub returns-clause-prints : goal.returns-clause-prints
returns-clause-prints c =
    let printed = c.in-Ok-run.ensures.printed in
    record {
      chains = c.in-Ok.chains;
      values = printed.0;
      listing = c.in-Ok.ensures.found;
      worth = subst (λ chains. Values chains printed.0) c.as_slice.ensures printed.1;
      written = ap trace_text printed.2;
      counted = c.in-Ok-run.ensures.steps ∙ ap steps_of c.as_slice.ensures;
    }
