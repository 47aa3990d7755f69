use Rattle.std.proofs.Common.{◌∙◌, sym, ap, subst, length, map, List, ℕ}
use Rattle.cf_read.specs.Looking.{IsTableStop}
use Rattle.cf_read.specs.Views.{row_of}
use Rattle.cf_read.specs.declared.fault.Stop.{Stop}
use Rattle.cf_read.specs.declared.fault.Stop.TheVariants as stop
use Rattle.cf_read.proofs.Rows.{table_stop}
use Rattle.cf_read.proofs.handlers.read_handlers.Goals as goal

pub returns-in-Err-handler_of : goal.returns-in-Err-handler_of
returns-in-Err-handler_of c =
    let kind = c.in-Err-handler_of.fault.kind in
    let within = c.in-Err-handler_of.fault.within in
    let met = λ (b : List ℕ). let s : Stop = stop.Met (record { kind = kind; left = length b }) in s in
    let so = c.refused.ensures ∙ ap met c.skip.ensures in
    subst (IsTableStop c.args.pool.now c.args.code.now (map row_of c.args.rows.now) c.args.from.now) (sym so)
    (table_stop c.args.pool.now c.args.code.now c.args.rows.now c.loop-n.handlers c.loop-n.n _ kind within c.args.from.now c.loop-n-test.true c.loop-n.invariant c.in-Err-handler_of.ensures)
