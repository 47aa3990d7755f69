use Rattle.std.proofs.Common.{subst, refl, sym}
use Rattle.std.proofs.lemmas.Bool.{eqb-true}
use Rattle.std.proofs.lemmas.List.{nil_from_length}
use Rattle.cf_instr.proofs.Faulty.{stuck}
use Rattle.cf_instr.proofs.Parsing.{Stuck, stuck_end}
use Rattle.cf_instr.proofs.Sizes.{shorter}
use Rattle.cf_read.proofs.Parses.{named_more, named_all, named_start, unnamed_here}
use Rattle.cf_read.proofs.naming.first_unnamed.Goals as goal

pub loop-rest-init : goal.loop-rest-init
loop-rest-init c = named_start c.args.pool.now c.args.code.now

pub returns-in-Err-clause-named : goal.returns-in-Err-clause-named
returns-in-Err-clause-named c = named_all c.args.pool.now c.args.code.now c.loop-rest.rest.now c.loop-rest.invariant (stuck c.in-Err.field-0 c.loop-rest.rest.now c.in-Err.ensures)

pub returns-then-not-names_well-clause-named : goal.returns-then-not-names_well-clause-named
returns-then-not-names_well-clause-named c =
    unnamed_here c.args.pool.now c.args.code.now c.loop-rest.rest.now c.in-Ok.after.now c.in-Ok.instr _ c.loop-rest.invariant c.in-Ok.ensures.0 c.in-Ok.ensures.1 refl (λ h. let t = c.names_well.ensures.1 h in cc)

pub loop-rest-smaller : goal.loop-rest-smaller
loop-rest-smaller c = shorter c.loop-rest.rest.now c.in-Ok.after.now c.in-Ok.instr c.in-Ok.ensures.0 c.in-Ok.ensures.1

pub loop-rest-preserved : goal.loop-rest-preserved
loop-rest-preserved c =
    named_more c.args.pool.now c.args.code.now c.loop-rest.rest.now c.in-Ok.after.now c.in-Ok.instr c.loop-rest.invariant c.in-Ok.ensures.0 c.in-Ok.ensures.1 (c.names_well.ensures.0 c.if-not-names_well.false)

pub returns-clause-named : goal.returns-clause-named
returns-clause-named c =
    let none = nil_from_length c.loop-rest.rest.now (eqb-true _ _ (sym c.loop-rest-test.ensures)) in
    named_all c.args.pool.now c.args.code.now c.loop-rest.rest.now c.loop-rest.invariant (subst Stuck (sym none) stuck_end)
