use Rattle.std.proofs.Common.{◌≡◌, ap, subst}
use Rattle.ty_linear.specs.Fault.{IfCyclic}
use Rattle.ty_linear.specs.Linear.{rows, AreLinearisations, IsAcyclic, IsLeastOnCycle}
use Rattle.cf_super.proofs.Cycles.{acyclic_files, past_built_ins, first_of_cycle}
use Rattle.cf_super.proofs.lines.lines_of.Goals as goal

pub returns-in-Ok : goal.returns-in-Ok
returns-in-Ok c =
    let table = rows c.in_ok-table.table.items in
    let same : rows c.as_slice.result.now ≡ table = ap rows c.as_slice.ensures.value in
    let are = c.in_ok-table.ensures.supertypes in (
      acyclic_files c.args.files.now c.requires.different table are (subst IsAcyclic same c.in-Ok.ensures.acyclic),
      table,
      are,
      subst (λ t. AreLinearisations t (rows c.in-Ok.lists.items)) same c.in-Ok.ensures.ok,
    )

pub overflow_sub-result : goal.overflow_sub-result
overflow_sub-result c =
    let table = rows c.in_ok-table.table.items in
    let same : rows c.as_slice.result.now ≡ table = ap rows c.as_slice.ensures.value in
    let least : IsLeastOnCycle (rows c.as_slice.result.now) c.in-Err-Cyclic.class =
    subst (λ f. IfCyclic f (IsLeastOnCycle (rows c.as_slice.result.now))) c.in-Err-Cyclic.field-0-is c.in-Err-Cyclic.ensures.cyclic in
    past_built_ins c.args.files.now c.requires.different table c.in_ok-table.ensures.supertypes c.in-Err-Cyclic.class (subst (λ t. IsLeastOnCycle t c.in-Err-Cyclic.class) same least)

pub returns-in-Err-Cyclic : goal.returns-in-Err-Cyclic
returns-in-Err-Cyclic c =
    let table = rows c.in_ok-table.table.items in
    let same : rows c.as_slice.result.now ≡ table = ap rows c.as_slice.ensures.value in
    let least : IsLeastOnCycle (rows c.as_slice.result.now) c.in-Err-Cyclic.class =
    subst (λ f. IfCyclic f (IsLeastOnCycle (rows c.as_slice.result.now))) c.in-Err-Cyclic.field-0-is c.in-Err-Cyclic.ensures.cyclic in
    first_of_cycle c.args.files.now c.requires.different table c.in_ok-table.ensures.supertypes c.in-Err-Cyclic.class (subst (λ t. IsLeastOnCycle t c.in-Err-Cyclic.class) same least)
