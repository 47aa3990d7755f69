-- Each call decides the statement of its part.
use Rattle.std.proofs.Common.{◌↔◌, IfOk, IsTrue, subst, sym}
use Rattle.ty_cases.specs.Holds.{Holds}
use Rattle.ty_cases.proofs.holding.holds.Goals as goal

pub returns-in-FilesDiffer : goal.returns-in-FilesDiffer
returns-in-FilesDiffer c =
    subst (λ part. IfOk c.files_differ.result (λ answer. IsTrue answer ↔ Holds part c.args.k c.args.p.now c.args.locals.now))
    (sym c.in-FilesDiffer.is) c.files_differ.ensures

pub returns-in-HasLinearisations : goal.returns-in-HasLinearisations
returns-in-HasLinearisations c =
    subst (λ part. IfOk c.has_linearisations.result (λ answer. IsTrue answer ↔ Holds part c.args.k c.args.p.now c.args.locals.now))
    (sym c.in-HasLinearisations.is) c.has_linearisations.ensures

pub returns-in-FindsAll : goal.returns-in-FindsAll
returns-in-FindsAll c =
    subst (λ part. IfOk c.finds_all.result (λ answer. IsTrue answer ↔ Holds part c.args.k c.args.p.now c.args.locals.now))
    (sym c.in-FindsAll.is) c.finds_all.ensures

pub returns-in-LocalsAreSetFirst : goal.returns-in-LocalsAreSetFirst
returns-in-LocalsAreSetFirst c =
    subst (λ part. IsTrue c.locals_are_set_first.result ↔ Holds part c.args.k c.args.p.now c.args.locals.now)
    (sym c.in-LocalsAreSetFirst.is) c.locals_are_set_first.ensures

pub returns-in-MixinsFit : goal.returns-in-MixinsFit
returns-in-MixinsFit c =
    subst (λ part. IfOk c.mixins_fit.result (λ answer. IsTrue answer ↔ Holds part c.args.k c.args.p.now c.args.locals.now))
    (sym c.in-MixinsFit.is) c.mixins_fit.ensures

pub returns-in-SupersStand : goal.returns-in-SupersStand
returns-in-SupersStand c =
    subst (λ part. IfOk c.supers_stand.result (λ answer. IsTrue answer ↔ Holds part c.args.k c.args.p.now c.args.locals.now))
    (sym c.in-SupersStand.is) c.supers_stand.ensures

pub returns-in-TraitsLowered : goal.returns-in-TraitsLowered
returns-in-TraitsLowered c =
    subst (λ part. IfOk c.traits_lowered.result (λ answer. IsTrue answer ↔ Holds part c.args.k c.args.p.now c.args.locals.now))
    (sym c.in-TraitsLowered.is) c.traits_lowered.ensures

pub returns-in-ModulesSet : goal.returns-in-ModulesSet
returns-in-ModulesSet c =
    subst (λ part. IfOk c.modules_set.result (λ answer. IsTrue answer ↔ Holds part c.args.k c.args.p.now c.args.locals.now))
    (sym c.in-ModulesSet.is) c.modules_set.ensures

pub returns-in-SelectsFound : goal.returns-in-SelectsFound
returns-in-SelectsFound c =
    subst (λ part. IfOk c.selects_found.result (λ answer. IsTrue answer ↔ Holds part c.args.k c.args.p.now c.args.locals.now))
    (sym c.in-SelectsFound.is) c.selects_found.ensures

pub returns-in-LazyGetsStand : goal.returns-in-LazyGetsStand
returns-in-LazyGetsStand c =
    subst (λ part. IfOk c.lazy_gets_stand.result (λ answer. IsTrue answer ↔ Holds part c.args.k c.args.p.now c.args.locals.now))
    (sym c.in-LazyGetsStand.is) c.lazy_gets_stand.ensures

pub returns-in-TraitFieldsStand : goal.returns-in-TraitFieldsStand
returns-in-TraitFieldsStand c =
    subst (λ part. IfOk c.trait_fields_stand.result (λ answer. IsTrue answer ↔ Holds part c.args.k c.args.p.now c.args.locals.now))
    (sym c.in-TraitFieldsStand.is) c.trait_fields_stand.ensures

pub returns-in-AccessorsFound : goal.returns-in-AccessorsFound
returns-in-AccessorsFound c =
    subst (λ part. IfOk c.accessors_found.result (λ answer. IsTrue answer ↔ Holds part c.args.k c.args.p.now c.args.locals.now))
    (sym c.in-AccessorsFound.is) c.accessors_found.ensures

pub returns-in-CellsRead : goal.returns-in-CellsRead
returns-in-CellsRead c =
    subst (λ part. IfOk c.cells_read.result (λ answer. IsTrue answer ↔ Holds part c.args.k c.args.p.now c.args.locals.now))
    (sym c.in-CellsRead.is) c.cells_read.ensures

pub returns-in-LazyMembersFound : goal.returns-in-LazyMembersFound
returns-in-LazyMembersFound c =
    subst (λ part. IfOk c.lazy_members_found.result (λ answer. IsTrue answer ↔ Holds part c.args.k c.args.p.now c.args.locals.now))
    (sym c.in-LazyMembersFound.is) c.lazy_members_found.ensures

pub returns-in-MembersAgree : goal.returns-in-MembersAgree
returns-in-MembersAgree c =
    subst (λ part. IsTrue c.members_agree.result ↔ Holds part c.args.k c.args.p.now c.args.locals.now)
    (sym c.in-MembersAgree.is) c.members_agree.ensures
