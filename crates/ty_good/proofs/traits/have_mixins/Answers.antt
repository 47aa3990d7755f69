use Rattle.std.proofs.Common.{◌≡◌, subst, refl}
use Rattle.std.specs.List.{All}
use Rattle.std.proofs.lemmas.List.{take_all}
use Rattle.std.proofs.lemmas.List.Elements.{All-more}
use Rattle.ty_prog.specs.declared.class.Class.{Class}
use Rattle.ty_good.specs.Traits.{mixins_of}
use Rattle.ty_good.proofs.traits.have_mixins.Goals as goal

pub loop-class-preserved : goal.loop-class-preserved
loop-class-preserved c =
    All-more (λ (class : Class). class.mixins ≡ mixins_of c.args.classes.now class) c.args.some.now
    c.loop-class.class-index c.class-item.result c.loop-class-test.true c.loop-class.invariant (subst (λ (class : Class). class.mixins ≡ mixins_of c.args.classes.now class) c.class-item.is (c.in_ok-has_mixins.ensures.0 c.if-not-branch.false))

pub returns : goal.returns
returns c = (λ h. subst (All (λ (class : Class). class.mixins ≡ mixins_of c.args.classes.now class)) (take_all c.loop-class.class-index c.args.some.now c.loop-class-test.false) c.loop-class.invariant, λ h. refl)
