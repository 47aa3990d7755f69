use Rattle.std.proofs.Common.{refl}
use Rattle.ty_complete.proofs.Finds.{must_told}
use Rattle.ty_complete.proofs.found.finds_where_it_must.Goals as goal

pub returns-then-lacks_objects : goal.returns-then-lacks_objects
returns-then-lacks_objects c = (λ h has. absurd (c.lacks_objects.ensures.0 c.if-lacks_objects.true has), λ h. refl)

pub returns : goal.returns
returns c =
    must_told c.args.p.now c.args.class c.lacks_objects.result c.finds_its.result c.if-lacks_objects.false c.lacks_objects.ensures c.finds_its.ensures
