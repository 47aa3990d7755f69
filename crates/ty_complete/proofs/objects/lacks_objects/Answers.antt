use Rattle.std.proofs.Common.{sym, ◌∙◌}
use Rattle.ty_complete.proofs.Finds.{lacks_told}
use Rattle.ty_complete.proofs.objects.lacks_objects.Goals as goal

pub returns : goal.returns
returns c =
    lacks_told c.args.p.now c.args.class c.holds_in_program.result (sym (rw c.as_slice.ensures at c.is_object.ensures) ∙ c.if-is_object.false)
    c.holds_in_program.ensures
