use Rattle.std.proofs.Common.{◌≡◌, refl, subst, append_assoc}
use Rattle.std.specs.Prelude.{OnOk}
use Rattle.ty_prog.proofs.prelude_classes.put_errors.Goals as goal

pub returns : goal.returns
returns c = subst (λ classes. OnOk c.put-7.result (c.put-7.new.classes ≡ classes)) (rw (c.in_ok-put-6.ensures, c.in_ok-put-5.ensures, c.in_ok-put-4.ensures, c.in_ok-put-3.ensures, c.in_ok-put-2.ensures, c.in_ok-put.ensures) (simp append_assoc refl)) c.put-7.ensures
