use Rattle.std.proofs.Common.{List, Option, sym, ap, ◌∙◌, subst, w32, rules}
use Rattle.std.proofs.lemmas.Int.{to_z-of_z}
use Rattle.cf_link.specs.declared.reference.LinkedRef.{LinkedRef}
use Rattle.vm_state.specs.declared.value.Value.{Value}
use Rattle.vm_state.specs.Instructions.{Does}
use Rattle.vm_state.specs.Methods.{ref_at}
use Rattle.vm_state.specs.Local.{class_cast, check_cast}
use Rattle.vm_local.proofs.classes.check_cast.Goals as goal

pub returns-in-Some : goal.returns-in-Some
unfolding check_cast
returns-in-Some c =
    let k = c.args.k.now in
    let f = c.args.f.now in
    let Entry : Option LinkedRef → Type 0 = λ r. Does (class_cast k f c.in-Some.v r) c.class_cast.result f c.class_cast.new.f in
    let Operands : List Value → Type 0 = λ vs. Does (check_cast k f (ref_at k f.class c.args.a) vs) c.class_cast.result f c.class_cast.new.f in
    subst Operands (sym c.in-Some.ensures) (subst Entry (c.ref_at-r.ensures ∙ ap (ref_at k f.class) (to_z-of_z w32 c.args.a (search rules))) c.class_cast.ensures)
