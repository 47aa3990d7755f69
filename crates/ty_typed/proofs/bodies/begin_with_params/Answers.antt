use Rattle.std.specs.Prelude.{IsTrue, ◌↔◌}
use Rattle.ty_typed.specs.Members.{param_types}
use Rattle.ty_typed.specs.Parts.{Begins}
use Rattle.ty_typed.proofs.Beginnings.{begins_take}
use Rattle.ty_typed.proofs.bodies.begin_with_params.Goals as goal

pub returns : goal.returns
returns c =
    let same = begins_take (param_types c.args.class.now) c.args.locals.now in
    let told : IsTrue c.begins_with_fields.result ↔ Begins (param_types c.args.class.now) c.args.locals.now = rw (c.as_slice.ensures, c.as_slice-2.ensures) at c.begins_with_fields.ensures in
    (λ h. same.0 (told.0 h), λ h. told.1 (same.1 h))
