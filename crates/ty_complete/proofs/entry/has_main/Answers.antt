use Rattle.std.proofs.Common.{◌≡◌, ◌∙◌, sym, ap}
use Rattle.ty_complete.specs.Complete.{begins_with}
use Rattle.ty_complete.proofs.Plain.{main, main_chars}
use Rattle.ty_complete.proofs.entry.has_main.Goals as goal

pub returns : goal.returns
returns c =
    let named : c.in_ok-name.name ≡ main = c.in_ok-name.ensures ∙ main_chars in
    let same : c.begins_with.result ≡ begins_with c.args.p.now main = c.begins_with.ensures ∙ ap (begins_with c.args.p.now) named in
    (λ h. sym same ∙ h, λ h. same ∙ h)
