use Rattle.std.proofs.Common.{◌≡◌, ℕ, List, [], ◌∷◌, ◌∙◌, Some, None, sym, subst}
use Rattle.cf_form.specs.ClassFiles.{Spelled}
use Rattle.cf_form.specs.declared.class_file.ClassFile.{ClassFile}
use Rattle.cf_write.proofs.Examples.{full, full_spelled}
use Rattle.cf_write.proofs.tests.full.Goals as goal

pub returns : goal.returns
returns c =
    let fields = c.from_vec.ensures ∙ c.in_ok-fields.ensures.items in
    let code = c.in_ok-code.ensures in
    let methods = c.from_vec-2.ensures ∙ c.in_ok-methods.ensures.items
    ∙ (λ i. record { access = 0x0401; name = 10; descriptor = 11; code = None } ∷ record { access = 1; name = 12; descriptor = 11; code = Some (code i) } ∷ []) in
    let file : record { minor = 3; major = 52; pool = c.in_ok-pool.pool; access = 33; this = 1; parent = 3; interfaces = c.in_ok-interfaces.interfaces; fields = c.from_vec.result; methods = c.from_vec-2.result } ≡ full =
    λ i. record { minor = 3; major = 52; pool = c.in_ok-pool.ensures i; access = 33; this = 1; parent = 3; interfaces = c.in_ok-interfaces.ensures i; fields = fields i; methods = methods i } in
    subst (λ (f : ClassFile). (bytes : List ℕ) × Spelled f bytes) (sym file) full_spelled
