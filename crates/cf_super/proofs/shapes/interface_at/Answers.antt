use Rattle.std.proofs.Common.{rules, arith, ◌≡◌, ◌∙◌, ◌-◌, Some, None, slice_get, sym, ap, false}
use Rattle.std.specs.Prelude.{option_map}
use Rattle.std.specs.Option.{unwrap_or}
use Rattle.cf_link.specs.Classes.{is_interface_access}
use Rattle.cf_super.proofs.Shaped.{built_in_is, of_file_is}
use Rattle.cf_super.proofs.shapes.interface_at.Goals as goal

pub returns-then-number : goal.returns-then-number
returns-then-number c = built_in_is c.args.files.now c.args.number (omega arith)

pub returns-in-Some : goal.returns-in-Some
returns-in-Some c =
    let at : slice_get c.args.files.now (c.args.number - 28) ≡ Some c.in-Some.file.now = search rules in
    c.is_interface_access.ensures ∙ sym (ap (λ o. unwrap_or (option_map (λ f. is_interface_access f.access) o) false) at)
    ∙ of_file_is c.args.files.now c.args.number (c.args.number - 28) (omega arith)

pub returns-in-None : goal.returns-in-None
returns-in-None c =
    let at : slice_get c.args.files.now (c.args.number - 28) ≡ None = search rules in
    sym (ap (λ o. unwrap_or (option_map (λ f. is_interface_access f.access) o) false) at)
    ∙ of_file_is c.args.files.now c.args.number (c.args.number - 28) (omega arith)
