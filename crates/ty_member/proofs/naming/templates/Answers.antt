use Rattle.std.proofs.Common.{List, subst}
use Rattle.sl_ast.specs.declared.unit.TopDef.{TopDef}
use Rattle.ty_member.specs.Checked.{Gives, each}
use Rattle.ty_member.specs.Naming.{template, nothing_known}
use Rattle.ty_member.specs.declared.known.Known.{Known}
use Rattle.ty_member.proofs.naming.templates.Goals as goal

pub returns : goal.returns
returns c =
    let begun : Gives (each template c.as_slice.result.now nothing_known) c.all_named.result =
    subst (λ (known : Known). Gives (each template c.as_slice.result.now known) c.all_named.result) c.in_ok-known.ensures c.all_named.ensures in
    subst (λ (defs : List TopDef). Gives (each template defs nothing_known) c.all_named.result) c.as_slice.ensures begun
