use Rattle.std.proofs.Common.{rules, ◌≡◌, ◌∙◌, ap, not}
use Rattle.std.specs.Str.{chars}
use Rattle.std.specs.String.{string_bytes}
use Rattle.ty_member.specs.Names.{has_name}
use Rattle.ty_member.proofs.Spelling.{spelled, spelled_has, spelled_with}
use Rattle.ty_member.specs.Names.{with_name}
use Rattle.ty_member.proofs.names.Names.add.Goals as goal

pub returns-clause-is_new : goal.returns-clause-is_new
returns-clause-is_new c =
    let name = chars c.args.name.now in
    let spells : chars (string_bytes c.in_ok-text.text) ≡ name = search rules in
    let added : c.in_ok-insert_full.field-0.1 ≡ not (has_name (spelled c.self.inside.set.keys) name) =
    c.in_ok-insert_full.ensures.added ∙ ap not (spelled_has c.in_ok-text.text name spells c.self.inside.set.keys) in
    added ∙ ap (λ names. not (has_name names name)) c.self.view_is

pub returns-clause-names : goal.returns-clause-names
returns-clause-names c =
    let name = chars c.args.name.now in
    let spells : chars (string_bytes c.in_ok-text.text) ≡ name = search rules in
    ap spelled c.in_ok-insert_full.ensures.keys
    ∙ spelled_with c.in_ok-text.text name spells c.self.inside.set.keys ∙ ap (λ names. with_name names name) c.self.view_is
