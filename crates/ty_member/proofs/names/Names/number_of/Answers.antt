use Rattle.std.proofs.Common.{◌∙◌, ap}
use Rattle.ty_member.proofs.Spelling.{spelled_number}
use Rattle.ty_member.specs.Names.{number_in}
use Rattle.ty_member.proofs.names.Names.number_of.Goals as goal

pub returns : goal.returns
returns c =
    c.get_index_of.ensures.index
    ∙ spelled_number c.as_str.result.now c.args.name.now c.as_str.utf8 c.as_str.ensures.characters c.self.inside.set.keys
    ∙ ap (λ names. number_in names c.args.name.now) c.self.view_is
