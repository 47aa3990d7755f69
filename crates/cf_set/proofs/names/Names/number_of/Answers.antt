use Rattle.std.proofs.Common.{◌∙◌, ap}
use Rattle.cf_set.proofs.Spelling.{spelled_number}
use Rattle.cf_set.specs.Names.{number_in}
use Rattle.cf_set.proofs.names.Names.number_of.Goals as goal

pub returns : goal.returns
returns c =
    c.get_index_of.ensures.index
    ∙ spelled_number c.as_str.result.now c.args.name.now c.as_str.utf8 c.as_str.ensures.characters c.self.inside.set.keys
    ∙ ap (λ names. number_in names c.args.name.now) c.self.view_is
