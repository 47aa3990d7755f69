use Rattle.std.proofs.Common.{◌≡◌, ◌∙◌, codes, ap}
use Rattle.std.specs.Str.{chars}
use Rattle.cf_set.specs.Names.{number_in}
use Rattle.cf_refs.proofs.starting.main_class.Goals as goal

pub returns : goal.returns
unfolding chars
returns c =
    let name : c.in_ok-main.main ≡ codes "Main" = c.in_ok-main.ensures in
    c.in_ok-number.ensures ∙ c.number_of.ensures ∙ ap (number_in c.args.names.now) name
