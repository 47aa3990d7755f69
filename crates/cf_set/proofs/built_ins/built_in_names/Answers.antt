use Rattle.std.proofs.Common.{rules, ◌≡◌, ◌∙◌, ap, [], map}
use Rattle.std.specs.Str.{chars}
use Rattle.cf_set.specs.Names.{with_names}
use Rattle.cf_set.proofs.BuiltInNames.{texts, spelled, all}
use Rattle.cf_set.proofs.built_ins.built_in_names.Goals as goal

pub returns : goal.returns
unfolding chars
returns c =
    let put : c.put_names.new.names ≡ with_names c.new-names.result (map chars texts) = search rules in
    let empty : c.new-names.result ≡ [] = search rules in
    put ∙ ap (λ names. with_names names (map chars texts)) empty ∙ ap (with_names []) spelled ∙ all
