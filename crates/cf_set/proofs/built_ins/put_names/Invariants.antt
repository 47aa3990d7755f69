use Rattle.std.proofs.Common.{◌≡◌, map, drop}
use Rattle.std.specs.Str.{chars}
use Rattle.cf_set.specs.Names.{with_names}
use Rattle.cf_set.proofs.built_ins.put_names.Given as goal

abbrev pub invariant-loop-text : goal.invariant-loop-text
invariant-loop-text l =
    with_names l.names (map (λ t. chars t.now) (drop l.text-index l.texts)) ≡ with_names l.initial.names (map (λ t. chars t.now) l.texts)
