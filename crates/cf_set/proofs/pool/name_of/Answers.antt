use Rattle.std.proofs.Common.{rules, ◌≡◌, ◌∙◌, [], None, sym, ap}
use Rattle.std.specs.Option.{unwrap_or}
use Rattle.std.proofs.lemmas.Str.{chars-nil}
use Rattle.cf_link.specs.OfFiles.{class_named}
use Rattle.cf_set.proofs.pool.name_of.Goals as goal

pub returns-in-None : goal.returns-in-None
returns-in-None c =
    let none : class_named c.args.file.now.pool c.args.file.now.this ≡ None = search rules in
    chars-nil ∙ sym (ap (λ n. unwrap_or n []) none)
