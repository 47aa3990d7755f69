use Rattle.std.proofs.Common.{◌≡◌, rules, tests}
use Rattle.std.specs.List.{list_all}
use Rattle.std.specs.Str.{chars}
use Rattle.std.proofs.lemmas.Iterator.{YieldsList-from_chars}
use Rattle.std.proofs.lemmas.Iterator.Search.{all_from_yields_List}
use Rattle.std.proofs.lemmas.List.Sums.{AllPass-from_list_all, list_all-from_AllPass}
use Rattle.ty_complete.specs.Complete.{is_plain}
use Rattle.ty_complete.proofs.names.are_plain.Goals as goal

pub returns : goal.returns
returns c =
    let text = chars c.args.text.now in
    let same : c.all.result ≡ list_all is_plain text =
    all_from_yields_List is_plain _ _ c.all.result c.all.ensures.ran (YieldsList-from_chars c.args.text.now c.utf8.text cc) (λ x b q k. search (rules, tests)) in
    (λ h. AllPass-from_list_all is_plain text (cc), λ h. cc (list_all-from_AllPass is_plain text h))
