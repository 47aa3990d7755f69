use Rattle.std.proofs.Common.{◌≡◌, drop}
use Rattle.std.specs.List.{list_all}
use Rattle.ty_complete.specs.Complete.{has_short_words}
use Rattle.ty_complete.proofs.short_words.fields_fit.Given as goal

abbrev pub invariant-loop-field : goal.invariant-loop-field
invariant-loop-field l =
    list_all (λ f. has_short_words f.name) (drop l.field-index l.fields) ≡ list_all (λ f. has_short_words f.name) l.fields
