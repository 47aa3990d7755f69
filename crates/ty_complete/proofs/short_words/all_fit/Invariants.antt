use Rattle.std.proofs.Common.{◌≡◌, drop}
use Rattle.std.specs.List.{list_all}
use Rattle.ty_complete.specs.Complete.{words_fit}
use Rattle.ty_complete.proofs.short_words.all_fit.Given as goal

abbrev pub invariant-loop-class : goal.invariant-loop-class
invariant-loop-class l =
    list_all words_fit (drop l.class-index l.classes) ≡ list_all words_fit l.classes
