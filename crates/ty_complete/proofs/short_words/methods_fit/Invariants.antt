use Rattle.std.proofs.Common.{◌≡◌, drop}
use Rattle.std.specs.List.{list_all}
use Rattle.ty_complete.specs.Complete.{has_short_words}
use Rattle.ty_complete.proofs.short_words.methods_fit.Given as goal

abbrev pub invariant-loop-method : goal.invariant-loop-method
invariant-loop-method l =
    list_all (λ m. has_short_words m.name) (drop l.method-index l.methods) ≡ list_all (λ m. has_short_words m.name) l.methods
