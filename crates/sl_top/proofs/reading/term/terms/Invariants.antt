use Rattle.std.proofs.Common.{ℕ, List, length}
use Rattle.sl_top.specs.Reading.{SpellsTerms}
use Rattle.sl_top.proofs.Going.{SoFar}
use Rattle.sl_top.proofs.reading.term.terms.Given as goal

abbrev pub invariant-terms : goal.invariant-terms
invariant-terms l = (end : List ℕ) → SoFar (λ ts bytes. SpellsTerms ts bytes end) l.bytes l.terms l.rest

abbrev pub decreases-terms : goal.decreases-terms
decreases-terms l = length l.rest
