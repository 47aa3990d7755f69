-- Cases that are tried in turn.
use Rattle.std.proofs.Common.{◌≡◌, ◌∙◌, ap, sym, Bool, true, false, List, [], ◌∷◌, fold, refl}
use Rattle.std.specs.Prelude.{◌||◌, ◌&&◌, not}
use Rattle.ty_flow.specs.declared.passage.Passage.{Passage}
use Rattle.ty_flow.specs.declared.passage.CasePassage.{CasePassage}
use Rattle.ty_flow.specs.Uses.{no_case, chosen, tested, or_else, first_of}

abbrev made : Bool → Bool → Bool → Passage
made reads on_true on_false = record { reads = reads; on_true = on_true; on_false = on_false }

same_made : (r s t u f g : Bool) → r ≡ s → t ≡ u → f ≡ g → made r t f ≡ made s u g
same_made r s t u f g reads on_true on_false = ap (λ x. made x t f) reads ∙ ap (λ x. made s x f) on_true ∙ ap (λ x. made s u x) on_false

-- a case, and what follows where it isn't taken
abbrev after : CasePassage → Passage → Passage
after one p =
    made (one.taken.reads || (not one.failed && p.reads)) (one.taken.on_true && (one.failed || p.on_true)) (one.taken.on_false && (one.failed || p.on_false))

end_reads : (reads failed : Bool) → reads ≡ (reads || (not failed && false))
end_reads true failed = refl
end_reads false true = refl
end_reads false false = refl

end_sets : (set failed : Bool) → set ≡ (set && (failed || true))
end_sets true true = refl
end_sets true false = refl
end_sets false failed = refl

two_read : (reads failed again then_failed last : Bool)
    → ((reads || (not failed && again)) || (not (failed || then_failed) && last)) ≡ (reads || (not failed && (again || (not then_failed && last))))
two_read true failed again then_failed last = refl
two_read false true again then_failed last = refl
two_read false false again then_failed last = refl

two_set : (set failed again then_failed last : Bool)
    → ((set && (failed || again)) && ((failed || then_failed) || last)) ≡ (set && (failed || (again && (then_failed || last))))
two_set true true again then_failed last = refl
two_set true false again then_failed last = refl
two_set false failed again then_failed last = refl

joined : (one next : CasePassage) (p : Passage) → after (or_else one next) p ≡ after one (after (or_else no_case next) p)
unfolding or_else
joined one next p =
    same_made _ _ _ _ _ _ (two_read one.taken.reads one.failed next.taken.reads next.failed p.reads)
    (two_set one.taken.on_true one.failed next.taken.on_true next.failed p.on_true)
    (two_set one.taken.on_false one.failed next.taken.on_false next.failed p.on_false)

turned : (one : CasePassage) (rest : List CasePassage) → (fold or_else one rest).taken ≡ after one (first_of rest)
turned one [] =
    same_made _ _ _ _ _ _ (end_reads one.taken.reads one.failed) (end_sets one.taken.on_true one.failed) (end_sets one.taken.on_false one.failed)
turned one (next ∷ rest) =
    turned (or_else one next) rest ∙ joined one next (first_of rest) ∙ ap (after one) (sym (turned (or_else no_case next) rest))

test_reads : (reads one failed last : Bool) → ((reads || one || (not failed && false)) || (not failed && last)) ≡ (reads || one || (not failed && last))
test_reads true one failed last = refl
test_reads false true failed last = refl
test_reads false false true last = refl
test_reads false false false last = refl

test_sets : (set failed last : Bool) → ((set && (failed || true)) && (failed || last)) ≡ (set && (failed || last))
test_sets true true last = refl
test_sets true false last = refl
test_sets false failed last = refl

tested_first : (test body p : Passage) → after (or_else no_case (tested test body)) p ≡ chosen test body p
unfolding or_else tested chosen
tested_first test body p =
    same_made _ _ _ _ _ _ (test_reads test.reads (not test.on_true && body.reads) test.on_false p.reads)
    (test_sets (test.on_true || body.on_true) test.on_false p.on_true)
    (test_sets (test.on_true || body.on_false) test.on_false p.on_false)

-- the first of some cases is a conditional, and the others are its last branch
pub first_chosen : (test body : Passage) (rest : List CasePassage) → first_of (tested test body ∷ rest) ≡ chosen test body (first_of rest)
first_chosen test body rest = turned (or_else no_case (tested test body)) rest ∙ tested_first test body (first_of rest)
