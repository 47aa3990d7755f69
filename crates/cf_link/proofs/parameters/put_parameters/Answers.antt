use Rattle.std.proofs.Common.{◌≡◌, ◌≢◌, ◌∙◌, List, ℕ, [], ◌∷◌, length, get_or, refl, sym, ap, subst, arith, rules}
use Rattle.cf_link.specs.Parsing.{type_in_front}
use Rattle.cf_link.proofs.Following.{Left, left_first, left_more, left_shorter, no_parameters}
use Rattle.cf_link.proofs.parameters.put_parameters.Goals as goal

pub loop-rest-init : goal.loop-rest-init
loop-rest-init c =
    let none : c.args.kinds.now ≡ [] = search rules in
    subst (λ ks. Left c.args.bytes.now ks c.args.bytes.now) (sym none) (left_first c.args.bytes.now)

pub loop-rest-smaller : goal.loop-rest-smaller
loop-rest-smaller c = left_shorter c.loop-rest.rest.now c.in-Some.kind c.in-Some.after.now c.in-Some.ensures

pub loop-rest-preserved : goal.loop-rest-preserved
loop-rest-preserved c =
    subst (λ ks. Left c.args.bytes.now ks c.in-Some.after.now) (sym c.in_ok-push-in-Some.ensures.ok)
    (left_more c.args.bytes.now c.loop-rest.kinds c.loop-rest.rest.now c.in-Some.kind c.in-Some.after.now c.in-Some.ensures c.loop-rest.invariant)

no_bracket : (rest : List ℕ) → get_or rest 0 0 ≢ 41 → (xs : List ℕ) → rest ≢ 41 ∷ xs
no_bracket rest other xs text = other (ap (λ ys. get_or ys 0 0) text)

pub returns-in-None : goal.returns-in-None
returns-in-None c =
    let other : get_or c.loop-rest.rest.now 0 0 ≢ 41 = search rules in
    no_parameters c.args.bytes.now c.loop-rest.kinds c.loop-rest.rest.now c.loop-rest.invariant c.in-None.ensures (no_bracket c.loop-rest.rest.now other)

nil_from_length : (xs : List ℕ) → length xs ≡ 0 → xs ≡ []
nil_from_length [] none = refl
nil_from_length (x ∷ xs) none = absurd (omega arith)

nothing_else : (xs : List ℕ) → [] ≢ 41 ∷ xs
nothing_else xs h = cc h

pub returns : goal.returns
returns c =
    let zero : length c.loop-rest.rest.now ≡ 0 = search rules in
    let none : c.loop-rest.rest.now ≡ [] = nil_from_length c.loop-rest.rest.now zero in
    no_parameters c.args.bytes.now c.loop-rest.kinds c.loop-rest.rest.now c.loop-rest.invariant
    (ap type_in_front none)
    (λ xs text. nothing_else xs (sym none ∙ text))
