-- Terms and chains.
use Rattle.std.proofs.Common.{◌≡◌, ◌≢◌, ℕ, ◌≤◌, List, [], ◌∷◌, ◌++◌, get_or, refl, sym, ap, subst, ◌∙◌, append_assoc, arith, decimal, flat_map}
use Rattle.sl_top.specs.declared.operator.Operator.{Operator}
use Rattle.sl_top.specs.declared.operator.Operator.TheVariants.{Add, Sub, Mul}
use Rattle.sl_top.specs.declared.chain.Term.{Term}
use Rattle.sl_top.specs.declared.chain.Chain.{Chain}
use Rattle.sl_top.specs.Listing.{operator_text, term_text}
use Rattle.sl_top.specs.Reading.{NoDigit, SpellsLiteral, SpellsTerm, SpellsTerms, SpellsChain, IsRead, NoneRead}
use Rattle.sl_top.proofs.Going.{SoFar, one_more, all_read, only_these, no_reading}

no_digit_behind_operator : (op : Operator) (rest : List ℕ) → NoDigit (operator_text op ++ rest)
no_digit_behind_operator Add rest h = absurd (omega (arith, h.0))
no_digit_behind_operator Sub rest h = absurd (omega (arith, h.0))
no_digit_behind_operator Mul rest h = absurd (omega (arith, h.0))

operator_apart : (op : Operator) (rest end : List ℕ) → operator_text op ++ rest ≢ 41 ∷ end
operator_apart Add rest end e = let h : 32 ≡ 41 = ap (λ (x : List ℕ). get_or x 0 0) e in absurd (omega (arith, h))
operator_apart Sub rest end e = let h : 32 ≡ 41 = ap (λ (x : List ℕ). get_or x 0 0) e in absurd (omega (arith, h))
operator_apart Mul rest end e = let h : 32 ≡ 41 = ap (λ (x : List ℕ). get_or x 0 0) e in absurd (omega (arith, h))

term_apart : (t : Term) (rest end : List ℕ) → term_text t ++ rest ≢ 41 ∷ end
term_apart t rest end e = operator_apart t.op (decimal t.literal ++ rest) end (sym (append_assoc (operator_text t.op) (decimal t.literal) rest) ∙ e)

-- no digit stands where terms do, up to the end of their line
no_digit_there : (ts : List Term) (end : List ℕ) → NoDigit (flat_map term_text ts ++ (41 ∷ 10 ∷ end))
no_digit_there [] end h = absurd (omega (arith, h.0))
no_digit_there (t ∷ ts) end h = no_digit_behind_operator t.op (decimal t.literal ++ (flat_map term_text ts ++ (41 ∷ 10 ∷ end)))
    (subst (λ (x : List ℕ). 48 ≤ get_or x 0 0 × get_or x 0 0 ≤ 57) (append_assoc (operator_text t.op ++ decimal t.literal) (flat_map term_text ts) (41 ∷ 10 ∷ end) ∙ append_assoc (operator_text t.op) (decimal t.literal) (flat_map term_text ts ++ (41 ∷ 10 ∷ end))) h)

-- ---- a term before others

pub with_term : (t : Term) (ts : List Term) (bytes after end : List ℕ) → SpellsTerm t bytes after → SpellsTerms ts after end → SpellsTerms (t ∷ ts) bytes end
with_term t ts bytes after end h hs = ((h.0, hs.0), h.1 ∙ ap (λ (x : List ℕ). term_text t ++ x) hs.1 ∙ sym (append_assoc (term_text t) (flat_map term_text ts) (41 ∷ 10 ∷ end)))

pub first_term : (t : Term) (ts : List Term) (bytes end : List ℕ) → SpellsTerms (t ∷ ts) bytes end → (after : List ℕ) × SpellsTerm t bytes after × SpellsTerms ts after end
first_term t ts bytes end h = (flat_map term_text ts ++ (41 ∷ 10 ∷ end), (h.0.0, h.1 ∙ append_assoc (term_text t) (flat_map term_text ts) (41 ∷ 10 ∷ end), no_digit_there ts end), (h.0.1, refl))

-- the terms there begin with the one that is read
pub goes_by_term : (t : Term) (now after : List ℕ) → IsRead SpellsTerm now t after → (end : List ℕ) (more : List Term) → SpellsTerms more now end → (others : List Term) × (more ≡ t ∷ others) × SpellsTerms others after end
goes_by_term t now after read end [] h = absurd (term_apart t after (10 ∷ end) (sym read.is.1 ∙ h.1))
goes_by_term t now after read end (x ∷ xs) h =
    let f = first_term x xs now end h in
    let o = read.only x f.0 f.1 in
    (xs, ap (λ (y : Term). y ∷ xs) o.0, subst (λ (b : List ℕ). SpellsTerms xs b end) o.1 f.2)

pub one_term_more : (start now : List ℕ) (front : List Term) (t : Term) (after : List ℕ) → ((end : List ℕ) → SoFar (λ ts bytes. SpellsTerms ts bytes end) start front now) → IsRead SpellsTerm now t after → (end : List ℕ) → SoFar (λ ts bytes. SpellsTerms ts bytes end) start (front ++ t ∷ []) after
one_term_more start now front t after so_far read end =
    one_more (λ ts bytes. SpellsTerms ts bytes end) start front now t after (so_far end)
    (λ more m. with_term t more now after end read.is m)
    (λ more m. goes_by_term t now after read end more m)

-- no term is there
pub no_more_terms : (now end : List ℕ) → NoneRead SpellsTerm now → (more : List Term) → SpellsTerms more now end → more ≡ []
no_more_terms now end none [] h = refl
no_more_terms now end none (x ∷ xs) h = let f = first_term x xs now end h in absurd (none x f.0 f.1)

pub terms_read : (start now : List ℕ) (front : List Term) (after : List ℕ) → ((end : List ℕ) → SoFar (λ ts bytes. SpellsTerms ts bytes end) start front now) → NoneRead SpellsTerm now → now ≡ 41 ∷ 10 ∷ after → IsRead SpellsTerms start front after
terms_read start now front after so_far none e = record {
  is = all_read (λ ts bytes. SpellsTerms ts bytes after) start front now (so_far after) (tt, e);
  only = λ all end h.
      let g = (so_far end).goes_on all h in
      let nil = no_more_terms now end none g.0 g.2 in
      let last : now ≡ 41 ∷ 10 ∷ end = (subst (λ (more : List Term). SpellsTerms more now end) nil g.2).1 in
      let same : 41 ∷ 10 ∷ end ≡ 41 ∷ 10 ∷ after = sym last ∙ e in
      (only_these (λ ts bytes. SpellsTerms ts bytes end) start front now (so_far end) (λ more m. no_more_terms now end none more m) all h, cc);
}

pub no_terms : (start now : List ℕ) (front : List Term) → ((end : List ℕ) → SoFar (λ ts bytes. SpellsTerms ts bytes end) start front now) → NoneRead SpellsTerm now → ((end : List ℕ) → now ≢ 41 ∷ 10 ∷ end) → NoneRead SpellsTerms start
no_terms start now front so_far none stuck all end h =
    no_reading (λ ts bytes. SpellsTerms ts bytes end) start front now (so_far end)
    (λ more m. stuck end (subst (λ (xs : List Term). SpellsTerms xs now end) (no_more_terms now end none more m) m).1) all h

-- ---- a chain

literal_first : (c : Chain) (bytes end : List ℕ) → SpellsChain c bytes end → (after : List ℕ) × SpellsLiteral c.first bytes after × SpellsTerms c.rest after end
literal_first c bytes end h = (flat_map term_text c.rest ++ (41 ∷ 10 ∷ end), (h.0.0, h.1 ∙ append_assoc (decimal c.first) (flat_map term_text c.rest) (41 ∷ 10 ∷ end), no_digit_there c.rest end), (h.0.1, refl))

abbrev pub chain_of : ℕ → List Term → Chain
chain_of first rest = record { first = first; rest = rest }

pub chain_read : (bytes : List ℕ) (n : ℕ) (mid : List ℕ) (ts : List Term) (end : List ℕ) → IsRead SpellsLiteral bytes n mid → IsRead SpellsTerms mid ts end → IsRead SpellsChain bytes (chain_of n ts) end
chain_read bytes n mid ts end first rest = record {
  is = ((first.is.0, rest.is.0), first.is.1 ∙ ap (λ (x : List ℕ). decimal n ++ x) rest.is.1 ∙ sym (append_assoc (decimal n) (flat_map term_text ts) (41 ∷ 10 ∷ end)));
  only = λ c after h.
      let l = literal_first c bytes after h in
      let a = first.only c.first l.0 l.1 in
      let b = rest.only c.rest after (subst (λ (x : List ℕ). SpellsTerms c.rest x after) a.1 l.2) in
      (ap (λ (x : ℕ). chain_of x c.rest) a.0 ∙ ap (λ (xs : List Term). chain_of n xs) b.0, b.1);
}

pub no_first : (bytes : List ℕ) → NoneRead SpellsLiteral bytes → NoneRead SpellsChain bytes
no_first bytes none c end h = let l = literal_first c bytes end h in none c.first l.0 l.1

pub no_rest : (bytes : List ℕ) (n : ℕ) (mid : List ℕ) → IsRead SpellsLiteral bytes n mid → NoneRead SpellsTerms mid → NoneRead SpellsChain bytes
no_rest bytes n mid first none c end h =
    let l = literal_first c bytes end h in
    let a = first.only c.first l.0 l.1 in
    none c.rest end (subst (λ (x : List ℕ). SpellsTerms c.rest x end) a.1 l.2)
