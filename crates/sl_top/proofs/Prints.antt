-- Lines that print, and the lines behind them.
use Rattle.std.proofs.Common.{◌≡◌, ◌≢◌, ℕ, ◌<◌, List, [], ◌∷◌, ◌++◌, length, get_or, refl, sym, ap, subst, ◌∙◌, append_assoc, arith, codes, length-append}
use Rattle.std.proofs.lemmas.List.{append_cancel_left}
use Rattle.sl_top.specs.declared.chain.Chain.{Chain}
use Rattle.sl_top.specs.Listing.{AreLines, HasLiterals, print_text, chain_text}
use Rattle.sl_top.specs.Reading.{unindented, SpellsChain, IsRead, NoneRead, IsBody}
use Rattle.sl_top.proofs.Going.{SoFar, one_more, all_read, only_these, no_reading}
use Rattle.sl_top.proofs.Lines.{to_line, from_line, unindented-le}

print_parts : (c : Chain) (rest : List ℕ) → print_text c ++ (10 ∷ rest) ≡ codes "println(" ++ (chain_text c ++ (41 ∷ 10 ∷ rest))
print_parts c rest = append_assoc (codes "println(") (chain_text c ++ codes ")") (10 ∷ rest) ∙ ap (λ (x : List ℕ). codes "println(" ++ x) (append_assoc (chain_text c) (codes ")") (10 ∷ rest))

pub with_print : (c : Chain) (cs : List Chain) (now inside after : List ℕ) → unindented now ≡ codes "println(" ++ inside → SpellsChain c inside after → IsBody cs after → IsBody (c ∷ cs) now
with_print c cs now inside after e h m =
    let l = to_line now (print_text c) after (e ∙ ap (λ (x : List ℕ). codes "println(" ++ x) h.1 ∙ sym (print_parts c after)) in
    ((h.0, m.0), (l.0, after, l.1, m.1))

pub first_print : (c : Chain) (cs : List Chain) (now : List ℕ) → IsBody (c ∷ cs) now → (after : List ℕ) × (unindented now ≡ codes "println(" ++ (chain_text c ++ (41 ∷ 10 ∷ after))) × HasLiterals c × IsBody cs after
first_print c cs now h =
    let some : 0 < length (print_text c) = omega arith in
    let other : get_or (print_text c) 0 0 ≢ 32 = λ e. absurd (omega (arith, e)) in
    (h.1.1, from_line now h.1.0 (print_text c) h.1.1 some other h.1.2 ∙ print_parts c h.1.1, h.0.0, (h.0.1, h.1.3))

end_apart : (now inside : List ℕ) → unindented now ≡ codes "println(" ++ inside → IsBody [] now → ⊥
end_apart now inside e h =
    let some : 0 < length (codes "}") = omega arith in
    let other : get_or (codes "}") 0 0 ≢ 32 = λ x. absurd (omega (arith, x)) in
    let f : 125 ≡ 112 = ap (λ (x : List ℕ). get_or x 0 0) (sym (from_line now h.1.0 (codes "}") h.1.1 some other h.1.2) ∙ e) in
    absurd (omega (arith, f))

inside_of : (c : Chain) (now inside after : List ℕ) → unindented now ≡ codes "println(" ++ inside → HasLiterals c → unindented now ≡ codes "println(" ++ (chain_text c ++ (41 ∷ 10 ∷ after)) → SpellsChain c inside after
inside_of c now inside after e h f = (h, append_cancel_left (codes "println(") inside (chain_text c ++ (41 ∷ 10 ∷ after)) (sym e ∙ f))

goes_by_print : (c : Chain) (now inside after : List ℕ) → unindented now ≡ codes "println(" ++ inside → IsRead SpellsChain inside c after → (more : List Chain) → IsBody more now → (others : List Chain) × (more ≡ c ∷ others) × IsBody others after
goes_by_print c now inside after e read [] h = absurd (end_apart now inside e h)
goes_by_print c now inside after e read (x ∷ xs) h =
    let f = first_print x xs now h in
    let o = read.only x f.0 (inside_of x now inside f.0 e f.2 f.1) in
    (xs, ap (λ (y : Chain). y ∷ xs) o.0, subst (λ (b : List ℕ). IsBody xs b) o.1 f.3)

pub one_print_more : (start now : List ℕ) (front : List Chain) (c : Chain) (inside after : List ℕ) → SoFar IsBody start front now → unindented now ≡ codes "println(" ++ inside → IsRead SpellsChain inside c after → SoFar IsBody start (front ++ c ∷ []) after
one_print_more start now front c inside after so_far e read =
    one_more IsBody start front now c after so_far
    (λ more m. with_print c more now inside after e read.is m)
    (λ more m. goes_by_print c now inside after e read more m)

no_more_prints : (now : List ℕ) → ((rest : List ℕ) → unindented now ≢ codes "println(" ++ rest) → (more : List Chain) → IsBody more now → more ≡ []
no_more_prints now none [] h = refl
no_more_prints now none (x ∷ xs) h = let f = first_print x xs now h in absurd (none (chain_text x ++ (41 ∷ 10 ∷ f.0)) f.1)

pub no_chain : (start now : List ℕ) (front : List Chain) (inside : List ℕ) → SoFar IsBody start front now → unindented now ≡ codes "println(" ++ inside → NoneRead SpellsChain inside → (all : List Chain) → IsBody all start → ⊥
no_chain start now front inside so_far e none = no_reading IsBody start front now so_far stuck where
  stuck : (more : List Chain) → IsBody more now → ⊥
  stuck [] h = end_apart now inside e h
  stuck (x ∷ xs) h = let f = first_print x xs now h in none x f.0 (inside_of x now inside f.0 e f.2 f.1)

pub body_read : (start now : List ℕ) (front : List Chain) → SoFar IsBody start front now → ((rest : List ℕ) → unindented now ≢ codes "println(" ++ rest) → AreLines (codes "}" ∷ codes "}" ∷ []) now → IsBody front start × ((others : List Chain) → IsBody others start → others ≡ front)
body_read start now front so_far none end = (all_read IsBody start front now so_far (tt, end), only_these IsBody start front now so_far (no_more_prints now none))

pub no_body : (start now : List ℕ) (front : List Chain) → SoFar IsBody start front now → ((rest : List ℕ) → unindented now ≢ codes "println(" ++ rest) → (AreLines (codes "}" ∷ codes "}" ∷ []) now → ⊥) → (all : List Chain) → IsBody all start → ⊥
no_body start now front so_far none not_end =
    no_reading IsBody start front now so_far (λ more m. not_end (subst (λ (xs : List Chain). IsBody xs now) (no_more_prints now none more m) m).1)

-- a line that prints takes bytes
pub print_shorter : (c : Chain) (now inside after : List ℕ) → unindented now ≡ codes "println(" ++ inside → SpellsChain c inside after → length after < length now
print_shorter c now inside after e h = omega (arith, unindented-le now, ap length e, ap length h.1, length-append (chain_text c) (41 ∷ 10 ∷ after))
