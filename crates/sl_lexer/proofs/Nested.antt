-- The scan with a count finds the comments that nest.
use Rattle.std.proofs.Common.{◌≡◌, ℕ, zero, suc, ◌+◌, ◌-◌, Bool, true, false, List, [], ◌∷◌, length, drop, Option, Some, None, refl, sym, ap, subst, ◌∙◌, arith, inl, inr, ◌⊎◌}
use Rattle.std.specs.Prelude.{if◌then◌else◌, ◌==◌, ◌&&◌}
use Rattle.std.proofs.lemmas.Bool.{eqb-true, ne_eqb}
use Rattle.sl_lexer.specs.Characters.{first}
use Rattle.sl_lexer.specs.Comment.{opens, closes, IsComment, closed, nested, inside, comment_end}

-- ---- one step of the scan

pub no_char : (n : ℕ) (cs : List ℕ) → first cs ≡ None → comment_end n cs ≡ None
unfolding comment_end
no_char n [] h = refl
no_char n (c ∷ cs) h = absurd cc

pub at_close : (n c : ℕ) (cs : List ℕ) → first cs ≡ Some c → closes c (first (drop 1 cs)) ≡ true → comment_end n cs ≡ (if n == 0 then Some (drop 1 (drop 1 cs)) else comment_end (n - 1) (drop 1 (drop 1 cs)))
unfolding comment_end
at_close n c [] h e = absurd cc
at_close n c (a ∷ []) h e = absurd cc
at_close n c (a ∷ d ∷ cs) h e = let i : a ≡ c = cc in rw i (rw e refl)

pub at_open : (n c : ℕ) (cs : List ℕ) → first cs ≡ Some c → closes c (first (drop 1 cs)) ≡ false → opens c (first (drop 1 cs)) ≡ true → comment_end n cs ≡ comment_end (n + 1) (drop 1 (drop 1 cs))
unfolding comment_end
at_open n c [] h e f = absurd cc
at_open n c (a ∷ []) h e f = absurd cc
at_open n c (a ∷ d ∷ cs) h e f = let i : a ≡ c = cc in rw i (rw e (rw f refl))

pub at_other : (n c : ℕ) (cs : List ℕ) → first cs ≡ Some c → closes c (first (drop 1 cs)) ≡ false → opens c (first (drop 1 cs)) ≡ false → comment_end n cs ≡ comment_end n (drop 1 cs)
unfolding comment_end
at_other n c [] h e f = absurd cc
at_other n c (a ∷ []) h e f = refl
at_other n c (a ∷ d ∷ cs) h e f = let i : a ≡ c = cc in rw i (rw e (rw f refl))

-- ---- the comment

-- n comments around it end too
abbrev pub Ends : ℕ → List ℕ → List ℕ → Type 0
Ends zero a r = IsComment a r
Ends (suc n) a r = (b : List ℕ) × IsComment a b × Ends n b r

lift : (n : ℕ) (x y r : List ℕ) → ((b : List ℕ) → IsComment x b → IsComment y b) → Ends n x r → Ends n y r
lift zero x y r f e = f r e
lift (suc n) x y r f e = (e.0, f e.0 e.1, e.2)

deepen : (n : ℕ) (x y r : List ℕ) → ((b r : List ℕ) → IsComment x b → IsComment b r → IsComment y r) → Ends (suc n) x r → Ends n y r
deepen zero x y r f e = f e.0 r e.1 e.2
deepen (suc n) x y r f e = (e.2.0, f e.0 e.2.0 e.1 e.2.1, e.2.2)

both : (c d x y : ℕ) → ((c == x) && (d == y)) ≡ true → (c ≡ x) × (d ≡ y)
both c d x y h = go (c == x) (d == y) refl refl h
  where
    go : (p q : Bool) → (c == x) ≡ p → (d == y) ≡ q → (p && q) ≡ true → (c ≡ x) × (d ≡ y)
    go true true e f h = (eqb-true c x e, eqb-true d y f)
    go true false e f h = absurd cc
    go false q e f h = absurd cc

decide : (b : Bool) → (b ≡ true) ⊎ (b ≡ false)
decide true = inl refl
decide false = inr refl

some_is : (a b : List ℕ) → Some a ≡ Some b → a ≡ b
some_is a b e = cc

closes_now : (n c d : ℕ) (cs r : List ℕ) → closes c (Some d) ≡ true → ((m : ℕ) → comment_end m cs ≡ Some r → Ends m cs r) → (if n == 0 then Some cs else comment_end (n - 1) cs) ≡ Some r → Ends n (c ∷ d ∷ cs) r
closes_now zero c d cs r h ih e =
    let p = both c d 42 47 h in
    let i : IsComment (42 ∷ 47 ∷ cs) r = subst (λ (z : List ℕ). IsComment (42 ∷ 47 ∷ cs) z) (some_is cs r e) closed in
    subst (λ (z : ℕ). IsComment (z ∷ d ∷ cs) r) (sym p.0) (subst (λ (z : ℕ). IsComment (42 ∷ z ∷ cs) r) (sym p.1) i)
closes_now (suc n) c d cs r h ih e =
    let p = both c d 42 47 h in
    let q : suc n - 1 ≡ n = omega arith in
    let i : IsComment (c ∷ d ∷ cs) cs = subst (λ (z : ℕ). IsComment (z ∷ d ∷ cs) cs) (sym p.0) (subst (λ (z : ℕ). IsComment (42 ∷ z ∷ cs) cs) (sym p.1) closed) in
    let z : (suc n == 0) ≡ false = ne_eqb (suc n) 0 (λ h. absurd (omega arith)) in
    let f : comment_end (suc n - 1) cs ≡ Some r = rw z at e in
    (cs, i, ih n (ap (λ (k : ℕ). comment_end k cs) (sym q) ∙ f))

opens_now : (n c d : ℕ) (cs r : List ℕ) → opens c (Some d) ≡ true → Ends (suc n) cs r → Ends n (c ∷ d ∷ cs) r
opens_now n c d cs r h e =
    let p = both c d 47 42 h in
    deepen n cs (c ∷ d ∷ cs) r (λ b r h i. subst (λ (z : ℕ). IsComment (z ∷ d ∷ cs) r) (sym p.0) (subst (λ (z : ℕ). IsComment (47 ∷ z ∷ cs) r) (sym p.1) (nested h i))) e

-- what is found is a comment
pub sounds : (n : ℕ) (a r : List ℕ) → comment_end n a ≡ Some r → Ends n a r
unfolding comment_end
sounds n [] r e = absurd cc
sounds n (c ∷ []) r e = absurd cc
sounds n (c ∷ d ∷ cs) r e = elim (decide (closes c (Some d))) [
  | inl h ↦ closes_now n c d cs r h (λ m f. sounds m cs r f) (rw h at e)
  | inr h ↦ elim (decide (opens c (Some d))) [
    | inl k ↦ (let f : comment_end (n + 1) cs ≡ Some r = rw k at (rw h at e) in let s : n + 1 ≡ suc n = omega arith in opens_now n c d cs r k (sounds (suc n) cs r (ap (λ (m : ℕ). comment_end m cs) (sym s) ∙ f)))
    | inr k ↦ (let f : comment_end n (d ∷ cs) ≡ Some r = rw k at (rw h at e) in lift n (d ∷ cs) (c ∷ d ∷ cs) r (λ b i. inside k h i) (sounds n (d ∷ cs) r f))
  ]
]

-- what is a comment is found
pub finds : {a b : List ℕ} → IsComment a b → (n : ℕ) → comment_end n a ≡ (if n == 0 then Some b else comment_end (n - 1) b)
unfolding comment_end
finds closed n = refl
finds (nested {a = a} {b = b} {r = r} h i) n = let e = finds h (n + 1) in let p : n + 1 - 1 ≡ n = omega arith in let z : (n + 1 == 0) ≡ false = grind arith in (rw (z, p) at e) ∙ finds i n
finds (inside {c = c} {a = a} {r = r} o k h) n = at_other n c (c ∷ a) refl k o ∙ finds h n

-- ---- as the loop needs it

pub two_less : (c : ℕ) (cs : List ℕ) → first cs ≡ Some c → length (drop 1 cs) + 1 ≡ length cs
two_less c [] h = absurd cc
two_less c (a ∷ cs) h = omega arith

pub some_closes : (c : ℕ) (o : Option ℕ) → closes c o ≡ true → (d : ℕ) × (o ≡ Some d)
some_closes c None h = absurd cc
some_closes c (Some d) h = (d, refl)

pub some_opens : (c : ℕ) (o : Option ℕ) → opens c o ≡ true → (d : ℕ) × (o ≡ Some d)
some_opens c None h = absurd cc
some_opens c (Some d) h = (d, refl)

module _ (n c : ℕ) (cs : List ℕ) (total : Option (List ℕ)) (here : first cs ≡ Some c) (so_far : total ≡ comment_end n cs) where
  pub last : n ≡ 0 → closes c (first (drop 1 cs)) ≡ true → total ≡ Some (drop 1 (drop 1 cs))
  last z h = so_far ∙ at_close n c cs here h ∙ ap (λ (k : ℕ). if k == 0 then Some (drop 1 (drop 1 cs)) else comment_end (k - 1) (drop 1 (drop 1 cs))) z

  pub closed_one : (n ≡ 0 → ⊥) → closes c (first (drop 1 cs)) ≡ true → total ≡ comment_end (n - 1) (drop 1 (drop 1 cs))
  closed_one z h = let e : (n == 0) ≡ false = ne_eqb n 0 z in so_far ∙ at_close n c cs here h ∙ ap (λ (b : Bool). if b then Some (drop 1 (drop 1 cs)) else comment_end (n - 1) (drop 1 (drop 1 cs))) e
