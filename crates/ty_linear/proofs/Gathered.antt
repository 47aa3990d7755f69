-- Gathering: one class more, what is there in the end, and the marks.
use Rattle.std.proofs.Common.{◌≡◌, ◌≢◌, inl, inr, ℕ, ◌+◌, ◌<◌, ◌≤◌, Bool, true, false, not, ◌||◌, cond, if◌then◌else◌, List, [], ◌∷◌, ◌++◌, reverse, length, get_or, set, drop, eqb, refl, sym, ap, ◌∙◌, arith}
use Rattle.std.specs.List.{filter, All}
use mathlib.Core.List.{reverse-cons}
use Rattle.std.proofs.lemmas.Bool.{cases_Bool, cases_eq, eq-eqb, eqb-true, eqb-false, ne_eqb, or_right, or_parts}
use Rattle.std.proofs.lemmas.List.{drop_more, append_assoc, append-nil, reverse-append, reverse-reverse, get_or-set_same, get_or-set_other, length-set}
use Rattle.std.proofs.lemmas.List.Elements.{All-set, filter-append, filter_agree}
use Rattle.ty_linear.specs.Linear.{is_in, ◌+>◌}
use Rattle.ty_linear.specs.Gather.{gathered, AreMarked}
use Rattle.ty_linear.proofs.Members.{Distinct, is_in-append, is_in-reverse, Distinct-reverse, Distinct-first, Distinct-later, Distinct-push}

-- a class, gathered
abbrev pub put : List ℕ → ℕ → List ℕ
put found class = if is_in found class then found else found ++ class ∷ []

gathered-push : (found ys : List ℕ) (x : ℕ) → gathered found (ys ++ x ∷ []) ≡ put (gathered found ys) x
gathered-push found [] x = refl
gathered-push found (y ∷ ys) x = gathered-push (put found y) ys x

pub gathered_more : (start classes found : List ℕ) (k next : ℕ) → k < length classes → k + 1 ≡ next → found ≡ gathered start (reverse (drop next classes))
    → gathered start (reverse (drop k classes)) ≡ put found (get_or classes k 0)
gathered_more start classes found k next within e is =
    ap (λ ys. gathered start (reverse ys)) (drop_more classes k 0 within)
    ∙ ap (gathered start) (reverse-cons (get_or classes k 0) (drop (k + 1) classes))
    ∙ gathered-push start (reverse (drop (k + 1) classes)) (get_or classes k 0)
    ∙ ap (λ n. put (gathered start (reverse (drop n classes))) (get_or classes k 0)) e
    ∙ ap (λ f. put f (get_or classes k 0)) (sym is)

pub put_there : (found : List ℕ) (x : ℕ) → is_in found x ≡ true → put found x ≡ found
put_there found x e = ap (λ b. if b then found else found ++ x ∷ []) e

pub put_new : (found : List ℕ) (x : ℕ) → is_in found x ≡ false → put found x ≡ found ++ x ∷ []
put_new found x e = ap (λ b. if b then found else found ++ x ∷ []) e

pub other : (a b : Bool) → b ≡ false → (a || (b || false)) ≡ a
other true b e = refl
other false b e = ap (λ c. c || false) e

-- the mark of a class that is pushed
pub AreMarked-push : (marks : List ℕ) (stamp : ℕ) (found : List ℕ) (x : ℕ) → x < length marks → AreMarked marks stamp found
    → AreMarked (set marks x stamp) stamp (found ++ x ∷ [])
AreMarked-push marks stamp found x within are = record {
  each = λ class h.
      let in_marks : class < length marks = omega (arith, h, length-set marks x stamp) in
      elim (cases_eq class x) [
        | inl e ↦ (
            let here : eqb (get_or (set marks x stamp) class 0) stamp ≡ true =
            rw e (eq-eqb (get_or (set marks x stamp) x 0) stamp (get_or-set_same marks x stamp 0 within)) in
            let there : is_in (found ++ x ∷ []) class ≡ true =
            is_in-append found (x ∷ []) class ∙ or_right (is_in found class) (is_in (x ∷ []) class) (ap (λ b. b || false) (eq-eqb class x e)) in
            here ∙ sym there)
        | inr n ↦ (
            ap (λ mark. eqb mark stamp) (get_or-set_other marks x class stamp 0 n)
            ∙ are.each class in_marks
            ∙ sym (is_in-append found (x ∷ []) class ∙ other (is_in found class) (eqb class x) (ne_eqb class x n)))
      ];
  below = All-set (λ mark. mark ≤ stamp) marks x stamp (omega arith) are.below;
}

-- all marks are below a new stamp
pub AreMarked-fresh : (marks : List ℕ) (stamp : ℕ) → All (λ mark. mark < stamp) marks → AreMarked marks stamp []
AreMarked-fresh marks stamp fresh = record {
  each = λ class h. ne_eqb (get_or marks class 0) stamp (let below = fresh class 0 h in λ e. omega (arith, below, e));
  below = λ k d h. let below = fresh k d h in omega (arith, below);
}

-- what is gathered was there, or is of the new classes
pub is_in-gathered : (found ys : List ℕ) (x : ℕ) → is_in (gathered found ys) x ≡ (is_in found x || is_in ys x)
is_in-gathered found [] x = sym (or_nothing (is_in found x))
  where
    or_nothing : (b : Bool) → (b || false) ≡ b
    or_nothing true = refl
    or_nothing false = refl
is_in-gathered found (y ∷ ys) x =
    is_in-gathered (put found y) ys x ∙ elim (cases_Bool (is_in found y)) [
      | inl e ↦ (rw (put_there found y e) (there found y ys x e))
      | inr e ↦ (rw (put_new found y e) (ap (λ b. b || is_in ys x) (is_in-append found (y ∷ []) x) ∙ regroup (is_in found x) (eqb x y) (is_in ys x)))
    ]
  where
    regroup : (a b c : Bool) → ((a || (b || false)) || c) ≡ (a || (b || c))
    regroup true b c = refl
    regroup false true c = refl
    regroup false false c = refl

    absorb : (a b c : Bool) → (b ≡ true → a ≡ true) → (a || c) ≡ (a || (b || c))
    absorb true b c h = refl
    absorb false true c h = let no : false ≡ true = h refl in cc
    absorb false false c h = refl

    there : (found : List ℕ) (y : ℕ) (ys : List ℕ) (x : ℕ) → is_in found y ≡ true → (is_in found x || is_in ys x) ≡ (is_in found x || (eqb x y || is_in ys x))
    there found y ys x e = absorb (is_in found x) (eqb x y) (is_in ys x) (λ h. let same : x ≡ y = eqb-true x y h in rw same e)

-- gathering keeps what is there at the front, and no class twice
pub gathered_behind : (found ys : List ℕ) → (zs : List ℕ) × (gathered found ys ≡ found ++ zs)
gathered_behind found [] = ([], sym (append-nil found))
gathered_behind found (y ∷ ys) =
    let rest = gathered_behind (put found y) ys in
    elim (cases_Bool (is_in found y)) [
      | inl e ↦ (rest.0, rest.1 ∙ ap (λ f. f ++ rest.0) (put_there found y e))
      | inr e ↦ (y ∷ rest.0, rest.1 ∙ ap (λ f. f ++ rest.0) (put_new found y e) ∙ append_assoc found (y ∷ []) rest.0)
    ]

pub Distinct-gathered : (found ys : List ℕ) → Distinct found → Distinct (gathered found ys)
Distinct-gathered found [] h = h
Distinct-gathered found (y ∷ ys) h = Distinct-gathered (put found y) ys (elim (cases_Bool (is_in found y)) [
  | inl e ↦ (rw (put_there found y e) h)
  | inr e ↦ (rw (put_new found y e) (Distinct-push found y h e))
])

-- gathering a list with no class twice, last class first, is `+>` from behind
abbrev new : List ℕ → List ℕ → List ℕ
new found ys = filter (λ y. not (is_in found y)) ys

new-push : (found : List ℕ) (x : ℕ) (ys : List ℕ) → is_in ys x ≡ false → new (found ++ x ∷ []) ys ≡ new found ys
new-push found x [] e = refl
new-push found x (y ∷ ys) e =
    let apart = or_parts (eqb x y) (is_in ys x) e in
    let differs : y ≢ x = λ s. eqb-false x y apart.0 (sym s) in
    let same : is_in (found ++ x ∷ []) y ≡ is_in found y = is_in-append found (x ∷ []) y ∙ other (is_in found y) (eqb y x) (ne_eqb y x differs) in
    ap (λ b. cond (not b) (y ∷ new (found ++ x ∷ []) ys) (new (found ++ x ∷ []) ys)) same
    ∙ ap (λ rest. cond (not (is_in found y)) (y ∷ rest) rest) (new-push found x ys apart.1)

gathered-new : (found ys : List ℕ) → Distinct ys → gathered found ys ≡ found ++ new found ys
gathered-new found [] h = sym (append-nil found)
gathered-new found (y ∷ ys) h = elim (cases_Bool (is_in found y)) [
  | inl e ↦ (ap (λ f. gathered f ys) (put_there found y e)
      ∙ gathered-new found ys (Distinct-later y ys h)
      ∙ ap (λ rest. found ++ rest) (sym (ap (λ b. cond (not b) (y ∷ new found ys) (new found ys)) e)))
  | inr e ↦ (ap (λ f. gathered f ys) (put_new found y e)
      ∙ gathered-new (found ++ y ∷ []) ys (Distinct-later y ys h)
      ∙ ap (λ rest. (found ++ y ∷ []) ++ rest) (new-push found y ys (Distinct-first y ys h))
      ∙ append_assoc found (y ∷ []) (new found ys)
      ∙ ap (λ rest. found ++ rest) (sym (ap (λ b. cond (not b) (y ∷ new found ys) (new found ys)) e)))
]

filter-reverse : (p : ℕ → Bool) (xs : List ℕ) → filter p (reverse xs) ≡ reverse (filter p xs)
filter-reverse p [] = refl
filter-reverse p (x ∷ xs) =
    ap (filter p) (reverse-cons x xs) ∙ filter-append p (reverse xs) (x ∷ []) ∙ ap (λ front. front ++ filter p (x ∷ [])) (filter-reverse p xs)
    ∙ elim (cases_Bool (p x)) [
      | inl e ↦ (ap (λ b. reverse (filter p xs) ++ cond b (x ∷ []) []) e ∙ sym (reverse-cons x (filter p xs)) ∙ sym (ap (λ b. reverse (cond b (x ∷ filter p xs) (filter p xs))) e))
      | inr e ↦ (ap (λ b. reverse (filter p xs) ++ cond b (x ∷ []) []) e ∙ append-nil (reverse (filter p xs)) ∙ sym (ap (λ b. reverse (cond b (x ∷ filter p xs) (filter p xs))) e))
    ]

pub reverse-gathered : (found list : List ℕ) → Distinct list → reverse (gathered found (reverse list)) ≡ list +> reverse found
reverse-gathered found list h =
    ap reverse (gathered-new found (reverse list) (Distinct-reverse list h))
    ∙ reverse-append found (new found (reverse list))
    ∙ ap (λ front. front ++ reverse found) (ap reverse (filter-reverse (λ y. not (is_in found y)) list) ∙ reverse-reverse (new found list))
    ∙ ap (λ front. front ++ reverse found) (filter_agree (λ y. not (is_in found y)) (λ y. not (is_in (reverse found) y)) (λ y. ap not (sym (is_in-reverse found y))) list)
