-- Which classes stand in a list, and lists with no class twice.
use Rattle.std.proofs.Common.{◌≡◌, ◌≢◌, ◌⊎◌, inl, inr, ℕ, Bool, true, false, not, ◌&&◌, ◌||◌, List, [], ◌∷◌, ◌++◌, reverse, eqb, refl, sym, ap, ◌∙◌}
use Rattle.std.specs.List.{filter, IsDistinct, Contains, All, AllPairs}
use Rattle.std.specs.Cmp.{nat_eq_equiv}
use Rattle.std.proofs.lemmas.Bool.{eqb-true, eq-eqb, or_cases, or_left, or_right, cases_Bool, or_from, or_parts}
use Rattle.std.proofs.lemmas.Bool.Decides.{Decides-eqb}
use Rattle.std.proofs.lemmas.List.Elements.{All-from_recursion, recursion_from_All, All-nil, All-cons, All-head, All-tail}
use Rattle.std.proofs.lemmas.List.Folds.{list_any-append}
use Rattle.std.proofs.lemmas.List.Sorted.{list_any-IsPermutation, IsPermutation-reverse}
use Rattle.std.proofs.lemmas.Map.Keys.{IsDistinct-cons, IsDistinct-head, IsDistinct-tail, IsDistinct-push, IsDistinct-IsPermutation}
use Rattle.std.proofs.lemmas.Map.Made.{AllPairs-from_IsDistinct}
use Rattle.std.proofs.lemmas.Map.Views.{any-filter_same, Contains-from_any, list_any-from_Contains}
use Rattle.ty_linear.specs.Linear.{is_in, ◌+>◌}

-- x stands in xs
abbrev pub In : List ℕ → ℕ → Type 0
In xs x = is_in xs x ≡ true

-- no class stands twice in xs
abbrev pub Distinct : List ℕ → Type 0
Distinct xs = IsDistinct eqb xs

pub Contains-from_In : (xs : List ℕ) (x : ℕ) → In xs x → Contains xs x
Contains-from_In xs x h = Contains-from_any eqb-true x xs h

pub In-from_Contains : (xs : List ℕ) (x : ℕ) → Contains xs x → In xs x
In-from_Contains xs x h = list_any-from_Contains nat_eq_equiv x xs h

pub In-first : (x : ℕ) (xs : List ℕ) → In (x ∷ xs) x
In-first x xs = or_left (eqb x x) (is_in xs x) (eq-eqb x x refl)

pub In-equal : (x y : ℕ) (xs : List ℕ) → x ≡ y → In (y ∷ xs) x
In-equal x y xs e = or_left (eqb x y) (is_in xs x) (eq-eqb x y e)

pub In-later : (y : ℕ) (xs : List ℕ) (x : ℕ) → In xs x → In (y ∷ xs) x
In-later y xs x h = or_right (eqb x y) (is_in xs x) h

pub In-cases : (y : ℕ) (xs : List ℕ) (x : ℕ) → In (y ∷ xs) x → (x ≡ y) ⊎ In xs x
In-cases y xs x h = elim (or_cases (eqb x y) (is_in xs x) h) [ inl e ↦ inl (eqb-true x y e) | inr e ↦ inr e ]

pub is_in-append : (xs ys : List ℕ) (x : ℕ) → is_in (xs ++ ys) x ≡ (is_in xs x || is_in ys x)
is_in-append xs ys x = list_any-append (eqb x) xs ys

pub is_in-filter : (p : ℕ → Bool) (xs : List ℕ) (x : ℕ) → is_in (filter p xs) x ≡ (p x && is_in xs x)
is_in-filter p xs x = any-filter_same (eqb x) p (p x) (λ k e. ap p (sym (eqb-true x k e))) xs

pub is_in-reverse : (xs : List ℕ) (x : ℕ) → is_in (reverse xs) x ≡ is_in xs x
is_in-reverse xs x = sym (list_any-IsPermutation (eqb x) xs (reverse xs) (IsPermutation-reverse xs))

either : (a b : Bool) → ((not b && a) || b) ≡ (a || b)
either true true = refl
either true false = refl
either false true = refl
either false false = refl

pub is_in-joined : (a b : List ℕ) (x : ℕ) → is_in (a +> b) x ≡ (is_in a x || is_in b x)
is_in-joined a b x =
    is_in-append (filter (λ y. not (is_in b y)) a) b x
    ∙ ap (λ front. front || is_in b x) (is_in-filter (λ y. not (is_in b y)) a x)
    ∙ either (is_in a x) (is_in b x)

pub is_in-missing : (xs : List ℕ) (x : ℕ) → ¬ (In xs x) → is_in xs x ≡ false
is_in-missing xs x h = elim (cases_Bool (is_in xs x)) [ inl e ↦ absurd (h e) | inr e ↦ e ]

-- a class that is missing differs from each that is there
missing_all : (x : ℕ) (xs : List ℕ) → is_in xs x ≡ false → All (λ y. eqb x y ≡ false) xs
missing_all x [] e = All-nil (λ y. eqb x y ≡ false)
missing_all x (y ∷ ys) e = All-cons (λ z. eqb x z ≡ false) y ys (or_parts (eqb x y) (is_in ys x) e).0 (missing_all x ys (or_parts (eqb x y) (is_in ys x) e).1)

all_missing : (x : ℕ) (xs : List ℕ) → All (λ y. eqb x y ≡ false) xs → is_in xs x ≡ false
all_missing x [] h = refl
all_missing x (y ∷ ys) h =
    or_from (eqb x y) (is_in ys x) (All-head (λ z. eqb x z ≡ false) y ys h)
    (all_missing x ys (All-tail (λ z. eqb x z ≡ false) y ys h))

pub Distinct-nil : Distinct []
unfolding IsDistinct
Distinct-nil = tt

pub Distinct-cons : (x : ℕ) (xs : List ℕ) → is_in xs x ≡ false → Distinct xs → Distinct (x ∷ xs)
Distinct-cons x xs e h = IsDistinct-cons eqb x xs (recursion_from_All (λ y. eqb x y ≡ false) xs (missing_all x xs e)) h

pub Distinct-first : (x : ℕ) (xs : List ℕ) → Distinct (x ∷ xs) → is_in xs x ≡ false
Distinct-first x xs h = all_missing x xs (All-from_recursion (λ y. eqb x y ≡ false) xs (IsDistinct-head eqb x xs h))

pub Distinct-later : (x : ℕ) (xs : List ℕ) → Distinct (x ∷ xs) → Distinct xs
Distinct-later x xs h = IsDistinct-tail eqb x xs h

pub Distinct-push : (xs : List ℕ) (x : ℕ) → Distinct xs → is_in xs x ≡ false → Distinct (xs ++ x ∷ [])
Distinct-push xs x h e = IsDistinct-push nat_eq_equiv xs x h e

pub Distinct-reverse : (xs : List ℕ) → Distinct xs → Distinct (reverse xs)
Distinct-reverse xs h = IsDistinct-IsPermutation eqb nat_eq_equiv.symm xs (reverse xs) (IsPermutation-reverse xs) h

pub apart : (xs : List ℕ) → Distinct xs → AllPairs (λ x y. x ≢ y) xs
apart xs h = AllPairs-from_IsDistinct Decides-eqb xs h

pub Distinct-joined : (a b : List ℕ) → Distinct a → Distinct b → Distinct (a +> b)
Distinct-joined [] b da db = db
Distinct-joined (x ∷ a) b da db =
    let rest : Distinct (a +> b) = Distinct-joined a b (Distinct-later x a da) db in
    elim (cases_Bool (is_in b x)) [
      | inl e ↦ (rw e rest)
      | inr e ↦ (rw e (Distinct-cons x (a +> b) (is_in-joined a b x ∙ or_from (is_in a x) (is_in b x) (Distinct-first x a da) e) rest))
    ]
