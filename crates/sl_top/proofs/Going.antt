-- A loop that reads one item after another.
use Rattle.std.proofs.Common.{◌≡◌, List, [], ◌∷◌, ◌++◌, ℕ, refl, sym, ap, subst, ◌∙◌, append_assoc, append-nil}

-- what completes the rest completes the whole, and each reading of the whole goes on from here
pub record SoFar {X : Type 0} (Spells : List X → List ℕ → Type 0) (start : List ℕ) (front : List X) (now : List ℕ) : Type 0 where
  pub completes : (more : List X) → Spells more now → Spells (front ++ more) start
  pub goes_on : (all : List X) → Spells all start → (more : List X) × (all ≡ front ++ more) × Spells more now

pub nothing_yet : {X : Type 0} (Spells : List X → List ℕ → Type 0) (start : List ℕ) → SoFar Spells start [] start
nothing_yet Spells start = record { completes = λ more h. h; goes_on = λ all h. (all, refl, h) }

-- one item more
pub one_more : {X : Type 0} (Spells : List X → List ℕ → Type 0) (start : List ℕ) (front : List X) (now : List ℕ) (x : X) (after : List ℕ) → SoFar Spells start front now
    → ((more : List X) → Spells more after → Spells (x ∷ more) now)
    → ((more : List X) → Spells more now → (others : List X) × (more ≡ x ∷ others) × Spells others after)
    → SoFar Spells start (front ++ x ∷ []) after
one_more {X} Spells start front now x after h join split = record {
  completes = λ more m. subst (λ (xs : List X). Spells xs start) (sym (append_assoc front (x ∷ []) more)) (h.completes (x ∷ more) (join more m));
  goes_on = λ all m.
      let a = h.goes_on all m in
      let b = split a.0 a.2 in
      (b.0, a.1 ∙ ap (λ (ys : List X). front ++ ys) b.1 ∙ sym (append_assoc front (x ∷ []) b.0), b.2);
}

-- nothing is left
pub all_read : {X : Type 0} (Spells : List X → List ℕ → Type 0) (start : List ℕ) (front : List X) (now : List ℕ) → SoFar Spells start front now → Spells [] now → Spells front start
all_read {X} Spells start front now h e = subst (λ (xs : List X). Spells xs start) (append-nil front) (h.completes [] e)

-- nothing else was there
pub only_these : {X : Type 0} (Spells : List X → List ℕ → Type 0) (start : List ℕ) (front : List X) (now : List ℕ) → SoFar Spells start front now → ((more : List X) → Spells more now → more ≡ []) → (all : List X) → Spells all start → all ≡ front
only_these {X} Spells start front now h ended all m =
    let a = h.goes_on all m in
    a.1 ∙ ap (λ (ys : List X). front ++ ys) (ended a.0 a.2) ∙ append-nil front

-- nothing can go on
pub no_reading : {X : Type 0} (Spells : List X → List ℕ → Type 0) (start : List ℕ) (front : List X) (now : List ℕ) → SoFar Spells start front now → ((more : List X) → Spells more now → ⊥) → (all : List X) → Spells all start → ⊥
no_reading Spells start front now h stuck all m = let a = h.goes_on all m in stuck a.0 a.2
