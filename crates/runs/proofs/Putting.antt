-- Functions from numbers, changed at one.
use Rattle.std.proofs.Common.{◌≡◌, ◌≢◌, ℕ, Bool, true, false, ◌⊎◌, sym, subst, refl, inl, inr, ⊎_elim, nat_eq, eqb-true, eq-eqb, ne_eqb}
use Rattle.std.proofs.lemmas.Bool.{eqb-false}
use Rattle.runs.specs.System.{put}

pub put-same : {X : Type 0} (t : ℕ) (x : X) (f : ℕ → X) → put t x f t ≡ x
put-same t x f = let e : nat_eq t t ≡ true = eq-eqb t t refl in rw e refl

pub put-other : {X : Type 0} (t : ℕ) (x : X) (f : ℕ → X) (u : ℕ) → u ≢ t → put t x f u ≡ f u
put-other t x f u ne = let e : nat_eq u t ≡ false = ne_eqb u t ne in rw e refl

pub same_or_not : (u t : ℕ) → (u ≡ t) ⊎ (u ≢ t)
same_or_not u t = go (nat_eq u t) refl
  where
    go : (b : Bool) → nat_eq u t ≡ b → (u ≡ t) ⊎ (u ≢ t)
    go true e = inl (eqb-true u t e)
    go false e = inr (eqb-false u t e)

-- what holds at t and everywhere else holds everywhere
pub everywhere : (P : ℕ → Type 0) (t : ℕ) → P t → ((u : ℕ) → u ≢ t → P u) → (u : ℕ) → P u
everywhere P t at others u = ⊎_elim (λ e. subst P (sym e) at) (others u) (same_or_not u t)

-- what holds of each after a change at t
pub each : {X : Type 0} (P : ℕ → X → Type 0) (t : ℕ) (x : X) (f : ℕ → X) → P t x → ((u : ℕ) → u ≢ t → P u (f u)) → (u : ℕ) → P u (put t x f u)
each P t x f at others =
    everywhere (λ u. P u (put t x f u)) t (rw (put-same t x f) at) (λ u ne. rw (put-other t x f u ne) (others u ne))

pub each_two : {X Y : Type 0} (P : ℕ → X → Y → Type 0) (t : ℕ) (x : X) (f : ℕ → X) (y : Y) (g : ℕ → Y) → P t x y → ((u : ℕ) → u ≢ t → P u (f u) (g u)) → (u : ℕ) → P u (put t x f u) (put t y g u)
each_two P t x f y g at others =
    everywhere (λ u. P u (put t x f u) (put t y g u)) t
    (rw (put-same t x f, put-same t y g) at)
    (λ u ne. rw (put-other t x f u ne, put-other t y g u ne) (others u ne))

pub each_three : {X Y Z : Type 0} (P : ℕ → X → Y → Z → Type 0) (t : ℕ) (x : X) (f : ℕ → X) (y : Y) (g : ℕ → Y) (z : Z) (h : ℕ → Z) → P t x y z → ((u : ℕ) → u ≢ t → P u (f u) (g u) (h u)) → (u : ℕ) → P u (put t x f u) (put t y g u) (put t z h u)
each_three P t x f y g z h at others =
    everywhere (λ u. P u (put t x f u) (put t y g u) (put t z h u)) t
    (rw (put-same t x f, put-same t y g, put-same t z h) at)
    (λ u ne. rw (put-other t x f u ne, put-other t y g u ne, put-other t z h u ne) (others u ne))
