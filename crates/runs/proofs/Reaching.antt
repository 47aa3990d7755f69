-- States that runs come to.
use Rattle.std.proofs.Common.{◌≡◌, ℕ, zero, suc, ◌+◌, ◌≢◌, [], ◌∷◌, ◌++◌, ◌∙◌, ap, subst, refl, arith}
use Rattle.runs.specs.System.{Goes, System, Reached, IsReached, moved, tries, reach}
use Rattle.runs.specs.Simulates.{Comes}
use Rattle.runs.proofs.Putting.{put-same, put-other}
use Rattle.runs.proofs.Replaying.{reach-append}

pub reached_first : {Event Place S : Type 0} (s : System Event Place S) → IsReached s s.first
reached_first s = ([], refl)

-- one more move
pub reached_goes : {Event Place S : Type 0} (s : System Event Place S) (x y : S) (t : ℕ) → s.next x t ≡ Goes y → IsReached s x → IsReached s y
reached_goes {S = S} s x y t goes h = (
  h.0 ++ record { thread = t; count = 1 } ∷ [],
  ap (λ (r : Reached S). r.state) (reach-append s h.0 (record { thread = t; count = 1 } ∷ []))
      ∙ ap (λ n. (moved (reach s h.0) t (s.inits (reach s h.0).state t) n).state) (ap (λ z. s.next z t) h.1 ∙ goes),
)

pub reached_comes : {Event Place S : Type 0} (s : System Event Place S) (t n i : ℕ) (x y : S) → Comes s t n i x y → IsReached s x → IsReached s y
reached_comes s t zero i x y h reached = subst (IsReached s) h.0 reached
reached_comes s t (suc n) i x y h reached = reached_comes s t n h.2 h.0 y h.4 (reached_goes s x h.0 t h.1 reached)

-- what n tries of t lead to, where n moves of t lead to y
pub record Went {S : Type 0} (t n i : ℕ) (r : Reached S) (y : S) (r' : Reached S) : Type 0 where
  pub state : r'.state ≡ y
  pub same : r'.moves t ≡ r.moves t + n
  pub other : (u : ℕ) → u ≢ t → r'.moves u ≡ r.moves u
  pub inits : r'.inits ≡ r.inits + i

pub went : {Event Place S : Type 0} (s : System Event Place S) (t n i : ℕ) (r : Reached S) (y : S) → Comes s t n i r.state y → Went t n i r y (tries s t n r)
went s t zero i r y h = record { state = h.0; same = omega arith; other = λ u ne. refl; inits = omega arith }
went s t (suc n) i r y h =
    let r1 = moved r t (s.inits r.state t) (Goes h.0) in
    let w = went s t n h.2 r1 y h.4 in
    let a : r1.moves t ≡ suc (r.moves t) = put-same t (suc (r.moves t)) r.moves in
    let all : Went t (suc n) i r y (tries s t n r1) = record {
      state = w.state;
      same = omega (arith, w.same, a);
      other = λ u ne. w.other u ne ∙ put-other t (suc (r.moves t)) r.moves u ne;
      inits = omega (arith, w.inits, h.3);
    } in
    rw h.1 all
