-- What shows by single steps that a lower system refines an upper one.
use Rattle.std.specs.Prelude.{◌≡◌, ◌≢◌, ℕ, zero, suc, ◌+◌, ◌*◌, ◌<◌, ◌≤◌, ◌↔◌, Bool, true, false, ◌⊎◌, nat_le, ◌&&◌}
use Rattle.runs.specs.System.{Next, Goes, Waits, Ended, Stuck, System, IsReached}
use Rattle.runs.specs.Refines.{Agree}
use Rattle.runs.specs.Waiting.{HasEnded, DoesWait, For, Frees, IsFreed, AllWait}

-- n moves of t lead from x to y, and enter or end i initialisers
abbrev pub Comes : {Event Place S : Type 0} → System Event Place S → ℕ → ℕ → ℕ → S → S → Type 0
Comes {S = S} s t zero i x y = (x ≡ y) × (i ≡ 0)
Comes {S = S} s t (suc n) i x y = (z : S) × (s.next x t ≡ Goes z) × (j : ℕ) × (i ≡ s.inits x t + j) × Comes s t n j z y

-- pairs of related states, and the rank of each thread in each
pub record Pairs (A B W : Type 0) : Type 0 where
  pub low : W → A
  pub up : W → B
  pub rank : W → ℕ → ℕ

-- runs come to both states of the pair
abbrev pub AreReached : {Event Place A B W : Type 0} → System Event Place A → System Event Place B → Pairs A B W → W → Type 0
AreReached lower upper pairs w = IsReached lower (pairs.low w) × IsReached upper (pairs.up w)

-- u is there after a step, and wasn't before
abbrev pub Begins : {A : Type 0} → (A → ℕ → Bool) → A → A → ℕ → Type 0
Begins there before after u = (there before u ≡ false) × (there after u ≡ true)

-- the moves above that answer a step of t: up to c of t, which enter or end `inits` initialisers, and then up to c of a
-- thread that the step begins, which enter and end none
pub record Answer {Event Place B : Type 0} (upper : System Event Place B) (Begun : ℕ → Type 0) (c t : ℕ) (x y : B) : Type 0 where
  pub moves : ℕ
  pub few : moves ≤ c
  pub inits : ℕ
  pub between : B
  pub up : Comes upper t moves inits x between
  pub starts : ℕ
  pub makes : ℕ
  pub makes_few : makes ≤ c
  pub up_starts : Comes upper starts makes 0 between y
  pub new : (makes ≡ 0) ⊎ Begun starts

-- a step of t from the pair w to x is answered. Ranks are told of threads that are there
pub record Answered {Event Place A B W : Type 0} (lower : System Event Place A) (upper : System Event Place B)
    (pairs : Pairs A B W) (there : A → ℕ → Bool) (c : ℕ) (w : W) (t : ℕ) (x : A) : Type 0 where
  pub next : W
  pub low : pairs.low next ≡ x
  pub answer : Answer upper (Begins there (pairs.low w) x) c t (pairs.up w) (pairs.up next)
  pub no_more_inits : lower.inits (pairs.low w) t ≤ answer.inits
  pub falls : answer.moves ≡ 0 → pairs.rank next t < pairs.rank w t
  pub rises : pairs.rank next t ≤ pairs.rank w t + c * answer.moves
  pub others : (u : ℕ) → u ≢ t → there (pairs.low w) u ≡ true → pairs.rank next u ≤ pairs.rank w u + c * answer.inits
  pub begun : (u : ℕ) → Begins there (pairs.low w) x u → pairs.rank next u ≤ c

-- pairs of related states begin together, agree, and answer each lower step. A thread that isn't there makes no step,
-- and a thread that is there stays there
pub record Simulates {Event Place A B W : Type 0} (lower : System Event Place A) (upper : System Event Place B)
    (pairs : Pairs A B W) (there : A → ℕ → Bool) (c : ℕ) : Type 0 where
  pub first : W
  pub first_low : pairs.low first ≡ lower.first
  pub first_up : pairs.up first ≡ upper.first
  pub first_rank : (t : ℕ) → there lower.first t ≡ true → pairs.rank first t ≤ c
  pub agree : (w : W) → AreReached lower upper pairs w → Agree lower upper (pairs.low w) (pairs.up w)
  pub step : (w : W) → AreReached lower upper pairs w → (t : ℕ) (x : A) → lower.next (pairs.low w) t ≡ Goes x
      → Answered lower upper pairs there c w t x
  pub moves_there : (w : W) (t : ℕ) (x : A) → lower.next (pairs.low w) t ≡ Goes x → there (pairs.low w) t ≡ true
  pub stays_there : (w : W) (t : ℕ) (x : A) → lower.next (pairs.low w) t ≡ Goes x
      → (u : ℕ) → there (pairs.low w) u ≡ true → there x u ≡ true

-- every number counts as a thread that is there: for systems that begin none
abbrev pub always_there : {A : Type 0} → A → ℕ → Bool
always_there x t = true

-- the numbers of threads that are there
abbrev pub there_in : {Event Place S : Type 0} → System Event Place S → S → ℕ → Bool
there_in s x t = nat_le 1 t && nat_le t (s.threads x)

-- the states agree, and each thread that waits below waits above and is freed by the same ones; where all wait below,
-- each waits for the same one
pub record AgreePlainly {Event Place A B : Type 0} (lower : System Event Place A) (upper : System Event Place B)
    (x : A) (y : B) : Type 0 where
  pub trace : lower.trace x ≡ upper.trace y
  pub threads : lower.threads x ≡ upper.threads y
  pub ended : (t : ℕ) → HasEnded lower x t ↔ HasEnded upper y t
  pub waits : (t : ℕ) → DoesWait lower x t → DoesWait upper y t
  pub awaited : AllWait lower x → (t : ℕ) → DoesWait lower x t → (u : ℕ) (place : Place) → For lower x t u place ↔ For upper y t u place
  pub frees : (t : ℕ) → DoesWait lower x t → (u : ℕ) → Frees lower x u t ↔ Frees upper y u t
  pub never_stuck : (t : ℕ) → lower.next x t ≢ Stuck

-- the states agree on a thread that waits below. Where and for whom it waits is compared only where all wait
pub record WaitAgrees {Event Place A B : Type 0} (lower : System Event Place A) (upper : System Event Place B) (x : A) (y : B)
    (t : ℕ) : Type 0 where
  pub unfinished : upper.next y t ≢ Ended
  pub waits : DoesWait upper y t ⊎ IsFreed lower x t
  pub freed : IsFreed upper y t → IsFreed lower x t
  pub place : AllWait lower x → lower.place x t ≡ upper.place y t
  pub blocks : AllWait lower x → (u : ℕ) → lower.blocks x t u ≡ upper.blocks y t u

-- the states agree on a thread, by what it does next below
abbrev pub ThreadAgrees : {Event Place A B : Type 0} → System Event Place A → System Event Place B → A → B → ℕ → Next A → Type 0
ThreadAgrees lower upper x y t (Goes after) = upper.next y t ≢ Ended
ThreadAgrees lower upper x y t Waits = WaitAgrees lower upper x y t
ThreadAgrees lower upper x y t Ended = HasEnded upper y t
ThreadAgrees lower upper x y t Stuck = ⊥
