-- Shorter forms of what shows a refinement: one obligation a thread, and threads by themselves.
use Rattle.std.specs.Prelude.{◌≡◌, ◌≢◌, ℕ, ◌<◌, ◌≤◌, Bool, true, false, ◌⊎◌}
use Rattle.runs.specs.System.{Next, Goes, Waits, Ended, Stuck, System}
use Rattle.runs.specs.Simulates.{Answer, AreReached, Begins, Pairs, WaitAgrees}
use Rattle.runs.specs.Waiting.{HasEnded}

-- a step of t from the pair w to x is answered. Where t makes no move above, its rank falls, and it hasn't ended above
pub record StepMatches {Event Place A B W : Type 0} (lower : System Event Place A) (upper : System Event Place B)
    (pairs : Pairs A B W) (there : A → ℕ → Bool) (c : ℕ) (w : W) (t : ℕ) (x : A) : Type 0 where
  pub next : W
  pub low : pairs.low next ≡ x
  pub answer : Answer upper (Begins there (pairs.low w) x) c t (pairs.up w) (pairs.up next)
  pub no_more_inits : lower.inits (pairs.low w) t ≤ answer.inits
  pub silent : answer.moves ≡ 0 → (pairs.rank next t < pairs.rank w t) × (upper.next (pairs.up w) t ≢ Ended)
  pub others : answer.inits ≡ 0 → (u : ℕ) → u ≢ t → there (pairs.low w) u ≡ true → pairs.rank next u ≤ pairs.rank w u

-- what is owed for t, by what it does next below: an answer, an agreement, an end, or it never comes to that
abbrev pub ThreadMatches : {Event Place A B W : Type 0} → System Event Place A → System Event Place B → Pairs A B W
    → (A → ℕ → Bool) → ℕ → W → ℕ → Next A → Type 0
ThreadMatches lower upper pairs there c w t (Goes x) = StepMatches lower upper pairs there c w t x
ThreadMatches lower upper pairs there c w t Waits = WaitAgrees lower upper (pairs.low w) (pairs.up w) t
ThreadMatches lower upper pairs there c w t Ended = HasEnded upper (pairs.up w) t
ThreadMatches lower upper pairs there c w t Stuck = ⊥

-- pairs of related states whose ranks are at most c, with one obligation for each thread
pub record Matches {Event Place A B W : Type 0} (lower : System Event Place A) (upper : System Event Place B)
    (pairs : Pairs A B W) (there : A → ℕ → Bool) (c : ℕ) : Type 0 where
  pub first : W
  pub first_low : pairs.low first ≡ lower.first
  pub first_up : pairs.up first ≡ upper.first
  pub small : (w : W) (t : ℕ) → pairs.rank w t ≤ c
  pub trace : (w : W) → AreReached lower upper pairs w → lower.trace (pairs.low w) ≡ upper.trace (pairs.up w)
  pub threads : (w : W) → AreReached lower upper pairs w → lower.threads (pairs.low w) ≡ upper.threads (pairs.up w)
  pub thread : (w : W) → AreReached lower upper pairs w → (t : ℕ)
      → ThreadMatches lower upper pairs there c w t (lower.next (pairs.low w) t)
  pub moves_there : (w : W) (t : ℕ) (x : A) → lower.next (pairs.low w) t ≡ Goes x → there (pairs.low w) t ≡ true
  pub stays_there : (w : W) (t : ℕ) (x : A) → lower.next (pairs.low w) t ≡ Goes x
      → (u : ℕ) → there (pairs.low w) u ≡ true → there x u ≡ true

-- states with parts: `Shared` are the pairs of states that are related in what their threads share, and `Own` the pairs
-- of threads that are related, with the rank of each
pub record Parts (A B X Y Shared Own : Type 0) : Type 0 where
  pub low : Shared → A
  pub up : Shared → B
  pub low_thread : A → ℕ → X
  pub up_thread : B → ℕ → Y
  pub low_own : Own → X
  pub up_own : Own → Y
  pub rank : Own → ℕ

-- a pair of threads stands for thread t of two states
abbrev pub Fits : {A B X Y Shared Own : Type 0} → Parts A B X Y Shared Own → A → B → ℕ → Own → Type 0
Fits parts x y t own = (parts.low_own own ≡ parts.low_thread x t) × (parts.up_own own ≡ parts.up_thread y t)

-- related states: in what they share, and in each thread
pub record Related {A B X Y Shared Own : Type 0} (parts : Parts A B X Y Shared Own) : Type 0 where
  pub shared : Shared
  pub own : ℕ → Own
  pub fits : (t : ℕ) → Fits parts (parts.low shared) (parts.up shared) t (own t)

-- the related states as pairs
abbrev pub pairs_of : {A B X Y Shared Own : Type 0} (parts : Parts A B X Y Shared Own) → Pairs A B (Related parts)
pairs_of parts = record {
  low = λ w. parts.low w.shared;
  up = λ w. parts.up w.shared;
  rank = λ w t. parts.rank (w.own t);
}

-- thread u is in x and y as it was
abbrev pub Stays : {A B X Y Shared Own : Type 0} (parts : Parts A B X Y Shared Own) → Related parts → A → B → ℕ → Type 0
Stays parts w x y u =
    (parts.low_thread x u ≡ parts.low_thread (parts.low w.shared) u)
    × (parts.up_thread y u ≡ parts.up_thread (parts.up w.shared) u)

-- a step of t to x is answered: every other thread stays as it was, or wasn't there and is related now
pub record OwnMatches {Event Place A B X Y Shared Own : Type 0} (lower : System Event Place A) (upper : System Event Place B)
    (parts : Parts A B X Y Shared Own) (there : A → ℕ → Bool) (c : ℕ) (w : Related parts) (t : ℕ) (x : A) : Type 0 where
  pub shared : Shared
  pub low : parts.low shared ≡ x
  pub own : Own
  pub fits : Fits parts x (parts.up shared) t own
  pub others : (u : ℕ) → u ≢ t → Stays parts w x (parts.up shared) u
      ⊎ ((there (parts.low w.shared) u ≡ false) × (new : Own) × Fits parts x (parts.up shared) u new)
  pub answer : Answer upper (Begins there (parts.low w.shared) x) c t (parts.up w.shared) (parts.up shared)
  pub no_more_inits : lower.inits (parts.low w.shared) t ≤ answer.inits
  pub silent : answer.moves ≡ 0 → (parts.rank own < parts.rank (w.own t)) × (upper.next (parts.up w.shared) t ≢ Ended)

-- what is owed for t, by what it does next below
abbrev pub PartMatches : {Event Place A B X Y Shared Own : Type 0} → System Event Place A → System Event Place B
    → (parts : Parts A B X Y Shared Own) → (A → ℕ → Bool) → ℕ → Related parts → ℕ → Next A → Type 0
PartMatches lower upper parts there c w t (Goes x) = OwnMatches lower upper parts there c w t x
PartMatches lower upper parts there c w t Waits = WaitAgrees lower upper (parts.low w.shared) (parts.up w.shared) t
PartMatches lower upper parts there c w t Ended = HasEnded upper (parts.up w.shared) t
PartMatches lower upper parts there c w t Stuck = ⊥

-- related parts whose ranks are at most c, with one obligation for each thread
pub record MatchesByParts {Event Place A B X Y Shared Own : Type 0} (lower : System Event Place A) (upper : System Event Place B)
    (parts : Parts A B X Y Shared Own) (there : A → ℕ → Bool) (c : ℕ) : Type 0 where
  pub first : Related parts
  pub first_low : parts.low first.shared ≡ lower.first
  pub first_up : parts.up first.shared ≡ upper.first
  pub small : (own : Own) → parts.rank own ≤ c
  pub trace : (w : Related parts) → AreReached lower upper (pairs_of parts) w
      → lower.trace (parts.low w.shared) ≡ upper.trace (parts.up w.shared)
  pub threads : (w : Related parts) → AreReached lower upper (pairs_of parts) w
      → lower.threads (parts.low w.shared) ≡ upper.threads (parts.up w.shared)
  pub thread : (w : Related parts) → AreReached lower upper (pairs_of parts) w → (t : ℕ)
      → PartMatches lower upper parts there c w t (lower.next (parts.low w.shared) t)
  pub moves_there : (w : Related parts) (t : ℕ) (x : A) → lower.next (parts.low w.shared) t ≡ Goes x
      → there (parts.low w.shared) t ≡ true
  pub stays_there : (w : Related parts) (t : ℕ) (x : A) → lower.next (parts.low w.shared) t ≡ Goes x
      → (u : ℕ) → there (parts.low w.shared) u ≡ true → there x u ≡ true
