-- Simulation at main positions: a thread below that stands between two main positions is related by the one that its own
-- quiet moves lead to.
use Rattle.std.specs.Prelude.{◌≡◌, ◌≢◌, ℕ, zero, suc, ◌+◌, ◌<◌, ◌≤◌, Option, None, Some, true, false}
use Rattle.runs.specs.System.{Next, Goes, Waits, Ended, Stuck, System, IsReached}
use Rattle.runs.specs.Waiting.{HasEnded}
use Rattle.runs.specs.Simulates.{Answer, Begins, Pairs, WaitAgrees, there_in}
use Rattle.runs.specs.SharedHeap.{HeapState, SharedHeap, Stepped, count_with, left_by, system_of}

-- the next move of each thread at x leads to y, whatever the heap, and leaves all else; it enters and ends no initialiser
pub record IsQuiet {Event Place H T : Type 0} (m : SharedHeap Event Place H T) (x y : T) : Type 0 where
  pub goes : (t : ℕ) (h : H) → m.step t h x ≡ Goes (record { heap = h; thread = y; begun = None })
  pub no_inits : (t : ℕ) (h : H) → m.inits t h x ≡ 0

-- n quiet moves lead from x to the main position y, which hasn't ended. Where a thread at y frees another, it frees it all
-- the way
abbrev pub Quiet : {Event Place H T : Type 0} → SharedHeap Event Place H T → ℕ → T → T → Type 0
Quiet m zero x y = x ≡ y
Quiet {H = H} {T = T} m (suc n) x y =
    (z : T)
    × IsQuiet m x z
    × ((t : ℕ) (h : H) → m.step t h y ≢ Ended)
    × ((t : ℕ) (h : H) (o : T) → m.step t h y ≢ Waits → m.opens h y o ≡ true → m.opens h x o ≡ true)
    × Quiet m n z y

-- a thread that began is so many quiet moves, and no more than q, before its main position in `next`
abbrev pub BeginsQuietly : {Event Place H T : Type 0} → SharedHeap Event Place H T → ℕ → ℕ → HeapState H T → Option T → Type 0
BeginsQuietly m q n next None = Unit {0}
BeginsQuietly m q n next (Some y) = (quiet : ℕ) × (quiet ≤ q) × Quiet m quiet y (next.threads (suc n))

-- a step of t from its main position in the pair w is answered, and quiet moves lead to the next main position
pub record MainMatches {Event Place H T B W : Type 0} (m : SharedHeap Event Place H T) (upper : System Event Place B)
    (pairs : Pairs (HeapState H T) B W) (q c : ℕ) (w : W) (t : ℕ) (heap : H) (thread : T) (begun : Option T) : Type 0 where
  pub next : W
  pub heap_is : (pairs.low next).heap ≡ heap
  pub count_is : (pairs.low next).count ≡ count_with (pairs.low w).count begun
  pub quiet : ℕ
  pub few : quiet ≤ q
  pub chain : Quiet m quiet thread ((pairs.low next).threads t)
  pub begins : BeginsQuietly m q (pairs.low w).count (pairs.low next) begun
  pub same : (u : ℕ) → u ≢ t
      → (Begins (there_in (system_of m)) (pairs.low w) (left_by t (pairs.low w) heap thread begun) u → ⊥)
      → (pairs.low next).threads u ≡ (pairs.low w).threads u
  pub answer : Answer upper (Begins (there_in (system_of m)) (pairs.low w) (left_by t (pairs.low w) heap thread begun))
      (q + c) t (pairs.up w) (pairs.up next)
  pub no_more_inits : m.inits t (pairs.low w).heap ((pairs.low w).threads t) ≤ answer.inits
  pub silent : answer.moves ≡ 0 → (quiet + pairs.rank next t < pairs.rank w t) × (upper.next (pairs.up w) t ≢ Ended)
  pub others : answer.inits ≡ 0 → (u : ℕ) → u ≢ t → there_in (system_of m) (pairs.low w) u ≡ true
      → pairs.rank next u ≤ pairs.rank w u

-- what is owed for t at its main position, by what it does next there
abbrev pub MainOwes : {Event Place H T B W : Type 0} → SharedHeap Event Place H T → System Event Place B
    → Pairs (HeapState H T) B W → ℕ → ℕ → W → ℕ → Next (Stepped H T) → Type 0
MainOwes m upper pairs q c w t (Goes x) = MainMatches m upper pairs q c w t x.heap x.thread x.begun
MainOwes m upper pairs q c w t Waits = WaitAgrees (system_of m) upper (pairs.low w) (pairs.up w) t
MainOwes m upper pairs q c w t Ended = HasEnded upper (pairs.up w) t
MainOwes m upper pairs q c w t Stuck = ⊥

-- pairs of related states, with each thread below at a main position and ranks of at most c; chains have at most q quiet moves
pub record MatchesQuietly {Event Place H T B W : Type 0} (m : SharedHeap Event Place H T) (upper : System Event Place B)
    (pairs : Pairs (HeapState H T) B W) (q c : ℕ) : Type 0 where
  pub first : W
  pub first_low : pairs.low first ≡ m.first
  pub first_up : pairs.up first ≡ upper.first
  pub small : (w : W) (t : ℕ) → pairs.rank w t ≤ c
  pub trace : (w : W) → IsReached upper (pairs.up w) → m.trace (pairs.low w).heap ≡ upper.trace (pairs.up w)
  pub threads : (w : W) → IsReached upper (pairs.up w) → (pairs.low w).count ≡ upper.threads (pairs.up w)
  pub thread : (w : W) → IsReached upper (pairs.up w) → (t : ℕ)
      → MainOwes m upper pairs q c w t (m.step t (pairs.low w).heap ((pairs.low w).threads t))
  pub absent : (w : W) (t : ℕ) → there_in (system_of m) (pairs.low w) t ≡ false
      → m.step t (pairs.low w).heap ((pairs.low w).threads t) ≡ Ended
