-- Systems whose threads share a heap: a step of a thread reads and changes the heap and this thread, and may begin another.
use Rattle.std.specs.Prelude.{◌&&◌, ℕ, suc, not, nat_eq, List, Bool, Option, None, Some}
use Rattle.runs.specs.System.{Next, Goes, Waits, Ended, Stuck, System, put}

-- what a step leaves: the heap, its thread, and the thread that it began, if any
pub record Stepped (H T : Type 0) : Type 0 where
  pub heap : H
  pub thread : T
  pub begun : Option T

-- the heap, and the threads from 1 to their number
pub record HeapState (H T : Type 0) : Type 0 where
  pub heap : H
  pub count : ℕ
  pub threads : ℕ → T

-- what each step does, by its thread's number, the heap and the thread
pub record SharedHeap (Event Place H T : Type 0) : Type 0 where
  pub first : HeapState H T
  pub step : ℕ → H → T → Next (Stepped H T)
  pub inits : ℕ → H → T → ℕ
  pub trace : H → List Event
  pub place : H → T → Place
  -- `blocks h x u y`: whether thread u, which stands at y, runs the initialiser that another thread, at x, waits for
  pub blocks : H → T → ℕ → T → Bool
  -- `opens h y x`: whether a thread at y is about to open the latch that a thread at x awaits
  pub opens : H → T → T → Bool

-- the number of threads, with the one that began
abbrev pub count_with : {T : Type 0} → ℕ → Option T → ℕ
count_with n None = n
count_with n (Some y) = suc n

-- the threads, with the one that began, which gets the next number
abbrev pub threads_with : {T : Type 0} → ℕ → Option T → (ℕ → T) → ℕ → T
threads_with n None threads = threads
threads_with n (Some y) threads = put (suc n) y threads

-- the state that a step of t leaves
abbrev pub left_by : {H T : Type 0} → ℕ → HeapState H T → H → T → Option T → HeapState H T
left_by t s heap thread begun = record {
  heap = heap;
  count = count_with s.count begun;
  threads = threads_with s.count begun (put t thread s.threads);
}

-- the next step of t, over all threads
abbrev pub stepped : {H T : Type 0} → ℕ → HeapState H T → Next (Stepped H T) → Next (HeapState H T)
stepped t s (Goes x) = Goes (left_by t s x.heap x.thread x.begun)
stepped t s Waits = Waits
stepped t s Ended = Ended
stepped t s Stuck = Stuck

-- the system of these threads; none waits for itself
abbrev pub system_of : {Event Place H T : Type 0} → SharedHeap Event Place H T → System Event Place (HeapState H T)
system_of m = record {
  first = m.first;
  next = λ s t. stepped t s (m.step t s.heap (s.threads t));
  inits = λ s t. m.inits t s.heap (s.threads t);
  threads = λ s. s.count;
  trace = λ s. m.trace s.heap;
  place = λ s t. m.place s.heap (s.threads t);
  blocks = λ s t u. not (nat_eq t u) && m.blocks s.heap (s.threads t) u (s.threads u);
  opens = λ s u t. m.opens s.heap (s.threads u) (s.threads t);
}
