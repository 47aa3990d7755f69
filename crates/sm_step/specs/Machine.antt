-- The state of a machine, as a state of the system `meaning` of its program.
use Rattle.std.specs.Prelude.{ℕ, zero, suc, List, [], ◌∷◌, length, take, Option, Some, None, slice_get, slice_set}
use Rattle.runs.specs.SharedHeap.{HeapState}
use Rattle.sm_state.specs.Entering.{begun_thread}
use Rattle.sm_state.specs.declared.heap.Heap.{Heap}
use Rattle.sm_state.specs.declared.thread.Context.{Context}
use Rattle.sm_state.specs.declared.thread.Thread.{Thread}
use Rattle.sm_step.specs.declared.lane.Lane.{Lane}

-- the contexts of a thread; none where there is no innermost one
abbrev pub contexts_of : Option Context → List Context → List Context
contexts_of None below = []
contexts_of (Some c) below = c ∷ below

-- a lane as a thread of the system
abbrev pub thread_of : Lane → Thread
thread_of l = record { contexts = contexts_of l.inner l.below; value = l.value; thrown = l.thrown }

-- the thread with this number, counted from 1; one that isn't there has ended
abbrev pub thread_or_ended : Option Lane → Thread
thread_or_ended None = begun_thread None
thread_or_ended (Some l) = thread_of l

-- the threads by their numbers; number 0 is none
abbrev pub numbered : List Lane → ℕ → Thread
numbered lanes zero = begun_thread None
numbered lanes (suc t) = thread_or_ended (slice_get lanes t)

-- what threads share, and the threads, as a state of the system
abbrev pub state_of : Heap → List Lane → HeapState Heap Thread
state_of h lanes = record { heap = h; count = length lanes; threads = numbered lanes }

-- the threads with the one that began at this place, behind all others; or with nothing there
abbrev pub with_born : ℕ → Option Lane → List Lane → List Lane
with_born at None lanes = take at lanes
with_born at (Some l) lanes = slice_set lanes at l
