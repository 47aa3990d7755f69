-- No waiter is lost.
use Rattle.std.specs.Prelude.{◌≡◌, ℕ, ◌⊎◌, true, false}
use Rattle.once_example.specs.Lower.{State, Sleep, is_inside, is_opening}

-- where a thread sleeps on a latch that is closed, some thread is inside the initialiser or is about to open that latch
abbrev pub NoLostWaiter : State → Type 0
NoLostWaiter s =
    (t left k : ℕ) → s.positions t ≡ Sleep left k → s.opened k ≡ false → (u : ℕ) × ((is_inside (s.positions u) ≡ true) ⊎ (is_opening (s.positions u) k ≡ true))
