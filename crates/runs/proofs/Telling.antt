-- A table that tells who waits for whom, and the cycles of the state.
use Rattle.std.proofs.Common.{ℕ, List, Option}
use Rattle.runs.specs.System.{System}
use Rattle.runs.specs.Waiting.{Cycle, LeastCycle}
use Rattle.runs.specs.WaitTable.{IsReported, NoCycle, Tells}
use Rattle.runs.proofs.Agreeing.{cycle_maps, least_maps}

module _ {Event Place S : Type 0} (s : System Event Place S) (x : S) (table : List (Option ℕ)) (tells : Tells s x table) where
  pub reported_is_least : (ts : List ℕ) → IsReported table ts → LeastCycle s x ts
  reported_is_least = least_maps (λ t u. ((tells t u).1, (tells t u).0))

  pub none_is_none : NoCycle table → (ts : List ℕ) → Cycle s x ts → ⊥
  none_is_none h ts c = h ts (cycle_maps (λ t u. (tells t u).0) ts c)
