-- What a sink in memory holds.
use Rattle.std.specs.Prelude.{ℕ, List}
use Rattle.sl_io.specs.FaultPlan.{Plan}

-- the bytes that it took, how many it takes at a call, and the calls that fail
pub record Gathered : Type 0 where
  pub bytes : List ℕ
  pub most : ℕ
  pub plan : Plan
