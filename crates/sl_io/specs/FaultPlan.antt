-- Which calls are to fail, and what was met so far.
use Rattle.std.specs.Prelude.{ℕ, ◌+◌, ◌-◌, ◌^◌, ◌==◌, min, List, Bool}
use Rattle.std.specs.List.{list_any}
use Rattle.sl_io.specs.Counts.{raised_if}

-- the numbers of the calls that fail, from 1; how many calls came; how many of them failed
pub record Plan : Type 0 where
  pub failing : List ℕ
  pub calls : ℕ
  pub faults : ℕ

-- the number of the next call, which stands still at 2^32 - 1
abbrev pub next_call : Plan → ℕ
next_call plan = min (plan.calls + 1) (2 ^ 32 - 1)

-- whether the next call is to fail
abbrev pub is_failing : Plan → Bool
is_failing plan = list_any (λ call. call == next_call plan) plan.failing

-- the plan after the next call
abbrev pub after_call : Plan → Plan
after_call plan = record {
  failing = plan.failing;
  calls = next_call plan;
  faults = raised_if (is_failing plan) plan.faults;
}
