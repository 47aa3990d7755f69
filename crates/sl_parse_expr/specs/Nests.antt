-- Function values that read expressions or patterns to a depth.
use Rattle.std.specs.Prelude.{ℕ, Result}
use Rattle.std.specs.declared.alloc.Global.{Global}
use denote.Ref.{MutBor}
use Rattle.sl_parse_expr.specs.declared.stopped.Stopped.{Stopped}
use Rattle.sl_parse_expr.specs.Reading.{Reads, Reader, State}

-- the function may be called at this depth, and what it then ensures is that it reads as the reader does
pub record Nests {A : Type 0} (reader : ℕ → Reader A) (depth : ℕ) (pre : Global → MutBor State → ℕ → Type 0)
    (post : Global → MutBor State → ℕ → Result A Stopped → MutBor State → Type 0) : Type 0 where
  pub callable : (alloc : Global) (old : MutBor State) → pre alloc old depth
  pub reads : (alloc : Global) (old new : MutBor State) (r : Result A Stopped) → post alloc old depth r new
      → Reads (reader depth old.now) r new.now
