use Rattle.std.proofs.Common.{◌≡◌, ℕ, ◌<◌, ◌≤◌, false}
use Rattle.ty_prog.specs.Node.{tree_of}
use Rattle.ty_flow.specs.Uses.{passage}
use Rattle.ty_flow.proofs.set_first.are_set_first.Given as goal

abbrev pub invariant-loop-local : goal.invariant-loop-local
invariant-loop-local l = (local : ℕ) → l.given ≤ local → local < l.local → (passage local (tree_of l.root)).reads ≡ false
