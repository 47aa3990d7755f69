-- What is still to come after more lowerings was to come before.
use Rattle.std.proofs.Common.{◌≡◌, ◌≤◌, ℕ, true, nat_lt, arith}
use Rattle.ty_room.specs.Ahead.{ahead_of}
use Rattle.ty_room.proofs.Copied.{Later}
use Rattle.std.proofs.lemmas.Grind.{common_steps}

below_by : (j k n : ℕ) → k ≤ j → nat_lt j n ≡ true → nat_lt k n ≡ true
below_by j k n le h = grind (arith, common_steps)

pub later_of : (j k : ℕ) → k ≤ j → Later (ahead_of j) (ahead_of k)
later_of j k le = record { traits = below_by j k 2 le; matches = below_by j k 3 le }
