-- Which lowerings are still to come: 1 of reads of objects, 2 of traits, 3 of matching, 4 of lazy members. What a form
-- weighs for a lowering is counted only until that is done.
use Rattle.std.specs.Prelude.{ℕ, nat_lt}
use Rattle.ty_room.specs.declared.ahead.Ahead.{Ahead}

-- what is still to come when the first k are done
abbrev pub ahead_of : ℕ → Ahead
ahead_of k = record { objects = nat_lt k 1; traits = nat_lt k 2; matches = nat_lt k 3 }
