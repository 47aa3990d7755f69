use Rattle.std.proofs.Common.{◌≡◌, ◌++◌, length}
use Rattle.cf_link.specs.Layout.{method_slots}
use Rattle.cf_link.proofs.tables.method_slots.Given as goal

abbrev pub invariant-loop-of : goal.invariant-loop-of
invariant-loop-of l = l.slots ++ method_slots l.classes l.class l.rest ≡ method_slots l.classes l.class l.chain

abbrev pub decreases-loop-of : goal.decreases-loop-of
decreases-loop-of l = length l.rest
