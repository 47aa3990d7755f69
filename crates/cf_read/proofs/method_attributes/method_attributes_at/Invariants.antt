use Rattle.std.proofs.Common.{◌≡◌, ◌-◌, None}
use Rattle.std.specs.Prelude.{option_map}
use Rattle.cf_read.specs.Reading.{method_attributes_at}
use Rattle.cf_read.specs.Views.{found_of}
use Rattle.cf_read.proofs.method_attributes.method_attributes_at.Given as goal

abbrev pub invariant-loop : goal.invariant-loop
invariant-loop l =
    method_attributes_at (l.count - l.counter) l.pool l.access (option_map found_of l.code) l.rest
    ≡ method_attributes_at l.count l.pool l.access None l.bytes
