use Rattle.std.proofs.Common.{◌≡◌, ◌-◌}
use Rattle.cf_form.specs.declared.kind.Kind.TheVariants as kind
use Rattle.cf_read.specs.Reading.{many_at, index_at}
use Rattle.cf_read.proofs.Loops.{with_front}
use Rattle.cf_read.proofs.attributes.read_classes.Given as goal

abbrev pub invariant-loop : goal.invariant-loop
invariant-loop l =
    with_front l.classes.items (many_at (index_at l.pool kind.Class) (l.count - l.counter) l.rest) ≡ many_at (index_at l.pool kind.Class) l.count l.bytes
