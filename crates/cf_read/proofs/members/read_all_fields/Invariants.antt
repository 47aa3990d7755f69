use Rattle.std.proofs.Common.{◌≡◌, ◌-◌, [], length, map}
use Rattle.cf_read.specs.Reading.{members_at, field_at, field_key}
use Rattle.cf_read.specs.Seen.{AreSeen}
use Rattle.cf_read.specs.Views.{key_at}
use Rattle.cf_read.proofs.Loops.{with_front}
use Rattle.cf_read.proofs.members.read_all_fields.Given as goal

abbrev pub invariant-loop : goal.invariant-loop
invariant-loop l = record {
  read : with_front l.fields.items (members_at (field_at l.pool) (field_key l.pool) (l.count - l.counter) (map (key_at l.pool) l.members.keys.items) l.rest)
      ≡ members_at (field_at l.pool) (field_key l.pool) l.count [] l.bytes;
  seen : AreSeen l.texts l.members.firsts.items l.members.others l.members.keys.items;
  many : length l.members.keys.items ≡ l.counter;
}
