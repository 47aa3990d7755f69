use Rattle.std.proofs.Common.{◌≡◌, ◌-◌, [], length, map}
use Rattle.cf_read.specs.Reading.{members_at, method_at, method_key}
use Rattle.cf_read.specs.Seen.{AreSeen}
use Rattle.cf_read.specs.Views.{key_at, method_of}
use Rattle.cf_read.proofs.Loops.{with_front}
use Rattle.cf_read.proofs.methods.read_all_methods.Given as goal

abbrev pub invariant-loop : goal.invariant-loop
invariant-loop l = record {
  read : with_front (map method_of l.methods.items) (members_at (method_at l.pool) (method_key l.pool) (l.count - l.counter) (map (key_at l.pool) l.members.keys.items) l.rest)
      ≡ members_at (method_at l.pool) (method_key l.pool) l.count [] l.bytes;
  seen : AreSeen l.texts l.members.firsts.items l.members.others l.members.keys.items;
  many : length l.members.keys.items ≡ l.counter;
}
