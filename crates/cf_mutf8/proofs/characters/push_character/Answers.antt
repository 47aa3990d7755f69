use Rattle.std.proofs.Common.{arith, append_assoc}
use Rattle.cf_mutf8.proofs.Pairs.{bytes_single, bytes_pair}
use Rattle.cf_mutf8.proofs.characters.push_character.Goals as goal

pub returns-then-code-lt65536-clause-ok : goal.returns-then-code-lt65536-clause-ok
returns-then-code-lt65536-clause-ok c = rw (bytes_single c.args.character (omega arith)) c.push_unit.ensures.ok

pub returns-in_ok-push_unit-clause-ok : goal.returns-in_ok-push_unit-clause-ok
returns-in_ok-push_unit-clause-ok c =
    rw (bytes_pair c.args.character (omega arith), ← append_assoc, ← c.in_ok-push_unit.ensures.ok) c.push_unit-else-code-lt65536-2.ensures.ok
