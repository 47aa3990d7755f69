use Rattle.std.proofs.Common.{◌≡◌, ◌++◌}
use Rattle.cf_mutf8.specs.ModifiedUtf8.{encoded}
use Rattle.cf_mutf8.proofs.encode.push_characters.Given as goal

abbrev pub invariant-loop-character : goal.invariant-loop-character
invariant-loop-character l = l.into.items ≡ l.initial.into.items ++ encoded l.yielded
