use Rattle.std.proofs.Common.{◌≡◌, string_bytes}
use Rattle.std.specs.Str.{chars}
use Rattle.vm_state.specs.Heaps.{last_part}
use Rattle.vm_native.proofs.names.last_part.Given as goal

abbrev pub invariant-loop-character : goal.invariant-loop-character
invariant-loop-character l = chars (string_bytes l.part) ≡ last_part l.yielded
