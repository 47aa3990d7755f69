use Rattle.std.proofs.Common.{◌≡◌, take}
use Rattle.std.specs.List.{flat_map}
use Rattle.cf_form.specs.Instructions.{bytes_of, with_offsets}
use Rattle.cf_instr.proofs.encoding.encode_at.Given as goal

abbrev pub invariant-loop-n : goal.invariant-loop-n
invariant-loop-n l = l.out.items ≡ flat_map bytes_of (with_offsets l.instrs 0 (take l.n l.instrs))
