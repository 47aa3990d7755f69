use Rattle.std.proofs.Common.{◌≡◌, ◌++◌, take}
use Rattle.std.specs.List.{flat_map}
use Rattle.cf_form.specs.Pool.{constant_bytes}
use Rattle.cf_write.proofs.constants.put_constants.Given as goal

abbrev pub invariant-loop-constant : goal.invariant-loop-constant
invariant-loop-constant l = l.into.items ≡ l.initial.into.items ++ flat_map constant_bytes (take l.constant-index l.pool)
