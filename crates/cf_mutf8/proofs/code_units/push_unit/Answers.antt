use Rattle.std.proofs.Common.{arith}
use Rattle.cf_mutf8.proofs.Units.{unit_one, unit_two, unit_three}
use Rattle.cf_mutf8.proofs.code_units.push_unit.Goals as goal

pub returns-then-unit-lt128-clause-ok : goal.returns-then-unit-lt128-clause-ok
returns-then-unit-lt128-clause-ok c = rw (unit_one c.args.unit (omega arith) (omega arith)) c.append.ensures.ok

pub returns-then-unit-lt2048-clause-ok : goal.returns-then-unit-lt2048-clause-ok
returns-then-unit-lt2048-clause-ok c =
    rw (unit_two c.args.unit (grind arith) (omega arith)) c.append-then-unit-lt2048.ensures.ok

pub returns-else-unit-lt2048-clause-ok : goal.returns-else-unit-lt2048-clause-ok
returns-else-unit-lt2048-clause-ok c = rw (unit_three c.args.unit (omega arith)) c.append-else-unit-lt2048.ensures.ok
