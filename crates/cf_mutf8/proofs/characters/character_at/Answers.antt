use Rattle.std.proofs.Common.{◌≡◌, ◌∙◌, ap, ◌++◌, ◌+◌, drop, arith}
use Rattle.cf_mutf8.specs.ModifiedUtf8.{unit_bytes}
use Rattle.cf_mutf8.proofs.Pairs.{none_without_unit, surrogate_range, surrogate_length, single_read}
use Rattle.cf_mutf8.proofs.characters.character_at.Goals as goal

pub pair_at-requires-clause-first : goal.pair_at-requires-clause-first
pair_at-requires-clause-first c =
    let unit = c.in-Some.unit in
    let r = surrogate_range unit.code c.in-None-from_u32.ensures.cases (omega arith) in
    let size : unit.size ≡ 3 = c.in-Some.ensures.1 ∙ surrogate_length unit.code (omega arith) in
    c.in-Some.ensures.0 ∙ ap (λ n. unit_bytes unit.code ++ drop (c.args.at + n) c.args.bytes.now) size

pub returns-in-None : goal.returns-in-None
returns-in-None c = none_without_unit _ c.in-None.ensures

pub returns-in-Some-from_u32 : goal.returns-in-Some-from_u32
returns-in-Some-from_u32 c =
    let unit = c.in-Some.unit in
    single_read c.args.bytes.now c.args.at unit.code unit.size c.in-Some-from_u32.value (omega arith) c.in-Some.ensures.0 c.in-Some.ensures.1 c.in-Some-from_u32.ensures.value
