use Rattle.ty_room.specs.Sizing.{together}
use Rattle.ty_room.proofs.Chains.{named, no_parts, one_part_more, few_parts, many_parts, one_pattern_more, match_ends, guarded_case, plain_case, matched, caught, alternatives}
use Rattle.ty_room.proofs.laws.matching.Goals as goal

pub returns-clause-named : goal.returns-clause-named
returns-clause-named c = named

pub returns-clause-no_parts : goal.returns-clause-no_parts
returns-clause-no_parts c = no_parts

pub returns-clause-one_part_more : goal.returns-clause-one_part_more
returns-clause-one_part_more c = one_part_more

pub returns-clause-few_parts : goal.returns-clause-few_parts
returns-clause-few_parts c = few_parts

pub returns-clause-many_parts : goal.returns-clause-many_parts
returns-clause-many_parts c = many_parts

pub returns-clause-one_pattern_more : goal.returns-clause-one_pattern_more
returns-clause-one_pattern_more c = one_pattern_more

pub returns-clause-match_ends : goal.returns-clause-match_ends
returns-clause-match_ends c = match_ends

pub returns-clause-guarded_case : goal.returns-clause-guarded_case
returns-clause-guarded_case c = guarded_case

pub returns-clause-plain_case : goal.returns-clause-plain_case
returns-clause-plain_case c = plain_case

pub returns-clause-matched : goal.returns-clause-matched
returns-clause-matched c = matched

pub returns-clause-caught : goal.returns-clause-caught
returns-clause-caught c = caught

pub returns-clause-alternatives : goal.returns-clause-alternatives
returns-clause-alternatives c = λ read value tests rest patterns. alternatives read value tests (together patterns) rest
