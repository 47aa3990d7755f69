use Rattle.cf_read.proofs.SimpleKinds.{magic_at_start, version_at_six, cut_at_end, rest_before_end, rest_behind}
use Rattle.cf_read.proofs.laws.simple_kinds.Goals as goal

pub returns-clause-magic : goal.returns-clause-magic
returns-clause-magic c = magic_at_start

pub returns-clause-version : goal.returns-clause-version
returns-clause-version c = version_at_six

pub returns-clause-cut : goal.returns-clause-cut
returns-clause-cut c = cut_at_end

pub returns-clause-rest : goal.returns-clause-rest
returns-clause-rest c = rest_before_end

pub returns-clause-longer : goal.returns-clause-longer
returns-clause-longer c = rest_behind
