use Rattle.sl_parse_tmpl.proofs.Refused.{file_given, only_file, all_files, refused}
use Rattle.sl_parse_tmpl.proofs.parse.Goals as goal

pub returns-clause-derived : goal.returns-clause-derived
returns-clause-derived c = file_given c.args.tokens.now c.by_rules.result c.by_rules.ensures.tree

pub returns-clause-only : goal.returns-clause-only
returns-clause-only c = only_file c.args.tokens.now c.by_rules.result c.by_rules.ensures.tree

pub returns-clause-complete : goal.returns-clause-complete
returns-clause-complete c = all_files c.args.tokens.now c.by_rules.result c.by_rules.ensures.fault

pub returns-clause-refused : goal.returns-clause-refused
returns-clause-refused c = refused c.args.tokens.now c.by_rules.result c.by_rules.ensures.fault
