use Rattle.sl_parse_tmpl.proofs.Refused.{is_file, file_reads, one_file}
use Rattle.sl_parse_tmpl.proofs.laws.files.Goals as goal

pub returns : goal.returns
returns c = record { read = file_reads; derived = is_file; one = one_file }
