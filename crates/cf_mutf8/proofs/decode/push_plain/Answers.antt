use Rattle.std.proofs.Common.{◌∙◌, ap, sym, subst, string_bytes, arith, take, drop, ◌++◌, ◌-◌}
use Rattle.std.specs.Str.{chars}
use Rattle.std.proofs.lemmas.Str.{IsUtf8-from_ascii, IsUtf8-string_bytes}
use Rattle.cf_mutf8.specs.Reading.{IsReadTo}
use Rattle.cf_mutf8.proofs.Progress.{run_ascii, read_run, chars_run}
use Rattle.cf_mutf8.proofs.decode.push_plain.Goals as goal

pub from_utf8_unchecked-run-requires : goal.from_utf8_unchecked-run-requires
from_utf8_unchecked-run-requires c = IsUtf8-from_ascii _ (run_ascii c.args.bytes.now c.args.at c.args.end c.requires.plain)

pub fault_from-requires-clause-reads : goal.fault_from-requires-clause-reads
fault_from-requires-clause-reads c = (_, read_run c.args.bytes.now _ c.args.at c.args.end c.requires.reads (omega arith) (omega arith) c.requires.plain)

pub returns-in-Ok : goal.returns-in-Ok
returns-in-Ok c =
    let bytes = c.args.bytes.now in
    let text = string_bytes c.args.text.now in
    let run = take (c.args.end - c.args.at) (drop c.args.at bytes) in
    let e = ap chars (c.in-Ok.ensures.bytes ∙ ap (λ r. text ++ r) c.from_utf8_unchecked-run.ensures) ∙ chars_run text run (IsUtf8-string_bytes c.args.text.now) (run_ascii bytes c.args.at c.args.end c.requires.plain) in (
      subst (λ t. IsReadTo bytes t c.args.end) (sym e) (read_run bytes (chars text) c.args.at c.args.end c.requires.reads (omega arith) (omega arith) c.requires.plain),
      omega arith,
    )
