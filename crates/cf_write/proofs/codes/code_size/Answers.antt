use Rattle.std.proofs.Common.{◌∙◌, ap, get_or}
use Rattle.cf_write.proofs.Offsets.{end_is}
use Rattle.cf_write.proofs.codes.code_size.Goals as goal

pub returns : goal.returns
returns c =
    let starts = c.args.starts.now in
    ap (λ n. get_or starts n 0) c.len.ensures ∙ end_is c.args.code.now.instrs starts c.requires
