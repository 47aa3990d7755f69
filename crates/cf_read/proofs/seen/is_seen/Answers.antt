use Rattle.std.proofs.Common.{rules, ◌≡◌, ◌<◌, ◌^◌, ◌∙◌}
use Rattle.cf_read.specs.Seen.{text_number, has_numbers}
use Rattle.cf_read.proofs.SeenKeys.{seen_all}
use Rattle.cf_read.proofs.seen.is_seen.Goals as goal

pub returns : goal.returns
returns c =
    let small : text_number c.args.texts.now c.args.descriptor < 2 ^ 16 = search rules in
    let had : c.has_numbers.result ≡ has_numbers c.args.firsts.now c.args.others.now (text_number c.args.texts.now c.args.name) (text_number c.args.texts.now c.args.descriptor) = search rules in
    had ∙ seen_all c.args.pool.now c.args.texts.now c.args.name c.args.descriptor c.args.keys.now c.args.firsts.now c.args.others.now c.requires.numbered c.requires.seen small
