use Rattle.std.proofs.Common.{◌≡◌, ◌∙◌, codes, ap}
use Rattle.std.specs.Str.{chars}
use Rattle.cf_link.specs.Classes.{number_of}
use Rattle.cf_refs.specs.Main.{is_start}
use Rattle.cf_refs.proofs.starting.start_of.Goals as goal

pub returns : goal.returns
unfolding chars
returns c =
    let name : c.in_ok-name.name ≡ codes "main" = c.in_ok-name.ensures in
    let descriptor : c.in_ok-descriptor.descriptor ≡ codes "([Ljava/lang/String;)V" = c.in_ok-descriptor.ensures in
    c.start_in-number.ensures ∙ ap (λ n. number_of (is_start n c.in_ok-descriptor.descriptor) c.args.methods.now) name
    ∙ ap (λ d. number_of (is_start (codes "main") d) c.args.methods.now) descriptor
