use Rattle.std.proofs.Common.{◌≡◌, length, ap, sym, ◌∙◌, subst, arith}
use Rattle.std.specs.Str.{chars}
use Rattle.std.proofs.lemmas.Str.{length-le-encodes, encodes-chars}
use Rattle.sl_text.specs.Utf8.{Spells, IsIllFormedAt}
use Rattle.sl_text.proofs.Spelling.{std_spells, std_well_formed, ill_formed_one, ill_formed_apart}
use Rattle.sl_text.proofs.chars_of.Goals as goal

pub from_chars-requires : goal.from_chars-requires
from_chars-requires c =
    let u = c.in-Ok.ensures.text in
    let e : length c.in-Ok-collected.chars.items ≡ length (chars c.args.bytes.now) = ap length c.in-Ok-collected.ensures ∙ ap (λ bs. length (chars bs)) u.0 in
    let l = length-le-encodes (chars c.args.bytes.now) in
    let m = ap length (encodes-chars c.args.bytes.now u.1) in
    omega arith

pub returns-in-Ok-collected-clause-text : goal.returns-in-Ok-collected-clause-text
returns-in-Ok-collected-clause-text c =
    let u = c.in-Ok.ensures.text in
    subst (Spells c.args.bytes.now) (sym (c.from_chars.ensures ∙ c.in-Ok-collected.ensures ∙ ap chars u.0)) (std_spells c.args.bytes.now u.1)

pub returns-in-Ok-collected-clause-not_utf8 : goal.returns-in-Ok-collected-clause-not_utf8
returns-in-Ok-collected-clause-not_utf8 c at =
    (λ e. cc, λ h. absurd (ill_formed_apart _ _ h (std_well_formed _ c.in-Ok.ensures.text.1)))

pub returns-in-Err-collected-clause-not_utf8 : goal.returns-in-Err-collected-clause-not_utf8
returns-in-Err-collected-clause-not_utf8 c at =
    (λ e. cc, λ h. absurd (ill_formed_apart _ _ h (std_well_formed _ c.in-Ok.ensures.text.1)))

pub returns-in-Err-collected-clause-memory : goal.returns-in-Err-collected-clause-memory
returns-in-Err-collected-clause-memory c e = std_well_formed _ c.in-Ok.ensures.text.1

pub returns-in-Err-clause-not_utf8 : goal.returns-in-Err-clause-not_utf8
returns-in-Err-clause-not_utf8 c at =
    let here : IsIllFormedAt c.args.bytes.now c.in-Err.at = c.in-Err.ensures.fault in (
      λ e. let same : c.in-Err.at ≡ at = cc in subst (IsIllFormedAt c.args.bytes.now) same here,
      λ h. let same : c.in-Err.at ≡ at = ill_formed_one _ _ _ here h in cc,
    )
