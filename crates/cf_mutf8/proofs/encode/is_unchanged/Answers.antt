use Rattle.std.proofs.Common.{subst, ◌<◌, ℕ, List, length, get_or}
use Rattle.std.specs.Int.{IsInRange}
use Rattle.cf_mutf8.proofs.Utf8.{text_unchanged}
use Rattle.cf_mutf8.proofs.encode.is_unchanged.Goals as goal

pub returns : goal.returns
returns c h =
    let bytes : List ℕ = c.args.text.now in
    let P : List ℕ → Type 0 = λ l. (k : ℕ) → k < length l → IsInRange 0x01 0xEF (get_or l k 0) in
    text_unchanged bytes c.utf8.text (subst P c.as_bytes.ensures.value (c.are_shared.ensures.0 h))
