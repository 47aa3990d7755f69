use Rattle.std.proofs.Common.{◌≡◌, ◌<◌, ◌^◌, ◌++◌, ap, ◌∙◌, arith, rules, w64, to_z, of_z, IsOk}
use Rattle.std.specs.Fmt.{signed_decimal}
use Rattle.std.specs.Int.Signed.{mag}
use Rattle.std.specs.Str.{IsAscii}
use Rattle.std.proofs.lemmas.Fmt.{IsAscii-signed}
use Rattle.std.proofs.lemmas.Int.{to_z-of_z}
use Rattle.std.proofs.lemmas.Str.{IsUtf8-from_ascii, chars-IsAscii}
use Rattle.vm_native.proofs.numbers.decimal_text.Goals as goal
use Rattle.vm_native.proofs.numbers.decimal_text.Goals.{After-from_utf8}

-- the bytes are the decimal text
bytes_are : (c : After-from_utf8) → c.put_i64.new.into.items ≡ signed_decimal c.args.number
bytes_are c =
    c.in_ok-put_i64.ensures.ok ∙ ap (λ bytes. bytes ++ signed_decimal (to_z w64 (of_z w64 c.args.number))) c.new-bytes.ensures.items ∙ ap signed_decimal (to_z-of_z w64 c.args.number c.ranges.number)

-- so they are their own characters
are_ascii : (c : After-from_utf8) → IsAscii (signed_decimal c.args.number)
are_ascii c = let small : mag c.args.number < 2 ^ 63 = c.ranges.number.sfits in IsAscii-signed c.args.number (omega arith)

pub unreachable-requires : goal.unreachable-requires
unreachable-requires c =
    let d = (goal.at.unreachable-requires c).After-from_utf8 in
    let ok : IsOk c.from_utf8.result = c.from_utf8.ensures.succeeds (rw (bytes_are d) (IsUtf8-from_ascii _ (are_ascii d))) in
    let bad = rw c.in-Err.is at ok in
    search rules

pub returns : goal.returns
returns c =
    let d = (goal.at.returns c).After-from_utf8 in
    c.from_string.ensures ∙ rw (c.in-Ok.ensures.ok, bytes_are d) (chars-IsAscii _ (are_ascii d))
