-- Texts and their characters.
use Rattle.std.proofs.Common.{◌≡◌, ℕ, Bool, List, encode_utf8_all, sym, ap, ◌∙◌}
use Rattle.std.specs.Str.{chars, bytes_eq, IsUtf8}
use Rattle.std.specs.Bool.{Decides}
use Rattle.std.proofs.lemmas.Str.{encodes-chars}
use Rattle.std.proofs.lemmas.Slice.Eq.{bytes_eq-Decides, slice_eq-Decides}
use Rattle.std.proofs.lemmas.Bool.Decides.{Decides-like, Decides-eqb, same_from_decides}

-- a text is the UTF-8 of its characters
pub text_again : (bs cs : List ℕ) → IsUtf8 bs → chars bs ≡ cs → bs ≡ encode_utf8_all cs
text_again bs cs u e = sym (encodes-chars bs u) ∙ ap encode_utf8_all e

-- texts are equal exactly where their characters are
pub same_texts : (xs ys cs ds : List ℕ) (r : Bool) → IsUtf8 xs → IsUtf8 ys → chars xs ≡ cs → chars ys ≡ ds → r ≡ bytes_eq xs ys → Decides r (cs ≡ ds)
same_texts xs ys cs ds r u v e f h =
    Decides-like r (λ p. sym e ∙ ap chars p ∙ f) (λ p. text_again xs cs u e ∙ ap encode_utf8_all p ∙ sym (text_again ys ds v f))
    (slice_eq-Decides Decides-eqb xs ys r h)

-- so a comparison of texts compares their characters
pub compares_chars : (xs ys cs ds : List ℕ) (r : Bool) → IsUtf8 xs → IsUtf8 ys → chars xs ≡ cs → chars ys ≡ ds → r ≡ bytes_eq xs ys → r ≡ bytes_eq cs ds
compares_chars xs ys cs ds r u v e f h = same_from_decides r (bytes_eq cs ds) (same_texts xs ys cs ds r u v e f h) (bytes_eq-Decides cs ds)
