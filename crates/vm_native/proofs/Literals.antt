-- Texts compared with literals of ASCII.
use Rattle.std.proofs.Common.{◌≡◌, ℕ, Bool, List, encode_utf8_all, sym, refl, ap, ◌∙◌}
use Rattle.std.specs.Prelude.{codes}
use Rattle.std.specs.Str.{chars, bytes_eq, IsUtf8}
use Rattle.std.proofs.lemmas.Slice.Eq.{bytes_eq-Decides, slice_eq-Decides}
use Rattle.std.proofs.lemmas.Bool.Decides.{Decides-like, Decides-eqb, same_from_decides}
use Rattle.sl_base.proofs.Texts.{text_again}

pub compares_literal : (xs cs ds : List ℕ) (r : Bool) → IsUtf8 xs → chars xs ≡ cs → chars ds ≡ ds → encode_utf8_all ds ≡ ds → r ≡ bytes_eq xs ds → r ≡ bytes_eq cs ds
compares_literal xs cs ds r u e f g h =
    same_from_decides r (bytes_eq cs ds)
    (Decides-like r (λ p. sym e ∙ ap chars p ∙ f) (λ p. text_again xs cs u e ∙ ap encode_utf8_all p ∙ g) (slice_eq-Decides Decides-eqb xs ds r h))
    (bytes_eq-Decides cs ds)

pub object_bytes : encode_utf8_all (codes "Ljava/lang/Object;") ≡ codes "Ljava/lang/Object;"
unfolding lib.Utf8.encode
object_bytes = refl
