-- Texts of ASCII characters, whose bytes are their characters.
use Rattle.std.proofs.Common.{◌≡◌, ℕ, zero, suc, Bool, true, false, List, [], ◌∷◌, encode_utf8_all, sym, ap, refl, ◌∙◌, arith}
use Rattle.std.specs.Prelude.{IsTrue, ◌&&◌}
use Rattle.std.specs.Char.{is_ascii}
use Rattle.std.specs.List.{list_all}
use Rattle.std.specs.Bool.{Decides}
use Rattle.std.specs.Str.{chars, bytes_eq, IsUtf8, IsAscii}
use Rattle.std.proofs.lemmas.Bool.{ltb-true}
use Rattle.std.proofs.lemmas.Bool.Decides.{Decides-like, Decides-eqb}
use Rattle.std.proofs.lemmas.Slice.Eq.{slice_eq-Decides}
use Rattle.std.proofs.lemmas.Str.{encodes-chars, encodes-IsAscii, chars-IsAscii}

both : (a b : Bool) → IsTrue (a && b) → IsTrue a × IsTrue b
both true true h = (refl, refl)
both true false h = absurd (cc)
both false b h = absurd (cc)

pub all_ascii : (bs : List ℕ) → IsTrue (list_all is_ascii bs) → IsAscii bs
all_ascii [] all i = omega arith
all_ascii (b ∷ bs) all zero = ltb-true b 128 ((both (is_ascii b) (list_all is_ascii bs) all).0)
all_ascii (b ∷ bs) all (suc i) = all_ascii bs (both (is_ascii b) (list_all is_ascii bs) all).1 i

-- a text has the characters of an ASCII one exactly where it has its bytes
pub same_text : (xs ys cs : List ℕ) (r : Bool) → IsUtf8 xs → chars xs ≡ cs → IsTrue (list_all is_ascii ys) → r ≡ bytes_eq xs ys → Decides r (cs ≡ ys)
same_text xs ys cs r u e a h =
    Decides-like r (λ p. sym e ∙ ap chars p ∙ chars-IsAscii ys (all_ascii ys a))
    (λ p. sym (encodes-chars xs u) ∙ ap encode_utf8_all (e ∙ p) ∙ encodes-IsAscii ys (all_ascii ys a))
    (slice_eq-Decides Decides-eqb xs ys r h)
