-- Texts of ASCII characters, whose bytes are their characters.
use Rattle.std.proofs.Common.{◌≡◌, ℕ, zero, suc, Bool, true, false, List, [], ◌∷◌, ap, refl, ◌∙◌, arith}
use Rattle.std.specs.Prelude.{IsTrue, ◌&&◌}
use Rattle.std.specs.Char.{is_ascii}
use Rattle.std.specs.List.{list_all}
use Rattle.std.specs.Str.{chars, bytes_eq, IsUtf8, IsAscii}
use Rattle.std.proofs.lemmas.Bool.{ltb-true}
use Rattle.std.proofs.lemmas.Str.{chars-IsAscii, IsUtf8-from_ascii}
use Rattle.ty_member.proofs.Spelling.{same_spelled}

both : (a b : Bool) → IsTrue (a && b) → IsTrue a × IsTrue b
both true true h = (refl, refl)
both true false h = absurd (cc)
both false b h = absurd (cc)

pub all_ascii : (bs : List ℕ) → IsTrue (list_all is_ascii bs) → IsAscii bs
all_ascii [] all i = omega arith
all_ascii (b ∷ bs) all zero = ltb-true b 128 ((both (is_ascii b) (list_all is_ascii bs) all).0)
all_ascii (b ∷ bs) all (suc i) = all_ascii bs (both (is_ascii b) (list_all is_ascii bs) all).1 i

-- a text is an ASCII one exactly where its characters are
pub same_word : (text word name : List ℕ) → IsUtf8 text → chars text ≡ name → IsTrue (list_all is_ascii word) → bytes_eq text word ≡ bytes_eq name word
same_word text word name u is ascii =
    same_spelled text word u (IsUtf8-from_ascii word (all_ascii word ascii))
    ∙ ap (λ n. bytes_eq n (chars word)) is ∙ ap (bytes_eq name) (chars-IsAscii word (all_ascii word ascii))
