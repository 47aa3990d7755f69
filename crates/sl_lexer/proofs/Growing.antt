-- A text that gains a character.
use Rattle.std.proofs.Common.{◌≡◌, ℕ, List, [], ◌∷◌, ◌++◌, Result, Ok, Err, sym, ap, ◌∙◌, encode_utf8_all}
use Rattle.std.specs.Prelude.{OnOk, if◌then◌else◌, is_ok}
use Rattle.std.specs.Char.{encode_utf8}
use Rattle.std.specs.Str.{chars, IsUtf8}
use Rattle.std.proofs.lemmas.List.{append-nil}
use Rattle.std.proofs.lemmas.Str.{encodes-append, encodes-chars, chars_from_encodes}

grown : (bs ds cs : List ℕ) (c : ℕ) → IsUtf8 bs → IsUtf8 ds → ds ≡ bs ++ encode_utf8 c → chars bs ≡ cs → chars ds ≡ cs ++ c ∷ []
grown bs ds cs c u v e h =
    let old : encode_utf8_all cs ≡ bs = ap encode_utf8_all (sym h) ∙ encodes-chars bs u in
    sym (chars_from_encodes (cs ++ c ∷ []) ds v (encodes-append cs (c ∷ []) ∙ ap (λ z. z ++ encode_utf8_all (c ∷ [])) old ∙ ap (λ z. bs ++ z) (append-nil (encode_utf8 c)) ∙ sym e))

pub grown_if : {A E : Type 0} (r : Result A E) (bs ds cs : List ℕ) (c : ℕ) → IsUtf8 bs → IsUtf8 ds → ds ≡ (if is_ok r then bs ++ encode_utf8 c else bs) → chars bs ≡ cs → OnOk r (chars ds ≡ cs ++ c ∷ [])
grown_if (Ok x) bs ds cs c u v e h = grown bs ds cs c u v e h
grown_if (Err x) bs ds cs c u v e h = tt

-- the characters of a text are those that its bytes spell
pub spelled_back : (cs bs : List ℕ) → IsUtf8 bs → bs ≡ encode_utf8_all cs → chars bs ≡ cs
spelled_back cs bs u e = sym (chars_from_encodes cs bs u (sym e))
