-- What modified UTF-8 that was read, or was refused, spells.
use Rattle.std.proofs.Common.{◌≡◌, refl, ℕ, List, Option, Some, None}
use Rattle.std.specs.Str.{chars, IsUtf8}
use Rattle.std.proofs.lemmas.Str.{scalars-chars}
use Rattle.cf_mutf8.specs.ModifiedUtf8.{encoded, IsBadUnitAt}
use Rattle.cf_mutf8.specs.Decoded.{decoded}
use Rattle.cf_mutf8.proofs.FirstCharacters.{decoded_iff}
use Rattle.cf_mutf8.proofs.Texts.{bad_apart}

pub decoded_some : (bytes text : List ℕ) → IsUtf8 text → bytes ≡ encoded (chars text) → decoded bytes ≡ Some (chars text)
decoded_some bytes text u e = (decoded_iff bytes (chars text)).1 (scalars-chars text u, e)

pub decoded_none : (bytes : List ℕ) (at : ℕ) → IsBadUnitAt bytes at → decoded bytes ≡ None
decoded_none bytes at h = by (decoded bytes) (λ text e. bad_apart bytes text at h ((decoded_iff bytes text).0 e))
  where
    by : (o : Option (List ℕ)) → ((text : List ℕ) → o ≡ Some text → ⊥) → o ≡ None
    by None f = refl
    by (Some text) f = absurd (f text refl)
