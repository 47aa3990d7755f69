-- For proofs only: how far a reader has come, and why it stops.
use Rattle.std.specs.Prelude.{◌≡◌, ℕ, List, ◌++◌, length, drop, ◌+◌}
use Rattle.cf_mutf8.specs.ModifiedUtf8.{encoded, IsText, Spells, IsBadUnitAt, character_bytes}
use Rattle.std.specs.Char.{IsScalar}
use Rattle.cf_mutf8.specs.declared.utf8_fault.Utf8Fault.{Utf8Fault}
use Rattle.cf_mutf8.specs.declared.utf8_fault.Utf8Fault.TheVariants.{BadUtf, Memory}

-- a character stands at `at`, and has so many bytes
pub record StandsAt (bytes : List ℕ) (at character size : ℕ) : Type 0 where
  pub scalar : IsScalar character
  pub splits : drop at bytes ≡ character_bytes character ++ drop (at + size) bytes
  pub long : size ≡ length (character_bytes character)

-- the bytes before `at` are those of the text
pub record IsReadTo (bytes text : List ℕ) (at : ℕ) : Type 0 where
  pub is_text : IsText text
  pub splits : bytes ≡ encoded text ++ drop at bytes
  pub before : length (encoded text) ≡ at

-- the fault is true of the bytes: memory may run out at any bytes that spell a text
abbrev pub IsCause : List ℕ → Utf8Fault → Type 0
IsCause bytes (BadUtf at) = IsBadUnitAt bytes at
IsCause bytes Memory = (text : List ℕ) × Spells bytes text
