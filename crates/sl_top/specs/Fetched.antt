-- What a shelf gave for the name of a source file.
use Rattle.std.specs.Prelude.{◌≡◌, ℕ, ◌<◌, ◌≤◌, List, length, encode_utf8_all, Bool, IsTrue, None, Some, IsSomeAnd}
use Rattle.sl_io.specs.Counts.{Rose}
use Rattle.sl_io.specs.Files.{Files}
use Rattle.sl_top.specs.declared.outcome.Outcome.{Outcome}
use Rattle.sl_top.specs.declared.outcome.Outcome.TheVariants.{ShelfFault, Memory, Missing, Long}
use Rattle.sl_top.specs.declared.source_file.TheConstants.{SOURCE_LIMIT}
use Rattle.sl_top.specs.Outside.{ShelfSeen, IsCalm}

-- the bytes that the shelf gave for a name: those of its file, where the shelf tells its files
pub record IsSource (tells : Bool) (file : Files) (name bytes : List ℕ) : Type 0 where
  pub short : length bytes ≤ SOURCE_LIMIT
  pub told : IsTrue tells → file (encode_utf8_all name) ≡ Some bytes

-- why the shelf gave none; at each cause but a fault of the shelf no count of the shelf rose. No other outcome comes so
abbrev pub IsUnread : Outcome → ShelfSeen → List ℕ → Type 0
IsUnread Missing shelf name = IsCalm shelf × (IsTrue shelf.tells → shelf.file (encode_utf8_all name) ≡ None)
IsUnread Long shelf name =
    IsCalm shelf
    × (IsTrue shelf.tells → IsSomeAnd (shelf.file (encode_utf8_all name)) (λ bytes. SOURCE_LIMIT < length bytes))
IsUnread ShelfFault shelf name = Rose (shelf.before (encode_utf8_all name)) (shelf.after (encode_utf8_all name))
IsUnread Memory shelf name = IsCalm shelf
IsUnread outcome shelf name = ⊥
