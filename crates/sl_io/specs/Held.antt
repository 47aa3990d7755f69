-- What a shelf in memory holds.
use Rattle.std.specs.Prelude.{◌≡◌, ◌<◌, ℕ, List, [], ◌∷◌, Option, None, Some, Vec, length, take, slice_index_or, if◌then◌else◌, encode_utf8_all}
use Rattle.std.specs.Str.{bytes_eq}
use Rattle.std.specs.declared.alloc.Global.{Global}
use Rattle.sl_io.specs.FaultPlan.{Plan}

-- the files in their order, each with the UTF-8 of its name, and the calls that fail
pub record Held : Type 0 where
  pub files : List (List ℕ × List ℕ)
  pub plan : Plan

-- a file with its name's characters, as one with its name's bytes
abbrev pub stored : List ℕ × Vec ℕ Global → List ℕ × List ℕ
stored entry = (encode_utf8_all entry.0, entry.1.items)

-- the bytes of the first file with this name
abbrev pub file_in : List (List ℕ × List ℕ) → List ℕ → Option (List ℕ)
file_in [] name = None
file_in (entry ∷ entries) name = if bytes_eq entry.0 name then Some entry.1 else file_in entries name

-- the first file with this name has the number i, from 0
pub record IsNumberOf (entries : List (List ℕ × List ℕ)) (name : List ℕ) (i : ℕ) : Type 0 where
  pub before : file_in (take i entries) name ≡ None
  pub within : i < length entries
  pub named : (slice_index_or entries i (name, [])).0 ≡ name
