-- What the words ask to have printed: its text, and the steps that it takes.
use Rattle.std.specs.Prelude.{◌≡◌, ℕ, ℤ, List, [], ◌∷◌, map, Bool}
use Rattle.runs.specs.declared.Turn.{Turn}
use Rattle.sl_io.specs.Files.{Files}
use Rattle.sl_top.specs.declared.chain.Chain.{Chain}
use Rattle.sl_top.specs.Fetched.{IsSource}
use Rattle.sl_top.specs.Listing.{IsListing}
use Rattle.sl_top.specs.Trace.{printed_line, trace_text}
use Rattle.sl_top.specs.Value.{Values, steps_of}

-- the bytes are a listing that prints this text in this many steps
pub record Prints (bytes text : List ℕ) (steps : ℕ) : Type 0 where
  pub chains : List Chain
  pub values : List ℤ
  pub listing : IsListing bytes chains
  pub worth : Values chains values
  pub written : text ≡ trace_text (map printed_line values)
  pub counted : steps ≡ steps_of chains

-- the bytes are no listing
abbrev pub IsNotBuilt : List ℕ → Type 0
IsNotBuilt bytes = (chains : List Chain) → IsListing bytes chains → ⊥

-- the file of this name prints this text in this many steps
pub record PrintsFile (tells : Bool) (file : Files) (name text : List ℕ) (steps : ℕ) : Type 0 where
  pub bytes : List ℕ
  pub source : IsSource tells file name bytes
  pub prints : Prints bytes text steps

-- the schedule of a run of thread 1 alone
abbrev pub one_turn : ℕ → List Turn
one_turn steps = record { thread = 1; count = steps } ∷ []
