-- What a list of words asks for.
use Rattle.std.specs.Prelude.{◌≡◌, ℕ, List, [], ◌∷◌, codes, None, false}
use Rattle.sl_top.specs.declared.request.Options.{Options}
use Rattle.sl_top.specs.declared.request.Request.{Request}
use Rattle.sl_top.specs.declared.request.Request.TheVariants.{Run, Check}

-- the options of a plain run
abbrev pub defaults : Options
defaults = record { budget = 10000000; quantum = 50; turns = None; save = None; trace = false }

-- a command and a file: the word behind the command is the file, whatever it is
abbrev pub AsksFor : List (List ℕ) → Request → Type 0
AsksFor words (Check file) = words ≡ codes "check" ∷ file ∷ []
AsksFor words (Run file options) = (words ≡ codes "run" ∷ file ∷ []) × (options ≡ defaults)

-- the words ask to run the file of this name
abbrev pub AsksToRun : List (List ℕ) → List ℕ → Type 0
AsksToRun words name = AsksFor words (Run name defaults)

-- the words ask to check it
abbrev pub AsksToCheck : List (List ℕ) → List ℕ → Type 0
AsksToCheck words name = AsksFor words (Check name)

-- any other list asks for nothing
abbrev pub AsksNothing : List (List ℕ) → Type 0
AsksNothing words = (request : Request) → AsksFor words request → ⊥
