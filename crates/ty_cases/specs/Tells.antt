-- Texts that tell whether something holds.
use Rattle.std.specs.Prelude.{◌≡◌, ℕ, Bool, List, codes, take, if◌then◌else◌}

-- an answer
abbrev pub told : Bool → List ℕ
told decided = if decided then codes "yes" else codes "no"

-- the text tells whether P holds: `yes`, or `no` and what else there is to say
pub record Tells (P : Type 0) (text : List ℕ) : Type 0 where
  pub holds : P → text ≡ codes "yes"
  pub fails : ¬ P → take 2 text ≡ codes "no"
