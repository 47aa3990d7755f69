-- What a sink gains: its bytes where it tells them. It tells before exactly where it tells after.
use Rattle.std.specs.Prelude.{◌≡◌, ℕ, List, ◌++◌, Option}
use Rattle.std.specs.Option.{option_map}

-- the piece stands after what was held
abbrev pub Gains : Option (List ℕ) → List ℕ → Option (List ℕ) → Type 0
Gains old piece new = new ≡ option_map (λ held. held ++ piece) old

-- some front of the piece stands after what was held
pub record GainsFront (old : Option (List ℕ)) (piece : List ℕ) (new : Option (List ℕ)) : Type 0 where
  pub front : List ℕ
  pub back : List ℕ
  pub joined : front ++ back ≡ piece
  pub gained : Gains old front new
