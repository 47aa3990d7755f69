-- How the grammar builds a number's text (SLS 1.3.1): a beginning, digits and an end.
use Rattle.std.specs.Prelude.{◌≡◌, ◌⊎◌, Bool, true, false, ℕ, List, [], ◌++◌, codes}

-- what stands before the digits
abbrev pub IsBeginning : Bool → List ℕ → Type 0
IsBeginning false before = before ≡ []
IsBeginning true before = (before ≡ codes "0x") ⊎ (before ≡ codes "0X")

-- what stands after them
abbrev pub IsEnd : Bool → List ℕ → Type 0
IsEnd false after = after ≡ []
IsEnd true after = (after ≡ codes "L") ⊎ (after ≡ codes "l")

-- the text is a beginning, these digits and an end
pub record IsSpelled (text : List ℕ) (hex long : Bool) (ds : List ℕ) : Type 0 where
  pub before : List ℕ
  pub after : List ℕ
  pub begins : IsBeginning hex before
  pub ends : IsEnd long after
  pub whole : text ≡ before ++ ds ++ after
