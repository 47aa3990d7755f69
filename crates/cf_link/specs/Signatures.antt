-- The parameters of a method's descriptor, behind its `(`.
use Rattle.std.specs.Prelude.{◌≡◌, ◌≢◌, ℕ, List, ◌∷◌, ◌++◌}
use Rattle.cf_link.specs.Descriptors.{AreTypes}
use Rattle.cf_link.specs.declared.value_kind.ValueKind.{ValueKind}

-- types of these kinds, `)`, and what stands behind it
pub record AreParameters (bytes : List ℕ) (kinds : List ValueKind) (after : List ℕ) : Type 0 where
  pub types : List ℕ
  pub are : AreTypes types kinds
  pub text : bytes ≡ types ++ 41 ∷ after

-- no types before a `)`
abbrev pub NoParameters : List ℕ → Type 0
NoParameters bytes = (types : List ℕ) (kinds : List ValueKind) (after : List ℕ) → AreTypes types kinds → bytes ≢ types ++ 41 ∷ after
