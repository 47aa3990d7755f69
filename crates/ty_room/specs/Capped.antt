-- For proofs only.
-- Numbers as a program keeps them.
use Rattle.std.specs.Prelude.{ℕ, ◌≡◌, min}
use Rattle.ty_room.specs.declared.size.Size.{Size}

-- a number, or the largest that 32 bits hold
abbrev pub capped : ℕ → ℕ
capped n = min n 4294967295

-- a size that the program keeps stands for a true one
pub record IsSize (made true_size : Size) : Type 0 where
  pub value : made.value ≡ capped true_size.value
  pub test : made.test ≡ capped true_size.test
  pub fixed : made.fixed ≡ true_size.fixed
  pub tries : made.tries ≡ capped true_size.tries
  pub kept : made.kept ≡ capped true_size.kept
  pub entries : made.entries ≡ capped true_size.entries
  pub supers : made.supers ≡ capped true_size.supers
