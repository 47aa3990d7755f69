-- The code of a chain: by the splits of its value, each operator behind the code of its two sides.
use Rattle.std.specs.Prelude.{◌≡◌, ℕ, pos, List, [], ◌∷◌, ◌++◌, Option, Some, None}
use Rattle.sl_top.specs.declared.operator.Operator.{Operator}
use Rattle.sl_top.specs.declared.operator.Operator.TheVariants as operator
use Rattle.sl_top.specs.declared.chain.Term.{Term}
use Rattle.sl_top.specs.declared.chain.Chain.{Chain}
use Rattle.sl_top.specs.declared.code.Instruction.{Instruction}
use Rattle.sl_top.specs.declared.code.Instruction.TheVariants.{Push, Add, Sub, Mul, Print, Return}
use Rattle.sl_top.specs.Value.{IsAdditive, term}

-- the instruction of an operator
abbrev pub operation_of : Operator → Instruction
operation_of operator.Add = Add
operation_of operator.Sub = Sub
operation_of operator.Mul = Mul

-- the code of literals joined by `*` alone
pub data ProductCode : ℕ → List Term → List Instruction → Type 0 where
  literal : {n : ℕ} → ProductCode n [] (Push (pos n) ∷ [])
  times : {n : ℕ} (before : List Term) (m : ℕ) {x : List Instruction} → ProductCode n before x
      → ProductCode n (before ++ term operator.Mul m ∷ []) (x ++ (Push (pos m) ∷ Mul ∷ []))

-- the code of a chain: what stands before its last `+` or `-`, the product behind it, and the operator
pub data ChainCode : ℕ → List Term → List Instruction → Type 0 where
  product : {n : ℕ} {rest : List Term} {x : List Instruction} → ProductCode n rest x → ChainCode n rest x
  additive : {n : ℕ} (before : List Term) (op : Operator) (m : ℕ) (after : List Term) (x y : List Instruction)
      → IsAdditive op → ChainCode n before x → ProductCode m after y
      → ChainCode n (before ++ term op m ∷ after) (x ++ (y ++ operation_of op ∷ []))

-- the code that prints each chain, in order
abbrev pub PrintsCode : List Chain → List Instruction → Type 0
PrintsCode [] code = code ≡ []
PrintsCode (c ∷ cs) code =
    (one : List Instruction) × (others : List Instruction) × ChainCode c.first c.rest one × PrintsCode cs others
    × (code ≡ one ++ (Print ∷ others))

-- the code that prints each chain, and ends
abbrev pub ProgramCode : List Chain → List Instruction → Type 0
ProgramCode chains code = (prints : List Instruction) × PrintsCode chains prints × (code ≡ prints ++ Return ∷ [])

-- what still has to be emitted for an operator that waits
abbrev pub waiting_code : Option Operator → List Instruction
waiting_code None = []
waiting_code (Some op) = operation_of op ∷ []

-- what is emitted for a term while an operator waits
abbrev pub term_code : Operator → ℕ → Option Operator → List Instruction
term_code operator.Add m waiting = waiting_code waiting ++ Push (pos m) ∷ []
term_code operator.Sub m waiting = waiting_code waiting ++ Push (pos m) ∷ []
term_code operator.Mul m waiting = Push (pos m) ∷ Mul ∷ []

-- the operator that waits behind a term
abbrev pub waiting_after : Operator → Option Operator → Option Operator
waiting_after operator.Add waiting = Some operator.Add
waiting_after operator.Sub waiting = Some operator.Sub
waiting_after operator.Mul waiting = waiting
