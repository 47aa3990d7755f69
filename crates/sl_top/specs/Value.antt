-- What a chain is worth, and how many parts it has.
use Rattle.std.specs.Prelude.{ℕ, ℤ, pos, ◌+◌, ◌*◌, List, [], ◌∷◌, ◌++◌, length, sum_by}
use Rattle.sl_num.specs.declared.int_op.IntOp.{IntOp}
use Rattle.sl_num.specs.Int.{int}
use Rattle.sl_top.specs.declared.operator.Operator.{Operator}
use Rattle.sl_top.specs.declared.operator.Operator.TheVariants as operator
use Rattle.sl_num.specs.declared.int_op.IntOp.TheVariants as operations
use Rattle.sl_top.specs.declared.chain.Term.{Term}
use Rattle.sl_top.specs.declared.chain.Chain.{Chain}

-- the operation of Int that an operator stands for
abbrev pub int_op : Operator → IntOp
int_op operator.Add = operations.Add
int_op operator.Sub = operations.Sub
int_op operator.Mul = operations.Mul

-- `+` or `-`
abbrev pub IsAdditive : Operator → Type 0
IsAdditive operator.Add = Unit {0}
IsAdditive operator.Sub = Unit {0}
IsAdditive operator.Mul = ⊥

-- an operator and the literal behind it
abbrev pub term : Operator → ℕ → Term
term op literal = record { op = op; literal = literal }

-- literals joined by `*` alone: what stands before the last one, times the literal behind it (SLS 6.12.3)
pub data Product : ℕ → List Term → ℤ → Type 0 where
  literal : {n : ℕ} → Product n [] (pos n)
  times : {n : ℕ} (before : List Term) (m : ℕ) {x : ℤ} → Product n before x
      → Product n (before ++ term operator.Mul m ∷ []) (int operations.Mul x (pos m))

-- a chain splits at its last `+` or `-`: what stands before it, and the product behind it (SLS 6.12.3)
pub data Value : ℕ → List Term → ℤ → Type 0 where
  product : {n : ℕ} {rest : List Term} {x : ℤ} → Product n rest x → Value n rest x
  additive : {n : ℕ} (before : List Term) (op : Operator) (m : ℕ) (after : List Term) (x y : ℤ)
      → IsAdditive op → Value n before x → Product m after y
      → Value n (before ++ term op m ∷ after) (int (int_op op) x y)

-- each chain's value, in order
abbrev pub Values : List Chain → List ℤ → Type 0
Values [] [] = Unit {0}
Values (c ∷ cs) (v ∷ vs) = Value c.first c.rest v × Values cs vs
Values [] (v ∷ vs) = ⊥
Values (c ∷ cs) [] = ⊥

-- how many literals and operators a chain has
abbrev pub size : Chain → ℕ
size c = 1 + 2 * length c.rest

-- how many steps its printing takes: one for each part, one for the printing of each, and the return
abbrev pub steps_of : List Chain → ℕ
steps_of chains = 1 + sum_by (λ c. size c + 1) chains
