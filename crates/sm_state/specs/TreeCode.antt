-- For proofs only: trees told apart, by what stands at their roots.
use Rattle.std.specs.Prelude.{◌≡◌, ◌⊎◌, refl}
use Rattle.std.specs.Coded.{Coded, code_by, coded⊎}
use mathlib.Core.Logic.{inl, inr}
use Rattle.ty_prog.specs.declared.expr.Expr.{Expr}
use Rattle.ty_prog.specs.declared.case.Case.{Case}
use Rattle.ty_prog.specs.declared.pattern.Pattern.{Pattern}
use Rattle.ty_prog.specs.declared.class.Class.{Class}
use Rattle.ty_prog.specs.declared.stage.Stage.{Stage}
use Rattle.ty_prog.specs.contracts.expr.Expr as expr
use Rattle.ty_prog.specs.contracts.case.Case as case
use Rattle.ty_prog.specs.contracts.pattern.Pattern as pattern
use Rattle.ty_prog.specs.contracts.class.Class as class
use Rattle.ty_prog.specs.contracts.stage.Stage as stage
use Rattle.ty_prog.specs.Tree.{Tree, ExprTree, CaseTree, PatternTree, ConstructorTree, StageTree}

-- trees as a sum of the five kinds of roots
abbrev Sum : Type 0
Sum = Expr ⊎ (Case ⊎ (Pattern ⊎ (Class ⊎ Stage)))

-- a tree as such a sum
abbrev sum : Tree → Sum
sum (ExprTree e) = inl e
sum (CaseTree c) = inr (inl c)
sum (PatternTree p) = inr (inr (inl p))
sum (ConstructorTree c) = inr (inr (inr (inl c)))
sum (StageTree s) = inr (inr (inr (inr s)))

-- the tree of such a sum
abbrev tree : Sum → Tree
tree (inl e) = ExprTree e
tree (inr (inl c)) = CaseTree c
tree (inr (inr (inl p))) = PatternTree p
tree (inr (inr (inr (inl c)))) = ConstructorTree c
tree (inr (inr (inr (inr s)))) = StageTree s

pub tree_sum : (t : Tree) → tree (sum t) ≡ t
tree_sum (ExprTree e) = refl
tree_sum (CaseTree c) = refl
tree_sum (PatternTree p) = refl
tree_sum (ConstructorTree c) = refl
tree_sum (StageTree s) = refl

-- the code of trees, by that of the sum
abbrev pub coded_tree : Coded Tree
coded_tree =
    code_by Sum
    (coded⊎ expr.the_row.coded (coded⊎ case.the_row.coded (coded⊎ pattern.the_row.coded (coded⊎ class.the_row.coded stage.the_row.coded))))
    sum tree tree_sum
