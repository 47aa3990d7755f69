-- Locals that are set first, one after another.
use Rattle.std.proofs.Common.{◌≡◌, ℕ, ◌+◌, ◌<◌, ◌≤◌, Bool, false, Option, Some, None, length, sym, subst, below_more}
use Rattle.std.specs.Prelude.{IsTrue}
use Rattle.ty_prog.specs.declared.class.Class.{Class}
use Rattle.ty_prog.specs.declared.method.Method.{Method}
use Rattle.ty_prog.specs.declared.expr.Expr.{Expr}
use Rattle.ty_prog.specs.Tree.{Tree, ExprTree, ConstructorTree}
use Rattle.ty_flow.specs.Uses.{passage}
use Rattle.ty_flow.specs.SetFirst.{AreSetFirst, BodyIsSetFirst, MethodIsSetFirst}

pub one_more_local : (given i : ℕ) (tree : Tree) → ((local : ℕ) → given ≤ local → local < i → (passage local tree).reads ≡ false)
    → (given ≤ i → (passage i tree).reads ≡ false) → (local : ℕ) → given ≤ local → local < i + 1 → (passage local tree).reads ≡ false
one_more_local given i tree so_far here local from below =
    below_more (λ k. given ≤ k → (passage k tree).reads ≡ false) i (λ k within start. so_far k start within) here local below from

abbrev pub Decides : Bool → Type 0 → Type 0
Decides answer P = (IsTrue answer → P) × (P → IsTrue answer)

pub body_decides : (method : Method) (body : Expr) (given : ℕ) (answer : Bool) → method.body ≡ Some body → given ≡ length method.params
    → Decides answer (AreSetFirst given method.locals (ExprTree body)) → Decides answer (MethodIsSetFirst method)
body_decides method body given answer is count decides =
    let P : ℕ → Type 0 = λ n. Decides answer (AreSetFirst n method.locals (ExprTree body)) in
    subst (λ (o : Option Expr). Decides answer (BodyIsSetFirst method o)) (sym is) (subst P count decides)

pub no_body_decides : (method : Method) → method.body ≡ None → MethodIsSetFirst method
no_body_decides method is = subst (λ (o : Option Expr). BodyIsSetFirst method o) (sym is) tt

pub constructor_decides : (class : Class) (given : ℕ) (answer : Bool) → given ≡ length class.params
    → Decides answer (AreSetFirst given class.locals (ConstructorTree class)) → Decides answer (AreSetFirst (length class.params) class.locals (ConstructorTree class))
constructor_decides class given answer count decides =
    let P : ℕ → Type 0 = λ n. Decides answer (AreSetFirst n class.locals (ConstructorTree class)) in
    subst P count decides
