-- What a node of a known form does with the value of a child.
use Rattle.std.proofs.Common.{◌≡◌, ℕ, ◌+◌, List, Option, Some, None, take, refl, sym, ap, ◌∙◌}
use Rattle.std.specs.Prelude.{option_map}
use Rattle.ty_prog.specs.Tree.{ExprLevel, ExprTree}
use Rattle.ty_prog.specs.Shape.{shape, expr_form, handler_form, to_one}
use Rattle.ty_prog.specs.declared.expr.Expr.{Expr, out-Expr, roll-Expr, out-roll-Expr}
use Rattle.ty_prog.specs.declared.catch.Catch.{Catch}
use Rattle.ty_prog.specs.declared.catch.Catch.TheOpen.{Expr-F}
use Rattle.sm_state.specs.declared.value.Value.{Value}
use Rattle.sm_rule.specs.Moves.{kept, expr_kept, received, expr_received, try_received, try_kept, handler_len}

pub received_of : (this : Value) (i : ℕ) (v : Value) (operands : List Value) (e whole : Expr) (l : ExprLevel) → e ≡ whole → roll-Expr l ≡ whole
    → received this i v (take (kept (shape (ExprTree e)) i) operands) (shape (ExprTree e)) ≡ expr_received this i v (take (expr_kept (expr_form handler_form l) i) operands) (expr_form handler_form l)
received_of this i v operands e whole l is rolls =
    ap (λ k. expr_received this i v (take (expr_kept (expr_form handler_form k) i) operands) (expr_form handler_form k)) (ap out-Expr (is ∙ sym rolls) ∙ out-roll-Expr l)

abbrev pub try_level : Expr → Option Catch → Option Expr → ExprLevel
try_level body handler last = Expr-F.Try body handler last

-- a `try`, whatever it has behind its body
pub try_received_of : (this : Value) (i : ℕ) (v : Value) (operands : List Value) (body : Expr) (handler : Option Catch) (last : Option Expr)
    → expr_received this i v (take (expr_kept (expr_form handler_form (try_level body handler last)) i) operands) (expr_form handler_form (try_level body handler last))
    ≡ try_received i v (take (try_kept (option_map handler_form handler) i) operands) (1 + handler_len (option_map handler_form handler)) (option_map to_one last)
try_received_of this i v operands body None None = refl
try_received_of this i v operands body None (Some l) = refl
try_received_of this i v operands body (Some h) None = refl
try_received_of this i v operands body (Some h) (Some l) = refl
