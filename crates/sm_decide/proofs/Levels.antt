-- What a node of a known form does.
use Rattle.std.proofs.Common.{◌≡◌, ℕ, List, Option, Some, None, refl, sym, ap, ◌∙◌}
use Rattle.std.specs.Prelude.{option_map}
use Rattle.ty_prog.specs.Tree.{ExprLevel}
use Rattle.ty_prog.specs.Shape.{expr_form, handler_form, to_one}
use Rattle.ty_prog.specs.declared.expr.Expr.{Expr, out-Expr, out-roll-Expr}
use Rattle.ty_prog.specs.declared.expr.Expr.TheVariants as expr
use Rattle.ty_prog.specs.declared.catch.Catch.TheOpen.{Expr-F}
use Rattle.ty_prog.specs.declared.prim_op.PrimOp.{PrimOp}
use Rattle.sm_rule.specs.declared.moves.Move.{Move}
use Rattle.sm_rule.specs.Moves.{Sight, expr_begun, printing}

pub begun_of : (s : Sight) (e whole : Expr) (l : ExprLevel) → e ≡ whole → out-Expr whole ≡ l → expr_begun s (expr_form handler_form (out-Expr e)) ≡ expr_begun s (expr_form handler_form l)
begun_of s e whole l is level =
    ap (λ x. expr_begun s (expr_form handler_form (out-Expr x))) is
    ∙ ap (λ k. expr_begun s (expr_form handler_form k)) level

pub prim_level : (op : PrimOp) (args : List Expr) → out-Expr (expr.Prim op args) ≡ Expr-F.Prim op args
prim_level op args = ap out-Expr (sym (expr.rolls-Prim op args)) ∙ out-roll-Expr (Expr-F.Prim op args)

pub new_level : (class : ℕ) (args : List Expr) → out-Expr (expr.New class args) ≡ Expr-F.New class args
new_level class args = ap out-Expr (sym (expr.rolls-New class args)) ∙ out-roll-Expr (Expr-F.New class args)

pub println_level : (e : Option Expr) → out-Expr (expr.Println e) ≡ Expr-F.Println e
println_level e = ap out-Expr (sym (expr.rolls-Println e)) ∙ out-roll-Expr (Expr-F.Println e)

pub super_call_level : (after : ℕ) (name : List ℕ) (args : List Expr) → out-Expr (expr.SuperCall after name args) ≡ Expr-F.SuperCall after name args
super_call_level after name args = ap out-Expr (sym (expr.rolls-SuperCall after name args)) ∙ out-roll-Expr (Expr-F.SuperCall after name args)

pub static_call_level : (class method : ℕ) (args : List Expr) → out-Expr (expr.StaticCall class method args) ≡ Expr-F.StaticCall class method args
static_call_level class method args = ap out-Expr (sym (expr.rolls-StaticCall class method args)) ∙ out-roll-Expr (Expr-F.StaticCall class method args)

pub object_get_level : (class : ℕ) → out-Expr (expr.ObjectGet class) ≡ Expr-F.ObjectGet class
object_get_level class = ap out-Expr (sym (expr.rolls-ObjectGet class)) ∙ out-roll-Expr (Expr-F.ObjectGet class)

pub module_get_level : (class : ℕ) → out-Expr (expr.ModuleGet class) ≡ Expr-F.ModuleGet class
module_get_level class = ap out-Expr (sym (expr.rolls-ModuleGet class)) ∙ out-roll-Expr (Expr-F.ModuleGet class)

abbrev pub println : Option Expr → ExprLevel
println e = Expr-F.Println e

-- a line is printed at once where it has no text to be computed
pub printing_of : (s : Sight) (e : Option Expr) → expr_begun s (expr_form handler_form (println e)) ≡ printing (option_map to_one e)
printing_of s None = refl
printing_of s (Some e) = refl
