-- What a level of a tree sizes to, where a part may be missing.
use Rattle.std.proofs.Common.{◌≡◌, ◌∙◌, ap, sym, refl, Option, Some, None}
use Rattle.std.specs.Prelude.{option_map}
use Rattle.ty_prog.specs.declared.expr.Expr.{Expr, roll-Expr}
use Rattle.ty_prog.specs.declared.expr.Expr.TheVariants as expr
use Rattle.ty_prog.specs.declared.catch.Catch.{Catch}
use Rattle.ty_prog.specs.declared.case.Case.{Case, out-Case}
use Rattle.ty_prog.specs.declared.pattern.Pattern.{Pattern}
use Rattle.ty_prog.specs.declared.catch.Catch.TheOpen.{Expr-F}
use Rattle.ty_prog.specs.Tree.{ExprLevel, CaseLevel}
use Rattle.ty_prog.specs.declared.catch.Catch.TheFolds.{map-Expr, map-Case, fold-roll-Expr, fold_out-Case}
use Rattle.ty_room.specs.declared.ahead.Ahead.{Ahead}
use Rattle.ty_room.specs.declared.size.Size.{Size}
use Rattle.ty_room.specs.Numbers.{form}
use Rattle.ty_room.specs.Sizing.{nothing, beside, node_size, trying, with_optional, with_handler, with_finally, case_size, handler_step, expr_step, pattern_step, case_step, expr_size, case_sizes, pattern_size, handler_size}

rolled : (ahead : Ahead) (level : ExprLevel) → expr_size ahead (roll-Expr level)
    ≡ expr_step ahead (map-Expr Catch Expr Pattern Case Size Size Size Size (handler_size ahead) (expr_size ahead) (pattern_size ahead) (case_sizes ahead) level)
rolled ahead = fold-roll-Expr Size Size Size Size handler_step (expr_step ahead) pattern_step case_step

pub println_is : (ahead : Ahead) (of : Option Expr) → expr_size ahead (expr.Println of) ≡ node_size (form 14 0) (with_optional nothing (option_map (expr_size ahead) of))
println_is ahead None = ap (expr_size ahead) (sym (expr.rolls-Println None)) ∙ rolled ahead (Expr-F.Println None)
println_is ahead (Some of) = ap (expr_size ahead) (sym (expr.rolls-Println (Some of))) ∙ rolled ahead (Expr-F.Println (Some of))

pub try_is : (ahead : Ahead) (body : Expr) (handler : Option Catch) (last : Option Expr) → expr_size ahead (expr.Try body handler last)
    ≡ trying (with_finally (with_handler ahead (beside nothing (expr_size ahead body)) (option_map (handler_size ahead) handler)) (option_map (expr_size ahead) last))
try_is ahead body None None = ap (expr_size ahead) (sym (expr.rolls-Try body None None)) ∙ rolled ahead (Expr-F.Try body None None)
try_is ahead body None (Some last) = ap (expr_size ahead) (sym (expr.rolls-Try body None (Some last))) ∙ rolled ahead (Expr-F.Try body None (Some last))
try_is ahead body (Some handler) None = ap (expr_size ahead) (sym (expr.rolls-Try body (Some handler) None)) ∙ rolled ahead (Expr-F.Try body (Some handler) None)
try_is ahead body (Some handler) (Some last) =
    ap (expr_size ahead) (sym (expr.rolls-Try body (Some handler) (Some last))) ∙ rolled ahead (Expr-F.Try body (Some handler) (Some last))

-- a case whose parts are sized, with a guard
abbrev guarded : CaseLevel → Option Expr → CaseLevel
guarded level guard = record { pattern = level.pattern; guard = guard; body = level.body }

guard_is : (ahead : Ahead) (level : CaseLevel) (guard : Option Expr)
    → case_step (map-Case Catch Expr Pattern Case Size Size Size Size (handler_size ahead) (expr_size ahead) (pattern_size ahead) (case_sizes ahead) (guarded level guard))
    ≡ case_size (pattern_size ahead level.pattern) (option_map (expr_size ahead) guard) (expr_size ahead level.body)
guard_is ahead level None = refl
guard_is ahead level (Some guard) = refl

pub case_is : (ahead : Ahead) (c : Case) → case_sizes ahead c
    ≡ case_size (pattern_size ahead (out-Case c).pattern) (option_map (expr_size ahead) (out-Case c).guard) (expr_size ahead (out-Case c).body)
case_is ahead c =
    fold_out-Case Size Size Size Size handler_step (expr_step ahead) pattern_step case_step c
    ∙ guard_is ahead (out-Case c) (out-Case c).guard
