-- The types of the values of a `try` are those of its body and of its handler.
use Rattle.std.proofs.Common.{◌≡◌, ◌∙◌, ap, sym, ℕ, List, ◌++◌, Option, Some, None, refl}
use Rattle.ty_prog.specs.declared.program.Program.{Program}
use Rattle.ty_prog.specs.declared.expr.Expr.{Expr, roll-Expr}
use Rattle.ty_prog.specs.declared.catch.Catch.{Catch}
use Rattle.ty_prog.specs.declared.case.Case.{Case}
use Rattle.ty_prog.specs.declared.pattern.Pattern.{Pattern}
use Rattle.ty_prog.specs.declared.ty.Ty.{Ty}
use Rattle.ty_prog.specs.declared.expr.Expr.TheVariants as expr
use Rattle.ty_prog.specs.declared.catch.Catch.TheOpen.{Expr-F}
use Rattle.ty_prog.specs.declared.catch.Catch.TheFolds.{map-Expr, fold-roll-Expr}
use Rattle.ty_prog.specs.Tree.{ExprLevel}
use Rattle.ty_typed.specs.Types.{Asks, types_of, asks, handler_step, types_step, pattern_step, case_step}
use Rattle.ty_typed.specs.Parts.{types_of_case, types_of_catch, types_of_handler}

module _ (p : Program) (this : Option ℕ) (locals : List Ty) where
  abbrev parts_types : ExprLevel → Expr-F (List Ty) (List Ty) Asks (List Ty)
  parts_types = map-Expr Catch Expr Pattern Case (List Ty) (List Ty) Asks (List Ty) (types_of_catch p this locals) (types_of p this locals) (asks p this locals) (types_of_case p this locals)

  rolled : (level : ExprLevel) → types_of p this locals (roll-Expr level) ≡ types_step p this locals (parts_types level)
  rolled = fold-roll-Expr (List Ty) (List Ty) Asks (List Ty) (handler_step p this locals) (types_step p this locals) (pattern_step p this locals) (case_step p this locals)

  tried_parts : (body : Expr) (handler : Option Catch) (last : Option Expr) → types_step p this locals (parts_types (Expr-F.Try body handler last))
      ≡ types_of p this locals body ++ types_of_handler p this locals handler
  tried_parts body None None = refl
  tried_parts body None (Some last) = refl
  tried_parts body (Some handler) None = refl
  tried_parts body (Some handler) (Some last) = refl

  pub try_types : (body : Expr) (handler : Option Catch) (last : Option Expr) → types_of p this locals (expr.Try body handler last)
      ≡ types_of p this locals body ++ types_of_handler p this locals handler
  try_types body handler last =
      ap (types_of p this locals) (sym (expr.rolls-Try body handler last)) ∙ rolled (Expr-F.Try body handler last) ∙ tried_parts body handler last
