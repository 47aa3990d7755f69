-- Whether the last tokens of a member are a bare `new`, behind which a brace would be a class body (SLS 5.1.1).
use Rattle.std.specs.Prelude.{Bool, false, Option, Some, None}
use Rattle.sl_ast.specs.declared.expr.Expr.{Expr}
use Rattle.sl_ast.specs.declared.definition.Def.{Def}
use Rattle.sl_ast.specs.declared.definition.Def.TheVariants as defs
use Rattle.sl_ast.specs.declared.template.Member.{Member}
use Rattle.sl_ast.specs.declared.template.Member.TheVariants as members
use Rattle.sl_ast.specs.declared.unit.TopDef.{TopDef}
use Rattle.sl_parse_expr.specs.LastNew.{ends_in_new}

-- an optional right side ends in a bare `new`
abbrev pub value_ends_in_new : Option Expr → Bool
value_ends_in_new (Some e) = ends_in_new e
value_ends_in_new None = false

-- a definition does
abbrev pub def_ends_in_new : Def → Bool
def_ends_in_new (defs.Val x t e s) = value_ends_in_new e
def_ends_in_new (defs.Var x t e s) = ends_in_new e
def_ends_in_new (defs.Lazy x t e s) = ends_in_new e
def_ends_in_new (defs.Def x p t e s) = value_ends_in_new e

-- a member of a template does
abbrev pub member_ends_in_new : Member → Bool
member_ends_in_new (members.Def m d s) = def_ends_in_new d
member_ends_in_new (members.Expr e) = ends_in_new e

-- a class, trait or object ends in a brace, a type or arguments of parents
abbrev pub never : TopDef → Bool
never x = false
