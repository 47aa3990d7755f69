-- Trees of templates and of what stands in them, with the spans where they stand: from the first token to the end of
-- the last one.
use Rattle.std.specs.Prelude.{Bool, true, false, List, [], ◌∷◌, Option, Some, None}
use Rattle.sl_text.specs.declared.span.Span.{Span}
use Rattle.sl_ast.specs.declared.ident.Ident.{Ident}
use Rattle.sl_ast.specs.declared.type_tree.TypeTree.{TypeTree}
use Rattle.sl_ast.specs.declared.expr.Expr.{Expr}
use Rattle.sl_ast.specs.declared.args.ParArgs.{ParArgs}
use Rattle.sl_ast.specs.declared.definition.Def.{Def}
use Rattle.sl_ast.specs.declared.definition.Def.TheVariants as defs
use Rattle.sl_ast.specs.declared.definition.Param.{Param}
use Rattle.sl_ast.specs.declared.template.Template.{Template}
use Rattle.sl_ast.specs.declared.template.Parents.{Parents}
use Rattle.sl_ast.specs.declared.template.Member.{Member}
use Rattle.sl_ast.specs.declared.template.Member.TheVariants as members
use Rattle.sl_ast.specs.declared.template.MemberModifier.{MemberModifier}
use Rattle.sl_ast.specs.declared.template.MemberModifier.TheVariants as modifier
use Rattle.sl_ast.specs.declared.unit.TopDef.{TopDef}
use Rattle.sl_ast.specs.declared.unit.TopDef.TheVariants as tops
use Rattle.sl_ast.specs.declared.unit.ClassModifier.{ClassModifier}
use Rattle.sl_ast.specs.declared.unit.ClassModifier.TheVariants as class_modifier
use Rattle.sl_ast.specs.declared.unit.ClassParam.{ClassParam}
use Rattle.sl_ast.specs.declared.unit.ParamMember.{ParamMember}
use Rattle.sl_ast.specs.declared.unit.Params.{Params}
use Rattle.sl_ast.specs.declared.unit.Unit as file
use Rattle.sl_ast.specs.declared.binding.Binding.{Binding}
use Rattle.sl_parse_expr.specs.Spans.{join, expr_span, par_args_span, span_or, last_span}
use Rattle.sl_parse_expr.specs.PatternTrees.{type_span}

-- ---- definitions

-- a parameter of a method
abbrev pub param_tree : Ident → TypeTree → Param
param_tree x t = record { name = x; ty = t; span = join x.span (type_span t) }

-- a value: from `val` to its right side, its type or its name
abbrev pub val_tree : Span → Ident → Option TypeTree → Option Expr → Def
val_tree s x t e = defs.Val x t e (join s (span_or expr_span (span_or type_span x.span t) e))

-- a variable, from `var` on
abbrev pub var_tree : Span → Ident → Option TypeTree → Expr → Def
var_tree s x t e = defs.Var x t e (join s (expr_span e))

-- a lazy value, from `lazy` on
abbrev pub lazy_tree : Span → Ident → Option TypeTree → Expr → Def
lazy_tree s x t e = defs.Lazy x t e (join s (expr_span e))

-- a method: from `def` to its right side or its type
abbrev pub def_tree : Span → Ident → Option (List Param) → TypeTree → Option Expr → Def
def_tree s x ps t e = defs.Def x ps t e (join s (span_or expr_span (type_span t) e))

-- where a definition stands
abbrev pub def_span : Def → Span
def_span (defs.Val x t e s) = s
def_span (defs.Var x t e s) = s
def_span (defs.Lazy x t e s) = s
def_span (defs.Def x ps t e s) = s

-- ---- members

-- where a modifier of a member stands
abbrev pub modifier_span : MemberModifier → Span
modifier_span (modifier.Override s) = s
modifier_span (modifier.Private s) = s

-- where the first modifier stands, or what stands behind them
abbrev pub first_modifier : List MemberModifier → Span → Span
first_modifier [] s = s
first_modifier (m ∷ ms) s = modifier_span m

-- a definition with its modifiers
abbrev pub member_tree : List MemberModifier → Def → Member
member_tree ms d = members.Def ms d (join (first_modifier ms (def_span d)) (def_span d))

-- an expression as a member
abbrev pub expr_tree : Expr → Member
expr_tree e = members.Expr e

-- ---- templates

-- the parents of a template: the first with its arguments, and those behind `with`
abbrev pub parents_tree : Ident → Option ParArgs → List Ident → Parents
parents_tree x a xs = record { first = x; args = a; traits = xs }

-- where a name stands
abbrev pub name_span : Ident → Span
name_span x = x.span

-- where the parents end, or what stands before
abbrev pub parents_end : Span → Option Parents → Span
parents_end s None = s
parents_end s (Some p) = last_span name_span (span_or par_args_span p.first.span p.args) p.traits

-- the members of a body, if there is one
abbrev pub body_of : Option (List Member × Span) → Option (List Member)
body_of None = None
body_of (Some b) = Some b.0

-- where a body ends, or what stands before it
abbrev pub body_end : Span → Option (List Member × Span) → Span
body_end s None = s
body_end s (Some b) = b.1

-- a template behind what ends there, and where it ends
abbrev pub template_tree : Span → Option Parents → Option (List Member × Span) → Template × Span
template_tree s p b = (record { parents = p; body = body_of b }, body_end (parents_end s p) b)

-- ---- classes, traits, objects

-- the member that a parameter of a class is
abbrev pub param_member : Bool → Binding → ParamMember
param_member own b = record { is_private = own; binding = b }

-- which member a parameter is, and where it begins
abbrev pub begun : Option (ParamMember × Span) → Span → Option ParamMember × Span
begun None s = (None, s)
begun (Some m) s = (Some m.0, m.1)

-- a parameter of a class, from its first word on
abbrev pub class_param_tree : Option (ParamMember × Span) → Ident → TypeTree → ClassParam
class_param_tree m x t = record { member = (begun m x.span).0; name = x; ty = t; span = join (begun m x.span).1 (type_span t) }

-- the parameters of a class, from parenthesis to parenthesis
abbrev pub params_tree : Span → List ClassParam → Span → Params
params_tree s xs t = record { params = xs; span = join s t }

-- where the parameters of a class stand
abbrev pub params_span : Params → Span
params_span ps = ps.span

-- where a modifier of a class stands
abbrev pub class_modifier_span : ClassModifier → Span
class_modifier_span (class_modifier.Sealed s) = s
class_modifier_span (class_modifier.Abstract s) = s

-- where the first modifier of a class stands, or what stands behind them
abbrev pub first_class_modifier : List ClassModifier → Span → Span
first_class_modifier [] s = s
first_class_modifier (m ∷ ms) s = class_modifier_span m

-- where `case` stands, or the word behind it
abbrev pub or_else : Span → Option Span → Span
or_else s None = s
or_else s (Some c) = c

-- `case` stands there
abbrev pub is_there : Option Span → Bool
is_there None = false
is_there (Some c) = true

-- there is a modifier
abbrev pub some : {A : Type 0} → List A → Bool
some [] = false
some (m ∷ ms) = true

-- a class, from its first modifier, `case` or `class` on
abbrev pub class_tree : List ClassModifier → Option Span → Span → Ident → Option Params → Template × Span → TopDef
class_tree ms c s x ps t = tops.Class ms (is_there c) x ps t.0 (join (first_class_modifier ms (or_else s c)) t.1)

-- a trait, from `sealed` or `trait` on
abbrev pub trait_tree : List ClassModifier → Span → Ident → Template × Span → TopDef
trait_tree ms s x t = tops.Trait (some ms) x t.0 (join (first_class_modifier ms s) t.1)

-- an object, from `object` on
abbrev pub object_tree : Span → Ident → Template × Span → TopDef
object_tree s x t = tops.Object x t.0 (join s t.1)

-- the tree of a file
abbrev pub unit_tree : List TopDef → file.Unit
unit_tree xs = record { defs = xs }
