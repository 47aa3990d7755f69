-- What single tokens are in trees of templates, and what a rule begins with.
use Rattle.std.specs.Prelude.{Bool, ◌||◌, Option, Some, None}
use Rattle.sl_text.specs.declared.span.Span.{Span}
use Rattle.sl_ast.specs.declared.token.Token.{Token}
use Rattle.sl_ast.specs.declared.template.MemberModifier.{MemberModifier}
use Rattle.sl_ast.specs.declared.template.MemberModifier.TheVariants as modifier
use Rattle.sl_ast.specs.declared.unit.ClassModifier.{ClassModifier}
use Rattle.sl_ast.specs.declared.unit.ClassModifier.TheVariants as class_modifier
use Rattle.sl_parse_expr.specs.declared.ahead.Ahead.{Ahead}
use Rattle.sl_parse_expr.specs.declared.ahead.Ahead.TheVariants as see
use Rattle.sl_parse_expr.specs.Ahead.{sort, same}
use Rattle.sl_parse_expr.specs.Starts.{begins_binding, begins_expr}

-- the modifier of a member that a word is
abbrev pub modifier_by : Ahead → Span → Option MemberModifier
modifier_by see.Override s = Some (modifier.Override s)
modifier_by see.Private s = Some (modifier.Private s)
modifier_by o s = None

-- `override` or `private`
unfoldable pub modifier_of : Token → Option MemberModifier
modifier_of t = modifier_by (sort t) t.span

-- the modifier of a class that a word is
abbrev pub class_modifier_by : Ahead → Span → Option ClassModifier
class_modifier_by see.Sealed s = Some (class_modifier.Sealed s)
class_modifier_by see.Abstract s = Some (class_modifier.Abstract s)
class_modifier_by o s = None

-- `sealed` or `abstract`
unfoldable pub class_modifier_of : Token → Option ClassModifier
class_modifier_of t = class_modifier_by (sort t) t.span

-- `override` or `private`
abbrev pub is_modifier : Ahead → Bool
is_modifier o = same see.Override o || same see.Private o

-- `sealed` or `abstract`
abbrev pub is_class_modifier : Ahead → Bool
is_class_modifier o = same see.Sealed o || same see.Abstract o

-- a definition of a member
abbrev pub begins_definition : Ahead → Bool
begins_definition o = is_modifier o || begins_binding o || same see.Lazy o || same see.Def o

-- a member of a template: a definition or an expression
abbrev pub begins_member : Ahead → Bool
begins_member o = begins_definition o || begins_expr o

-- a class, trait or object
abbrev pub begins_top : Ahead → Bool
begins_top o = is_class_modifier o || same see.Case o || same see.Class o || same see.Trait o || same see.Object o
