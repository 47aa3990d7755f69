-- The rules of files, templates and members as readers (SLS 4, 5, 9), over expressions to a depth.
use Rattle.std.specs.Prelude.{ℕ, Bool, true, false, ◌&&◌, List, [], ◌∷◌, Option, Some, None, Ok, Err, if◌then◌else◌}
use Rattle.sl_text.specs.declared.span.Span.{Span}
use Rattle.sl_ast.specs.declared.token.Token.{Token}
use Rattle.sl_ast.specs.declared.ident.Ident.{Ident}
use Rattle.sl_ast.specs.declared.type_tree.TypeTree.{TypeTree}
use Rattle.sl_ast.specs.declared.expr.Expr.{Expr}
use Rattle.sl_ast.specs.declared.pattern.Pattern.{Pattern}
use Rattle.sl_ast.specs.declared.args.ParArgs.{ParArgs}
use Rattle.sl_ast.specs.declared.definition.Def.{Def}
use Rattle.sl_ast.specs.declared.definition.Param.{Param}
use Rattle.sl_ast.specs.declared.template.Template.{Template}
use Rattle.sl_ast.specs.declared.template.Parents.{Parents}
use Rattle.sl_ast.specs.declared.template.Member.{Member}
use Rattle.sl_ast.specs.declared.template.MemberModifier.{MemberModifier}
use Rattle.sl_ast.specs.declared.unit.TopDef.{TopDef}
use Rattle.sl_ast.specs.declared.unit.ClassModifier.{ClassModifier}
use Rattle.sl_ast.specs.declared.unit.ClassModifier.TheVariants as words
use Rattle.sl_ast.specs.declared.unit.ClassParam.{ClassParam}
use Rattle.sl_ast.specs.declared.unit.ParamMember.{ParamMember}
use Rattle.sl_ast.specs.declared.unit.Params.{Params}
use Rattle.sl_ast.specs.declared.unit.Unit as file
use Rattle.sl_parse_expr.specs.declared.ahead.Ahead.{Ahead}
use Rattle.sl_parse_expr.specs.declared.ahead.Ahead.TheVariants as see
use Rattle.sl_parse_expr.specs.Ahead.{same}
use Rattle.sl_parse_expr.specs.Tokens.{separates}
use Rattle.sl_parse_expr.specs.Starts.{begins_binding}
use Rattle.sl_parse_expr.specs.Reading.{Outcome, Reader, ◌>>=◌, ◌>>◌, pure, one, expect, hold, absorb, look, choose, option, fold, clean, if_clean}
use Rattle.sl_parse_tmpl.specs.LastNew.{member_ends_in_new}
use Rattle.sl_parse_expr.specs.Rules.{behind_item, added, name, binding, separator, type_tree, par_args, at_comma, at_item, add_item}
use Rattle.sl_parse_expr.specs.Levels as levels
use Rattle.sl_parse_expr.specs.PatternRules as patterns
use Rattle.sl_parse_tmpl.specs.Words.{modifier_of, class_modifier_of, is_modifier, is_class_modifier, begins_definition, begins_member, begins_top}
use Rattle.sl_parse_tmpl.specs.Trees.{param_tree, val_tree, var_tree, lazy_tree, def_tree, member_tree, expr_tree, parents_tree, template_tree, param_member, class_param_tree, params_tree, params_span, class_tree, trait_tree, object_tree, unit_tree}
use Rattle.sl_parse_expr.specs.Spans.{span_or}

-- ---- types and parameters

-- ':' Type
unfoldable pub typed : Reader TypeTree
typed = expect see.Colon >> type_tree

-- ':' Type, as a type that is there
unfoldable pub some_type : Reader (Option TypeTree)
some_type = typed >>= λ t. pure (Some t)

-- [':' Type]
unfoldable pub optional_type : Reader (Option TypeTree)
optional_type = option (same see.Colon) some_type None

-- id ':' Type
unfoldable pub param : Reader Param
param = name >>= λ x. typed >>= λ t. pure (param_tree x t)

-- ',' id ':' Type
unfoldable pub next_param : Reader Param
next_param = expect see.Comma >> param

-- {',' id ':' Type}, behind these parameters
unfoldable pub more_params : List Param → Reader (List Param)
more_params xs = fold (clean at_comma) next_param added xs

-- ')' of an empty list of parameters
unfoldable pub no_params : Reader (Option (List Param))
no_params = expect see.CloseParen >> pure (Some [])

-- id ':' Type {',' id ':' Type} ')'
unfoldable pub some_params : Reader (Option (List Param))
some_params = param >>= λ x. more_params (x ∷ []) >>= λ xs. expect see.CloseParen >> pure (Some xs)

-- '(' [id ':' Type {',' id ':' Type}] ')'
unfoldable pub params : Reader (Option (List Param))
params = expect see.OpenParen >> choose (same see.CloseParen) no_params some_params

-- ['(' [id ':' Type {',' id ':' Type}] ')']
unfoldable pub optional_params : Reader (Option (List Param))
optional_params = option (same see.OpenParen) params None

-- ---- parameters of classes

-- 'private' ('val' | 'var'), and where it begins
unfoldable pub private_member : Reader (Option (ParamMember × Span))
private_member = expect see.Private >>= λ s. binding >>= λ b. pure (Some (param_member true b.0, s))

-- 'val' | 'var', and where it stands
unfoldable pub open_member : Reader (Option (ParamMember × Span))
open_member = binding >>= λ b. pure (Some (param_member false b.0, b.1))

-- id ':' Type, behind the words that make a parameter a member
unfoldable pub plain_param : Option (ParamMember × Span) → Reader ClassParam
plain_param m = name >>= λ x. typed >>= λ t. pure (class_param_tree m x t)

-- 'private' ('val' | 'var') id ':' Type
unfoldable pub private_param : Reader ClassParam
private_param = private_member >>= plain_param

-- ('val' | 'var') id ':' Type
unfoldable pub open_param : Reader ClassParam
open_param = open_member >>= plain_param

-- ClassParam ::= [['private'] ('val' | 'var')] id ':' Type
unfoldable pub class_param : Reader ClassParam
class_param = choose (same see.Private) private_param (choose begins_binding open_param (plain_param None))

-- ',' ClassParam
unfoldable pub next_class_param : Reader ClassParam
next_class_param = expect see.Comma >> class_param

-- {',' ClassParam}, behind these parameters
unfoldable pub more_class_params : List ClassParam → Reader (List ClassParam)
more_class_params xs = fold (clean at_comma) next_class_param added xs

-- ')' of an empty list of parameters, and where it stands
unfoldable pub no_class_params : Reader (List ClassParam × Span)
no_class_params = expect see.CloseParen >>= λ s. pure ([], s)

-- ClassParam {',' ClassParam} ')', and where the parenthesis stands
unfoldable pub some_class_params : Reader (List ClassParam × Span)
some_class_params = class_param >>= λ x. more_class_params (x ∷ []) >>= λ xs. expect see.CloseParen >>= λ s. pure (xs, s)

-- Params ::= '(' [ClassParam {',' ClassParam}] ')'
unfoldable pub class_params : Reader (Option Params)
class_params = expect see.OpenParen >>= λ s. choose (same see.CloseParen) no_class_params some_class_params >>= λ xs. pure (Some (params_tree s xs.0 xs.1))

-- [Params]
unfoldable pub optional_class_params : Reader (Option Params)
optional_class_params = option (same see.OpenParen) class_params None

-- ---- modifiers

-- the list of modifiers goes on: a modifier of a member is ahead
abbrev pub at_modifier : List MemberModifier → Ahead → Bool
at_modifier _ o = is_modifier o

-- 'override' | 'private'
unfoldable pub modifier : Reader MemberModifier
modifier = one modifier_of

-- {'override' | 'private'}
unfoldable pub modifiers : Reader (List MemberModifier)
modifiers = fold (clean at_modifier) modifier added []

-- the list of modifiers goes on: a modifier of a class is ahead
abbrev pub at_class_modifier : List ClassModifier → Ahead → Bool
at_class_modifier _ o = is_class_modifier o

-- 'sealed' | 'abstract'
unfoldable pub class_modifier : Reader ClassModifier
class_modifier = one class_modifier_of

-- {'sealed' | 'abstract'}
unfoldable pub class_words : Reader (List ClassModifier)
class_words = fold (clean at_class_modifier) class_modifier added []

-- the list of parents goes on: `with` is ahead
abbrev pub at_with : List Ident → Ahead → Bool
at_with _ o = same see.With o

-- ---- parts without expressions

-- 'with' id
unfoldable pub next_trait : Reader Ident
next_trait = expect see.With >> name

-- {'with' id}
unfoldable pub traits : Reader (List Ident)
traits = fold (clean at_with) next_trait added []

-- 'case', and where it stands
unfoldable pub some_case : Reader (Option Span)
some_case = expect see.Case >>= λ s. pure (Some s)

-- ['case']
unfoldable pub optional_case : Reader (Option Span)
optional_case = option (same see.Case) some_case None

-- nothing or one `sealed` stands before a trait
abbrev pub may_be_trait : List ClassModifier → Bool
may_be_trait [] = true
may_be_trait (words.Sealed s ∷ []) = true
may_be_trait ms = false

-- nothing stands before an object
abbrev pub may_be_object : List ClassModifier → Bool
may_be_object [] = true
may_be_object ms = false

-- a trait is ahead, and these modifiers may stand before it
abbrev pub at_trait : List ClassModifier → Ahead → Bool
at_trait ms o = same see.Trait o && may_be_trait ms

-- an object is ahead, and these modifiers may stand before it
abbrev pub at_object : List ClassModifier → Ahead → Bool
at_object ms o = same see.Object o && may_be_object ms

-- a separator between members, which is no member
unfoldable pub member_apart : Reader (Option (Member × Bool))
member_apart = separator >>= λ _. pure None

-- a separator between definitions, which is no definition
unfoldable pub top_apart : Reader (Option (TopDef × Bool))
top_apart = separator >>= λ _. pure None

-- nothing is held and no token is left
abbrev pub over_by : List Token → List Token → Outcome (Unit {0})
over_by [] [] = Ok (tt, ([], []))
over_by held ts = Err (record { deep = false; at = ts })

-- that nothing is left
unfoldable pub over : Reader (Unit {0})
over s = over_by s.0 s.1

-- ---- over readers of the expressions and patterns inside

module _ (expr : Reader Expr) (pattern : Reader Pattern) where
  -- ---- members

  -- '=' Expr
  unfoldable pub value : Reader Expr
  value = expect see.Equals >> expr

  -- '=' Expr, as a right side that is there
  unfoldable pub some_value : Reader (Option Expr)
  some_value = value >>= λ e. pure (Some e)

  -- ['=' Expr]
  unfoldable pub optional_value : Reader (Option Expr)
  optional_value = option (same see.Equals) some_value None

  -- 'val' id [':' Type] ['=' Expr]
  unfoldable pub val_def : Reader Def
  val_def = expect see.Val >>= λ s. name >>= λ x. optional_type >>= λ t. optional_value >>= λ e. pure (val_tree s x t e)

  -- 'var' id [':' Type] '=' Expr
  unfoldable pub var_def : Reader Def
  var_def = expect see.Var >>= λ s. name >>= λ x. optional_type >>= λ t. value >>= λ e. pure (var_tree s x t e)

  -- 'lazy' 'val' id [':' Type] '=' Expr
  unfoldable pub lazy_def : Reader Def
  lazy_def = expect see.Lazy >>= λ s. expect see.Val >> (name >>= λ x. optional_type >>= λ t. value >>= λ e. pure (lazy_tree s x t e))

  -- 'def' id ['(' [id ':' Type {',' id ':' Type}] ')'] ':' Type ['=' Expr]
  unfoldable pub def_def : Reader Def
  def_def = expect see.Def >>= λ s. name >>= λ x. optional_params >>= λ ps. typed >>= λ t. optional_value >>= λ e. pure (def_tree s x ps t e)

  -- Def, by the word with which it begins (SLS 4)
  unfoldable pub definition : Reader Def
  definition = choose (same see.Val) val_def (choose (same see.Var) var_def (choose (same see.Lazy) lazy_def def_def))

  -- {'override' | 'private'} Def
  unfoldable pub member_def : Reader Member
  member_def = modifiers >>= λ ms. definition >>= λ d. pure (member_tree ms d)

  -- Expr, as a member
  unfoldable pub member_expr : Reader Member
  member_expr = expr >>= λ e. pure (expr_tree e)

  -- Member ::= {'override' | 'private'} Def | Expr
  unfoldable pub member : Reader Member
  member = choose begins_definition member_def member_expr

  -- a member, and whether nothing was held behind it
  unfoldable pub member_item : Reader (Option (Member × Bool))
  member_item = member >>= λ x. behind_item (member_ends_in_new x) >>= λ c. pure (Some (x, c))

  -- a member, or a separator between members
  unfoldable pub body_item : Reader (Option (Member × Bool))
  body_item = choose separates member_apart member_item

  -- Seq(Member)
  unfoldable pub members : Reader (Bool × List Member)
  members = fold (clean (at_item begins_member)) body_item add_item (true, [])

  -- ---- templates

  -- '{' Seq(Member) '}'
  unfoldable pub braces : Reader (List Member × Span)
  braces = expect see.OpenBrace >> (members >>= λ s. expect see.CloseBrace >>= λ t. pure (s.1, t))

  -- '{' Seq(Member) '}', as a body that is there; what was held goes away
  unfoldable pub some_body : Reader (Option (List Member × Span))
  some_body = absorb >> (braces >>= λ b. pure (Some b))

  -- behind a line end that is held
  unfoldable pub behind_line : Reader (Option (List Member × Span))
  behind_line = choose (same see.OpenBrace) some_body (pure None)

  -- a body by the token ahead: a brace, or one line end with a brace behind it
  abbrev pub body_by : Ahead → List Token → Reader (Option (List Member × Span))
  body_by o held = if same see.OpenBrace o then some_body else if if_clean (same see.Newline) held o then hold behind_line else pure None

  -- [[nl] '{' Seq(Member) '}']
  unfoldable pub body : Reader (Option (List Member × Span))
  body = look body_by

  -- ParArgs, as arguments that are there
  unfoldable pub some_args : Reader (Option ParArgs)
  some_args = par_args expr pattern >>= λ a. pure (Some a)

  -- [ParArgs]
  unfoldable pub optional_args : Reader (Option ParArgs)
  optional_args = option (same see.OpenParen) some_args None

  -- 'extends' id [ParArgs] {'with' id}
  unfoldable pub parents : Reader (Option Parents)
  parents = expect see.Extends >> (name >>= λ x. optional_args >>= λ a. traits >>= λ xs. pure (Some (parents_tree x a xs)))

  -- ['extends' id [ParArgs] {'with' id}]
  unfoldable pub optional_parents : Reader (Option Parents)
  optional_parents = option (same see.Extends) parents None

  -- Template ::= ['extends' id [ParArgs] {'with' id}] [[nl] '{' Seq(Member) '}']
  unfoldable pub template : Span → Reader (Template × Span)
  template s = optional_parents >>= λ p. body >>= λ b. pure (template_tree s p b)

  -- ---- classes, traits, objects

  -- ['case'] 'class' id [Params] Template
  unfoldable pub class_def : List ClassModifier → Reader TopDef
  class_def ms = optional_case >>= λ c. expect see.Class >>= λ s. name >>= λ x. optional_class_params >>= λ ps. template (span_or params_span x.span ps) >>= λ t. pure (class_tree ms c s x ps t)

  -- 'trait' id Template
  unfoldable pub trait_def : List ClassModifier → Reader TopDef
  trait_def ms = expect see.Trait >>= λ s. name >>= λ x. template x.span >>= λ t. pure (trait_tree ms s x t)

  -- 'object' id Template
  unfoldable pub object_def : Reader TopDef
  object_def = expect see.Object >>= λ s. name >>= λ x. template x.span >>= λ t. pure (object_tree s x t)

  -- what stands behind modifiers: a trait or an object, where these may be, else a class
  unfoldable pub behind_modifiers : List ClassModifier → Reader TopDef
  behind_modifiers ms = choose (at_trait ms) (trait_def ms) (choose (at_object ms) object_def (class_def ms))

  -- TopDef ::= {'sealed' | 'abstract'} ['case'] 'class' id [Params] Template | ['sealed'] 'trait' id Template
  --          | 'object' id Template
  unfoldable pub top_def : Reader TopDef
  top_def = class_words >>= behind_modifiers

  -- a class, trait or object, and whether nothing was held behind it
  unfoldable pub top_item : Reader (Option (TopDef × Bool))
  top_item = top_def >>= λ x. absorb >>= λ c. pure (Some (x, c))

  -- a definition of a file, or a separator between these
  unfoldable pub unit_item : Reader (Option (TopDef × Bool))
  unit_item = choose separates top_apart top_item

  -- Seq(TopDef)
  unfoldable pub top_defs : Reader (Bool × List TopDef)
  top_defs = fold (clean (at_item begins_top)) unit_item add_item (true, [])

  -- Unit ::= Seq(TopDef), to the last token
  unfoldable pub unit : Reader file.Unit
  unit = top_defs >>= λ s. over >> pure (unit_tree s.1)

-- ---- the levels

-- with expressions and patterns nested no deeper than the number
abbrev pub unit_to : ℕ → Reader file.Unit
unit_to n = unit (levels.expr n) (patterns.pattern n)
