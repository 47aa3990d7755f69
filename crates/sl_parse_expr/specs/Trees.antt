-- Trees with the places where they stand: from the first token to the end of the last one.
use Rattle.std.specs.Prelude.{List, Option, Some, None}
use Rattle.sl_text.specs.declared.span.Span.{Span}
use Rattle.sl_ast.specs.declared.ident.Ident.{Ident}
use Rattle.sl_ast.specs.declared.literal.Literal.{Literal}
use Rattle.sl_ast.specs.declared.operator.Operator.{Operator}
use Rattle.sl_ast.specs.declared.operator.Sign.{Sign}
use Rattle.sl_ast.specs.declared.binding.Binding.{Binding}
use Rattle.sl_ast.specs.declared.type_tree.TypeTree.{TypeTree}
use Rattle.sl_ast.specs.declared.type_tree.TypeTree.TheVariants as types
use Rattle.sl_ast.specs.declared.expr.Expr.{Expr}
use Rattle.sl_ast.specs.declared.expr.Expr.TheVariants as expr
use Rattle.sl_ast.specs.declared.infix.Infix.{Infix, roll-Infix}
use Rattle.sl_ast.specs.declared.infix.Operation.{Operation, roll-Operation}
use Rattle.sl_ast.specs.declared.infix.Prefix.{Prefix, roll-Prefix}
use Rattle.sl_ast.specs.declared.simple.Simple.{Simple, roll-Simple}
use Rattle.sl_ast.specs.declared.simple.Head.{Head}
use Rattle.sl_ast.specs.declared.simple.Head.TheVariants as head
use Rattle.sl_ast.specs.declared.simple.Suffix.{Suffix}
use Rattle.sl_ast.specs.declared.simple.Suffix.TheVariants as suffix
use Rattle.sl_ast.specs.declared.args.Args.TheVariants as args
use Rattle.sl_ast.specs.declared.args.ParArgs.{ParArgs, roll-ParArgs}
use Rattle.sl_ast.specs.declared.block.Block.{Block, roll-Block}
use Rattle.sl_ast.specs.declared.block.Stat.{Stat}
use Rattle.sl_ast.specs.declared.block.Stat.TheVariants as stat
use Rattle.sl_ast.specs.declared.cases.Case.{Case, roll-Case}
use Rattle.sl_ast.specs.declared.cases.Cases.{Cases, roll-Cases}
use Rattle.sl_ast.specs.declared.pattern.Pattern.{Pattern}
use Rattle.sl_parse_expr.specs.Spans.{join, expr_span, infix_span, par_args_span, simple_span, prefix_span, head_span, suffix_span, stat_span, operation_span, span_or, last_span, block_stats}

-- a name as a type
abbrev pub named_type : Ident → TypeTree
named_type x = types.Name x

-- a type with one argument, up to its bracket
abbrev pub applied_type : Ident → Ident → Span → TypeTree
applied_type x y s = types.Applied x y (join x.span s)

-- arguments, from parenthesis to parenthesis
abbrev pub par_args_tree : Span → List Expr → Span → ParArgs
par_args_tree s xs t = roll-ParArgs (record { args = xs; span = join s t })

-- a literal as a head
abbrev pub literal_head : Literal → Head
literal_head x = head.Literal x

-- a name as a head
abbrev pub name_head : Ident → Head
name_head x = head.Id x

-- `this` as a head
abbrev pub this_head : Span → Head
this_head s = head.This s

-- a member of `super`
abbrev pub super_tree : Span → Ident → Head
super_tree s x = head.Super x (join s x.span)

-- a new object: from `new` to its arguments or its name
abbrev pub new_tree : Span → Ident → Option ParArgs → Head
new_tree s x a = head.New x a (join s (span_or par_args_span x.span a))

-- an expression or nothing in parentheses
abbrev pub parens_tree : Span → Option Expr → Span → Head
parens_tree s x t = head.Parens x (join s t)

-- a block as a head
abbrev pub block_head : Block → Span → Head
block_head b s = head.Block b s

-- the selection of a member
abbrev pub select : Ident → Suffix
select x = suffix.Select x

-- a call with arguments
abbrev pub apply : ParArgs → Suffix
apply x = suffix.Apply (args.Parens x)

-- a call with a block
abbrev pub apply_block : Block → Span → Suffix
apply_block b s = suffix.Apply (args.Block b s)

-- a head with its suffixes
abbrev pub simple_tree : Head → List Suffix → Simple
simple_tree x xs = roll-Simple (record { head = x; suffixes = xs; span = join (head_span x) (last_span suffix_span (head_span x) xs) })

-- a simple expression with its sign, if there is one
abbrev pub prefix_tree : Option (Sign × Span) → Simple → Prefix
prefix_tree None x = roll-Prefix (record { sign = None; simple = x; span = simple_span x })
prefix_tree (Some g) x = roll-Prefix (record { sign = Some g.0; simple = x; span = join g.1 (simple_span x) })

-- an operator with its right operand
abbrev pub operation_tree : Operator → Prefix → Operation
operation_tree o x = roll-Operation (record { operator = o; operand = x })

-- an operand with the operations behind it
abbrev pub infix_tree : Prefix → List Operation → Infix
infix_tree x xs = roll-Infix (record { first = x; rest = xs; span = join (prefix_span x) (last_span operation_span (prefix_span x) xs) })

-- an infix expression as an expression
abbrev pub plain_expr : Infix → Expr
plain_expr i = expr.Infix i

-- a match, up to the brace that closes its cases
abbrev pub match_tree : Infix → Cases → Span → Expr
match_tree i c s = expr.Match i c (join (infix_span i) s)

-- an assignment
abbrev pub assign_tree : Infix → Expr → Expr
assign_tree i x = expr.Assign i x (join (infix_span i) (expr_span x))

-- a conditional: from `if` to its last branch
abbrev pub if_tree : Span → Expr → Expr → Option Expr → Expr
if_tree s c x y = expr.If c x y (join s (span_or expr_span (expr_span x) y))

-- a loop, from `while` on
abbrev pub while_tree : Span → Expr → Expr → Expr
while_tree s c x = expr.While c x (join s (expr_span x))

-- the cases of a handler, if there is one
abbrev pub cases_of : Option (Cases × Span) → Option Cases
cases_of None = None
cases_of (Some c) = Some c.0

-- where a handler ends, or what stands before it
abbrev pub end_of : Span → Option (Cases × Span) → Span
end_of s None = s
end_of s (Some c) = c.1

-- a `try`: up to its finalizer, its handler or its expression
abbrev pub try_tree : Span → Expr → Option (Cases × Span) → Option Expr → Expr
try_tree s x c f = expr.Try x (cases_of c) f (join s (span_or expr_span (end_of (expr_span x) c) f))

-- a `throw`
abbrev pub throw_tree : Span → Expr → Expr
throw_tree s x = expr.Throw x (join s (expr_span x))

-- a local definition, from `val` or `var` on
abbrev pub local_tree : Binding → Span → Ident → Option TypeTree → Expr → Stat
local_tree b s x t e = stat.Local b x t e (join s (expr_span e))

-- an expression as a statement
abbrev pub expr_stat : Expr → Stat
expr_stat e = stat.Expr e

-- the block of these statements
abbrev pub block_tree : List Stat → Block
block_tree xs = roll-Block (record { stats = xs })

-- a case: from `case` to its last statement or its arrow
abbrev pub case_tree : Span → Pattern → Option Infix → Span → Block → Case
case_tree s p g t b = roll-Case (record { pattern = p; guard = g; body = b; span = join s (last_span stat_span t (block_stats b)) })

-- one or more cases
abbrev pub cases_tree : Case → List Case → Cases
cases_tree x xs = roll-Cases (record { first = x; rest = xs })
