-- Whether the last tokens of a tree are a bare `new`: `new`, a class and perhaps arguments, with no suffix behind (SLS
-- 5.1.1). Behind it a brace would be a class body.
use Rattle.std.specs.Prelude.{◌-◌, ◌==◌, Bool, true, false, ◌&&◌, List, Option, Some, None, length, slice_get}
use Rattle.sl_ast.specs.declared.expr.Expr.{Expr}
use Rattle.sl_ast.specs.declared.block.Stat.{Stat}
use Rattle.sl_ast.specs.declared.infix.Infix.{Infix}
use Rattle.sl_ast.specs.declared.infix.Prefix.{Prefix}
use Rattle.sl_ast.specs.declared.args.Args.TheOpen.{Args-F, Stat-F, Expr-F, Head-F, Suffix-F, ParArgs-F, Block-F, Case-F, Cases-F, Infix-F, Operation-F, Prefix-F, Simple-F}
use Rattle.sl_ast.specs.declared.args.Args.TheFolds.{fold-Expr, fold-Stat, fold-Infix, fold-Prefix}

-- what stands in an optional part, or before it where there is none
abbrev pub bool_or : Bool → Option Bool → Bool
bool_or b None = b
bool_or b (Some c) = c

-- the last of a list, or what stands before an empty one
abbrev pub last_or : Bool → List Bool → Bool
last_or b bs = bool_or b (slice_get bs (length bs - 1))

-- arguments end in a parenthesis or a brace
abbrev pub args_step : Args-F Bool Bool Bool Bool Bool Bool Bool Bool Bool Bool Bool Bool Bool → Bool
args_step x = false

-- a statement ends as its expression
abbrev pub stat_step : Stat-F Bool Bool Bool Bool Bool Bool Bool Bool Bool Bool Bool Bool Bool → Bool
stat_step (Stat-F.Local b x t e s) = e
stat_step (Stat-F.Expr e) = e

-- an expression ends as its last part; cases end in a brace
abbrev pub expr_step : Expr-F Bool Bool Bool Bool Bool Bool Bool Bool Bool Bool Bool Bool Bool → Bool
expr_step (Expr-F.If c x y s) = bool_or x y
expr_step (Expr-F.While c x s) = x
expr_step (Expr-F.Try x None f s) = bool_or x f
expr_step (Expr-F.Try x (Some c) f s) = bool_or false f
expr_step (Expr-F.Throw x s) = x
expr_step (Expr-F.Match x c s) = false
expr_step (Expr-F.Assign x y s) = y
expr_step (Expr-F.Infix x) = x

-- a head is a bare `new` or ends in none
abbrev pub head_step : Head-F Bool Bool Bool Bool Bool Bool Bool Bool Bool Bool Bool Bool Bool → Bool
head_step (Head-F.New x a s) = true
head_step other = false

-- a suffix ends in a name, a parenthesis or a brace
abbrev pub suffix_step : Suffix-F Bool Bool Bool Bool Bool Bool Bool Bool Bool Bool Bool Bool Bool → Bool
suffix_step x = false

-- arguments in parentheses end in one
abbrev pub par_args_step : ParArgs-F Bool Bool Bool Bool Bool Bool Bool Bool Bool Bool Bool Bool Bool → Bool
par_args_step x = false

-- a block stands in braces or in a case, which end it
abbrev pub block_step : Block-F Bool Bool Bool Bool Bool Bool Bool Bool Bool Bool Bool Bool Bool → Bool
block_step x = false

-- a case stands in braces
abbrev pub case_step : Case-F Bool Bool Bool Bool Bool Bool Bool Bool Bool Bool Bool Bool Bool → Bool
case_step x = false

-- cases stand in braces
abbrev pub cases_step : Cases-F Bool Bool Bool Bool Bool Bool Bool Bool Bool Bool Bool Bool Bool → Bool
cases_step x = false

-- an infix expression ends as its last operand
abbrev pub infix_step : Infix-F Bool Bool Bool Bool Bool Bool Bool Bool Bool Bool Bool Bool Bool → Bool
infix_step x = last_or x.first x.rest

-- an operation ends as its operand
abbrev pub operation_step : Operation-F Bool Bool Bool Bool Bool Bool Bool Bool Bool Bool Bool Bool Bool → Bool
operation_step x = x.operand

-- a prefix expression ends as what stands behind its sign
abbrev pub prefix_step : Prefix-F Bool Bool Bool Bool Bool Bool Bool Bool Bool Bool Bool Bool Bool → Bool
prefix_step x = x.simple

-- a simple expression ends as its head, where it has no suffix
abbrev pub simple_step : Simple-F Bool Bool Bool Bool Bool Bool Bool Bool Bool Bool Bool Bool Bool → Bool
simple_step x = x.head && (length x.suffixes == 0)

-- an expression ends in a bare `new`
unfoldable pub ends_in_new : Expr → Bool
ends_in_new = fold-Expr Bool Bool Bool Bool Bool Bool Bool Bool Bool Bool Bool Bool Bool args_step stat_step expr_step head_step suffix_step par_args_step block_step case_step cases_step infix_step operation_step prefix_step simple_step

-- an infix expression does
unfoldable pub infix_ends_in_new : Infix → Bool
infix_ends_in_new = fold-Infix Bool Bool Bool Bool Bool Bool Bool Bool Bool Bool Bool Bool Bool args_step stat_step expr_step head_step suffix_step par_args_step block_step case_step cases_step infix_step operation_step prefix_step simple_step

-- a prefix expression does
unfoldable pub prefix_ends_in_new : Prefix → Bool
prefix_ends_in_new = fold-Prefix Bool Bool Bool Bool Bool Bool Bool Bool Bool Bool Bool Bool Bool args_step stat_step expr_step head_step suffix_step par_args_step block_step case_step cases_step infix_step operation_step prefix_step simple_step

-- a statement does
unfoldable pub stat_ends_in_new : Stat → Bool
stat_ends_in_new = fold-Stat Bool Bool Bool Bool Bool Bool Bool Bool Bool Bool Bool Bool Bool args_step stat_step expr_step head_step suffix_step par_args_step block_step case_step cases_step infix_step operation_step prefix_step simple_step
