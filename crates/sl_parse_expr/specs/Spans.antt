-- Where trees stand.
use Rattle.std.specs.Prelude.{◌-◌, List, Option, Some, None, length, slice_get}
use Rattle.sl_text.specs.declared.span.Span.{Span}
use Rattle.sl_ast.specs.declared.expr.Expr.{Expr, out-Expr}
use Rattle.sl_ast.specs.declared.args.Args.{out-Args}
use Rattle.sl_ast.specs.declared.args.ParArgs.{ParArgs, out-ParArgs}
use Rattle.sl_ast.specs.declared.simple.Head.{Head, out-Head}
use Rattle.sl_ast.specs.declared.simple.Suffix.{Suffix, out-Suffix}
use Rattle.sl_ast.specs.declared.simple.Simple.{Simple, out-Simple}
use Rattle.sl_ast.specs.declared.infix.Infix.{Infix, out-Infix}
use Rattle.sl_ast.specs.declared.infix.Prefix.{Prefix, out-Prefix}
use Rattle.sl_ast.specs.declared.infix.Operation.{Operation, out-Operation}
use Rattle.sl_ast.specs.declared.args.Args.TheOpen.{Expr-F, Head-F, Suffix-F, Args-F, Stat-F}
use Rattle.sl_ast.specs.declared.block.Stat.{Stat, out-Stat}
use Rattle.sl_ast.specs.declared.block.Block.{Block, out-Block}
use Rattle.sl_ast.specs.declared.literal.Literal.{Literal}
use Rattle.sl_ast.specs.declared.literal.Literal.TheVariants as literal

-- from the first character of one to the last of another
abbrev pub join : Span → Span → Span
join a b = record { from = a.from; to = b.to }

-- where an infix expression stands
unfoldable pub infix_span : Infix → Span
infix_span x = (out-Infix x).span

-- where arguments in parentheses stand
unfoldable pub par_args_span : ParArgs → Span
par_args_span x = (out-ParArgs x).span

-- where a simple expression stands
unfoldable pub simple_span : Simple → Span
simple_span x = (out-Simple x).span

-- where a prefix expression stands
unfoldable pub prefix_span : Prefix → Span
prefix_span x = (out-Prefix x).span

-- where a literal stands
unfoldable pub literal_span : Literal → Span
literal_span (literal.Number n s) = s
literal_span (literal.Text t s) = s
literal_span (literal.True s) = s
literal_span (literal.False s) = s
literal_span (literal.Null s) = s

-- where an expression stands, by its form and by where infix expressions stand
abbrev pub expr_level : {A B C D E F G H I J K L M : Type 0} → (J → Span) → Expr-F A B C D E F G H I J K L M → Span
expr_level of_infix (Expr-F.If c x y s) = s
expr_level of_infix (Expr-F.While c x s) = s
expr_level of_infix (Expr-F.Try x c f s) = s
expr_level of_infix (Expr-F.Throw x s) = s
expr_level of_infix (Expr-F.Match x c s) = s
expr_level of_infix (Expr-F.Assign x y s) = s
expr_level of_infix (Expr-F.Infix x) = of_infix x

-- where an expression stands
unfoldable pub expr_span : Expr → Span
expr_span x = expr_level infix_span (out-Expr x)

-- where a head stands, by its form
abbrev pub head_level : {A B C D E F G H I J K L M : Type 0} → Head-F A B C D E F G H I J K L M → Span
head_level (Head-F.Literal x) = literal_span x
head_level (Head-F.Id x) = x.span
head_level (Head-F.This s) = s
head_level (Head-F.Super x s) = s
head_level (Head-F.New x a s) = s
head_level (Head-F.«Head::Parens» x s) = s
head_level (Head-F.«Head::Block» x s) = s

-- where a head stands
unfoldable pub head_span : Head → Span
head_span x = head_level (out-Head x)

-- where arguments stand, by their form and by where those in parentheses stand
abbrev pub args_level : {A B C D E F G H I J K L M : Type 0} → (F → Span) → Args-F A B C D E F G H I J K L M → Span
args_level of_list (Args-F.«Args::Parens» x) = of_list x
args_level of_list (Args-F.«Args::Block» x s) = s

-- where a suffix stands, by its form and by where arguments stand
abbrev pub suffix_level : {A B C D E F G H I J K L M : Type 0} → (A → Span) → Suffix-F A B C D E F G H I J K L M → Span
suffix_level of_args (Suffix-F.Select x) = x.span
suffix_level of_args (Suffix-F.Apply x) = of_args x

-- where a suffix stands
unfoldable pub suffix_span : Suffix → Span
suffix_span x = suffix_level (λ a. args_level par_args_span (out-Args a)) (out-Suffix x)

-- where an optional part stands, or what stands before it
abbrev pub span_or : {A : Type 0} → (A → Span) → Span → Option A → Span
span_or of s None = s
span_or of s (Some x) = of x

-- where the last of a list stands, or what stands before an empty one
abbrev pub last_span : {A : Type 0} → (A → Span) → Span → List A → Span
last_span of s xs = span_or of s (slice_get xs (length xs - 1))

-- where a statement stands, by its form and by where expressions stand
abbrev pub stat_level : {A B C D E F G H I J K L M : Type 0} → (C → Span) → Stat-F A B C D E F G H I J K L M → Span
stat_level of_expr (Stat-F.Local b x t e s) = s
stat_level of_expr (Stat-F.Expr e) = of_expr e

-- where a statement stands
unfoldable pub stat_span : Stat → Span
stat_span x = stat_level expr_span (out-Stat x)

-- where an operation's operand stands
unfoldable pub operation_span : Operation → Span
operation_span x = prefix_span (out-Operation x).operand

-- the statements of a block
unfoldable pub block_stats : Block → List Stat
block_stats b = (out-Block b).stats
