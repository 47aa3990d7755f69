-- The rules as readers.
use Rattle.std.specs.Prelude.{Bool, true, false, ◌&&◌, ◌||◌, List, [], ◌∷◌, ◌++◌, Option, Some, None, Err, if◌then◌else◌}
use Rattle.sl_text.specs.declared.span.Span.{Span}
use Rattle.sl_ast.specs.declared.token.Token.{Token}
use Rattle.sl_ast.specs.declared.ident.Ident.{Ident}
use Rattle.sl_ast.specs.declared.literal.Literal.{Literal}
use Rattle.sl_ast.specs.declared.operator.Operator.{Operator}
use Rattle.sl_ast.specs.declared.operator.Sign.{Sign}
use Rattle.sl_ast.specs.declared.binding.Binding.{Binding}
use Rattle.sl_ast.specs.declared.type_tree.TypeTree.{TypeTree}
use Rattle.sl_ast.specs.declared.expr.Expr.{Expr}
use Rattle.sl_ast.specs.declared.infix.Infix.{Infix}
use Rattle.sl_ast.specs.declared.infix.Operation.{Operation}
use Rattle.sl_ast.specs.declared.infix.Prefix.{Prefix}
use Rattle.sl_ast.specs.declared.simple.Simple.{Simple}
use Rattle.sl_ast.specs.declared.simple.Head.{Head}
use Rattle.sl_ast.specs.declared.simple.Suffix.{Suffix}
use Rattle.sl_ast.specs.declared.args.ParArgs.{ParArgs}
use Rattle.sl_ast.specs.declared.block.Block.{Block}
use Rattle.sl_ast.specs.declared.block.Stat.{Stat}
use Rattle.sl_ast.specs.declared.cases.Case.{Case}
use Rattle.sl_ast.specs.declared.cases.Cases.{Cases}
use Rattle.sl_ast.specs.declared.pattern.Pattern.{Pattern}
use Rattle.sl_parse_expr.specs.declared.ahead.Ahead.{Ahead}
use Rattle.sl_parse_expr.specs.declared.ahead.Ahead.TheVariants as see
use Rattle.sl_parse_expr.specs.declared.cursor.Waiting.{Waiting}
use Rattle.sl_parse_expr.specs.declared.cursor.Waiting.TheVariants as waiting
use Rattle.sl_parse_expr.specs.declared.chain.Chain.{Chain}
use Rattle.sl_parse_expr.specs.declared.chain.Chain.TheVariants as chain
use Rattle.sl_parse_expr.specs.Ahead.{same}
use Rattle.sl_parse_expr.specs.Tokens.{ident_of, operator_of, sign_of, literal_of, binding_of, separator_of, separates}
use Rattle.sl_parse_expr.specs.Starts.{begins_sign, is_operator, begins_binding, begins_stat}
use Rattle.sl_parse_expr.specs.Reading.{Reader, ◌>>=◌, ◌>>◌, pure, stuck, one, expect, hold, absorb, settle, look, choose, option, fold, clean, waits, nothing, ahead}
use Rattle.sl_parse_expr.specs.Trees.{par_args_tree, new_tree, super_tree, simple_tree, prefix_tree, operation_tree, infix_tree, if_tree, while_tree, try_tree, throw_tree, match_tree, assign_tree, local_tree, case_tree, cases_tree, block_tree, parens_tree, block_head, name_head, literal_head, this_head, select, apply, apply_block, applied_type, named_type, plain_expr, expr_stat}
use Rattle.sl_parse_expr.specs.Spans.{join}
use Rattle.sl_parse_expr.specs.LastNew.{stat_ends_in_new}

-- the list with one more behind
abbrev pub added : {A : Type 0} → List A → A → List A
added xs x = xs ++ x ∷ []

-- id
unfoldable pub name : Reader Ident
name = one ident_of

-- an operator between two operands
unfoldable pub operator : Reader Operator
operator = one operator_of

-- '-' | '+' | '!' | '~', and where it stands
unfoldable pub sign : Reader (Sign × Span)
sign = one sign_of

-- a literal
unfoldable pub literal : Reader Literal
literal = one literal_of

-- 'val' | 'var', and where it stands
unfoldable pub binding : Reader (Binding × Span)
binding = one binding_of

-- ';' | nl
unfoldable pub separator : Reader (Unit {0})
separator = one separator_of

-- ---- types

-- '[' id ']', behind the name of a type
unfoldable pub applied : Ident → Reader TypeTree
applied x = expect see.OpenBracket >> (name >>= λ y. expect see.CloseBracket >>= λ s. pure (applied_type x y s))

-- Type ::= id | id '[' id ']'
unfoldable pub type_tree : Reader TypeTree
type_tree = name >>= λ x. option (same see.OpenBracket) (applied x) (named_type x)

-- ---- line ends

-- a line end is ahead
abbrev pub at_line : Unit {0} → Ahead → Bool
at_line _ o = same see.Newline o

-- nothing is kept of line ends
abbrev pub one_more : Unit {0} → Span → Unit {0}
one_more _ _ = tt

-- {nl}
unfoldable pub lines : Reader (Unit {0})
lines = fold (clean at_line) (expect see.Newline) one_more tt

-- ---- the rules, over readers of the expressions and patterns inside

-- the list goes on: a comma is ahead
abbrev pub at_comma : {A : Type 0} → List A → Ahead → Bool
at_comma _ o = same see.Comma o

-- the alternatives go on: `|` is ahead
abbrev pub at_bar : {A : Type 0} → List A → Ahead → Bool
at_bar _ o = same see.Bar o

-- the operations go on: an operator is ahead
abbrev pub at_operator : {A : Type 0} → List A → Ahead → Bool
at_operator _ o = is_operator o

-- the cases go on: `case` is ahead
abbrev pub at_case : {A : Type 0} → List A → Ahead → Bool
at_case _ o = same see.Case o

-- which suffixes may follow a head at once: all, or selections alone
abbrev pub first_chain : Bool → Chain
first_chain true = chain.All
first_chain false = chain.Selections

-- a suffix may begin here
abbrev pub goes_chain : Chain → Ahead → Bool
goes_chain chain.All o = same see.Dot o || same see.OpenParen o || same see.OpenBrace o || same see.Newline o
goes_chain chain.Selections o = same see.Dot o
goes_chain chain.Over o = false

-- the suffixes go on
abbrev pub at_suffix : Chain × List Suffix → Ahead → Bool
at_suffix s o = goes_chain s.0 o

-- one suffix more, behind which all may follow; or the end of the suffixes
abbrev pub add_suffix : Chain × List Suffix → Option Suffix → Chain × List Suffix
add_suffix s (Some x) = (chain.All, s.1 ++ x ∷ [])
add_suffix s None = (chain.Over, s.1)

-- whether a separator stands before, and the statements
abbrev pub at_item : {A : Type 0} → (Ahead → Bool) → Bool × List A → Ahead → Bool
at_item begins s o = separates o || (s.0 && begins o)

-- an item, and whether nothing was held behind it
abbrev pub add_item : {A : Type 0} → Bool × List A → Option (A × Bool) → Bool × List A
add_item s (Some (x, true)) = (false, s.1 ++ x ∷ [])
add_item s (Some (x, false)) = (true, s.1 ++ x ∷ [])
add_item s None = (true, s.1)

-- that no brace is ahead
unfoldable pub no_brace : Reader (Unit {0})
no_brace = choose (same see.OpenBrace) stuck (pure tt)

-- a line end, behind which no brace may stand
unfoldable pub bare_line : Reader Bool
bare_line = expect see.Newline >> (no_brace >> pure false)

-- behind a bare `new`, by what was held there
abbrev pub behind_bare : Waiting → Reader Bool
behind_bare waiting.Nothing = option (same see.Newline) bare_line true
behind_bare waiting.Line = no_brace >> pure false
behind_bare waiting.More = pure false

-- behind a bare `new`: one line end with a brace behind it would begin a class body
unfoldable pub behind_new : Reader Bool
behind_new = settle >>= behind_bare

-- what is held behind an item goes away, and whether nothing was; whether the item ends in a bare `new`
abbrev pub behind_item : Bool → Reader Bool
behind_item true = behind_new
behind_item false = absorb

-- `;`, or a second line end where one is held
abbrev pub semi_from : Waiting → Ahead → Bool
semi_from waiting.Nothing o = same see.Semicolon o
semi_from waiting.Line o = same see.Newline o
semi_from waiting.More o = false

-- a first line end
abbrev pub line_from : Waiting → Ahead → Bool
line_from waiting.Nothing o = same see.Newline o
line_from held o = false

-- `match` or `=` stands behind an infix expression
abbrev pub at_behind : Ahead → Bool
at_behind o = same see.Match o || same see.Equals o

module _ (expr : Reader Expr) (pattern : Reader Pattern) where
  -- ',' Expr
  unfoldable pub next_arg : Reader Expr
  next_arg = expect see.Comma >> expr

  -- {',' Expr}, behind these arguments
  unfoldable pub more_args : List Expr → Reader (List Expr)
  more_args xs = fold (clean at_comma) next_arg added xs

  -- Expr {',' Expr} ')', and where the parenthesis stands
  unfoldable pub some_args : Reader (List Expr × Span)
  some_args = expr >>= λ x. more_args (x ∷ []) >>= λ xs. expect see.CloseParen >>= λ s. pure (xs, s)

  -- ')' of an empty list, and where it stands
  unfoldable pub no_args : Reader (List Expr × Span)
  no_args = expect see.CloseParen >>= λ s. pure ([], s)

  -- ParArgs ::= '(' [Expr {',' Expr}] ')'
  unfoldable pub par_args : Reader ParArgs
  par_args = expect see.OpenParen >>= λ s. choose (same see.CloseParen) no_args some_args >>= λ xs. pure (par_args_tree s xs.0 xs.1)

  -- ---- blocks

  -- ':' Type, as a type that is there
  unfoldable pub typed : Reader (Option TypeTree)
  typed = expect see.Colon >> (type_tree >>= λ t. pure (Some t))

  -- ('val' | 'var') id [':' Type] '=' Expr
  unfoldable pub local : Reader Stat
  local = binding >>= λ b. name >>= λ x. option (same see.Colon) typed None >>= λ t. expect see.Equals >> (expr >>= λ e. pure (local_tree b.0 b.1 x t e))

  -- Expr, as a statement
  unfoldable pub expr_as_stat : Reader Stat
  expr_as_stat = expr >>= λ e. pure (expr_stat e)

  -- Stat ::= ('val' | 'var') id [':' Type] '=' Expr | Expr
  unfoldable pub stat : Reader Stat
  stat = choose begins_binding local expr_as_stat

  -- a separator between statements, which is no statement
  unfoldable pub apart : Reader (Option (Stat × Bool))
  apart = separator >>= λ _. pure None

  -- a statement, and whether nothing was held behind it
  unfoldable pub stat_item : Reader (Option (Stat × Bool))
  stat_item = stat >>= λ x. behind_item (stat_ends_in_new x) >>= λ c. pure (Some (x, c))

  -- a statement, or a separator between statements
  unfoldable pub block_item : Reader (Option (Stat × Bool))
  block_item = choose separates apart stat_item

  -- Seq(Stat)
  unfoldable pub stats : Reader (Bool × List Stat)
  stats = fold (clean (at_item begins_stat)) block_item add_item (true, [])

  -- Block ::= Seq(Stat)
  unfoldable pub block : Reader Block
  block = absorb >> (stats >>= λ s. pure (block_tree s.1))

  -- '{' Block '}'
  unfoldable pub braces : Reader (Block × Span)
  braces = expect see.OpenBrace >>= λ s. block >>= λ b. expect see.CloseBrace >>= λ t. pure (b, join s t)

  -- ---- simple expressions

  -- literal
  unfoldable pub literal_start : Reader (Head × Bool)
  literal_start = literal >>= λ x. pure (literal_head x, true)

  -- id
  unfoldable pub name_start : Reader (Head × Bool)
  name_start = name >>= λ x. pure (name_head x, true)

  -- 'this'
  unfoldable pub this_start : Reader (Head × Bool)
  this_start = expect see.This >>= λ s. pure (this_head s, true)

  -- 'super' '.' id
  unfoldable pub super_start : Reader (Head × Bool)
  super_start = expect see.Super >>= λ s. expect see.Dot >> (name >>= λ x. pure (super_tree s x, true))

  -- ParArgs, as arguments that are there
  unfoldable pub new_args : Reader (Option ParArgs)
  new_args = par_args >>= λ x. pure (Some x)

  -- 'new' id [ParArgs]
  unfoldable pub new_start : Reader (Head × Bool)
  new_start = expect see.New >>= λ s. name >>= λ x. option (same see.OpenParen) new_args None >>= λ a. pure (new_tree s x a, false)

  -- ')' of empty parentheses, and where it stands
  unfoldable pub nothing_inside : Reader (Option Expr × Span)
  nothing_inside = expect see.CloseParen >>= λ t. pure (None, t)

  -- Expr ')', and where the parenthesis stands
  unfoldable pub expr_inside : Reader (Option Expr × Span)
  expr_inside = expr >>= λ x. expect see.CloseParen >>= λ t. pure (Some x, t)

  -- '(' [Expr] ')'
  unfoldable pub parens_start : Reader (Head × Bool)
  parens_start = expect see.OpenParen >>= λ s. choose (same see.CloseParen) nothing_inside expr_inside >>= λ x. pure (parens_tree s x.0 x.1, true)

  -- '{' Block '}'
  unfoldable pub block_start : Reader (Head × Bool)
  block_start = braces >>= λ b. pure (block_head b.0 b.1, false)

  -- Head, and whether all suffixes may follow at once
  unfoldable pub start : Reader (Head × Bool)
  start = choose (same see.Literal) literal_start (choose (same see.Id) name_start (choose (same see.This) this_start (choose (same see.Super) super_start (choose (same see.New) new_start (choose (same see.OpenParen) parens_start block_start)))))

  -- '.' id
  unfoldable pub selection : Reader (Option Suffix)
  selection = expect see.Dot >> (name >>= λ x. pure (Some (select x)))

  -- ParArgs, as a suffix
  unfoldable pub call : Reader (Option Suffix)
  call = par_args >>= λ x. pure (Some (apply x))

  -- '{' Block '}', as a suffix
  unfoldable pub block_call : Reader (Option Suffix)
  block_call = braces >>= λ b. pure (Some (apply_block b.0 b.1))

  -- a block behind a line end that is held, if a brace stands there
  unfoldable pub behind_line : Reader (Option Suffix)
  behind_line = choose (same see.OpenBrace) (absorb >> block_call) (pure None)

  -- a line end, behind which only a block is a suffix
  unfoldable pub line_call : Reader (Option Suffix)
  line_call = look (λ o held. if same see.Newline o then hold behind_line else stuck)

  -- a suffix by its first token, or none
  unfoldable pub suffix : Reader (Option Suffix)
  suffix = choose (same see.Dot) selection (choose (same see.OpenParen) call (choose (same see.OpenBrace) block_call line_call))

  -- {'.' id | Args}
  unfoldable pub suffixes : Bool → Reader (Chain × List Suffix)
  suffixes all = fold (clean at_suffix) suffix add_suffix (first_chain all, [])

  -- Simple ::= Head {'.' id | Args}
  unfoldable pub simple : Reader Simple
  simple = start >>= λ x. suffixes x.1 >>= λ w. pure (simple_tree x.0 w.1)

  -- ---- operators

  -- ('-' | '+' | '!' | '~') Simple
  unfoldable pub signed : Reader Prefix
  signed = sign >>= λ g. simple >>= λ x. pure (prefix_tree (Some g) x)

  -- Simple
  unfoldable pub unsigned : Reader Prefix
  unsigned = simple >>= λ x. pure (prefix_tree None x)

  -- Prefix ::= ['-' | '+' | '!' | '~'] Simple
  unfoldable pub prefix : Reader Prefix
  prefix = choose begins_sign signed unsigned

  -- nl Prefix
  unfoldable pub line_operand : Reader Prefix
  line_operand = expect see.Newline >> prefix

  -- [nl] Prefix
  unfoldable pub operand : Reader Prefix
  operand = choose (same see.Newline) line_operand prefix

  -- op [nl] Prefix
  unfoldable pub operation : Reader Operation
  operation = operator >>= λ o. operand >>= λ x. pure (operation_tree o x)

  -- {op [nl] Prefix}
  unfoldable pub operations : Reader (List Operation)
  operations = fold (clean at_operator) operation added []

  -- Infix ::= Prefix {op [nl] Prefix}
  unfoldable pub infix_expr : Reader Infix
  infix_expr = prefix >>= λ x. operations >>= λ xs. pure (infix_tree x xs)

  -- ---- cases

  -- 'if' Infix
  unfoldable pub guarded : Reader (Option Infix)
  guarded = expect see.If >> (infix_expr >>= λ x. pure (Some x))

  -- Case ::= 'case' Pattern ['if' Infix] '=>' Block
  unfoldable pub case_reader : Reader Case
  case_reader = expect see.Case >>= λ s. pattern >>= λ p. option (same see.If) guarded None >>= λ g. expect see.Arrow >>= λ t. block >>= λ b. pure (case_tree s p g t b)

  -- {Case}
  unfoldable pub more_cases : Reader (List Case)
  more_cases = fold (clean at_case) case_reader added []

  -- '{' Cases '}'
  unfoldable pub cases : Reader (Cases × Span)
  cases = expect see.OpenBrace >> (case_reader >>= λ x. more_cases >>= λ xs. expect see.CloseBrace >>= λ s. pure (cases_tree x xs, s))

  -- ---- expressions

  -- 'else' Expr; what was held before it goes away
  unfoldable pub with_else : Reader (Option Expr)
  with_else = absorb >> (expect see.Else >> (expr >>= λ x. pure (Some x)))

  -- `else` behind all that may stand before it
  abbrev pub third_by : Ahead → List Token → Reader (Option Expr)
  third_by o held = if same see.Else o then with_else else pure None

  -- after ';' or two line ends
  unfoldable pub third : Reader (Option Expr)
  third = look third_by

  -- `else`, or a second line end
  abbrev pub second_by : Ahead → List Token → Reader (Option Expr)
  second_by o held = if same see.Else o then with_else else if same see.Newline o then hold third else pure None

  -- after one line end
  unfoldable pub second : Reader (Option Expr)
  second = look second_by

  -- `else`, or what may stand before it
  abbrev pub other_by : Ahead → List Token → Reader (Option Expr)
  other_by o held = if same see.Else o then with_else else if semi_from (waits held) o then hold third else if line_from (waits held) o then hold second else pure None

  -- [[semi] 'else' Expr]
  unfoldable pub other : Reader (Option Expr)
  other = look other_by

  -- '(' Expr ')' {nl}
  unfoldable pub condition : Reader Expr
  condition = expect see.OpenParen >> (expr >>= λ c. expect see.CloseParen >> (lines >> pure c))

  -- 'if' '(' Expr ')' {nl} Expr [[semi] 'else' Expr]
  unfoldable pub if_expr : Reader Expr
  if_expr = expect see.If >>= λ s. condition >>= λ c. expr >>= λ x. other >>= λ y. pure (if_tree s c x y)

  -- 'while' '(' Expr ')' {nl} Expr
  unfoldable pub while_expr : Reader Expr
  while_expr = expect see.While >>= λ s. condition >>= λ c. expr >>= λ x. pure (while_tree s c x)

  -- 'catch' '{' Cases '}'
  unfoldable pub handler : Reader (Option (Cases × Span))
  handler = expect see.Catch >> (cases >>= λ c. pure (Some c))

  -- 'finally' Expr
  unfoldable pub finalizer : Reader (Option Expr)
  finalizer = expect see.Finally >> (expr >>= λ x. pure (Some x))

  -- 'try' Expr ['catch' '{' Cases '}'] ['finally' Expr]
  unfoldable pub try_expr : Reader Expr
  try_expr = expect see.Try >>= λ s. expr >>= λ x. option (same see.Catch) handler None >>= λ c. option (same see.Finally) finalizer None >>= λ f. pure (try_tree s x c f)

  -- 'throw' Expr
  unfoldable pub throw_expr : Reader Expr
  throw_expr = expect see.Throw >>= λ s. expr >>= λ x. pure (throw_tree s x)

  -- 'match' '{' Cases '}', behind an infix expression
  unfoldable pub match_behind : Infix → Reader Expr
  match_behind i = expect see.Match >> (cases >>= λ c. pure (match_tree i c.0 c.1))

  -- '=' Expr, behind an infix expression
  unfoldable pub assign_behind : Infix → Reader Expr
  assign_behind i = expect see.Equals >> (expr >>= λ x. pure (assign_tree i x))

  -- 'match' '{' Cases '}' | '=' Expr, behind an infix expression
  unfoldable pub behind_infix : Infix → Reader Expr
  behind_infix i = choose (same see.Match) (match_behind i) (assign_behind i)

  -- Infix ['match' '{' Cases '}' | '=' Expr]
  unfoldable pub plain : Reader Expr
  plain = infix_expr >>= λ i. option at_behind (behind_infix i) (plain_expr i)

  -- Expr
  unfoldable pub any : Reader Expr
  any = choose (same see.If) if_expr (choose (same see.While) while_expr (choose (same see.Try) try_expr (choose (same see.Throw) throw_expr plain)))

-- ---- the levels

-- nothing may nest here: it stops for depth where such a thing would begin
unfoldable pub too_deep : {A : Type 0} → (Ahead → Bool) → Reader A
too_deep begins = λ s. Err (record { deep = begins (ahead s.1) && nothing s.0; at = s.1 })
