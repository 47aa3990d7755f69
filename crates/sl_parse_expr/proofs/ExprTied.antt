-- The rules of expressions over readers that are tied. A rule's proof repeats its definition.
use Rattle.std.proofs.Common.{ℕ, Bool, true, List, [], None}
use Rattle.sl_ast.specs.declared.expr.Expr.{Expr}
use Rattle.sl_ast.specs.declared.infix.Infix.{Infix}
use Rattle.sl_ast.specs.declared.pattern.Pattern.{Pattern}
use Rattle.sl_parse_expr.specs.declared.ahead.Ahead.TheVariants as see
use Rattle.sl_parse_expr.specs.Ahead.{same}
use Rattle.sl_parse_expr.specs.LastNew.{stat_ends_in_new}
use Rattle.sl_parse_expr.specs.Starts.{begins_sign, begins_binding, begins_stat}
use Rattle.sl_parse_expr.specs.Tokens.{separates}
use Rattle.sl_parse_expr.specs.Trees.{plain_expr}
use Rattle.sl_parse_expr.specs.Reading.{Reader, clean, waits, absorb, stuck}
use Rattle.sl_parse_expr.specs.Rules.{added, at_comma, at_operator, at_case, at_behind, first_chain, at_suffix, add_suffix, at_item, add_item, semi_from, line_from, next_arg, more_args, some_args, no_args, par_args, typed, local, expr_as_stat, stat, apart, stat_item, block_item, stats, block, braces, literal_start, name_start, this_start, super_start, new_args, new_start, nothing_inside, expr_inside, parens_start, block_start, start, selection, call, block_call, behind_line, line_call, suffix, suffixes, simple, signed, unsigned, prefix, line_operand, operand, operation, operations, infix_expr, guarded, case_reader, more_cases, cases, with_else, third, second, other, condition, if_expr, while_expr, handler, finalizer, try_expr, throw_expr, match_behind, assign_behind, behind_infix, plain, any}
use Rattle.sl_parse_expr.proofs.Choices.{good_absorb}
use Rattle.sl_parse_expr.proofs.Theory.{always}
use Rattle.sl_parse_expr.proofs.Good.{good_name, good_operator, good_sign, good_literal, good_binding, good_separator, good_type, good_lines, good_behind_item}
use Rattle.sl_parse_expr.proofs.Tied.{Tied, alone, word, plainly, given, bind, map, either, looked, chosen, perhaps, held, folded}

stuck_stays : {A : Type 0} (k : ℕ) → Tied {A = A} k stuck stuck stuck
stuck_stays k = alone k stuck (λ st v new e. absurd cc)

module _ {k : ℕ} {e eu ey : Reader Expr} {p pu py : Reader Pattern} (t : Tied k e eu ey) (t_pattern : Tied k p pu py) where
  absorbed : Tied k absorb absorb absorb
  absorbed = plainly k (good_absorb always 0)

  pub tied_next_arg : Tied k (next_arg e p) (next_arg eu pu) (next_arg ey py)
  unfolding next_arg
  tied_next_arg = bind (word k see.Comma) (λ _. t)

  tied_more_args : (xs : List Expr) → Tied k (more_args e p xs) (more_args eu pu xs) (more_args ey py xs)
  unfolding more_args
  tied_more_args xs = folded (clean at_comma) added tied_next_arg xs

  tied_some_args : Tied k (some_args e p) (some_args eu pu) (some_args ey py)
  unfolding some_args
  tied_some_args = bind t (λ x. bind (tied_more_args _) (λ xs. map _ (word k see.CloseParen)))

  tied_no_args : Tied k (no_args e p) (no_args eu pu) (no_args ey py)
  unfolding no_args
  tied_no_args = map _ (word k see.CloseParen)

  pub tied_par_args : Tied k (par_args e p) (par_args eu pu) (par_args ey py)
  unfolding par_args
  tied_par_args = bind (word k see.OpenParen) (λ s. map _ (chosen (same see.CloseParen) tied_no_args tied_some_args))

  tied_typed : Tied k (typed e p) (typed eu pu) (typed ey py)
  unfolding typed
  tied_typed = bind (word k see.Colon) (λ _. map _ (plainly k (good_type 0)))

  tied_local : Tied k (local e p) (local eu pu) (local ey py)
  unfolding local
  tied_local = bind (plainly k (good_binding 0)) (λ b. bind (plainly k (good_name 0)) (λ x. bind (perhaps (same see.Colon) None tied_typed) (λ z. bind (word k see.Equals) (λ _. map _ t))))

  tied_expr_as_stat : Tied k (expr_as_stat e p) (expr_as_stat eu pu) (expr_as_stat ey py)
  unfolding expr_as_stat
  tied_expr_as_stat = map _ t

  tied_stat : Tied k (stat e p) (stat eu pu) (stat ey py)
  unfolding stat
  tied_stat = chosen begins_binding tied_local tied_expr_as_stat

  tied_apart : Tied k (apart e p) (apart eu pu) (apart ey py)
  unfolding apart
  tied_apart = map _ (plainly k (good_separator 0))

  tied_stat_item : Tied k (stat_item e p) (stat_item eu pu) (stat_item ey py)
  unfolding stat_item
  tied_stat_item = bind tied_stat (λ x. map _ (plainly k (good_behind_item 0 (stat_ends_in_new x))))

  pub tied_block_item : Tied k (block_item e p) (block_item eu pu) (block_item ey py)
  unfolding block_item
  tied_block_item = chosen separates tied_apart tied_stat_item

  tied_stats : Tied k (stats e p) (stats eu pu) (stats ey py)
  unfolding stats
  tied_stats = folded (clean (at_item begins_stat)) add_item tied_block_item (true, [])

  tied_block : Tied k (block e p) (block eu pu) (block ey py)
  unfolding block
  tied_block = bind absorbed (λ _. map _ tied_stats)

  tied_braces : Tied k (braces e p) (braces eu pu) (braces ey py)
  unfolding braces
  tied_braces = bind (word k see.OpenBrace) (λ s. bind tied_block (λ b. map _ (word k see.CloseBrace)))

  tied_literal_start : Tied k (literal_start e p) (literal_start eu pu) (literal_start ey py)
  unfolding literal_start
  tied_literal_start = map _ (plainly k (good_literal 0))

  tied_name_start : Tied k (name_start e p) (name_start eu pu) (name_start ey py)
  unfolding name_start
  tied_name_start = map _ (plainly k (good_name 0))

  tied_this_start : Tied k (this_start e p) (this_start eu pu) (this_start ey py)
  unfolding this_start
  tied_this_start = map _ (word k see.This)

  tied_super_start : Tied k (super_start e p) (super_start eu pu) (super_start ey py)
  unfolding super_start
  tied_super_start = bind (word k see.Super) (λ s. bind (word k see.Dot) (λ _. map _ (plainly k (good_name 0))))

  tied_new_args : Tied k (new_args e p) (new_args eu pu) (new_args ey py)
  unfolding new_args
  tied_new_args = map _ tied_par_args

  tied_new_start : Tied k (new_start e p) (new_start eu pu) (new_start ey py)
  unfolding new_start
  tied_new_start = bind (word k see.New) (λ s. bind (plainly k (good_name 0)) (λ x. map _ (perhaps (same see.OpenParen) None tied_new_args)))

  tied_nothing_inside : Tied k (nothing_inside e p) (nothing_inside eu pu) (nothing_inside ey py)
  unfolding nothing_inside
  tied_nothing_inside = map _ (word k see.CloseParen)

  tied_expr_inside : Tied k (expr_inside e p) (expr_inside eu pu) (expr_inside ey py)
  unfolding expr_inside
  tied_expr_inside = bind t (λ x. map _ (word k see.CloseParen))

  tied_parens_start : Tied k (parens_start e p) (parens_start eu pu) (parens_start ey py)
  unfolding parens_start
  tied_parens_start = bind (word k see.OpenParen) (λ s. map _ (chosen (same see.CloseParen) tied_nothing_inside tied_expr_inside))

  tied_block_start : Tied k (block_start e p) (block_start eu pu) (block_start ey py)
  unfolding block_start
  tied_block_start = map _ tied_braces

  tied_start : Tied k (start e p) (start eu pu) (start ey py)
  unfolding start
  tied_start = chosen (same see.Literal) tied_literal_start (chosen (same see.Id) tied_name_start (chosen (same see.This) tied_this_start (chosen (same see.Super) tied_super_start (chosen (same see.New) tied_new_start (chosen (same see.OpenParen) tied_parens_start tied_block_start)))))

  tied_selection : Tied k (selection e p) (selection eu pu) (selection ey py)
  unfolding selection
  tied_selection = bind (word k see.Dot) (λ _. map _ (plainly k (good_name 0)))

  tied_call : Tied k (call e p) (call eu pu) (call ey py)
  unfolding call
  tied_call = map _ tied_par_args

  tied_block_call : Tied k (block_call e p) (block_call eu pu) (block_call ey py)
  unfolding block_call
  tied_block_call = map _ tied_braces

  tied_behind_line : Tied k (behind_line e p) (behind_line eu pu) (behind_line ey py)
  unfolding behind_line
  tied_behind_line = chosen (same see.OpenBrace) (bind absorbed (λ _. tied_block_call)) (given k None)

  tied_line_call : Tied k (line_call e p) (line_call eu pu) (line_call ey py)
  unfolding line_call
  tied_line_call = looked (λ o d. either (same see.Newline o) (held tied_behind_line) (stuck_stays k))

  pub tied_suffix : Tied k (suffix e p) (suffix eu pu) (suffix ey py)
  unfolding suffix
  tied_suffix = chosen (same see.Dot) tied_selection (chosen (same see.OpenParen) tied_call (chosen (same see.OpenBrace) tied_block_call tied_line_call))

  tied_suffixes : (all : Bool) → Tied k (suffixes e p all) (suffixes eu pu all) (suffixes ey py all)
  unfolding suffixes
  tied_suffixes all = folded (clean at_suffix) add_suffix tied_suffix (first_chain all, [])

  tied_simple : Tied k (simple e p) (simple eu pu) (simple ey py)
  unfolding simple
  tied_simple = bind tied_start (λ x. map _ (tied_suffixes x.1))

  tied_signed : Tied k (signed e p) (signed eu pu) (signed ey py)
  unfolding signed
  tied_signed = bind (plainly k (good_sign 0)) (λ g. map _ tied_simple)

  tied_unsigned : Tied k (unsigned e p) (unsigned eu pu) (unsigned ey py)
  unfolding unsigned
  tied_unsigned = map _ tied_simple

  tied_prefix : Tied k (prefix e p) (prefix eu pu) (prefix ey py)
  unfolding prefix
  tied_prefix = chosen begins_sign tied_signed tied_unsigned

  tied_line_operand : Tied k (line_operand e p) (line_operand eu pu) (line_operand ey py)
  unfolding line_operand
  tied_line_operand = bind (word k see.Newline) (λ _. tied_prefix)

  tied_operand : Tied k (operand e p) (operand eu pu) (operand ey py)
  unfolding operand
  tied_operand = chosen (same see.Newline) tied_line_operand tied_prefix

  pub tied_operation : Tied k (operation e p) (operation eu pu) (operation ey py)
  unfolding operation
  tied_operation = bind (plainly k (good_operator 0)) (λ o. map _ tied_operand)

  tied_operations : Tied k (operations e p) (operations eu pu) (operations ey py)
  unfolding operations
  tied_operations = folded (clean at_operator) added tied_operation []

  tied_infix_expr : Tied k (infix_expr e p) (infix_expr eu pu) (infix_expr ey py)
  unfolding infix_expr
  tied_infix_expr = bind tied_prefix (λ x. map _ tied_operations)

  tied_guarded : Tied k (guarded e p) (guarded eu pu) (guarded ey py)
  unfolding guarded
  tied_guarded = bind (word k see.If) (λ _. map _ tied_infix_expr)

  pub tied_case_reader : Tied k (case_reader e p) (case_reader eu pu) (case_reader ey py)
  unfolding case_reader
  tied_case_reader = bind (word k see.Case) (λ s. bind t_pattern (λ q. bind (perhaps (same see.If) None tied_guarded) (λ g. bind (word k see.Arrow) (λ z. map _ tied_block))))

  tied_more_cases : Tied k (more_cases e p) (more_cases eu pu) (more_cases ey py)
  unfolding more_cases
  tied_more_cases = folded (clean at_case) added tied_case_reader []

  tied_cases : Tied k (cases e p) (cases eu pu) (cases ey py)
  unfolding cases
  tied_cases = bind (word k see.OpenBrace) (λ _. bind tied_case_reader (λ x. bind tied_more_cases (λ xs. map _ (word k see.CloseBrace))))

  tied_with_else : Tied k (with_else e p) (with_else eu pu) (with_else ey py)
  unfolding with_else
  tied_with_else = bind absorbed (λ _. bind (word k see.Else) (λ _. map _ t))

  tied_third : Tied k (third e p) (third eu pu) (third ey py)
  unfolding third
  tied_third = looked (λ o d. either (same see.Else o) tied_with_else (given k None))

  tied_second : Tied k (second e p) (second eu pu) (second ey py)
  unfolding second
  tied_second = looked (λ o d. either (same see.Else o) tied_with_else (either (same see.Newline o) (held tied_third) (given k None)))

  tied_other : Tied k (other e p) (other eu pu) (other ey py)
  unfolding other
  tied_other = looked (λ o d. either (same see.Else o) tied_with_else (either (semi_from (waits d) o) (held tied_third) (either (line_from (waits d) o) (held tied_second) (given k None))))

  tied_condition : Tied k (condition e p) (condition eu pu) (condition ey py)
  unfolding condition
  tied_condition = bind (word k see.OpenParen) (λ _. bind t (λ c. bind (word k see.CloseParen) (λ _. map _ (plainly k (good_lines 0)))))

  tied_if_expr : Tied k (if_expr e p) (if_expr eu pu) (if_expr ey py)
  unfolding if_expr
  tied_if_expr = bind (word k see.If) (λ s. bind tied_condition (λ c. bind t (λ x. map _ tied_other)))

  tied_while_expr : Tied k (while_expr e p) (while_expr eu pu) (while_expr ey py)
  unfolding while_expr
  tied_while_expr = bind (word k see.While) (λ s. bind tied_condition (λ c. map _ t))

  tied_handler : Tied k (handler e p) (handler eu pu) (handler ey py)
  unfolding handler
  tied_handler = bind (word k see.Catch) (λ _. map _ tied_cases)

  tied_finalizer : Tied k (finalizer e p) (finalizer eu pu) (finalizer ey py)
  unfolding finalizer
  tied_finalizer = bind (word k see.Finally) (λ _. map _ t)

  tied_try_expr : Tied k (try_expr e p) (try_expr eu pu) (try_expr ey py)
  unfolding try_expr
  tied_try_expr = bind (word k see.Try) (λ s. bind t (λ x. bind (perhaps (same see.Catch) None tied_handler) (λ c. map _ (perhaps (same see.Finally) None tied_finalizer))))

  tied_throw_expr : Tied k (throw_expr e p) (throw_expr eu pu) (throw_expr ey py)
  unfolding throw_expr
  tied_throw_expr = bind (word k see.Throw) (λ s. map _ t)

  tied_match_behind : (i : Infix) → Tied k (match_behind e p i) (match_behind eu pu i) (match_behind ey py i)
  unfolding match_behind
  tied_match_behind i = bind (word k see.Match) (λ _. map _ tied_cases)

  tied_assign_behind : (i : Infix) → Tied k (assign_behind e p i) (assign_behind eu pu i) (assign_behind ey py i)
  unfolding assign_behind
  tied_assign_behind i = bind (word k see.Equals) (λ _. map _ t)

  tied_behind_infix : (i : Infix) → Tied k (behind_infix e p i) (behind_infix eu pu i) (behind_infix ey py i)
  unfolding behind_infix
  tied_behind_infix i = chosen (same see.Match) (tied_match_behind i) (tied_assign_behind i)

  tied_plain : Tied k (plain e p) (plain eu pu) (plain ey py)
  unfolding plain
  tied_plain = bind tied_infix_expr (λ i. perhaps at_behind (plain_expr i) (tied_behind_infix i))

  pub tied_any : Tied k (any e p) (any eu pu) (any ey py)
  unfolding any
  tied_any = chosen (same see.If) tied_if_expr (chosen (same see.While) tied_while_expr (chosen (same see.Try) tied_try_expr (chosen (same see.Throw) tied_throw_expr tied_plain)))
