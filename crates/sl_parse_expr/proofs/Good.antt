-- Each rule depends on the tokens that it takes and on the next one. A rule's proof repeats its definition.
use Rattle.std.proofs.Common.{◌≡◌, ℕ, Bool, true, false, List, [], ◌∷◌, ◌++◌, Option, Some, None, refl, sym, ap, subst, ◌∙◌, inl, inr, ◌⊎◌}
use Rattle.std.specs.Prelude.{if◌then◌else◌}
use lib.Utf8.{encode}
use Rattle.sl_text.specs.declared.span.Span.{Span}
use Rattle.sl_ast.specs.declared.token.Token.{Token}
use Rattle.sl_ast.specs.declared.ident.Ident.{Ident}
use Rattle.sl_ast.specs.declared.literal.Literal.TheVariants as literals
use Rattle.sl_ast.specs.declared.operator.Operator.TheVariants as operators
use Rattle.sl_ast.specs.declared.operator.Sign.TheVariants as signs
use Rattle.sl_ast.specs.declared.binding.Binding.TheVariants as bindings
use Rattle.sl_ast.specs.declared.expr.Expr.{Expr}
use Rattle.sl_ast.specs.declared.infix.Infix.{Infix}
use Rattle.sl_ast.specs.declared.pattern.Pattern.{Pattern}
use Rattle.sl_ast.specs.declared.simple.Suffix.{Suffix}
use Rattle.sl_ast.specs.declared.block.Stat.{Stat}
use Rattle.sl_parse_expr.specs.declared.ahead.Ahead.{Ahead}
use Rattle.sl_parse_expr.specs.declared.ahead.Ahead.TheVariants as see
use Rattle.sl_parse_expr.specs.declared.cursor.Waiting.{Waiting}
use Rattle.sl_parse_expr.specs.declared.cursor.Waiting.TheVariants as waiting
use Rattle.sl_parse_expr.specs.declared.chain.Chain.{Chain}
use Rattle.sl_parse_expr.specs.declared.chain.Chain.TheVariants as chain
use Rattle.sl_parse_expr.specs.Ahead.{sort, same}
use Rattle.sl_parse_expr.specs.LastNew.{stat_ends_in_new}
use Rattle.sl_parse_expr.specs.Starts.{begins_sign, begins_binding, begins_stat}
use Rattle.sl_parse_expr.specs.Tokens.{ident_of, operator_of, sign_of, literal_of, binding_of, separator_of, separates}
use Rattle.sl_parse_expr.specs.Trees.{par_args_tree, new_tree, super_tree, simple_tree, prefix_tree, operation_tree, infix_tree, if_tree, while_tree, try_tree, throw_tree, match_tree, assign_tree, local_tree, case_tree, cases_tree, block_tree, parens_tree, block_head, name_head, literal_head, this_head, select, apply, apply_block, applied_type, named_type, plain_expr, expr_stat}
use Rattle.sl_parse_expr.specs.Reading.{Reader, ◌>>◌, pure, stuck, expect, hold, absorb, option, waits}
use Rattle.sl_parse_expr.specs.Rules.{added, name, operator, sign, literal, binding, separator, applied, type_tree, at_line, one_more, lines, at_comma, at_operator, at_case, first_chain, goes_chain, at_suffix, add_suffix, at_item, add_item, no_brace, bare_line, behind_bare, behind_new, behind_item, semi_from, line_from, at_behind, next_arg, more_args, some_args, no_args, par_args, typed, local, expr_as_stat, stat, apart, stat_item, block_item, stats, block, braces, literal_start, name_start, this_start, super_start, new_args, new_start, nothing_inside, expr_inside, parens_start, block_start, start, selection, call, block_call, behind_line, line_call, suffix, suffixes, simple, signed, unsigned, prefix, line_operand, operand, operation, operations, infix_expr, guarded, case_reader, more_cases, cases, with_else, third, third_by, second, second_by, other, other_by, condition, if_expr, while_expr, handler, finalizer, try_expr, throw_expr, match_behind, assign_behind, behind_infix, plain, any}
use Rattle.sl_parse_expr.proofs.Theory.{Good, At, Completes, always, good_one, good_look, bind, map, give, at_hold, at_left, at_stuck, good_option}
use Rattle.sl_parse_expr.proofs.Choices.{good_absorb, good_settle, good_loop, both_false}
use Rattle.sl_parse_expr.proofs.Shorter.{tk, last, pick, else_pick, perhaps, fewer}
use Rattle.sl_parse_expr.proofs.Words.{nowhere, key, mark, t_name, t_line, t_minus, lit, under, open_paren, close_paren, open_bracket, close_bracket, open_brace, close_brace, comma, semi, dot}
use Rattle.sl_parse_expr.proofs.Ends.{closers, arrows, brace, starts, no_bracket, at_closers, at_brace, not_bracket, not_line}

-- ---- single tokens

pub good_name : (n : ℕ) → Good always (t_name ∷ []) n (λ _. name)
unfolding name ident_of
good_name n = good_one n ident_of t_name (record { name = []; span = nowhere }) refl

pub good_operator : (n : ℕ) → Good always (t_name ∷ []) n (λ _. operator)
unfolding operator operator_of
good_operator n = good_one n operator_of t_name (operators.Id (record { name = []; span = nowhere })) refl

pub good_sign : (n : ℕ) → Good always (t_minus ∷ []) n (λ _. sign)
unfolding sign sign_of encode
good_sign n = good_one n sign_of t_minus (signs.Minus, nowhere) refl

pub good_literal : (n : ℕ) → Good always lit n (λ _. literal)
unfolding literal literal_of
good_literal n = good_one n literal_of (key 20) (literals.Null nowhere) refl

pub good_binding : (n : ℕ) → Good always (key 35 ∷ []) n (λ _. binding)
unfolding binding binding_of sort
good_binding n = good_one n binding_of (key 35) (bindings.Val, nowhere) refl

pub good_separator : (n : ℕ) → Good always (semi ∷ []) n (λ _. separator)
unfolding separator separator_of sort
good_separator n = good_one n separator_of semi tt refl

-- ---- types and line ends

good_applied : (n : ℕ) (x : Ident) → Good always (open_bracket ∷ t_name ∷ close_bracket ∷ []) n (λ _. applied x)
unfolding applied sort
good_applied n x = bind (tk see.OpenBracket open_bracket refl) (λ _. bind (good_name n) (λ y. map (λ s. applied_type x y s) (tk see.CloseBracket close_bracket refl)) refl) refl

pub good_type : (n : ℕ) → Good no_bracket (t_name ∷ []) n (λ _. type_tree)
unfolding type_tree
good_type n = bind (good_name n) (λ x. perhaps (same see.OpenBracket) (named_type x) (fewer (λ o h. refl) (good_applied n x)) refl not_bracket) (λ u h. refl)

pub good_lines : (n : ℕ) → Good starts [] n (λ _. lines)
unfolding lines sort
good_lines n = good_loop at_line starts (t_line ∷ []) n (λ _. expect see.Newline) one_more (λ s. refl) (λ s o h. not_line o h) refl (last see.Newline t_line refl) tt

pub newline : (n : ℕ) → Good always (t_line ∷ []) n (λ _. expect see.Newline)
unfolding sort
newline n = tk see.Newline t_line refl

-- ---- behind an item

abbrev unless_brace : Ahead → Reader (Unit {0})
unless_brace o = if same see.OpenBrace o then stuck else pure tt

abbrev stuck_or : Bool → Reader (Unit {0})
stuck_or b = if b then stuck else pure tt

brace_at : (n : ℕ) (d : List Token) (t : Token) (v : Bool) → same see.OpenBrace (sort t) ≡ v → At {A = Unit {0}} brace n (λ _. unless_brace (sort t)) d t ⊎ ((m : ℕ) → unless_brace (sort t) ≡ pure {A = Unit {0}} tt)
brace_at n d t true i = inl (subst (λ (z : Bool). At {A = Unit {0}} brace n (λ _. stuck_or z) d t) (sym i) (at_stuck brace n d t))
brace_at n d t false i = inr (λ m. ap stuck_or i)

good_no_brace : (n : ℕ) → Good brace [] n (λ _. no_brace)
unfolding no_brace
good_no_brace n = good_option brace n (λ m o d. unless_brace o) (tt {0}) (λ d m. refl) (λ d m t h. at_brace (λ o. unless_brace o ≡ pure {A = Unit {0}} tt) refl (sort t) h) (λ d t. brace_at n d t (same see.OpenBrace (sort t)) refl)

good_bare_line : (n : ℕ) → Good brace (t_line ∷ []) n (λ _. bare_line)
unfolding bare_line
good_bare_line n = bind (newline n) (λ _. map (λ _. false) (good_no_brace n)) (λ u h. refl)

good_behind_bare : (n : ℕ) (w : Waiting) → Good brace [] n (λ _. behind_bare w)
good_behind_bare n waiting.Nothing = perhaps (same see.Newline) true (good_bare_line n) refl (at_brace (λ o. same see.Newline o ≡ false) refl)
good_behind_bare n waiting.Line = map (λ _. false) (good_no_brace n)
good_behind_bare n waiting.More = give false

good_behind_new : (n : ℕ) → Good brace [] n (λ _. behind_new)
unfolding behind_new
good_behind_new n = bind (good_settle always n) (λ w. good_behind_bare n w) (λ u h. refl)

pub good_behind_item : (n : ℕ) (bare : Bool) → Good brace [] n (λ _. behind_item bare)
good_behind_item n true = good_behind_new n
good_behind_item n false = good_absorb brace n

-- ---- where loops end

pub item_none : (s : Bool × List Stat) → at_item begins_stat s see.End ≡ false
item_none s = both_false s.0

pub suffix_none : (s : Chain × List Suffix) → at_suffix s see.End ≡ false
suffix_none s = go s.0
  where
    go : (c : Chain) → goes_chain c see.End ≡ false
    go chain.All = refl
    go chain.Selections = refl
    go chain.Over = refl

-- ---- the rules, over families of readers of the expressions and patterns inside

module _ (n : ℕ) (a : ℕ → Reader Expr) (b : ℕ → Reader Pattern) (good : Good closers lit n a) (good_pattern : Good arrows under n b) where
  pub good_next_arg : Good closers (comma ∷ lit) n (λ m. next_arg (a m) (b m))
  unfolding next_arg sort
  good_next_arg = bind (tk see.Comma comma refl) (λ _. good) refl

  good_more_args : (xs : List Expr) → Good closers [] n (λ m. more_args (a m) (b m) xs)
  unfolding more_args
  good_more_args xs = good_loop at_comma closers (comma ∷ lit) n (λ m. next_arg (a m) (b m)) added (λ s. refl) (λ s. at_closers (λ o. at_comma s o ≡ false) refl refl refl refl) refl good_next_arg xs

  good_no_args : Good closers (close_paren ∷ []) n (λ m. no_args (a m) (b m))
  unfolding no_args sort
  good_no_args = map (λ s. ([], s)) (last see.CloseParen close_paren refl)

  good_some_args : Good closers (key 20 ∷ close_paren ∷ []) n (λ m. some_args (a m) (b m))
  unfolding some_args sort
  good_some_args = bind good (λ x. bind (good_more_args (x ∷ [])) (λ xs. map (λ s. (xs, s)) (last see.CloseParen close_paren refl)) refl) refl

  pub good_par_args : Good closers (open_paren ∷ close_paren ∷ []) n (λ m. par_args (a m) (b m))
  unfolding par_args sort
  good_par_args = bind (tk see.OpenParen open_paren refl) (λ s. map (λ xs. par_args_tree s xs.0 xs.1) (pick (same see.CloseParen) good_no_args good_some_args refl refl refl)) refl

  -- ---- blocks

  good_typed : Good no_bracket (mark 1 ∷ t_name ∷ []) n (λ m. typed (a m) (b m))
  unfolding typed sort
  good_typed = bind (tk see.Colon (mark 1) refl) (λ _. map (λ t. Some t) (good_type n)) refl

  good_local : Good closers (key 35 ∷ t_name ∷ mark 2 ∷ lit) n (λ m. local (a m) (b m))
  unfolding local sort
  good_local = bind (good_binding n) (λ g. bind (good_name n) (λ x. bind (perhaps {ends = λ o. same see.Equals o} (same see.Colon) None (fewer at_equals good_typed) refl not_colon) (λ t. bind (tk see.Equals (mark 2) refl) (λ _. map (λ e. local_tree g.0 g.1 x t e) good) refl) refl) refl) refl
    where
      at_equals : (o : Ahead) → same see.Equals o ≡ true → no_bracket o ≡ true
      at_equals see.OpenBracket h = absurd cc
      at_equals o h = refl

      not_colon : (o : Ahead) → same see.Equals o ≡ true → same see.Colon o ≡ false
      not_colon see.Colon h = absurd cc
      not_colon o h = refl

  good_expr_as_stat : Good closers lit n (λ m. expr_as_stat (a m) (b m))
  unfolding expr_as_stat
  good_expr_as_stat = map (λ e. expr_stat e) good

  good_stat : Good closers lit n (λ m. stat (a m) (b m))
  unfolding stat sort
  good_stat = else_pick begins_binding good_local good_expr_as_stat refl refl refl

  good_apart : Good brace (semi ∷ []) n (λ m. apart (a m) (b m))
  unfolding apart
  good_apart = map (λ _. None) (fewer (λ o h. refl) (good_separator n))

  good_stat_item : Good brace lit n (λ m. stat_item (a m) (b m))
  unfolding stat_item
  good_stat_item = bind (fewer (at_brace (λ o. closers o ≡ true) refl) good_stat) (λ x. map (λ c. Some (x, c)) (good_behind_item n (stat_ends_in_new x))) (λ u h. h)

  pub good_block_item : Good brace (semi ∷ []) n (λ m. block_item (a m) (b m))
  unfolding block_item sort
  good_block_item = pick separates good_apart good_stat_item refl refl refl

  item_over : (s : Bool × List Stat) (o : Ahead) → brace o ≡ true → at_item begins_stat s o ≡ false
  item_over s = at_brace (λ o. at_item begins_stat s o ≡ false) (both_false s.0)

  good_stats : Good brace [] n (λ m. stats (a m) (b m))
  unfolding stats
  good_stats = good_loop (at_item begins_stat) brace (semi ∷ []) n (λ m. block_item (a m) (b m)) add_item item_none item_over refl good_block_item (true, [])

  good_block : Good brace [] n (λ m. block (a m) (b m))
  unfolding block
  good_block = bind (good_absorb always n) (λ _. map (λ s. block_tree s.1) good_stats) (λ u h. refl)

  pub good_braces : Good closers (open_brace ∷ close_brace ∷ []) n (λ m. braces (a m) (b m))
  unfolding braces sort
  good_braces = bind (tk see.OpenBrace open_brace refl) (λ s. bind good_block (λ x. map (λ t. (x, joined s t)) (last see.CloseBrace close_brace refl)) refl) refl
    where
      joined : Span → Span → Span
      joined s t = record { from = s.from; to = t.to }

  -- ---- simple expressions

  good_literal_start : Good closers lit n (λ m. literal_start (a m) (b m))
  unfolding literal_start
  good_literal_start = map (λ x. (literal_head x, true)) (fewer (λ o h. refl) (good_literal n))

  good_name_start : Good closers (t_name ∷ []) n (λ m. name_start (a m) (b m))
  unfolding name_start
  good_name_start = map (λ x. (name_head x, true)) (fewer (λ o h. refl) (good_name n))

  good_this_start : Good closers (key 29 ∷ []) n (λ m. this_start (a m) (b m))
  unfolding this_start sort
  good_this_start = map (λ s. (this_head s, true)) (last see.This (key 29) refl)

  good_super_start : Good closers (key 28 ∷ dot ∷ t_name ∷ []) n (λ m. super_start (a m) (b m))
  unfolding super_start sort
  good_super_start = bind (tk see.Super (key 28) refl) (λ s. bind (tk see.Dot dot refl) (λ _. map (λ x. (super_tree s x, true)) (fewer (λ o h. refl) (good_name n))) refl) refl

  good_new_args : Good closers (open_paren ∷ close_paren ∷ []) n (λ m. new_args (a m) (b m))
  unfolding new_args
  good_new_args = map (λ x. Some x) good_par_args

  good_new_start : Good closers (key 19 ∷ t_name ∷ []) n (λ m. new_start (a m) (b m))
  unfolding new_start sort
  good_new_start = bind (tk see.New (key 19) refl) (λ s. bind (good_name n) (λ x. map (λ p. (new_tree s x p, false)) (perhaps (same see.OpenParen) None good_new_args refl (at_closers (λ o. same see.OpenParen o ≡ false) refl refl refl refl))) (λ u h. refl)) refl

  good_nothing_inside : Good closers (close_paren ∷ []) n (λ m. nothing_inside (a m) (b m))
  unfolding nothing_inside sort
  good_nothing_inside = map (λ t. (None, t)) (last see.CloseParen close_paren refl)

  good_expr_inside : Good closers (key 20 ∷ close_paren ∷ []) n (λ m. expr_inside (a m) (b m))
  unfolding expr_inside sort
  good_expr_inside = bind good (λ x. map (λ t. (Some x, t)) (last see.CloseParen close_paren refl)) refl

  good_parens_start : Good closers (open_paren ∷ close_paren ∷ []) n (λ m. parens_start (a m) (b m))
  unfolding parens_start sort
  good_parens_start = bind (tk see.OpenParen open_paren refl) (λ s. map (λ x. (parens_tree s x.0 x.1, true)) (pick (same see.CloseParen) good_nothing_inside good_expr_inside refl refl refl)) refl

  good_block_start : Good closers (open_brace ∷ close_brace ∷ []) n (λ m. block_start (a m) (b m))
  unfolding block_start
  good_block_start = map (λ x. (block_head x.0 x.1, false)) good_braces

  pub good_start : Good closers lit n (λ m. start (a m) (b m))
  unfolding start sort
  good_start = pick (same see.Literal) good_literal_start (pick (same see.Id) good_name_start (pick (same see.This) good_this_start (pick (same see.Super) good_super_start (pick (same see.New) good_new_start (pick (same see.OpenParen) good_parens_start good_block_start refl refl refl) refl refl refl) refl refl refl) refl refl refl) refl refl refl) refl refl refl

  good_selection : Good closers (dot ∷ t_name ∷ []) n (λ m. selection (a m) (b m))
  unfolding selection sort
  good_selection = bind (tk see.Dot dot refl) (λ _. map (λ x. Some (select x)) (fewer (λ o h. refl) (good_name n))) refl

  good_call : Good closers (open_paren ∷ close_paren ∷ []) n (λ m. call (a m) (b m))
  unfolding call
  good_call = map (λ x. Some (apply x)) good_par_args

  good_block_call : Good closers (open_brace ∷ close_brace ∷ []) n (λ m. block_call (a m) (b m))
  unfolding block_call
  good_block_call = map (λ x. Some (apply_block x.0 x.1)) good_braces

  good_absorbed_call : Good closers (open_brace ∷ close_brace ∷ []) n (λ m. absorb >> block_call (a m) (b m))
  unfolding sort
  good_absorbed_call = bind (good_absorb always n) (λ _. good_block_call) refl

  abbrev behind_by : ℕ → Ahead → List Token → Reader (Option Suffix)
  behind_by m o d = if same see.OpenBrace o then absorb >> block_call (a m) (b m) else pure None

  behind_at : (d : List Token) (t : Token) → (v : Bool) → same see.OpenBrace (sort t) ≡ v → At closers n (λ m. behind_by m (sort t) d) d t ⊎ ((m : ℕ) → behind_by m (sort t) d ≡ pure None)
  behind_at d t true i = inl (subst (λ (z : Bool). At closers n (λ m. if z then absorb >> block_call (a m) (b m) else pure None) d t) (sym i) (at_left closers (open_brace ∷ close_brace ∷ []) n (λ m. absorb >> block_call (a m) (b m)) d t refl good_absorbed_call))
  behind_at d t false i = inr (λ m. ap (λ (z : Bool). if z then absorb >> block_call (a m) (b m) else pure None) i)

  good_behind_line : Good closers [] n (λ m. behind_line (a m) (b m))
  unfolding behind_line
  good_behind_line = good_option closers n behind_by None (λ d m. refl) (λ d m t h. at_closers (λ o. behind_by m o d ≡ pure None) refl refl refl refl (sort t) h) (λ d t. behind_at d t (same see.OpenBrace (sort t)) refl)

  behind_done : (d : List Token) → Completes closers n (λ m. behind_line (a m) (b m)) d []
  unfolding behind_line absorb sort
  behind_done d = (open_brace ∷ close_brace ∷ [], λ m l follow h. good_block_call.can m l follow h)

  abbrev line_by : ℕ → Ahead → List Token → Reader (Option Suffix)
  line_by m o d = if same see.Newline o then hold (behind_line (a m) (b m)) else stuck

  line_at : (d : List Token) (t : Token) → (v : Bool) → same see.Newline (sort t) ≡ v → At closers n (λ m. line_by m (sort t) d) d t
  line_at d t true i = subst (λ (z : Bool). At closers n (λ m. if z then hold (behind_line (a m) (b m)) else stuck) d t) (sym i) (at_hold closers [] n (λ m. behind_line (a m) (b m)) d t good_behind_line (behind_done (d ++ t ∷ [])))
  line_at d t false i = subst (λ (z : Bool). At closers n (λ m. if z then hold (behind_line (a m) (b m)) else stuck) d t) (sym i) (at_stuck closers n d t)

  good_line_call : Good closers (t_line ∷ open_brace ∷ close_brace ∷ []) n (λ m. line_call (a m) (b m))
  unfolding line_call behind_line absorb sort
  good_line_call = good_look closers n line_by (t_line ∷ open_brace ∷ close_brace ∷ []) (λ d m. refl) (λ d t. line_at d t (same see.Newline (sort t)) refl) (λ m l follow h. good_block_call.can m l follow h)

  pub good_suffix : Good closers (dot ∷ t_name ∷ []) n (λ m. suffix (a m) (b m))
  unfolding suffix sort
  good_suffix = pick (same see.Dot) good_selection (pick (same see.OpenParen) good_call (pick (same see.OpenBrace) good_block_call good_line_call refl refl refl) refl refl refl) refl refl refl

  suffix_over : (s : Chain × List Suffix) (o : Ahead) → closers o ≡ true → at_suffix s o ≡ false
  suffix_over s o h = go s.0
    where
      go : (c : Chain) → goes_chain c o ≡ false
      go chain.All = at_closers (λ o. goes_chain chain.All o ≡ false) refl refl refl refl o h
      go chain.Selections = at_closers (λ o. goes_chain chain.Selections o ≡ false) refl refl refl refl o h
      go chain.Over = refl

  good_suffixes : (all : Bool) → Good closers [] n (λ m. suffixes (a m) (b m) all)
  unfolding suffixes
  good_suffixes all = good_loop at_suffix closers (dot ∷ t_name ∷ []) n (λ m. suffix (a m) (b m)) add_suffix suffix_none suffix_over refl good_suffix (first_chain all, [])

  pub good_simple : Good closers lit n (λ m. simple (a m) (b m))
  unfolding simple
  good_simple = bind good_start (λ x. map (λ w. simple_tree x.0 w.1) (good_suffixes x.1)) (λ u h. h)

  -- ---- operators

  good_signed : Good closers (t_minus ∷ lit) n (λ m. signed (a m) (b m))
  unfolding signed
  good_signed = bind (good_sign n) (λ g. map (λ x. prefix_tree (Some g) x) good_simple) refl

  good_unsigned : Good closers lit n (λ m. unsigned (a m) (b m))
  unfolding unsigned
  good_unsigned = map (λ x. prefix_tree None x) good_simple

  good_prefix : Good closers lit n (λ m. prefix (a m) (b m))
  unfolding prefix sort
  good_prefix = else_pick begins_sign good_signed good_unsigned refl refl refl

  good_line_operand : Good closers (t_line ∷ lit) n (λ m. line_operand (a m) (b m))
  unfolding line_operand sort
  good_line_operand = bind (tk see.Newline t_line refl) (λ _. good_prefix) refl

  good_operand : Good closers lit n (λ m. operand (a m) (b m))
  unfolding operand sort
  good_operand = else_pick (same see.Newline) good_line_operand good_prefix refl refl refl

  pub good_operation : Good closers (t_name ∷ lit) n (λ m. operation (a m) (b m))
  unfolding operation
  good_operation = bind (good_operator n) (λ o. map (λ x. operation_tree o x) good_operand) refl

  good_operations : Good closers [] n (λ m. operations (a m) (b m))
  unfolding operations
  good_operations = good_loop at_operator closers (t_name ∷ lit) n (λ m. operation (a m) (b m)) added (λ s. refl) (λ s. at_closers (λ o. at_operator s o ≡ false) refl refl refl refl) refl good_operation []

  good_infix : Good closers lit n (λ m. infix_expr (a m) (b m))
  unfolding infix_expr
  good_infix = bind good_prefix (λ x. map (λ xs. infix_tree x xs) good_operations) (λ u h. h)

  -- ---- cases

  abbrev arrow : Ahead → Bool
  arrow o = same see.Arrow o

  at_arrow : (P : Ahead → Type 0) → P see.Arrow → (o : Ahead) → arrow o ≡ true → P o
  at_arrow P p see.Arrow h = p
  at_arrow P p o h = absurd cc

  good_guarded : Good closers (key 13 ∷ lit) n (λ m. guarded (a m) (b m))
  unfolding guarded sort
  good_guarded = bind (tk see.If (key 13) refl) (λ _. map (λ x. Some x) good_infix) refl

  good_guard : Good arrow [] n (λ m. option (same see.If) (guarded (a m) (b m)) None)
  good_guard = perhaps (same see.If) None (fewer (at_arrow (λ o. closers o ≡ true) refl) good_guarded) refl (at_arrow (λ o. same see.If o ≡ false) refl)

  pub good_case : Good brace (key 1 ∷ mark 0 ∷ mark 3 ∷ []) n (λ m. case_reader (a m) (b m))
  unfolding case_reader sort
  good_case = bind (tk see.Case (key 1) refl) (λ s. bind good_pattern (λ p. bind good_guard (λ g. bind (tk see.Arrow (mark 3) refl) (λ t. map (λ x. case_tree s p g t x) good_block) (λ u h. refl)) refl) refl) refl

  good_more_cases : Good brace [] n (λ m. more_cases (a m) (b m))
  unfolding more_cases
  good_more_cases = good_loop at_case brace (key 1 ∷ mark 0 ∷ mark 3 ∷ []) n (λ m. case_reader (a m) (b m)) added (λ s. refl) (λ s. at_brace (λ o. at_case s o ≡ false) refl) refl good_case []

  good_cases : Good closers (open_brace ∷ key 1 ∷ mark 0 ∷ mark 3 ∷ close_brace ∷ []) n (λ m. cases (a m) (b m))
  unfolding cases sort
  good_cases = bind (tk see.OpenBrace open_brace refl) (λ _. bind good_case (λ x. bind good_more_cases (λ xs. map (λ s. (cases_tree x xs, s)) (last see.CloseBrace close_brace refl)) refl) refl) refl

  -- ---- expressions

  good_with_else : Good closers (key 6 ∷ lit) n (λ m. with_else (a m) (b m))
  unfolding with_else sort
  good_with_else = bind (good_absorb always n) (λ _. bind (tk see.Else (key 6) refl) (λ _. map (λ x. Some x) good) refl) refl

  else_at : (q : ℕ → Reader (Option Expr)) (d : List Token) (t : Token) (v : Bool) → same see.Else (sort t) ≡ v → (v ≡ false → At closers n q d t ⊎ ((m : ℕ) → q m ≡ pure None))
      → At closers n (λ m. if same see.Else (sort t) then with_else (a m) (b m) else q m) d t ⊎ ((m : ℕ) → (if same see.Else (sort t) then with_else (a m) (b m) else q m) ≡ pure None)
  else_at q d t true i k = inl (subst (λ (z : Bool). At closers n (λ m. if z then with_else (a m) (b m) else q m) d t) (sym i) (at_left closers (key 6 ∷ lit) n (λ m. with_else (a m) (b m)) d t refl good_with_else))
  else_at q d t false i k = elim (k refl) [
    | inl y ↦ inl (subst (λ (z : Bool). At closers n (λ m. if z then with_else (a m) (b m) else q m) d t) (sym i) y)
    | inr y ↦ inr (λ m. ap (λ (z : Bool). if z then with_else (a m) (b m) else q m) i ∙ y m)
  ]

  hold_at : (test : Bool) (p q : ℕ → Reader (Option Expr)) (d : List Token) (t : Token) (v : Bool) → test ≡ v → Good closers [] n p → Completes closers n p (d ++ t ∷ []) [] → At closers n q d t ⊎ ((m : ℕ) → q m ≡ pure None)
      → At closers n (λ m. if test then hold (p m) else q m) d t ⊎ ((m : ℕ) → (if test then hold (p m) else q m) ≡ pure None)
  hold_at test p q d t true i g c k = inl (subst (λ (z : Bool). At closers n (λ m. if z then hold (p m) else q m) d t) (sym i) (at_hold closers [] n p d t g c))
  hold_at test p q d t false i g c k = elim k [
    | inl y ↦ inl (subst (λ (z : Bool). At closers n (λ m. if z then hold (p m) else q m) d t) (sym i) y)
    | inr y ↦ inr (λ m. ap (λ (z : Bool). if z then hold (p m) else q m) i ∙ y m)
  ]

  good_third : Good closers [] n (λ m. third (a m) (b m))
  unfolding third
  good_third = good_option closers n (λ m. third_by (a m) (b m)) None (λ d m. refl) (λ d m t h. at_closers (λ o. third_by (a m) (b m) o d ≡ pure None) refl refl refl refl (sort t) h) (λ d t. else_at (λ _. pure None) d t (same see.Else (sort t)) refl (λ _. inr (λ m. refl)))

  third_done : (d : List Token) → Completes closers n (λ m. third (a m) (b m)) d []
  unfolding third with_else absorb sort
  third_done d = (key 6 ∷ lit, λ m l follow h. good_with_else.can m l follow h)

  good_second : Good closers [] n (λ m. second (a m) (b m))
  unfolding second
  good_second = good_option closers n (λ m. second_by (a m) (b m)) None (λ d m. refl) (λ d m t h. at_closers (λ o. second_by (a m) (b m) o d ≡ pure None) refl refl refl refl (sort t) h)
      (λ d t. else_at (λ m. if same see.Newline (sort t) then hold (third (a m) (b m)) else pure None) d t (same see.Else (sort t)) refl (λ _. hold_at (same see.Newline (sort t)) (λ m. third (a m) (b m)) (λ _. pure None) d t (same see.Newline (sort t)) refl good_third (third_done (d ++ t ∷ [])) (inr (λ m. refl))))

  second_done : (d : List Token) → Completes closers n (λ m. second (a m) (b m)) d []
  unfolding second with_else absorb sort
  second_done d = (key 6 ∷ lit, λ m l follow h. good_with_else.can m l follow h)

  other_stays : (d : List Token) (m : ℕ) (o : Ahead) → closers o ≡ true → other_by (a m) (b m) o d ≡ pure None
  other_stays d m o h = go (waits d) o h
    where
      go : (w : Waiting) (o : Ahead) → closers o ≡ true → (if same see.Else o then with_else (a m) (b m) else if semi_from w o then hold (third (a m) (b m)) else if line_from w o then hold (second (a m) (b m)) else pure None) ≡ pure None
      go waiting.Nothing o h = at_closers (λ o. (if same see.Else o then with_else (a m) (b m) else if semi_from waiting.Nothing o then hold (third (a m) (b m)) else if line_from waiting.Nothing o then hold (second (a m) (b m)) else pure None) ≡ pure None) refl refl refl refl o h
      go waiting.Line o h = at_closers (λ o. (if same see.Else o then with_else (a m) (b m) else if semi_from waiting.Line o then hold (third (a m) (b m)) else if line_from waiting.Line o then hold (second (a m) (b m)) else pure None) ≡ pure None) refl refl refl refl o h
      go waiting.More o h = at_closers (λ o. (if same see.Else o then with_else (a m) (b m) else if semi_from waiting.More o then hold (third (a m) (b m)) else if line_from waiting.More o then hold (second (a m) (b m)) else pure None) ≡ pure None) refl refl refl refl o h

  other_none : (d : List Token) (m : ℕ) → other_by (a m) (b m) see.End d ≡ pure None
  other_none d m = other_stays d m see.End refl

  pub good_other : Good closers [] n (λ m. other (a m) (b m))
  unfolding other
  good_other = good_option closers n (λ m. other_by (a m) (b m)) None other_none (λ d m t h. other_stays d m (sort t) h)
      (λ d t. else_at (λ m. if semi_from (waits d) (sort t) then hold (third (a m) (b m)) else if line_from (waits d) (sort t) then hold (second (a m) (b m)) else pure None) d t (same see.Else (sort t)) refl
      (λ _. hold_at (semi_from (waits d) (sort t)) (λ m. third (a m) (b m)) (λ m. if line_from (waits d) (sort t) then hold (second (a m) (b m)) else pure None) d t (semi_from (waits d) (sort t)) refl good_third (third_done (d ++ t ∷ []))
      (hold_at (line_from (waits d) (sort t)) (λ m. second (a m) (b m)) (λ _. pure None) d t (line_from (waits d) (sort t)) refl good_second (second_done (d ++ t ∷ [])) (inr (λ m. refl)))))

  good_condition : Good starts (open_paren ∷ key 20 ∷ close_paren ∷ []) n (λ m. condition (a m) (b m))
  unfolding condition sort
  good_condition = bind (tk see.OpenParen open_paren refl) (λ _. bind good (λ c. bind (tk see.CloseParen close_paren refl) (λ _. map (λ _. c) (good_lines n)) (λ u h. refl)) refl) refl

  good_if : Good closers (key 13 ∷ open_paren ∷ key 20 ∷ close_paren ∷ lit) n (λ m. if_expr (a m) (b m))
  unfolding if_expr sort
  good_if = bind (tk see.If (key 13) refl) (λ s. bind good_condition (λ c. bind good (λ x. map (λ y. if_tree s c x y) good_other) (λ u h. h)) refl) refl

  good_while : Good closers (key 37 ∷ open_paren ∷ key 20 ∷ close_paren ∷ lit) n (λ m. while_expr (a m) (b m))
  unfolding while_expr sort
  good_while = bind (tk see.While (key 37) refl) (λ s. bind good_condition (λ c. map (λ x. while_tree s c x) good) refl) refl

  good_handler : Good closers (key 2 ∷ open_brace ∷ key 1 ∷ mark 0 ∷ mark 3 ∷ close_brace ∷ []) n (λ m. handler (a m) (b m))
  unfolding handler sort
  good_handler = bind (tk see.Catch (key 2) refl) (λ _. map (λ c. Some c) good_cases) refl

  good_finalizer : Good closers (key 10 ∷ lit) n (λ m. finalizer (a m) (b m))
  unfolding finalizer sort
  good_finalizer = bind (tk see.Finally (key 10) refl) (λ _. map (λ x. Some x) good) refl

  good_try : Good closers (key 32 ∷ lit) n (λ m. try_expr (a m) (b m))
  unfolding try_expr sort
  good_try = bind (tk see.Try (key 32) refl) (λ s. bind good (λ x. bind (perhaps (same see.Catch) None good_handler refl (at_closers (λ o. same see.Catch o ≡ false) refl refl refl refl)) (λ c. map (λ f. try_tree s x c f) (perhaps (same see.Finally) None good_finalizer refl (at_closers (λ o. same see.Finally o ≡ false) refl refl refl refl))) (λ u h. h)) (λ u h. h)) refl

  good_throw : Good closers (key 30 ∷ lit) n (λ m. throw_expr (a m) (b m))
  unfolding throw_expr sort
  good_throw = bind (tk see.Throw (key 30) refl) (λ s. map (λ x. throw_tree s x) good) refl

  good_match : (i : Infix) → Good closers (key 18 ∷ open_brace ∷ key 1 ∷ mark 0 ∷ mark 3 ∷ close_brace ∷ []) n (λ m. match_behind (a m) (b m) i)
  unfolding match_behind sort
  good_match i = bind (tk see.Match (key 18) refl) (λ _. map (λ c. match_tree i c.0 c.1) good_cases) refl

  good_assign : (i : Infix) → Good closers (mark 2 ∷ lit) n (λ m. assign_behind (a m) (b m) i)
  unfolding assign_behind sort
  good_assign i = bind (tk see.Equals (mark 2) refl) (λ _. map (λ x. assign_tree i x) good) refl

  good_behind : (i : Infix) → Good closers (mark 2 ∷ lit) n (λ m. behind_infix (a m) (b m) i)
  unfolding behind_infix sort
  good_behind i = else_pick (same see.Match) (good_match i) (good_assign i) refl refl refl

  good_plain : Good closers lit n (λ m. plain (a m) (b m))
  unfolding plain
  good_plain = bind good_infix (λ i. perhaps at_behind (plain_expr i) (good_behind i) refl (at_closers (λ o. at_behind o ≡ false) refl refl refl refl)) (λ u h. h)

  pub good_any : Good closers lit n (λ m. any (a m) (b m))
  unfolding any sort
  good_any = else_pick (same see.If) good_if (else_pick (same see.While) good_while (else_pick (same see.Try) good_try (else_pick (same see.Throw) good_throw good_plain refl refl refl) refl refl refl) refl refl refl) refl refl refl
