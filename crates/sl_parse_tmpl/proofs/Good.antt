-- Each rule depends on the tokens that it takes and on the next one, and what stops it can be completed. A rule's proof
-- repeats its definition.
use Rattle.std.proofs.Common.{◌≡◌, ℕ, Bool, true, false, List, [], ◌∷◌, ◌++◌, Option, Some, None, refl, sym, ap, subst, ◌∙◌, inl, inr, ◌⊎◌}
use Rattle.std.specs.Prelude.{if◌then◌else◌}
use Rattle.sl_text.specs.declared.span.Span.{Span}
use Rattle.sl_ast.specs.declared.token.Token.{Token}
use Rattle.sl_ast.specs.declared.definition.Param.{Param}
use Rattle.sl_ast.specs.declared.template.Member.{Member}
use Rattle.sl_ast.specs.declared.template.MemberModifier.TheVariants as words
use Rattle.sl_ast.specs.declared.unit.ClassModifier.{ClassModifier}
use Rattle.sl_ast.specs.declared.unit.ClassModifier.TheVariants as class_words_
use Rattle.sl_ast.specs.declared.unit.ClassParam.{ClassParam}
use Rattle.sl_ast.specs.declared.unit.ParamMember.{ParamMember}
use Rattle.sl_ast.specs.declared.unit.TopDef.{TopDef}
use Rattle.sl_ast.specs.declared.expr.Expr.{Expr}
use Rattle.sl_ast.specs.declared.pattern.Pattern.{Pattern}
use Rattle.sl_parse_expr.specs.declared.ahead.Ahead.{Ahead}
use Rattle.sl_parse_expr.specs.declared.ahead.Ahead.TheVariants as see
use Rattle.sl_parse_expr.specs.Ahead.{sort, same}
use Rattle.sl_parse_expr.specs.Starts.{begins_binding}
use Rattle.sl_parse_expr.specs.Tokens.{separates}
use Rattle.sl_parse_expr.specs.Reading.{Reader, pure, hold, absorb, if_clean, nothing}
use Rattle.sl_parse_expr.specs.Rules.{added, at_comma, at_item, add_item}
use Rattle.sl_parse_expr.specs.Levels.{expr}
use Rattle.sl_parse_expr.specs.PatternRules.{pattern}
use Rattle.sl_parse_expr.proofs.Theory.{Good, At, Completes, always, good_one, good_option, bind, map, at_hold, at_left}
use Rattle.sl_parse_expr.proofs.Choices.{good_absorb, good_loop, both_false}
use Rattle.sl_parse_expr.proofs.Shorter.{tk, last, pick, else_pick, perhaps, fewer}
use Rattle.sl_parse_expr.proofs.Words.{nowhere, key, mark, t_name, lit, open_paren, close_paren, open_brace, close_brace, comma, semi}
use Rattle.sl_parse_expr.proofs.Ends.{closers, brace, no_bracket, at_closers, at_brace}
use Rattle.sl_parse_expr.proofs.Good.{good_behind_item, good_name, good_binding, good_separator, good_type, good_par_args}
use Rattle.sl_parse_expr.proofs.Level.{level, pattern_level}
use Rattle.sl_parse_tmpl.specs.Words.{modifier_of, class_modifier_of, begins_definition, begins_member, begins_top}
use Rattle.sl_parse_tmpl.specs.Trees.{param_tree, val_tree, var_tree, lazy_tree, def_tree, member_tree, expr_tree, parents_tree, template_tree, param_member, class_param_tree, params_tree, params_span, class_tree, trait_tree, object_tree}
use Rattle.sl_parse_expr.specs.Spans.{span_or}
use Rattle.sl_parse_tmpl.specs.Rules.{typed, some_type, optional_type, param, next_param, more_params, no_params, some_params, params, optional_params, private_member, open_member, plain_param, private_param, open_param, class_param, next_class_param, more_class_params, no_class_params, some_class_params, class_params, optional_class_params, at_modifier, modifier, modifiers, at_class_modifier, class_modifier, class_words, at_with, next_trait, traits, some_case, optional_case, at_trait, at_object, member_apart, top_apart, value, some_value, optional_value, val_def, var_def, lazy_def, def_def, definition, member_def, member_expr, member, member_item, body_item, members, braces, some_body, behind_line, body_by, body, some_args, optional_args, parents, optional_parents, template, class_def, trait_def, object_def, behind_modifiers, top_def, top_item, unit_item, top_defs}
use Rattle.sl_parse_tmpl.specs.LastNew.{member_ends_in_new}
use Rattle.sl_parse_tmpl.proofs.Ends.{done, at_done, paren, at_paren, no_type, type_bracket, not_colon, no_paren, not_paren, val, at_val, class, at_class}

-- ---- types and parameters

pub good_typed : (n : ℕ) → Good no_bracket (mark 1 ∷ t_name ∷ []) n (λ _. typed)
unfolding typed sort
good_typed n = bind (tk see.Colon (mark 1) refl) (λ _. good_type n) refl

good_some_type : (n : ℕ) → Good no_bracket (mark 1 ∷ t_name ∷ []) n (λ _. some_type)
unfolding some_type
good_some_type n = map (λ t. Some t) (good_typed n)

pub good_optional_type : (n : ℕ) → Good no_type [] n (λ _. optional_type)
unfolding optional_type
good_optional_type n = perhaps (same see.Colon) None (fewer type_bracket (good_some_type n)) refl not_colon

good_param : (n : ℕ) → Good no_bracket (t_name ∷ mark 1 ∷ t_name ∷ []) n (λ _. param)
unfolding param sort
good_param n = bind (good_name n) (λ x. map (λ t. param_tree x t) (good_typed n)) refl

pub good_next_param : (n : ℕ) → Good no_bracket (comma ∷ t_name ∷ mark 1 ∷ t_name ∷ []) n (λ _. next_param)
unfolding next_param sort
good_next_param n = bind (tk see.Comma comma refl) (λ _. good_param n) refl

good_more_params : (n : ℕ) (xs : List Param) → Good paren [] n (λ _. more_params xs)
unfolding more_params
good_more_params n xs = good_loop at_comma paren (comma ∷ t_name ∷ mark 1 ∷ t_name ∷ []) n (λ _. next_param) added (λ s. refl) (λ s. at_paren (λ o. at_comma s o ≡ false) refl) refl (fewer (at_paren (λ o. no_bracket o ≡ true) refl) (good_next_param n)) xs

good_no_params : (n : ℕ) → Good always (close_paren ∷ []) n (λ _. no_params)
unfolding no_params sort
good_no_params n = map (λ _. Some []) (last see.CloseParen close_paren refl)

good_some_params : (n : ℕ) → Good always (t_name ∷ mark 1 ∷ t_name ∷ close_paren ∷ []) n (λ _. some_params)
unfolding some_params sort
good_some_params n = bind (fewer (at_paren (λ o. no_bracket o ≡ true) refl) (good_param n)) (λ x. bind (good_more_params n (x ∷ [])) (λ xs. map (λ _. Some xs) (last see.CloseParen close_paren refl)) refl) refl

good_params : (n : ℕ) → Good always (open_paren ∷ close_paren ∷ []) n (λ _. params)
unfolding params sort
good_params n = bind (tk see.OpenParen open_paren refl) (λ _. pick (same see.CloseParen) (good_no_params n) (good_some_params n) refl refl refl) refl

pub good_optional_params : (n : ℕ) → Good no_paren [] n (λ _. optional_params)
unfolding optional_params
good_optional_params n = perhaps (same see.OpenParen) None (fewer (λ o h. refl) (good_params n)) refl not_paren

-- ---- parameters of classes

good_private_member : (n : ℕ) → Good always (key 24 ∷ key 35 ∷ []) n (λ _. private_member)
unfolding private_member sort
good_private_member n = bind (tk see.Private (key 24) refl) (λ s. map (λ b. Some (param_member true b.0, s)) (good_binding n)) refl

good_open_member : (n : ℕ) → Good always (key 35 ∷ []) n (λ _. open_member)
unfolding open_member
good_open_member n = map (λ b. Some (param_member false b.0, b.1)) (good_binding n)

good_plain_param : (n : ℕ) (m : Option (ParamMember × Span)) → Good no_bracket (t_name ∷ mark 1 ∷ t_name ∷ []) n (λ _. plain_param m)
unfolding plain_param sort
good_plain_param n m = bind (good_name n) (λ x. map (λ t. class_param_tree m x t) (good_typed n)) refl

good_private_param : (n : ℕ) → Good no_bracket (key 24 ∷ key 35 ∷ t_name ∷ mark 1 ∷ t_name ∷ []) n (λ _. private_param)
unfolding private_param
good_private_param n = bind (good_private_member n) (λ m. good_plain_param n m) refl

good_open_param : (n : ℕ) → Good no_bracket (key 35 ∷ t_name ∷ mark 1 ∷ t_name ∷ []) n (λ _. open_param)
unfolding open_param
good_open_param n = bind (good_open_member n) (λ m. good_plain_param n m) refl

good_class_param : (n : ℕ) → Good no_bracket (t_name ∷ mark 1 ∷ t_name ∷ []) n (λ _. class_param)
unfolding class_param sort
good_class_param n = else_pick (same see.Private) (good_private_param n) (else_pick begins_binding (good_open_param n) (good_plain_param n None) refl refl refl) refl refl refl

pub good_next_class_param : (n : ℕ) → Good no_bracket (comma ∷ t_name ∷ mark 1 ∷ t_name ∷ []) n (λ _. next_class_param)
unfolding next_class_param sort
good_next_class_param n = bind (tk see.Comma comma refl) (λ _. good_class_param n) refl

good_more_class_params : (n : ℕ) (xs : List ClassParam) → Good paren [] n (λ _. more_class_params xs)
unfolding more_class_params
good_more_class_params n xs = good_loop at_comma paren (comma ∷ t_name ∷ mark 1 ∷ t_name ∷ []) n (λ _. next_class_param) added (λ s. refl) (λ s. at_paren (λ o. at_comma s o ≡ false) refl) refl (fewer (at_paren (λ o. no_bracket o ≡ true) refl) (good_next_class_param n)) xs

good_no_class_params : (n : ℕ) → Good always (close_paren ∷ []) n (λ _. no_class_params)
unfolding no_class_params sort
good_no_class_params n = map (λ s. ([], s)) (last see.CloseParen close_paren refl)

good_some_class_params : (n : ℕ) → Good always (t_name ∷ mark 1 ∷ t_name ∷ close_paren ∷ []) n (λ _. some_class_params)
unfolding some_class_params sort
good_some_class_params n = bind (fewer (at_paren (λ o. no_bracket o ≡ true) refl) (good_class_param n)) (λ x. bind (good_more_class_params n (x ∷ [])) (λ xs. map (λ s. (xs, s)) (last see.CloseParen close_paren refl)) refl) refl

good_class_params : (n : ℕ) → Good always (open_paren ∷ close_paren ∷ []) n (λ _. class_params)
unfolding class_params sort
good_class_params n = bind (tk see.OpenParen open_paren refl) (λ s. map (λ xs. Some (params_tree s xs.0 xs.1)) (pick (same see.CloseParen) (good_no_class_params n) (good_some_class_params n) refl refl refl)) refl

pub good_optional_class_params : (n : ℕ) → Good no_paren [] n (λ _. optional_class_params)
unfolding optional_class_params
good_optional_class_params n = perhaps (same see.OpenParen) None (fewer (λ o h. refl) (good_class_params n)) refl not_paren

-- ---- modifiers

pub good_modifier : (n : ℕ) → Good always (key 22 ∷ []) n (λ _. modifier)
unfolding modifier modifier_of sort
good_modifier n = good_one n modifier_of (key 22) (words.Override nowhere) refl

pub good_modifiers : (n : ℕ) → Good val [] n (λ _. modifiers)
unfolding modifiers
good_modifiers n = good_loop at_modifier val (key 22 ∷ []) n (λ _. modifier) added (λ s. refl) (λ s. at_val (λ o. at_modifier s o ≡ false) refl) refl (fewer (λ o h. refl) (good_modifier n)) []

pub good_class_modifier : (n : ℕ) → Good always (key 27 ∷ []) n (λ _. class_modifier)
unfolding class_modifier class_modifier_of sort
good_class_modifier n = good_one n class_modifier_of (key 27) (class_words_.Sealed nowhere) refl

pub good_class_words : (n : ℕ) → Good class [] n (λ _. class_words)
unfolding class_words
good_class_words n = good_loop at_class_modifier class (key 27 ∷ []) n (λ _. class_modifier) added (λ s. refl) (λ s. at_class (λ o. at_class_modifier s o ≡ false) refl) refl (fewer (λ o h. refl) (good_class_modifier n)) []

-- ---- parts without expressions

pub good_next_trait : (n : ℕ) → Good always (key 38 ∷ t_name ∷ []) n (λ _. next_trait)
unfolding next_trait sort
good_next_trait n = bind (tk see.With (key 38) refl) (λ _. good_name n) refl

pub good_traits : (n : ℕ) → Good done [] n (λ _. traits)
unfolding traits
good_traits n = good_loop at_with done (key 38 ∷ t_name ∷ []) n (λ _. next_trait) added (λ s. refl) (λ s. at_done (λ o. at_with s o ≡ false) refl) refl (fewer (λ o h. refl) (good_next_trait n)) []

good_some_case : (n : ℕ) → Good always (key 1 ∷ []) n (λ _. some_case)
unfolding some_case sort
good_some_case n = map (λ s. Some s) (last see.Case (key 1) refl)

pub good_optional_case : (n : ℕ) → Good class [] n (λ _. optional_case)
unfolding optional_case
good_optional_case n = perhaps (same see.Case) None (fewer (λ o h. refl) (good_some_case n)) refl (at_class (λ o. same see.Case o ≡ false) refl)

pub good_member_apart : (n : ℕ) → Good brace (semi ∷ []) n (λ _. member_apart)
unfolding member_apart
good_member_apart n = map (λ _. None) (fewer (λ o h. refl) (good_separator n))

pub good_top_apart : (n : ℕ) → Good done (semi ∷ []) n (λ _. top_apart)
unfolding top_apart
good_top_apart n = map (λ _. None) (fewer (λ o h. refl) (good_separator n))

-- ---- over expressions to a depth

-- the rule over the levels
abbrev pub at_depth : {B : Type 0} → (Reader Expr → Reader Pattern → B) → ℕ → B
at_depth rule m = rule (expr m) (pattern m)

module _ (n : ℕ) where
  -- ---- definitions

  good_value : Good closers (mark 2 ∷ lit) n (at_depth value)
  unfolding value sort
  good_value = bind (tk see.Equals (mark 2) refl) (λ _. level n) refl

  good_some_value : Good closers (mark 2 ∷ lit) n (at_depth some_value)
  unfolding some_value
  good_some_value = map (λ e. Some e) good_value

  good_optional_value : Good closers [] n (at_depth optional_value)
  unfolding optional_value
  good_optional_value = perhaps (same see.Equals) None good_some_value refl (at_closers (λ o. same see.Equals o ≡ false) refl refl refl refl)

  good_val_def : Good closers (key 35 ∷ t_name ∷ []) n (at_depth val_def)
  unfolding val_def sort
  good_val_def = bind (tk see.Val (key 35) refl) (λ s. bind (good_name n) (λ x. bind (good_optional_type n) (λ t. map (λ e. val_tree s x t e) good_optional_value) (at_closers (λ o. no_type o ≡ true) refl refl refl refl)) (λ u h. refl)) refl

  good_var_def : Good closers (key 36 ∷ t_name ∷ mark 2 ∷ lit) n (at_depth var_def)
  unfolding var_def sort
  good_var_def = bind (tk see.Var (key 36) refl) (λ s. bind (good_name n) (λ x. bind (good_optional_type n) (λ t. map (λ e. var_tree s x t e) good_value) refl) refl) refl

  good_lazy_def : Good closers (key 16 ∷ key 35 ∷ t_name ∷ mark 2 ∷ lit) n (at_depth lazy_def)
  unfolding lazy_def sort
  good_lazy_def = bind (tk see.Lazy (key 16) refl) (λ s. bind (tk see.Val (key 35) refl) (λ _. bind (good_name n) (λ x. bind (good_optional_type n) (λ t. map (λ e. lazy_tree s x t e) good_value) refl) refl) refl) refl

  good_def_def : Good closers (key 4 ∷ t_name ∷ mark 1 ∷ t_name ∷ []) n (at_depth def_def)
  unfolding def_def sort
  good_def_def = bind (tk see.Def (key 4) refl) (λ s. bind (good_name n) (λ x. bind (good_optional_params n) (λ ps. bind (good_typed n) (λ t. map (λ e. def_tree s x ps t e) good_optional_value) (at_closers (λ o. no_bracket o ≡ true) refl refl refl refl)) refl) refl) refl

  good_definition : Good closers (key 35 ∷ t_name ∷ []) n (at_depth definition)
  unfolding definition sort
  good_definition = pick (same see.Val) good_val_def (pick (same see.Var) good_var_def (pick (same see.Lazy) good_lazy_def good_def_def refl refl refl) refl refl refl) refl refl refl

  -- ---- members

  good_member_def : Good closers (key 35 ∷ t_name ∷ []) n (at_depth member_def)
  unfolding member_def sort
  good_member_def = bind (good_modifiers n) (λ ms. map (λ d. member_tree ms d) good_definition) refl

  good_member_expr : Good closers lit n (at_depth member_expr)
  unfolding member_expr
  good_member_expr = map (λ e. expr_tree e) (level n)

  good_member : Good closers lit n (at_depth member)
  unfolding member sort
  good_member = else_pick begins_definition good_member_def good_member_expr refl refl refl

  good_member_item : Good brace lit n (at_depth member_item)
  unfolding member_item
  good_member_item = bind (fewer (at_brace (λ o. closers o ≡ true) refl) good_member) (λ x. map (λ c. Some (x, c)) (good_behind_item n (member_ends_in_new x))) (λ u h. h)

  pub good_body_item : Good brace (semi ∷ []) n (at_depth body_item)
  unfolding body_item sort
  good_body_item = pick separates (good_member_apart n) good_member_item refl refl refl

  pub member_none : (s : Bool × List Member) → at_item begins_member s see.End ≡ false
  member_none s = both_false s.0

  member_over : (s : Bool × List Member) (o : Ahead) → brace o ≡ true → at_item begins_member s o ≡ false
  member_over s = at_brace (λ o. at_item begins_member s o ≡ false) (both_false s.0)

  good_members : Good brace [] n (at_depth members)
  unfolding members
  good_members = good_loop (at_item begins_member) brace (semi ∷ []) n (at_depth body_item) add_item member_none member_over refl good_body_item (true, [])

  -- ---- templates

  good_braces : Good done (open_brace ∷ close_brace ∷ []) n (at_depth braces)
  unfolding braces sort
  good_braces = bind (tk see.OpenBrace open_brace refl) (λ _. bind good_members (λ s. map (λ t. (s.1, t)) (last see.CloseBrace close_brace refl)) refl) refl

  good_some_body : Good done (open_brace ∷ close_brace ∷ []) n (at_depth some_body)
  unfolding some_body sort
  good_some_body = bind (good_absorb always n) (λ _. map (λ b. Some b) good_braces) refl

  -- a body at its brace, or what is read otherwise
  brace_at : (q : ℕ → Reader (Option (List Member × Span))) (d : List Token) (t : Token) (v : Bool) → same see.OpenBrace (sort t) ≡ v → At done n q d t ⊎ ((m : ℕ) → q m ≡ pure None)
      → At done n (λ m. if same see.OpenBrace (sort t) then at_depth some_body m else q m) d t ⊎ ((m : ℕ) → (if same see.OpenBrace (sort t) then at_depth some_body m else q m) ≡ pure None)
  brace_at q d t true i k = inl (subst (λ (z : Bool). At done n (λ m. if z then at_depth some_body m else q m) d t) (sym i) (at_left done (open_brace ∷ close_brace ∷ []) n (at_depth some_body) d t refl good_some_body))
  brace_at q d t false i k = elim k [
    | inl y ↦ inl (subst (λ (z : Bool). At done n (λ m. if z then at_depth some_body m else q m) d t) (sym i) y)
    | inr y ↦ inr (λ m. ap (λ (z : Bool). if z then at_depth some_body m else q m) i ∙ y m)
  ]

  abbrev behind_by : ℕ → Ahead → List Token → Reader (Option (List Member × Span))
  behind_by m o d = if same see.OpenBrace o then at_depth some_body m else pure None

  good_behind_line : Good done [] n (at_depth behind_line)
  unfolding behind_line
  good_behind_line = good_option done n behind_by None (λ d m. refl) (λ d m t h. at_done (λ o. behind_by m o d ≡ pure None) refl (sort t) h) (λ d t. brace_at (λ _. pure None) d t (same see.OpenBrace (sort t)) refl (inr (λ m. refl)))

  behind_done : (d : List Token) → Completes done n (at_depth behind_line) d []
  unfolding behind_line some_body absorb sort
  behind_done d = (open_brace ∷ close_brace ∷ [], λ m l follow h. good_some_body.can m l follow h)

  line_at : (d : List Token) (t : Token) (v : Bool) → if_clean (same see.Newline) d (sort t) ≡ v
      → At done n (λ m. if if_clean (same see.Newline) d (sort t) then hold (at_depth behind_line m) else pure None) d t ⊎ ((m : ℕ) → (if if_clean (same see.Newline) d (sort t) then hold (at_depth behind_line m) else pure None) ≡ pure None)
  line_at d t true i = inl (subst (λ (z : Bool). At done n (λ m. if z then hold (at_depth behind_line m) else pure None) d t) (sym i) (at_hold done [] n (at_depth behind_line) d t good_behind_line (behind_done (d ++ t ∷ []))))
  line_at d t false i = inr (λ m. ap (λ (z : Bool). if z then hold (at_depth behind_line m) else pure None) i)

  body_over : (d : List Token) (m : ℕ) (o : Ahead) → done o ≡ true → at_depth body_by m o d ≡ pure None
  body_over d m = at_done (λ o. at_depth body_by m o d ≡ pure None) (ap (λ (z : Bool). if z then hold (at_depth behind_line m) else pure None) (both_false (nothing d)))

  good_body : Good done [] n (at_depth body)
  unfolding body
  good_body = good_option done n (at_depth body_by) None (λ d m. body_over d m see.End refl) (λ d m t h. body_over d m (sort t) h) (λ d t. brace_at (λ m. if if_clean (same see.Newline) d (sort t) then hold (at_depth behind_line m) else pure None) d t (same see.OpenBrace (sort t)) refl (line_at d t (if_clean (same see.Newline) d (sort t)) refl))

  good_some_args : Good closers (open_paren ∷ close_paren ∷ []) n (at_depth some_args)
  unfolding some_args
  good_some_args = map (λ a. Some a) (good_par_args n expr pattern (level n) (pattern_level n))

  good_optional_args : Good done [] n (at_depth optional_args)
  unfolding optional_args
  good_optional_args = perhaps (same see.OpenParen) None (fewer (at_done (λ o. closers o ≡ true) refl) good_some_args) refl (at_done (λ o. same see.OpenParen o ≡ false) refl)

  good_parents : Good done (key 7 ∷ t_name ∷ []) n (at_depth parents)
  unfolding parents sort
  good_parents = bind (tk see.Extends (key 7) refl) (λ _. bind (good_name n) (λ x. bind good_optional_args (λ a. map (λ xs. Some (parents_tree x a xs)) (good_traits n)) (λ u h. h)) (λ u h. refl)) refl

  good_optional_parents : Good done [] n (at_depth optional_parents)
  unfolding optional_parents
  good_optional_parents = perhaps (same see.Extends) None good_parents refl (at_done (λ o. same see.Extends o ≡ false) refl)

  good_template : (s : Span) → Good done [] n (λ m. template (expr m) (pattern m) s)
  unfolding template
  good_template s = bind good_optional_parents (λ p. map (λ b. template_tree s p b) good_body) (λ u h. h)

  -- ---- classes, traits, objects

  good_class_def : (ms : List ClassModifier) → Good done (key 3 ∷ t_name ∷ []) n (λ m. class_def (expr m) (pattern m) ms)
  unfolding class_def sort
  good_class_def ms = bind (good_optional_case n) (λ c. bind (tk see.Class (key 3) refl) (λ s. bind (good_name n) (λ x. bind (good_optional_class_params n) (λ ps. map (λ t. class_tree ms c s x ps t) (good_template (span_or params_span x.span ps))) (at_done (λ o. no_paren o ≡ true) refl)) (λ u h. refl)) refl) refl

  good_trait_def : (ms : List ClassModifier) → Good done (key 31 ∷ t_name ∷ []) n (λ m. trait_def (expr m) (pattern m) ms)
  unfolding trait_def sort
  good_trait_def ms = bind (tk see.Trait (key 31) refl) (λ s. bind (good_name n) (λ x. map (λ t. trait_tree ms s x t) (good_template x.span)) (λ u h. refl)) refl

  good_object_def : Good done (key 21 ∷ t_name ∷ []) n (at_depth object_def)
  unfolding object_def sort
  good_object_def = bind (tk see.Object (key 21) refl) (λ s. bind (good_name n) (λ x. map (λ t. object_tree s x t) (good_template x.span)) (λ u h. refl)) refl

  good_behind_modifiers : (ms : List ClassModifier) → Good done (key 3 ∷ t_name ∷ []) n (λ m. behind_modifiers (expr m) (pattern m) ms)
  unfolding behind_modifiers sort
  good_behind_modifiers ms = else_pick (at_trait ms) (good_trait_def ms) (else_pick (at_object ms) good_object_def (good_class_def ms) refl refl refl) refl refl refl

  good_top_def : Good done (key 3 ∷ t_name ∷ []) n (at_depth top_def)
  unfolding top_def sort
  good_top_def = bind (good_class_words n) (λ ms. good_behind_modifiers ms) refl

  good_top_item : Good done (key 3 ∷ t_name ∷ []) n (at_depth top_item)
  unfolding top_item
  good_top_item = bind good_top_def (λ x. map (λ c. Some (x, c)) (good_absorb done n)) (λ u h. h)

  pub good_unit_item : Good done (semi ∷ []) n (at_depth unit_item)
  unfolding unit_item sort
  good_unit_item = pick separates (good_top_apart n) good_top_item refl refl refl

  pub top_none : (s : Bool × List TopDef) → at_item begins_top s see.End ≡ false
  top_none s = both_false s.0

  top_over : (s : Bool × List TopDef) (o : Ahead) → done o ≡ true → at_item begins_top s o ≡ false
  top_over s = at_done (λ o. at_item begins_top s o ≡ false) (both_false s.0)

  pub good_top_defs : Good done [] n (at_depth top_defs)
  unfolding top_defs
  good_top_defs = good_loop (at_item begins_top) done (semi ∷ []) n (at_depth unit_item) add_item top_none top_over refl good_unit_item (true, [])
