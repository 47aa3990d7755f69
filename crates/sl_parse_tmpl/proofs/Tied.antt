-- The rules of files over readers that are tied. A rule's proof repeats its definition.
use Rattle.std.proofs.Common.{ℕ, true, List, [], None}
use Rattle.sl_text.specs.declared.span.Span.{Span}
use Rattle.sl_ast.specs.declared.expr.Expr.{Expr}
use Rattle.sl_ast.specs.declared.pattern.Pattern.{Pattern}
use Rattle.sl_ast.specs.declared.unit.ClassModifier.{ClassModifier}
use Rattle.sl_parse_expr.specs.declared.ahead.Ahead.TheVariants as see
use Rattle.sl_parse_expr.specs.Ahead.{same}
use Rattle.sl_parse_expr.specs.Tokens.{separates}
use Rattle.sl_parse_expr.specs.Spans.{span_or}
use Rattle.sl_parse_expr.specs.Reading.{Reader, clean, if_clean}
use Rattle.sl_parse_expr.specs.Rules.{at_item, add_item}
use Rattle.sl_parse_expr.proofs.Theory.{always}
use Rattle.sl_parse_expr.proofs.Choices.{good_absorb}
use Rattle.sl_parse_expr.proofs.Good.{good_name, good_behind_item}
use Rattle.sl_parse_expr.proofs.Tied.{Tied, word, plainly, given, bind, map, either, looked, chosen, perhaps, held, folded}
use Rattle.sl_parse_expr.proofs.ExprTied.{tied_par_args}
use Rattle.sl_parse_tmpl.specs.Words.{begins_definition, begins_member, begins_top}
use Rattle.sl_parse_tmpl.specs.LastNew.{member_ends_in_new}
use Rattle.sl_parse_tmpl.specs.Trees.{params_span}
use Rattle.sl_parse_tmpl.specs.Rules.{at_trait, at_object, value, some_value, optional_value, val_def, var_def, lazy_def, def_def, definition, member_def, member_expr, member, member_item, body_item, members, braces, some_body, behind_line, body, some_args, optional_args, parents, optional_parents, template, class_def, trait_def, object_def, behind_modifiers, top_def, top_item, unit_item, top_defs}
use Rattle.sl_parse_tmpl.proofs.Ends.{done}
use Rattle.sl_parse_tmpl.proofs.Good.{good_typed, good_optional_type, good_optional_params, good_modifiers, good_class_words, good_traits, good_optional_case, good_optional_class_params, good_member_apart, good_top_apart}

module _ {k : ℕ} {e eu ey : Reader Expr} {p pu py : Reader Pattern} (t : Tied k e eu ey) (t_pattern : Tied k p pu py) where
  tied_value : Tied k (value e p) (value eu pu) (value ey py)
  unfolding value
  tied_value = bind (word k see.Equals) (λ _. t)

  tied_some_value : Tied k (some_value e p) (some_value eu pu) (some_value ey py)
  unfolding some_value
  tied_some_value = map _ tied_value

  tied_optional_value : Tied k (optional_value e p) (optional_value eu pu) (optional_value ey py)
  unfolding optional_value
  tied_optional_value = perhaps (same see.Equals) None tied_some_value

  tied_val_def : Tied k (val_def e p) (val_def eu pu) (val_def ey py)
  unfolding val_def
  tied_val_def = bind (word k see.Val) (λ s. bind (plainly k (good_name 0)) (λ x. bind (plainly k (good_optional_type 0)) (λ z. map _ tied_optional_value)))

  tied_var_def : Tied k (var_def e p) (var_def eu pu) (var_def ey py)
  unfolding var_def
  tied_var_def = bind (word k see.Var) (λ s. bind (plainly k (good_name 0)) (λ x. bind (plainly k (good_optional_type 0)) (λ z. map _ tied_value)))

  tied_lazy_def : Tied k (lazy_def e p) (lazy_def eu pu) (lazy_def ey py)
  unfolding lazy_def
  tied_lazy_def = bind (word k see.Lazy) (λ s. bind (word k see.Val) (λ _. bind (plainly k (good_name 0)) (λ x. bind (plainly k (good_optional_type 0)) (λ z. map _ tied_value))))

  tied_def_def : Tied k (def_def e p) (def_def eu pu) (def_def ey py)
  unfolding def_def
  tied_def_def = bind (word k see.Def) (λ s. bind (plainly k (good_name 0)) (λ x. bind (plainly k (good_optional_params 0)) (λ ps. bind (plainly k (good_typed 0)) (λ z. map _ tied_optional_value))))

  tied_definition : Tied k (definition e p) (definition eu pu) (definition ey py)
  unfolding definition
  tied_definition = chosen (same see.Val) tied_val_def (chosen (same see.Var) tied_var_def (chosen (same see.Lazy) tied_lazy_def tied_def_def))

  tied_member_def : Tied k (member_def e p) (member_def eu pu) (member_def ey py)
  unfolding member_def
  tied_member_def = bind (plainly k (good_modifiers 0)) (λ ms. map _ tied_definition)

  tied_member_expr : Tied k (member_expr e p) (member_expr eu pu) (member_expr ey py)
  unfolding member_expr
  tied_member_expr = map _ t

  tied_member : Tied k (member e p) (member eu pu) (member ey py)
  unfolding member
  tied_member = chosen begins_definition tied_member_def tied_member_expr

  tied_member_item : Tied k (member_item e p) (member_item eu pu) (member_item ey py)
  unfolding member_item
  tied_member_item = bind tied_member (λ x. map _ (plainly k (good_behind_item 0 (member_ends_in_new x))))

  pub tied_body_item : Tied k (body_item e p) (body_item eu pu) (body_item ey py)
  unfolding body_item
  tied_body_item = chosen separates (plainly k (good_member_apart 0)) tied_member_item

  tied_members : Tied k (members e p) (members eu pu) (members ey py)
  unfolding members
  tied_members = folded (clean (at_item begins_member)) add_item tied_body_item (true, [])

  tied_braces : Tied k (braces e p) (braces eu pu) (braces ey py)
  unfolding braces
  tied_braces = bind (word k see.OpenBrace) (λ _. bind tied_members (λ s. map _ (word k see.CloseBrace)))

  tied_some_body : Tied k (some_body e p) (some_body eu pu) (some_body ey py)
  unfolding some_body
  tied_some_body = bind (plainly k (good_absorb always 0)) (λ _. map _ tied_braces)

  tied_behind_line : Tied k (behind_line e p) (behind_line eu pu) (behind_line ey py)
  unfolding behind_line
  tied_behind_line = chosen (same see.OpenBrace) tied_some_body (given k None)

  tied_body : Tied k (body e p) (body eu pu) (body ey py)
  unfolding body
  tied_body = looked (λ o d. either (same see.OpenBrace o) tied_some_body (either (if_clean (same see.Newline) d o) (held tied_behind_line) (given k None)))

  tied_some_args : Tied k (some_args e p) (some_args eu pu) (some_args ey py)
  unfolding some_args
  tied_some_args = map _ (tied_par_args t t_pattern)

  tied_optional_args : Tied k (optional_args e p) (optional_args eu pu) (optional_args ey py)
  unfolding optional_args
  tied_optional_args = perhaps (same see.OpenParen) None tied_some_args

  tied_parents : Tied k (parents e p) (parents eu pu) (parents ey py)
  unfolding parents
  tied_parents = bind (word k see.Extends) (λ _. bind (plainly k (good_name 0)) (λ x. bind tied_optional_args (λ a. map _ (plainly k (good_traits 0)))))

  tied_optional_parents : Tied k (optional_parents e p) (optional_parents eu pu) (optional_parents ey py)
  unfolding optional_parents
  tied_optional_parents = perhaps (same see.Extends) None tied_parents

  tied_template : (s : Span) → Tied k (template e p s) (template eu pu s) (template ey py s)
  unfolding template
  tied_template s = bind tied_optional_parents (λ q. map _ tied_body)

  tied_class_def : (ms : List ClassModifier) → Tied k (class_def e p ms) (class_def eu pu ms) (class_def ey py ms)
  unfolding class_def
  tied_class_def ms = bind (plainly k (good_optional_case 0)) (λ c. bind (word k see.Class) (λ s. bind (plainly k (good_name 0)) (λ x. bind (plainly k (good_optional_class_params 0)) (λ ps. map _ (tied_template (span_or params_span x.span ps))))))

  tied_trait_def : (ms : List ClassModifier) → Tied k (trait_def e p ms) (trait_def eu pu ms) (trait_def ey py ms)
  unfolding trait_def
  tied_trait_def ms = bind (word k see.Trait) (λ s. bind (plainly k (good_name 0)) (λ x. map _ (tied_template x.span)))

  tied_object_def : Tied k (object_def e p) (object_def eu pu) (object_def ey py)
  unfolding object_def
  tied_object_def = bind (word k see.Object) (λ s. bind (plainly k (good_name 0)) (λ x. map _ (tied_template x.span)))

  tied_behind_modifiers : (ms : List ClassModifier) → Tied k (behind_modifiers e p ms) (behind_modifiers eu pu ms) (behind_modifiers ey py ms)
  unfolding behind_modifiers
  tied_behind_modifiers ms = chosen (at_trait ms) (tied_trait_def ms) (chosen (at_object ms) tied_object_def (tied_class_def ms))

  tied_top_def : Tied k (top_def e p) (top_def eu pu) (top_def ey py)
  unfolding top_def
  tied_top_def = bind (plainly k (good_class_words 0)) (λ ms. tied_behind_modifiers ms)

  tied_top_item : Tied k (top_item e p) (top_item eu pu) (top_item ey py)
  unfolding top_item
  tied_top_item = bind tied_top_def (λ x. map _ (plainly k (good_absorb done 0)))

  pub tied_unit_item : Tied k (unit_item e p) (unit_item eu pu) (unit_item ey py)
  unfolding unit_item
  tied_unit_item = chosen separates (plainly k (good_top_apart 0)) tied_top_item

  pub tied_top_defs : Tied k (top_defs e p) (top_defs eu pu) (top_defs ey py)
  unfolding top_defs
  tied_top_defs = folded (clean (at_item begins_top)) add_item tied_unit_item (true, [])
