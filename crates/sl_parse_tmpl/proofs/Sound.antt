-- What is read as a file is one by the grammar. A rule's proof repeats its definition.
use Rattle.std.proofs.Common.{◌≡◌, Bool, true, false, List, [], ◌∷◌, Option, Some, None, refl, sym, subst}
use Rattle.std.specs.Prelude.{if◌then◌else◌, ◌&&◌}
use Rattle.sl_text.specs.declared.span.Span.{Span}
use Rattle.sl_ast.specs.declared.token.Token.{Token}
use Rattle.sl_ast.specs.declared.expr.Expr.{Expr}
use Rattle.sl_ast.specs.declared.args.ParArgs.{ParArgs}
use Rattle.sl_ast.specs.declared.binding.Binding.{Binding}
use Rattle.sl_ast.specs.declared.definition.Param.{Param}
use Rattle.sl_ast.specs.declared.template.Template.{Template}
use Rattle.sl_ast.specs.declared.unit.ClassModifier.{ClassModifier}
use Rattle.sl_ast.specs.declared.unit.ClassModifier.TheVariants as words
use Rattle.sl_ast.specs.declared.unit.ParamMember.{ParamMember}
use Rattle.sl_ast.specs.declared.unit.Unit as file
use Rattle.sl_ast.specs.declared.pattern.Pattern.{Pattern}
use Rattle.sl_parse_expr.specs.declared.ahead.Ahead.{Ahead}
use Rattle.sl_parse_expr.specs.declared.ahead.Ahead.TheVariants as see
use Rattle.sl_parse_expr.specs.Ahead.{sort, same}
use Rattle.sl_parse_expr.specs.Starts.{begins_binding}
use Rattle.sl_parse_expr.specs.Tokens.{binding_of}
use Rattle.sl_parse_expr.specs.Spans.{span_or}
use Rattle.sl_parse_expr.specs.Reading.{Reader, ◌>>◌, pure, word, ahead}
use Rattle.sl_parse_expr.specs.Rules.{binding}
use Rattle.sl_parse_expr.specs.Phrases.{IsOne, IsWord, IsMore, IsListed, IsOption, IsLine, IsSeq, none_held, line_held}
use Rattle.sl_parse_expr.specs.Phrases as phrase
use Rattle.sl_parse_expr.specs.Grammar.{IsName, IsTyped, IsParArgs, IsExpr, IsPattern}
use Rattle.sl_parse_expr.specs.Grammar as inner
use Rattle.sl_parse_expr.proofs.Theory.{Held, ok_of, bind_ok, ok_0}
use Rattle.sl_parse_expr.proofs.Loops.{Eats, eats_of}
use Rattle.sl_parse_expr.proofs.Fronts.{are_same}
use Rattle.sl_parse_expr.proofs.Gives.{Gives, Clean, Loose, give, looser, as_clean, as_loose, upon, map_clean, map_loose, single, marked, either, both, branch_by, holding, looked, absorbed, perhaps, perhaps_clean, IsNext, behind, one_behind}
use Rattle.sl_parse_expr.proofs.PatternSound.{name_is, type_is}
use Rattle.sl_parse_expr.proofs.Inside.{SoundExprs}
use Rattle.sl_parse_expr.proofs.Sound.{par_args_is}
use Rattle.sl_parse_tmpl.specs.Words.{modifier_of, class_modifier_of, class_modifier_by, is_modifier, is_class_modifier, begins_definition, begins_member, begins_top}
use Rattle.sl_parse_tmpl.specs.LastNew.{member_ends_in_new, never}
use Rattle.sl_parse_tmpl.specs.Trees.{params_span, param_member, class_param_tree, trait_tree, object_tree, unit_tree}
use Rattle.sl_parse_tmpl.specs.Rules.{typed, some_type, optional_type, param, next_param, more_params, no_params, some_params, params, optional_params, private_member, open_member, plain_param, private_param, open_param, class_param, next_class_param, more_class_params, no_class_params, some_class_params, class_params, optional_class_params, modifier, modifiers, class_modifier, class_words, next_trait, traits, some_case, optional_case, may_be_trait, may_be_object, at_trait, at_object, member_apart, top_apart, over, over_by, value, some_value, optional_value, val_def, var_def, lazy_def, def_def, definition, member_def, member_expr, member, member_item, body_item, members, braces, some_body, behind_line, body_by, body, optional_args, parents, optional_parents, template, class_def, trait_def, object_def, behind_modifiers, top_def, top_item, unit_item, top_defs, unit}
use Rattle.sl_parse_tmpl.specs.Rules as rules_
use Rattle.sl_parse_tmpl.specs.Grammar.{IsRun, IsParam, IsParams, IsClassParam, IsClassParams, IsValue, IsDef, IsMember, IsBody, IsParents, IsTemplate, IsTopDef, IsUnit, Derives, body_follows}
use Rattle.sl_parse_tmpl.specs.Grammar as grammar
use Rattle.sl_parse_tmpl.proofs.Good.{good_next_param, good_next_class_param, good_modifier, good_class_modifier, good_next_trait, member_none, top_none}
use Rattle.sl_parse_tmpl.proofs.Lists.{list_is}
use Rattle.sl_parse_tmpl.proofs.SeqSound.{seq_is}
use Rattle.sl_parse_tmpl.proofs.Items.{FileItems}

-- ---- types and parameters

binding_is : (a : List Token) → Gives binding [] a (Clean (λ x r. IsOne binding_of x a r))
unfolding binding
binding_is a = single binding_of [] a

typed_is : (a : List Token) → Gives typed [] a (Clean (λ t r. IsTyped t a r))
unfolding typed
typed_is a = upon (marked see.Colon [] a) (λ s b h. as_clean (type_is [] b) (λ t r k. inner.typed h k))

optional_type_is : (a : List Token) → Gives optional_type [] a (Clean (λ t r. IsOption (same see.Colon) IsTyped t a r))
unfolding optional_type some_type
optional_type_is a = perhaps_clean (same see.Colon) None (map_clean _ (typed_is a) (λ t r k. phrase.present k)) (λ h. phrase.absent h)

param_is : (a : List Token) → Gives param [] a (Clean (λ x r. IsParam x a r))
unfolding param
param_is a = upon (name_is [] a) (λ x b h. map_clean _ (typed_is b) (λ t r k. grammar.param h k))

next_param_is : (a : List Token) → Gives next_param [] a (Clean (λ x r. IsNext see.Comma IsParam x a r))
unfolding next_param
next_param_is a = upon (marked see.Comma [] a) (λ s b h. as_clean (param_is b) (λ x r k. behind h k))

pub next_param_eats : Eats next_param
next_param_eats = eats_of {P = λ _. next_param} 0 (good_next_param 0) refl

module _ (m : List Token) (s : Span) (a : List Token) (w : IsWord see.OpenParen s m a) where
  abbrev ParamsAre : Option (List Param) → List Token → Type 0
  ParamsAre ps r = IsOption (same see.OpenParen) IsParams ps m r

  some_params_is : Gives some_params [] a (Clean ParamsAre)
  unfolding some_params more_params
  some_params_is = upon (param_is a) (λ x b h. upon (list_is (same see.Comma) next_param refl next_param_eats (IsNext see.Comma IsParam) (IsMore see.Comma IsParam)
      (λ ys c. (t : Span) (r : List Token) → IsWord see.CloseParen t c r → IsListed IsParam ys t a r) (λ r k. phrase.no_more k) (one_behind see.Comma IsParam) next_param_is (x ∷ []) b (λ zs c k t r z. phrase.some_listed h k z))
      (λ ys c k. map_clean (λ _. Some ys) (marked see.CloseParen [] c) (λ t r z. phrase.present (grammar.params w (k t r z)))))

  no_params_is : Gives no_params [] a (Clean ParamsAre)
  unfolding no_params
  no_params_is = map_clean (λ _. Some []) (marked see.CloseParen [] a) (λ t r z. phrase.present (grammar.params w (phrase.none_listed z)))

params_is : (a : List Token) → Gives params [] a (Clean (λ ps r. IsOption (same see.OpenParen) IsParams ps a r))
unfolding params
params_is a = upon (marked see.OpenParen [] a) (λ s b h. both (same see.CloseParen) (no_params_is a s b h) (some_params_is a s b h))

optional_params_is : (a : List Token) → Gives optional_params [] a (Clean (λ ps r. IsOption (same see.OpenParen) IsParams ps a r))
unfolding optional_params
optional_params_is a = perhaps_clean (same see.OpenParen) None (params_is a) (λ h. phrase.absent h)

-- ---- parameters of classes

plain_param_is : (a : List Token) → Gives (plain_param None) [] a (Clean (λ x r. IsClassParam x a r))
unfolding plain_param
plain_param_is a = upon (name_is [] a) (λ x b h. map_clean _ (typed_is b) (λ t r k. grammar.plain h k))

open_param_is : (a : List Token) → Gives open_param [] a (Clean (λ x r. IsClassParam x a r))
unfolding open_param open_member plain_param
open_param_is a = upon (map_clean {S = λ m b. (g : Binding × Span) × (m ≡ Some (param_member false g.0, g.1)) × IsOne binding_of g a b} _ (binding_is a) (λ g b h. (g, refl, h)))
    (λ m b h. upon (name_is [] b) (λ x c i. map_clean _ (typed_is c) (λ t r k. subst (λ (z : Option (ParamMember × Span)). IsClassParam (class_param_tree z x t) a r) (sym h.1) (grammar.member h.2 i k))))

private_param_is : (a : List Token) → Gives private_param [] a (Clean (λ x r. IsClassParam x a r))
unfolding private_param private_member plain_param
private_param_is a = upon (upon (marked see.Private [] a) (λ s b w. map_clean {S = λ m c. (q : Span) × (g : Binding × Span) × (d : List Token) × (m ≡ Some (param_member true g.0, q)) × IsWord see.Private q a d × IsOne binding_of g d c} _ (binding_is b) (λ g c h. (s, g, b, refl, w, h))))
    (λ m b h. upon (name_is [] b) (λ x c i. map_clean _ (typed_is c) (λ t r k. subst (λ (z : Option (ParamMember × Span)). IsClassParam (class_param_tree z x t) a r) (sym h.3) (grammar.private h.4 h.5 i k))))

class_param_is : (a : List Token) → Gives class_param [] a (Clean (λ x r. IsClassParam x a r))
unfolding class_param
class_param_is a = both (same see.Private) (private_param_is a) (both begins_binding (open_param_is a) (plain_param_is a))

next_class_param_is : (a : List Token) → Gives next_class_param [] a (Clean (λ x r. IsNext see.Comma IsClassParam x a r))
unfolding next_class_param
next_class_param_is a = upon (marked see.Comma [] a) (λ s b h. as_clean (class_param_is b) (λ x r k. behind h k))

pub next_class_param_eats : Eats next_class_param
next_class_param_eats = eats_of {P = λ _. next_class_param} 0 (good_next_class_param 0) refl

some_class_params_is : (a : List Token) → Gives some_class_params [] a (Clean (λ xs r. IsListed IsClassParam xs.0 xs.1 a r))
unfolding some_class_params more_class_params
some_class_params_is a = upon (class_param_is a) (λ x b h. upon (list_is (same see.Comma) next_class_param refl next_class_param_eats (IsNext see.Comma IsClassParam) (IsMore see.Comma IsClassParam)
    (λ ys c. (t : Span) (r : List Token) → IsWord see.CloseParen t c r → IsListed IsClassParam ys t a r) (λ r k. phrase.no_more k) (one_behind see.Comma IsClassParam) next_class_param_is (x ∷ []) b (λ zs c k t r z. phrase.some_listed h k z))
    (λ ys c k. map_clean _ (marked see.CloseParen [] c) (λ t r z. k t r z)))

no_class_params_is : (a : List Token) → Gives no_class_params [] a (Clean (λ xs r. IsListed IsClassParam xs.0 xs.1 a r))
unfolding no_class_params
no_class_params_is a = map_clean _ (marked see.CloseParen [] a) (λ t r z. phrase.none_listed z)

class_params_is : (a : List Token) → Gives class_params [] a (Clean (λ ps r. IsOption (same see.OpenParen) IsClassParams ps a r))
unfolding class_params
class_params_is a = upon (marked see.OpenParen [] a) (λ s b h. map_clean _ (both (same see.CloseParen) (no_class_params_is b) (some_class_params_is b)) (λ xs r k. phrase.present (grammar.class_params h k)))

optional_class_params_is : (a : List Token) → Gives optional_class_params [] a (Clean (λ ps r. IsOption (same see.OpenParen) IsClassParams ps a r))
unfolding optional_class_params
optional_class_params_is a = perhaps_clean (same see.OpenParen) None (class_params_is a) (λ h. phrase.absent h)

-- ---- modifiers, traits, `case`

modifier_is : (a : List Token) → Gives modifier [] a (Clean (λ x r. IsOne modifier_of x a r))
unfolding modifier
modifier_is a = single modifier_of [] a

pub modifier_eats : Eats modifier
modifier_eats = eats_of {P = λ _. modifier} 0 (good_modifier 0) refl

modifiers_is : (a : List Token) → Gives modifiers [] a (Clean (λ xs r. IsRun is_modifier (IsOne modifier_of) xs a r))
unfolding modifiers
modifiers_is a = list_is is_modifier modifier refl modifier_eats (IsOne modifier_of) (IsRun is_modifier (IsOne modifier_of)) (λ xs r. IsRun is_modifier (IsOne modifier_of) xs a r)
    (λ r h. grammar.no_further h) (λ x xs a b r h k. grammar.further h k) modifier_is [] a (λ zs r k. k)

class_modifier_is : (a : List Token) → Gives class_modifier [] a (Clean (λ x r. IsOne class_modifier_of x a r))
unfolding class_modifier
class_modifier_is a = single class_modifier_of [] a

pub class_modifier_eats : Eats class_modifier
class_modifier_eats = eats_of {P = λ _. class_modifier} 0 (good_class_modifier 0) refl

abbrev ClassWords : List ClassModifier → List Token → List Token → Type 0
ClassWords = IsRun is_class_modifier (IsOne class_modifier_of)

class_words_is : (a : List Token) → Gives class_words [] a (Clean (λ xs r. ClassWords xs a r))
unfolding class_words
class_words_is a = list_is is_class_modifier class_modifier refl class_modifier_eats (IsOne class_modifier_of) ClassWords (λ xs r. ClassWords xs a r)
    (λ r h. grammar.no_further h) (λ x xs a b r h k. grammar.further h k) class_modifier_is [] a (λ zs r k. k)

next_trait_is : (a : List Token) → Gives next_trait [] a (Clean (λ x r. IsNext see.With IsName x a r))
unfolding next_trait
next_trait_is a = upon (marked see.With [] a) (λ s b h. as_clean (name_is [] b) (λ x r k. behind h k))

pub next_trait_eats : Eats next_trait
next_trait_eats = eats_of {P = λ _. next_trait} 0 (good_next_trait 0) refl

traits_is : (a : List Token) → Gives traits [] a (Clean (λ xs r. IsMore see.With IsName xs a r))
unfolding traits
traits_is a = list_is (same see.With) next_trait refl next_trait_eats (IsNext see.With IsName) (IsMore see.With IsName) (λ xs r. IsMore see.With IsName xs a r)
    (λ r h. phrase.no_more h) (one_behind see.With IsName) next_trait_is [] a (λ zs r k. k)

optional_case_is : (a : List Token) → Gives optional_case [] a (Clean (λ c r. IsOption (same see.Case) (IsWord see.Case) c a r))
unfolding optional_case some_case
optional_case_is a = perhaps_clean (same see.Case) None (map_clean _ (marked see.Case [] a) (λ s r k. phrase.present k)) (λ h. phrase.absent h)

module _ {exprs : Reader Expr} {patterns : Reader Pattern} {E : Expr → List Token → List Token → Type 0} {Q : Pattern → List Token → List Token → Type 0} (ok : SoundExprs exprs patterns E Q) (items : FileItems exprs patterns) where
  -- ---- definitions

  abbrev P : ParArgs → List Token → List Token → Type 0
  P = IsParArgs E Q

  value_is : (a : List Token) → Gives (value exprs patterns) [] a (Loose (λ e r. IsValue E P e a r))
  unfolding value
  value_is a = upon (marked see.Equals [] a) (λ s b h. as_loose (ok.is [] b) (λ e r k. grammar.value h k))

  optional_value_is : (a : List Token) → Gives (optional_value exprs patterns) [] a (Loose (λ e r. IsOption (same see.Equals) (IsValue E P) e a r))
  unfolding optional_value some_value
  optional_value_is a = perhaps (same see.Equals) None none_held refl refl (map_loose _ (value_is a) (λ e r k. phrase.present k)) (λ h. phrase.absent h)

  val_def_is : (a : List Token) → Gives (val_def exprs patterns) [] a (Loose (λ d r. IsDef E P d a r))
  unfolding val_def
  val_def_is a = upon (marked see.Val [] a) (λ s b h. upon (name_is [] b) (λ x c i. upon (optional_type_is c) (λ t d j. map_loose _ (optional_value_is d) (λ e r k. grammar.val h i j k))))

  var_def_is : (a : List Token) → Gives (var_def exprs patterns) [] a (Loose (λ d r. IsDef E P d a r))
  unfolding var_def
  var_def_is a = upon (marked see.Var [] a) (λ s b h. upon (name_is [] b) (λ x c i. upon (optional_type_is c) (λ t d j. map_loose _ (value_is d) (λ e r k. grammar.var h i j k))))

  lazy_def_is : (a : List Token) → Gives (lazy_def exprs patterns) [] a (Loose (λ d r. IsDef E P d a r))
  unfolding lazy_def
  lazy_def_is a = upon (marked see.Lazy [] a) (λ s a1 g. upon (marked see.Val [] a1) (λ v b h. upon (name_is [] b) (λ x c i. upon (optional_type_is c) (λ t d j. map_loose _ (value_is d) (λ e r k. grammar.«lazy» g h i j k)))))

  def_def_is : (a : List Token) → Gives (def_def exprs patterns) [] a (Loose (λ d r. IsDef E P d a r))
  unfolding def_def
  def_def_is a = upon (marked see.Def [] a) (λ s b h. upon (name_is [] b) (λ x c i. upon (optional_params_is c) (λ ps c1 l. upon (typed_is c1) (λ t d j. map_loose _ (optional_value_is d) (λ e r k. grammar.def h i l j k)))))

  definition_is : (a : List Token) → Gives (definition exprs patterns) [] a (Loose (λ d r. IsDef E P d a r))
  unfolding definition
  definition_is a = both (same see.Val) (val_def_is a) (both (same see.Var) (var_def_is a) (both (same see.Lazy) (lazy_def_is a) (def_def_is a)))

  -- ---- members

  member_def_is : (a : List Token) → Gives (member_def exprs patterns) [] a (Loose (λ x r. IsMember E P x a r))
  unfolding member_def
  member_def_is a = upon (modifiers_is a) (λ ms b h. map_loose _ (definition_is b) (λ d r k. grammar.definition h k))

  member_expr_is : (a : List Token) → Gives (member_expr exprs patterns) [] a (Loose (λ x r. IsMember E P x a r))
  unfolding member_expr
  member_expr_is a = map_loose _ (ok.is [] a) (λ e r k. grammar.expression k)

  member_is : (a : List Token) → Gives (member exprs patterns) [] a (Loose (λ x r. IsMember E P x a r))
  unfolding member
  member_is a = both begins_definition (member_def_is a) (member_expr_is a)

  members_is : (a : List Token) → Gives (members exprs patterns) [] a (Clean (λ w r. IsSeq begins_member member_ends_in_new (IsMember E P) true w.1 a r))
  unfolding members body_item member_apart member_item
  members_is a = seq_is begins_member member_ends_in_new (IsMember E P) (member exprs patterns) member_is (member_none 0) items.member a

  -- ---- templates

  braces_is : (m b : List Token) → IsLine m b → Gives (braces exprs patterns) [] b (Clean (λ x r. IsBody E P (Some x) m r))
  unfolding braces
  braces_is m b line = upon (marked see.OpenBrace [] b) (λ s c h. upon (members_is c) (λ w d k. map_clean _ (marked see.CloseBrace [] d) (λ t r z. grammar.body line h k z)))

  some_body_is : (d : Held) (b m : List Token) → IsLine m b → Gives (some_body exprs patterns) d b (Loose (λ c r. IsBody E P c m r))
  unfolding some_body
  some_body_is d b m line = looser (absorbed (map_clean _ (braces_is m b line) (λ x r k. k)))

  behind_line_is : (t : Token) (b : List Token) → sort t ≡ see.Newline → Gives (behind_line exprs patterns) (t ∷ []) b (Loose (λ c r. IsBody E P c (t ∷ b) r))
  unfolding behind_line
  behind_line_is t b i = either (λ e o. same see.OpenBrace o)
      (λ h. some_body_is (t ∷ []) b (t ∷ b) (phrase.one_nl {s = t.span} (phrase.token (rw i refl))))
      (λ h. give None (record { held = line_held i; is = grammar.no_body (rw i (rw h refl)) }))

  body_is : (a : List Token) → Gives (body exprs patterns) [] a (Loose (λ c r. IsBody E P c a r))
  unfolding body
  body_is [] = looked (body_by exprs patterns) (give None (record { held = none_held; is = grammar.no_body refl }))
  body_is (t ∷ b) = looked (body_by exprs patterns) (branch_by (same see.OpenBrace (sort t))
      (λ h. some_body_is [] (t ∷ b) (t ∷ b) phrase.no_nl)
      (λ h. branch_by (same see.Newline (sort t))
      (λ l. holding (behind_line_is t b (are_same see.Newline (sort t) l)))
      (λ l. give None (record { held = none_held; is = grammar.no_body (rw h (rw l refl)) }))))

  optional_args_is : (a : List Token) → Gives (optional_args exprs patterns) [] a (Clean (λ x r. IsOption (same see.OpenParen) P x a r))
  unfolding optional_args rules_.some_args
  optional_args_is a = perhaps_clean (same see.OpenParen) None (map_clean _ (par_args_is ok [] a) (λ x r k. phrase.present k)) (λ h. phrase.absent h)

  optional_parents_is : (a : List Token) → Gives (optional_parents exprs patterns) [] a (Clean (λ p r. IsOption (same see.Extends) (IsParents E P) p a r))
  unfolding optional_parents parents
  optional_parents_is a = perhaps_clean (same see.Extends) None
      (upon (marked see.Extends [] a) (λ s b h. upon (name_is [] b) (λ x c i. upon (optional_args_is c) (λ q d j. map_clean _ (traits_is d) (λ xs r k. phrase.present (grammar.parents h i j k))))))
      (λ h. phrase.absent h)

  template_is : (s : Span) (a : List Token) → Gives (template exprs patterns s) [] a (Loose (λ t r. IsTemplate E P s t a r))
  unfolding template
  template_is s a = upon (optional_parents_is a) (λ p b h. map_loose _ (body_is b) (λ c r k. grammar.template h k))

  -- ---- classes, traits, objects

  class_def_is : (ms : List ClassModifier) (m a : List Token) → ClassWords ms m a → Gives (class_def exprs patterns ms) [] a (Loose (λ d r. IsTopDef E P d m r))
  unfolding class_def
  class_def_is ms m a w = upon (optional_case_is a) (λ c a1 g. upon (marked see.Class [] a1) (λ s b h. upon (name_is [] b) (λ x b1 i. upon (optional_class_params_is b1) (λ ps b2 j. map_loose _ (template_is (span_or params_span x.span ps) b2) (λ t r k. grammar.class w g h i j k)))))

  no_words : (m a : List Token) → ClassWords [] m a → m ≡ a
  no_words m a (grammar.no_further h) = refl

  sealed_word : {q : Span} (t : Token) → class_modifier_of t ≡ Some (words.Sealed q) → word see.Sealed t ≡ Some q
  unfolding class_modifier_of
  sealed_word {q} t i = go (sort t) t.span i
    where
      go : (o : Ahead) (p : Span) → class_modifier_by o p ≡ Some (words.Sealed q) → (if same see.Sealed o then Some p else None) ≡ Some q
      go see.Sealed p i = cc
      go see.Abstract p i = absurd cc
      go o p i = absurd cc

  one_sealed : (q : Span) (m a : List Token) → ClassWords (words.Sealed q ∷ []) m a → IsWord see.Sealed q m a
  one_sealed q m a (grammar.further (phrase.token {t = t} {r = b} i) k) = subst (λ (z : List Token). IsWord see.Sealed q (t ∷ b) z) (no_words b a k) (phrase.token (sealed_word t i))

  trait_is : (ms : List ClassModifier) (m a : List Token) → ClassWords ms m a → may_be_trait ms ≡ true → (s : Span) (x : _) (t : Template × Span) (b c r : List Token)
      → IsWord see.Trait s a b → IsName x b c → IsTemplate E P x.span t c r → IsTopDef E P (trait_tree ms s x t) m r
  trait_is [] m a w g s x t b c r h i k = subst (λ (z : List Token). IsTopDef E P (trait_tree [] s x t) z r) (sym (no_words m a w)) (grammar.trait h i k)
  trait_is (words.Sealed q ∷ []) m a w g s x t b c r h i k = grammar.sealed_trait (one_sealed q m a w) h i k
  trait_is (words.Sealed q ∷ u ∷ ms) m a w g s x t b c r h i k = absurd cc
  trait_is (words.Abstract q ∷ ms) m a w g s x t b c r h i k = absurd cc

  trait_def_is : (ms : List ClassModifier) (m a : List Token) → ClassWords ms m a → may_be_trait ms ≡ true → Gives (trait_def exprs patterns ms) [] a (Loose (λ d r. IsTopDef E P d m r))
  unfolding trait_def
  trait_def_is ms m a w g = upon (marked see.Trait [] a) (λ s b h. upon (name_is [] b) (λ x c i. map_loose _ (template_is x.span c) (λ t r k. trait_is ms m a w g s x t b c r h i k)))

  object_def_is : (ms : List ClassModifier) (m a : List Token) → ClassWords ms m a → may_be_object ms ≡ true → Gives (object_def exprs patterns) [] a (Loose (λ d r. IsTopDef E P d m r))
  unfolding object_def
  object_def_is [] m a w g = upon (marked see.Object [] a) (λ s b h. upon (name_is [] b) (λ x c i. map_loose _ (template_is x.span c) (λ t r k. subst (λ (z : List Token). IsTopDef E P (object_tree s x t) z r) (sym (no_words m a w)) (grammar.object h i k))))
  object_def_is (u ∷ ms) m a w g = absurd cc

  and_second : (p q : Bool) → (p && q) ≡ true → q ≡ true
  and_second true q h = h
  and_second false q h = absurd cc

  behind_modifiers_is : (ms : List ClassModifier) (m a : List Token) → ClassWords ms m a → Gives (behind_modifiers exprs patterns ms) [] a (Loose (λ d r. IsTopDef E P d m r))
  unfolding behind_modifiers
  behind_modifiers_is ms m a w = either (λ e o. at_trait ms o)
      (λ h. trait_def_is ms m a w (and_second (same see.Trait (ahead a)) (may_be_trait ms) h))
      (λ _. either (λ e o. at_object ms o)
      (λ h. object_def_is ms m a w (and_second (same see.Object (ahead a)) (may_be_object ms) h))
      (λ _. class_def_is ms m a w))

  top_def_is : (a : List Token) → Gives (top_def exprs patterns) [] a (Loose (λ d r. IsTopDef E P d a r))
  unfolding top_def
  top_def_is a = upon (class_words_is a) (λ ms b h. behind_modifiers_is ms a b h)

  -- ---- files

  pub top_defs_is : (a : List Token) → Gives (top_defs exprs patterns) [] a (Clean (λ w r. IsSeq begins_top never (IsTopDef E P) true w.1 a r))
  unfolding top_defs unit_item top_apart top_item
  top_defs_is a = seq_is begins_top never (IsTopDef E P) (top_def exprs patterns) top_def_is (top_none 0) items.top a

  over_is : (held left d r : List Token) (x : Unit {0}) → over_by held left ≡ ok_of x d r → left ≡ []
  over_is [] [] d r x e = refl
  over_is [] (t ∷ ts) d r x e = absurd cc
  over_is (t ∷ held) left d r x e = absurd cc

  pub file_is : (tokens : List Token) (tree : file.Unit) (d r : List Token) → unit exprs patterns ([], tokens) ≡ ok_of tree d r → IsUnit E P tree tokens
  unfolding unit over
  file_is tokens tree d r e =
      let o = bind_ok (top_defs exprs patterns ([], tokens)) (λ s. over >> pure (unit_tree s.1)) tree d r e in
      let p = bind_ok (over_by o.1 o.2) (λ _. pure (unit_tree o.0.1)) tree d r o.4 in
      let k = ((top_defs_is tokens).gives o.0 o.1 o.2 o.3).is in
      subst (λ (z : file.Unit). IsUnit E P z tokens) (ok_0 p.4) (grammar.unit (subst (λ (z : List Token). IsSeq begins_top never (IsTopDef E P) true o.0.1 tokens z) (over_is o.1 o.2 p.1 p.2 p.0 p.3) k))
