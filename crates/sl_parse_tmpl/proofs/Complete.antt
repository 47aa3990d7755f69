-- Files that are in the grammar are read. A rule's proof repeats its definition.
use Rattle.std.proofs.Common.{◌≡◌, Bool, true, false, List, [], ◌∷◌, ◌++◌, Option, Some, None, refl, sym, ap, ◌∙◌, inl, inr, ◌⊎◌}
use Rattle.std.specs.Prelude.{if◌then◌else◌, ◌&&◌, ◌||◌}
use Rattle.sl_text.specs.declared.span.Span.{Span}
use Rattle.sl_ast.specs.declared.token.Token.{Token}
use Rattle.sl_ast.specs.declared.ident.Ident.{Ident}
use Rattle.sl_ast.specs.declared.expr.Expr.{Expr}
use Rattle.sl_ast.specs.declared.args.ParArgs.{ParArgs}
use Rattle.sl_ast.specs.declared.type_tree.TypeTree.{TypeTree}
use Rattle.sl_ast.specs.declared.definition.Def.{Def}
use Rattle.sl_ast.specs.declared.definition.Param.{Param}
use Rattle.sl_ast.specs.declared.template.Template.{Template}
use Rattle.sl_ast.specs.declared.template.Parents.{Parents}
use Rattle.sl_ast.specs.declared.template.Member.{Member}
use Rattle.sl_ast.specs.declared.template.MemberModifier.{MemberModifier}
use Rattle.sl_ast.specs.declared.unit.TopDef.{TopDef}
use Rattle.sl_ast.specs.declared.unit.ClassModifier.{ClassModifier}
use Rattle.sl_ast.specs.declared.unit.ClassModifier.TheVariants as words
use Rattle.sl_ast.specs.declared.unit.ClassParam.{ClassParam}
use Rattle.sl_ast.specs.declared.unit.Params.{Params}
use Rattle.sl_ast.specs.declared.unit.Unit as file
use Rattle.sl_ast.specs.declared.pattern.Pattern.{Pattern}
use Rattle.sl_parse_expr.specs.declared.ahead.Ahead.{Ahead}
use Rattle.sl_parse_expr.specs.declared.ahead.Ahead.TheVariants as see
use Rattle.sl_parse_expr.specs.Ahead.{sort, same}
use Rattle.sl_parse_expr.specs.Starts.{begins_binding, begins_expr}
use Rattle.sl_parse_expr.specs.Tokens.{separates}
use Rattle.sl_parse_expr.specs.Spans.{span_or}
use Rattle.sl_parse_expr.specs.Reading.{Reader, Outcome, and_then, ◌>>◌, pure, absorb, ahead, hold, if_clean, choose, fold, clean}
use Rattle.sl_parse_expr.specs.Rules.{added}
use Rattle.sl_parse_expr.specs.Phrases.{IsOne, IsWord, IsMore, IsListed, IsOption, IsLine, IsSeq, none_held, line_held}
use Rattle.sl_parse_expr.specs.Phrases as phrase
use Rattle.sl_parse_expr.specs.Grammar.{IsName, IsTyped, IsParArgs, IsExpr, IsPattern}
use Rattle.sl_parse_expr.specs.Grammar as inner
use Rattle.sl_parse_expr.proofs.Theory.{ok_of, decide}
use Rattle.sl_parse_expr.proofs.Fronts.{are_same, word_ahead, binding_ahead, front, front_name}
use Rattle.sl_parse_expr.proofs.Inside.{CompleteExprs}
use Rattle.sl_parse_expr.proofs.Reaches.{Reaches, Lands, loose, upon, upon_clean, map, map_clean, single, marked, optional_clean, left, right, left_clean, right_clean, without}
use Rattle.sl_parse_expr.proofs.Complete.{reads_name, reads_binding, reads_type}
use Rattle.sl_parse_expr.proofs.BlockComplete.{reads_par_args}
use Rattle.sl_parse_tmpl.specs.Words.{modifier_of, modifier_by, class_modifier_of, class_modifier_by, is_modifier, is_class_modifier, begins_definition, begins_member, begins_top}
use Rattle.sl_parse_tmpl.specs.LastNew.{member_ends_in_new, never}
use Rattle.sl_parse_tmpl.specs.Trees.{params_span, class_tree, trait_tree, object_tree, unit_tree}
use Rattle.sl_parse_tmpl.specs.Rules.{typed, some_type, optional_type, param, next_param, more_params, no_params, some_params, params, optional_params, private_member, open_member, plain_param, private_param, open_param, class_param, next_class_param, more_class_params, no_class_params, some_class_params, class_params, optional_class_params, modifier, modifiers, class_modifier, class_words, next_trait, traits, some_case, optional_case, at_trait, at_object, member_apart, top_apart, over, value, some_value, optional_value, val_def, var_def, lazy_def, def_def, definition, member_def, member_expr, member, member_item, body_item, members, braces, some_body, behind_line, body, some_args, optional_args, parents, optional_parents, template, class_def, trait_def, object_def, behind_modifiers, top_def, top_item, unit_item, top_defs, unit}
use Rattle.sl_parse_tmpl.specs.Grammar.{IsRun, IsParam, IsParams, IsClassParam, IsClassParams, IsValue, IsDef, IsMember, IsBody, IsParents, IsTemplate, IsTopDef, IsUnit, Derives, body_follows}
use Rattle.sl_parse_tmpl.specs.Grammar as grammar
use Rattle.sl_parse_tmpl.proofs.Good.{member_none, top_none}
use Rattle.sl_parse_tmpl.proofs.Items.{FileItems}
use Rattle.sl_parse_tmpl.proofs.Lists.{list_ends, list_goes}
use Rattle.sl_parse_tmpl.proofs.SeqComplete.{seq_reads}
use Rattle.sl_parse_tmpl.proofs.Sound.{next_param_eats, next_class_param_eats, modifier_eats, class_modifier_eats, next_trait_eats}

-- ---- types and parameters

front_typed : (t : TypeTree) (a r : List Token) → IsTyped t a r → same see.Colon (ahead a) ≡ true
front_typed t a r (inner.typed w h) = front (same see.Colon) see.Colon true refl w

reads_typed : {t : TypeTree} {a r : List Token} → IsTyped t a r → Lands typed [] a t r
unfolding typed
reads_typed (inner.typed w h) = upon_clean _ (marked see.Colon w) (reads_type h)

reads_some_type : (t : TypeTree) (a r : List Token) → IsTyped t a r → Lands some_type [] a (Some t) r
unfolding some_type
reads_some_type t a r h = map_clean _ (reads_typed h)

reads_optional_type : {t : Option TypeTree} {a r : List Token} → IsOption (same see.Colon) IsTyped t a r → Lands optional_type [] a t r
unfolding optional_type
reads_optional_type h = optional_clean (same see.Colon) front_typed reads_some_type h

reads_param : {x : Param} {a r : List Token} → IsParam x a r → Lands param [] a x r
unfolding param
reads_param (grammar.param h k) = upon_clean _ (reads_name h) (map_clean _ (reads_typed k))

front_param : {x : Param} {a r : List Token} (test : Ahead → Bool) (v : Bool) → test see.Id ≡ v → IsParam x a r → test (ahead a) ≡ v
front_param test v i (grammar.param h k) = front_name test v i h

reads_next_param : {s : Span} {x : Param} {a b c : List Token} → IsWord see.Comma s a b → IsParam x b c → Lands next_param [] a x c
unfolding next_param
reads_next_param w h = upon_clean _ (marked see.Comma w) (reads_param h)

reads_more_params : {ys : List Param} {m r : List Token} (xs : List Param) → IsMore see.Comma IsParam ys m r → Lands (more_params xs) [] m (xs ++ ys) r
unfolding more_params
reads_more_params xs (phrase.no_more {r = r} h) = list_ends (same see.Comma) next_param refl next_param_eats xs r h
reads_more_params xs (phrase.one_more {x = x} {xs = ys} {a = a} {c = c} {r = r} w h k) = list_goes (same see.Comma) next_param refl next_param_eats xs x ys a c r (front (same see.Comma) see.Comma true refl w) (reads_next_param w h) (reads_more_params (xs ++ x ∷ []) k)

reads_listed_params : {xs : List Param} {t : Span} {a r : List Token} → IsListed IsParam xs t a r → Lands (choose (same see.CloseParen) no_params some_params) [] a (Some xs) r
unfolding no_params some_params
reads_listed_params (phrase.none_listed w) = left_clean _ (same see.CloseParen) (front (same see.CloseParen) see.CloseParen true refl w) (map_clean (λ _. Some []) (marked see.CloseParen w))
reads_listed_params (phrase.some_listed {x = x} {xs = ys} h m w) = right_clean _ (same see.CloseParen) (front_param (same see.CloseParen) false refl h) (upon_clean _ (reads_param h) (upon_clean _ (reads_more_params (x ∷ []) m) (map_clean (λ _. Some (x ∷ ys)) (marked see.CloseParen w))))

front_params : (xs : List Param) (a r : List Token) → IsParams xs a r → same see.OpenParen (ahead a) ≡ true
front_params xs a r (grammar.params w k) = front (same see.OpenParen) see.OpenParen true refl w

reads_params : (xs : List Param) (a r : List Token) → IsParams xs a r → Lands params [] a (Some xs) r
unfolding params
reads_params xs a r (grammar.params w k) = upon_clean _ (marked see.OpenParen w) (reads_listed_params k)

reads_optional_params : {ps : Option (List Param)} {a r : List Token} → IsOption (same see.OpenParen) IsParams ps a r → Lands optional_params [] a ps r
unfolding optional_params
reads_optional_params h = optional_clean (same see.OpenParen) front_params reads_params h

-- ---- parameters of classes

no_private : (o : Ahead) → begins_binding o ≡ true → same see.Private o ≡ false
no_private see.Val h = refl
no_private see.Var h = refl
no_private o h = absurd cc

no_close : (o : Ahead) → begins_binding o ≡ true → same see.CloseParen o ≡ false
no_close see.Val h = refl
no_close see.Var h = refl
no_close o h = absurd cc

reads_class_param : {x : ClassParam} {a r : List Token} → IsClassParam x a r → Lands class_param [] a x r
unfolding class_param open_param open_member private_param private_member plain_param
reads_class_param (grammar.plain h k) = right_clean _ (same see.Private) (front_name (same see.Private) false refl h) (right_clean _ begins_binding (front_name begins_binding false refl h) (upon_clean _ (reads_name h) (map_clean _ (reads_typed k))))
reads_class_param (grammar.member {a = a} g h k) = right_clean _ (same see.Private) (no_private (ahead a) (binding_ahead g)) (left_clean _ begins_binding (binding_ahead g) (upon_clean _ (map_clean _ (reads_binding g)) (upon_clean _ (reads_name h) (map_clean _ (reads_typed k)))))
reads_class_param (grammar.private w g h k) = left_clean _ (same see.Private) (front (same see.Private) see.Private true refl w) (upon_clean _ (upon_clean _ (marked see.Private w) (map_clean _ (reads_binding g))) (upon_clean _ (reads_name h) (map_clean _ (reads_typed k))))

front_class_param : {x : ClassParam} {a r : List Token} → IsClassParam x a r → same see.CloseParen (ahead a) ≡ false
front_class_param (grammar.plain h k) = front_name (same see.CloseParen) false refl h
front_class_param (grammar.member {a = a} g h k) = no_close (ahead a) (binding_ahead g)
front_class_param (grammar.private w g h k) = front (same see.CloseParen) see.Private false refl w

reads_next_class_param : {s : Span} {x : ClassParam} {a b c : List Token} → IsWord see.Comma s a b → IsClassParam x b c → Lands next_class_param [] a x c
unfolding next_class_param
reads_next_class_param w h = upon_clean _ (marked see.Comma w) (reads_class_param h)

reads_more_class_params : {ys : List ClassParam} {m r : List Token} (xs : List ClassParam) → IsMore see.Comma IsClassParam ys m r → Lands (more_class_params xs) [] m (xs ++ ys) r
unfolding more_class_params
reads_more_class_params xs (phrase.no_more {r = r} h) = list_ends (same see.Comma) next_class_param refl next_class_param_eats xs r h
reads_more_class_params xs (phrase.one_more {x = x} {xs = ys} {a = a} {c = c} {r = r} w h k) = list_goes (same see.Comma) next_class_param refl next_class_param_eats xs x ys a c r (front (same see.Comma) see.Comma true refl w) (reads_next_class_param w h) (reads_more_class_params (xs ++ x ∷ []) k)

reads_listed_class_params : {xs : List ClassParam} {t : Span} {a r : List Token} → IsListed IsClassParam xs t a r → Lands (choose (same see.CloseParen) no_class_params some_class_params) [] a (xs, t) r
unfolding no_class_params some_class_params
reads_listed_class_params (phrase.none_listed w) = left_clean _ (same see.CloseParen) (front (same see.CloseParen) see.CloseParen true refl w) (map_clean _ (marked see.CloseParen w))
reads_listed_class_params (phrase.some_listed {x = x} h m w) = right_clean _ (same see.CloseParen) (front_class_param h) (upon_clean _ (reads_class_param h) (upon_clean _ (reads_more_class_params (x ∷ []) m) (map_clean _ (marked see.CloseParen w))))

front_class_params : (xs : Params) (a r : List Token) → IsClassParams xs a r → same see.OpenParen (ahead a) ≡ true
front_class_params xs a r (grammar.class_params w k) = front (same see.OpenParen) see.OpenParen true refl w

reads_class_params : (xs : Params) (a r : List Token) → IsClassParams xs a r → Lands class_params [] a (Some xs) r
unfolding class_params
reads_class_params xs a r (grammar.class_params w k) = upon_clean _ (marked see.OpenParen w) (map_clean _ (reads_listed_class_params k))

reads_optional_class_params : {ps : Option Params} {a r : List Token} → IsOption (same see.OpenParen) IsClassParams ps a r → Lands optional_class_params [] a ps r
unfolding optional_class_params
reads_optional_class_params h = optional_clean (same see.OpenParen) front_class_params reads_class_params h

-- ---- modifiers, traits, `case`

modifier_ahead : {x : MemberModifier} {a r : List Token} → IsOne modifier_of x a r → is_modifier (ahead a) ≡ true
unfolding modifier_of
modifier_ahead {x = x} (phrase.token {t = t} i) = go (sort t) t.span i
  where
    go : (o : Ahead) (p : Span) → modifier_by o p ≡ Some x → is_modifier o ≡ true
    go see.Override p i = refl
    go see.Private p i = refl
    go o p i = absurd cc

class_modifier_ahead : {x : ClassModifier} {a r : List Token} → IsOne class_modifier_of x a r → is_class_modifier (ahead a) ≡ true
unfolding class_modifier_of
class_modifier_ahead {x = x} (phrase.token {t = t} i) = go (sort t) t.span i
  where
    go : (o : Ahead) (p : Span) → class_modifier_by o p ≡ Some x → is_class_modifier o ≡ true
    go see.Sealed p i = refl
    go see.Abstract p i = refl
    go o p i = absurd cc

reads_modifier : {x : MemberModifier} {a r : List Token} → IsOne modifier_of x a r → Lands modifier [] a x r
unfolding modifier
reads_modifier h = single h

reads_class_modifier : {x : ClassModifier} {a r : List Token} → IsOne class_modifier_of x a r → Lands class_modifier [] a x r
unfolding class_modifier
reads_class_modifier h = single h

reads_more_modifiers : {ys : List MemberModifier} {m r : List Token} (xs : List MemberModifier) → IsRun is_modifier (IsOne modifier_of) ys m r → Lands (fold (clean (λ _ o. is_modifier o)) modifier added xs) [] m (xs ++ ys) r
reads_more_modifiers xs (grammar.no_further {r = r} h) = list_ends is_modifier modifier refl modifier_eats xs r h
reads_more_modifiers xs (grammar.further {x = x} {xs = ys} {a = a} {b = b} {r = r} h k) = list_goes is_modifier modifier refl modifier_eats xs x ys a b r (modifier_ahead h) (reads_modifier h) (reads_more_modifiers (xs ++ x ∷ []) k)

reads_modifiers : {ms : List MemberModifier} {m r : List Token} → IsRun is_modifier (IsOne modifier_of) ms m r → Lands modifiers [] m ms r
unfolding modifiers
reads_modifiers k = reads_more_modifiers [] k

abbrev ClassWords : List ClassModifier → List Token → List Token → Type 0
ClassWords = IsRun is_class_modifier (IsOne class_modifier_of)

reads_more_class_words : {ys : List ClassModifier} {m r : List Token} (xs : List ClassModifier) → ClassWords ys m r → Lands (fold (clean (λ _ o. is_class_modifier o)) class_modifier added xs) [] m (xs ++ ys) r
reads_more_class_words xs (grammar.no_further {r = r} h) = list_ends is_class_modifier class_modifier refl class_modifier_eats xs r h
reads_more_class_words xs (grammar.further {x = x} {xs = ys} {a = a} {b = b} {r = r} h k) = list_goes is_class_modifier class_modifier refl class_modifier_eats xs x ys a b r (class_modifier_ahead h) (reads_class_modifier h) (reads_more_class_words (xs ++ x ∷ []) k)

reads_class_words : {ms : List ClassModifier} {m r : List Token} → ClassWords ms m r → Lands class_words [] m ms r
unfolding class_words
reads_class_words k = reads_more_class_words [] k

reads_next_trait : {s : Span} {x : Ident} {a b c : List Token} → IsWord see.With s a b → IsName x b c → Lands next_trait [] a x c
unfolding next_trait
reads_next_trait w h = upon_clean _ (marked see.With w) (reads_name h)

reads_more_traits : {ys : List Ident} {m r : List Token} (xs : List Ident) → IsMore see.With IsName ys m r → Lands (fold (clean (λ _ o. same see.With o)) next_trait added xs) [] m (xs ++ ys) r
reads_more_traits xs (phrase.no_more {r = r} h) = list_ends (same see.With) next_trait refl next_trait_eats xs r h
reads_more_traits xs (phrase.one_more {x = x} {xs = ys} {a = a} {c = c} {r = r} w h k) = list_goes (same see.With) next_trait refl next_trait_eats xs x ys a c r (front (same see.With) see.With true refl w) (reads_next_trait w h) (reads_more_traits (xs ++ x ∷ []) k)

reads_traits : {xs : List Ident} {m r : List Token} → IsMore see.With IsName xs m r → Lands traits [] m xs r
unfolding traits
reads_traits k = reads_more_traits [] k

front_case : (s : Span) (a r : List Token) → IsWord see.Case s a r → same see.Case (ahead a) ≡ true
front_case s a r w = front (same see.Case) see.Case true refl w

reads_some_case : (s : Span) (a r : List Token) → IsWord see.Case s a r → Lands some_case [] a (Some s) r
unfolding some_case
reads_some_case s a r w = map_clean _ (marked see.Case w)

reads_optional_case : {c : Option Span} {a r : List Token} → IsOption (same see.Case) (IsWord see.Case) c a r → Lands optional_case [] a c r
unfolding optional_case
reads_optional_case h = optional_clean (same see.Case) front_case reads_some_case h

-- ---- what a member begins with

or_here : (a b : Bool) → a ≡ true → (a || b) ≡ true
or_here a b h = rw h refl

or_there : (a b : Bool) → b ≡ true → (a || b) ≡ true
or_there true b h = refl
or_there false b h = h

modifier_begins : (o : Ahead) → is_modifier o ≡ true → begins_definition o ≡ true
modifier_begins see.Override h = refl
modifier_begins see.Private h = refl
modifier_begins o h = absurd cc

class_modifier_begins : (o : Ahead) → is_class_modifier o ≡ true → begins_top o ≡ true
class_modifier_begins see.Sealed h = refl
class_modifier_begins see.Abstract h = refl
class_modifier_begins o h = absurd cc

no_definition : (o : Ahead) → begins_expr o ≡ true → begins_definition o ≡ false
no_definition see.Override h = absurd cc
no_definition see.Private h = absurd cc
no_definition see.Val h = absurd cc
no_definition see.Var h = absurd cc
no_definition see.Lazy h = absurd cc
no_definition see.Def h = absurd cc
no_definition o h = refl

no_separator : (o : Ahead) → begins_member o ≡ true → separates o ≡ false
no_separator see.Semicolon h = absurd cc
no_separator see.Newline h = absurd cc
no_separator o h = refl

no_separator_top : (o : Ahead) → begins_top o ≡ true → separates o ≡ false
no_separator_top see.Semicolon h = absurd cc
no_separator_top see.Newline h = absurd cc
no_separator_top o h = refl

-- ---- over expressions to a depth

module _ {exprs : Reader Expr} {patterns : Reader Pattern} {E : Expr → List Token → List Token → Type 0} {Q : Pattern → List Token → List Token → Type 0} (ok : CompleteExprs exprs patterns E Q) (items : FileItems exprs patterns) where
  abbrev P : ParArgs → List Token → List Token → Type 0
  P = IsParArgs E Q

  -- ---- definitions

  front_value : (e : Expr) (a r : List Token) → IsValue E P e a r → same see.Equals (ahead a) ≡ true
  front_value e a r (grammar.value w h) = front (same see.Equals) see.Equals true refl w

  reads_value : {e : Expr} {a r : List Token} → IsValue E P e a r → Reaches (value exprs patterns) [] a e r
  unfolding value
  reads_value (grammar.value w h) = upon _ (marked see.Equals w) (ok.reads _ _ _ h)

  reads_optional_value : {e : Option Expr} {a r : List Token} → IsOption (same see.Equals) (IsValue E P) e a r → Reaches (optional_value exprs patterns) [] a e r
  unfolding optional_value some_value
  reads_optional_value (phrase.absent h) = loose (without (same see.Equals) None h)
  reads_optional_value (phrase.present {x = e} {a = a} {r = r} h) =
      let g = map (λ e. Some e) (reads_value h) in
      record { held = g.held; left = g.left; pending = g.pending; whole = g.whole; reads = ap (λ (b : Bool). (if b then (some_value exprs patterns) else pure None) ([], a)) (front_value e a r h) ∙ g.reads }

  reads_def : {d : Def} {a r : List Token} → IsDef E P d a r → Reaches (definition exprs patterns) [] a d r
  unfolding definition val_def var_def lazy_def def_def
  reads_def (grammar.val w h t e) = left _ (same see.Val) (front (same see.Val) see.Val true refl w) (upon _ (marked see.Val w) (upon _ (reads_name h) (upon _ (reads_optional_type t) (map _ (reads_optional_value e)))))
  reads_def (grammar.var w h t e) = right _ (same see.Val) (front (same see.Val) see.Var false refl w) (left _ (same see.Var) (front (same see.Var) see.Var true refl w) (upon _ (marked see.Var w) (upon _ (reads_name h) (upon _ (reads_optional_type t) (map _ (reads_value e))))))
  reads_def (grammar.«lazy» w v h t e) = right _ (same see.Val) (front (same see.Val) see.Lazy false refl w) (right _ (same see.Var) (front (same see.Var) see.Lazy false refl w) (left _ (same see.Lazy) (front (same see.Lazy) see.Lazy true refl w) (upon _ (marked see.Lazy w) (upon _ (marked see.Val v) (upon _ (reads_name h) (upon _ (reads_optional_type t) (map _ (reads_value e))))))))
  reads_def (grammar.def w h ps t e) = right _ (same see.Val) (front (same see.Val) see.Def false refl w) (right _ (same see.Var) (front (same see.Var) see.Def false refl w) (right _ (same see.Lazy) (front (same see.Lazy) see.Def false refl w) (upon _ (marked see.Def w) (upon _ (reads_name h) (upon _ (reads_optional_params ps) (upon _ (reads_typed t) (map _ (reads_optional_value e))))))))

  -- ---- members

  front_def : {d : Def} {a r : List Token} → IsDef E P d a r → begins_definition (ahead a) ≡ true
  front_def (grammar.val w h t e) = front begins_definition see.Val true refl w
  front_def (grammar.var w h t e) = front begins_definition see.Var true refl w
  front_def (grammar.«lazy» w v h t e) = front begins_definition see.Lazy true refl w
  front_def (grammar.def w h ps t e) = front begins_definition see.Def true refl w

  front_modified : {ms : List MemberModifier} {d : Def} {a b r : List Token} → IsRun is_modifier (IsOne modifier_of) ms a b → IsDef E P d b r → begins_definition (ahead a) ≡ true
  front_modified (grammar.no_further h) k = front_def k
  front_modified (grammar.further {a = a} h g) k = modifier_begins (ahead a) (modifier_ahead h)

  front_member : (x : Member) (a r : List Token) → IsMember E P x a r → begins_member (ahead a) ≡ true
  front_member x a r (grammar.definition g k) = or_here (begins_definition (ahead a)) (begins_expr (ahead a)) (front_modified g k)
  front_member x a r (grammar.expression {e = e} h) = or_there (begins_definition (ahead a)) (begins_expr (ahead a)) (ok.fronts e a r h)

  reads_member : (x : Member) (a r : List Token) → IsMember E P x a r → Reaches (member exprs patterns) [] a x r
  unfolding member member_def member_expr
  reads_member x a r (grammar.definition g k) = left _ begins_definition (front_modified g k) (upon _ (reads_modifiers g) (map _ (reads_def k)))
  reads_member x a r (grammar.expression {e = e} h) = right _ begins_definition (no_definition (ahead a) (ok.fronts e a r h)) (map _ (ok.reads e a r h))

  reads_members : (xs : List Member) (a r : List Token) → IsSeq begins_member member_ends_in_new (IsMember E P) true xs a r → (last : Bool) × Lands (members exprs patterns) [] a (last, xs) r
  unfolding members body_item member_apart member_item
  reads_members xs a r k = seq_reads begins_member member_ends_in_new (IsMember E P) (member exprs patterns) reads_member front_member no_separator (member_none 0) items.member xs a r k

  -- ---- templates

  reads_braces : {s t : Span} {xs : List Member} {b c d r : List Token} → IsWord see.OpenBrace s b c → IsSeq begins_member member_ends_in_new (IsMember E P) true xs c d → IsWord see.CloseBrace t d r → Lands (braces exprs patterns) [] b (xs, t) r
  unfolding braces
  reads_braces {xs = xs} {c = c} {d = d} w k z = upon_clean _ (marked see.OpenBrace w) (upon_clean _ (reads_members xs c d k).1 (map_clean _ (marked see.CloseBrace z)))

  reads_some_body : {s t : Span} {xs : List Member} {d b c e r : List Token} → IsWord see.OpenBrace s b c → IsSeq begins_member member_ends_in_new (IsMember E P) true xs c e → IsWord see.CloseBrace t e r → Lands (some_body exprs patterns) d b (Some (xs, t)) r
  unfolding some_body absorb
  reads_some_body w k z = let g = map_clean (λ b. Some b) (reads_braces w k z) in record { reads = g.reads }

  -- what stands where no body follows: another token, a line end with another token behind it, or nothing
  no_body_reads : (a : List Token) → body_follows a ≡ false → Reaches (body exprs patterns) [] a None a
  unfolding body behind_line
  no_body_reads [] h = record { held = []; left = []; pending = none_held; whole = refl; reads = refl }
  no_body_reads (t ∷ b) h = elim (decide (same see.OpenBrace (sort t))) [
    | inl i ↦ absurd (opened (same see.OpenBrace (sort t)) (same see.Newline (sort t) && same see.OpenBrace (ahead b)) i h)
    | inr i ↦ elim (decide (same see.Newline (sort t))) [
      | inl l ↦ (let j = behind_is (same see.OpenBrace (sort t)) (same see.Newline (sort t)) (same see.OpenBrace (ahead b)) l h in
          record {
            held = t ∷ [];
            left = b;
            pending = line_held (are_same see.Newline (sort t) l);
            whole = refl;
            reads = ap (λ (v : Bool). (if v then some_body exprs patterns else if same see.Newline (sort t) then hold (behind_line exprs patterns) else pure None) ([], t ∷ b)) i
                ∙ ap (λ (v : Bool). (if v then hold (behind_line exprs patterns) else pure None) ([], t ∷ b)) l
                ∙ ap (λ (v : Bool). (if v then some_body exprs patterns else pure None) (t ∷ [], b)) j;
          })
      | inr l ↦ record {
        held = [];
        left = t ∷ b;
        pending = none_held;
        whole = refl;
        reads = ap (λ (v : Bool). (if v then some_body exprs patterns else if same see.Newline (sort t) then hold (behind_line exprs patterns) else pure None) ([], t ∷ b)) i
            ∙ ap (λ (v : Bool). (if v then hold (behind_line exprs patterns) else pure None) ([], t ∷ b)) l;
      }
    ]
  ]
    where
      opened : (p q : Bool) → p ≡ true → (p || q) ≡ false → ⊥
      opened true q i h = absurd cc
      opened false q i h = absurd cc

      behind_is : (p l q : Bool) → l ≡ true → (p || (l && q)) ≡ false → q ≡ false
      behind_is false true q i h = h
      behind_is true l q i h = absurd cc
      behind_is false false q i h = absurd cc

  brace_body : {t : Token} {s e : Span} {xs : List Member} {b c d r : List Token} → sort t ≡ see.Newline → IsWord see.OpenBrace s b c → IsSeq begins_member member_ends_in_new (IsMember E P) true xs c d → IsWord see.CloseBrace e d r → Lands (body exprs patterns) [] (t ∷ b) (Some (xs, e)) r
  unfolding body behind_line
  brace_body {t = t} {b = b} i w k z = record {
    reads = ap (λ (o : Ahead). (if same see.OpenBrace o then some_body exprs patterns else if same see.Newline o then hold (behind_line exprs patterns) else pure None) ([], t ∷ b)) i
        ∙ ap (λ (v : Bool). (if v then some_body exprs patterns else pure None) (t ∷ [], b)) (front (same see.OpenBrace) see.OpenBrace true refl w)
        ∙ (reads_some_body {d = t ∷ []} w k z).reads;
  }

  reads_body : {x : Option (List Member × Span)} {a r : List Token} → IsBody E P x a r → Reaches (body exprs patterns) [] a x r
  unfolding body
  reads_body (grammar.no_body {r = r} h) = no_body_reads r h
  reads_body (grammar.body {b = b} phrase.no_nl w k z) = loose (record { reads = ap (λ (v : Bool). (if v then some_body exprs patterns else if if_clean (same see.Newline) [] (ahead b) then hold (behind_line exprs patterns) else pure None) ([], b)) (front (same see.OpenBrace) see.OpenBrace true refl w) ∙ (reads_some_body {d = []} w k z).reads })
  reads_body (grammar.body (phrase.one_nl {s = q} (phrase.token {t = t} {r = b} i)) w k z) = loose (brace_body {t = t} (word_ahead {what = see.Newline} {s = q} {a = t ∷ b} {r = b} (phrase.token i)) w k z)

  front_args : (x : ParArgs) (a r : List Token) → P x a r → same see.OpenParen (ahead a) ≡ true
  front_args x a r (inner.par_args w k) = front (same see.OpenParen) see.OpenParen true refl w

  reads_some_args : (x : ParArgs) (a r : List Token) → P x a r → Lands (some_args exprs patterns) [] a (Some x) r
  unfolding some_args
  reads_some_args x a r h = map_clean _ (reads_par_args ok h)

  reads_optional_args : {x : Option ParArgs} {a r : List Token} → IsOption (same see.OpenParen) P x a r → Lands (optional_args exprs patterns) [] a x r
  unfolding optional_args
  reads_optional_args h = optional_clean (same see.OpenParen) front_args reads_some_args h

  front_parents : (p : Parents) (a r : List Token) → IsParents E P p a r → same see.Extends (ahead a) ≡ true
  front_parents p a r (grammar.parents w h q k) = front (same see.Extends) see.Extends true refl w

  reads_parents : (p : Parents) (a r : List Token) → IsParents E P p a r → Lands (parents exprs patterns) [] a (Some p) r
  unfolding parents
  reads_parents p a r (grammar.parents w h q k) = upon_clean _ (marked see.Extends w) (upon_clean _ (reads_name h) (upon_clean _ (reads_optional_args q) (map_clean _ (reads_traits k))))

  reads_template : (s : Span) {t : Template × Span} {a r : List Token} → IsTemplate E P s t a r → Reaches (template exprs patterns s) [] a t r
  unfolding template optional_parents
  reads_template s (grammar.template h k) = upon _ (optional_clean (same see.Extends) front_parents reads_parents h) (map _ (reads_body k))

  -- ---- classes, traits, objects

  no_words : (ms : List ClassModifier) (o : Ahead) → o ≡ see.Class ⊎ o ≡ see.Case → (at_trait ms o ≡ false) × (at_object ms o ≡ false)
  no_words ms o (inl i) = rw i (refl, refl)
  no_words ms o (inr i) = rw i (refl, refl)

  front_class : {c : Option Span} {s : Span} {a b r : List Token} → IsOption (same see.Case) (IsWord see.Case) c a b → IsWord see.Class s b r → ahead a ≡ see.Class ⊎ ahead a ≡ see.Case
  front_class (phrase.absent h) w = inl (word_ahead w)
  front_class (phrase.present k) w = inr (word_ahead k)

  reads_class_def : (ms : List ClassModifier) {c : Option Span} {s : Span} {x : Ident} {ps : Option Params} {t : Template × Span} {a1 a2 a3 a4 a5 r : List Token}
      → IsOption (same see.Case) (IsWord see.Case) c a1 a2 → IsWord see.Class s a2 a3 → IsName x a3 a4 → IsOption (same see.OpenParen) IsClassParams ps a4 a5 → IsTemplate E P (span_or params_span x.span ps) t a5 r
      → Reaches (class_def exprs patterns ms) [] a1 (class_tree ms c s x ps t) r
  unfolding class_def
  reads_class_def ms g w h k t = upon _ (reads_optional_case g) (upon _ (marked see.Class w) (upon _ (reads_name h) (upon _ (reads_optional_class_params k) (map _ (reads_template _ t)))))

  reads_trait_def : (ms : List ClassModifier) {s : Span} {x : Ident} {t : Template × Span} {a b c r : List Token} → IsWord see.Trait s a b → IsName x b c → IsTemplate E P x.span t c r → Reaches (trait_def exprs patterns ms) [] a (trait_tree ms s x t) r
  unfolding trait_def
  reads_trait_def ms w h t = upon _ (marked see.Trait w) (upon _ (reads_name h) (map _ (reads_template _ t)))

  reads_object_def : {s : Span} {x : Ident} {t : Template × Span} {a b c r : List Token} → IsWord see.Object s a b → IsName x b c → IsTemplate E P x.span t c r → Reaches (object_def exprs patterns) [] a (object_tree s x t) r
  unfolding object_def
  reads_object_def w h t = upon _ (marked see.Object w) (upon _ (reads_name h) (map _ (reads_template _ t)))

  abbrev sealed_of : Option Span → Option ClassModifier
  sealed_of (Some z) = Some (words.Sealed z)
  sealed_of None = None

  sealed_words : {q : Span} {a b : List Token} → IsWord see.Sealed q a b → is_class_modifier (ahead b) ≡ false → ClassWords (words.Sealed q ∷ []) a b
  unfolding class_modifier_of
  sealed_words {q = q} (phrase.token {t = t} i) h = grammar.further (phrase.token (go (sort t) t.span i)) (grammar.no_further h)
    where
      go : (o : Ahead) (p : Span) → (if same see.Sealed o then Some p else None) ≡ Some q → class_modifier_by o p ≡ Some (words.Sealed q)
      go see.Sealed p i = ap sealed_of i
      go o p i = absurd cc

  front_top : (d : TopDef) (a r : List Token) → IsTopDef E P d a r → begins_top (ahead a) ≡ true
  front_top d a r (grammar.class (grammar.no_further h) g w x k t) = elim (front_class g w) [ inl i ↦ rw i refl | inr i ↦ rw i refl ]
  front_top d a r (grammar.class (grammar.further m z) g w x k t) = class_modifier_begins (ahead a) (class_modifier_ahead m)
  front_top d a r (grammar.trait w h t) = front begins_top see.Trait true refl w
  front_top d a r (grammar.sealed_trait q w h t) = front begins_top see.Sealed true refl q
  front_top d a r (grammar.object w h t) = front begins_top see.Object true refl w

  reads_top : (d : TopDef) (a r : List Token) → IsTopDef E P d a r → Reaches (top_def exprs patterns) [] a d r
  unfolding top_def behind_modifiers
  reads_top d a r (grammar.class {ms = ms} {a1 = a1} m g w x k t) = let i = no_words ms (ahead a1) (front_class g w) in
      upon _ (reads_class_words m) (right _ (at_trait ms) i.0 (right _ (at_object ms) i.1 (reads_class_def ms g w x k t)))
  reads_top d a r (grammar.trait w h t) = upon _ (reads_class_words (grammar.no_further (front is_class_modifier see.Trait false refl w))) (left _ (at_trait []) (front (at_trait []) see.Trait true refl w) (reads_trait_def [] w h t))
  reads_top d a r (grammar.sealed_trait {q = q} u w h t) = upon _ (reads_class_words (sealed_words u (front is_class_modifier see.Trait false refl w))) (left _ (at_trait (words.Sealed q ∷ [])) (front (at_trait (words.Sealed q ∷ [])) see.Trait true refl w) (reads_trait_def (words.Sealed q ∷ []) w h t))
  reads_top d a r (grammar.object w h t) = upon _ (reads_class_words (grammar.no_further (front is_class_modifier see.Object false refl w))) (right _ (at_trait []) (front (at_trait []) see.Object false refl w) (left _ (at_object []) (front (at_object []) see.Object true refl w) (reads_object_def w h t)))

  -- ---- files

  reads_top_defs : (xs : List TopDef) (a r : List Token) → IsSeq begins_top never (IsTopDef E P) true xs a r → (last : Bool) × Lands (top_defs exprs patterns) [] a (last, xs) r
  unfolding top_defs unit_item top_apart top_item
  reads_top_defs xs a r k = seq_reads begins_top never (IsTopDef E P) (top_def exprs patterns) reads_top front_top no_separator_top (top_none 0) items.top xs a r k

  -- its definitions, with nothing left
  pub reads_all : (tokens : List Token) (tree : file.Unit) → IsUnit E P tree tokens → (last : Bool) × (xs : List TopDef) × (tree ≡ unit_tree xs) × (top_defs exprs patterns ([], tokens) ≡ ok_of (last, xs) [] [])
  reads_all tokens tree (grammar.unit {xs = xs} k) = let g = reads_top_defs xs tokens [] k in (g.0, xs, refl, g.1.reads)

  pub ends_there : (tokens : List Token) (s : Bool × List TopDef) → top_defs exprs patterns ([], tokens) ≡ ok_of s [] [] → unit exprs patterns ([], tokens) ≡ ok_of (unit_tree s.1) [] []
  unfolding unit over
  ends_there tokens s e = ap (λ (o : Outcome (Bool × List TopDef)). and_then o (λ s. over >> pure (unit_tree s.1))) e

  pub reads_file : (tokens : List Token) (tree : file.Unit) → IsUnit E P tree tokens → unit exprs patterns ([], tokens) ≡ ok_of tree [] []
  reads_file tokens tree h = let g = reads_all tokens tree h in ends_there tokens (g.0, g.1) g.3 ∙ ap (λ (z : file.Unit). ok_of z [] []) (sym g.2)
