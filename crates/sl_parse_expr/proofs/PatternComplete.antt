-- Patterns that are in the grammar are read.
use Rattle.std.proofs.Common.{◌≡◌, ℕ, zero, suc, Bool, true, false, List, [], ◌∷◌, ◌++◌, refl}
use Rattle.sl_text.specs.declared.span.Span.{Span}
use Rattle.sl_ast.specs.declared.token.Token.{Token}
use Rattle.sl_ast.specs.declared.ident.Ident.{Ident}
use Rattle.sl_ast.specs.declared.type_tree.TypeTree.{TypeTree}
use Rattle.sl_ast.specs.declared.pattern.Pattern.{Pattern}
use Rattle.sl_ast.specs.declared.pattern.Pat.{Pat}
use Rattle.sl_ast.specs.declared.pattern.PatS.{PatS}
use Rattle.sl_ast.specs.declared.pattern.Wildcard.{Wildcard}
use Rattle.sl_parse_expr.specs.declared.ahead.Ahead.{Ahead}
use Rattle.sl_parse_expr.specs.declared.ahead.Ahead.TheVariants as see
use Rattle.sl_parse_expr.specs.Ahead.{same}
use Rattle.sl_parse_expr.specs.PatternTrees.{typed_tree, constructor_tree}
use Rattle.sl_parse_expr.specs.Reading.{ahead, choose, fold, clean, Reader}
use Rattle.sl_parse_expr.specs.Rules.{added}
use Rattle.sl_parse_expr.specs.PatternRules.{at_name, next_part, more_parts, some_parts, no_parts, constructor, inside, minus, no_minus, closed, anything, called, simple_pattern, of_type, bound, built, behind_name, by_name, by_underscore, by_itself, alternative, next_alternative, more_alternatives, any_pattern, pattern}
use Rattle.sl_parse_expr.specs.Phrases.{IsWord, IsMore, IsListed}
use Rattle.sl_parse_expr.specs.Phrases as phrase
use Rattle.sl_parse_expr.specs.Grammar.{IsTyped, IsClosed, IsConstructor, IsPatS, IsPat, IsAnyPattern, IsPattern}
use Rattle.sl_parse_expr.specs.Grammar as grammar
use Rattle.sl_parse_expr.proofs.Fronts.{front, front_name, front_literal}
use Rattle.sl_parse_expr.proofs.Reaches.{Reaches, Lands, From, loose, at_once, next_clean, upon, upon_clean, map_clean, map_from, through_clean, marked, closing, without, having, left_clean, right_clean, stays, goes}
use Rattle.sl_parse_expr.proofs.Complete.{reads_name, reads_literal, reads_type}
use Rattle.sl_parse_expr.proofs.Inside.{CompletePatterns, Untold, pattern_items}

-- ---- what they begin with

front_closed : {Q : Pattern → List Token → List Token → Type 0} {p : PatS} {a r : List Token} (test : Ahead → Bool) (v : Bool) → test see.OpenParen ≡ v → test see.Minus ≡ v → test see.Literal ≡ v → IsClosed Q p a r → test (ahead a) ≡ v
front_closed test v i j k (grammar.negative w h) = front test see.Minus v j w
front_closed test v i j k (grammar.literal h) = front_literal test v k h
front_closed test v i j k (grammar.inside w h z) = front test see.OpenParen v i w

front_constructor : {Q : Pattern → List Token → List Token → Type 0} {p : PatS} {a r : List Token} (test : Ahead → Bool) (v : Bool) → test see.Id ≡ v → IsConstructor Q p a r → test (ahead a) ≡ v
front_constructor test v i (grammar.constructor h w k) = front_name test v i h

front_pat : {Q : Pattern → List Token → List Token → Type 0} {p : Pat} {a r : List Token} (test : Ahead → Bool) (v : Bool) → test see.Id ≡ v → test see.Underscore ≡ v → test see.OpenParen ≡ v → test see.Minus ≡ v → test see.Literal ≡ v → IsPat Q p a r → test (ahead a) ≡ v
front_pat test v g u i j k (grammar.typed_name h t) = front_name test v g h
front_pat test v g u i j k (grammar.typed_any w t) = front test see.Underscore v u w
front_pat test v g u i j k (grammar.bound h w z) = front_name test v g h
front_pat test v g u i j k (grammar.only_any w z) = front test see.Underscore v u w
front_pat test v g u i j k (grammar.only_closed h) = front_closed test v i j k h
front_pat test v g u i j k (grammar.only_name h z) = front_name test v g h
front_pat test v g u i j k (grammar.only_built h) = front_constructor test v g h

pub front_any : {Q : Pattern → List Token → List Token → Type 0} (p : Pattern) (a r : List Token) (test : Ahead → Bool) (v : Bool) → Untold test v → IsAnyPattern Q p a r → test (ahead a) ≡ v
front_any p a r test v u (grammar.alternatives h m) = front_pat test v u.id u.underscore u.paren u.minus u.literal h

pub front_pattern : (n : ℕ) (p : Pattern) (a r : List Token) (test : Ahead → Bool) (v : Bool) → Untold test v → IsPattern n p a r → test (ahead a) ≡ v
front_pattern zero p a r test v u h = absurd h
front_pattern (suc n) p a r test v u h = front_any p a r test v u h

-- ---- the rules, over the patterns inside

module _ {patterns : Reader Pattern} {Q : Pattern → List Token → List Token → Type 0} (ok : CompletePatterns patterns Q) where
  reads_next_part : {s : Span} {x : Pattern} {a b c : List Token} → IsWord see.Comma s a b → Q x b c → Reaches (next_part patterns) [] a x c
  unfolding next_part
  reads_next_part w h = upon _ (marked see.Comma w) (ok.reads _ _ _ h)

  reads_parts : {ps : List Pattern} {m r : List Token} (xs : List Pattern) → IsMore see.Comma Q ps m r → From (more_parts patterns xs) m (xs ++ ps) r
  unfolding more_parts
  reads_parts xs (phrase.no_more {r = r} h) = stays (same see.Comma) (next_part patterns) refl refl refl ok.items.part xs r h
  reads_parts xs (phrase.one_more {x = x} {xs = ys} {a = a} {c = c} {r = r} w h k) = goes (same see.Comma) (next_part patterns) refl refl refl ok.items.part xs x ys a c r (front (same see.Comma) see.Comma true refl w) (reads_next_part w h) (reads_parts (xs ++ x ∷ []) k)

  reads_listed : {ps : List Pattern} {t : Span} {a r : List Token} → IsListed Q ps t a r → Lands (choose (same see.CloseParen) (no_parts patterns) (some_parts patterns)) [] a (ps, t) r
  unfolding no_parts some_parts
  reads_listed (phrase.none_listed w) = left_clean _ (same see.CloseParen) (front (same see.CloseParen) see.CloseParen true refl w) (map_clean _ (marked see.CloseParen w))
  reads_listed (phrase.some_listed {x = x} h m w) = right_clean _ (same see.CloseParen) (ok.fronts _ _ _ (same see.CloseParen) false (record { id = refl; underscore = refl; paren = refl; minus = refl; literal = refl }) h) (next_clean _ (ok.reads _ _ _ h) (through_clean _ (reads_parts (x ∷ []) m) (closing see.CloseParen refl refl refl w (map_clean _ (marked see.CloseParen w)))))

  reads_constructor : {x : Ident} {s t : Span} {ps : List Pattern} {b c r : List Token} → IsWord see.OpenParen s b c → IsListed Q ps t c r → Lands (constructor patterns x) [] b (constructor_tree x ps t) r
  unfolding constructor
  reads_constructor w k = upon_clean _ (marked see.OpenParen w) (map_clean _ (reads_listed k))

  reads_closed : {p : PatS} {a r : List Token} → IsClosed Q p a r → Lands (closed patterns) [] a p r
  unfolding closed inside minus no_minus
  reads_closed (grammar.negative w h) = right_clean _ (same see.OpenParen) (front (same see.OpenParen) see.Minus false refl w) (left_clean _ (same see.Minus) (front (same see.Minus) see.Minus true refl w) (upon_clean _ (marked see.Minus w) (map_clean _ (reads_literal h))))
  reads_closed (grammar.literal h) = right_clean _ (same see.OpenParen) (front_literal (same see.OpenParen) false refl h) (right_clean _ (same see.Minus) (front_literal (same see.Minus) false refl h) (map_clean _ (reads_literal h)))
  reads_closed (grammar.inside w h z) = left_clean _ (same see.OpenParen) (front (same see.OpenParen) see.OpenParen true refl w) (upon_clean _ (marked see.OpenParen w) (next_clean _ (ok.reads _ _ _ h) (closing see.CloseParen refl refl refl z (map_clean _ (marked see.CloseParen z)))))

  reads_simple_pattern : {p : PatS} {a r : List Token} → IsPatS Q p a r → Lands (simple_pattern patterns) [] a p r
  unfolding simple_pattern called anything
  reads_simple_pattern (grammar.anything w) = right_clean _ (same see.Id) (front (same see.Id) see.Underscore false refl w) (left_clean _ (same see.Underscore) (front (same see.Underscore) see.Underscore true refl w) (map_clean _ (marked see.Underscore w)))
  reads_simple_pattern (grammar.closed h) = right_clean _ (same see.Id) (front_closed (same see.Id) false refl refl refl h) (right_clean _ (same see.Underscore) (front_closed (same see.Underscore) false refl refl refl h) (reads_closed h))
  reads_simple_pattern (grammar.name h i) = left_clean _ (same see.Id) (front_name (same see.Id) true refl h) (upon_clean _ (reads_name h) (without (same see.OpenParen) _ i))
  reads_simple_pattern (grammar.built (grammar.constructor h w k)) = left_clean _ (same see.Id) (front_name (same see.Id) true refl h) (upon_clean _ (reads_name h) (having (same see.OpenParen) _ (front (same see.OpenParen) see.OpenParen true refl w) (reads_constructor w k)))

  reads_of_type : {t : TypeTree} {a r : List Token} (w : Wildcard) → IsTyped t a r → Lands (of_type patterns w) [] a (typed_tree w t) r
  unfolding of_type
  reads_of_type w (grammar.typed c h) = upon_clean _ (marked see.Colon c) (map_clean _ (reads_type h))

  front_typed : {t : TypeTree} {a r : List Token} (test : Ahead → Bool) → test see.Colon ≡ true → IsTyped t a r → test (ahead a) ≡ true
  front_typed test i (grammar.typed w h) = front test see.Colon true i w

  reads_pat : {p : Pat} {a r : List Token} → IsPat Q p a r → Lands (alternative patterns) [] a p r
  unfolding alternative by_name by_underscore by_itself behind_name bound built
  reads_pat (grammar.typed_name h t) = left_clean _ (same see.Id) (front_name (same see.Id) true refl h) (upon_clean _ (reads_name h) (having at_name _ (front_typed at_name refl t) (left_clean _ (same see.Colon) (front_typed (same see.Colon) refl t) (reads_of_type _ t))))
  reads_pat (grammar.typed_any w t) = right_clean _ (same see.Id) (front (same see.Id) see.Underscore false refl w) (left_clean _ (same see.Underscore) (front (same see.Underscore) see.Underscore true refl w) (upon_clean _ (marked see.Underscore w) (having (same see.Colon) _ (front_typed (same see.Colon) refl t) (reads_of_type _ t))))
  reads_pat (grammar.bound h w k) = left_clean _ (same see.Id) (front_name (same see.Id) true refl h) (upon_clean _ (reads_name h) (having at_name _ (front at_name see.At true refl w) (right_clean _ (same see.Colon) (front (same see.Colon) see.At false refl w) (left_clean _ (same see.At) (front (same see.At) see.At true refl w) (upon_clean _ (marked see.At w) (map_clean _ (reads_simple_pattern k)))))))
  reads_pat (grammar.only_any w i) = right_clean _ (same see.Id) (front (same see.Id) see.Underscore false refl w) (left_clean _ (same see.Underscore) (front (same see.Underscore) see.Underscore true refl w) (upon_clean _ (marked see.Underscore w) (without (same see.Colon) _ i)))
  reads_pat (grammar.only_closed h) = right_clean _ (same see.Id) (front_closed (same see.Id) false refl refl refl h) (right_clean _ (same see.Underscore) (front_closed (same see.Underscore) false refl refl refl h) (map_clean _ (reads_closed h)))
  reads_pat (grammar.only_name h i) = left_clean _ (same see.Id) (front_name (same see.Id) true refl h) (upon_clean _ (reads_name h) (without at_name _ i))
  reads_pat (grammar.only_built (grammar.constructor h w k)) = left_clean _ (same see.Id) (front_name (same see.Id) true refl h) (upon_clean _ (reads_name h) (having at_name _ (front at_name see.OpenParen true refl w) (right_clean _ (same see.Colon) (front (same see.Colon) see.OpenParen false refl w) (right_clean _ (same see.At) (front (same see.At) see.OpenParen false refl w) (map_clean _ (reads_constructor w k))))))

  reads_next_alternative : {s : Span} {x : Pat} {a b c : List Token} → IsWord see.Bar s a b → IsPat Q x b c → Reaches (next_alternative patterns) [] a x c
  unfolding next_alternative
  reads_next_alternative w h = upon _ (marked see.Bar w) (loose (reads_pat h))

  reads_alternatives : {ps : List Pat} {m r : List Token} (xs : List Pat) → IsMore see.Bar (IsPat Q) ps m r → From (fold (clean (λ _ o. same see.Bar o)) (next_alternative patterns) added xs) m (xs ++ ps) r
  reads_alternatives xs (phrase.no_more {r = r} h) = stays (same see.Bar) (next_alternative patterns) refl refl refl ok.items.alternative xs r h
  reads_alternatives xs (phrase.one_more {x = x} {xs = ys} {a = a} {c = c} {r = r} w h k) = goes (same see.Bar) (next_alternative patterns) refl refl refl ok.items.alternative xs x ys a c r (front (same see.Bar) see.Bar true refl w) (reads_next_alternative w h) (reads_alternatives (xs ++ x ∷ []) k)

  pub reads_any_pattern : {p : Pattern} {a r : List Token} → IsAnyPattern Q p a r → Reaches (any_pattern patterns) [] a p r
  unfolding any_pattern more_alternatives
  reads_any_pattern (grammar.alternatives h m) = upon _ (reads_pat h) (at_once (map_from _ (reads_alternatives [] m)))

pub reads_pattern : (n : ℕ) (p : Pattern) (a r : List Token) → IsPattern n p a r → Reaches (pattern n) [] a p r
unfolding pattern
reads_pattern zero p a r h = absurd h
reads_pattern (suc n) p a r h = reads_any_pattern (record { items = pattern_items n; fronts = front_pattern n; reads = reads_pattern n }) h

pub complete_patterns : (n : ℕ) → CompletePatterns (pattern n) (IsPattern n)
complete_patterns n = record { items = pattern_items n; fronts = front_pattern n; reads = reads_pattern n }
