-- Each rule of patterns depends on the tokens that it takes and on the next one.
use Rattle.std.proofs.Common.{◌≡◌, ℕ, true, false, List, [], ◌∷◌, refl}
use lib.Utf8.{encode}
use Rattle.sl_ast.specs.declared.ident.Ident.{Ident}
use Rattle.sl_ast.specs.declared.pattern.Pattern.{Pattern}
use Rattle.sl_ast.specs.declared.pattern.Wildcard.{Wildcard}
use Rattle.sl_ast.specs.declared.pattern.Wildcard.TheVariants as wildcard
use Rattle.sl_parse_expr.specs.declared.ahead.Ahead.TheVariants as see
use Rattle.sl_parse_expr.specs.Ahead.{sort, same}
use Rattle.sl_parse_expr.specs.Reading.{Reader}
use Rattle.sl_parse_expr.specs.Rules.{added, at_comma, at_bar}
use Rattle.sl_parse_expr.specs.PatternTrees.{typed_tree, named_tree, any_tree, literal_tree, minus_tree, name_tree, constructor_tree, inside_tree, simple_as_pat, pattern_tree}
use Rattle.sl_parse_expr.specs.PatternRules.{next_part, more_parts, some_parts, no_parts, constructor, inside, minus, no_minus, closed, anything, called, simple_pattern, of_type, bound, built, at_name, behind_name, by_name, by_underscore, by_itself, alternative, next_alternative, more_alternatives, any_pattern}
use Rattle.sl_parse_expr.proofs.Theory.{Good, bind, map}
use Rattle.sl_parse_expr.proofs.Choices.{good_loop}
use Rattle.sl_parse_expr.proofs.Shorter.{tk, last, pick, else_pick, perhaps, fewer}
use Rattle.sl_parse_expr.proofs.Words.{mark, t_name, t_minus, t_bar, lit, under, open_paren, close_paren, comma}
use Rattle.sl_parse_expr.proofs.Ends.{arrows, no_bracket, at_arrows}
use Rattle.sl_parse_expr.proofs.Good.{good_name, good_literal, good_type}

module _ (n : ℕ) (b : ℕ → Reader Pattern) (good : Good arrows under n b) where
  pub good_next_part : Good arrows (comma ∷ under) n (λ m. next_part (b m))
  unfolding next_part sort
  good_next_part = bind (tk see.Comma comma refl) (λ _. good) refl

  good_more_parts : (xs : List Pattern) → Good arrows [] n (λ m. more_parts (b m) xs)
  unfolding more_parts
  good_more_parts xs = good_loop at_comma arrows (comma ∷ under) n (λ m. next_part (b m)) added (λ s. refl) (λ s. at_arrows (λ o. at_comma s o ≡ false) refl refl refl) refl good_next_part xs

  good_no_parts : Good arrows (close_paren ∷ []) n (λ m. no_parts (b m))
  unfolding no_parts sort
  good_no_parts = map (λ s. ([], s)) (last see.CloseParen close_paren refl)

  good_some_parts : Good arrows (mark 0 ∷ close_paren ∷ []) n (λ m. some_parts (b m))
  unfolding some_parts sort
  good_some_parts = bind good (λ x. bind (good_more_parts (x ∷ [])) (λ xs. map (λ s. (xs, s)) (last see.CloseParen close_paren refl)) refl) refl

  good_constructor : (x : Ident) → Good arrows (open_paren ∷ close_paren ∷ []) n (λ m. constructor (b m) x)
  unfolding constructor sort
  good_constructor x = bind (tk see.OpenParen open_paren refl) (λ _. map (λ ps. constructor_tree x ps.0 ps.1) (pick (same see.CloseParen) good_no_parts good_some_parts refl refl refl)) refl

  good_inside : Good arrows (open_paren ∷ mark 0 ∷ close_paren ∷ []) n (λ m. inside (b m))
  unfolding inside sort
  good_inside = bind (tk see.OpenParen open_paren refl) (λ s. bind good (λ p. map (λ t. inside_tree s p t) (last see.CloseParen close_paren refl)) refl) refl

  good_minus : Good arrows (t_minus ∷ lit) n (λ m. minus (b m))
  unfolding minus sort encode
  good_minus = bind (tk see.Minus t_minus refl) (λ s. map (λ x. minus_tree s x) (fewer (λ o h. refl) (good_literal n))) refl

  good_no_minus : Good arrows lit n (λ m. no_minus (b m))
  unfolding no_minus
  good_no_minus = map (λ x. literal_tree x) (fewer (λ o h. refl) (good_literal n))

  pub good_closed : Good arrows lit n (λ m. closed (b m))
  unfolding closed sort
  good_closed = else_pick (same see.OpenParen) good_inside (else_pick (same see.Minus) good_minus good_no_minus refl refl refl) refl refl refl

  good_anything : Good arrows under n (λ m. anything (b m))
  unfolding anything sort
  good_anything = map (λ s. any_tree s) (last see.Underscore (mark 0) refl)

  good_called : Good arrows (t_name ∷ []) n (λ m. called (b m))
  unfolding called
  good_called = bind (good_name n) (λ x. perhaps (same see.OpenParen) (name_tree x) (good_constructor x) refl (at_arrows (λ o. same see.OpenParen o ≡ false) refl refl refl)) (λ u h. refl)

  good_simple_pattern : Good arrows under n (λ m. simple_pattern (b m))
  unfolding simple_pattern sort
  good_simple_pattern = else_pick (same see.Id) good_called (pick (same see.Underscore) good_anything good_closed refl refl refl) refl refl refl

  good_of_type : (w : Wildcard) → Good arrows (mark 1 ∷ t_name ∷ []) n (λ m. of_type (b m) w)
  unfolding of_type sort
  good_of_type w = bind (tk see.Colon (mark 1) refl) (λ _. map (λ t. typed_tree w t) (fewer (at_arrows (λ o. no_bracket o ≡ true) refl refl refl) (good_type n))) refl

  good_bound : (x : Ident) → Good arrows (mark 9 ∷ under) n (λ m. bound (b m) x)
  unfolding bound sort
  good_bound x = bind (tk see.At (mark 9) refl) (λ _. map (λ p. named_tree x p) good_simple_pattern) refl

  good_built : (x : Ident) → Good arrows (open_paren ∷ close_paren ∷ []) n (λ m. built (b m) x)
  unfolding built
  good_built x = map (λ p. simple_as_pat p) (good_constructor x)

  good_behind_name : (x : Ident) → Good arrows (mark 1 ∷ t_name ∷ []) n (λ m. behind_name (b m) x)
  unfolding behind_name sort
  good_behind_name x = pick (same see.Colon) (good_of_type (wildcard.Id x)) (pick (same see.At) (good_bound x) (good_built x) refl refl refl) refl refl refl

  good_by_name : Good arrows (t_name ∷ []) n (λ m. by_name (b m))
  unfolding by_name
  good_by_name = bind (good_name n) (λ x. perhaps at_name (simple_as_pat (name_tree x)) (good_behind_name x) refl (at_arrows (λ o. at_name o ≡ false) refl refl refl)) (λ u h. refl)

  good_by_underscore : Good arrows under n (λ m. by_underscore (b m))
  unfolding by_underscore sort
  good_by_underscore = bind (tk see.Underscore (mark 0) refl) (λ s. perhaps (same see.Colon) (simple_as_pat (any_tree s)) (good_of_type (wildcard.Any s)) refl (at_arrows (λ o. same see.Colon o ≡ false) refl refl refl)) (λ u h. refl)

  good_by_itself : Good arrows lit n (λ m. by_itself (b m))
  unfolding by_itself
  good_by_itself = map (λ p. simple_as_pat p) good_closed

  good_alternative : Good arrows under n (λ m. alternative (b m))
  unfolding alternative sort
  good_alternative = else_pick (same see.Id) good_by_name (pick (same see.Underscore) good_by_underscore good_by_itself refl refl refl) refl refl refl

  pub good_next_alternative : Good arrows (t_bar ∷ under) n (λ m. next_alternative (b m))
  unfolding next_alternative sort encode
  good_next_alternative = bind (tk see.Bar t_bar refl) (λ _. good_alternative) refl

  good_more_alternatives : Good arrows [] n (λ m. more_alternatives (b m))
  unfolding more_alternatives
  good_more_alternatives = good_loop at_bar arrows (t_bar ∷ under) n (λ m. next_alternative (b m)) added (λ s. refl) (λ s. at_arrows (λ o. at_bar s o ≡ false) refl refl refl) refl good_next_alternative []

  pub good_any_pattern : Good arrows under n (λ m. any_pattern (b m))
  unfolding any_pattern
  good_any_pattern = bind good_alternative (λ x. map (λ xs. pattern_tree x xs) good_more_alternatives) (λ u h. h)
