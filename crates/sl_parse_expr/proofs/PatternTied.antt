-- The rules of patterns over readers that are tied. A rule's proof repeats its definition.
use Rattle.std.proofs.Common.{ℕ, []}
use Rattle.sl_ast.specs.declared.ident.Ident.{Ident}
use Rattle.sl_ast.specs.declared.pattern.Pattern.{Pattern}
use Rattle.sl_ast.specs.declared.pattern.Wildcard.{Wildcard}
use Rattle.sl_ast.specs.declared.pattern.Wildcard.TheVariants as wildcard
use Rattle.sl_parse_expr.specs.declared.ahead.Ahead.TheVariants as see
use Rattle.sl_parse_expr.specs.Ahead.{same}
use Rattle.sl_parse_expr.specs.PatternTrees.{any_tree, name_tree, simple_as_pat}
use Rattle.sl_parse_expr.specs.Reading.{Reader, clean}
use Rattle.sl_parse_expr.specs.Rules.{added, at_comma, at_bar}
use Rattle.sl_parse_expr.specs.PatternRules.{at_name, next_part, more_parts, some_parts, no_parts, constructor, inside, minus, no_minus, closed, anything, called, simple_pattern, of_type, bound, built, behind_name, by_name, by_underscore, by_itself, alternative, next_alternative, more_alternatives, any_pattern}
use Rattle.sl_parse_expr.proofs.Good.{good_name, good_literal, good_type}
use Rattle.sl_parse_expr.proofs.Tied.{Tied, plainly, bind, map, chosen, perhaps, folded, word}

module _ {k : ℕ} {p u y : Reader Pattern} (t : Tied k p u y) where
  pub tied_next_part : Tied k (next_part p) (next_part u) (next_part y)
  unfolding next_part
  tied_next_part = bind (word k see.Comma) (λ _. t)

  tied_more_parts : (xs : _) → Tied k (more_parts p xs) (more_parts u xs) (more_parts y xs)
  unfolding more_parts
  tied_more_parts xs = folded (clean at_comma) added tied_next_part xs

  tied_some_parts : Tied k (some_parts p) (some_parts u) (some_parts y)
  unfolding some_parts
  tied_some_parts = bind t (λ x. bind (tied_more_parts _) (λ xs. map _ (word k see.CloseParen)))

  tied_no_parts : Tied k (no_parts p) (no_parts u) (no_parts y)
  unfolding no_parts
  tied_no_parts = map _ (word k see.CloseParen)

  tied_constructor : (x : Ident) → Tied k (constructor p x) (constructor u x) (constructor y x)
  unfolding constructor
  tied_constructor x = bind (word k see.OpenParen) (λ _. map _ (chosen (same see.CloseParen) tied_no_parts tied_some_parts))

  tied_inside : Tied k (inside p) (inside u) (inside y)
  unfolding inside
  tied_inside = bind (word k see.OpenParen) (λ s. bind t (λ x. map _ (word k see.CloseParen)))

  tied_minus : Tied k (minus p) (minus u) (minus y)
  unfolding minus
  tied_minus = bind (word k see.Minus) (λ s. map _ (plainly k (good_literal 0)))

  tied_no_minus : Tied k (no_minus p) (no_minus u) (no_minus y)
  unfolding no_minus
  tied_no_minus = map _ (plainly k (good_literal 0))

  tied_closed : Tied k (closed p) (closed u) (closed y)
  unfolding closed
  tied_closed = chosen (same see.OpenParen) tied_inside (chosen (same see.Minus) tied_minus tied_no_minus)

  tied_anything : Tied k (anything p) (anything u) (anything y)
  unfolding anything
  tied_anything = map _ (word k see.Underscore)

  tied_called : Tied k (called p) (called u) (called y)
  unfolding called
  tied_called = bind (plainly k (good_name 0)) (λ x. perhaps (same see.OpenParen) (name_tree x) (tied_constructor x))

  tied_simple_pattern : Tied k (simple_pattern p) (simple_pattern u) (simple_pattern y)
  unfolding simple_pattern
  tied_simple_pattern = chosen (same see.Id) tied_called (chosen (same see.Underscore) tied_anything tied_closed)

  tied_of_type : (w : Wildcard) → Tied k (of_type p w) (of_type u w) (of_type y w)
  unfolding of_type
  tied_of_type w = bind (word k see.Colon) (λ _. map _ (plainly k (good_type 0)))

  tied_bound : (x : Ident) → Tied k (bound p x) (bound u x) (bound y x)
  unfolding bound
  tied_bound x = bind (word k see.At) (λ _. map _ tied_simple_pattern)

  tied_built : (x : Ident) → Tied k (built p x) (built u x) (built y x)
  unfolding built
  tied_built x = map _ (tied_constructor x)

  tied_behind_name : (x : Ident) → Tied k (behind_name p x) (behind_name u x) (behind_name y x)
  unfolding behind_name
  tied_behind_name x = chosen (same see.Colon) (tied_of_type (wildcard.Id x)) (chosen (same see.At) (tied_bound x) (tied_built x))

  tied_by_name : Tied k (by_name p) (by_name u) (by_name y)
  unfolding by_name
  tied_by_name = bind (plainly k (good_name 0)) (λ x. perhaps at_name (simple_as_pat (name_tree x)) (tied_behind_name x))

  tied_by_underscore : Tied k (by_underscore p) (by_underscore u) (by_underscore y)
  unfolding by_underscore
  tied_by_underscore = bind (word k see.Underscore) (λ s. perhaps (same see.Colon) (simple_as_pat (any_tree s)) (tied_of_type (wildcard.Any s)))

  tied_by_itself : Tied k (by_itself p) (by_itself u) (by_itself y)
  unfolding by_itself
  tied_by_itself = map _ tied_closed

  tied_alternative : Tied k (alternative p) (alternative u) (alternative y)
  unfolding alternative
  tied_alternative = chosen (same see.Id) tied_by_name (chosen (same see.Underscore) tied_by_underscore tied_by_itself)

  pub tied_next_alternative : Tied k (next_alternative p) (next_alternative u) (next_alternative y)
  unfolding next_alternative
  tied_next_alternative = bind (word k see.Bar) (λ _. tied_alternative)

  tied_more_alternatives : Tied k (more_alternatives p) (more_alternatives u) (more_alternatives y)
  unfolding more_alternatives
  tied_more_alternatives = folded (clean at_bar) added tied_next_alternative []

  pub tied_any_pattern : Tied k (any_pattern p) (any_pattern u) (any_pattern y)
  unfolding any_pattern
  tied_any_pattern = bind tied_alternative (λ x. map _ tied_more_alternatives)
