-- What is read as a pattern is one by the grammar. A rule's proof repeats its definition.
use Rattle.std.proofs.Common.{ℕ, zero, suc, List, [], ◌∷◌, ◌++◌, refl}
use Rattle.std.specs.Prelude.{◌&&◌}
use Rattle.sl_text.specs.declared.span.Span.{Span}
use Rattle.sl_ast.specs.declared.token.Token.{Token}
use Rattle.sl_ast.specs.declared.ident.Ident.{Ident}
use Rattle.sl_ast.specs.declared.type_tree.TypeTree.{TypeTree}
use Rattle.sl_ast.specs.declared.pattern.Pat.{Pat}
use Rattle.sl_ast.specs.declared.pattern.Pattern.{Pattern}
use Rattle.sl_ast.specs.declared.pattern.Wildcard.{Wildcard}
use Rattle.sl_ast.specs.declared.pattern.Wildcard.TheVariants as wildcard
use Rattle.sl_parse_expr.specs.declared.ahead.Ahead.TheVariants as see
use Rattle.sl_parse_expr.specs.Ahead.{same}
use Rattle.sl_parse_expr.specs.Tokens.{ident_of, literal_of}
use Rattle.sl_parse_expr.specs.Trees.{named_type}
use Rattle.sl_parse_expr.specs.PatternTrees.{typed_tree, any_tree, name_tree, simple_as_pat, pattern_tree}
use Rattle.sl_parse_expr.specs.Reading.{ahead, nothing, Reader}
use Rattle.sl_parse_expr.specs.Rules.{name, literal, applied, type_tree, too_deep}
use Rattle.sl_parse_expr.specs.PatternRules.{begins_pattern, at_name, next_part, more_parts, some_parts, no_parts, constructor, inside, minus, no_minus, closed, anything, called, simple_pattern, of_type, bound, built, behind_name, by_name, by_underscore, by_itself, alternative, next_alternative, more_alternatives, any_pattern, pattern}
use Rattle.sl_parse_expr.specs.Phrases.{IsOne, IsWord, IsMore, IsListed, none_held}
use Rattle.sl_parse_expr.specs.Phrases as phrase
use Rattle.sl_parse_expr.specs.Grammar.{IsName, IsType, IsTyped, IsClosed, IsConstructor, IsPatS, IsPat, IsAnyPattern, IsPattern}
use Rattle.sl_parse_expr.specs.Grammar as grammar
use Rattle.sl_parse_expr.proofs.Theory.{Held, stop}
use Rattle.sl_parse_expr.proofs.Gives.{Gives, Clean, Loose, stopped, looser, as_clean, as_loose, next, upon, map_clean, map_loose, single, marked, both, perhaps_clean, listing, IsNext, behind, one_behind}
use Rattle.sl_parse_expr.proofs.Inside.{SoundPatterns, pattern_items}

-- ---- names, literals and types

pub name_is : (d : Held) (a : List Token) → Gives name d a (Clean (λ x r. IsName x (d ++ a) r))
unfolding name
name_is d a = single ident_of d a

pub literal_is : (d : Held) (a : List Token) → Gives literal d a (Clean (λ x r. IsOne literal_of x (d ++ a) r))
unfolding literal
literal_is d a = single literal_of d a

applied_is : (x : Ident) (d : Held) (a c : List Token) → IsName x c (d ++ a) → Gives (applied x) d a (Clean (λ t r. IsType t c r))
unfolding applied
applied_is x d a c i = upon (marked see.OpenBracket d a) (λ s b h. upon (name_is [] b) (λ y b1 k. map_clean _ (marked see.CloseBracket [] b1) (λ t r w. grammar.applied i h k w)))

pub type_is : (d : Held) (a : List Token) → Gives type_tree d a (Clean (λ t r. IsType t (d ++ a) r))
unfolding type_tree
type_is d a = upon (name_is d a) (λ x b i. perhaps_clean (same see.OpenBracket) (named_type x) (applied_is x [] b (d ++ a) i) (λ h. grammar.named i h))

-- ---- the rules, over the patterns inside

module _ {patterns : Reader Pattern} {Q : Pattern → List Token → List Token → Type 0} (ok : SoundPatterns patterns Q) where
  next_part_is : (d : Held) (a : List Token) → Gives (next_part patterns) d a (Loose (λ x r. IsNext see.Comma Q x (d ++ a) r))
  unfolding next_part
  next_part_is d a = upon (marked see.Comma d a) (λ s b h. as_loose (ok.is [] b) (λ x r k. behind h k))

  some_parts_is : (d : Held) (a : List Token) → Gives (some_parts patterns) d a (Clean (λ ps r. IsListed Q ps.0 ps.1 (d ++ a) r))
  unfolding some_parts more_parts
  some_parts_is d a = next (ok.is d a) (λ x e b h. next (listing (same see.Comma) (next_part patterns) refl refl refl ok.items.part (IsNext see.Comma Q) (IsMore see.Comma Q)
      (λ ys c. (s : Span) (r : List Token) → IsWord see.CloseParen s c r → IsListed Q ys s (d ++ a) r) (λ r m. phrase.no_more m) (one_behind see.Comma Q) next_part_is (x ∷ []) e b (h.held, λ zs c m s r w. phrase.some_listed h.is m w))
      (λ ys e2 c k. map_clean _ (marked see.CloseParen e2 c) (λ s r w. k.is s r w)))

  no_parts_is : (d : Held) (a : List Token) → Gives (no_parts patterns) d a (Clean (λ ps r. IsListed Q ps.0 ps.1 (d ++ a) r))
  unfolding no_parts
  no_parts_is d a = map_clean _ (marked see.CloseParen d a) (λ s r w. phrase.none_listed w)

  constructor_is : (x : Ident) (d : Held) (a c : List Token) → IsName x c (d ++ a) → Gives (constructor patterns x) d a (Clean (λ p r. IsConstructor Q p c r))
  unfolding constructor
  constructor_is x d a c i = upon (marked see.OpenParen d a) (λ s b h. map_clean _ (both (same see.CloseParen) (no_parts_is [] b) (some_parts_is [] b)) (λ ps r k. grammar.constructor i h k))

  inside_is : (d : Held) (a : List Token) → Gives (inside patterns) d a (Clean (λ p r. IsClosed Q p (d ++ a) r))
  unfolding inside
  inside_is d a = upon (marked see.OpenParen d a) (λ s b h. next (ok.is [] b) (λ p e c k. map_clean _ (marked see.CloseParen e c) (λ t r w. grammar.inside h k.is w)))

  minus_is : (d : Held) (a : List Token) → Gives (minus patterns) d a (Clean (λ p r. IsClosed Q p (d ++ a) r))
  unfolding minus
  minus_is d a = upon (marked see.Minus d a) (λ s b h. map_clean _ (literal_is [] b) (λ x r k. grammar.negative h k))

  no_minus_is : (d : Held) (a : List Token) → Gives (no_minus patterns) d a (Clean (λ p r. IsClosed Q p (d ++ a) r))
  unfolding no_minus
  no_minus_is d a = map_clean _ (literal_is d a) (λ x r k. grammar.literal k)

  closed_is : (d : Held) (a : List Token) → Gives (closed patterns) d a (Clean (λ p r. IsClosed Q p (d ++ a) r))
  unfolding closed
  closed_is d a = both (same see.OpenParen) (inside_is d a) (both (same see.Minus) (minus_is d a) (no_minus_is d a))

  anything_is : (d : Held) (a : List Token) → Gives (anything patterns) d a (Clean (λ p r. IsPatS Q p (d ++ a) r))
  unfolding anything
  anything_is d a = map_clean _ (marked see.Underscore d a) (λ s r w. grammar.anything w)

  called_is : (d : Held) (a : List Token) → Gives (called patterns) d a (Clean (λ p r. IsPatS Q p (d ++ a) r))
  unfolding called
  called_is d a = upon (name_is d a) (λ x b i. perhaps_clean (same see.OpenParen) (name_tree x) (as_clean (constructor_is x [] b (d ++ a) i) (λ p r k. grammar.built k)) (λ h. grammar.name i h))

  simple_pattern_is : (d : Held) (a : List Token) → Gives (simple_pattern patterns) d a (Clean (λ p r. IsPatS Q p (d ++ a) r))
  unfolding simple_pattern
  simple_pattern_is d a = both (same see.Id) (called_is d a) (both (same see.Underscore) (anything_is d a) (as_clean (closed_is d a) (λ p r k. grammar.closed k)))

  of_type_is : (w : Wildcard) (d : Held) (a : List Token) (R : Pat → List Token → Type 0) → ((t : TypeTree) (r : List Token) → IsTyped t (d ++ a) r → R (typed_tree w t) r) → Gives (of_type patterns w) d a (Clean R)
  unfolding of_type
  of_type_is w d a R f = upon (marked see.Colon d a) (λ s b h. map_clean _ (type_is [] b) (λ t r k. f t r (grammar.typed h k)))

  bound_is : (x : Ident) (d : Held) (a c : List Token) → IsName x c (d ++ a) → Gives (bound patterns x) d a (Clean (λ p r. IsPat Q p c r))
  unfolding bound
  bound_is x d a c i = upon (marked see.At d a) (λ s b h. map_clean _ (simple_pattern_is [] b) (λ p r k. grammar.bound i h k))

  built_is : (x : Ident) (d : Held) (a c : List Token) → IsName x c (d ++ a) → Gives (built patterns x) d a (Clean (λ p r. IsPat Q p c r))
  unfolding built
  built_is x d a c i = map_clean _ (constructor_is x d a c i) (λ p r k. grammar.only_built k)

  behind_name_is : (x : Ident) (d : Held) (a c : List Token) → IsName x c (d ++ a) → Gives (behind_name patterns x) d a (Clean (λ p r. IsPat Q p c r))
  unfolding behind_name
  behind_name_is x d a c i = both (same see.Colon) (of_type_is (wildcard.Id x) d a (λ p r. IsPat Q p c r) (λ t r h. grammar.typed_name i h)) (both (same see.At) (bound_is x d a c i) (built_is x d a c i))

  by_name_is : (d : Held) (a : List Token) → Gives (by_name patterns) d a (Clean (λ p r. IsPat Q p (d ++ a) r))
  unfolding by_name
  by_name_is d a = upon (name_is d a) (λ x b i. perhaps_clean at_name (simple_as_pat (name_tree x)) (behind_name_is x [] b (d ++ a) i) (λ h. grammar.only_name i h))

  by_underscore_is : (d : Held) (a : List Token) → Gives (by_underscore patterns) d a (Clean (λ p r. IsPat Q p (d ++ a) r))
  unfolding by_underscore
  by_underscore_is d a = upon (marked see.Underscore d a) (λ s b w. perhaps_clean (same see.Colon) (simple_as_pat (any_tree s)) (of_type_is (wildcard.Any s) [] b (λ p r. IsPat Q p (d ++ a) r) (λ t r h. grammar.typed_any w h)) (λ h. grammar.only_any w h))

  by_itself_is : (d : Held) (a : List Token) → Gives (by_itself patterns) d a (Clean (λ p r. IsPat Q p (d ++ a) r))
  unfolding by_itself
  by_itself_is d a = map_clean _ (closed_is d a) (λ p r k. grammar.only_closed k)

  alternative_is : (d : Held) (a : List Token) → Gives (alternative patterns) d a (Clean (λ p r. IsPat Q p (d ++ a) r))
  unfolding alternative
  alternative_is d a = both (same see.Id) (by_name_is d a) (both (same see.Underscore) (by_underscore_is d a) (by_itself_is d a))

  next_alternative_is : (d : Held) (a : List Token) → Gives (next_alternative patterns) d a (Loose (λ x r. IsNext see.Bar (IsPat Q) x (d ++ a) r))
  unfolding next_alternative
  next_alternative_is d a = upon (marked see.Bar d a) (λ s b h. as_loose (looser (alternative_is [] b)) (λ x r k. behind h k))

  pub any_pattern_is : (d : Held) (a : List Token) → Gives (any_pattern patterns) d a (Loose (λ p r. IsAnyPattern Q p (d ++ a) r))
  unfolding any_pattern more_alternatives
  any_pattern_is d a = upon (alternative_is d a) (λ x b i. map_loose _ (listing (same see.Bar) (next_alternative patterns) refl refl refl ok.items.alternative (IsNext see.Bar (IsPat Q)) (IsMore see.Bar (IsPat Q))
      (λ ys r. IsAnyPattern Q (pattern_tree x ys) (d ++ a) r) (λ r m. phrase.no_more m) (one_behind see.Bar (IsPat Q)) next_alternative_is [] [] b (none_held, λ zs r m. grammar.alternatives i m)) (λ ys r k. k))

pub pattern_is : (n : ℕ) (d : Held) (a : List Token) → Gives (pattern n) d a (Loose (λ x r. IsPattern n x (d ++ a) r))
unfolding pattern too_deep
pattern_is zero d a = stopped (stop (begins_pattern (ahead a) && nothing d) a) refl
pattern_is (suc n) d a = any_pattern_is (record { items = pattern_items n; is = pattern_is n }) d a

pub sound_patterns : (n : ℕ) → SoundPatterns (pattern n) (IsPattern n)
sound_patterns n = record { items = pattern_items n; is = pattern_is n }
