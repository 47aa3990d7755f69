-- The rules of patterns as readers.
use Rattle.std.specs.Prelude.{ℕ, zero, suc, Bool, ◌||◌, List, [], ◌∷◌}
use Rattle.sl_text.specs.declared.span.Span.{Span}
use Rattle.sl_ast.specs.declared.ident.Ident.{Ident}
use Rattle.sl_ast.specs.declared.pattern.Pattern.{Pattern}
use Rattle.sl_ast.specs.declared.pattern.Pat.{Pat}
use Rattle.sl_ast.specs.declared.pattern.PatS.{PatS}
use Rattle.sl_ast.specs.declared.pattern.Wildcard.{Wildcard}
use Rattle.sl_ast.specs.declared.pattern.Wildcard.TheVariants as wildcard
use Rattle.sl_parse_expr.specs.declared.ahead.Ahead.{Ahead}
use Rattle.sl_parse_expr.specs.declared.ahead.Ahead.TheVariants as see
use Rattle.sl_parse_expr.specs.Ahead.{same}
use Rattle.sl_parse_expr.specs.Reading.{Reader, ◌>>=◌, ◌>>◌, pure, expect, choose, option, fold, clean}
use Rattle.sl_parse_expr.specs.Rules.{added, name, literal, type_tree, at_comma, at_bar, too_deep}
use Rattle.sl_parse_expr.specs.PatternTrees.{typed_tree, named_tree, any_tree, literal_tree, minus_tree, name_tree, constructor_tree, inside_tree, simple_as_pat, pattern_tree}

-- a pattern begins with it
abbrev pub begins_pattern : Ahead → Bool
begins_pattern o = same see.Id o || same see.Underscore o || same see.OpenParen o || same see.Minus o || same see.Literal o

-- what may stand behind a name in a pattern
abbrev pub at_name : Ahead → Bool
at_name o = same see.Colon o || same see.At o || same see.OpenParen o

-- ---- the rules, over a reader of the patterns inside

module _ (pattern : Reader Pattern) where
  -- ',' Pattern
  unfoldable pub next_part : Reader Pattern
  next_part = expect see.Comma >> pattern

  -- {',' Pattern}, behind these patterns
  unfoldable pub more_parts : List Pattern → Reader (List Pattern)
  more_parts xs = fold (clean at_comma) next_part added xs

  -- Pattern {',' Pattern} ')', and where the parenthesis stands
  unfoldable pub some_parts : Reader (List Pattern × Span)
  some_parts = pattern >>= λ x. more_parts (x ∷ []) >>= λ xs. expect see.CloseParen >>= λ s. pure (xs, s)

  -- ')' of an empty list, and where it stands
  unfoldable pub no_parts : Reader (List Pattern × Span)
  no_parts = expect see.CloseParen >>= λ s. pure ([], s)

  -- '(' [Pattern {',' Pattern}] ')', behind the name of a class (SLS 8.1.6)
  unfoldable pub constructor : Ident → Reader PatS
  constructor x = expect see.OpenParen >> (choose (same see.CloseParen) no_parts some_parts >>= λ ps. pure (constructor_tree x ps.0 ps.1))

  -- '(' Pattern ')'
  unfoldable pub inside : Reader PatS
  inside = expect see.OpenParen >>= λ s. pattern >>= λ p. expect see.CloseParen >>= λ t. pure (inside_tree s p t)

  -- '-' literal
  unfoldable pub minus : Reader PatS
  minus = expect see.Minus >>= λ s. literal >>= λ x. pure (minus_tree s x)

  -- literal
  unfoldable pub no_minus : Reader PatS
  no_minus = literal >>= λ x. pure (literal_tree x)

  -- ['-'] literal | '(' Pattern ')'
  unfoldable pub closed : Reader PatS
  closed = choose (same see.OpenParen) inside (choose (same see.Minus) minus no_minus)

  -- '_' (SLS 8.1.1)
  unfoldable pub anything : Reader PatS
  anything = expect see.Underscore >>= λ s. pure (any_tree s)

  -- id ['(' [Pattern {',' Pattern}] ')']
  unfoldable pub called : Reader PatS
  called = name >>= λ x. option (same see.OpenParen) (constructor x) (name_tree x)

  -- PatS ::= '_' | ['-'] literal | id ['(' [Pattern {',' Pattern}] ')'] | '(' Pattern ')'
  unfoldable pub simple_pattern : Reader PatS
  simple_pattern = choose (same see.Id) called (choose (same see.Underscore) anything closed)

  -- ':' Type, behind a name or `_` (SLS 8.1.2)
  unfoldable pub of_type : Wildcard → Reader Pat
  of_type w = expect see.Colon >> (type_tree >>= λ t. pure (typed_tree w t))

  -- '@' PatS, behind a name (SLS 8.1.3)
  unfoldable pub bound : Ident → Reader Pat
  bound x = expect see.At >> (simple_pattern >>= λ p. pure (named_tree x p))

  -- '(' [Pattern {',' Pattern}] ')', behind a name, as an alternative
  unfoldable pub built : Ident → Reader Pat
  built x = constructor x >>= λ p. pure (simple_as_pat p)

  -- what stands behind a name: a type, a pattern bound to it, or the parts of a constructor
  unfoldable pub behind_name : Ident → Reader Pat
  behind_name x = choose (same see.Colon) (of_type (wildcard.Id x)) (choose (same see.At) (bound x) (built x))

  -- an alternative that begins with a name
  unfoldable pub by_name : Reader Pat
  by_name = name >>= λ x. option at_name (behind_name x) (simple_as_pat (name_tree x))

  -- '_' [':' Type]
  unfoldable pub by_underscore : Reader Pat
  by_underscore = expect see.Underscore >>= λ s. option (same see.Colon) (of_type (wildcard.Any s)) (simple_as_pat (any_tree s))

  -- a literal or a pattern in parentheses, as an alternative
  unfoldable pub by_itself : Reader Pat
  by_itself = closed >>= λ p. pure (simple_as_pat p)

  -- Pat ::= (id | '_') ':' Type | id '@' PatS | PatS
  unfoldable pub alternative : Reader Pat
  alternative = choose (same see.Id) by_name (choose (same see.Underscore) by_underscore by_itself)

  -- '|' Pat
  unfoldable pub next_alternative : Reader Pat
  next_alternative = expect see.Bar >> alternative

  -- {'|' Pat}
  unfoldable pub more_alternatives : Reader (List Pat)
  more_alternatives = fold (clean at_bar) next_alternative added []

  -- Pattern ::= Pat {'|' Pat}
  unfoldable pub any_pattern : Reader Pattern
  any_pattern = alternative >>= λ x. more_alternatives >>= λ xs. pure (pattern_tree x xs)

-- with patterns nested no deeper than the number
unfoldable pub pattern : ℕ → Reader Pattern
pattern zero = too_deep begins_pattern
pattern (suc n) = any_pattern (pattern n)
