-- Trees of patterns with the places where they stand.
use Rattle.std.specs.Prelude.{true, false, List, Some, None}
use Rattle.sl_text.specs.declared.span.Span.{Span}
use Rattle.sl_ast.specs.declared.ident.Ident.{Ident}
use Rattle.sl_ast.specs.declared.literal.Literal.{Literal}
use Rattle.sl_ast.specs.declared.type_tree.TypeTree.{TypeTree}
use Rattle.sl_ast.specs.declared.type_tree.TypeTree.TheVariants as types
use Rattle.sl_ast.specs.declared.pattern.Pattern.{Pattern, roll-Pattern}
use Rattle.sl_ast.specs.declared.pattern.Pat.{Pat, out-Pat}
use Rattle.sl_ast.specs.declared.pattern.Pat.TheVariants as pat
use Rattle.sl_ast.specs.declared.pattern.PatS.{PatS, out-PatS}
use Rattle.sl_ast.specs.declared.pattern.PatS.TheVariants as pats
use Rattle.sl_ast.specs.declared.pattern.Pat.TheOpen.{Pat-F, PatS-F}
use Rattle.sl_ast.specs.declared.pattern.Wildcard.{Wildcard}
use Rattle.sl_ast.specs.declared.pattern.Wildcard.TheVariants as wildcard
use Rattle.sl_parse_expr.specs.Spans.{join, literal_span, last_span}

-- where a type stands, by its form
abbrev pub type_by : TypeTree → Span
type_by (types.Name x) = x.span
type_by (types.Applied x y s) = s

-- where a type stands
unfoldable pub type_span : TypeTree → Span
type_span t = type_by t

-- where a name or `_` stands, by its form
abbrev pub wildcard_by : Wildcard → Span
wildcard_by (wildcard.Id x) = x.span
wildcard_by (wildcard.Any s) = s

-- where a name or `_` stands
unfoldable pub wildcard_span : Wildcard → Span
wildcard_span w = wildcard_by w

-- where a simple pattern stands, by its form
abbrev pub simple_level : {A B C : Type 0} → PatS-F A B C → Span
simple_level (PatS-F.Any s) = s
simple_level (PatS-F.Literal m x s) = s
simple_level (PatS-F.Id x ps s) = s
simple_level (PatS-F.Parens p s) = s

-- where a simple pattern stands
unfoldable pub simple_pattern_span : PatS → Span
simple_pattern_span p = simple_level (out-PatS p)

-- where an alternative stands, by its form and by where simple patterns stand
abbrev pub pat_level : {A B C : Type 0} → (B → Span) → Pat-F A B C → Span
pat_level of_simple (Pat-F.Typed w t s) = s
pat_level of_simple (Pat-F.Named x p s) = s
pat_level of_simple (Pat-F.Simple p) = of_simple p

-- where an alternative stands
unfoldable pub pat_span : Pat → Span
pat_span p = pat_level simple_pattern_span (out-Pat p)

-- a typed pattern (SLS 8.1.2)
abbrev pub typed_tree : Wildcard → TypeTree → Pat
typed_tree w t = pat.Typed w t (join (wildcard_span w) (type_span t))

-- a pattern with a name for what it matches (SLS 8.1.3)
abbrev pub named_tree : Ident → PatS → Pat
named_tree x p = pat.Named x p (join x.span (simple_pattern_span p))

-- the pattern `_`
abbrev pub any_tree : Span → PatS
any_tree s = pats.Any s

-- a literal as a pattern (SLS 8.1.4)
abbrev pub literal_tree : Literal → PatS
literal_tree x = pats.Literal false x (literal_span x)

-- a negative literal as a pattern
abbrev pub minus_tree : Span → Literal → PatS
minus_tree s x = pats.Literal true x (join s (literal_span x))

-- a name as a pattern (SLS 8.1.1, 8.1.5)
abbrev pub name_tree : Ident → PatS
name_tree x = pats.Id x None x.span

-- a constructor pattern (SLS 8.1.6)
abbrev pub constructor_tree : Ident → List Pattern → Span → PatS
constructor_tree x ps s = pats.Id x (Some ps) (join x.span s)

-- a pattern in parentheses
abbrev pub inside_tree : Span → Pattern → Span → PatS
inside_tree s p t = pats.Parens p (join s t)

-- a simple pattern as an alternative
abbrev pub simple_as_pat : PatS → Pat
simple_as_pat p = pat.Simple p

-- a pattern of one or more alternatives (SLS 8.1.12)
abbrev pub pattern_tree : Pat → List Pat → Pattern
pattern_tree p ps = roll-Pattern (record { first = p; rest = ps; span = join (pat_span p) (last_span pat_span (pat_span p) ps) })
