-- Single tokens, words, names, literals and types that are in the grammar are read.
use Rattle.std.proofs.Common.{true, List, [], refl}
use Rattle.sl_text.specs.declared.span.Span.{Span}
use Rattle.sl_ast.specs.declared.token.Token.{Token}
use Rattle.sl_ast.specs.declared.ident.Ident.{Ident}
use Rattle.sl_ast.specs.declared.literal.Literal.{Literal}
use Rattle.sl_ast.specs.declared.operator.Operator.{Operator}
use Rattle.sl_ast.specs.declared.operator.Sign.{Sign}
use Rattle.sl_ast.specs.declared.binding.Binding.{Binding}
use Rattle.sl_ast.specs.declared.type_tree.TypeTree.{TypeTree}
use Rattle.sl_parse_expr.specs.declared.ahead.Ahead.TheVariants as see
use Rattle.sl_parse_expr.specs.Ahead.{same}
use Rattle.sl_parse_expr.specs.Tokens.{operator_of, sign_of, literal_of, binding_of, separator_of}
use Rattle.sl_parse_expr.specs.Trees.{named_type, applied_type}
use Rattle.sl_parse_expr.specs.Rules.{name, operator, sign, literal, binding, separator, applied, type_tree}
use Rattle.sl_parse_expr.specs.Phrases.{IsOne, IsWord}
use Rattle.sl_parse_expr.specs.Grammar.{IsName, IsType}
use Rattle.sl_parse_expr.specs.Grammar as grammar
use Rattle.sl_parse_expr.proofs.Fronts.{front}
use Rattle.sl_parse_expr.proofs.Reaches.{Lands, upon_clean, map_clean, single, marked, without, having}

pub reads_name : {x : Ident} {m r : List Token} → IsName x m r → Lands name [] m x r
unfolding name
reads_name h = single h

pub reads_operator : {x : Operator} {m r : List Token} → IsOne operator_of x m r → Lands operator [] m x r
unfolding operator
reads_operator h = single h

pub reads_sign : {x : Sign × Span} {m r : List Token} → IsOne sign_of x m r → Lands sign [] m x r
unfolding sign
reads_sign h = single h

pub reads_literal : {x : Literal} {m r : List Token} → IsOne literal_of x m r → Lands literal [] m x r
unfolding literal
reads_literal h = single h

pub reads_binding : {x : Binding × Span} {m r : List Token} → IsOne binding_of x m r → Lands binding [] m x r
unfolding binding
reads_binding h = single h

pub reads_separator : {m r : List Token} → IsOne separator_of tt m r → Lands separator [] m tt r
unfolding separator
reads_separator h = single h

reads_applied : {x y : Ident} {s t : Span} {b c d r : List Token} → IsWord see.OpenBracket s b c → IsName y c d → IsWord see.CloseBracket t d r → Lands (applied x) [] b (applied_type x y t) r
unfolding applied
reads_applied i j k = upon_clean _ (marked _ i) (upon_clean _ (reads_name j) (map_clean _ (marked _ k)))

pub reads_type : {t : TypeTree} {m r : List Token} → IsType t m r → Lands type_tree [] m t r
unfolding type_tree
reads_type (grammar.named {x = x} h i) = upon_clean _ (reads_name h) (without (same see.OpenBracket) (named_type x) i)
reads_type (grammar.applied {x = x} h i j k) = upon_clean _ (reads_name h) (having (same see.OpenBracket) (named_type x) (front (same see.OpenBracket) see.OpenBracket true refl i) (reads_applied i j k))
