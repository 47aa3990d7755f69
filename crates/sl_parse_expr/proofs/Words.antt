-- Tokens by which readers are completed.
use Rattle.std.proofs.Common.{ℕ, List, [], ◌∷◌}
use Rattle.sl_text.specs.declared.span.Span.{Span}
use Rattle.sl_ast.specs.declared.token.Token.{Token}
use Rattle.sl_ast.specs.declared.token.TokenKind.TheVariants as kind

abbrev pub nowhere : Span
nowhere = record { from = 0; to = 0 }

abbrev pub key : ℕ → Token
key n = record { kind = kind.Key n; span = nowhere }

abbrev pub mark : ℕ → Token
mark n = record { kind = kind.Mark n; span = nowhere }

abbrev pub t_name : Token
t_name = record { kind = kind.Id []; span = nowhere }

abbrev pub t_line : Token
t_line = record { kind = kind.Newline; span = nowhere }

abbrev pub t_minus : Token
t_minus = record { kind = kind.Op (45 ∷ []); span = nowhere }

abbrev pub t_bar : Token
t_bar = record { kind = kind.Op (124 ∷ []); span = nowhere }

-- `null`
abbrev pub lit : List Token
lit = key 20 ∷ []

-- `_`
abbrev pub under : List Token
under = mark 0 ∷ []

abbrev pub open_paren : Token
open_paren = mark 10

abbrev pub close_paren : Token
close_paren = mark 11

abbrev pub open_bracket : Token
open_bracket = mark 12

abbrev pub close_bracket : Token
close_bracket = mark 13

abbrev pub open_brace : Token
open_brace = mark 14

abbrev pub close_brace : Token
close_brace = mark 15

abbrev pub comma : Token
comma = mark 16

abbrev pub semi : Token
semi = mark 17

abbrev pub dot : Token
dot = mark 18
