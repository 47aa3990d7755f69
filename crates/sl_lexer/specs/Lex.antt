-- The tokens of a text, or its fault (SLS 1).
use Rattle.std.specs.Prelude.{◌≡◌, ℕ, ◌+◌, ◌-◌, ◌<◌, ◌==◌, ◌&&◌, Bool, true, false, List, [], ◌∷◌, ◌++◌, length, drop, slice_index, Some}
use Rattle.sl_text.specs.declared.span.Span.{Span}
use Rattle.sl_ast.specs.declared.token.Token.{Token}
use Rattle.sl_ast.specs.declared.token.TokenKind.{TokenKind}
use Rattle.sl_ast.specs.declared.token.TokenKind.TheVariants as kind
use Rattle.sl_lexer.specs.declared.fault.LexKind.{LexKind}
use Rattle.sl_lexer.specs.declared.fault.LexKind.TheVariants.{TooMany}
use Rattle.sl_lexer.specs.declared.piece.Piece.TheVariants as piece
use Rattle.sl_lexer.specs.Piece.{piece_at}

-- a token of so many characters from an offset on
abbrev pub token_at : TokenKind → ℕ → ℕ → Token
token_at kind at n = record { kind = kind; span = record { from = at; to = at + n } }

-- the token is a name
abbrev pub is_name : TokenKind → Bool
is_name (kind.Id name) = true
is_name other = false

-- the token that ends at `to` is a name whose last character is `_`
abbrev pub is_low : List ℕ → TokenKind → ℕ → Bool
is_low text kind to = is_name kind && (slice_index text (to - 1) == 95)

-- the most tokens that a text may have
abbrev pub most : ℕ
most = 262144

-- The first `at` characters of a text can be read into these tokens. `low`: the last of them is a name that ends in `_`,
-- directly before `at`.
pub data Front (text : List ℕ) : List Token → Bool → ℕ → Type 0 where
  start : Front text [] false 0
  blank : {tokens : List Token} {low : Bool} {at n : ℕ}
      → Front text tokens low at → piece_at low (drop at text) ≡ Some (piece.Blank n)
      → Front text tokens false (at + n)
  token : {tokens : List Token} {low : Bool} {at n : ℕ} {kind : TokenKind}
      → Front text tokens low at → piece_at low (drop at text) ≡ Some (piece.Token kind n) → length tokens < most
      → Front text (tokens ++ token_at kind at n ∷ []) (is_low text kind (at + n)) (at + n)

-- the tokens of a whole text
abbrev pub Lex : List ℕ → List Token → Type 0
Lex text tokens = (low : Bool) × Front text tokens low (length text)

-- a fault of this kind and with so many characters stands there: a piece that is wrong, or a token that is one too many
pub data Wrong (text : List ℕ) (tokens : List Token) (low : Bool) (at : ℕ) : LexKind → ℕ → Type 0 where
  wrong : {kind : LexKind} {n : ℕ} → piece_at low (drop at text) ≡ Some (piece.Fault kind n) → Wrong text tokens low at kind n
  too_many : {kind : TokenKind} {n : ℕ} → piece_at low (drop at text) ≡ Some (piece.Token kind n) → length tokens ≡ most
      → Wrong text tokens low at TooMany n

-- the longest front that can be read ends at the span's begin, where a fault of this kind and this span stands
pub record Fault (text : List ℕ) (kind : LexKind) (span : Span) : Type 0 where
  pub tokens : List Token
  pub low : Bool
  pub front : Front text tokens low span.from
  pub size : ℕ
  pub to_is : span.to ≡ span.from + size
  pub here : Wrong text tokens low span.from kind size
