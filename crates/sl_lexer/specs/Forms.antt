-- Which texts are one token, kind by kind (SLS 1.1 to 1.3): these, and no others (law `forms`).
use Rattle.std.specs.Prelude.{◌≡◌, ℕ, ◌+◌, ◌≤◌, ◌==◌, ◌&&◌, ◌||◌, Bool, true, false, List, [], ◌∷◌, length, Some, None, Ok, encode_utf8_all, ◌⊎◌}
use Rattle.std.specs.List.{list_all}
use Rattle.std.specs.Char.{is_ascii_digit}
use Rattle.unicode_ident.specs.Ident.{is_xid_start, is_xid_continue}
use Rattle.sl_num.specs.Literal.{literal}
use Rattle.sl_ast.specs.declared.token.TokenKind.{TokenKind}
use Rattle.sl_ast.specs.declared.token.TokenKind.TheVariants as kind
use Rattle.sl_lexer.specs.declared.texts.TextEnd.TheVariants as end
use Rattle.sl_lexer.specs.Characters.{first, goes_on}
use Rattle.sl_lexer.specs.Class.{single}
use Rattle.sl_lexer.specs.TextLiteral.{text_end}
use Rattle.sl_lexer.specs.Piece.{keyword, mark}
use Rattle.sl_lexer.specs.Lex.{token_at, Lex}

-- the text is this token, from its first character to its last
abbrev pub IsOne : TokenKind → List ℕ → Type 0
IsOne kind text = Lex text (token_at kind 0 (length text) ∷ [])

-- there is a character
abbrev pub is_more : List ℕ → Bool
is_more [] = false
is_more (c ∷ a) = true

-- a letter, or `_` with a character behind it; then characters that continue names
abbrev pub is_word : List ℕ → Bool
is_word [] = false
is_word (c ∷ a) = (is_xid_start c || ((c == 95) && is_more a)) && list_all is_xid_continue a

-- operator characters or none, at none of which a comment begins
abbrev pub all_go_on : List ℕ → Bool
all_go_on [] = true
all_go_on (c ∷ a) = goes_on c (first a) && all_go_on a

-- one or more operator characters, at none of which a comment begins
abbrev pub is_operators : List ℕ → Bool
is_operators [] = false
is_operators (c ∷ a) = all_go_on (c ∷ a)

-- a digit, then characters that continue names
abbrev pub is_digits : List ℕ → Bool
is_digits [] = false
is_digits (c ∷ a) = is_ascii_digit c && list_all is_xid_continue a

-- a `"`, and a text literal with this value that ends with the text
abbrev pub IsQuoted : List ℕ → List ℕ → Type 0
IsQuoted value [] = ⊥
IsQuoted value (c ∷ a) = (c ≡ 34) × (text_end a ≡ end.Closed value (length a))

-- the mark of one character with this number
abbrev pub IsSingle : ℕ → List ℕ → Type 0
IsSingle number (c ∷ []) = ((c ≡ 95) × (number ≡ 0)) ⊎ ((i : ℕ) × (single c ≡ Some i) × (number ≡ 10 + i))
IsSingle number text = ⊥

-- the form of a token of each kind; a newline has none
abbrev pub IsForm : TokenKind → List ℕ → Type 0
IsForm (kind.Key number) text = (is_word text ≡ true) × (keyword text ≡ Some number)
IsForm (kind.Id name) text = (name ≡ text) × (is_word text ≡ true) × (keyword text ≡ None) × (length text ≤ 80)
IsForm (kind.Mark number) text = ((is_operators text ≡ true) × (mark text ≡ Some number)) ⊎ IsSingle number text
IsForm (kind.Op name) text = (name ≡ text) × (is_operators text ≡ true) × (mark text ≡ None)
IsForm (kind.Number value) text = (is_digits text ≡ true) × (literal (encode_utf8_all text) ≡ Ok value)
IsForm (kind.Text value) text = IsQuoted value text × (length value ≤ 10000)
IsForm kind.Newline text = ⊥
