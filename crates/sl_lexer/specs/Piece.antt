-- What stands at an offset of a text: white space, a comment, a token or a fault (SLS 1). Faults come first: a piece is a
-- token only where no fault stands.
use Rattle.std.specs.Prelude.{ℕ, ◌+◌, ◌==◌, ◌&&◌, ◌||◌, not, nat_lt, Bool, List, drop, take, length, Option, Some, None, Result, Ok, Err, if◌then◌else◌, position, encode_utf8_all}
use Rattle.std.specs.List.{prefix_len}
use Rattle.std.specs.Str.{bytes_eq}
use Rattle.std.specs.Char.{is_ascii_whitespace, is_ascii_digit}
use Rattle.unicode_ident.specs.Ident.{is_xid_continue}
use Rattle.sl_num.specs.Literal.{literal}
use Rattle.sl_num.specs.declared.number.Numeral.{Numeral}
use Rattle.sl_num.specs.declared.number.NumFault.{NumFault}
use Rattle.sl_ast.specs.declared.token.TokenKind.TheVariants as kind
use Rattle.sl_lexer.specs.declared.fault.LexKind.TheVariants as fault
use Rattle.sl_lexer.specs.declared.piece.Piece.{Piece}
use Rattle.sl_lexer.specs.declared.piece.Piece.TheVariants as piece
use Rattle.sl_lexer.specs.declared.class.Class.{Class}
use Rattle.sl_lexer.specs.declared.class.Class.TheVariants as class
use Rattle.sl_lexer.specs.declared.texts.TextEnd.{TextEnd}
use Rattle.sl_lexer.specs.declared.texts.TextEnd.TheVariants as end
use Rattle.sl_lexer.specs.declared.tables.TheConstants.{KEYWORD_TEXTS, MARK_TEXTS}
use Rattle.sl_lexer.specs.Characters.{first, is, holds, ends_line, operator_len}
use Rattle.sl_lexer.specs.Comment.{comment_len}
use Rattle.sl_lexer.specs.TextLiteral.{text_end}
use Rattle.sl_lexer.specs.Class.{class_of}

-- the number of a word among the keywords (SLS 1.1)
abbrev pub keyword : List ℕ → Option ℕ
keyword word = position (λ other. bytes_eq other.now (encode_utf8_all word)) KEYWORD_TEXTS

-- the number of a word among the marks
abbrev pub mark : List ℕ → Option ℕ
mark word = position (λ other. bytes_eq other.now (encode_utf8_all word)) MARK_TEXTS

-- a front of the list: the first character, and as many behind it as have the property
abbrev pub run : (ℕ → Bool) → List ℕ → ℕ
run p a = 1 + prefix_len p (drop 1 a)

-- a keyword with this number, or a name, which has at most 80 characters
abbrev pub by_keyword : ℕ → List ℕ → Option ℕ → Piece
by_keyword n word None = if nat_lt 80 n then piece.Fault fault.LongText n else piece.Token (kind.Id word) n
by_keyword n word (Some number) = piece.Token (kind.Key number) n

-- a word goes as far as characters continue it
abbrev pub word_piece : List ℕ → Piece
word_piece a = let n = run is_xid_continue a in by_keyword n (take n a) (keyword (take n a))

-- a mark with this number, or an operator
abbrev pub by_mark : ℕ → List ℕ → Option ℕ → Piece
by_mark n word None = piece.Token (kind.Op word) n
by_mark n word (Some number) = piece.Token (kind.Mark number) n

-- operator characters, up to a comment
abbrev pub operator_piece : List ℕ → Piece
operator_piece a = let n = 1 + operator_len (drop 1 a) in by_mark n (take n a) (mark (take n a))

-- a `.` and a digit behind it
abbrev pub fraction : List ℕ → Bool
fraction a = is 46 (first a) && holds is_ascii_digit (first (drop 1 a))

-- a wrong number goes on with the character
abbrev pub in_number : ℕ → Bool
in_number c = is_xid_continue c || (c == 46)

-- the fault of a number, over all characters with which it goes on
abbrev pub wrong_number : List ℕ → Piece
wrong_number a = piece.Fault fault.Number (run in_number a)

-- a number of so many characters with this value, if it has one (SLS 1.3.1)
abbrev pub by_literal : List ℕ → ℕ → Result Numeral NumFault → Piece
by_literal a n (Err _) = wrong_number a
by_literal a n (Ok value) = piece.Token (kind.Number value) n

-- What begins with a digit is a number, with all characters that would continue a word, and with no fraction behind it.
-- A wrong one goes as far as such characters and dots go.
abbrev pub number_piece : List ℕ → Piece
number_piece a =
    let n = run is_xid_continue a in
    if fraction (drop n a) then wrong_number a
    else by_literal a n (literal (encode_utf8_all (take n a)))

-- a text has at most 10,000 characters; a wrong one goes up to the next `"` or the line's end
abbrev pub by_end : List ℕ → TextEnd → Piece
by_end a (end.Closed value n) = if nat_lt 10000 (length value) then piece.Fault fault.LongText (1 + n) else piece.Token (kind.Text value) (1 + n)
by_end a end.Wrong = piece.Fault fault.BadEscape (1 + prefix_len (λ c. not ((c == 34) || ends_line c)) a)
by_end a end.Open = piece.Fault fault.OpenText (1 + prefix_len (λ c. not (ends_line c)) a)

-- from behind a `"`; three of them are nothing
abbrev pub text_piece : List ℕ → Piece
text_piece a = if is 34 (first a) && is 34 (first (drop 1 a)) then piece.Fault fault.BadChar 1 else by_end a (text_end a)

-- a comment with so many characters behind its `/*`, or the fault of one that is never closed
abbrev pub by_comment : List ℕ → Option ℕ → Piece
by_comment a None = piece.Fault fault.OpenComment (length a)
by_comment a (Some n) = piece.Blank (2 + n)

-- the piece in front, by what begins there
abbrev pub by_class : Bool → Class → List ℕ → Piece
by_class low class.White a = piece.Blank (run is_ascii_whitespace a)
by_class low class.LineComment a = piece.Blank (run (λ c. not (c == 10)) a)
by_class low class.BlockComment a = by_comment a (comment_len (drop 2 a))
by_class low class.Dollar a = piece.Fault fault.Dollar 1
by_class low class.Quote a = text_piece (drop 1 a)
by_class low class.Digit a = number_piece a
by_class low class.Word a = word_piece a
by_class low class.Underscore a = piece.Token (kind.Mark 0) 1
by_class low class.Operator a = if low then piece.Fault fault.BadChar 1 else operator_piece a
by_class low (class.Single number) a = piece.Token (kind.Mark number) 1
by_class low class.Other a = piece.Fault fault.BadChar 1

-- the piece in front, by its first character
abbrev pub piece_by : Bool → Option ℕ → List ℕ → Option Piece
piece_by low None a = None
piece_by low (Some c) a = Some (by_class low (class_of c (first (drop 1 a))) a)

-- What stands at the offset from which on a text has these characters; nothing where it has none. `low`: a name that ends
-- in `_` stands directly before, behind which there is no operator.
abbrev pub piece_at : Bool → List ℕ → Option Piece
piece_at low a = piece_by low (first a) a
