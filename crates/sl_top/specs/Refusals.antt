-- The line that tells the first fault of a source file, behind the file's name.
use Rattle.std.specs.Prelude.{ℕ, List, [], ◌∷◌, ◌++◌, codes, decimal}
use Rattle.sl_text.specs.declared.spot.Spot.{Spot}
use Rattle.sl_lexer.specs.declared.fault.LexKind.{LexKind}
use Rattle.sl_lexer.specs.declared.fault.LexKind.TheVariants as lexical
use Rattle.sl_parse_tmpl.specs.declared.fault.ParseKind.{ParseKind}
use Rattle.sl_parse_tmpl.specs.declared.fault.ParseKind.TheVariants as syntactic
use Rattle.sl_source.specs.declared.refusal.Refusal.{Refusal}
use Rattle.sl_source.specs.declared.refusal.Refusal.TheVariants.{NotUtf8, Lex, Parse}

-- the word of a lexical kind; want of memory is no fault of a text and has none
abbrev pub lex_word : LexKind → List ℕ
lex_word lexical.BadChar = codes "BadChar"
lex_word lexical.OpenText = codes "OpenText"
lex_word lexical.OpenComment = codes "OpenComment"
lex_word lexical.BadEscape = codes "BadEscape"
lex_word lexical.Dollar = codes "Dollar"
lex_word lexical.Number = codes "Number"
lex_word lexical.TooMany = codes "TooMany"
lex_word lexical.LongText = codes "LongText"
lex_word lexical.Memory = []

-- the word of a kind of fault of the grammar; want of memory has none
abbrev pub parse_word : ParseKind → List ℕ
parse_word syntactic.Unexpected = codes "Unexpected"
parse_word syntactic.TooDeep = codes "TooDeep"
parse_word syntactic.Memory = []

-- `NAME:LINE`
abbrev pub in_line : List ℕ → ℕ → List ℕ
in_line name line = name ++ (codes ":" ++ decimal line)

-- `:COLUMN`, and what follows it
abbrev pub in_column : ℕ → List ℕ → List ℕ
in_column column more = codes ":" ++ (decimal column ++ more)

-- `NAME:LINE:COLUMN: lex KIND`, with its LF
abbrev pub spot_line : List ℕ → Spot → List ℕ → List ℕ → List ℕ
spot_line name spot phase word = in_line name spot.line ++ (in_column spot.column phase ++ (word ++ 10 ∷ []))

-- `NAME: byte N: not UTF-8`, with its LF
abbrev pub byte_line : List ℕ → ℕ → List ℕ
byte_line name at = (name ++ (codes ": byte " ++ decimal at)) ++ (codes ": not UTF-8" ++ 10 ∷ [])

-- the line of a first fault, behind the name of its file
abbrev pub refusal_line : List ℕ → Refusal → List ℕ
refusal_line name (NotUtf8 at) = byte_line name at
refusal_line name (Lex fault spot) = spot_line name spot (codes ": lex ") (lex_word fault.kind)
refusal_line name (Parse fault spot) = spot_line name spot (codes ": parse ") (parse_word fault.kind)
