-- What bytes are as a source file: the characters that they spell, the tokens of these with newlines between them
-- (SLS 1), and the tree of the tokens (SLS 4, 5); or the first fault.
use Rattle.std.specs.Prelude.{ℕ, List}
use Rattle.sl_text.specs.Utf8.{Spells, IsIllFormedAt}
use Rattle.sl_text.specs.Spot.{IsSpot}
use Rattle.sl_text.specs.declared.spot.Spot.{Spot}
use Rattle.sl_ast.specs.declared.token.Token.{Token}
use Rattle.sl_ast.specs.declared.unit.Unit as file
use Rattle.sl_lexer.specs.declared.fault.LexFault.{LexFault}
use Rattle.sl_lexer.specs.Lex.{Lex, Fault}
use Rattle.sl_newline.specs.Regions.{Separated}
use Rattle.sl_parse_tmpl.specs.declared.fault.ParseFault.{ParseFault}
use Rattle.sl_parse_tmpl.specs.Grammar.{Derives}
use Rattle.sl_parse_tmpl.specs.Faults.{nesting}
use Rattle.sl_parse_tmpl.specs.Refusals.{Refuses}
use Rattle.sl_source.specs.declared.refusal.Refusal.{Refusal}
use Rattle.sl_source.specs.declared.refusal.Refusal.TheVariants as refusal
use Rattle.sl_source.specs.declared.refusal.SourceFault.{SourceFault}
use Rattle.sl_source.specs.declared.refusal.SourceFault.TheVariants as source

-- the tokens of a text, with newlines between them
pub record AreTokens (text : List ℕ) (tokens : List Token) : Type 0 where
  pub read : List Token
  pub lexed : Lex text read
  pub separated : Separated text read tokens

-- the tree of tokens by the grammar, with expressions and patterns nested at most 200 deep
abbrev pub IsTree : List Token → file.Unit → Type 0
IsTree tokens tree = Derives nesting tree tokens

-- why tokens have no tree: the first that no file goes on with, or the first that lies deeper in each that does
abbrev pub IsParseFault : List Token → ParseFault → Type 0
IsParseFault tokens fault = Refuses tokens fault

-- the text has tokens with this tree
pub record HasTree (text : List ℕ) (tree : file.Unit) : Type 0 where
  pub tokens : List Token
  pub are_tokens : AreTokens text tokens
  pub is_tree : IsTree tokens tree

-- the bytes spell a text that has this tree
abbrev pub IsSource : List ℕ → file.Unit → Type 0
IsSource bytes tree = (text : List ℕ) × Spells bytes text × HasTree text tree

-- the fault of a text, at the line and the column of its first character: one of tokens, or one of the tree where the
-- text has tokens
pub data FirstInText (text : List ℕ) : Refusal → Type 0 where
  lexical : {fault : LexFault} {spot : Spot} → Fault text fault.kind fault.span
      → IsSpot text fault.span.from spot.line spot.column → FirstInText text (refusal.Lex fault spot)
  syntactic : {fault : ParseFault} {spot : Spot} (tokens : List Token) → AreTokens text tokens → IsParseFault tokens fault
      → IsSpot text fault.span.from spot.line spot.column → FirstInText text (refusal.Parse fault spot)

-- the first fault of the bytes: one of a text stands only where they spell it
pub data FirstFault (bytes : List ℕ) : Refusal → Type 0 where
  not_utf8 : {at : ℕ} → IsIllFormedAt bytes at → FirstFault bytes (refusal.NotUtf8 at)
  in_text : {text : List ℕ} {r : Refusal} → Spells bytes text → FirstInText text r → FirstFault bytes r

-- why a text, or bytes, have no tree; want of memory tells nothing of them
abbrev pub IsTextCause : List ℕ → SourceFault → Type 0
IsTextCause text (source.Refused r) = FirstInText text r
IsTextCause text source.Memory = Unit {0}

-- why bytes have no tree: their first fault, or want of memory
abbrev pub IsCause : List ℕ → SourceFault → Type 0
IsCause bytes (source.Refused r) = FirstFault bytes r
IsCause bytes source.Memory = Unit {0}
