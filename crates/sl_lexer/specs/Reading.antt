-- For proofs only: what the lexer keeps while it goes on, and why it stops.
use Rattle.std.specs.Prelude.{◌≡◌, ℕ, ◌<◌, ◌≤◌, ◌⊎◌, List, length}
use Rattle.sl_lexer.specs.declared.front.Front.{Front}
use Rattle.sl_lexer.specs.declared.fault.LexFault.{LexFault}
use Rattle.sl_lexer.specs.declared.fault.LexKind.TheVariants.{Memory}
use Rattle.sl_lexer.specs.declared.piece.Piece.{Piece}
use Rattle.sl_lexer.specs.declared.piece.Piece.TheVariants as piece
use Rattle.sl_lexer.specs.Lex as lex

-- the front is one of the text, and no longer than it
pub record IsRead (text : List ℕ) (front : Front) : Type 0 where
  pub read : lex.Front text front.tokens.items front.low front.at
  pub within : front.at ≤ length text

-- why the text has no tokens: want of memory, or its fault
abbrev pub IsCause : List ℕ → LexFault → Type 0
IsCause text f = (f.kind ≡ Memory) ⊎ lex.Fault text f.kind f.span

-- how many characters a piece has
abbrev pub size : Piece → ℕ
size (piece.Blank n) = n
size (piece.Token kind n) = n
size (piece.Fault kind n) = n

-- it has one, and at most so many
abbrev pub IsWithin : Piece → ℕ → Type 0
IsWithin x n = (0 < size x) × (size x ≤ n)
