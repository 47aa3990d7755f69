-- Where tokens and faults stand.
use Rattle.std.proofs.Common.{ℕ, ◌+◌, ◌≤◌, Bool, List, [], ◌∷◌, ◌++◌, length, drop, arith, length-drop}
use Rattle.std.specs.List.{AllByRecursion}
use Rattle.sl_text.specs.declared.span.Span.{Span}
use Rattle.sl_ast.specs.declared.token.Token.{Token}
use Rattle.sl_lexer.specs.declared.fault.LexKind.{LexKind}
use Rattle.sl_lexer.specs.declared.piece.Piece.TheVariants as piece
use Rattle.sl_lexer.specs.Lex.{token_at, Front, start, blank, token, Lex, Fault}
use Rattle.sl_lexer.proofs.Sizes.{piece_within}

abbrev pub IsIn : ℕ → Token → Type 0
IsIn n t = (t.span.from ≤ n) × (t.span.to ≤ n)

wider : (m n : ℕ) (ts : List Token) → m ≤ n → AllByRecursion (IsIn m) ts → AllByRecursion (IsIn n) ts
wider m n [] l h = tt
wider m n (t ∷ ts) l h = ((omega (arith, l, h.0.0), omega (arith, l, h.0.1)), wider m n ts l h.1)

and_one : (n : ℕ) (ts : List Token) (t : Token) → AllByRecursion (IsIn n) ts → IsIn n t → AllByRecursion (IsIn n) (ts ++ t ∷ [])
and_one n [] t h k = (k, tt)
and_one n (u ∷ ts) t h k = (h.0, and_one n ts t h.1 k)

-- no front is longer than the text
pub front_at : {text : List ℕ} {ts : List Token} {low : Bool} {at : ℕ} → Front text ts low at → at ≤ length text
front_at start = omega arith
front_at {text = text} (blank {low = low} {at = at} {n = n} f h) = let i = front_at f in let s = piece_within low (drop at text) (piece.Blank n) h in omega (arith, i, s.0, s.1, length-drop at text)
front_at {text = text} (token {low = low} {at = at} {n = n} {kind = kind} f h l) = let i = front_at f in let s = piece_within low (drop at text) (piece.Token kind n) h in omega (arith, i, s.0, s.1, length-drop at text)

-- and its tokens stand in it
pub front_in : {text : List ℕ} {ts : List Token} {low : Bool} {at : ℕ} → Front text ts low at → AllByRecursion (IsIn at) ts
front_in start = tt
front_in (blank {tokens = ts} {at = at} {n = n} f h) = wider at (at + n) ts (omega arith) (front_in f)
front_in (token {tokens = ts} {at = at} {n = n} {kind = kind} f h l) = and_one (at + n) ts (token_at kind at n) (wider at (at + n) ts (omega arith) (front_in f)) (omega arith, omega arith)

pub lex_in : (text : List ℕ) (ts : List Token) → Lex text ts → AllByRecursion (IsIn (length text)) ts
lex_in text ts f = front_in f.1

pub fault_in : (text : List ℕ) (kind : LexKind) (span : Span) → Fault text kind span → span.from ≤ length text
fault_in text kind span f = front_at f.front
