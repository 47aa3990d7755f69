-- A front that is read grows by a piece, or a fault stands behind it.
use Rattle.std.proofs.Common.{◌≡◌, ℕ, ◌+◌, ◌<◌, ◌≤◌, Bool, List, [], ◌∷◌, ◌++◌, length, drop, Some, None, refl, sym, ap, subst, ◌∙◌, arith, inr, length-drop, length-append}
use Rattle.sl_text.specs.declared.span.Span.{Span}
use Rattle.sl_ast.specs.declared.token.Token.{Token}
use Rattle.sl_ast.specs.declared.token.TokenKind.{TokenKind}
use Rattle.sl_lexer.specs.declared.fault.LexKind.{LexKind}
use Rattle.sl_lexer.specs.declared.fault.LexKind.TheVariants.{TooMany}
use Rattle.sl_lexer.specs.declared.piece.Piece.TheVariants as piece
use Rattle.sl_lexer.specs.Piece.{piece_at}
use Rattle.sl_lexer.specs.Lex.{is_low, most, Front, start, blank, token, Wrong, wrong, too_many}
use Rattle.sl_lexer.specs.Reading.{IsCause}

-- no more tokens than there may be
pub front_len : {text : List ℕ} {tokens : List Token} {low : Bool} {at : ℕ} → Front text tokens low at → length tokens ≤ most
front_len start = omega arith
front_len (blank f h) = front_len f
front_len (token {tokens = ts} {at = at} {n = n} {kind = kind} f h l) = omega (arith, l, length-append ts (record { kind = kind; span = record { from = at; to = at + n } } ∷ []))

pub token_read : (text : List ℕ) (ts us : List Token) (low low' : Bool) (at n : ℕ) (kind : TokenKind) (span : Span)
    → Front text ts low at → piece_at low (drop at text) ≡ Some (piece.Token kind n) → length ts < most
    → us ≡ ts ++ (record { kind = kind; span = span }) ∷ [] → span.from ≡ at → span.to ≡ at + n → low' ≡ is_low text kind (at + n)
    → Front text us low' (at + n)
token_read text ts us low low' at n kind span f h l e a b c =
    let i : us ≡ ts ++ (record { kind = kind; span = record { from = at; to = at + n } }) ∷ [] = e ∙ ap (λ (z : ℕ). ts ++ (record { kind = kind; span = record { from = z; to = span.to } }) ∷ []) a ∙ ap (λ (z : ℕ). ts ++ (record { kind = kind; span = record { from = at; to = z } }) ∷ []) b in
    subst (λ (z : List Token). Front text z low' (at + n)) (sym i) (subst (λ (z : Bool). Front text (ts ++ (record { kind = kind; span = record { from = at; to = at + n } }) ∷ []) z (at + n)) (sym c) (token f h l))

pub too_many_here : (text : List ℕ) (ts : List Token) (low : Bool) (at n : ℕ) (kind : TokenKind) (span : Span)
    → Front text ts low at → piece_at low (drop at text) ≡ Some (piece.Token kind n) → most ≤ length ts → span.from ≡ at → span.to ≡ at + n
    → IsCause text (record { kind = TooMany; span = span })
too_many_here text ts low at n kind span f h l a b =
    let m = front_len f in
    let e : length ts ≡ most = omega (arith, l, m) in
    inr (record {
      tokens = ts;
      low = low;
      front = subst (λ (z : ℕ). Front text ts low z) (sym a) f;
      size = n;
      to_is = b ∙ ap (λ (z : ℕ). z + n) (sym a);
      here = subst (λ (z : ℕ). Wrong text ts low z TooMany n) (sym a) (too_many h e);
    })

pub wrong_here : (text : List ℕ) (ts : List Token) (low : Bool) (at n : ℕ) (kind : LexKind)
    → Front text ts low at → piece_at low (drop at text) ≡ Some (piece.Fault kind n)
    → IsCause text (record { kind = kind; span = record { from = at; to = at + n } })
wrong_here text ts low at n kind f h = inr (record { tokens = ts; low = low; front = f; size = n; to_is = refl; here = wrong h })

-- where nothing stands, the text is over
pub over : (low : Bool) (a : List ℕ) → piece_at low a ≡ None → length a ≡ 0
over low [] h = refl
over low (c ∷ a) h = absurd cc

pub at_end : (text : List ℕ) (low : Bool) (at : ℕ) → at ≤ length text → piece_at low (drop at text) ≡ None → length text ≡ at
at_end text low at l h = omega (arith, over low (drop at text) h, length-drop at text, l)
