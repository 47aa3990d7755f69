-- A text is read in one way, up to its end or a fault.
use Rattle.std.proofs.Common.{◌≡◌, ℕ, zero, suc, ◌+◌, ◌-◌, ◌<◌, ◌≤◌, Bool, false, List, [], ◌∷◌, ◌++◌, length, drop, Option, Some, None, refl, sym, ap, subst, ◌∙◌, arith, inl, inr, ◌⊎◌, length-drop}
use Rattle.sl_text.specs.declared.span.Span.{Span}
use Rattle.sl_ast.specs.declared.token.Token.{Token}
use Rattle.sl_ast.specs.declared.token.TokenKind.{TokenKind}
use Rattle.sl_lexer.specs.declared.fault.LexKind.{LexKind}
use Rattle.sl_lexer.specs.declared.fault.LexKind.TheVariants.{TooMany}
use Rattle.sl_lexer.specs.declared.piece.Piece.{Piece}
use Rattle.sl_lexer.specs.declared.piece.Piece.TheVariants as piece
use Rattle.sl_lexer.specs.Piece.{piece_at}
use Rattle.sl_lexer.specs.Lex.{token_at, is_low, most, Front, start, blank, token, Wrong, wrong, too_many, Lex, Fault}
use Rattle.sl_lexer.proofs.Sizes.{piece_within}
use Rattle.sl_lexer.proofs.Steps.{front_len, at_end}

pub record State : Type 0 where
  pub tokens : List Token
  pub low : Bool
  pub at : ℕ

abbrev state : List Token → Bool → ℕ → State
state ts low at = record { tokens = ts; low = low; at = at }

data Step (text : List ℕ) : State → State → Type 0 where
  by_blank : {ts : List Token} {low : Bool} {at n : ℕ} → piece_at low (drop at text) ≡ Some (piece.Blank n) → Step text (state ts low at) (state ts false (at + n))
  by_token : {ts : List Token} {low : Bool} {at n : ℕ} {kind : TokenKind} → piece_at low (drop at text) ≡ Some (piece.Token kind n) → length ts < most
      → Step text (state ts low at) (state (ts ++ token_at kind at n ∷ []) (is_low text kind (at + n)) (at + n))

data Runs (text : List ℕ) : State → State → Type 0 where
  stay : {s : State} → Runs text s s
  go_on : {s t u : State} → Step text s t → Runs text t u → Runs text s u

snoc : {text : List ℕ} {s t u : State} → Runs text s t → Step text t u → Runs text s u
snoc stay k = go_on k stay
snoc (go_on h i) k = go_on h (snoc i k)

front_runs : {text : List ℕ} {ts : List Token} {low : Bool} {at : ℕ} → Front text ts low at → Runs text (state [] false 0) (state ts low at)
front_runs start = stay
front_runs (blank f h) = snoc (front_runs f) (by_blank h)
front_runs (token f h l) = snoc (front_runs f) (by_token h l)

-- ---- one step, and none from an end

blank_is : (n m : ℕ) → Some (piece.Blank n) ≡ Some (piece.Blank m) → n ≡ m
blank_is n m e = cc

token_is : (k l : TokenKind) (n m : ℕ) → Some (piece.Token k n) ≡ Some (piece.Token l m) → (k ≡ l) × (n ≡ m)
token_is k l n m e = (cc, cc)

fault_is : (k l : LexKind) (n m : ℕ) → Some (piece.Fault k n) ≡ Some (piece.Fault l m) → (k ≡ l) × (n ≡ m)
fault_is k l n m e = (cc, cc)

one_step : {text : List ℕ} {s t : State} → Step text s t → (x u : State) → s ≡ x → Step text x u → t ≡ u
one_step {text = text} (by_blank {ts = ts} {low = low} {at = at} {n = n} h) x u e (by_blank {ts = ts'} {low = low'} {at = at'} {n = n'} k) =
    let a : at ≡ at' = ap (λ (z : State). z.at) e in
    let b : ts ≡ ts' = ap (λ (z : State). z.tokens) e in
    let c : low ≡ low' = ap (λ (z : State). z.low) e in
    let i : n ≡ n' = blank_is n n' (sym h ∙ ap (λ (z : State). piece_at z.low (drop z.at text)) e ∙ k) in
    ap (λ (z : List Token). state z false (at + n)) b ∙ ap (λ (z : ℕ). state ts' false (z + n)) a ∙ ap (λ (z : ℕ). state ts' false (at' + z)) i
one_step {text = text} (by_blank {n = n} h) x u e (by_token {n = m} {kind = kind} k l) =
    let i : Some (piece.Blank n) ≡ Some (piece.Token kind m) = sym h ∙ ap (λ (z : State). piece_at z.low (drop z.at text)) e ∙ k in absurd cc
one_step {text = text} (by_token {n = n} {kind = kind} h l) x u e (by_blank {n = m} k) =
    let i : Some (piece.Token kind n) ≡ Some (piece.Blank m) = sym h ∙ ap (λ (z : State). piece_at z.low (drop z.at text)) e ∙ k in absurd cc
one_step {text = text} (by_token {ts = ts} {low = low} {at = at} {n = n} {kind = kind} h l) x u e (by_token {ts = ts'} {low = low'} {at = at'} {n = n'} {kind = kind'} k m) =
    let a : at ≡ at' = ap (λ (z : State). z.at) e in
    let b : ts ≡ ts' = ap (λ (z : State). z.tokens) e in
    let i = token_is kind kind' n n' (sym h ∙ ap (λ (z : State). piece_at z.low (drop z.at text)) e ∙ k) in
    ap (λ (z : List Token). state (z ++ token_at kind at n ∷ []) (is_low text kind (at + n)) (at + n)) b
    ∙ ap (λ (z : ℕ). state (ts' ++ token_at kind z n ∷ []) (is_low text kind (z + n)) (z + n)) a
    ∙ ap (λ (z : TokenKind). state (ts' ++ token_at z at' n ∷ []) (is_low text z (at' + n)) (at' + n)) i.0
    ∙ ap (λ (z : ℕ). state (ts' ++ token_at kind' at' z ∷ []) (is_low text kind' (at' + z)) (at' + z)) i.1

abbrev End : List ℕ → State → Type 0
End text s = (s.at ≡ length text) ⊎ ((kind : LexKind) × (n : ℕ) × Wrong text s.tokens s.low s.at kind n)

gone : (text : List ℕ) → drop (length text) text ≡ []
gone [] = refl
gone (c ∷ a) = gone a

nothing : (text : List ℕ) (low : Bool) (at : ℕ) (x : Piece) → at ≡ length text → piece_at low (drop at text) ≡ Some x → ⊥
nothing text low at x e h = let i : Some x ≡ None = sym h ∙ ap (λ (z : ℕ). piece_at low (drop z text)) e ∙ ap (piece_at low) (gone text) in absurd cc

wrong_blank : {text : List ℕ} {ts : List Token} {low : Bool} {at n : ℕ} {kind : LexKind} → Wrong text ts low at kind n → (m : ℕ) → piece_at low (drop at text) ≡ Some (piece.Blank m) → ⊥
wrong_blank (wrong {kind = kind} {n = n} h) m k = let i : Some (piece.Fault kind n) ≡ Some (piece.Blank m) = sym h ∙ k in absurd cc
wrong_blank (too_many {kind = kind} {n = n} h l) m k = let i : Some (piece.Token kind n) ≡ Some (piece.Blank m) = sym h ∙ k in absurd cc

wrong_token : {text : List ℕ} {ts : List Token} {low : Bool} {at n : ℕ} {kind : LexKind} → Wrong text ts low at kind n → (t : TokenKind) (m : ℕ) → piece_at low (drop at text) ≡ Some (piece.Token t m) → length ts < most → ⊥
wrong_token (wrong {kind = kind} {n = n} h) t m k j = let i : Some (piece.Fault kind n) ≡ Some (piece.Token t m) = sym h ∙ k in absurd cc
wrong_token (too_many h l) t m k j = absurd (omega (arith, l, j))

ended : {text : List ℕ} {s t : State} → Step text s t → End text s → ⊥
ended {text = text} (by_blank {low = low} {at = at} {n = n} h) (inl e) = nothing text low at (piece.Blank n) e h
ended {text = text} (by_token {low = low} {at = at} {n = n} {kind = kind} h l) (inl e) = nothing text low at (piece.Token kind n) e h
ended (by_blank {n = n} h) (inr w) = wrong_blank w.2 n h
ended (by_token {n = n} {kind = kind} h l) (inr w) = wrong_token w.2 kind n h l

one_end : {text : List ℕ} {s t : State} → Runs text s t → End text t → (u : State) → Runs text s u → End text u → t ≡ u
one_end stay e u stay f = refl
one_end stay e u (go_on h i) f = absurd (ended h e)
one_end (go_on h i) e u stay f = absurd (ended h f)
one_end {text = text} (go_on {s = s} {t = t} h i) e u (go_on {t = t'} k j) f =
    one_end i e u (subst (λ (z : State). Runs text z u) (sym (one_step h s t' refl k)) j) f

lex_end : {text : List ℕ} {ts us : List Token} {low low' : Bool} {at at' : ℕ} → Front text ts low at → End text (state ts low at) → Front text us low' at' → End text (state us low' at') → state ts low at ≡ state us low' at'
lex_end {us = us} {low' = low'} {at' = at'} f e g h = one_end (front_runs f) e (state us low' at') (front_runs g) h

fault_end : (text : List ℕ) (kind : LexKind) (span : Span) (f : Fault text kind span) → End text (state f.tokens f.low span.from)
fault_end text kind span f = inr (kind, f.size, f.here)

-- ---- the laws

pub one_lex : (text : List ℕ) (ts us : List Token) → Lex text ts → Lex text us → ts ≡ us
one_lex text ts us f g = ap (λ (z : State). z.tokens) (lex_end f.1 (inl refl) g.1 (inl refl))

same_wrong : {text : List ℕ} {ts : List Token} {low : Bool} {at n : ℕ} {kind : LexKind} → Wrong text ts low at kind n → (l : LexKind) (m : ℕ) → Wrong text ts low at l m → (kind ≡ l) × (n ≡ m)
same_wrong (wrong {kind = kind} {n = n} h) l m (wrong k) = fault_is kind l n m (sym h ∙ k)
same_wrong (wrong {kind = kind} {n = n} h) l m (too_many {kind = t} k j) = let i : Some (piece.Fault kind n) ≡ Some (piece.Token t m) = sym h ∙ k in absurd cc
same_wrong (too_many {kind = t} {n = n} h j) l m (wrong k) = let i : Some (piece.Token t n) ≡ Some (piece.Fault l m) = sym h ∙ k in absurd cc
same_wrong (too_many {kind = t} {n = n} h j) l m (too_many {kind = t'} k j') = (refl, (token_is t t' n m (sym h ∙ k)).1)

pub no_both : (text : List ℕ) (ts : List Token) (kind : LexKind) (span : Span) → Lex text ts → Fault text kind span → ⊥
no_both text ts kind span f g =
    let e = lex_end f.1 (inl refl) g.front (fault_end text kind span g) in
    let a : length text ≡ span.from = ap (λ (z : State). z.at) e in
    by_wrong g.here (sym a)
  where
    by_wrong : {us : List Token} {low : Bool} {at n : ℕ} {k : LexKind} → Wrong text us low at k n → at ≡ length text → ⊥
    by_wrong {low = low} {at = at} (wrong {kind = k} {n = n} h) a = nothing text low at (piece.Fault k n) a h
    by_wrong {low = low} {at = at} (too_many {kind = t} {n = n} h l) a = nothing text low at (piece.Token t n) a h

abbrev span_of : ℕ → ℕ → Span
span_of from to = record { from = from; to = to }

pub one_fault : (text : List ℕ) (k l : LexKind) (s t : Span) → Fault text k s → Fault text l t → (k ≡ l) × (s ≡ t)
one_fault text k l s t f g =
    let e = lex_end f.front (fault_end text k s f) g.front (fault_end text l t g) in
    let h : Wrong text g.tokens g.low t.from k f.size = subst (λ (z : State). Wrong text z.tokens z.low z.at k f.size) e f.here in
    let w = same_wrong h l g.size g.here in
    let a : s.from ≡ t.from = ap (λ (z : State). z.at) e in
    let b : s.to ≡ t.to = omega (arith, a, w.1, f.to_is, g.to_is) in
    (w.0, ap (λ (z : ℕ). span_of z s.to) a ∙ ap (λ (z : ℕ). span_of t.from z) b)

-- ---- and each text is read

pub order : (m n : ℕ) → (m < n) ⊎ (n ≤ m)
order m zero = inr (omega arith)
order zero (suc n) = inl (omega arith)
order (suc m) (suc n) = up (order m n)
  where
    up : (m < n) ⊎ (n ≤ m) → (suc m < suc n) ⊎ (suc n ≤ suc m)
    up (inl h) = inl (omega (arith, h))
    up (inr h) = inr (omega (arith, h))

abbrev Comes : List ℕ → Type 0
Comes text = ((tokens : List Token) × Lex text tokens) ⊎ ((kind : LexKind) × (span : Span) × Fault text kind span)

found : (text : List ℕ) (ts : List Token) (low : Bool) (at n : ℕ) (kind : LexKind) → Front text ts low at → Wrong text ts low at kind n → Comes text
found text ts low at n kind f w = inr (kind, record { from = at; to = at + n }, record { tokens = ts; low = low; front = f; size = n; to_is = refl; here = w })

comes : (text : List ℕ) (k : ℕ) (ts : List Token) (low : Bool) (at : ℕ) → length text - at < k → at ≤ length text → Front text ts low at → Comes text
comes text zero ts low at l w f = absurd (omega arith)
comes text (suc k) ts low at l w f = go (piece_at low (drop at text)) refl (λ us low' n a b g. comes text k us low' (at + n) (omega (arith, a, b, l, w)) b g)
  where
    go : (o : Option Piece) → piece_at low (drop at text) ≡ o → ((us : List Token) (low' : Bool) (n : ℕ) → 0 < n → at + n ≤ length text → Front text us low' (at + n) → Comes text) → Comes text
    go None h ih = inl (ts, (low, subst (λ (z : ℕ). Front text ts low z) (sym (at_end text low at w h)) f))
    go (Some (piece.Blank n)) h ih = let s = piece_within low (drop at text) (piece.Blank n) h in ih ts false n s.0 (omega (arith, s.1, length-drop at text, s.0, w)) (blank f h)
    go (Some (piece.Fault kind n)) h ih = found text ts low at n kind f (wrong h)
    go (Some (piece.Token kind n)) h ih = by_count (order (length ts) most)
      where
        by_count : (length ts < most) ⊎ (most ≤ length ts) → Comes text
        by_count (inl m) = let s = piece_within low (drop at text) (piece.Token kind n) h in ih (ts ++ token_at kind at n ∷ []) (is_low text kind (at + n)) n s.0 (omega (arith, s.1, length-drop at text, s.0, w)) (token f h m)
        by_count (inr m) = let e = front_len f in let i : length ts ≡ most = omega (arith, e, m) in found text ts low at n TooMany f (too_many h i)

pub comes_to : (text : List ℕ) → Comes text
comes_to text = comes text (suc (length text)) [] false 0 (omega arith) (omega arith) start
