-- A text is one token exactly where it has the form of that kind.
use Rattle.std.proofs.Common.{◌≡◌, ℕ, suc, ◌+◌, ◌<◌, ◌≤◌, Bool, true, false, cond, true≢false, List, [], ◌∷◌, ◌++◌, length, drop, take, Option, Some, None, Result, Ok, Err, refl, sym, ap, subst, ◌∙◌, arith, inl, inr, ◌⊎◌, encode_utf8_all}
use Rattle.std.specs.Int.{is_in_range}
use Rattle.std.specs.Prelude.{◌==◌, ◌&&◌, ◌||◌, not, nat_lt, nat_le, position, codes, if◌then◌else◌}
use Rattle.std.specs.List.{AllByRecursion, list_all, list_any, prefix_len}
use Rattle.std.specs.Char.{is_ascii_digit, is_ascii_whitespace, is_ascii_alphabetic}
use Rattle.std.proofs.Math.Seq.{take-length}
use Rattle.std.proofs.lemmas.Bool.{ltb-false, ltb-true, le-ltb, leb-true, le-leb, ne_eqb, eqb-true}
use Rattle.unicode_ident.specs.Ident.{is_xid_start, is_xid_continue}
use Rattle.unicode_ident.proofs.IdentLemmas.{is_xid_start-ascii}
use Rattle.sl_num.specs.Literal.{literal}
use Rattle.sl_num.specs.declared.number.Numeral.{Numeral}
use Rattle.sl_num.specs.declared.number.NumFault.{NumFault}
use Rattle.sl_ast.specs.declared.token.Token.{Token}
use Rattle.sl_ast.specs.declared.token.TokenKind.{TokenKind}
use Rattle.sl_ast.specs.declared.token.TokenKind.TheVariants as kind
use Rattle.sl_lexer.specs.declared.fault.LexKind.TheVariants as fault
use Rattle.sl_lexer.specs.declared.class.Class.{Class}
use Rattle.sl_lexer.specs.declared.class.Class.TheVariants as class
use Rattle.sl_lexer.specs.declared.piece.Piece.{Piece}
use Rattle.sl_lexer.specs.declared.piece.Piece.TheVariants as piece
use Rattle.sl_lexer.specs.declared.texts.TextEnd.{TextEnd}
use Rattle.sl_lexer.specs.declared.texts.TextEnd.TheVariants as end
use Rattle.sl_lexer.specs.Characters.{first, is, holds, is_operator, comment_begins, goes_on, operator_len}
use Rattle.sl_lexer.specs.Comment.{comment_len}
use Rattle.sl_lexer.specs.Class.{single, plain, by_single, class_of}
use Rattle.sl_lexer.specs.TextLiteral.{text_end, text_in}
use Rattle.sl_lexer.specs.Piece.{keyword, mark, run, by_keyword, by_mark, fraction, wrong_number, by_literal, by_end, by_comment, by_class, piece_at}
use Rattle.sl_lexer.specs.Lex.{token_at, is_low, Front, start, blank, token}
use Rattle.sl_lexer.specs.Forms.{IsOne, is_more, is_word, all_go_on, is_operators, is_digits, IsQuoted, IsSingle, IsForm}
use Rattle.sl_lexer.proofs.Within.{IsIn, front_in}
use Rattle.sl_lexer.proofs.Sizes.{piece_within}
use Rattle.sl_lexer.proofs.Unique.{order}

-- ---- one token is the piece at the front

abbrev One : TokenKind → List ℕ → Type 0
One k text = piece_at false text ≡ Some (piece.Token k (length text))

pub one_is : (k : TokenKind) (text : List ℕ) → One k text → IsOne k text
one_is k text h = (is_low text k (0 + length text), subst (λ (z : ℕ). Front text (token_at k 0 (length text) ∷ []) (is_low text k (0 + length text)) z) (omega arith) (token start h (omega arith)))

-- a front without tokens that ends at 0 is the beginning
low_at_start : {text : List ℕ} {ts : List Token} {low : Bool} {at : ℕ} → Front text ts low at → ts ≡ [] → at ≡ 0 → low ≡ false
low_at_start start e z = refl
low_at_start (blank f h) e z = refl
low_at_start (token {tokens = []} f h l) e z = absurd cc
low_at_start (token {tokens = t ∷ ts} f h l) e z = absurd cc

alone : (ts : List Token) (k l : TokenKind) (at n m : ℕ) → ts ++ token_at k at n ∷ [] ≡ token_at l 0 m ∷ [] → (ts ≡ []) × (k ≡ l) × (at ≡ 0) × (n ≡ m)
alone [] k l at n m e =
    let t : token_at k at n ≡ token_at l 0 m = cc in
    let a : at ≡ 0 = ap (λ (z : Token). z.span.from) t in
    let b : at + n ≡ 0 + m = ap (λ (z : Token). z.span.to) t in
    (refl, ap (λ (z : Token). z.kind) t, a, omega (arith, a, b))
alone (t ∷ []) k l at n m e = absurd cc
alone (t ∷ u ∷ ts) k l at n m e = absurd cc

is_one : {text : List ℕ} {ts : List Token} {low : Bool} {at : ℕ} → Front text ts low at → (k : TokenKind) → ts ≡ token_at k 0 (length text) ∷ [] → at ≡ length text → One k text
is_one start k e a = absurd cc
is_one {text = text} (blank {low = low} {at = at} {n = n} f h) k e a =
    let i : AllByRecursion (IsIn at) (token_at k 0 (length text) ∷ []) = subst (λ (z : List Token). AllByRecursion (IsIn at) z) e (front_in f) in
    let s = piece_within low (drop at text) (piece.Blank n) h in
    absurd (omega (arith, i.0.1, s.0, a))
is_one {text = text} (token {tokens = ts} {low = low} {at = at} {n = n} {kind = l} f h m) k e a =
    let p = alone ts l k at n (length text) e in
    let w = low_at_start f p.0 p.2 in
    sym (ap (λ (z : ℕ). piece_at low (drop z text)) p.2 ∙ ap (λ (z : Bool). piece_at z text) w)
    ∙ h ∙ ap (λ (z : TokenKind). Some (piece.Token z n)) p.1 ∙ ap (λ (z : ℕ). Some (piece.Token k z)) p.3

pub is_piece : (k : TokenKind) (text : List ℕ) → IsOne k text → One k text
is_piece k text f = is_one f.1 k refl refl

-- ---- what begins at a character, by each test of it

abbrev nest : Bool → Bool → Bool → Bool → Bool → Bool → Option ℕ → Bool → Bool → Bool → Bool → Class
nest l b d q u w (Some i) s e p x =
    if l then class.LineComment else (if b then class.BlockComment else (if d then class.Dollar else (if q then class.Quote else (if u then (if w then class.Word else class.Underscore) else class.Single (10 + i)))))
nest l b d q u w None s e p x =
    if l then class.LineComment else (if b then class.BlockComment else (if d then class.Dollar else (if q then class.Quote else (if u then (if w then class.Word else class.Underscore) else
    (if s then class.White else (if e then class.Digit else (if p then class.Operator else (if x then class.Word else class.Other))))))))

class_is : (c : ℕ) (next : Option ℕ) → class_of c next ≡ nest ((c == 47) && is 47 next) ((c == 47) && is 42 next) (c == 36) (c == 34) (c == 95) (holds is_xid_continue next) (single c) (is_ascii_whitespace c) (is_ascii_digit c) (is_operator c) (is_xid_start c)
class_is c next = go ((c == 47) && is 47 next) ((c == 47) && is 42 next) (c == 36) (c == 34) (c == 95) (holds is_xid_continue next) (single c)
  where
    go : (l b d q u w : Bool) (o : Option ℕ) → (if l then class.LineComment else (if b then class.BlockComment else (if d then class.Dollar else (if q then class.Quote else (if u then (if w then class.Word else class.Underscore) else by_single c o)))))
        ≡ nest l b d q u w o (is_ascii_whitespace c) (is_ascii_digit c) (is_operator c) (is_xid_start c)
    go l b d q u w None = refl
    go l b d q u w (Some i) = refl

abbrev Why : Bool → Bool → Bool → Bool → Bool → Option ℕ → Bool → Bool → Bool → Class → Type 0
Why l b q u w o e p x class.Word = (x ≡ true) ⊎ ((u ≡ true) × (w ≡ true))
Why l b q u w o e p x class.Digit = e ≡ true
Why l b q u w o e p x class.Operator = (p ≡ true) × (l ≡ false) × (b ≡ false)
Why l b q u w o e p x class.Quote = q ≡ true
Why l b q u w o e p x class.Underscore = u ≡ true
Why l b q u w o e p x (class.Single i) = (j : ℕ) × (o ≡ Some j) × (i ≡ 10 + j)
Why l b q u w o e p x _ = Unit {0}

why : (l b d q u w : Bool) (o : Option ℕ) (s e p x : Bool) → Why l b q u w o e p x (nest l b d q u w o s e p x)
why true b d q u w (Some i) s e p x = tt
why true b d q u w None s e p x = tt
why false true d q u w (Some i) s e p x = tt
why false true d q u w None s e p x = tt
why false false true q u w (Some i) s e p x = tt
why false false true q u w None s e p x = tt
why false false false true u w (Some i) s e p x = refl
why false false false true u w None s e p x = refl
why false false false false true true (Some i) s e p x = inr (refl, refl)
why false false false false true true None s e p x = inr (refl, refl)
why false false false false true false (Some i) s e p x = refl
why false false false false true false None s e p x = refl
why false false false false false w (Some i) s e p x = (i, refl, refl)
why false false false false false w None true e p x = tt
why false false false false false w None false true p x = refl
why false false false false false w None false false true x = (refl, refl, refl)
why false false false false false w None false false false true = inl refl
why false false false false false w None false false false false = tt

abbrev Because : ℕ → Option ℕ → Class → Type 0
Because c next k = Why ((c == 47) && is 47 next) ((c == 47) && is 42 next) (c == 34) (c == 95) (holds is_xid_continue next) (single c) (is_ascii_digit c) (is_operator c) (is_xid_start c) k

because : (c : ℕ) (next : Option ℕ) → Because c next (class_of c next)
because c next = subst (Because c next) (sym (class_is c next)) (why ((c == 47) && is 47 next) ((c == 47) && is 42 next) (c == 36) (c == 34) (c == 95) (holds is_xid_continue next) (single c) (is_ascii_whitespace c) (is_ascii_digit c) (is_operator c) (is_xid_start c))

-- ---- runs to the end

all_of : (q : ℕ → Bool) (a : List ℕ) → prefix_len q a ≡ length a → list_all q a ≡ true
all_of q [] h = refl
all_of q (c ∷ a) h = go (q c) (all_of q a) h
  where
    go : (b : Bool) → (prefix_len q a ≡ length a → list_all q a ≡ true) → cond b (1 + prefix_len q a) 0 ≡ suc (length a) → (b && list_all q a) ≡ true
    go true i h = i (omega (arith, h))
    go false i h = absurd (omega (arith, h))

len_of : (q : ℕ → Bool) (a : List ℕ) → list_all q a ≡ true → prefix_len q a ≡ length a
len_of q [] h = refl
len_of q (c ∷ a) h = go (q c) (len_of q a) h
  where
    go : (b : Bool) → (list_all q a ≡ true → prefix_len q a ≡ length a) → (b && list_all q a) ≡ true → cond b (1 + prefix_len q a) 0 ≡ suc (length a)
    go true f h = let i = f h in omega (arith, i)
    go false f h = absurd (true≢false (sym h))

all_go : (a : List ℕ) → operator_len a ≡ length a → all_go_on a ≡ true
all_go [] h = refl
all_go (c ∷ a) h = go (goes_on c (first a)) (all_go a) h
  where
    go : (b : Bool) → (operator_len a ≡ length a → all_go_on a ≡ true) → cond b (1 + operator_len a) 0 ≡ suc (length a) → (b && all_go_on a) ≡ true
    go true i h = i (omega (arith, h))
    go false i h = absurd (omega (arith, h))

len_go : (a : List ℕ) → all_go_on a ≡ true → operator_len a ≡ length a
len_go [] h = refl
len_go (c ∷ a) h = go (goes_on c (first a)) (len_go a) h
  where
    go : (b : Bool) → (all_go_on a ≡ true → operator_len a ≡ length a) → (b && all_go_on a) ≡ true → cond b (1 + operator_len a) 0 ≡ suc (length a)
    go true f h = let i = f h in omega (arith, i)
    go false f h = absurd (true≢false (sym h))

both : (a b : Bool) → a ≡ true → b ≡ true → (a && b) ≡ true
both true true h k = refl
both true false h k = k
both false b h k = h

split : (a b : Bool) → (a && b) ≡ true → (a ≡ true) × (b ≡ true)
split true b h = (refl, h)
split false b h = absurd (true≢false (sym h))

one_of : (a b : Bool) → (a ≡ true) ⊎ (b ≡ true) → (a || b) ≡ true
one_of true b h = refl
one_of false b (inl h) = absurd (true≢false (sym h))
one_of false b (inr h) = h

which : (a b : Bool) → (a || b) ≡ true → (a ≡ true) ⊎ (b ≡ true)
which true b h = inl refl
which false b h = inr h

whole : (n c : ℕ) (a : List ℕ) → n ≡ suc (length a) → take n (c ∷ a) ≡ c ∷ a
whole n c a e = ap (λ (z : ℕ). take z (c ∷ a)) e ∙ take-length (c ∷ a)

token_is : (k l : TokenKind) (n m : ℕ) → piece.Token k n ≡ piece.Token l m → (k ≡ l) × (n ≡ m)
token_is k l n m e = (cc, cc)

not_below : (m n : ℕ) → nat_lt m n ≡ false → n ≤ m
not_below m n h = ltb-false m n h

below : (m n : ℕ) → n ≤ m → nat_lt m n ≡ false
below m n h = le-ltb m n h

-- ---- what a piece that is a token has read

word_kind : (c : ℕ) (a : List ℕ) (n : ℕ) (w : List ℕ) (o : Option ℕ) (k : TokenKind) → by_keyword n w o ≡ piece.Token k (suc (length a)) → keyword w ≡ o
    → (n ≡ suc (length a) → w ≡ c ∷ a) → (n ≡ suc (length a) → is_word (c ∷ a) ≡ true) → IsForm k (c ∷ a)
word_kind c a n w (Some i) k h o all word =
    let p = token_is (kind.Key i) k n (suc (length a)) h in
    subst (λ (z : TokenKind). IsForm z (c ∷ a)) p.0 (word p.1, ap keyword (sym (all p.1)) ∙ o)
word_kind c a n w None k h o all word = go (nat_lt 80 n) refl h
  where
    go : (b : Bool) → nat_lt 80 n ≡ b → (if b then piece.Fault fault.LongText n else piece.Token (kind.Id w) n) ≡ piece.Token k (suc (length a)) → IsForm k (c ∷ a)
    go true e h = absurd cc
    go false e h =
        let p = token_is (kind.Id w) k n (suc (length a)) h in
        let l = not_below 80 n e in
        subst (λ (z : TokenKind). IsForm z (c ∷ a)) p.0 (all p.1, word p.1, ap keyword (sym (all p.1)) ∙ o, omega (arith, l, p.1))

word_form : (c : ℕ) (a : List ℕ) (k : TokenKind) → (is_xid_start c ≡ true) ⊎ (((c == 95) ≡ true) × (holds is_xid_continue (first a) ≡ true)) → by_class false class.Word (c ∷ a) ≡ piece.Token k (suc (length a)) → IsForm k (c ∷ a)
word_form c a k y h =
    let n = run is_xid_continue (c ∷ a) in
    word_kind c a n (take n (c ∷ a)) (keyword (take n (c ∷ a))) k h refl (λ e. whole n c a e) (λ e. both _ (list_all is_xid_continue a) (begins y) (all_of is_xid_continue a (omega (arith, e))))
  where
    more : (a : List ℕ) → holds is_xid_continue (first a) ≡ true → is_more a ≡ true
    more [] h = absurd (true≢false (sym h))
    more (d ∷ b) h = refl

    begins : (is_xid_start c ≡ true) ⊎ (((c == 95) ≡ true) × (holds is_xid_continue (first a) ≡ true)) → (is_xid_start c || ((c == 95) && is_more a)) ≡ true
    begins (inl x) = one_of (is_xid_start c) ((c == 95) && is_more a) (inl x)
    begins (inr x) = one_of (is_xid_start c) ((c == 95) && is_more a) (inr (both (c == 95) (is_more a) x.0 (more a x.1)))

mark_kind : (c : ℕ) (a : List ℕ) (n : ℕ) (w : List ℕ) (o : Option ℕ) (k : TokenKind) → by_mark n w o ≡ piece.Token k (suc (length a)) → mark w ≡ o
    → (n ≡ suc (length a) → w ≡ c ∷ a) → (n ≡ suc (length a) → is_operators (c ∷ a) ≡ true) → IsForm k (c ∷ a)
mark_kind c a n w (Some i) k h o all ops =
    let p = token_is (kind.Mark i) k n (suc (length a)) h in
    subst (λ (z : TokenKind). IsForm z (c ∷ a)) p.0 (inl (ops p.1, ap mark (sym (all p.1)) ∙ o))
mark_kind c a n w None k h o all ops =
    let p = token_is (kind.Op w) k n (suc (length a)) h in
    subst (λ (z : TokenKind). IsForm z (c ∷ a)) p.0 (all p.1, ops p.1, ap mark (sym (all p.1)) ∙ o)

operator_form : (c : ℕ) (a : List ℕ) (k : TokenKind) → (is_operator c ≡ true) × (((c == 47) && is 47 (first a)) ≡ false) × (((c == 47) && is 42 (first a)) ≡ false) → by_class false class.Operator (c ∷ a) ≡ piece.Token k (suc (length a)) → IsForm k (c ∷ a)
operator_form c a k y h =
    let n = 1 + operator_len a in
    mark_kind c a n (take n (c ∷ a)) (mark (take n (c ∷ a))) k h refl (λ e. whole n c a e) (λ e. both (goes_on c (first a)) (all_go_on a) (both (is_operator c) (not (comment_begins c (first a))) y.0 (none (c == 47) (is 47 (first a)) (is 42 (first a)) y.1 y.2)) (all_go a (omega (arith, e))))
  where
    none : (b x y : Bool) → (b && x) ≡ false → (b && y) ≡ false → not (b && (x || y)) ≡ true
    none false x y h k = refl
    none true false false h k = refl
    none true false true h k = absurd (true≢false k)
    none true true y h k = absurd (true≢false h)

number_form : (c : ℕ) (a : List ℕ) (k : TokenKind) → is_ascii_digit c ≡ true → by_class false class.Digit (c ∷ a) ≡ piece.Token k (suc (length a)) → IsForm k (c ∷ a)
number_form c a k y h = go (run is_xid_continue (c ∷ a)) (omega arith) (fraction (drop (run is_xid_continue (c ∷ a)) (c ∷ a))) (literal (encode_utf8_all (take (run is_xid_continue (c ∷ a)) (c ∷ a)))) refl h
  where
    go : (n : ℕ) → n ≡ 1 + prefix_len is_xid_continue a → (b : Bool) (r : Result Numeral NumFault) → literal (encode_utf8_all (take n (c ∷ a))) ≡ r → (if b then wrong_number (c ∷ a) else by_literal (c ∷ a) n r) ≡ piece.Token k (suc (length a)) → IsForm k (c ∷ a)
    go n l true r e h = absurd cc
    go n l false (Err f) e h = absurd cc
    go n l false (Ok v) e h =
        let p = token_is (kind.Number v) k n (suc (length a)) h in
        subst (λ (z : TokenKind). IsForm z (c ∷ a)) p.0 (both (is_ascii_digit c) (list_all is_xid_continue a) y (all_of is_xid_continue a (omega (arith, l, p.1))), ap (λ (z : List ℕ). literal (encode_utf8_all z)) (sym (whole n c a p.1)) ∙ e)

text_form : (c : ℕ) (a : List ℕ) (k : TokenKind) → (c == 34) ≡ true → by_class false class.Quote (c ∷ a) ≡ piece.Token k (suc (length a)) → IsForm k (c ∷ a)
text_form c a k y h = go (is 34 (first a) && is 34 (first (drop 1 a))) (text_end a) refl h
  where
    long : (b : Bool) (v : List ℕ) (n : ℕ) → nat_lt 10000 (length v) ≡ b → text_end a ≡ end.Closed v n → (if b then piece.Fault fault.LongText (1 + n) else piece.Token (kind.Text v) (1 + n)) ≡ piece.Token k (suc (length a)) → IsForm k (c ∷ a)
    long true v n l e h = absurd cc
    long false v n l e h =
        let p = token_is (kind.Text v) k (1 + n) (suc (length a)) h in
        let m : n ≡ length a = omega (arith, p.1) in
        subst (λ (z : TokenKind). IsForm z (c ∷ a)) p.0 ((eqb-true c 34 y, e ∙ ap (λ (z : ℕ). end.Closed v z) m), not_below 10000 (length v) l)

    go : (b : Bool) (x : TextEnd) → text_end a ≡ x → (if b then piece.Fault fault.BadChar 1 else by_end a x) ≡ piece.Token k (suc (length a)) → IsForm k (c ∷ a)
    go true x e h = absurd cc
    go false (end.Closed v n) e h = long (nat_lt 10000 (length v)) v n refl e h
    go false end.Wrong e h = absurd cc
    go false end.Open e h = absurd cc

no_comment : (a : List ℕ) (o : Option ℕ) (k : TokenKind) (n : ℕ) → by_comment a o ≡ piece.Token k n → ⊥
no_comment a None k n h = cc
no_comment a (Some m) k n h = cc

short : (a : List ℕ) → 1 ≡ suc (length a) → a ≡ []
short [] h = refl
short (c ∷ a) h = absurd (omega (arith, h))

single_form : (c : ℕ) (a : List ℕ) (k : TokenKind) (i : ℕ) → IsSingle i (c ∷ []) → piece.Token (kind.Mark i) 1 ≡ piece.Token k (suc (length a)) → IsForm k (c ∷ a)
single_form c a k i s h =
    let p = token_is (kind.Mark i) k 1 (suc (length a)) h in
    subst (λ (z : TokenKind). IsForm z (c ∷ a)) p.0 (inr (subst (λ (z : List ℕ). IsSingle i (c ∷ z)) (sym (short a p.1)) s))

by_forms : (c : ℕ) (a : List ℕ) (k : TokenKind) (x : Class) → Because c (first a) x → by_class false x (c ∷ a) ≡ piece.Token k (suc (length a)) → IsForm k (c ∷ a)
by_forms c a k class.White y h = absurd cc
by_forms c a k class.LineComment y h = absurd cc
by_forms c a k class.BlockComment y h = absurd (no_comment (c ∷ a) (comment_len (drop 1 a)) k (suc (length a)) h)
by_forms c a k class.Dollar y h = absurd cc
by_forms c a k class.Quote y h = text_form c a k y h
by_forms c a k class.Digit y h = number_form c a k y h
by_forms c a k class.Word y h = word_form c a k y h
by_forms c a k class.Underscore y h = single_form c a k 0 (inl (eqb-true c 95 y, refl)) h
by_forms c a k class.Operator y h = operator_form c a k y h
by_forms c a k (class.Single i) y h = single_form c a k i (inr y) h
by_forms c a k class.Other y h = absurd cc

some_is : (x y : Piece) → Some x ≡ Some y → x ≡ y
some_is x y e = cc

pub has_form : (k : TokenKind) (text : List ℕ) → IsOne k text → IsForm k text
has_form k text f = go text (is_piece k text f)
  where
    go : (text : List ℕ) → One k text → IsForm k text
    go [] h = absurd cc
    go (c ∷ a) h = by_forms c a k (class_of c (first a)) (because c (first a)) (some_is (by_class false (class_of c (first a)) (c ∷ a)) (piece.Token k (suc (length a))) h)

-- ---- and each text of a form is that token: which class its first character has

-- a character that passes a test is none of those that fail it
apart : (test : ℕ → Bool) (c d : ℕ) → test c ≡ true → test d ≡ false → (c == d) ≡ false
apart test c d h k = ne_eqb c d (λ e. true≢false (sym h ∙ ap test e ∙ k))

none_any : (test : ℕ → Bool) (c : ℕ) → test c ≡ true → (xs : List ℕ) → list_any test xs ≡ false → list_any (λ d. d == c) xs ≡ false
none_any test c h [] k = refl
none_any test c h (d ∷ xs) k = go (test d) refl (none_any test c h xs) k
  where
    go : (b : Bool) → test d ≡ b → (list_any test xs ≡ false → list_any (λ d. d == c) xs ≡ false) → (b || list_any test xs) ≡ false → ((d == c) || list_any (λ d. d == c) xs) ≡ false
    go true e i k = absurd (true≢false k)
    go false e i k = ap (λ (z : Bool). z || list_any (λ d. d == c) xs) (ne_eqb d c (λ z. true≢false (sym h ∙ ap test (sym z) ∙ e))) ∙ i k

none_len : (q : ℕ → Bool) (xs : List ℕ) → list_any q xs ≡ false → prefix_len (λ x. not (q x)) xs ≡ length xs
none_len q [] h = refl
none_len q (d ∷ xs) h = go (q d) (none_len q xs) h
  where
    go : (b : Bool) → (list_any q xs ≡ false → prefix_len (λ x. not (q x)) xs ≡ length xs) → (b || list_any q xs) ≡ false → cond (not b) (1 + prefix_len (λ x. not (q x)) xs) 0 ≡ suc (length xs)
    go true f h = absurd (true≢false h)
    go false f h = let i = f h in omega (arith, i)

none_at : (q : ℕ → Bool) (xs : List ℕ) → list_any q xs ≡ false → position q xs ≡ None
none_at q xs h = ap (λ (z : ℕ). cond (nat_lt z (length xs)) (Some z) None) (none_len q xs h) ∙ ap (λ (z : Bool). cond z (Some (length xs)) None) (below (length xs) (length xs) (omega arith))

-- the class, where the tests come out so
nest_plain : (l b d q u w : Bool) (o : Option ℕ) (s e p x : Bool) (k : Class) → l ≡ false → b ≡ false → d ≡ false → q ≡ false → u ≡ false → o ≡ None → nest false false false false false w None s e p x ≡ k → nest l b d q u w o s e p x ≡ k
nest_plain l b d q u w o s e p x k hl hb hd hq hu ho h = rw (hl, hb, hd, hq, hu, ho) h

-- a character that passes a test which the marks, the brackets and the quotes fail
class_plain : (test : ℕ → Bool) (c : ℕ) (next : Option ℕ) (k : Class) → test c ≡ true → test 47 ≡ false → test 36 ≡ false → test 34 ≡ false → test 95 ≡ false → list_any test (codes "()[]{},;.") ≡ false → plain c ≡ k → class_of c next ≡ k
class_plain test c next k h h47 h36 h34 h95 hs p =
    class_is c next
    ∙ nest_plain ((c == 47) && is 47 next) ((c == 47) && is 42 next) (c == 36) (c == 34) (c == 95) (holds is_xid_continue next) (single c) (is_ascii_whitespace c) (is_ascii_digit c) (is_operator c) (is_xid_start c) k
    (ap (λ (z : Bool). z && is 47 next) (apart test c 47 h h47)) (ap (λ (z : Bool). z && is 42 next) (apart test c 47 h h47)) (apart test c 36 h h36) (apart test c 34 h h34) (apart test c 95 h h95)
    (none_at (λ d. d == c) (codes "()[]{},;.") (none_any test c h (codes "()[]{},;.") hs)) p

plain_word : (c : ℕ) → is_ascii_whitespace c ≡ false → is_ascii_digit c ≡ false → is_operator c ≡ false → is_xid_start c ≡ true → plain c ≡ class.Word
plain_word c s e p x = rw (s, e, p, x) refl

plain_digit : (c : ℕ) → is_ascii_whitespace c ≡ false → is_ascii_digit c ≡ true → plain c ≡ class.Digit
plain_digit c s e = rw (s, e) refl

plain_operator : (c : ℕ) → is_ascii_whitespace c ≡ false → is_ascii_digit c ≡ false → is_operator c ≡ true → plain c ≡ class.Operator
plain_operator c s e p = rw (s, e, p) refl

-- letters, in ASCII and above it
within : (lo hi c : ℕ) → is_in_range lo hi c ≡ true → (lo ≤ c) × (c ≤ hi)
within lo hi c h = let p = split (nat_le lo c) (nat_le c hi) h in (leb-true lo c p.0, leb-true c hi p.1)

outside : (lo hi c : ℕ) → (c < lo) ⊎ (hi < c) → is_in_range lo hi c ≡ false
outside lo hi c h = go (is_in_range lo hi c) refl h
  where
    go : (b : Bool) → is_in_range lo hi c ≡ b → (c < lo) ⊎ (hi < c) → b ≡ false
    go false e h = refl
    go true e (inl l) = let w = within lo hi c e in absurd (omega (arith, w.0, l))
    go true e (inr l) = let w = within lo hi c e in absurd (omega (arith, w.1, l))

no_white : (c : ℕ) → 32 < c → is_ascii_whitespace c ≡ false
no_white c l = rw (outside 9 10 c (inr (omega (arith, l))), outside 12 13 c (inr (omega (arith, l))), outside 32 32 c (inr l)) refl

letter_low : (c : ℕ) → is_ascii_alphabetic c ≡ true → 64 < c
letter_low c h = go (which (is_in_range 65 90 c) (is_in_range 97 122 c) h)
  where
    go : (is_in_range 65 90 c ≡ true) ⊎ (is_in_range 97 122 c ≡ true) → 64 < c
    go (inl e) = let w = within 65 90 c e in omega (arith, w.0)
    go (inr e) = let w = within 97 122 c e in omega (arith, w.0)

class_word : (c : ℕ) (next : Option ℕ) → is_xid_start c ≡ true → class_of c next ≡ class.Word
class_word c next x = go (order c 128)
  where
    go : (c < 128) ⊎ (128 ≤ c) → class_of c next ≡ class.Word
    go (inl l) =
        let h : is_ascii_alphabetic c ≡ true = sym (is_xid_start-ascii c l) ∙ x in
        let m = letter_low c h in
        class_plain is_ascii_alphabetic c next class.Word h refl refl refl refl refl
        (plain_word c (no_white c (omega (arith, m))) (outside 48 57 c (inr (omega (arith, m)))) (none_any is_ascii_alphabetic c h (codes "!#%&*+-/:<=>?@\\^|~") refl) x)
    go (inr g) =
        let h : nat_le 128 c ≡ true = le-leb 128 c g in
        class_plain (λ d. nat_le 128 d) c next class.Word h refl refl refl refl refl
        (plain_word c (no_white c (omega (arith, g))) (outside 48 57 c (inr (omega (arith, g)))) (none_any (λ d. nat_le 128 d) c h (codes "!#%&*+-/:<=>?@\\^|~") refl) x)

class_digit : (c : ℕ) (next : Option ℕ) → is_ascii_digit c ≡ true → class_of c next ≡ class.Digit
class_digit c next h =
    let w = within 48 57 c h in
    class_plain is_ascii_digit c next class.Digit h refl refl refl refl refl (plain_digit c (no_white c (omega (arith, w.0))) h)

-- each of the characters is so, and this is one of them
any_is : (good : ℕ → Bool) (c : ℕ) (xs : List ℕ) → list_all good xs ≡ true → list_any (λ d. d == c) xs ≡ true → good c ≡ true
any_is good c [] h k = absurd (true≢false (sym k))
any_is good c (d ∷ xs) h k = let s = split (good d) (list_all good xs) h in go s.0 (any_is good c xs s.1) (which (d == c) (list_any (λ d. d == c) xs) k)
  where
    go : good d ≡ true → (list_any (λ d. d == c) xs ≡ true → good c ≡ true) → ((d == c) ≡ true) ⊎ (list_any (λ d. d == c) xs ≡ true) → good c ≡ true
    go g i (inl e) = sym (ap good (eqb-true d c e)) ∙ g
    go g i (inr e) = i e

class_operator : (c : ℕ) (next : Option ℕ) → goes_on c next ≡ true → class_of c next ≡ class.Operator
class_operator c next h =
    let s = split (is_operator c) (not (comment_begins c next)) h in
    let high : nat_lt 32 c ≡ true = any_is (λ d. nat_lt 32 d) c (codes "!#%&*+-/:<=>?@\\^|~") refl s.0 in
    let e : not (is_ascii_digit c) ≡ true = any_is (λ d. not (is_ascii_digit d)) c (codes "!#%&*+-/:<=>?@\\^|~") refl s.0 in
    class_is c next
    ∙ nest_plain ((c == 47) && is 47 next) ((c == 47) && is 42 next) (c == 36) (c == 34) (c == 95) (holds is_xid_continue next) (single c) (is_ascii_whitespace c) (is_ascii_digit c) (is_operator c) (is_xid_start c) class.Operator
    (first_no (c == 47) (is 47 next) (is 42 next) s.1) (second_no (c == 47) (is 47 next) (is 42 next) s.1) (apart is_operator c 36 s.0 refl) (apart is_operator c 34 s.0 refl) (apart is_operator c 95 s.0 refl)
    (none_at (λ d. d == c) (codes "()[]{},;.") (none_any is_operator c s.0 (codes "()[]{},;.") refl))
    (plain_operator c (no_white c (ltb-true 32 c high)) (off (is_ascii_digit c) e) s.0)
  where
    off : (b : Bool) → not b ≡ true → b ≡ false
    off true h = absurd (true≢false (sym h))
    off false h = refl

    first_no : (b x y : Bool) → not (b && (x || y)) ≡ true → (b && x) ≡ false
    first_no false x y h = refl
    first_no true false y h = refl
    first_no true true y h = absurd (true≢false (sym h))

    second_no : (b x y : Bool) → not (b && (x || y)) ≡ true → (b && y) ≡ false
    second_no false x y h = refl
    second_no true x false h = refl
    second_no true false true h = absurd (true≢false (sym h))
    second_no true true true h = absurd (true≢false (sym h))

-- ---- the piece at the front, by its class

by_its_class : (c : ℕ) (a : List ℕ) (x : Class) (k : TokenKind) → class_of c (first a) ≡ x → by_class false x (c ∷ a) ≡ piece.Token k (suc (length a)) → One k (c ∷ a)
by_its_class c a x k e h = ap (λ (z : Class). Some (by_class false z (c ∷ a))) e ∙ ap (λ (z : Piece). Some z) h

word_class : (c : ℕ) (a : List ℕ) → is_word (c ∷ a) ≡ true → class_of c (first a) ≡ class.Word
word_class c a h = let s = split (is_xid_start c || ((c == 95) && is_more a)) (list_all is_xid_continue a) h in go (which (is_xid_start c) ((c == 95) && is_more a) s.0) s.1
  where
    goes : (a : List ℕ) → is_more a ≡ true → list_all is_xid_continue a ≡ true → holds is_xid_continue (first a) ≡ true
    goes [] n h = absurd (true≢false (sym n))
    goes (d ∷ b) n h = (split (is_xid_continue d) (list_all is_xid_continue b) h).0

    go : (is_xid_start c ≡ true) ⊎ (((c == 95) && is_more a) ≡ true) → list_all is_xid_continue a ≡ true → class_of c (first a) ≡ class.Word
    go (inl x) h = class_word c (first a) x
    go (inr x) h =
        let s = split (c == 95) (is_more a) x in
        ap (λ (z : ℕ). class_of z (first a)) (eqb-true c 95 s.0) ∙ ap (λ (z : Bool). if z then class.Word else class.Underscore) (goes a s.1 h)

word_len : (c : ℕ) (a : List ℕ) → is_word (c ∷ a) ≡ true → run is_xid_continue (c ∷ a) ≡ suc (length a)
word_len c a h = let s = split (is_xid_start c || ((c == 95) && is_more a)) (list_all is_xid_continue a) h in let i = len_of is_xid_continue a s.1 in omega (arith, i)

word_is : (c : ℕ) (a : List ℕ) (n : ℕ) (o : Option ℕ) → n ≡ suc (length a) → keyword (c ∷ a) ≡ o → by_keyword n (take n (c ∷ a)) (keyword (take n (c ∷ a))) ≡ by_keyword (suc (length a)) (c ∷ a) o
word_is c a n o e k =
    ap (λ (z : ℕ). by_keyword z (take z (c ∷ a)) (keyword (take z (c ∷ a)))) e
    ∙ ap (λ (z : List ℕ). by_keyword (suc (length a)) z (keyword z)) (take-length (c ∷ a))
    ∙ ap (λ (z : Option ℕ). by_keyword (suc (length a)) (c ∷ a) z) k

operators_is : (c : ℕ) (a : List ℕ) (n : ℕ) (o : Option ℕ) → n ≡ suc (length a) → mark (c ∷ a) ≡ o → by_mark n (take n (c ∷ a)) (mark (take n (c ∷ a))) ≡ by_mark (suc (length a)) (c ∷ a) o
operators_is c a n o e k =
    ap (λ (z : ℕ). by_mark z (take z (c ∷ a)) (mark (take z (c ∷ a)))) e
    ∙ ap (λ (z : List ℕ). by_mark (suc (length a)) z (mark z)) (take-length (c ∷ a))
    ∙ ap (λ (z : Option ℕ). by_mark (suc (length a)) (c ∷ a) z) k

word_back : (k : TokenKind) (c : ℕ) (a : List ℕ) (o : Option ℕ) → is_word (c ∷ a) ≡ true → keyword (c ∷ a) ≡ o → by_keyword (suc (length a)) (c ∷ a) o ≡ piece.Token k (suc (length a)) → One k (c ∷ a)
word_back k c a o h e p = by_its_class c a class.Word k (word_class c a h) (word_is c a (run is_xid_continue (c ∷ a)) o (word_len c a h) e ∙ p)

operators_back : (k : TokenKind) (c : ℕ) (a : List ℕ) (o : Option ℕ) → is_operators (c ∷ a) ≡ true → mark (c ∷ a) ≡ o → by_mark (suc (length a)) (c ∷ a) o ≡ piece.Token k (suc (length a)) → One k (c ∷ a)
operators_back k c a o h e p =
    let s = split (goes_on c (first a)) (all_go_on a) h in
    let i = len_go a s.1 in
    by_its_class c a class.Operator k (class_operator c (first a) s.0) (operators_is c a (1 + operator_len a) o (omega (arith, i)) e ∙ p)

id_piece : (n : ℕ) (w : List ℕ) → n ≤ 80 → by_keyword n w None ≡ piece.Token (kind.Id w) n
id_piece n w l = ap (λ (z : Bool). if z then piece.Fault fault.LongText n else piece.Token (kind.Id w) n) (below 80 n l)

gone : (a : List ℕ) → drop (length a) a ≡ []
gone [] = refl
gone (c ∷ a) = gone a

number_back : (v : Numeral) (c : ℕ) (a : List ℕ) → is_digits (c ∷ a) ≡ true → literal (encode_utf8_all (c ∷ a)) ≡ Ok v → One (kind.Number v) (c ∷ a)
number_back v c a h e =
    let s = split (is_ascii_digit c) (list_all is_xid_continue a) h in
    let i = len_of is_xid_continue a s.1 in
    by_its_class c a class.Digit (kind.Number v) (class_digit c (first a) s.0) (piece_is (run is_xid_continue (c ∷ a)) (omega (arith, i)))
  where
    piece_is : (n : ℕ) → n ≡ suc (length a) → (if fraction (drop n (c ∷ a)) then wrong_number (c ∷ a) else by_literal (c ∷ a) n (literal (encode_utf8_all (take n (c ∷ a))))) ≡ piece.Token (kind.Number v) (suc (length a))
    piece_is n m =
        ap (λ (z : ℕ). if fraction (drop z (c ∷ a)) then wrong_number (c ∷ a) else by_literal (c ∷ a) z (literal (encode_utf8_all (take z (c ∷ a))))) m
        ∙ ap (λ (z : List ℕ). if fraction z then wrong_number (c ∷ a) else by_literal (c ∷ a) (suc (length a)) (literal (encode_utf8_all (take (suc (length a)) (c ∷ a))))) (gone a)
        ∙ ap (λ (z : List ℕ). by_literal (c ∷ a) (suc (length a)) (literal (encode_utf8_all z))) (take-length (c ∷ a))
        ∙ ap (λ (z : Result Numeral NumFault). by_literal (c ∷ a) (suc (length a)) z) e

-- a text that ends with the literal doesn't begin with three quotes
three : (a : List ℕ) (v : List ℕ) → text_end a ≡ end.Closed v (length a) → (is 34 (first a) && is 34 (first (drop 1 a))) ≡ false
unfolding text_in
three [] v e = refl
three (c ∷ []) v e = none (is 34 (Some c))
  where
    none : (b : Bool) → (b && false) ≡ false
    none true = refl
    none false = refl
three (c ∷ d ∷ b) v e = go (c == 34) refl
  where
    closed : (x : ℕ) → x ≡ 34 → text_end (x ∷ d ∷ b) ≡ end.Closed [] 1
    closed x h = subst (λ (z : ℕ). text_end (z ∷ d ∷ b) ≡ end.Closed [] 1) (sym h) refl

    size_is : (n m : ℕ) (w : List ℕ) → end.Closed [] n ≡ end.Closed w m → n ≡ m
    size_is n m w h = cc

    go : (x : Bool) → (c == 34) ≡ x → ((c == 34) && is 34 (Some d)) ≡ false
    go false h = ap (λ (z : Bool). z && is 34 (Some d)) h
    go true h = let m : 1 ≡ suc (suc (length b)) = size_is 1 (suc (suc (length b))) v (sym (closed c (eqb-true c 34 h)) ∙ e) in absurd (omega (arith, m))

text_back : (v : List ℕ) (c : ℕ) (a : List ℕ) → IsQuoted v (c ∷ a) → length v ≤ 10000 → One (kind.Text v) (c ∷ a)
text_back v c a q l = by_its_class c a class.Quote (kind.Text v) (ap (λ (z : ℕ). class_of z (first a)) q.0) (
    ap (λ (z : Bool). if z then piece.Fault fault.BadChar 1 else by_end a (text_end a)) (three a v q.1)
    ∙ ap (by_end a) q.1
    ∙ ap (λ (z : Bool). if z then piece.Fault fault.LongText (1 + length a) else piece.Token (kind.Text v) (1 + length a)) (below 10000 (length v) l)
    ∙ ap (piece.Token (kind.Text v)) (one_more (length a)))
  where
    one_more : (n : ℕ) → 1 + n ≡ suc n
    one_more n = omega arith

single_back : (n : ℕ) (text : List ℕ) → IsSingle n text → One (kind.Mark n) text
single_back n [] s = absurd s
single_back n (c ∷ d ∷ a) s = absurd s
single_back n (c ∷ []) (inl s) = subst (λ (z : ℕ). One (kind.Mark z) (c ∷ [])) (sym s.1) (subst (λ (z : ℕ). One (kind.Mark 0) (z ∷ [])) (sym s.0) refl)
single_back n (c ∷ []) (inr s) =
    let i = s.0 in
    subst (λ (z : ℕ). One (kind.Mark z) (c ∷ [])) (sym s.2) (by_its_class c [] (class.Single (10 + i)) (kind.Mark (10 + i)) (single_class c i s.1) refl)
  where
    -- brackets and their like are no quotes, operators or `_`
    nest_single : (l b d q u w : Bool) (o : Option ℕ) (s e p x : Bool) (i : ℕ) → l ≡ false → b ≡ false → d ≡ false → q ≡ false → u ≡ false → o ≡ Some i → nest l b d q u w o s e p x ≡ class.Single (10 + i)
    nest_single l b d q u w o s e p x i hl hb hd hq hu ho = rw (hl, hb, hd, hq, hu, ho) refl

    clash : (d : ℕ) → single d ≡ None → (c : ℕ) (i : ℕ) → single c ≡ Some i → (c == d) ≡ false
    clash d n c i h = ne_eqb c d (λ e. some_none i (sym h ∙ ap single e ∙ n))
      where
        some_none : (i : ℕ) → Some i ≡ None → ⊥
        some_none i e = cc

    single_class : (c i : ℕ) → single c ≡ Some i → class_of c None ≡ class.Single (10 + i)
    single_class c i h =
        class_is c None
        ∙ nest_single ((c == 47) && is 47 None) ((c == 47) && is 42 None) (c == 36) (c == 34) (c == 95) (holds is_xid_continue None) (single c) (is_ascii_whitespace c) (is_ascii_digit c) (is_operator c) (is_xid_start c) i
        (ap (λ (z : Bool). z && false) (clash 47 refl c i h)) (ap (λ (z : Bool). z && false) (clash 47 refl c i h)) (clash 36 refl c i h) (clash 34 refl c i h) (clash 95 refl c i h) h

form_back : (k : TokenKind) (text : List ℕ) → IsForm k text → One k text
form_back (kind.Key i) [] h = absurd (true≢false (sym h.0))
form_back (kind.Key i) (c ∷ a) h = word_back (kind.Key i) c a (Some i) h.0 h.1 refl
form_back (kind.Id name) [] h = absurd (true≢false (sym h.1))
form_back (kind.Id name) (c ∷ a) h = subst (λ (z : List ℕ). One (kind.Id z) (c ∷ a)) (sym h.0) (word_back (kind.Id (c ∷ a)) c a None h.1 h.2 (id_piece (suc (length a)) (c ∷ a) h.3))
form_back (kind.Mark n) [] (inl h) = absurd (true≢false (sym h.0))
form_back (kind.Mark n) (c ∷ a) (inl h) = operators_back (kind.Mark n) c a (Some n) h.0 h.1 refl
form_back (kind.Mark n) text (inr s) = single_back n text s
form_back (kind.Op name) [] h = absurd (true≢false (sym h.1))
form_back (kind.Op name) (c ∷ a) h = subst (λ (z : List ℕ). One (kind.Op z) (c ∷ a)) (sym h.0) (operators_back (kind.Op (c ∷ a)) c a None h.1 h.2 refl)
form_back (kind.Number v) [] h = absurd (true≢false (sym h.0))
form_back (kind.Number v) (c ∷ a) h = number_back v c a h.0 h.1
form_back (kind.Text v) [] h = absurd h.0
form_back (kind.Text v) (c ∷ a) h = text_back v c a h.0 h.1
form_back kind.Newline text h = absurd h

pub form_is : (k : TokenKind) (text : List ℕ) → IsForm k text → IsOne k text
form_is k text h = one_is k text (form_back k text h)
