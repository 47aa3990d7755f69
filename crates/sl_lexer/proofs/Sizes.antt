-- Each piece has a character, and no more than there are.
use Rattle.std.proofs.Common.{◌≡◌, ℕ, zero, suc, ◌+◌, ◌-◌, ◌<◌, ◌≤◌, Bool, true, false, cond, List, [], ◌∷◌, length, drop, take, Option, Some, None, Result, Ok, Err, refl, subst, arith, length-drop, encode_utf8_all}
use Rattle.std.specs.Prelude.{◌==◌, ◌&&◌, ◌||◌, not, nat_lt, if◌then◌else◌}
use Rattle.std.specs.Option.{option_map}
use Rattle.std.specs.List.{prefix_len}
use Rattle.sl_num.specs.Literal.{literal}
use Rattle.sl_num.specs.declared.number.Numeral.{Numeral}
use Rattle.sl_num.specs.declared.number.NumFault.{NumFault}
use Rattle.std.specs.Char.{is_ascii_whitespace}
use Rattle.unicode_ident.specs.Ident.{is_xid_continue}
use Rattle.sl_lexer.specs.Characters.{first, is, ends_line, goes_on, operator_len}
use Rattle.sl_lexer.specs.Comment.{comment_end, comment_len}
use Rattle.sl_lexer.specs.TextLiteral.{part_of, with_char, by_part, text_in, text_end}
use Rattle.sl_lexer.specs.Class.{class_of}
use Rattle.sl_lexer.specs.Piece.{keyword, mark, run, by_keyword, by_mark, fraction, in_number, wrong_number, by_literal, by_end, by_comment, by_class, piece_at}
use Rattle.sl_lexer.specs.declared.texts.Part.{Part}
use Rattle.sl_lexer.specs.declared.texts.Part.TheVariants as p
use Rattle.sl_lexer.specs.declared.texts.TextEnd.{TextEnd}
use Rattle.sl_lexer.specs.declared.texts.TextEnd.TheVariants as e
use Rattle.sl_lexer.specs.declared.class.Class.{Class}
use Rattle.sl_lexer.specs.declared.class.Class.TheVariants as k
use Rattle.sl_lexer.specs.declared.piece.Piece.{Piece}
use Rattle.sl_lexer.specs.declared.piece.Piece.TheVariants as piece
use Rattle.sl_lexer.specs.declared.fault.LexKind.TheVariants as f
use Rattle.sl_ast.specs.declared.token.TokenKind.TheVariants as t
use Rattle.sl_lexer.specs.Reading.{IsWithin}
use Rattle.sl_lexer.proofs.Parts.{part_size, close_size}

prefix_le : (q : ℕ → Bool) (a : List ℕ) → prefix_len q a ≤ length a
prefix_le q [] = omega arith
prefix_le q (c ∷ a) = go (q c) (prefix_le q a)
  where
    go : (b : Bool) → prefix_len q a ≤ length a → cond b (1 + prefix_len q a) 0 ≤ suc (length a)
    go true h = omega (arith, h)
    go false h = omega arith

operator_le : (a : List ℕ) → operator_len a ≤ length a
operator_le [] = omega arith
operator_le (c ∷ a) = go (goes_on c (first a)) (operator_le a)
  where
    go : (b : Bool) → operator_len a ≤ length a → cond b (1 + operator_len a) 0 ≤ suc (length a)
    go true h = omega (arith, h)
    go false h = omega arith

run_within : (q : ℕ → Bool) (c : ℕ) (a : List ℕ) → (0 < run q (c ∷ a)) × (run q (c ∷ a) ≤ suc (length a))
run_within q c a = let h = prefix_le q a in (omega arith, omega (arith, h))

closed_in : (m : ℕ) (a v : List ℕ) (n : ℕ) → text_in m a ≡ e.Closed v n → n ≤ length a
unfolding text_in
closed_in zero a v n h = absurd cc
closed_in (suc m) a v n h = go (part_of a) refl (λ b w k l. closed_in m b w k l) h
  where
    with : (c j : ℕ) (x : TextEnd) → part_of a ≡ p.Char c j → ((w : List ℕ) (k : ℕ) → x ≡ e.Closed w k → k ≤ length (drop j a)) → with_char c j x ≡ e.Closed v n → n ≤ length a
    with c j (e.Closed w k) i ih h =
        let s = part_size a c j i in
        let l = ih w k refl in
        let q : j + k ≡ n = cc in
        omega (arith, s, l, q, length-drop j a)
    with c j e.Wrong i ih h = absurd cc
    with c j e.Open i ih h = absurd cc

    go : (q : Part) → part_of a ≡ q → ((b w : List ℕ) (k : ℕ) → text_in m b ≡ e.Closed w k → k ≤ length b) → by_part (λ k. text_in m (drop k a)) q ≡ e.Closed v n → n ≤ length a
    go (p.Char c j) i ih h = with c j (text_in m (drop j a)) i (ih (drop j a)) h
    go p.Close i ih h = let s = close_size a i in let q : 1 ≡ n = cc in omega (arith, s, q)
    go p.Wrong i ih h = absurd cc
    go p.End i ih h = absurd cc

choose : (b : Bool) (x y : Piece) (l : ℕ) → IsWithin x l → IsWithin y l → IsWithin (if b then x else y) l
choose true x y l h k = h
choose false x y l h k = k

text_within : (a : List ℕ) (x : TextEnd) → ((v : List ℕ) (n : ℕ) → x ≡ e.Closed v n → n ≤ length a) → IsWithin (by_end a x) (suc (length a))
text_within a (e.Closed v n) h =
    let l = h v n refl in
    choose (nat_lt 10000 (length v)) (piece.Fault f.LongText (1 + n)) (piece.Token (t.Text v) (1 + n)) (suc (length a)) (omega arith, omega (arith, l)) (omega arith, omega (arith, l))
text_within a e.Wrong h = let l = prefix_le (λ c. not ((c == 34) || ends_line c)) a in (omega arith, omega (arith, l))
text_within a e.Open h = let l = prefix_le (λ c. not (ends_line c)) a in (omega arith, omega (arith, l))

quote_within : (b : Bool) (a : List ℕ) → IsWithin (if b then piece.Fault f.BadChar 1 else by_end a (text_end a)) (suc (length a))
quote_within true a = (omega arith, omega arith)
quote_within false a = text_within a (text_end a) (λ v n h. closed_in (suc (length a)) a v n h)

word_within : (n : ℕ) (w : List ℕ) (o : Option ℕ) (l : ℕ) → (0 < n) × (n ≤ l) → IsWithin (by_keyword n w o) l
word_within n w (Some i) l h = h
word_within n w None l h = choose (nat_lt 80 n) (piece.Fault f.LongText n) (piece.Token (t.Id w) n) l h h

mark_within : (n : ℕ) (w : List ℕ) (o : Option ℕ) (l : ℕ) → (0 < n) × (n ≤ l) → IsWithin (by_mark n w o) l
mark_within n w (Some i) l h = h
mark_within n w None l h = h

number_within : (b : Bool) (c : ℕ) (a : List ℕ) (n : ℕ) (r : Result Numeral NumFault) → (0 < n) × (n ≤ suc (length a)) → IsWithin (if b then wrong_number (c ∷ a) else by_literal (c ∷ a) n r) (suc (length a))
number_within true c a n r h = run_within in_number c a
number_within false c a n (Ok v) h = h
number_within false c a n (Err f) h = run_within in_number c a

comment_within : (c : ℕ) (a : List ℕ) → IsWithin (by_comment (c ∷ a) (comment_len (drop 1 a))) (suc (length a))
unfolding comment_end
comment_within c [] = (omega arith, omega arith)
comment_within c (d ∷ b) = go (comment_end 0 b)
  where
    go : (o : Option (List ℕ)) → IsWithin (by_comment (c ∷ d ∷ b) (option_map (λ r. length b - length r) o)) (suc (suc (length b)))
    go None = (omega arith, omega arith)
    go (Some r) = (omega arith, omega arith)

class_within : (low : Bool) (x : Class) (c : ℕ) (a : List ℕ) → IsWithin (by_class low x (c ∷ a)) (suc (length a))
class_within low k.White c a = run_within is_ascii_whitespace c a
class_within low k.LineComment c a = run_within (λ c. not (c == 10)) c a
class_within low k.BlockComment c a = comment_within c a
class_within low k.Dollar c a = (omega arith, omega arith)
class_within low k.Quote c a = quote_within (is 34 (first a) && is 34 (first (drop 1 a))) a
class_within low k.Digit c a = let n = run is_xid_continue (c ∷ a) in number_within (fraction (drop n (c ∷ a))) c a n (literal (encode_utf8_all (take n (c ∷ a)))) (run_within is_xid_continue c a)
class_within low k.Word c a = let n = run is_xid_continue (c ∷ a) in word_within n (take n (c ∷ a)) (keyword (take n (c ∷ a))) (suc (length a)) (run_within is_xid_continue c a)
class_within low k.Underscore c a = (omega arith, omega arith)
class_within true k.Operator c a = (omega arith, omega arith)
class_within false k.Operator c a = let l = operator_le a in let n = 1 + operator_len a in mark_within n (take n (c ∷ a)) (mark (take n (c ∷ a))) (suc (length a)) (omega arith, omega (arith, l))
class_within low (k.Single number) c a = (omega arith, omega arith)
class_within low k.Other c a = (omega arith, omega arith)

pub piece_within : (low : Bool) (a : List ℕ) (x : Piece) → piece_at low a ≡ Some x → IsWithin x (length a)
piece_within low [] x h = absurd cc
piece_within low (c ∷ a) x h =
    let i : by_class low (class_of c (first a)) (c ∷ a) ≡ x = some_is _ _ h in
    subst (λ z. IsWithin z (suc (length a))) i (class_within low (class_of c (first a)) c a)
  where
    some_is : (x y : Piece) → Some x ≡ Some y → x ≡ y
    some_is x y e = cc
