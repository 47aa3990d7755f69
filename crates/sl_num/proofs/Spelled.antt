-- A text of a number's form is a beginning, digits and an end in one way, which `is_hex`, `is_long` and `digits` find.
use Rattle.std.proofs.Common.{◌≡◌, ℕ, suc, ◌+◌, ◌-◌, ◌<◌, ◌≤◌, Bool, true, false, not, ◌&&◌, ◌||◌, cond, eqb, List, [], ◌∷◌, ◌++◌, length, get_or, take, drop, inl, inr, arith, refl, sym, ◌∙◌, ap, ap₂, subst, lit<, lit≤, length-append}
use Rattle.std.specs.Prelude.{IsTrue}
use Rattle.std.specs.List.{list_all}
use Rattle.std.specs.Char.{is_digit}
use Rattle.std.proofs.lemmas.Bool.{and_parts, or_cases, and_left, and_right, eqb-true, ne_eqb, not-true, false≢true}
use Rattle.std.proofs.lemmas.List.{append-nil, get_or_push, length_push, get_or-append-add, take_at, drop_at, drop_all, take-take, take-append-drop, drop_more}
use Rattle.sl_num.specs.Literal.{is_hex, is_long, digits, radix, are_digits, is_numeral}
use Rattle.sl_num.specs.Spelling.{IsBeginning, IsEnd, IsSpelled}

-- ---- the digits

no_digit : (hex : Bool) (c : ℕ) → is_digit c (radix hex) ≡ true → (c ≡ 0 → ⊥) × (c ≡ 76 → ⊥) × (c ≡ 108 → ⊥)
no_digit true c h = ((λ e. let f = rw e at h in cc), (λ e. let f = rw e at h in cc), (λ e. let f = rw e at h in cc))
no_digit false c h = ((λ e. let f = rw e at h in cc), (λ e. let f = rw e at h in cc), (λ e. let f = rw e at h in cc))

-- a numeral's first byte and its last are digits, and a decimal one that begins with `0` ends there
numeral-parts : (hex : Bool) (ds : List ℕ) → IsTrue (is_numeral hex ds)
    → (is_digit (get_or ds 0 0) (radix hex) ≡ true) × (is_digit (get_or ds (length ds - 1) 0) (radix hex) ≡ true)
    × ((hex || (not (eqb (get_or ds 0 0) 48) || eqb (length ds) 1)) ≡ true)
numeral-parts hex ds h =
    let first : Bool = is_digit (get_or ds 0 0) (radix hex) in
    let final : Bool = is_digit (get_or ds (length ds - 1) 0) (radix hex) in
    let both = and_parts (are_digits (radix hex) ds) (hex || (not (eqb (get_or ds 0 0) 48) || eqb (length ds) 1)) h in
    let ends = and_parts (list_all (λ c. eqb c 95 || is_digit c (radix hex)) ds) (first && final) both.0 in
    let each = and_parts first final ends.1 in
    (each.0, each.1, both.1)

numeral-zero : (d e : ℕ) (ds : List ℕ) → IsTrue (is_numeral false (d ∷ e ∷ ds)) → eqb d 48 ≡ false
numeral-zero d e ds h =
    elim (or_cases (not (eqb d 48)) (eqb (length (d ∷ e ∷ ds)) 1) (numeral-parts false (d ∷ e ∷ ds) h).2) [
      | inl p ↦ not-true (eqb d 48) p
      | inr p ↦ let q : suc (suc (length ds)) ≡ 1 = eqb-true (length (d ∷ e ∷ ds)) 1 p in absurd (omega arith)
    ]

numeral-some : (hex : Bool) (ds : List ℕ) → IsTrue (is_numeral hex ds) → 0 < length ds
numeral-some hex [] h = absurd ((no_digit hex 0 (numeral-parts hex [] h).0).0 refl)
numeral-some hex (d ∷ ds) h = omega arith

-- ---- the end

end-length : (long : Bool) (after : List ℕ) → IsEnd long after → length after ≡ cond long 1 0
end-length false after e = ap length e
end-length true after (inl e) = ap length e
end-length true after (inr e) = ap length e

last_of : (xs : List ℕ) (y : ℕ) → get_or (xs ++ y ∷ []) (length (xs ++ y ∷ []) - 1) 0 ≡ y
last_of xs y = get_or_push xs y 0 (length (xs ++ y ∷ []) - 1) (omega (arith, length_push xs y))

not_end : (v : ℕ) → (v ≡ 76 → ⊥) → (v ≡ 108 → ⊥) → (eqb v 76 || eqb v 108) ≡ false
not_end v p q = simp (ne_eqb v 76 p, ne_eqb v 108 q)

unended : (hex : Bool) (before ds : List ℕ) → IsTrue (is_numeral hex ds) → is_long (before ++ ds) ≡ false
unended hex before ds num =
    let index : length (before ++ ds) - 1 ≡ length before + (length ds - 1) =
    omega (arith, length-append before ds, numeral-some hex ds num) in
    let at : get_or (before ++ ds) (length (before ++ ds) - 1) 0 ≡ get_or ds (length ds - 1) 0 =
    ap (λ i. get_or (before ++ ds) i 0) index ∙ get_or-append-add before ds (length ds - 1) 0 in
    let no = no_digit hex (get_or ds (length ds - 1) 0) (numeral-parts hex ds num).1 in
    ap (λ v. eqb v 76 || eqb v 108) at ∙ not_end (get_or ds (length ds - 1) 0) no.1 no.2

long_of : (hex long : Bool) (before ds after : List ℕ) → IsTrue (is_numeral hex ds) → IsEnd long after
    → is_long (before ++ ds ++ after) ≡ long
long_of hex true before ds after num (inl e) =
    ap (λ a. is_long (before ++ ds ++ a)) e ∙ ap (λ v. eqb v 76 || eqb v 108) (last_of (before ++ ds) 76)
long_of hex true before ds after num (inr e) =
    ap (λ a. is_long (before ++ ds ++ a)) e ∙ ap (λ v. eqb v 76 || eqb v 108) (last_of (before ++ ds) 108)
long_of hex false before ds after num e =
    ap (λ a. is_long (before ++ ds ++ a)) e ∙ ap is_long (append-nil (before ++ ds)) ∙ unended hex before ds num

-- ---- the beginning

begin-length : (hex : Bool) (before : List ℕ) → IsBeginning hex before → length before ≡ cond hex 2 0
begin-length false before e = ap length e
begin-length true before (inl e) = ap length e
begin-length true before (inr e) = ap length e

no_x : (long : Bool) (after : List ℕ) → IsEnd long after → (eqb (get_or after 0 0) 120 || eqb (get_or after 0 0) 88) ≡ false
no_x false after e = ap (λ a. eqb (get_or a 0 0) 120 || eqb (get_or a 0 0) 88) e
no_x true after (inl e) = ap (λ a. eqb (get_or a 0 0) 120 || eqb (get_or a 0 0) 88) e
no_x true after (inr e) = ap (λ a. eqb (get_or a 0 0) 120 || eqb (get_or a 0 0) 88) e

decimal : (long : Bool) (ds after : List ℕ) → IsTrue (is_numeral false ds) → IsEnd long after → is_hex (ds ++ after) ≡ false
decimal long [] after num fin = absurd ((no_digit false 0 (numeral-parts false [] num).0).0 refl)
decimal long (d ∷ []) after num fin =
    and_right (eqb d 48) (eqb (get_or after 0 0) 120 || eqb (get_or after 0 0) 88) (no_x long after fin)
decimal long (d ∷ e ∷ ds) after num fin = and_left (eqb d 48) (eqb e 120 || eqb e 88) (numeral-zero d e ds num)

hex_of : (hex long : Bool) (before ds after : List ℕ) → IsTrue (is_numeral hex ds) → IsBeginning hex before → IsEnd long after
    → is_hex (before ++ ds ++ after) ≡ hex
hex_of true long before ds after num (inl e) fin = ap (λ b. is_hex (b ++ ds ++ after)) e
hex_of true long before ds after num (inr e) fin = ap (λ b. is_hex (b ++ ds ++ after)) e
hex_of false long before ds after num e fin = ap (λ b. is_hex (b ++ ds ++ after)) e ∙ decimal long ds after num fin

-- ---- one way only

digits_of : (hex long : Bool) (before ds after : List ℕ) → IsBeginning hex before → IsEnd long after
    → drop (cond hex 2 0) (take (length (before ++ ds ++ after) - cond long 1 0) (before ++ ds ++ after)) ≡ ds
digits_of hex long before ds after start fin =
    let n : length (before ++ ds) ≡ length (before ++ ds ++ after) - cond long 1 0 =
    omega (arith, length-append (before ++ ds) after, end-length long after fin) in
    ap (drop (cond hex 2 0)) (take_at (before ++ ds) after (length (before ++ ds ++ after) - cond long 1 0) n)
    ∙ drop_at before ds (cond hex 2 0) (begin-length hex before start)

pub only : (text ds : List ℕ) (hex long : Bool) → IsTrue (is_numeral hex ds) → IsSpelled text hex long ds
    → (is_hex text ≡ hex) × (is_long text ≡ long) × (digits text ≡ ds)
only text ds hex long num s =
    let h : is_hex text ≡ hex = ap is_hex s.whole ∙ hex_of hex long s.before ds s.after num s.begins s.ends in
    let l : is_long text ≡ long = ap is_long s.whole ∙ long_of hex long s.before ds s.after num s.ends in (
      h,
      l,
      ap₂ (λ a b. drop (cond a 2 0) (take (length text - cond b 1 0) text)) h l
          ∙ ap (λ t. drop (cond hex 2 0) (take (length t - cond long 1 0) t)) s.whole
          ∙ digits_of hex long s.before ds s.after s.begins s.ends,
    )

-- ---- some way

filled : (text : List ℕ) (v : ℕ) → get_or text (length text - 1) 0 ≡ v → 0 < v → 0 < length text
filled [] v is some = omega arith
filled (x ∷ xs) v is some = omega arith

tail_of : (text : List ℕ) (v : ℕ) → get_or text (length text - 1) 0 ≡ v → 0 < v → drop (length text - 1) text ≡ v ∷ []
tail_of text v is some =
    let here : length text - 1 < length text = omega (arith, filled text v is some) in
    drop_more text (length text - 1) 0 here
    ∙ ap₂ (λ x xs. x ∷ xs) is (drop_all (length text - 1 + 1) text (omega arith))

ends_of : (long : Bool) (text : List ℕ) → is_long text ≡ long → IsEnd long (drop (length text - cond long 1 0) text)
ends_of false text e = drop_all (length text - 0) text (omega arith)
ends_of true text e =
    let v : ℕ = get_or text (length text - 1) 0 in
    elim (or_cases (eqb v 76) (eqb v 108) e) [
      | inl p ↦ inl (tail_of text 76 (eqb-true v 76 p) (lit< tt))
      | inr p ↦ inr (tail_of text 108 (eqb-true v 108 p) (lit< tt))
    ]

begins_of_hex : (n : ℕ) (text : List ℕ) → is_hex text ≡ true → 2 ≤ n → IsBeginning true (take 2 (take n text))
begins_of_hex n [] e le = absurd (false≢true e)
begins_of_hex n (a ∷ []) e le = absurd (false≢true (and_parts (eqb a 48) false e).1)
begins_of_hex n (a ∷ b ∷ rest) e le =
    let parts = and_parts (eqb a 48) (eqb b 120 || eqb b 88) e in
    elim (or_cases (eqb b 120) (eqb b 88) parts.1) [
      | inl p ↦ inl (take-take 2 n (a ∷ b ∷ rest) le ∙ ap₂ (λ x y. x ∷ y ∷ []) (eqb-true a 48 parts.0) (eqb-true b 120 p))
      | inr p ↦ inr (take-take 2 n (a ∷ b ∷ rest) le ∙ ap₂ (λ x y. x ∷ y ∷ []) (eqb-true a 48 parts.0) (eqb-true b 88 p))
    ]

short : (a b : ℕ) → is_hex (a ∷ b ∷ []) ≡ true → is_long (a ∷ b ∷ []) ≡ false
short a b e =
    elim (or_cases (eqb b 120) (eqb b 88) (and_parts (eqb a 48) (eqb b 120 || eqb b 88) e).1) [
      | inl p ↦ ap (λ v. eqb v 76 || eqb v 108) (eqb-true b 120 p)
      | inr p ↦ ap (λ v. eqb v 76 || eqb v 108) (eqb-true b 88 p)
    ]

at_most_one : (b : Bool) → cond b 1 0 ≤ 1
at_most_one true = lit≤ tt
at_most_one false = lit≤ tt

room : (text : List ℕ) → is_hex text ≡ true → 2 ≤ length text - cond (is_long text) 1 0
room [] e = absurd (false≢true e)
room (a ∷ []) e = absurd (false≢true (and_parts (eqb a 48) false e).1)
room (a ∷ b ∷ []) e = subst (λ l. 2 ≤ 2 - cond l 1 0) (sym (short a b e)) (lit≤ tt)
room (a ∷ b ∷ c ∷ rest) e = omega (arith, at_most_one (is_long (a ∷ b ∷ c ∷ rest)))

begins_of : (hex : Bool) (text : List ℕ) → is_hex text ≡ hex
    → IsBeginning hex (take (cond hex 2 0) (take (length text - cond (is_long text) 1 0) text))
begins_of false text e = refl
begins_of true text e = begins_of_hex (length text - cond (is_long text) 1 0) text e (room text e)

pub some : (text : List ℕ) → IsSpelled text (is_hex text) (is_long text) (digits text)
some text =
    let k : ℕ = length text - cond (is_long text) 1 0 in
    record {
      before = take (cond (is_hex text) 2 0) (take k text);
      after = drop k text;
      begins = begins_of (is_hex text) text refl;
      ends = ends_of (is_long text) text refl;
      whole = sym (ap (λ b. b ++ drop k text) (take-append-drop (cond (is_hex text) 2 0) (take k text)) ∙ take-append-drop k text);
    }
