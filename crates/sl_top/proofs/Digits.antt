-- The literal at the front of bytes is what its digits write.
use Rattle.std.proofs.Common.{◌≡◌, ℕ, zero, suc, ◌+◌, ◌*◌, ◌^◌, ◌<◌, ◌≤◌, List, [], ◌∷◌, ◌++◌, length, get_or, take, refl, sym, ap, subst, ◌∙◌, append_assoc, arith, decimal}
use Rattle.std.specs.Char.{digit_value, IsAsciiDigit}
use Rattle.std.specs.Str.Parse.{AllDigits, digits_value}
use Rattle.std.proofs.lemmas.Fmt.{digits_decimal, digits_value-decimal, decimal-digits_value, decimal_nonempty, first_decimal, decimal_digit}
use Rattle.std.proofs.lemmas.Str.Parse.{IsNumeralModel, numerals_by_value, tells_digits, digit_from_value, digits_value-take-le}
use Rattle.std.proofs.lemmas.Int.Digits.{digits_push, digits_value_push}
use Rattle.std.proofs.lemmas.List.{take_at}
use Rattle.sl_top.specs.Reading.{NoDigit, HasDigits, SpellsLiteral, IsRead, NoneRead}

pub own : IsNumeralModel (AllDigits 10) (digits_value 10)
own = numerals_by_value (AllDigits 10) tells_digits

pub value_of_digit : (d : ℕ) → d < 10 → digit_value (48 + d) ≡ d
value_of_digit d h = grind (arith)

-- one digit more
pub digits_go_on : (bytes : List ℕ) (n : ℕ) (rest : List ℕ) (d : ℕ) (after : List ℕ) → HasDigits bytes n rest → d < 10 → rest ≡ (48 + d) ∷ after → HasDigits bytes (10 * n + d) after
digits_go_on bytes n rest d after h low e =
    let v = value_of_digit d low in
    (h.0 ++ ((48 + d) ∷ []), digits_push 10 h.0 (48 + d) h.1 (omega (arith, v)), h.2 ∙ ap (λ (r : List ℕ). h.0 ++ r) e ∙ sym (append_assoc h.0 ((48 + d) ∷ []) after), digits_value_push 10 h.0 (48 + d) ∙ omega (arith, v, h.3))

digit_first : (ds rest : List ℕ) → AllDigits 10 ds → 0 < length ds → IsAsciiDigit (get_or (ds ++ rest) 0 0)
digit_first [] rest h some = absurd (omega arith)
digit_first (d ∷ ds) rest h some = digit_from_value d h.0

-- two runs of digits at one front, each up to its end
same_digits : (ds es r s : List ℕ) → AllDigits 10 ds → AllDigits 10 es → NoDigit r → NoDigit s → ds ++ r ≡ es ++ s → (ds ≡ es) × (r ≡ s)
same_digits [] [] r s hd he nr ns e = (refl, e)
same_digits [] (x ∷ es) r s hd he nr ns e = absurd (nr (subst IsAsciiDigit (sym (ap (λ (b : List ℕ). get_or b 0 0) e)) (digit_from_value x he.0)))
same_digits (d ∷ ds) [] r s hd he nr ns e = absurd (ns (subst IsAsciiDigit (ap (λ (b : List ℕ). get_or b 0 0) e) (digit_from_value d hd.0)))
same_digits (d ∷ ds) (x ∷ es) r s hd he nr ns e =
    let t : ds ++ r ≡ es ++ s = cc in
    let h : d ≡ x = cc in
    let i = same_digits ds es r s hd.1 he.1 nr ns t in
    (ap (λ (y : ℕ). y ∷ ds) h ∙ ap (λ (ys : List ℕ). x ∷ ys) i.0, i.1)

-- digits at the front begin any run of digits there that is up to its end
begins_digits : (ds es r s : List ℕ) → AllDigits 10 ds → NoDigit s → ds ++ r ≡ es ++ s → (more : List ℕ) × (es ≡ ds ++ more)
begins_digits [] es r s hd ns e = (es, refl)
begins_digits (d ∷ ds) [] r s hd ns e = absurd (ns (subst IsAsciiDigit (ap (λ (b : List ℕ). get_or b 0 0) e) (digit_from_value d hd.0)))
begins_digits (d ∷ ds) (x ∷ es) r s hd ns e =
    let t : ds ++ r ≡ es ++ s = cc in
    let h : d ≡ x = cc in
    let i = begins_digits ds es r s hd.1 ns t in
    (i.0, ap (λ (y : ℕ). y ∷ es) (sym h) ∙ ap (λ (ys : List ℕ). d ∷ ys) i.1)

front_first : (ds rest : List ℕ) → 0 < length ds → get_or ds 0 0 ≡ get_or (ds ++ rest) 0 0
front_first [] rest some = absurd (omega arith)
front_first (d ∷ ds) rest some = refl

-- no digit at the front
pub none_without_digit : (bytes : List ℕ) → NoDigit bytes → NoneRead SpellsLiteral bytes
none_without_digit bytes ended n rest h =
    ended (subst (λ (b : List ℕ). IsAsciiDigit (get_or b 0 0)) (sym h.1) (digit_first (decimal n) rest (digits_decimal own n (omega (arith, h.0))) (decimal_nonempty n (omega (arith, h.0)))))

-- a zero that leads
pub none_after_zero : (bytes others : List ℕ) → bytes ≡ 48 ∷ others → (NoDigit others → ⊥) → NoneRead SpellsLiteral bytes
none_after_zero bytes others e goes_on zero rest h =
    let one : 48 ∷ others ≡ 48 ∷ rest = sym e ∙ h.1 ∙ ap (λ (x : List ℕ). x ++ rest) (decimal_digit 0 (omega arith)) in
    let same : others ≡ rest = cc in
    goes_on (subst NoDigit (sym same) h.2)
none_after_zero bytes others e goes_on (suc n) rest h =
    let small : suc n < 2 ^ 64 = omega (arith, h.0) in
    let some = decimal_nonempty (suc n) small in
    let first : get_or (decimal (suc n) ++ rest) 0 0 ≡ 48 = ap (λ (b : List ℕ). get_or b 0 0) (sym h.1 ∙ e) in
    absurd (omega (arith, first_decimal (suc n) (omega arith) small, front_first (decimal (suc n)) rest some ∙ first))

-- digits that write too much
pub none_too_great : (bytes : List ℕ) (m : ℕ) (after : List ℕ) → HasDigits bytes m after → 2 ^ 31 ≤ m → NoneRead SpellsLiteral bytes
none_too_great bytes m after d great n rest h =
    let small : n < 2 ^ 64 = omega (arith, h.0) in
    let b = begins_digits d.0 (decimal n) after rest d.1 h.2 (sym d.2 ∙ h.1) in
    let front : take (length d.0) (decimal n) ≡ d.0 = ap (take (length d.0)) b.1 ∙ take_at d.0 b.0 (length d.0) refl in
    let less : digits_value 10 (take (length d.0) (decimal n)) ≤ digits_value 10 (decimal n) = digits_value-take-le 10 (decimal n) (length d.0) (omega arith) in
    let value : digits_value 10 (decimal n) ≡ n = digits_value-decimal own n small in
    let most : digits_value 10 d.0 ≤ n = subst (λ (x : List ℕ). digits_value 10 x ≤ n) front (subst (λ (x : ℕ). digits_value 10 (take (length d.0) (decimal n)) ≤ x) value less) in
    absurd (omega (arith, most, d.3, great, h.0))

-- the digits are in decimal
literal_text : (ds : List ℕ) (first : ℕ) (others : List ℕ) (n : ℕ) (rest : List ℕ) → ds ++ rest ≡ (48 + first) ∷ others → first < 10 → ((first ≡ 0) × (NoDigit others → ⊥) → ⊥) → AllDigits 10 ds → digits_value 10 ds ≡ n → n < 2 ^ 31 → NoDigit rest → decimal n ≡ ds
literal_text [] first others n rest e low alone digits value small ended = absurd (ended (subst (λ (b : List ℕ). IsAsciiDigit (get_or b 0 0)) (sym e) (omega arith, omega arith)))
literal_text (d ∷ []) first others n rest e low alone digits value small ended =
    ap decimal (sym value) ∙ decimal-digits_value own (d ∷ []) digits (omega arith) (λ _. refl) (omega (arith, value))
literal_text (d ∷ c ∷ ds) first others n rest e low alone digits value small ended =
    let head : d ≡ 48 + first = ap (λ (b : List ℕ). get_or b 0 0) e in
    let tail : c ∷ (ds ++ rest) ≡ others = cc in
    ap decimal (sym value) ∙ decimal-digits_value own (d ∷ c ∷ ds) digits (omega arith) (λ z. absurd (alone (omega arith, λ ended_here. ended_here (subst (λ (b : List ℕ). IsAsciiDigit (get_or b 0 0)) tail (digit_from_value c digits.1.0))))) (omega (arith, value))

-- all the digits, and no zero that leads
pub literal_read : (bytes : List ℕ) (first : ℕ) (others : List ℕ) (n : ℕ) (rest : List ℕ) → bytes ≡ (48 + first) ∷ others → first < 10 → ((first ≡ 0) × (NoDigit others → ⊥) → ⊥) → HasDigits bytes n rest → n < 2 ^ 31 → NoDigit rest → IsRead SpellsLiteral bytes n rest
literal_read bytes first others n rest e low alone d small ended =
    let text : decimal n ≡ d.0 = literal_text d.0 first others n rest (sym d.2 ∙ e) low alone d.1 d.3 small ended in
    record {
      is = (small, d.2 ∙ ap (λ (x : List ℕ). x ++ rest) (sym text), ended);
      only = λ m after h.
          let s = same_digits (decimal m) d.0 after rest (digits_decimal own m (omega (arith, h.0))) d.1 h.2 ended (sym h.1 ∙ d.2) in
          (sym (digits_value-decimal own m (omega (arith, h.0))) ∙ ap (digits_value 10) s.0 ∙ d.3, s.1);
    }
