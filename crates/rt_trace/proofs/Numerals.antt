-- The digits that are read are those that are written.
use Rattle.std.proofs.Common.{◌≡◌, ◌≢◌, ◌∙◌, ℕ, zero, suc, ◌<◌, ◌≤◌, ◌^◌, Bool, true, false, not, ◌&&◌, cond, List, length, get_or, Some, None, refl, sym, ap, arith, rules}
use Rattle.std.specs.Prelude.{decimal, nat_lt, nat_le, ◌==◌}
use Rattle.std.specs.Str.{all_ascii_digits}
use Rattle.std.proofs.lemmas.Bool.{ltb-true, lt-ltb}
use Rattle.std.proofs.lemmas.Bool.Decides.{nat_tests}
use Rattle.std.proofs.lemmas.Fmt.{decimal-digits_value, digits_value-decimal, digits_decimal, first_decimal, decimal_nonempty, decimal_digit, length-decimal-le}
use Rattle.std.proofs.lemmas.Str.Parse.{IsNumeralModel, numerals_by_fold}
use Rattle.rt_trace.specs.Reading.{value_after, is_numeral, number_of}

own : IsNumeralModel (λ ds. all_ascii_digits ds ≡ true) (value_after 0)
own = numerals_by_fold _ (search rules) value_after (search rules)

pub and_left : (a b : Bool) → (a && b) ≡ true → a ≡ true
and_left true b h = refl
and_left false b h = h

pub and_right : (a b : Bool) → (a && b) ≡ true → b ≡ true
and_right true b h = h
and_right false b h = absurd (cc h)

given : (b : Bool) (v n : ℕ) → cond b (Some v) None ≡ Some n → (b ≡ true) × (v ≡ n)
given true v n h = (refl, cc h)
given false v n h = absurd (cc h)

-- what holds of a text that is a numeral
record IsNumeral (ds : List ℕ) : Type 0 where
  some : 0 < length ds
  few : length ds ≤ 10
  first : get_or ds 0 0 ≢ 48
  digits : all_ascii_digits ds ≡ true

from_test : (ds : List ℕ) → is_numeral ds ≡ true → IsNumeral ds
from_test ds h =
    let a = nat_lt 0 (length ds) in
    let b = nat_le (length ds) 10 in
    let c = not (get_or ds 0 0 == 48) in
    let d = all_ascii_digits ds in
    let ha : nat_lt 0 (length ds) ≡ true = and_left a b (and_left (a && b) c (and_left (a && b && c) d h)) in
    let hb : nat_le (length ds) 10 ≡ true = and_right a b (and_left (a && b) c (and_left (a && b && c) d h)) in
    let hc : not (get_or ds 0 0 == 48) ≡ true = and_right (a && b) c (and_left (a && b && c) d h) in
    record { some = grind (arith, nat_tests); few = grind (arith, nat_tests); first = grind (arith, nat_tests); digits = and_right (a && b && c) d h }

to_test : (ds : List ℕ) → IsNumeral ds → is_numeral ds ≡ true
to_test ds h =
    let some : 0 < length ds = h.some in
    let few : length ds ≤ 10 = h.few in
    let first : get_or ds 0 0 ≢ 48 = h.first in
    let ha : nat_lt 0 (length ds) ≡ true = grind (arith, nat_tests) in
    let hb : nat_le (length ds) 10 ≡ true = grind (arith, nat_tests) in
    let hc : not (get_or ds 0 0 == 48) ≡ true = grind (arith, nat_tests) in
    ap (λ a. a && nat_le (length ds) 10 && not (get_or ds 0 0 == 48) && all_ascii_digits ds) ha
    ∙ ap (λ b. b && not (get_or ds 0 0 == 48) && all_ascii_digits ds) hb
    ∙ ap (λ c. c && all_ascii_digits ds) hc ∙ h.digits

zero_starts : (ds : List ℕ) → decimal 0 ≡ ds → get_or ds 0 0 ≡ 48
zero_starts ds e = ap (λ xs. get_or xs 0 0) (sym e) ∙ ap (λ xs. get_or xs 0 0) (decimal_digit 0 (omega arith))

above_zero : (ds : List ℕ) → IsNumeral ds → (n : ℕ) → decimal n ≡ ds → 1 ≤ n
above_zero ds h zero e = absurd (h.first (zero_starts ds e))
above_zero ds h (suc n) e = omega arith

-- the digits of a number that was read are those that `decimal` writes
pub read_number : (ds : List ℕ) (n : ℕ) → number_of ds ≡ Some n → (decimal n ≡ ds) × (1 ≤ n) × (n < 2 ^ 32)
read_number ds n h =
    let parts = given (is_numeral ds && nat_lt (value_after 0 ds) (2 ^ 32)) (value_after 0 ds) n h in
    let numeral : IsNumeral ds = from_test ds (and_left (is_numeral ds) (nat_lt (value_after 0 ds) (2 ^ 32)) parts.0) in
    let below : value_after 0 ds < 2 ^ 32 = ltb-true _ _ (and_right (is_numeral ds) (nat_lt (value_after 0 ds) (2 ^ 32)) parts.0) in
    let is : value_after 0 ds ≡ n = parts.1 in
    let written : decimal (value_after 0 ds) ≡ ds =
    decimal-digits_value own ds numeral.digits numeral.some (λ e. absurd (numeral.first e)) (omega arith) in
    let same : decimal n ≡ ds = ap decimal (sym is) ∙ written in
    (same, above_zero ds numeral n same, omega arith)

-- and the other way round
pub written_number : (n : ℕ) → 1 ≤ n → n < 2 ^ 32 → number_of (decimal n) ≡ Some n
written_number n above below =
    let wide : n < 2 ^ 64 = omega arith in
    let starts : 48 < get_or (decimal n) 0 0 = first_decimal n (omega arith) wide in
    let numeral : is_numeral (decimal n) ≡ true = to_test (decimal n) (record {
      some = decimal_nonempty n wide;
      few = length-decimal-le 10 n (omega arith) (omega arith) wide;
      first = λ e. absurd (omega arith);
      digits = digits_decimal own n wide;
    }) in
    let value : value_after 0 (decimal n) ≡ n = digits_value-decimal own n wide in
    ap (λ b. cond (b && nat_lt (value_after 0 (decimal n)) (2 ^ 32)) (Some (value_after 0 (decimal n))) None) numeral
    ∙ ap (λ v. cond (nat_lt v (2 ^ 32)) (Some v) None) value
    ∙ ap (λ b. cond b (Some n) None) (lt-ltb n (2 ^ 32) below)

pub decimal_digits : (n : ℕ) → n < 2 ^ 32 → all_ascii_digits (decimal n) ≡ true
decimal_digits n below = digits_decimal own n (omega arith)
