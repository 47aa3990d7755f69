-- The number that digits write after those that are read.
use Rattle.std.proofs.Common.{◌≡◌, ℕ, ◌+◌, ◌*◌, ◌<◌, ◌≤◌, false, not, eqb, List, [], ◌∷◌, length, drop, get_or, add-one, ap, arith}
use Rattle.std.proofs.Math.Seq.{drop-cons}
use Rattle.std.proofs.Math.Nat.{le_refl, le-mul_of_pos_right}
use Rattle.std.specs.List.{filter}
use Rattle.std.specs.Char.{digit_value}
use Rattle.std.specs.Str.Parse.{digits_value_after}

-- the number that digits write after those of n, without the underscores
abbrev pub number_after : ℕ → ℕ → List ℕ → ℕ
number_after base n ds = digits_value_after base n (filter (λ c. not (eqb c 95)) ds)

after-ge : (base n : ℕ) (ds : List ℕ) → 0 < base → n ≤ digits_value_after base n ds
after-ge base n [] some = le_refl n
after-ge base n (d ∷ ds) some =
    omega (arith, le-mul_of_pos_right n some, after-ge base (n * base + digit_value d) ds some)

-- one more digit
pub number_after-drop : (base n : ℕ) (ds : List ℕ) (i : ℕ) → i < length ds → eqb (get_or ds i 0) 95 ≡ false
    → number_after base n (drop i ds) ≡ number_after base (n * base + digit_value (get_or ds i 0)) (drop (i + 1) ds)
number_after-drop base n ds i here digit = rw (add-one, drop-cons ds i 0 here) (simp digit)

below : (a b c d : ℕ) → a < b → b ≡ c → c ≤ d → a < d
below a b c d lt is le = omega arith

-- no digit that follows makes the number less
pub above : (base n most total d : ℕ) (ds : List ℕ) (i : ℕ) → 0 < base → i < length ds → eqb (get_or ds i 0) 95 ≡ false
    → d ≡ digit_value (get_or ds i 0) → number_after base n (drop i ds) ≡ total → most < n * base + d → most < total
above base n most total d ds i some here digit worth is more =
    let next : n * base + digit_value (get_or ds i 0) ≤ total =
    omega (arith, number_after-drop base n ds i here digit, after-ge base (n * base + digit_value (get_or ds i 0)) (filter (λ c. not (eqb c 95)) (drop (i + 1) ds)) some) in
    let e : n * base + d ≡ n * base + digit_value (get_or ds i 0) = ap (λ v. n * base + v) worth in
    below most (n * base + d) (n * base + digit_value (get_or ds i 0)) total more e next
