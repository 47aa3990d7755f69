-- Any bytes, as many as its shape has, are operands; so bytes that end too early can be filled up.
use Rattle.std.proofs.Common.{◌≡◌, ℕ, zero, suc, ◌-◌, ◌^◌, ◌<◌, ◌≤◌, ℤ, pos, Bool, true, false, List, [], ◌∷◌, ◌++◌, length, get_or, replicate, refl, sym, ap, ◌∙◌, arith, rules}
use Rattle.std.specs.Prelude.{FitsSigned, IsTrue, not}
use Rattle.std.specs.Int.{w8, w16, w32, cast_signed, from_be_bytes, to_be_bytes}
use Rattle.std.proofs.lemmas.Int.{of_z-to_z, ints}
use Rattle.std.proofs.lemmas.Nat.{be_bytes_2, be_bytes_4}
use Rattle.std.proofs.lemmas.List.{length-append, length-replicate}
use Rattle.cf_form.specs.declared.shape.Shape.{Shape}
use Rattle.cf_form.specs.declared.shape.Shape.TheVariants.{Plain, Signed1, Signed2, Pool1, Pool2, Local, Step, Jump2, Jump4, Face, Wide}
use Rattle.cf_form.specs.Instructions.{one, two, four, Is1, Is2, operands, OperandsFit}
use Rattle.cf_instr.specs.Reading.{width}

abbrev pub IsBytes : List ℕ → Type 0
IsBytes bytes = (i : ℕ) → get_or bytes i 0 < 256

cells1 : (xs : List ℕ) → length xs ≡ 1 → xs ≡ get_or xs 0 0 ∷ []
cells1 [] e = absurd cc
cells1 (x ∷ []) e = refl
cells1 (x ∷ y ∷ xs) e = absurd (omega arith)

cells2 : (xs : List ℕ) → length xs ≡ 2 → xs ≡ get_or xs 0 0 ∷ get_or xs 1 0 ∷ []
cells2 [] e = absurd cc
cells2 (x ∷ xs) e = ap (λ (t : List ℕ). x ∷ t) (cells1 xs (omega arith))

cells3 : (xs : List ℕ) → length xs ≡ 3 → xs ≡ get_or xs 0 0 ∷ get_or xs 1 0 ∷ get_or xs 2 0 ∷ []
cells3 [] e = absurd cc
cells3 (x ∷ xs) e = ap (λ (t : List ℕ). x ∷ t) (cells2 xs (omega arith))

cells4 : (xs : List ℕ) → length xs ≡ 4 → xs ≡ get_or xs 0 0 ∷ get_or xs 1 0 ∷ get_or xs 2 0 ∷ get_or xs 3 0 ∷ []
cells4 [] e = absurd cc
cells4 (x ∷ xs) e = ap (λ (t : List ℕ). x ∷ t) (cells3 xs (omega arith))

-- a byte is its own spelling, and so are two and four
pub byte_again : (x : ℕ) → x < 256 → to_be_bytes w8 x ≡ x ∷ []
byte_again x h = ap (λ (t : ℕ). t ∷ []) (omega arith)

IsBytes1 : (x : ℕ) → x < 256 → IsBytes (x ∷ [])
IsBytes1 x h zero = h
IsBytes1 x h (suc i) = omega arith

IsBytes2 : (x y : ℕ) → x < 256 → y < 256 → IsBytes (x ∷ y ∷ [])
IsBytes2 x y h k zero = h
IsBytes2 x y h k (suc i) = IsBytes1 y k i

IsBytes4 : (x y z u : ℕ) → x < 256 → y < 256 → z < 256 → u < 256 → IsBytes (x ∷ y ∷ z ∷ u ∷ [])
IsBytes4 x y z u h k l m zero = h
IsBytes4 x y z u h k l m (suc zero) = k
IsBytes4 x y z u h k l m (suc (suc i)) = IsBytes2 z u l m i

Is1-pos : (n : ℕ) → n < 256 → Is1 (pos n)
Is1-pos n h = (omega (arith, ints), omega (arith, ints))

pub Is2-pos : (n : ℕ) → n < 65536 → Is2 (pos n)
Is2-pos n h = (omega (arith, ints), omega (arith, ints))

fill1 : (x : ℕ) → x < 256 → (a : ℤ) × Is1 a × (one a ≡ x ∷ [])
fill1 x h = (pos x, Is1-pos x h, byte_again x h)

SFits1 : (x : ℕ) → x < 256 → FitsSigned w8 (cast_signed w8 x)
SFits1 x h = search (rules, ints)

SFits2 : (x : ℕ) → x < 65536 → FitsSigned w16 (cast_signed w16 x)
SFits2 x h = search (rules, ints)

SFits4 : (x : ℕ) → x < 2 ^ 32 → FitsSigned w32 (cast_signed w32 x)
SFits4 x h = search (rules, ints)

pub fill1s : (x : ℕ) → x < 256 → (a : ℤ) × FitsSigned w8 a × (one a ≡ x ∷ [])
fill1s x h = (cast_signed w8 x, SFits1 x h, ap (to_be_bytes w8) (of_z-to_z w8 x h) ∙ byte_again x h)

fill2 : (x y : ℕ) → x < 256 → y < 256 → (a : ℤ) × Is2 a × (two a ≡ x ∷ y ∷ [])
fill2 x y h k =
    let n = from_be_bytes w16 (x ∷ y ∷ []) in
    let below : n < 65536 = omega arith in
    (pos n, Is2-pos n below, be_bytes_2 (x ∷ y ∷ []) n refl (IsBytes2 x y h k) refl)

fill2s : (x y : ℕ) → x < 256 → y < 256 → (a : ℤ) × FitsSigned w16 a × (two a ≡ x ∷ y ∷ [])
fill2s x y h k =
    let n = from_be_bytes w16 (x ∷ y ∷ []) in
    let below : n < 2 ^ 16 = omega arith in
    (cast_signed w16 n, SFits2 n below, ap (to_be_bytes w16) (of_z-to_z w16 n below) ∙ be_bytes_2 (x ∷ y ∷ []) n refl (IsBytes2 x y h k) refl)

fill4s : (x y z u : ℕ) → x < 256 → y < 256 → z < 256 → u < 256 → (a : ℤ) × FitsSigned w32 a × (four a ≡ x ∷ y ∷ z ∷ u ∷ [])
fill4s x y z u h k l m =
    let n = from_be_bytes w32 (x ∷ y ∷ z ∷ u ∷ []) in
    let below : n < 2 ^ 32 = omega arith in
    (cast_signed w32 n, SFits4 n below, ap (to_be_bytes w32) (of_z-to_z w32 n below) ∙ be_bytes_4 (x ∷ y ∷ z ∷ u ∷ []) n refl (IsBytes4 x y z u h k l m) refl)

-- an instruction of this shape may have operands of this width
abbrev pub allows : Shape → Bool → Bool
allows Wide w = false
allows Local w = true
allows Step w = true
allows _ w = not w

-- operands that these bytes are
abbrev pub Filled : Shape → Bool → List ℕ → Type 0
Filled s w xs = (a : ℤ) × (b : ℤ) × OperandsFit s w a b × (operands s w a b ≡ xs)

-- operands of one number
alone : {P : ℤ → Type 0} (s : Shape) (w : Bool) (xs ys : List ℕ) (spell : ℤ → List ℕ) → xs ≡ ys → (a : ℤ) × P a × (spell a ≡ ys)
    → ((a : ℤ) → P a → OperandsFit s w a (pos 0)) → ((a : ℤ) → operands s w a (pos 0) ≡ spell a) → Filled s w xs
alone s w xs ys spell cells f fits spelled = (f.0, pos 0, fits f.0 f.1, spelled f.0 ∙ f.2 ∙ sym cells)

filled : (s : Shape) (w : Bool) → IsTrue (allows s w) → (xs : List ℕ) → IsBytes xs → length xs ≡ width s w → (s ≡ Face → get_or xs 3 0 ≡ 0) → Filled s w xs
filled Plain false ok [] h e z = (pos 0, pos 0, (refl, refl, refl), refl)
filled Plain false ok (x ∷ xs) h e z = absurd (omega arith)
filled Plain true ok xs h e z = absurd cc
filled Signed1 false ok xs h e z = alone Signed1 false xs _ one (cells1 xs e) (fill1s _ (h 0)) (λ a f. (refl, f, refl)) (λ a. refl)
filled Signed1 true ok xs h e z = absurd cc
filled Signed2 false ok xs h e z = alone Signed2 false xs _ two (cells2 xs e) (fill2s _ _ (h 0) (h 1)) (λ a f. (refl, f, refl)) (λ a. refl)
filled Signed2 true ok xs h e z = absurd cc
filled Pool1 false ok xs h e z = alone Pool1 false xs _ one (cells1 xs e) (fill1 _ (h 0)) (λ a f. (refl, f, refl)) (λ a. refl)
filled Pool1 true ok xs h e z = absurd cc
filled Pool2 false ok xs h e z = alone Pool2 false xs _ two (cells2 xs e) (fill2 _ _ (h 0) (h 1)) (λ a f. (refl, f, refl)) (λ a. refl)
filled Pool2 true ok xs h e z = absurd cc
filled Local false ok xs h e z = alone Local false xs _ one (cells1 xs e) (fill1 _ (h 0)) (λ a f. (f, refl)) (λ a. refl)
filled Local true ok xs h e z = alone Local true xs _ two (cells2 xs e) (fill2 _ _ (h 0) (h 1)) (λ a f. (f, refl)) (λ a. refl)
filled Step false ok xs h e z =
    let f = fill1 (get_or xs 0 0) (h 0) in
    let g = fill1s (get_or xs 1 0) (h 1) in
    (f.0, g.0, (f.1, g.1), ap (λ (t : List ℕ). t ++ one g.0) f.2 ∙ ap (λ (t : List ℕ). get_or xs 0 0 ∷ t) g.2 ∙ sym (cells2 xs e))
filled Step true ok xs h e z =
    let f = fill2 (get_or xs 0 0) (get_or xs 1 0) (h 0) (h 1) in
    let g = fill2s (get_or xs 2 0) (get_or xs 3 0) (h 2) (h 3) in
    (f.0, g.0, (f.1, g.1), ap (λ (t : List ℕ). t ++ two g.0) f.2 ∙ ap (λ (t : List ℕ). get_or xs 0 0 ∷ get_or xs 1 0 ∷ t) g.2 ∙ sym (cells4 xs e))
filled Jump2 false ok xs h e z = alone Jump2 false xs _ two (cells2 xs e) (fill2s _ _ (h 0) (h 1)) (λ a f. (refl, f, refl)) (λ a. refl)
filled Jump2 true ok xs h e z = absurd cc
filled Jump4 false ok xs h e z = alone Jump4 false xs _ four (cells4 xs e) (fill4s _ _ _ _ (h 0) (h 1) (h 2) (h 3)) (λ a f. (refl, f, refl)) (λ a. refl)
filled Jump4 true ok xs h e z = absurd cc
filled Face false ok xs h e z =
    let f = fill2 (get_or xs 0 0) (get_or xs 1 0) (h 0) (h 1) in
    let g = fill1 (get_or xs 2 0) (h 2) in
    (f.0, g.0, (refl, f.1, g.1), ap (λ (t : List ℕ). t ++ one g.0 ++ 0 ∷ []) f.2 ∙ ap (λ (t : List ℕ). get_or xs 0 0 ∷ get_or xs 1 0 ∷ t ++ 0 ∷ []) g.2 ∙ ap (λ (t : ℕ). get_or xs 0 0 ∷ get_or xs 1 0 ∷ get_or xs 2 0 ∷ t ∷ []) (sym (z refl)) ∙ sym (cells4 xs e))
filled Face true ok xs h e z = absurd cc
filled Wide w ok xs h e z = absurd cc

-- too few bytes, with zeros behind them, are operands
pub record Short (s : Shape) (w : Bool) (xs : List ℕ) : Type 0 where
  pub a : ℤ
  pub b : ℤ
  pub fits : OperandsFit s w a b
  pub more : List ℕ
  pub missing : 1 ≤ length more
  pub spelled : operands s w a b ≡ xs ++ more

padded-bytes : (xs : List ℕ) (k : ℕ) → IsBytes xs → IsBytes (xs ++ replicate k 0)
padded-bytes [] zero h i = omega arith
padded-bytes [] (suc k) h zero = omega arith
padded-bytes [] (suc k) h (suc i) = padded-bytes [] k h i
padded-bytes (x ∷ xs) k h zero = h zero
padded-bytes (x ∷ xs) k h (suc i) = padded-bytes xs k (λ j. h (suc j)) i

ends-zero : (xs : List ℕ) (k i : ℕ) → length xs ≤ i → get_or (xs ++ replicate k 0) i 0 ≡ 0
ends-zero [] zero i le = refl
ends-zero [] (suc k) zero le = refl
ends-zero [] (suc k) (suc i) le = ends-zero [] k i (omega arith)
ends-zero (x ∷ xs) k zero le = absurd (omega arith)
ends-zero (x ∷ xs) k (suc i) le = ends-zero xs k i (omega arith)

pub filled_up : (s : Shape) (w : Bool) → IsTrue (allows s w) → (xs : List ℕ) → IsBytes xs → length xs < width s w → Short s w xs
filled_up s w ok xs h lt =
    let k : ℕ = width s w - length xs in
    let last : s ≡ Face → get_or (xs ++ replicate k 0) 3 0 ≡ 0 = λ e. ends-zero xs k 3 (let four : width s w ≡ 4 = ap (λ t. width t w) e in omega arith) in
    let f = filled s w ok (xs ++ replicate k 0) (padded-bytes xs k h) (omega (arith, length-append xs (replicate k 0), length-replicate {A = ℕ} k 0)) last in
    record { a = f.0; b = f.1; fits = f.2; more = replicate k 0; missing = omega (arith, length-replicate {A = ℕ} k 0); spelled = f.3 }
