-- How many bytes instructions take, and where they begin.
use Rattle.std.proofs.Common.{◌≡◌, ℕ, zero, suc, ◌+◌, ◌-◌, ◌≤◌, ◌<◌, ℤ, Bool, true, false, cond, List, [], ◌∷◌, ◌++◌, length, get_or, take, Option, None, Some, refl, sym, ap, ◌∙◌, append_assoc, arith, inl, inr}
use Rattle.std.specs.List.{flat_map, sum_by, AllByRecursion}
use Rattle.std.proofs.lemmas.List.{length-append, append-nil, take-append-le, take_all, get_or_append_left}
use Rattle.std.proofs.Math.Seq.{get_or-append_seam}
use Rattle.std.proofs.lemmas.Bool.{cases_lt}
use Rattle.std.proofs.lemmas.List.Concat.{flat_map-append, length-flat_map}
use Rattle.std.proofs.lemmas.List.Sums.{sum_by-cons, sum_by_more}
use Rattle.cf_form.specs.declared.instr.Instr.{Instr}
use Rattle.cf_form.specs.declared.shape.Shape.{Shape}
use Rattle.cf_form.specs.declared.shape.Shape.TheVariants.{Plain, Signed1, Signed2, Pool1, Pool2, Local, Step, Jump2, Jump4, Face, Wide}
use Rattle.cf_form.specs.Opcodes.{shape_of}
use Rattle.cf_form.specs.Instructions.{operands, bytes_by, bytes_of, FitsBy, Fits, size, offset}
use Rattle.cf_instr.specs.Reading.{width}
use Rattle.cf_instr.specs.Offsets.{IsNotFalling, AreOffsets}
use Rattle.cf_instr.specs.Raws.{AreStarts, AreRaws, AreApart, AreOffsetsTo}

-- operands are as wide as their shape has it
pub width-is : (s : Shape) (w : Bool) (a b : ℤ) → length (operands s w a b) ≡ width s w
width-is Plain w a b = refl
width-is Signed1 w a b = refl
width-is Signed2 w a b = refl
width-is Pool1 w a b = refl
width-is Pool2 w a b = refl
width-is Local true a b = refl
width-is Local false a b = refl
width-is Step true a b = refl
width-is Step false a b = refl
width-is Jump2 w a b = refl
width-is Jump4 w a b = refl
width-is Face w a b = refl
width-is Wide w a b = refl

-- an instruction's size by its shape, and whether `wide` stands before it
abbrev pub size_by : Option Shape → Bool → ℕ
size_by None w = 0
size_by (Some s) w = cond w 1 0 + (1 + width s w)

size_by-is : (o : Option Shape) (w : Bool) (i : Instr) → i.wide ≡ w → length (bytes_by o i) ≡ size_by o w
size_by-is None w i e = refl
size_by-is (Some s) true i e = rw e (omega (arith, width-is s true i.a i.b))
size_by-is (Some s) false i e = rw e (omega (arith, width-is s false i.a i.b))

pub size-is : (i : Instr) → size i ≡ size_by (shape_of i.op) i.wide
unfolding bytes_of
size-is i = size_by-is (shape_of i.op) i.wide i refl

width≤4 : (s : Shape) (w : Bool) → width s w ≤ 4
width≤4 Plain w = omega arith
width≤4 Signed1 w = omega arith
width≤4 Signed2 w = omega arith
width≤4 Pool1 w = omega arith
width≤4 Pool2 w = omega arith
width≤4 Local true = omega arith
width≤4 Local false = omega arith
width≤4 Step true = omega arith
width≤4 Step false = omega arith
width≤4 Jump2 w = omega arith
width≤4 Jump4 w = omega arith
width≤4 Face w = omega arith
width≤4 Wide w = omega arith

size_by-within : (o : Option Shape) (i : Instr) (w : Bool) → FitsBy o i → (1 ≤ size_by o w) × (size_by o w ≤ 6)
size_by-within None i w h = absurd h
size_by-within (Some s) i true h = (omega arith, omega (arith, width≤4 s true))
size_by-within (Some s) i false h = (omega arith, omega (arith, width≤4 s false))

-- an instruction that has a spelling takes one to six bytes
pub size-within : (i : Instr) → Fits i → (1 ≤ size i) × (size i ≤ 6)
unfolding Fits
size-within i h = let p = size_by-within (shape_of i.op) i i.wide h in let e = size-is i in (omega arith, omega arith)

-- ---- offsets

pub offset-is : (code : List Instr) (n : ℕ) → offset code n ≡ length (flat_map bytes_of (take n code))
unfolding offset
offset-is code n = sym (length-flat_map bytes_of (take n code))

pub offset-zero : (code : List Instr) → offset code 0 ≡ 0
offset-zero code = offset-is code 0

pub offset-suc : (code : List Instr) (k : ℕ) (d : Instr) → k < length code → offset code (k + 1) ≡ offset code k + size (get_or code k d)
unfolding offset
offset-suc code k d h = sum_by_more size code k d h

-- the first instructions begin where they did
pub offset-append : (xs ys : List Instr) (k : ℕ) → k ≤ length xs → offset (xs ++ ys) k ≡ offset xs k
unfolding offset
offset-append xs ys k h = ap (sum_by size) (take-append-le k xs ys h)

-- all of them end where the last and one would begin
pub offset-all : (xs : List Instr) → offset xs (length xs) ≡ length (flat_map bytes_of xs)
offset-all xs = offset-is xs (length xs) ∙ ap (λ (t : List Instr). length (flat_map bytes_of t)) (take_all (length xs) xs (omega arith))

pub starts_more : (raws : List Instr) (starts : List ℕ) (raw : Instr) (at : ℕ) → AreStarts raws starts → at ≡ length (flat_map bytes_of raws)
    → AreStarts (raws ++ raw ∷ []) (starts ++ at ∷ [])
starts_more raws starts raw at h e = record {
  many = omega (arith, length-append starts (at ∷ []), length-append raws (raw ∷ []), h.many);
  each = λ k lt.
      elim (cases_lt k (length raws)) [
        | inl below ↦ get_or_append_left starts (at ∷ []) 0 k (omega (arith, h.many)) ∙ h.each k below ∙ sym (offset-append raws (raw ∷ []) k (omega arith))
        | inr past ↦
            let last : k ≡ length starts = omega (arith, h.many, length-append raws (raw ∷ [])) in
            let same : k ≡ length raws = omega (arith, h.many) in
            ap (λ (t : ℕ). get_or (starts ++ at ∷ []) t 0) last ∙ get_or-append_seam starts at [] 0 ∙ e ∙ sym (offset-all raws) ∙ sym (offset-append raws (raw ∷ []) (length raws) (omega arith)) ∙ ap (offset (raws ++ raw ∷ [])) (sym same)
      ];
}

fits_more : (raws : List Instr) (raw : Instr) → AllByRecursion Fits raws → Fits raw → AllByRecursion Fits (raws ++ raw ∷ [])
fits_more [] raw h f = (f, tt)
fits_more (x ∷ xs) raw h f = (h.0, fits_more xs raw h.1 f)

-- one more instruction
pub raws_more : (bytes : List ℕ) (raws : List Instr) (starts rest : List ℕ) (raw : Instr) (behind : List ℕ) (at : ℕ) → AreRaws bytes raws starts rest
    → Fits raw → rest ≡ bytes_of raw ++ behind → at ≡ length bytes - length rest → AreRaws bytes (raws ++ raw ∷ []) (starts ++ at ∷ []) behind
raws_more bytes raws starts rest raw behind at h f e a =
    let total : length bytes ≡ length (flat_map bytes_of raws) + length rest = ap length h.parts ∙ length-append (flat_map bytes_of raws) rest in
    let more : flat_map bytes_of (raws ++ raw ∷ []) ≡ flat_map bytes_of raws ++ bytes_of raw = flat_map-append bytes_of raws (raw ∷ []) ∙ ap (λ (t : List ℕ). flat_map bytes_of raws ++ t) (append-nil (bytes_of raw)) in
    record {
      fits = fits_more raws raw h.fits f;
      parts = h.parts ∙ ap (λ (t : List ℕ). flat_map bytes_of raws ++ t) e ∙ sym (append_assoc (flat_map bytes_of raws) (bytes_of raw) behind) ∙ ap (λ (t : List ℕ). t ++ behind) (sym more);
      begin = starts_more raws starts raw at h.begin (omega arith);
    }

-- what is left gets shorter
pub shorter : (rest behind : List ℕ) (raw : Instr) → Fits raw → rest ≡ bytes_of raw ++ behind → length behind < length rest
shorter rest behind raw f e =
    let some = size-within raw f in
    let total : length rest ≡ size raw + length behind = ap length e ∙ length-append (bytes_of raw) behind in
    omega arith

pub offset-cons : (i : Instr) (is : List Instr) (k : ℕ) → offset (i ∷ is) (suc k) ≡ size i + offset is k
unfolding offset
offset-cons i is k = sum_by-cons size i (take k is)

-- each begins behind the one before it
pub offset-rises : (raws : List Instr) (j k : ℕ) → AllByRecursion Fits raws → j < k → k ≤ length raws → offset raws j < offset raws k
offset-rises [] j k h lt le = absurd (omega arith)
offset-rises (x ∷ xs) j zero h lt le = absurd (omega arith)
offset-rises (x ∷ xs) zero (suc k) h lt le = omega (arith, offset-cons x xs k, offset-zero (x ∷ xs), size-within x h.0)
offset-rises (x ∷ xs) (suc j) (suc k) h lt le =
    let later = offset-rises xs j k h.1 (omega arith) (omega arith) in
    omega (arith, offset-cons x xs k, offset-cons x xs j)

pub offset-nil : (k : ℕ) → offset [] k ≡ 0
unfolding offset
offset-nil zero = refl
offset-nil (suc k) = refl

-- and none before it
pub offset-monotone : (raws : List Instr) (j k : ℕ) → j ≤ k → offset raws j ≤ offset raws k
offset-monotone [] j k le = omega (arith, offset-nil j, offset-nil k)
offset-monotone (x ∷ xs) zero k le = omega (arith, offset-zero (x ∷ xs))
offset-monotone (x ∷ xs) (suc j) zero le = absurd (omega arith)
offset-monotone (x ∷ xs) (suc j) (suc k) le =
    let later = offset-monotone xs j k (omega arith) in
    omega (arith, offset-cons x xs k, offset-cons x xs j)

-- no more instructions than bytes
pub count-le : (raws : List Instr) → AllByRecursion Fits raws → length raws ≤ length (flat_map bytes_of raws)
count-le [] h = omega arith
count-le (x ∷ xs) h = omega (arith, count-le xs h.1, size-within x h.0, length-append (bytes_of x) (flat_map bytes_of xs))

-- ---- what the search for a target asks of the offsets

pub raws_few : (bytes : List ℕ) (raws : List Instr) (starts : List ℕ) → AreRaws bytes raws starts [] → length raws ≤ length bytes
raws_few bytes raws starts h =
    let total : length bytes ≡ length (flat_map bytes_of raws) + 0 = ap length h.parts ∙ length-append (flat_map bytes_of raws) [] in
    omega (arith, count-le raws h.fits)

pub starts_few : (bytes : List ℕ) (raws : List Instr) (starts : List ℕ) → AreRaws bytes raws starts [] → length starts ≤ length bytes
starts_few bytes raws starts h = omega (arith, h.begin.many, raws_few bytes raws starts h)

-- two of them begin at different bytes
pub starts_apart : (bytes : List ℕ) (raws : List Instr) (starts : List ℕ) → AreRaws bytes raws starts [] → AreApart starts
starts_apart bytes raws starts h i j lt below =
    let a = h.begin.each i (omega (arith, h.begin.many)) in
    let b = h.begin.each j (omega (arith, h.begin.many)) in
    omega (arith, offset-rises raws i j h.fits lt (omega (arith, h.begin.many)))

pub starts_low : (bytes : List ℕ) (raws : List Instr) (starts : List ℕ) (k : ℕ) → AreRaws bytes raws starts [] → k < length starts → get_or starts k 0 < length bytes
starts_low bytes raws starts k h lt =
    let total : length bytes ≡ length (flat_map bytes_of raws) + 0 = ap length h.parts ∙ length-append (flat_map bytes_of raws) [] in
    let here = h.begin.each k (omega (arith, h.begin.many)) in
    omega (arith, offset-rises raws k (length raws) h.fits (omega (arith, h.begin.many)) (omega arith), offset-all raws)

-- the size of an instruction of a shape
pub size_of_shape : (i : Instr) (o : Option Shape) (w : Bool) → o ≡ shape_of i.op → i.wide ≡ w → size i ≡ size_by o w
size_of_shape i o w h e = size-is i ∙ ap (λ (t : Option Shape). size_by t i.wide) (sym h) ∙ ap (size_by o) e

-- the offset behind an instruction is within the code
pub next_offset : (code : List Instr) (k : ℕ) (d : Instr) (n count : ℕ) → k < length code → n ≡ offset code k → count ≡ size (get_or code k d) → (n + count ≡ offset code (k + 1)) × (n + count ≤ offset code (length code))
next_offset code k d n count lt e h =
    let s = offset-suc code k d lt in
    (omega arith, omega (arith, offset-monotone code (k + 1) (length code) (omega arith)))

pub offsets_none : (code : List Instr) (offsets : List ℕ) → offsets ≡ 0 ∷ [] → AreOffsetsTo code 0 0 offsets
offsets_none code offsets e = record {
  next = sym (offset-zero code);
  many = ap length e ∙ omega arith;
  each = λ k le. let z : k ≡ 0 = omega arith in
      ap (λ (t : List ℕ). get_or t k 0) e ∙ ap (λ (t : ℕ). get_or (0 ∷ []) t 0) z ∙ sym (offset-zero code) ∙ ap (offset code) (sym z);
}

pub offsets_more : (code : List Instr) (n at next : ℕ) (offsets : List ℕ) → AreOffsetsTo code n at offsets → next ≡ offset code (n + 1) → AreOffsetsTo code (n + 1) next (offsets ++ next ∷ [])
offsets_more code n at next offsets h e = record {
  next = e;
  many = omega (arith, length-append offsets (next ∷ []), h.many);
  each = λ k le.
      elim (cases_lt k (n + 1)) [
        | inl below ↦ get_or_append_left offsets (next ∷ []) 0 k (omega (arith, h.many)) ∙ h.each k (omega arith)
        | inr past ↦
            let last : k ≡ length offsets = omega (arith, h.many) in
            let same : k ≡ n + 1 = omega arith in
            ap (λ (t : ℕ). get_or (offsets ++ next ∷ []) t 0) last ∙ get_or-append_seam offsets next [] 0 ∙ e ∙ ap (offset code) (sym same)
      ];
}

pub offsets_not_falling : (code : List Instr) (n at : ℕ) (offsets : List ℕ) → AreOffsetsTo code n at offsets → IsNotFalling offsets
offsets_not_falling code n at offsets h i j le lt =
    let a = h.each i (omega (arith, h.many)) in
    let b = h.each j (omega (arith, h.many)) in
    omega (arith, offset-monotone code i j le)

pub offsets_are : (code : List Instr) (n at : ℕ) (offsets : List ℕ) → length code ≤ n → n ≤ length code → AreOffsetsTo code n at offsets → AreOffsets code offsets
offsets_are code n at offsets le ge h = record { many = omega (arith, h.many); each = λ k below. h.each k (omega arith) }
