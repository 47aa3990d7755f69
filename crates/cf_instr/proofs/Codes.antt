-- A method's code and its instructions with offsets.
use Rattle.std.proofs.Common.{◌≡◌, ℕ, zero, suc, ◌+◌, ◌≤◌, ◌<◌, ℤ, pos, negsuc, Bool, true, false, cond, List, [], ◌∷◌, ◌++◌, length, get_or, take, Some, refl, sym, ap, subst, ◌∙◌, append_assoc, arith, inl, inr}
use Rattle.std.specs.Prelude.{◌-ℤ◌, ◌<ℤ◌, ◌≤ℤ◌, slice_get}
use Rattle.std.specs.List.{flat_map, sum_by, AllByRecursion}
use Rattle.std.proofs.lemmas.Bool.{cases_lt}
use Rattle.std.proofs.lemmas.Int.{ints}
use Rattle.std.proofs.lemmas.List.{append-nil, take_all, take_more}
use Rattle.std.proofs.lemmas.List.Concat.{flat_map-append}
use Rattle.std.proofs.lemmas.Option.{get_or_from_slice_get, slice_get-get_or}
use Rattle.cf_form.specs.declared.instr.Instr.{Instr}
use Rattle.cf_form.specs.Opcodes.{shape_of}
use Rattle.cf_form.specs.Instructions.{jumps_by, jumps, bytes_of, Fits, size, offset, number, with_offset, with_offsets, LeadsInto, IsCode, code_bytes}
use Rattle.cf_instr.specs.Faults.{IsAstray}
use Rattle.cf_instr.specs.Offsets.{AreOffsets}
use Rattle.cf_instr.specs.Raws.{AreSettled, offset_from, HasTarget}
use Rattle.cf_instr.proofs.Sizes.{offset-zero, offset-cons, offset-rises, offset-all, offset-monotone}
use Rattle.cf_instr.proofs.Targets.{jumps-is, with_offset-op, with_offset-wide, size-with_offset, with_offsets-push, length-with_offsets}
use Rattle.cf_instr.proofs.Parsing.{one_parse, stuck_end}

-- the instructions of a code, with offsets
abbrev pub raws : List Instr → List Instr
raws code = with_offsets code 0 code

pub offset-with_offsets : (code : List Instr) (at : ℕ) (is : List Instr) (n : ℕ) → offset (with_offsets code at is) n ≡ offset is n
offset-with_offsets code at [] n = refl
offset-with_offsets code at (i ∷ is) zero = offset-zero (with_offsets code at (i ∷ is)) ∙ sym (offset-zero (i ∷ is))
offset-with_offsets code at (i ∷ is) (suc n) =
    offset-cons (with_offset code at i) (with_offsets code (at + size i) is) n
    ∙ omega (arith, size-with_offset code at i, offset-with_offsets code (at + size i) is n)
    ∙ sym (offset-cons i is n)

-- codes that begin at the same bytes have the same offsets
with_offset-same : (c d : List Instr) (at : ℕ) (i : Instr) → ((k : ℕ) → offset c k ≡ offset d k) → with_offset c at i ≡ with_offset d at i
with_offset-same c d at i h = ap (λ (p : ℕ). cond (jumps i) (record { op = i.op; wide = i.wide; a = pos p -ℤ pos at; b = i.b }) i) (h (number i.a))

pub with_offsets-same : (c d : List Instr) (at : ℕ) (is : List Instr) → ((k : ℕ) → offset c k ≡ offset d k) → with_offsets c at is ≡ with_offsets d at is
with_offsets-same c d at [] h = refl
with_offsets-same c d at (i ∷ is) h =
    ap (λ (t : Instr). t ∷ with_offsets c (at + size i) is) (with_offset-same c d at i h) ∙ ap (λ (t : List Instr). with_offset d at i ∷ t) (with_offsets-same c d (at + size i) is h)

-- the k-th instruction with its offset
pub record Raw (code : List Instr) (at : ℕ) (is : List Instr) (k : ℕ) (j : Instr) : Type 0 where
  pub instr : Instr
  pub here : slice_get is k ≡ Some instr
  pub raw : j ≡ with_offset code (at + offset is k) instr

pub raw_at : (code : List Instr) (at : ℕ) (is : List Instr) (k : ℕ) (j : Instr) → slice_get (with_offsets code at is) k ≡ Some j → Raw code at is k j
raw_at code at [] k j e = absurd cc
raw_at code at (i ∷ is) zero j e =
    let same : j ≡ with_offset code at i = cc in
    record { instr = i; here = refl; raw = same ∙ ap (λ (t : ℕ). with_offset code t i) (omega (arith, offset-zero (i ∷ is))) }
raw_at code at (i ∷ is) (suc k) j e =
    let r = raw_at code (at + size i) is k j e in
    record { instr = r.instr; here = r.here; raw = r.raw ∙ ap (λ (t : ℕ). with_offset code t r.instr) (omega (arith, offset-cons i is k)) }

pub leads_at : (n : ℕ) (is : List Instr) (k : ℕ) (i : Instr) → AllByRecursion (LeadsInto n) is → slice_get is k ≡ Some i → LeadsInto n i
leads_at n [] k i h e = absurd cc
leads_at n (x ∷ xs) zero i h e = subst (LeadsInto n) (let t : x ≡ i = cc in t) h.0
leads_at n (x ∷ xs) (suc k) i h e = leads_at n xs k i h.1 e

-- a number below n
pub natural_below : (x : ℤ) (n : ℕ) → pos 0 ≤ℤ x → x <ℤ pos n → (x ≡ pos (number x)) × (number x < n)
natural_below (pos m) n h lt = (refl, omega (arith, ints))
natural_below (negsuc m) n h lt = absurd (omega (arith, ints))

-- the offset of a jump
pub jump-offset : (code : List Instr) (at : ℕ) (i : Instr) → jumps i ≡ true → (with_offset code at i).a ≡ (pos (offset code (number i.a)) -ℤ pos at)
jump-offset code at i e = ap (λ (j : Bool). (cond j (record { op = i.op; wide = i.wide; a = pos (offset code (number i.a)) -ℤ pos at; b = i.b }) i).a) e

jumps-with_offset : (code : List Instr) (at : ℕ) (i : Instr) → jumps (with_offset code at i) ≡ jumps i
jumps-with_offset code at i = jumps-is (with_offset code at i) ∙ ap (λ (t : ℕ). jumps_by (shape_of t)) (with_offset-op code at i) ∙ sym (jumps-is i)

-- no jump of a code goes astray
pub none_astray : (code : List Instr) (k : ℕ) → IsCode code → IsAstray (raws code) k → ⊥
none_astray code k h astray =
    let r = raw_at code 0 code k astray.jump astray.here in
    let jumping : jumps r.instr ≡ true = sym (jumps-with_offset code (0 + offset code k) r.instr) ∙ ap jumps (sym r.raw) ∙ astray.jumping in
    let within = leads_at (length code) code k r.instr h.targets r.here jumping in
    let m = natural_below r.instr.a (length code) within.0 within.1 in
    let jumped : astray.jump.a ≡ (pos (offset code (number r.instr.a)) -ℤ pos (0 + offset code k)) = ap (λ (t : Instr). t.a) r.raw ∙ jump-offset code (0 + offset code k) r.instr jumping in
    let from : offset (raws code) k ≡ offset code k = offset-with_offsets code 0 code k in
    let to : offset (raws code) (number r.instr.a) ≡ offset code (number r.instr.a) = offset-with_offsets code 0 code (number r.instr.a) in
    astray.nowhere (number r.instr.a) (omega (arith, length-with_offsets code 0 code, m.1)) (omega (arith, ints))

-- ---- one to one

plain-offset : (code : List Instr) (at : ℕ) (i : Instr) → jumps i ≡ false → with_offset code at i ≡ i
plain-offset code at i e = ap (λ (j : Bool). cond j (record { op = i.op; wide = i.wide; a = pos (offset code (number i.a)) -ℤ pos at; b = i.b }) i) e

with_offset-b_by : (j : Bool) (a : ℤ) (i : Instr) → (cond j (record { op = i.op; wide = i.wide; a = a; b = i.b }) i).b ≡ i.b
with_offset-b_by true a i = refl
with_offset-b_by false a i = refl

with_offset-b : (code : List Instr) (at : ℕ) (i : Instr) → (with_offset code at i).b ≡ i.b
with_offset-b code at i = with_offset-b_by (jumps i) (pos (offset code (number i.a)) -ℤ pos at) i

-- offsets of different instructions differ
abbrev Apart : List Instr → ℕ → Type 0
Apart code n = (j k : ℕ) → j < n → k < n → offset code j ≡ offset code k → j ≡ k

same_one : (c d : List Instr) (n at : ℕ) (x y : Instr) (j : Bool) → jumps x ≡ j → jumps y ≡ j → ((k : ℕ) → offset c k ≡ offset d k) → Apart c n
    → LeadsInto n x → LeadsInto n y → with_offset c at x ≡ with_offset d at y → x.a ≡ y.a
same_one c d n at x y true ex ey h apart lx ly e =
    let mx = natural_below x.a n (lx ex).0 (lx ex).1 in
    let my = natural_below y.a n (ly ey).0 (ly ey).1 in
    let o : (pos (offset c (number x.a)) -ℤ pos at) ≡ (pos (offset d (number y.a)) -ℤ pos at) = sym (jump-offset c at x ex) ∙ ap (λ (t : Instr). t.a) e ∙ jump-offset d at y ey in
    let p : offset c (number x.a) ≡ offset d (number y.a) = omega (arith, ints) in
    let q : number x.a ≡ number y.a = apart (number x.a) (number y.a) mx.1 my.1 (p ∙ sym (h (number y.a))) in
    mx.0 ∙ ap (λ (t : ℕ). pos t) q ∙ sym my.0
same_one c d n at x y false ex ey h apart lx ly e = ap (λ (t : Instr). t.a) (sym (plain-offset c at x ex) ∙ e ∙ plain-offset d at y ey)

same_instr : (c d : List Instr) (n at : ℕ) (x y : Instr) → ((k : ℕ) → offset c k ≡ offset d k) → Apart c n
    → LeadsInto n x → LeadsInto n y → with_offset c at x ≡ with_offset d at y → x ≡ y
same_instr c d n at x y h apart lx ly e =
    let op : x.op ≡ y.op = sym (with_offset-op c at x) ∙ ap (λ (t : Instr). t.op) e ∙ with_offset-op d at y in
    let wide : x.wide ≡ y.wide = sym (with_offset-wide c at x) ∙ ap (λ (t : Instr). t.wide) e ∙ with_offset-wide d at y in
    let b : x.b ≡ y.b = sym (with_offset-b c at x) ∙ ap (λ (t : Instr). t.b) e ∙ with_offset-b d at y in
    let j : jumps y ≡ jumps x = jumps-is y ∙ ap (λ (t : ℕ). jumps_by (shape_of t)) (sym op) ∙ sym (jumps-is x) in
    let a : x.a ≡ y.a = same_one c d n at x y (jumps x) refl j h apart lx ly e in
    let made : ℕ → Bool → ℤ → ℤ → Instr = λ o w p q. record { op = o; wide = w; a = p; b = q } in
    ap (λ (t : ℕ). made t x.wide x.a x.b) op ∙ ap (λ (t : Bool). made y.op t x.a x.b) wide ∙ ap (λ (t : ℤ). made y.op y.wide t x.b) a ∙ ap (λ (t : ℤ). made y.op y.wide y.a t) b

same_instrs : (c d : List Instr) (n at : ℕ) (xs ys : List Instr) → ((k : ℕ) → offset c k ≡ offset d k) → Apart c n
    → AllByRecursion (LeadsInto n) xs → AllByRecursion (LeadsInto n) ys → with_offsets c at xs ≡ with_offsets d at ys → xs ≡ ys
same_instrs c d n at [] [] h apart lx ly e = refl
same_instrs c d n at [] (y ∷ ys) h apart lx ly e = absurd cc
same_instrs c d n at (x ∷ xs) [] h apart lx ly e = absurd cc
same_instrs c d n at (x ∷ xs) (y ∷ ys) h apart lx ly e =
    let first : with_offset c at x ≡ with_offset d at y = cc in
    let others : with_offsets c (at + size x) xs ≡ with_offsets d (at + size y) ys = cc in
    let same = same_instr c d n at x y h apart lx.0 ly.0 first in
    let moved : with_offsets c (at + size x) xs ≡ with_offsets d (at + size x) ys = others ∙ ap (λ (t : Instr). with_offsets d (at + size t) ys) (sym same) in
    ap (λ (t : Instr). t ∷ xs) same ∙ ap (λ (t : List Instr). y ∷ t) (same_instrs c d n (at + size x) xs ys h apart lx.1 ly.1 moved)

pub code-rises : (code : List Instr) (j k : ℕ) → IsCode code → j < k → k ≤ length code → offset code j < offset code k
code-rises code j k h lt le =
    let r = offset-rises (raws code) j k h.fits lt (omega (arith, length-with_offsets code 0 code)) in
    omega (arith, offset-with_offsets code 0 code j, offset-with_offsets code 0 code k)

pub code-long : (code : List Instr) → length (code_bytes code) ≡ offset code (length code)
unfolding code_bytes
code-long code =
    sym (offset-all (raws code)) ∙ ap (offset (raws code)) (length-with_offsets code 0 code) ∙ offset-with_offsets code 0 code (length code)

code-apart : (code : List Instr) → IsCode code → Apart code (length code)
code-apart code h j k lj lk e =
    elim (cases_lt j k) [
      | inl lt ↦ absurd (omega (arith, code-rises code j k h lt (omega arith)))
      | inr le ↦ elim (cases_lt k j) [
        | inl lt ↦ absurd (omega (arith, code-rises code k j h lt (omega arith)))
        | inr ge ↦ omega arith
      ]
    ]

pub code_bytes-is : (code : List Instr) → code_bytes code ≡ flat_map bytes_of (raws code) ++ []
unfolding code_bytes
code_bytes-is code = sym (append-nil (flat_map bytes_of (raws code)))

pub one_code : (xs ys : List Instr) → IsCode xs → IsCode ys → code_bytes xs ≡ code_bytes ys → xs ≡ ys
one_code xs ys hx hy e =
    let same = (one_parse (raws xs) (raws ys) [] [] hx.fits hy.fits stuck_end stuck_end (sym (code_bytes-is xs) ∙ e ∙ code_bytes-is ys)).0 in
    let offsets : (k : ℕ) → offset xs k ≡ offset ys k = λ k. sym (offset-with_offsets xs 0 xs k) ∙ ap (λ (t : List Instr). offset t k) same ∙ offset-with_offsets ys 0 ys k in
    let len : length ys ≡ length xs = omega (arith, length-with_offsets xs 0 xs, length-with_offsets ys 0 ys, ap length same) in
    same_instrs xs ys (length xs) 0 xs ys offsets (code-apart xs hx) hx.targets (subst (λ (n : ℕ). AllByRecursion (LeadsInto n) ys) len hy.targets) same

-- ---- a settled code

pub settled-raws : (rs code : List Instr) → AreSettled rs (length rs) code → raws code ≡ rs
settled-raws rs code h =
    let all : with_offsets rs 0 code ≡ rs = h.offsets ∙ take_all (length rs) rs (omega arith) in
    let offsets : (k : ℕ) → offset code k ≡ offset rs k = λ k. sym (offset-with_offsets rs 0 code k) ∙ ap (λ (t : List Instr). offset t k) all in
    with_offsets-same code rs 0 code offsets ∙ all

pub settled-code : (rs code : List Instr) → 1 ≤ length rs → AllByRecursion Fits rs → AreSettled rs (length rs) code → IsCode code × (flat_map bytes_of rs ≡ code_bytes code)
unfolding code_bytes
settled-code rs code some fits h =
    let same = settled-raws rs code h in
    let len : length rs ≡ length code = ap length (sym same) ∙ length-with_offsets code 0 code in
    (record { some = omega arith; fits = subst (AllByRecursion Fits) (sym same) fits; targets = subst (λ (n : ℕ). AllByRecursion (LeadsInto n) code) len h.targets }, ap (flat_map bytes_of) (sym same))

-- ---- writing

pub raw_there : (code : List Instr) (at : ℕ) (is : List Instr) (k : ℕ) (i : Instr) → slice_get is k ≡ Some i → slice_get (with_offsets code at is) k ≡ Some (with_offset code (at + offset is k) i)
raw_there code at [] k i e = absurd cc
raw_there code at (x ∷ xs) zero i e =
    let same : x ≡ i = cc in
    ap (λ (t : Instr). Some (with_offset code at t)) same ∙ ap (λ (t : ℕ). Some (with_offset code t i)) (omega (arith, offset-zero (x ∷ xs)))
raw_there code at (x ∷ xs) (suc k) i e =
    raw_there code (at + size x) xs k i e ∙ ap (λ (t : ℕ). Some (with_offset code t i)) (omega (arith, offset-cons x xs k))

fits_at : (is : List Instr) (k : ℕ) (i : Instr) → AllByRecursion Fits is → slice_get is k ≡ Some i → Fits i
fits_at [] k i h e = absurd cc
fits_at (x ∷ xs) zero i h e = subst Fits (let t : x ≡ i = cc in t) h.0
fits_at (x ∷ xs) (suc k) i h e = fits_at xs k i h.1 e

-- the k-th instruction of a code has a spelling, with its offset
pub code-fits : (code : List Instr) (k : ℕ) (i : Instr) → IsCode code → slice_get code k ≡ Some i → Fits (with_offset code (offset code k) i)
code-fits code k i h e =
    let there = raw_there code 0 code k i e in
    let at : 0 + offset code k ≡ offset code k = omega arith in
    subst (λ (t : ℕ). Fits (with_offset code t i)) at (fits_at (raws code) k (with_offset code (0 + offset code k) i) h.fits there)

offset_from_by : (code : List Instr) (offsets : List ℕ) (at : ℕ) (i : Instr) (j : Bool) → jumps i ≡ j → (j ≡ true → get_or offsets (number i.a) 0 ≡ offset code (number i.a))
    → cond j (record { op = i.op; wide = i.wide; a = pos (get_or offsets (number i.a) 0) -ℤ pos at; b = i.b }) i ≡ with_offset code at i
offset_from_by code offsets at i true e h =
    ap (λ (t : ℕ). record { op = i.op; wide = i.wide; a = pos t -ℤ pos at; b = i.b }) (h refl)
    ∙ sym (ap (λ (j : Bool). cond j (record { op = i.op; wide = i.wide; a = pos (offset code (number i.a)) -ℤ pos at; b = i.b }) i) e)
offset_from_by code offsets at i false e h = sym (plain-offset code at i e)

slice_get_below : (code : List Instr) (k : ℕ) (i : Instr) → slice_get code k ≡ Some i → k < length code
slice_get_below [] k i e = absurd cc
slice_get_below (x ∷ xs) zero i e = omega arith
slice_get_below (x ∷ xs) (suc k) i e = omega (arith, slice_get_below xs k i e)

-- the offsets of a code's instructions give those of its jumps
pub offset_from-is : (code : List Instr) (offsets : List ℕ) (k : ℕ) (i : Instr) → IsCode code → slice_get code k ≡ Some i → ((m : ℕ) → m ≤ length code → get_or offsets m 0 ≡ offset code m)
    → offset_from offsets (get_or offsets k 0) i ≡ with_offset code (offset code k) i
offset_from-is code offsets k i h here each =
    let lead = leads_at (length code) code k i h.targets here in
    let within : k ≤ length code = omega (arith, slice_get_below code k i here) in
    let at : get_or offsets k 0 ≡ offset code k = each k within in
    ap (λ (t : ℕ). offset_from offsets t i) at
    ∙ offset_from_by code offsets (offset code k) i (jumps_by (shape_of i.op)) (jumps-is i)
    (λ e. each (number i.a) (let n = natural_below i.a (length code) (lead (jumps-is i ∙ e)).0 (lead (jumps-is i ∙ e)).1 in omega (arith, n.1)))

pub has_target : (code : List Instr) (k : ℕ) (i : Instr) → IsCode code → slice_get code k ≡ Some i → HasTarget (length code + 1) i
has_target code k i h here e =
    let lead = leads_at (length code) code k i h.targets here (jumps-is i ∙ e) in
    (lead.0, let t = lead.1 in omega (arith, ints))

-- one more instruction
pub written_more : (code : List Instr) (k : ℕ) (i raw : Instr) (before out new : List ℕ) → slice_get code k ≡ Some i → raw ≡ with_offset code (offset code k) i
    → out ≡ before ++ flat_map bytes_of (with_offsets code 0 (take k code)) → new ≡ out ++ bytes_of raw → new ≡ before ++ flat_map bytes_of (with_offsets code 0 (take (k + 1) code))
unfolding offset
written_more code k i raw before out new here is so_far e =
    let within : k < length code = slice_get_below code k i here in
    let next : take (k + 1) code ≡ take k code ++ i ∷ [] = take_more code k i within ∙ ap (λ (t : Instr). take k code ++ t ∷ []) (get_or_from_slice_get code k i i here) in
    let at : 0 + sum_by size (take k code) ≡ sum_by size (take k code) = omega arith in
    let offsets : with_offsets code 0 (take (k + 1) code) ≡ with_offsets code 0 (take k code) ++ raw ∷ [] =
    ap (with_offsets code 0) next ∙ with_offsets-push code 0 (take k code) i ∙ ap (λ (t : ℕ). with_offsets code 0 (take k code) ++ with_offset code t i ∷ []) at ∙ ap (λ (t : Instr). with_offsets code 0 (take k code) ++ t ∷ []) (sym is) in
    let bytes : flat_map bytes_of (with_offsets code 0 (take (k + 1) code)) ≡ flat_map bytes_of (with_offsets code 0 (take k code)) ++ bytes_of raw =
    ap (flat_map bytes_of) offsets ∙ flat_map-append bytes_of (with_offsets code 0 (take k code)) (raw ∷ []) ∙ ap (λ (t : List ℕ). flat_map bytes_of (with_offsets code 0 (take k code)) ++ t) (append-nil (bytes_of raw)) in
    e ∙ ap (λ (t : List ℕ). t ++ bytes_of raw) so_far ∙ append_assoc before (flat_map bytes_of (with_offsets code 0 (take k code))) (bytes_of raw) ∙ ap (λ (t : List ℕ). before ++ t) (sym bytes)

pub written : (code : List Instr) (k : ℕ) (before out : List ℕ) → length code ≤ k → out ≡ before ++ flat_map bytes_of (with_offsets code 0 (take k code)) → out ≡ before ++ code_bytes code
unfolding code_bytes
written code k before out le e = e ∙ ap (λ (t : List Instr). before ++ flat_map bytes_of (with_offsets code 0 t)) (take_all k code le)

-- ---- what the code computes

pub index_zero : (xs : List ℕ) (n x : ℕ) → n < length xs → get_or xs n x ≡ get_or xs n 0
index_zero [] n x lt = absurd (omega arith)
index_zero (y ∷ ys) zero x lt = refl
index_zero (y ∷ ys) (suc n) x lt = index_zero ys n x (omega arith)

pub raw_is : (code : List Instr) (offsets ps : List ℕ) (n at : ℕ) (d raw : Instr) → IsCode code → n < length code → length offsets ≡ length code + 1 → ((m : ℕ) → m ≤ length code → get_or offsets m 0 ≡ offset code m)
    → ps ≡ offsets → at ≡ get_or offsets n at → raw ≡ offset_from ps at (get_or code n d) → raw ≡ with_offset code (offset code n) (get_or code n d)
raw_is code offsets ps n at d raw h lt many each same here e =
    let at-is : at ≡ get_or offsets n 0 = here ∙ index_zero offsets n at (omega arith) in
    e ∙ ap (λ (t : List ℕ). offset_from t at (get_or code n d)) same ∙ ap (λ (t : ℕ). offset_from offsets t (get_or code n d)) at-is
    ∙ offset_from-is code offsets n (get_or code n d) h (slice_get-get_or code n d lt) each

-- no offset is above that of the code's end
pub offsets_low : (code : List Instr) (offsets : List ℕ) (last : ℕ) → AreOffsets code offsets → offset code (length code) ≤ last → (k : ℕ) → k < length offsets → get_or offsets k 0 ≤ last
offsets_low code offsets last h le k lt = omega (arith, h.each k (omega (arith, h.many)), offset-monotone code k (length code) (omega (arith, h.many)))
