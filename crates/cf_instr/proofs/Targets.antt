-- Numbers of targets in place of offsets.
use Rattle.std.proofs.Common.{◌≡◌, ◌≢◌, ℕ, suc, ◌+◌, ◌^◌, ◌<◌, ℤ, pos, Bool, true, false, cond, List, [], ◌∷◌, ◌++◌, length, get_or, take, drop, set, Some, refl, sym, ap, subst, ◌∙◌, arith, inl, inr, add_assoc, below_more, Err}
use Rattle.std.specs.Prelude.{◌+ℤ◌, ◌-ℤ◌, slice_get}
use Rattle.std.specs.List.{sum_by, AllByRecursion}
use Rattle.std.proofs.lemmas.Int.{ints, to_z-of_z, to_z_pos}
use Rattle.std.proofs.lemmas.List.Sorted.{searched}
use Rattle.std.proofs.lemmas.Bool.{cases_lt}
use Rattle.std.specs.List.Sorted.{IsBinarySearchResult}
use Rattle.std.specs.Ordering.{nat_cmp}
use mir.Val.{SFits, to_z, of_z}
use Rattle.std.specs.Int.{w32}
use Rattle.std.proofs.lemmas.Option.{get_or_from_slice_get, slice_get-get_or}
use Rattle.std.proofs.lemmas.List.{take_more, take_all, take-set-le, drop-set-lt, drop-drop, get_or-drop, get_or-set_same, length-set}
use Rattle.std.proofs.lemmas.List.Sums.{sum_by-cons}
use Rattle.cf_form.specs.declared.instr.Instr.{Instr}
use Rattle.cf_form.specs.Opcodes.{shape_of}
use Rattle.cf_form.specs.Instructions.{jumps_by, jumps, size, offset, number, with_offset, with_offsets, LeadsInto}
use Rattle.cf_instr.specs.Faults.{IsAstray}
use Rattle.cf_instr.specs.Offsets.{IsNotFalling}
use Rattle.cf_instr.specs.Raws.{AreStarts, LeadsNowhere, LeadsTo, SettlesBy, Settles, AreSettled, IsFirstAstray}
use Rattle.cf_instr.proofs.Sizes.{size-is, size_by}

pub jumps-is : (i : Instr) → jumps i ≡ jumps_by (shape_of i.op)
unfolding jumps
jumps-is i = refl

-- what offsets are doesn't change sizes
offset_by : Bool → List Instr → ℕ → Instr → Instr
offset_by j code at i = cond j (record { op = i.op; wide = i.wide; a = pos (offset code (number i.a)) -ℤ pos at; b = i.b }) i

offset_by-op : (j : Bool) (code : List Instr) (at : ℕ) (i : Instr) → (offset_by j code at i).op ≡ i.op
unfolding offset_by
offset_by-op true code at i = refl
offset_by-op false code at i = refl

offset_by-wide : (j : Bool) (code : List Instr) (at : ℕ) (i : Instr) → (offset_by j code at i).wide ≡ i.wide
unfolding offset_by
offset_by-wide true code at i = refl
offset_by-wide false code at i = refl

pub with_offset-op : (code : List Instr) (at : ℕ) (i : Instr) → (with_offset code at i).op ≡ i.op
unfolding offset_by
with_offset-op code at i = offset_by-op (jumps i) code at i

pub with_offset-wide : (code : List Instr) (at : ℕ) (i : Instr) → (with_offset code at i).wide ≡ i.wide
unfolding offset_by
with_offset-wide code at i = offset_by-wide (jumps i) code at i

pub size-with_offset : (code : List Instr) (at : ℕ) (i : Instr) → size (with_offset code at i) ≡ size i
size-with_offset code at i =
    let o = with_offset-op code at i in
    let w = with_offset-wide code at i in
    size-is (with_offset code at i) ∙ ap (λ (t : ℕ). size_by (shape_of t) (with_offset code at i).wide) o ∙ ap (λ (t : Bool). size_by (shape_of i.op) t) w ∙ sym (size-is i)

pub sum-with_offsets : (code : List Instr) (at : ℕ) (is : List Instr) → sum_by size (with_offsets code at is) ≡ sum_by size is
sum-with_offsets code at [] = refl
sum-with_offsets code at (i ∷ is) =
    sum_by-cons size (with_offset code at i) (with_offsets code (at + size i) is)
    ∙ omega (arith, size-with_offset code at i, sum-with_offsets code (at + size i) is)
    ∙ sym (sum_by-cons size i is)

pub with_offsets-push : (code : List Instr) (at : ℕ) (is : List Instr) (i : Instr)
    → with_offsets code at (is ++ i ∷ []) ≡ with_offsets code at is ++ with_offset code (at + sum_by size is) i ∷ []
with_offsets-push code at [] i = ap (λ (t : ℕ). with_offset code t i ∷ []) (omega arith)
with_offsets-push code at (x ∷ xs) i =
    ap (λ (t : List Instr). with_offset code at x ∷ t) (with_offsets-push code (at + size x) xs i
    ∙ ap (λ (t : ℕ). with_offsets code (at + size x) xs ++ with_offset code t i ∷ []) (add_assoc at (size x) (sum_by size xs) ∙ ap (λ (t : ℕ). at + t) (sym (sum_by-cons size x xs))))

pub length-with_offsets : (code : List Instr) (at : ℕ) (is : List Instr) → length (with_offsets code at is) ≡ length is
length-with_offsets code at [] = refl
length-with_offsets code at (i ∷ is) = ap suc (length-with_offsets code (at + size i) is)

-- a jump's number gives its offset
led_back : (raws : List Instr) (at : ℕ) (raw : Instr) (m : ℕ) → jumps raw ≡ true → m < length raws → (pos at +ℤ raw.a) ≡ pos (offset raws m)
    → let i : Instr = record { op = raw.op; wide = raw.wide; a = pos m; b = raw.b } in (with_offset raws at i ≡ raw) × LeadsInto (length raws) i
unfolding jumps offset_by
led_back raws at raw m e lt to =
    let a-is : (pos (offset raws m) -ℤ pos at) ≡ raw.a = omega (arith, ints) in
    (ap (λ (j : Bool). offset_by j raws at (record { op = raw.op; wide = raw.wide; a = pos m; b = raw.b })) e ∙ ap (λ (x : ℤ). record { op = raw.op; wide = raw.wide; a = x; b = raw.b }) a-is, λ _. (omega (arith, ints), omega (arith, ints)))

offset_of : (raws : List Instr) (starts : List ℕ) (at : ℕ) (raw i : Instr) (j : Bool) → jumps raw ≡ j → AreStarts raws starts → SettlesBy j starts at raw i
    → (with_offset raws at i ≡ raw) × LeadsInto (length raws) i
unfolding offset_by
offset_of raws starts at raw i true e h s =
    let lt : s.0 < length raws = omega (arith, s.1.0, h.many) in
    let to : (pos at +ℤ raw.a) ≡ pos (offset raws s.0) = s.1.1 ∙ ap (λ (t : ℕ). pos t) (h.each s.0 lt) in
    subst (λ (x : Instr). (with_offset raws at x ≡ raw) × LeadsInto (length raws) x) (sym s.2) (led_back raws at raw s.0 e lt to)
offset_of raws starts at raw i false e h s =
    let same : jumps i ≡ false = ap jumps s ∙ e in
    (ap (λ (j : Bool). offset_by j raws at i) same ∙ s, λ j. absurd cc)

-- a jump that leads somewhere isn't astray
not_astray : (raws : List Instr) (starts : List ℕ) (n : ℕ) (raw i : Instr) (j : Bool) → jumps raw ≡ j → AreStarts raws starts → slice_get raws n ≡ Some raw
    → SettlesBy j starts (offset raws n) raw i → ¬ (IsAstray raws n)
not_astray raws starts n raw i true e h here s astray =
    let lt : s.0 < length raws = omega (arith, s.1.0, h.many) in
    let same : astray.jump ≡ raw = let t = astray.here in cc in
    let to : (pos (offset raws n) +ℤ raw.a) ≡ pos (offset raws s.0) = s.1.1 ∙ ap (λ (t : ℕ). pos t) (h.each s.0 lt) in
    astray.nowhere s.0 lt (ap (λ (t : Instr). pos (offset raws n) +ℤ t.a) same ∙ to)
not_astray raws starts n raw i false e h here s astray =
    let same : astray.jump ≡ raw = let t = astray.here in cc in
    let j : jumps astray.jump ≡ false = ap jumps same ∙ e in
    let k = astray.jumping in absurd cc

-- a jump that leads nowhere is
pub is_astray : (raws : List Instr) (starts : List ℕ) (n : ℕ) (raw : Instr) → AreStarts raws starts → slice_get raws n ≡ Some raw → jumps_by (shape_of raw.op) ≡ true
    → LeadsNowhere starts (offset raws n) raw.a → IsAstray raws n
is_astray raws starts n raw h here j nowhere = record {
  jump = raw;
  here = here;
  jumping = jumps-is raw ∙ j;
  nowhere = λ k lt e. nowhere k (omega (arith, h.many)) (e ∙ ap (λ (t : ℕ). pos t) (sym (h.each k lt)));
}

targets_more : (n : ℕ) (code : List Instr) (i : Instr) → AllByRecursion (LeadsInto n) code → LeadsInto n i → AllByRecursion (LeadsInto n) (code ++ i ∷ [])
targets_more n [] i h f = (f, tt)
targets_more n (x ∷ xs) i h f = (h.0, targets_more n xs i h.1 f)

-- one more instruction
pub settled_more : (raws : List Instr) (starts : List ℕ) (n : ℕ) (raw i : Instr) (code : List Instr) → AreStarts raws starts → slice_get raws n ≡ Some raw → n < length raws
    → Settles starts (offset raws n) raw i → AreSettled raws n code → AreSettled raws (n + 1) (code ++ i ∷ [])
unfolding offset
settled_more raws starts n raw i code h here lt s so_far =
    let o = offset_of raws starts (offset raws n) raw i (jumps raw) refl h s in
    let total : sum_by size code ≡ offset raws n = sym (sum-with_offsets raws 0 code) ∙ ap (sum_by size) so_far.offsets in
    let at-is : 0 + sum_by size code ≡ offset raws n = omega arith in
    let last : with_offset raws (0 + sum_by size code) i ≡ raw = ap (λ (t : ℕ). with_offset raws t i) at-is ∙ o.0 in
    let next : take (n + 1) raws ≡ take n raws ++ raw ∷ [] = take_more raws n raw lt ∙ ap (λ (t : Instr). take n raws ++ t ∷ []) (get_or_from_slice_get raws n raw raw here) in
    record {
      offsets = with_offsets-push raws 0 code i ∙ ap (λ (t : List Instr). t ++ with_offset raws (0 + sum_by size code) i ∷ []) so_far.offsets ∙ ap (λ (t : Instr). take n raws ++ t ∷ []) last ∙ sym next;
      targets = targets_more (length raws) code i so_far.targets o.1;
      led = below_more (λ k. ¬ (IsAstray raws k)) n so_far.led (not_astray raws starts n raw i (jumps raw) refl h here s);
    }

-- ---- what the code computes

pub settles_plain : (starts : List ℕ) (at : ℕ) (raw : Instr) → jumps_by (shape_of raw.op) ≡ false → Settles starts at raw raw
settles_plain starts at raw e = subst (λ (j : Bool). SettlesBy j starts at raw raw) (sym (jumps-is raw ∙ e)) refl

pub settles_jump : (starts : List ℕ) (at : ℕ) (raw : Instr) (m : ℕ) → jumps_by (shape_of raw.op) ≡ true → SFits w32 raw.a → SFits w32 raw.b → m < 2 ^ 31
    → LeadsTo starts at (to_z w32 (of_z w32 raw.a)) m → Settles starts at raw (record { op = raw.op; wide = raw.wide; a = to_z w32 m; b = to_z w32 (of_z w32 raw.b) })
settles_jump starts at raw m e fa fb lt to =
    let a-is : to_z w32 (of_z w32 raw.a) ≡ raw.a = to_z-of_z w32 raw.a fa in
    let b-is : to_z w32 (of_z w32 raw.b) ≡ raw.b = to_z-of_z w32 raw.b fb in
    let m-is : to_z w32 m ≡ pos m = to_z_pos w32 m lt in
    let to' : LeadsTo starts at raw.a m = subst (λ (x : ℤ). LeadsTo starts at x m) a-is to in
    subst (λ (j : Bool). SettlesBy j starts at raw (record { op = raw.op; wide = raw.wide; a = to_z w32 m; b = to_z w32 (of_z w32 raw.b) })) (sym (jumps-is raw ∙ e))
    (m, to', ap (λ (x : ℤ). record { op = raw.op; wide = raw.wide; a = x; b = to_z w32 (of_z w32 raw.b) }) m-is ∙ ap (λ (x : ℤ). record { op = raw.op; wide = raw.wide; a = pos m; b = x }) b-is)

pub found_none : (starts : List ℕ) (at i : ℕ) → IsNotFalling starts → IsBinarySearchResult (λ y. nat_cmp y at) starts (Err i)
    → (k : ℕ) → k < length starts → get_or starts k 0 ≢ at
found_none starts at i not_falling h k lt e =
    let s = searched starts at (Err i) h not_falling in
    elim (cases_lt k i) [ inl below ↦ (let t = s.1 k below in omega arith) | inr past ↦ (let t = s.2 k past lt in omega arith) ]

pub first_astray : (raws : List Instr) (starts : List ℕ) (n : ℕ) (d : Instr) (code : List Instr) → AreStarts raws starts → n < length raws
    → (jumps_by (shape_of (get_or raws n d).op) ≡ true) × LeadsNowhere starts (get_or starts n 0) (get_or raws n d).a → AreSettled raws n code → IsFirstAstray raws (get_or starts n 0)
first_astray raws starts n d code h lt s so_far =
    let there : LeadsNowhere starts (offset raws n) (get_or raws n d).a = subst (λ (t : ℕ). LeadsNowhere starts t (get_or raws n d).a) (h.each n lt) s.1 in
    record { n = n; here = h.each n lt; astray = is_astray raws starts n (get_or raws n d) h (slice_get-get_or raws n d lt) s.0 there; first = so_far.led }

-- where the first n were changed, the others are as they were
same_here : (raws now : List Instr) (n : ℕ) (d : Instr) → drop n now ≡ drop n raws → get_or now n d ≡ get_or raws n d
same_here raws now n d e =
    let at : n + 0 ≡ n = omega arith in
    ap (λ k. get_or now k d) (sym at) ∙ sym (get_or-drop n now 0 d) ∙ ap (λ (l : List Instr). get_or l 0 d) e ∙ get_or-drop n raws 0 d ∙ ap (λ k. get_or raws k d) at

pub settled_here : (raws now : List Instr) (starts : List ℕ) (n : ℕ) (d i : Instr) → AreStarts raws starts → n < length raws → length now ≡ length raws → drop n now ≡ drop n raws
    → Settles starts (get_or starts n 0) (get_or now n d) i → AreSettled raws n (take n now)
    → AreSettled raws (n + 1) (take (n + 1) (set now n i)) × (drop (n + 1) (set now n i) ≡ drop (n + 1) raws)
settled_here raws now starts n d i h lt many others s so_far =
    let there : Settles starts (offset raws n) (get_or raws n d) i = subst (λ (x : Instr). Settles starts (offset raws n) x i) (same_here raws now n d others) (subst (λ (t : ℕ). Settles starts t (get_or now n d) i) (h.each n lt) s) in
    let next : take (n + 1) (set now n i) ≡ take n now ++ i ∷ [] =
    take_more (set now n i) n d (omega (arith, length-set now n i)) ∙ ap (λ (l : List Instr). l ++ get_or (set now n i) n d ∷ []) (take-set-le n now n i (omega arith)) ∙ ap (λ (x : Instr). take n now ++ x ∷ []) (get_or-set_same now n i d (omega arith)) in
    let more : drop (n + 1) now ≡ drop (n + 1) raws = sym (drop-drop 1 n now) ∙ ap (drop 1) others ∙ drop-drop 1 n raws in (
      subst (AreSettled raws (n + 1)) (sym next) (settled_more raws starts n (get_or raws n d) i (take n now) h (slice_get-get_or raws n d lt) lt there so_far),
      drop-set-lt (n + 1) now n i (omega arith) ∙ more,
    )

pub astray_here : (raws now : List Instr) (starts : List ℕ) (n : ℕ) (d : Instr) → AreStarts raws starts → n < length raws → drop n now ≡ drop n raws
    → (jumps_by (shape_of (get_or now n d).op) ≡ true) × LeadsNowhere starts (get_or starts n 0) (get_or now n d).a → AreSettled raws n (take n now) → IsFirstAstray raws (get_or starts n 0)
astray_here raws now starts n d h lt others s so_far =
    first_astray raws starts n d (take n now) h lt (subst (λ (x : Instr). (jumps_by (shape_of x.op) ≡ true) × LeadsNowhere starts (get_or starts n 0) x.a) (same_here raws now n d others) s) so_far

pub settled_all : (raws now : List Instr) (n : ℕ) → n ≡ length raws → length now ≡ length raws → AreSettled raws n (take n now) → AreSettled raws (length raws) now
settled_all raws now n e many h = subst (λ (l : List Instr). AreSettled raws (length raws) l) (take_all (length raws) now (omega arith)) (subst (λ (k : ℕ). AreSettled raws k (take k now)) e h)

-- an instruction that is no jump is settled as it is
pub plain_here : (raws : List Instr) (starts : List ℕ) (n : ℕ) (d : Instr) → AreStarts raws starts → n < length raws → jumps_by (shape_of (get_or raws n d).op) ≡ false
    → AreSettled raws n (take n raws) → AreSettled raws (n + 1) (take (n + 1) raws)
plain_here raws starts n d h lt plain so_far =
    let raw = get_or raws n d in
    subst (AreSettled raws (n + 1)) (sym (take_more raws n d lt))
    (settled_more raws starts n raw raw (take n raws) h (slice_get-get_or raws n d lt) lt (settles_plain starts (offset raws n) raw plain) so_far)
