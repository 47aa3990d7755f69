-- Whole instructions at the front of bytes.
use Rattle.std.proofs.Common.{◌≡◌, refl, sym, ap, ◌∙◌, subst, ℕ, ◌-◌, ◌≤◌, List, [], ◌∷◌, ◌++◌, length, append_assoc, arith}
use Rattle.std.specs.List.{flat_map, AllByRecursion}
use Rattle.std.proofs.lemmas.List.{append-nil, length-append}
use Rattle.std.proofs.lemmas.List.Concat.{flat_map-append}
use Rattle.cf_form.specs.Instructions.{bytes_of, Fits}
use Rattle.cf_form.specs.ClassFiles.{NamesWell}
use Rattle.cf_form.specs.declared.constant.Const.{Const}
use Rattle.cf_form.specs.declared.instr.Instr.{Instr}
use Rattle.cf_instr.proofs.Parsing.{one_instr, Stuck}
use Rattle.cf_instr.proofs.Sizes.{size-within}
use Rattle.cf_read.specs.Looking.{AllNameWell, AreNamedTo, IsUnnamedAt}

pub all_push : {A : Type 0} (P : A → Type 0) (xs : List A) (x : A) → AllByRecursion P xs → P x → AllByRecursion P (xs ++ x ∷ [])
all_push P [] x h p = (p, tt)
all_push P (y ∷ ys) x h p = (h.0, all_push P ys x h.1 p)

pub all_join : {A : Type 0} (P : A → Type 0) (xs ys : List A) → AllByRecursion P xs → AllByRecursion P ys → AllByRecursion P (xs ++ ys)
all_join P [] ys h k = k
all_join P (x ∷ xs) ys h k = (h.0, all_join P xs ys h.1 k)

pub bytes_push : (xs : List Instr) (x : Instr) → flat_map bytes_of (xs ++ x ∷ []) ≡ flat_map bytes_of xs ++ bytes_of x
bytes_push xs x = flat_map-append bytes_of xs (x ∷ []) ∙ ap (λ l. flat_map bytes_of xs ++ l) (append-nil (bytes_of x))

behind : (x : Instr) (xs : List Instr) (r : List ℕ) → flat_map bytes_of (x ∷ xs) ++ r ≡ bytes_of x ++ (flat_map bytes_of xs ++ r)
behind x xs r = append_assoc (bytes_of x) (flat_map bytes_of xs) r

-- what holds of all instructions that begin the bytes holds of those of any other front
pub front_has : (P : Instr → Type 0) (xs ys : List Instr) (r s : List ℕ) → AllByRecursion Fits xs → AllByRecursion Fits ys → Stuck r
    → flat_map bytes_of xs ++ r ≡ flat_map bytes_of ys ++ s → AllByRecursion P xs → AllByRecursion P ys
front_has P xs [] r s fx fy stuck e h = tt
front_has P [] (y ∷ ys) r s fx fy stuck e h = absurd (stuck y (flat_map bytes_of ys ++ s) fy.0 (e ∙ behind y ys s))
front_has P (x ∷ xs) (y ∷ ys) r s fx fy stuck e h =
    let p = one_instr x y (flat_map bytes_of xs ++ r) (flat_map bytes_of ys ++ s) fx.0 fy.0 (sym (behind x xs r) ∙ e ∙ behind y ys s) in
    (subst P p.0 h.0, front_has P xs ys r s fx.1 fy.1 stuck p.1 h.1)

-- or of those of a front that isn't longer
pub shorter_has : (P : Instr → Type 0) (xs ys : List Instr) (r s : List ℕ) → AllByRecursion Fits xs → AllByRecursion Fits ys
    → length (flat_map bytes_of ys) ≤ length (flat_map bytes_of xs)
    → flat_map bytes_of xs ++ r ≡ flat_map bytes_of ys ++ s → AllByRecursion P xs → AllByRecursion P ys
shorter_has P xs [] r s fx fy l e h = tt
shorter_has P [] (y ∷ ys) r s fx fy l e h =
    let some = size-within y fy.0 in
    absurd (omega (arith, length-append (bytes_of y) (flat_map bytes_of ys), some.0))
shorter_has P (x ∷ xs) (y ∷ ys) r s fx fy l e h =
    let p = one_instr x y (flat_map bytes_of xs ++ r) (flat_map bytes_of ys ++ s) fx.0 fy.0 (sym (behind x xs r) ∙ e ∙ behind y ys s) in
    let less : length (flat_map bytes_of ys) ≤ length (flat_map bytes_of xs) =
    omega (arith, length-append (bytes_of x) (flat_map bytes_of xs), length-append (bytes_of y) (flat_map bytes_of ys), ap (λ i. length (bytes_of i)) p.0) in
    (subst P p.0 h.0, shorter_has P xs ys r s fx.1 fy.1 less p.1 h.1)

pub named_start : (pool : List Const) (code : List ℕ) → AreNamedTo pool code code
named_start pool code = record { front = []; fits = tt; splits = refl; names = tt }

pub named_more : (pool : List Const) (code rest after : List ℕ) (i : Instr) → AreNamedTo pool code rest → Fits i → rest ≡ bytes_of i ++ after → NamesWell pool i
    → AreNamedTo pool code after
named_more pool code rest after i h f e n = record {
  front = h.front ++ i ∷ [];
  fits = all_push Fits h.front i h.fits f;
  splits = h.splits ∙ ap (λ l. flat_map bytes_of h.front ++ l) e ∙ sym (append_assoc (flat_map bytes_of h.front) (bytes_of i) after)
      ∙ ap (λ l. l ++ after) (sym (bytes_push h.front i));
  names = all_push (NamesWell pool) h.front i h.names n;
}

pub named_all : (pool : List Const) (code rest : List ℕ) → AreNamedTo pool code rest → Stuck rest → AllNameWell pool code
named_all pool code rest h stuck front behind fits e =
    front_has (NamesWell pool) h.front front rest behind h.fits fits stuck (sym h.splits ∙ e) h.names

pub unnamed_here : (pool : List Const) (code rest after : List ℕ) (i : Instr) (at : ℕ) → AreNamedTo pool code rest → Fits i → rest ≡ bytes_of i ++ after
    → at ≡ length code - length rest → ¬ (NamesWell pool i) → IsUnnamedAt pool code at
unnamed_here pool code rest after i at h f e a n = record {
  front = h.front;
  instr = i;
  rest = after;
  fits = h.fits;
  instr_fits = f;
  splits = h.splits ∙ ap (λ l. flat_map bytes_of h.front ++ l) e ∙ sym (append_assoc (flat_map bytes_of h.front) (bytes_of i) after);
  before = omega (arith, ap length h.splits ∙ length-append (flat_map bytes_of h.front) rest, a);
  names = h.names;
  bad = n;
}
