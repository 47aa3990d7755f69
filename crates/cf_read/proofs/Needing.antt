-- An instruction that needs an entry doesn't jump, so it is the same with offsets and with numbers.
use Rattle.std.proofs.Common.{◌≡◌, refl, sym, ap, ◌∙◌, subst, ℕ, ◌+◌, ◌<◌, ◌≤◌, zero, suc, ◌⊎◌, inl, inr, List, [], ◌∷◌, length, take, get_or, arith, Option, None, Some, Bool, true, false}
use Rattle.std.specs.Prelude.{◌&&◌, IfSome, IsTrue, MatchOption}
use Rattle.std.specs.Option.{is_some}
use Rattle.std.specs.List.{AllByRecursion}
use Rattle.std.proofs.lemmas.Bool.{agree_below_at, cases_lt, cases_Bool, cond-false}
use Rattle.std.proofs.lemmas.Bool.Decides.{nat_tests}
use Rattle.std.proofs.lemmas.List.{take_more, take_all}
use Rattle.cf_form.specs.Opcodes.{shape_of}
use Rattle.cf_form.specs.Pool.{kind_needed, names}
use Rattle.cf_form.specs.ClassFiles.{NamesWell}
use Rattle.cf_form.specs.Instructions.{jumps, jumps_by, with_offset, with_offsets, size, IsCode, code_bytes, number}
use Rattle.cf_form.specs.declared.constant.Const.{Const}
use Rattle.cf_form.specs.declared.kind.Kind.{Kind}
use Rattle.cf_form.specs.declared.instr.Instr.{Instr}
use Rattle.cf_instr.proofs.Codes.{raws, code_bytes-is}
use Rattle.cf_instr.proofs.Targets.{jumps-is, with_offset-op}
use Rattle.cf_read.specs.Looking.{AllNameWell, IsUnnamedAt}
use Rattle.cf_read.proofs.Parses.{all_push}

both : ℕ → Bool
both op = is_some (kind_needed op) && jumps_by (shape_of op)

none_both : (op : ℕ) → op < 256 → both op ≡ false
unfolding both kind_needed shape_of
none_both op l = agree_below_at both (λ _. false) 256 op refl l

needed_past : (op : ℕ) → 256 ≤ op → kind_needed op ≡ None
unfolding kind_needed
needed_past op l = grind (arith, nat_tests)

none_both_at : (op : ℕ) → op < 256 → (is_some (kind_needed op) && jumps_by (shape_of op)) ≡ false
unfolding both
none_both_at op l = none_both op l

-- what needs an entry doesn't jump
pub needs_none : (i : Instr) → jumps i ≡ true → kind_needed i.op ≡ None
needs_none i j = by (cases_lt i.op 256)
  where
    shaped : jumps_by (shape_of i.op) ≡ true
    shaped = sym (jumps-is i) ∙ j

    none : (o : Option Kind) → is_some o && true ≡ false → o ≡ None
    none None e = refl
    none (Some k) e = absurd cc

    by : (i.op < 256) ⊎ (256 ≤ i.op) → kind_needed i.op ≡ None
    by (inl l) = none (kind_needed i.op) (ap (λ b. is_some (kind_needed i.op) && b) (sym shaped) ∙ none_both_at i.op l)
    by (inr l) = needed_past i.op l

plain : (code : List Instr) (at : ℕ) (i : Instr) → jumps i ≡ false → with_offset code at i ≡ i
plain code at i e = cond-false (jumps i) _ i e

-- an instruction names well with the offset of its jump exactly if it does with the number
pub names_raw : (pool : List Const) (code : List Instr) (at : ℕ) (i : Instr) → NamesWell pool (with_offset code at i) → NamesWell pool i
names_raw pool code at i h = by (cases_Bool (jumps i))
  where
    by : (jumps i ≡ true) ⊎ (jumps i ≡ false) → NamesWell pool i
    by (inl e) = subst (λ (o : Option Kind). IfSome o (λ needed. IsTrue (names pool needed (number i.a)))) (sym (needs_none i e)) tt
    by (inr e) = subst (NamesWell pool) (plain code at i e) h

pub names_back : (pool : List Const) (code : List Instr) (at : ℕ) (i : Instr) → NamesWell pool i → NamesWell pool (with_offset code at i)
names_back pool code at i h = by (cases_Bool (jumps i))
  where
    none : jumps i ≡ true → kind_needed (with_offset code at i).op ≡ None
    none e = ap kind_needed (with_offset-op code at i) ∙ needs_none i e

    by : (jumps i ≡ true) ⊎ (jumps i ≡ false) → NamesWell pool (with_offset code at i)
    by (inl e) = subst (λ (o : Option Kind). IfSome o (λ needed. IsTrue (names pool needed (number (with_offset code at i).a)))) (sym (none e)) tt
    by (inr e) = subst (NamesWell pool) (sym (plain code at i e)) h

all_names : (pool : List Const) (code : List Instr) (at : ℕ) (is : List Instr) → AllByRecursion (NamesWell pool) (with_offsets code at is) → AllByRecursion (NamesWell pool) is
all_names pool code at [] h = tt
all_names pool code at (i ∷ is) h = (names_raw pool code at i h.0, all_names pool code (at + size i) is h.1)

pub all_names_back : (pool : List Const) (code : List Instr) (at : ℕ) (is : List Instr) → AllByRecursion (NamesWell pool) is → AllByRecursion (NamesWell pool) (with_offsets code at is)
all_names_back pool code at [] h = tt
all_names_back pool code at (i ∷ is) h = (names_back pool code at i h.0, all_names_back pool code (at + size i) is h.1)

pub code_names : (pool : List Const) (code : List ℕ) (instrs : List Instr) → IsCode instrs → code ≡ code_bytes instrs → AllNameWell pool code
    → AllByRecursion (NamesWell pool) instrs
code_names pool code instrs h e named = all_names pool instrs 0 instrs (named (raws instrs) [] h.fits (e ∙ code_bytes-is instrs))

-- what the way through the bytes of a code tells of its instructions
pub unnamed_of : (pool : List Const) (code : List ℕ) (instrs : List Instr) (r : Option ℕ) → IsCode instrs → code ≡ code_bytes instrs → MatchOption r (AllNameWell pool code) (IsUnnamedAt pool code)
    → MatchOption r (AllByRecursion (NamesWell pool) instrs) (IsUnnamedAt pool code)
unnamed_of pool code instrs None c e h = code_names pool code instrs c e h
unnamed_of pool code instrs (Some at) c e h = h

-- one more that names what it needs
pub all_more : {A : Type 0} (P : A → Type 0) (xs : List A) (n : ℕ) (x : A) → n < length xs → AllByRecursion P (take n xs) → P (get_or xs n x) → AllByRecursion P (take (n + 1) xs)
all_more P xs n x lt h p = rw (take_more xs n x lt) (all_push P (take n xs) (get_or xs n x) h p)

pub all_done : {A : Type 0} (P : A → Type 0) (xs : List A) (n : ℕ) → length xs ≤ n → AllByRecursion P (take n xs) → AllByRecursion P xs
all_done P xs n le h = rw (take_all n xs le) at h

pub all_at : {A : Type 0} (P : A → Type 0) (xs : List A) (n : ℕ) (x : A) → n < length xs → AllByRecursion P xs → P (get_or xs n x)
all_at P [] n x lt h = absurd (omega (arith, lt))
all_at P (y ∷ xs) zero x lt h = h.0
all_at P (y ∷ xs) (suc n) x lt h = all_at P xs n x (omega (arith, lt)) h.1
