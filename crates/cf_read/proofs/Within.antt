-- The codes of an outline are short, and each fault that is met lies within the bytes.
use Rattle.std.proofs.Common.{◌≡◌, subst, ℕ, ◌≤◌, ◌+◌, ◌-◌, inl, inr, List, [], ◌∷◌, ◌++◌, length, Option, None, Some, Ok, length-drop, arith}
use Rattle.std.specs.Option.{option_map_or}
use Rattle.std.specs.List.{AllByRecursion}
use Rattle.cf_form.specs.declared.constant.Const.{Const}
use Rattle.cf_read.specs.Codes.{IsBad, Refused, Unnamed, Table}
use Rattle.cf_read.specs.FileFaults.{IsMet, IsFaultBy}
use Rattle.cf_read.specs.Looking.{IsShort}
use Rattle.cf_read.specs.Reading.{Found, MethodOutline, FileOutline, outline_of}
use Rattle.cf_read.specs.declared.fault.Fault.{Fault}
use Rattle.cf_read.specs.declared.file_fault.FileKind.{FileKind}
use Rattle.cf_read.specs.declared.file_fault.FileKind.TheVariants as fault
use Rattle.cf_read.proofs.Bounds.{OptFits, FoundFits, MethodFits}
use Rattle.cf_read.proofs.SimpleKinds.{Met, outline_met}

fit_methods : (bytes : List ℕ) (o : FileOutline) → outline_of bytes ≡ Ok o → AllByRecursion (MethodFits (length bytes)) o.methods
fit_methods bytes o e = subst (Met (λ o. AllByRecursion (MethodFits (length bytes)) o.methods) bytes) e (outline_met bytes)

short_one : (n : ℕ) (m : MethodOutline) → MethodFits n m → IsShort m
short_one n m h = by m.code h
  where
    by : (o : Option Found) → OptFits n o → option_map_or (λ found. length found.code) o 0 ≤ 65535
    by None f = omega arith
    by (Some found) f = f.short

short_all : (n : ℕ) (ms : List MethodOutline) → AllByRecursion (MethodFits n) ms → AllByRecursion IsShort ms
short_all n [] h = tt
short_all n (m ∷ ms) h = (short_one n m h.0, short_all n ms h.1)

pub short_methods : (bytes : List ℕ) (o : FileOutline) → outline_of bytes ≡ Ok o → AllByRecursion IsShort o.methods
short_methods bytes o e = short_all (length bytes) o.methods (fit_methods bytes o e)

middle : {A : Type 0} (P : A → Type 0) (xs : List A) (x : A) (ys : List A) → AllByRecursion P (xs ++ x ∷ ys) → P x
middle P [] x ys h = h.0
middle P (y ∷ xs) x ys h = middle P xs x ys h.1

bad_within : (n : ℕ) (pool : List Const) (found : Found) (f : Fault) → FoundFits n found → IsBad pool found f → f.left ≤ n
bad_within n pool found f h (Refused at b) = omega (arith, length-drop at found.code_from, h.code)
bad_within n pool found f h (Unnamed at b) = omega (arith, length-drop (at + 1) found.code_from, h.code)
bad_within n pool found f h (Table code a b c k at d) = omega (arith, length-drop at found.rows_from, h.rows)

pub met_within : (bytes : List ℕ) (f : Fault) → IsMet bytes f → f.left ≤ length bytes
met_within bytes f (inl e) = (subst (Met (λ o. AllByRecursion (MethodFits (length bytes)) o.methods) bytes) e (outline_met bytes)).0
met_within bytes f (inr h) =
    let bad = h.2 in
    let fits = subst (AllByRecursion (MethodFits (length bytes))) bad.are (fit_methods bytes h.0 h.1) in
    let one = middle (MethodFits (length bytes)) bad.before bad.method bad.after fits in
    bad_within (length bytes) h.0.pool bad.found f (subst (OptFits (length bytes)) bad.has_code one) bad.bad

-- the fault with its offset
pub fault_at : (bytes : List ℕ) (f : Fault) → IsMet bytes f → IsFaultBy bytes f.kind (length bytes - f.left)
fault_at bytes f m = by f.kind m
  where
    placed : length bytes - f.left + f.left ≡ length bytes
    placed = omega (arith, met_within bytes f m)

    by : (k : FileKind) → IsMet bytes (record { kind = k; left = f.left }) → IsFaultBy bytes k (length bytes - f.left)
    by fault.Magic h = (f.left, h, placed)
    by fault.Version h = (f.left, h, placed)
    by fault.Cut h = (f.left, h, placed)
    by fault.Rest h = (f.left, h, placed)
    by fault.Tag h = (f.left, h, placed)
    by fault.Index h = (f.left, h, placed)
    by fault.Utf h = (f.left, h, placed)
    by fault.Code h = (f.left, h, placed)
    by fault.Double h = (f.left, h, placed)
    by fault.Memory h = tt
