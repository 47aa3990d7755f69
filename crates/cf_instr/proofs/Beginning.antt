-- What the reading of operands tells of an instruction.
use Rattle.std.proofs.Common.{◌≡◌, ℕ, ◌≤◌, ◌<◌, ℤ, pos, Bool, true, false, cond, List, [], ◌∷◌, ◌++◌, length, Option, Some, refl, sym, ap, subst, ◌∙◌, append_assoc, arith, Bor}
use Rattle.std.specs.Prelude.{IsTrue, ◌≢◌, Result, Ok, Err, MatchResult}
use Rattle.cf_form.specs.declared.instr.Instr.{Instr}
use Rattle.cf_form.specs.declared.shape.Shape.{Shape}
use Rattle.cf_form.specs.declared.shape.Shape.TheVariants.{Plain, Signed1, Signed2, Pool1, Pool2, Local, Step, Jump2, Jump4, Face, Wide}
use Rattle.cf_form.specs.Opcodes.{shape_of}
use Rattle.cf_form.specs.Instructions.{operands, OperandsFit, bytes_by, bytes_of, FitsBy, Fits, wide_opcode}
use Rattle.cf_instr.specs.declared.code_fault.CodeKind.{CodeKind}
use Rattle.cf_instr.specs.declared.code_fault.CodeKind.TheVariants as kinds
use Rattle.cf_instr.specs.Faults.{Stops, IsCutShort}
use Rattle.cf_instr.specs.Reading.{Reads, Misreads, width}
use Rattle.cf_instr.proofs.Filling.{IsBytes, allows, filled_up, Is2-pos}
use Rattle.cf_instr.proofs.Table.{wide_op, load_shape}

-- what stands before the operands
abbrev pub head : ℕ → Bool → List ℕ
head op w = (cond w (wide_opcode ∷ []) []) ++ op ∷ []

abbrev pub instr : ℕ → Bool → ℤ → ℤ → Instr
instr op w a b = record { op = op; wide = w; a = a; b = b }

pub bytes_are : (op : ℕ) (w : Bool) (a b : ℤ) (s : Shape) → shape_of op ≡ Some s → bytes_of (instr op w a b) ≡ head op w ++ operands s w a b
unfolding bytes_of
bytes_are op true a b s e = ap (λ (o : Option Shape). bytes_by o (instr op true a b)) e
bytes_are op false a b s e = ap (λ (o : Option Shape). bytes_by o (instr op false a b)) e

pub fits_are : (op : ℕ) (w : Bool) (a b : ℤ) (s : Shape) → shape_of op ≡ Some s → OperandsFit s w a b → Fits (instr op w a b)
unfolding Fits
fits_are op w a b s e h = subst (λ (o : Option Shape). FitsBy o (instr op w a b)) (sym e) h

taken : (op : ℕ) (w : Bool) (s : Shape) (bytes : List ℕ) (a b : ℤ) (rest : List ℕ) → shape_of op ≡ Some s → Reads s w bytes a b rest
    → Fits (instr op w a b) × (head op w ++ bytes ≡ bytes_of (instr op w a b) ++ rest)
taken op w s bytes a b rest e h =
    (fits_are op w a b s e h.0, ap (λ (t : List ℕ). head op w ++ t) h.1 ∙ sym (append_assoc (head op w) (operands s w a b) rest) ∙ ap (λ (t : List ℕ). t ++ rest) (sym (bytes_are op w a b s e)))

cut : (op : ℕ) (w : Bool) (s : Shape) (bytes : List ℕ) → shape_of op ≡ Some s → IsTrue (allows s w) → IsBytes bytes → length bytes < width s w → IsCutShort (head op w ++ bytes)
cut op w s bytes e ok h lt =
    let f = filled_up s w ok bytes h lt in
    record {
      begun = elim w as (λ v. 1 ≤ length (head op v ++ bytes)) [ true ↦ omega arith | false ↦ omega arith ];
      whole = instr op w f.a f.b;
      fits = fits_are op w f.a f.b s e f.fits;
      more = f.more;
      missing = f.missing;
      spelled = bytes_are op w f.a f.b s e ∙ ap (λ (t : List ℕ). head op w ++ t) f.spelled ∙ sym (append_assoc (head op w) bytes f.more);
    }

missed : (op : ℕ) (w : Bool) (s : Shape) (bytes : List ℕ) (kind : CodeKind) → shape_of op ≡ Some s → IsTrue (allows s w) → IsBytes bytes → Misreads s w bytes kind → Stops kind (head op w ++ bytes)
missed op w s bytes kinds.Cut e ok h m = cut op w s bytes e ok h m
missed op false Face bytes kinds.Shape e ok h m =
    record { op = op; high = m.0; low = m.1; count = m.2; last = m.3; more = m.4; parts = ap (λ (t : List ℕ). op ∷ t) m.5; face = e; wrong = m.6 }
missed op true Face bytes kinds.Shape e ok h m = absurd cc
missed op w Plain bytes kinds.Shape e ok h m = absurd m
missed op w Signed1 bytes kinds.Shape e ok h m = absurd m
missed op w Signed2 bytes kinds.Shape e ok h m = absurd m
missed op w Pool1 bytes kinds.Shape e ok h m = absurd m
missed op w Pool2 bytes kinds.Shape e ok h m = absurd m
missed op w Local bytes kinds.Shape e ok h m = absurd m
missed op w Step bytes kinds.Shape e ok h m = absurd m
missed op w Jump2 bytes kinds.Shape e ok h m = absurd m
missed op w Jump4 bytes kinds.Shape e ok h m = absurd m
missed op w Wide bytes kinds.Shape e ok h m = absurd m
missed op w s bytes kinds.Opcode e ok h m = absurd m
missed op w s bytes kinds.Jump e ok h m = absurd m
missed op w s bytes kinds.Memory e ok h m = absurd m

pub allows-plain : (s : Shape) → s ≢ Wide → IsTrue (allows s false)
allows-plain Plain h = refl
allows-plain Signed1 h = refl
allows-plain Signed2 h = refl
allows-plain Pool1 h = refl
allows-plain Pool2 h = refl
allows-plain Local h = refl
allows-plain Step h = refl
allows-plain Jump2 h = refl
allows-plain Jump4 h = refl
allows-plain Face h = refl
allows-plain Wide h = absurd (h refl)

-- an instruction at the front of bytes, or why there is none
abbrev pub Begun : List ℕ → Result (Instr × Bor (List ℕ)) CodeKind → Type 0
Begun bytes r = MatchResult r (λ x. Fits x.0 × (bytes ≡ bytes_of x.0 ++ x.1.now)) (λ kind. Stops kind bytes)

-- what the reading of the operands gave, handed on
pub handed : (op : ℕ) (w : Bool) (s : Shape) (bytes : List ℕ) → shape_of op ≡ Some s → IsTrue (allows s w) → IsBytes bytes
    → (read : Result (ℤ × ℤ × Bor (List ℕ)) CodeKind) → MatchResult read (λ x. Reads s w bytes x.0 x.1 x.2.now) (Misreads s w bytes)
    → (r : Result (Instr × Bor (List ℕ)) CodeKind) → MatchResult read (λ x. r ≡ Ok (instr op w x.0 x.1, x.2)) (λ kind. r ≡ Err kind)
    → Begun (head op w ++ bytes) r
handed op w s bytes e ok h (Ok x) m r q = subst (Begun (head op w ++ bytes)) (sym q) (taken op w s bytes x.0 x.1 x.2.now e m)
handed op w s bytes e ok h (Err k) m r q = subst (Begun (head op w ++ bytes)) (sym q) (missed op w s bytes k e ok h m)

-- nothing behind `wide`
pub cut_wide : IsCutShort (wide_opcode ∷ [])
cut_wide = record {
  begun = omega arith;
  whole = instr 21 true (pos 0) (pos 0);
  fits = fits_are 21 true (pos 0) (pos 0) Local load_shape (Is2-pos 0 (omega arith), refl);
  more = 21 ∷ 0 ∷ 0 ∷ [];
  missing = omega arith;
  spelled = bytes_are 21 true (pos 0) (pos 0) Local load_shape;
}

-- `wide` alone has its shape
pub behind_wide : (op : ℕ) (bytes : List ℕ) (r : Result (Instr × Bor (List ℕ)) CodeKind) → shape_of op ≡ Some Wide → Begun (wide_opcode ∷ bytes) r → Begun (op ∷ bytes) r
behind_wide op bytes r e h = subst (λ (o : ℕ). Begun (o ∷ bytes) r) (sym (wide_op op e)) h
