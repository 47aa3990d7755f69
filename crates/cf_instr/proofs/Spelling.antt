-- The spelling of instructions, one after the other.
use Rattle.std.proofs.Common.{◌≡◌, ℕ, List, ◌++◌, Option, None, Some, sym, ap, subst, ◌∙◌, append_assoc, Result, Ok, Err}
use Rattle.std.specs.Prelude.{OnOk}
use Rattle.std.specs.Int.{w32}
use mir.Val.{SFits, to_z, of_z}
use Rattle.std.proofs.lemmas.Int.{to_z-of_z}
use Rattle.cf_form.specs.declared.instr.Instr.{Instr}
use Rattle.cf_form.specs.declared.shape.Shape.{Shape}
use Rattle.cf_form.specs.Opcodes.{shape_of}
use Rattle.cf_form.specs.Instructions.{operands, OperandsFit, bytes_of, FitsBy, Fits}
use Rattle.cf_instr.proofs.Beginning.{head, bytes_are}

-- what fits has a shape, and operands that fit it
pub fits_shape : (i : Instr) (o : Option Shape) (s : Shape) → o ≡ shape_of i.op → o ≡ Some s → Fits i → OperandsFit s i.wide i.a i.b
unfolding Fits
fits_shape i o s h e f = subst (λ (t : Option Shape). FitsBy t i) (sym h ∙ e) f

pub fits_some : (i : Instr) → shape_of i.op ≡ None → Fits i → ⊥
unfolding Fits
fits_some i e f = subst (λ (t : Option Shape). FitsBy t i) e f

-- a number as the code passes it is itself
pub passed : (s : Shape) (i : Instr) → SFits w32 i.a → SFits w32 i.b → OperandsFit s i.wide i.a i.b → OperandsFit s i.wide (to_z w32 (of_z w32 i.a)) (to_z w32 (of_z w32 i.b))
passed s i fa fb h = rw (to_z-of_z w32 i.a fa, to_z-of_z w32 i.b fb) h

pub spelled : (i : Instr) (s : Shape) (out before : List ℕ) → shape_of i.op ≡ Some s → SFits w32 i.a → SFits w32 i.b
    → out ≡ (before ++ head i.op i.wide) ++ operands s i.wide (to_z w32 (of_z w32 i.a)) (to_z w32 (of_z w32 i.b)) → out ≡ before ++ bytes_of i
spelled i s out before e fa fb h =
    let plain : out ≡ (before ++ head i.op i.wide) ++ operands s i.wide i.a i.b = rw (to_z-of_z w32 i.a fa, to_z-of_z w32 i.b fb) at h in
    plain ∙ append_assoc before (head i.op i.wide) (operands s i.wide i.a i.b) ∙ ap (λ (t : List ℕ). before ++ t) (sym (bytes_are i.op i.wide i.a i.b s e))

pub ok_then : {A B : Type 0} (r : Result A B) (P Q : Type 0) → OnOk r P → (P → Q) → OnOk r Q
ok_then (Ok x) P Q h f = f h
ok_then (Err e) P Q h f = h
