-- What the table has of `wide`.
use Rattle.std.proofs.Common.{◌≡◌, ℕ, Bool, true, false, cond, eqb, List, [], ◌∷◌, Option, Some, refl, sym, ap, ◌∙◌}
use Rattle.std.specs.Prelude.{◌&&◌}
use Rattle.std.proofs.lemmas.Bool.{eqb-true}
use Rattle.cf_form.specs.declared.op_form.OpForm.{OpForm}
use Rattle.cf_form.specs.declared.op_form.TheConstants.{FORMS}
use Rattle.cf_form.specs.declared.shape.Shape.{Shape}
use Rattle.cf_form.specs.declared.shape.Shape.TheVariants.{Local, Wide}
use Rattle.cf_form.specs.Opcodes.{shape_among, shape_of}
use Rattle.cf_form.specs.Instructions.{wide_opcode}

is_wide : Shape → Bool
is_wide Wide = true
is_wide _ = false

-- of these rows only that of `wide` has its shape
only_wide : List OpForm → Bool
only_wide [] = true
only_wide (row ∷ rows) = cond (is_wide row.shape) (eqb row.op wide_opcode) true && only_wide rows

both : (a b : Bool) → (a && b) ≡ true → (a ≡ true) × (b ≡ true)
both true b e = (refl, e)
both false b e = absurd cc

-- the first row has the opcode, or doesn't
row-wide : (row : OpForm) (rest : Option Shape) (op : ℕ) (b : Bool) → eqb op row.op ≡ b → cond (is_wide row.shape) (eqb row.op wide_opcode) true ≡ true
    → (rest ≡ Some Wide → op ≡ wide_opcode) → cond b (Some row.shape) rest ≡ Some Wide → op ≡ wide_opcode
unfolding is_wide
row-wide row rest op true t h later e =
    let s : row.shape ≡ Wide = cc in
    let k : eqb row.op wide_opcode ≡ true = sym (ap (λ (x : Shape). cond (is_wide x) (eqb row.op wide_opcode) true) s) ∙ h in
    eqb-true _ _ t ∙ eqb-true _ _ k
row-wide row rest op false t h later e = later e

among-wide : (rows : List OpForm) (op : ℕ) → only_wide rows ≡ true → shape_among rows op ≡ Some Wide → op ≡ wide_opcode
unfolding only_wide
among-wide [] op h e = absurd cc
among-wide (row ∷ rows) op h e =
    let p = both (cond (is_wide row.shape) (eqb row.op wide_opcode) true) (only_wide rows) h in
    row-wide row (shape_among rows op) op (eqb op row.op) refl p.0 (among-wide rows op p.1) e

pub wide_op : (op : ℕ) → shape_of op ≡ Some Wide → op ≡ wide_opcode
unfolding shape_of only_wide is_wide
wide_op op e = among-wide FORMS op refl e

pub wide_shape : shape_of wide_opcode ≡ Some Wide
unfolding shape_of
wide_shape = refl

-- `iload`
pub load_shape : shape_of 21 ≡ Some Local
unfolding shape_of
load_shape = refl
