-- Conversions to types that are no Int and no Long.
use Rattle.std.proofs.Common.{◌≡◌, false, refl}
use Rattle.ty_prog.specs.declared.program.Program.{Program}
use Rattle.ty_prog.specs.declared.ty.Ty.{Ty}
use Rattle.ty_prog.specs.declared.ty.Ty.TheVariants as ty
use Rattle.sm_state.specs.declared.heap.Heap.{Heap}
use Rattle.sm_state.specs.declared.value.Value.{Value}
use Rattle.sm_state.specs.declared.value.Value.TheVariants as value
use Rattle.sm_rule.specs.Perform.{converted}
use Rattle.sm_act.specs.Forms.{plain_converted, is_number}

pub plain_is : (p : Program) (h : Heap) (type : Ty) (v : Value) → is_number type ≡ false → plain_converted p h type v ≡ converted p h type v
plain_is p h ty.Int v is = absurd (cc)
plain_is p h ty.Long v is = absurd (cc)
plain_is p h type value.Null is = refl
plain_is p h type v is = refl
