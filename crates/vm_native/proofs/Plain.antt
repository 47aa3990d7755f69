-- Instructions that are made or can't be made, and do nothing else.
use Rattle.std.proofs.Common.{◌≡◌, ℕ, Bool, true, false, List, Option, None, Some, sym, subst, length}
use Rattle.std.specs.Prelude.{if◌then◌else◌, nat_lt}
use Rattle.vm_native.specs.Acts.{Acts}
use Rattle.vm_state.specs.declared.frame.Frame.{Frame}
use Rattle.vm_state.specs.declared.heap.Heap.{Heap}
use Rattle.vm_state.specs.declared.heap.Object.{Object}
use Rattle.vm_state.specs.declared.outcomes.HeapEffect.{HeapEffect}
use Rattle.vm_state.specs.declared.outcomes.HeapEffect.TheVariants.{Done, Waits, Stuck, Fail, Call, Initialise, Memory}
use Rattle.vm_state.specs.declared.value.Value.{Value}
use Rattle.vm_state.specs.Heaps.{set_field}
use Rattle.vm_state.specs.Instructions.{next}
use Rattle.vm_state.specs.Shared.{Shared, Shares, IsPlain, rests, written}

pub plain_acts : (a : Shared) (e : HeapEffect) (h h' : Heap) (f f' : Frame) → IsPlain a.effect → Shares a e h h' f f' → Acts a e h h' f f'
plain_acts a Done h h' f f' p s = s
plain_acts a Memory h h' f f' p s = s
plain_acts a Waits h h' f f' p s = s
plain_acts a (Stuck kind) h h' f f' p s = s
plain_acts a (Fail class) h h' f f' p s = absurd (subst IsPlain (sym s.0) p)
plain_acts a (Call target count) h h' f f' p s = absurd (subst IsPlain (sym s.0) p)
plain_acts a (Initialise target) h h' f f' p s = absurd (subst IsPlain (sym s.0) p)

either : (b : Bool) (x y : Shared) → IsPlain x.effect → IsPlain y.effect → IsPlain (if b then x else y).effect
either true x y p q = p
either false x y p q = q

pub written_plain : (h : Heap) (f : Frame) (at n : ℕ) (v : Value) (vs : List Value) (o : Option Object) → IsPlain (written h f at n v vs o).effect
written_plain h f at n v vs None = tt
written_plain h f at n v vs (Some o) = either (nat_lt n (length o.fields)) _ _ tt tt

pub written_acts : (h h' : Heap) (f f' : Frame) (at n : ℕ) (v : Value) (vs : List Value) (o : Option Object) (e : HeapEffect) → Shares (written h f at n v vs o) e h h' f f' → Acts (written h f at n v vs o) e h h' f f'
written_acts h h' f f' at n v vs o e s = plain_acts (written h f at n v vs o) e h h' f f' (written_plain h f at n v vs o) s
