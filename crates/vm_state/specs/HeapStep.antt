-- Heap steps: those that touch what threads share. They are the steps of which `local_step` tells AtHeap, which has looked at
-- the operands then.
use Rattle.std.specs.Prelude.{◌≡◌, ℕ, if◌then◌else◌, nat_le, List, [], ◌∷◌, length, Option, Some, None, slice_get}
use Rattle.ty_prog.specs.declared.event.Event.TheVariants as event
use Rattle.cf_form.specs.declared.instr.Instr.{Instr}
use Rattle.cf_link.specs.declared.linked.Linked.{Linked}
use Rattle.cf_link.specs.declared.member.LinkedMethod.{LinkedMethod}
use Rattle.cf_link.specs.declared.native.Native.{Native}
use Rattle.cf_link.specs.declared.reference.LinkedRef.{LinkedRef}
use Rattle.cf_link.specs.declared.reference.LinkedRef.TheVariants as ref
use Rattle.cf_link.specs.declared.value_kind.ValueKind.{ValueKind}
use Rattle.cf_link.specs.declared.built_in.TheConstants.{ERROR, ARITHMETIC_EXCEPTION, NULL_POINTER_EXCEPTION, CLASS_CAST_EXCEPTION, EXCEPTION_IN_INITIALIZER_ERROR}
use Rattle.cf_link.specs.Classes.{is_static, method_at, conforms}
use Rattle.vm_state.specs.declared.value.Value.{Value}
use Rattle.vm_state.specs.declared.value.Value.TheVariants as value
use Rattle.vm_state.specs.declared.frame.Frame.{Frame}
use Rattle.vm_state.specs.declared.thread.Thread.{Thread}
use Rattle.vm_state.specs.declared.heap.Heap.{Heap}
use Rattle.vm_state.specs.declared.heap.Init.{Init}
use Rattle.vm_state.specs.declared.heap.Init.TheVariants as init
use Rattle.vm_state.specs.declared.target.Target.{Target}
use Rattle.vm_state.specs.declared.action.Action.{Action}
use Rattle.vm_state.specs.declared.action.Action.TheVariants as act
use Rattle.vm_state.specs.declared.action.HeapAction.{HeapAction}
use Rattle.vm_state.specs.declared.action.HeapAction.TheVariants as heap
use Rattle.vm_state.specs.declared.action.Invocation.{Invocation}
use Rattle.vm_state.specs.declared.outcomes.StuckKind.{StuckKind}
use Rattle.vm_state.specs.declared.outcomes.StuckKind.TheVariants.{Stack, WrongKind, PcOut, NoMethod}
use Rattle.vm_state.specs.declared.outcomes.HeapEffect.{HeapEffect}
use Rattle.vm_state.specs.declared.outcomes.HeapEffect.TheVariants as effect
use Rattle.vm_state.specs.declared.outcomes.HeapMove.{HeapMove}
use Rattle.vm_state.specs.declared.outcomes.HeapMove.TheVariants.{Moved, Waits, Stuck, Memory}
use Rattle.vm_state.specs.declared.outcomes.LocalStep.{LocalStep}
use Rattle.vm_state.specs.declared.outcomes.LocalStep.TheVariants as step
use Rattle.vm_state.specs.Values.{is_null}
use Rattle.vm_state.specs.Actions.{action_of}
use Rattle.vm_state.specs.Methods.{code_of, instr_at, ref_at, class_of, is_initialiser, are_arguments}
use Rattle.vm_state.specs.Local.{LocalAfter, selection, entered}
use Rattle.vm_state.specs.Heaps.{with_init, field_at, thrown_value, with_exception}
use Rattle.vm_state.specs.Shared.{Shared, rests, needing, get_field, put_field, if_same_texts}
use Rattle.vm_state.specs.Needing.{gets_static, puts_static, makes}
use Rattle.vm_state.specs.Natives.{natively, class_text, message_in, with_event}

-- what a heap step comes to, and the heap and the thread after it
pub record HeapAfter : Type 0 where
  pub move : HeapMove
  pub heap : Heap
  pub thread : Thread

-- the code did this, or lacked memory; only a step that is made changes anything
abbrev pub IsHeapStep : HeapAfter → HeapMove → Heap → Heap → Thread → Thread → Type 0
IsHeapStep a Memory h h' t t' = (h' ≡ h) × (t' ≡ t)
IsHeapStep a Moved h h' t t' = (Moved ≡ a.move) × (h' ≡ a.heap) × (t' ≡ a.thread)
IsHeapStep a m h h' t t' = (m ≡ a.move) × (h' ≡ h) × (t' ≡ t)

-- a step that isn't made
abbrev pub halts : Heap → Thread → HeapMove → HeapAfter
halts h t m = record { move = m; heap = h; thread = t }

-- a step that is made
abbrev pub goes_to : Heap → Thread → HeapAfter
goes_to h t = record { move = Moved; heap = h; thread = t }

-- ---- what an instruction does to its thread

-- an exception of this class is made and thrown
abbrev pub fails : Linked → Heap → Thread → ℕ → HeapAfter
fails k h t class = goes_to (with_exception k h class) (record t { thrown = Some (thrown_value h class) })

-- a method is entered, where the local step says so, and then h' is the heap
abbrev pub enters_by : Heap → Heap → Thread → Thread → LocalStep → HeapAfter
enters_by h h' t u step.Stepped = goes_to h' u
enters_by h h' t u (step.Stuck kind) = halts h t (Stuck kind)
enters_by h h' t u _ = halts h t (Stuck NoMethod)

-- the same, by what the local step leaves
abbrev pub enters_with : Heap → Heap → Thread → LocalAfter → HeapAfter
enters_with h h' t a = enters_by h h' t a.thread a.step

-- a call of a method, and then h' is the heap
abbrev pub enters_target : Linked → Heap → Heap → Thread → Frame → List Frame → Target → ℕ → HeapAfter
enters_target k h h' t f fs target count =
    enters_with h h' t (entered t f fs target count (code_of k target.class target.method))

-- the heap where a class that has come so far, and is used without an initialiser, is ready
abbrev pub ready_by : Heap → ℕ → Option Init → Heap
ready_by h class (Some init.NotYet) = with_init h class init.Ready
ready_by h class other = h

-- the heap where a class that is used without an initialiser is ready
abbrev pub made_ready : Heap → ℕ → Heap
made_ready h class = ready_by h class (slice_get h.inits class)

-- what an instruction's effect does to its thread; the class of a method that is called is ready by then, and an initialiser
-- is entered by the thread that is to run it (JVMS 5.5)
abbrev pub settles_by : Linked → Heap → Thread → Frame → List Frame → Heap → Frame → HeapEffect → HeapAfter
settles_by k h t f fs h' g effect.Done = goes_to h' (record t { frames = g ∷ fs })
settles_by k h t f fs h' g effect.Waits = halts h t Waits
settles_by k h t f fs h' g (effect.Stuck kind) = halts h t (Stuck kind)
settles_by k h t f fs h' g (effect.Fail class) = fails k h t class
settles_by k h t f fs h' g (effect.Call target count) =
    enters_target k h (made_ready h target.class) t f fs target count
settles_by k h t f fs h' g (effect.Initialise target) =
    enters_target k h (with_init h target.class (init.Running t.number)) t f fs target 0
settles_by k h t f fs h' g effect.Memory = halts h t Memory

-- what an instruction does to its thread
abbrev pub settles : Linked → Heap → Thread → Frame → List Frame → Shared → HeapAfter
settles k h t f fs a = settles_by k h t f fs a.heap a.frame a.effect

-- ---- calls of static methods (JVMS 6.5: invokestatic)

-- why the operands are no arguments of these kinds
abbrev pub argument_fault : Frame → List ValueKind → Option StuckKind
argument_fault f kinds =
    if nat_le (length kinds) (length f.stack.values)
    then (if are_arguments kinds f.stack.values then None else Some WrongKind)
    else Some Stack

-- what is done, unless the operands have a fault
abbrev pub unless : Heap → Frame → Option StuckKind → Shared → Shared
unless h f None after = after
unless h f (Some kind) after = rests h f (effect.Stuck kind)

-- what is done where the operands are arguments of these kinds
abbrev pub with_arguments : Heap → Frame → List ValueKind → Shared → Shared
with_arguments h f kinds after = unless h f (argument_fault f kinds) after

-- a call, unless the operands have a fault
abbrev pub call_effect : Target → ℕ → Option StuckKind → HeapEffect
call_effect target count None = effect.Call target count
call_effect target count (Some kind) = effect.Stuck kind

-- the call of the method of a class with this number, where the operands are its arguments
abbrev pub static_effect : Frame → ℕ → ℕ → List ValueKind → HeapEffect
static_effect f class number kinds =
    call_effect (record { class = class; method = number }) (length kinds) (argument_fault f kinds)

-- the same, with heap and frame as they are
abbrev pub calls_static : Heap → Frame → ℕ → ℕ → List ValueKind → Shared
calls_static h f class number kinds = rests h f (static_effect f class number kinds)

-- a built-in method is done at once; any other needs its class
abbrev pub runs_static : Linked → Heap → Frame → ℕ → ℕ → ℕ → LinkedMethod → Option Native → Shared
runs_static k h f thread class number m (Some native) = with_arguments h f m.parameters (natively k h f thread native)
runs_static k h f thread class number m None = needing k h f thread class (λ g. calls_static g f class number m.parameters)

-- a call of the method that is named, where it is there and is static
abbrev pub names_static : Linked → Heap → Frame → ℕ → ℕ → ℕ → Option LinkedMethod → Shared
names_static k h f thread class number None = rests h f (effect.Stuck NoMethod)
names_static k h f thread class number (Some m) =
    if is_static m.access then runs_static k h f thread class number m m.native else rests h f (effect.Stuck WrongKind)

-- invokestatic of what its reference resolves to (JVMS 6.5)
abbrev pub invokes_static : Linked → Heap → Frame → ℕ → Option LinkedRef → Shared
invokes_static k h f thread (Some (ref.Method class number)) =
    names_static k h f thread class number (method_at k.classes class number)
invokes_static k h f thread (Some _) = rests h f (effect.Stuck WrongKind)
invokes_static k h f thread None = rests h f (effect.Stuck WrongKind)

-- ---- calls on null, and of built-in methods on objects (JVMS 6.5: invokevirtual, invokespecial, invokeinterface)

-- a built-in method is done, where there is one
abbrev pub runs_native : Linked → Heap → Frame → ℕ → Option Native → Shared
runs_native k h f thread None = rests h f (effect.Stuck NoMethod)
runs_native k h f thread (Some native) = natively k h f thread native

-- what stands for a method that is built in
abbrev pub native_of : Option LinkedMethod → Option Native
native_of None = None
native_of (Some m) = m.native

-- the selected method is done, where it is built in
abbrev pub runs_selected : Linked → Heap → Frame → ℕ → Option (ℕ × ℕ) → Shared
runs_selected k h f thread None = rests h f (effect.Stuck NoMethod)
runs_selected k h f thread (Some found) = runs_native k h f thread (native_of (method_at k.classes found.0 found.1))

-- a call of a built-in method on an object; on null an exception is made
abbrev pub receives : Linked → Heap → Frame → ℕ → Invocation → ℕ → ℕ → Option Value → Shared
receives k h f thread how of number None = rests h f (effect.Stuck Stack)
receives k h f thread how of number (Some v) =
    if is_null v
    then rests h f (effect.Fail NULL_POINTER_EXCEPTION)
    else runs_selected k h f thread (selection k how (class_of v) of number)

-- the same, on the operand below the arguments of the method that is named
abbrev pub invokes_as : Linked → Heap → Frame → ℕ → Invocation → ℕ → ℕ → Option LinkedMethod → Shared
invokes_as k h f thread how of number None = rests h f (effect.Stuck NoMethod)
invokes_as k h f thread how of number (Some m) =
    receives k h f thread how of number (slice_get f.stack.values (length m.parameters))

-- a call, on null or of a built-in method, of what the reference resolves to
abbrev pub invokes : Linked → Heap → Frame → ℕ → Invocation → Option LinkedRef → Shared
invokes k h f thread how (Some (ref.Method of number)) =
    invokes_as k h f thread how of number (method_at k.classes of number)
invokes k h f thread how (Some _) = rests h f (effect.Stuck WrongKind)
invokes k h f thread how None = rests h f (effect.Stuck WrongKind)

-- ---- one instruction: a line for each family

-- what an instruction on what threads share does
abbrev pub shares : Linked → Heap → Frame → ℕ → Option LinkedRef → HeapAction → Shared
shares k h f thread r heap.GetStatic = gets_static k h f thread r
shares k h f thread r heap.PutStatic = puts_static k h f thread r
shares k h f thread r heap.GetField = get_field k h f r f.stack.values
shares k h f thread r heap.PutField = put_field k h f r f.stack.values
shares k h f thread r heap.InvokeStatic = invokes_static k h f thread r
shares k h f thread r heap.New = makes k h f thread r

-- the initialiser of a class ends: the instruction that needed the class is made anew
abbrev pub initialised : Heap → Thread → Frame → List Frame → HeapAfter
initialised h t f fs = goes_to (with_init h f.class init.Ready) (record t { frames = fs })

-- what an instruction with this action does, which its frame alone can't do
abbrev pub heap_acted : Linked → Heap → Thread → Frame → List Frame → Instr → Action → HeapAfter
heap_acted k h t f fs i (act.AtHeap a) = settles k h t f fs (shares k h f t.number (ref_at k f.class i.a) a)
heap_acted k h t f fs i (act.Invoke how) = settles k h t f fs (invokes k h f t.number how (ref_at k f.class i.a))
heap_acted k h t f fs i (act.IfSame wanted) = settles k h t f fs (if_same_texts h f wanted i.a f.stack.values)
heap_acted k h t f fs i (act.IntDivide division) = fails k h t ARITHMETIC_EXCEPTION
heap_acted k h t f fs i (act.LongDivide division) = fails k h t ARITHMETIC_EXCEPTION
heap_acted k h t f fs i act.Throw = fails k h t NULL_POINTER_EXCEPTION
heap_acted k h t f fs i act.CheckCast = fails k h t CLASS_CAST_EXCEPTION
heap_acted k h t f fs i (act.Give kind) = initialised h t f fs
heap_acted k h t f fs i act.Leave = initialised h t f fs
heap_acted k h t f fs i _ = halts h t (Stuck PcOut)

-- the same, where a row of the table has its opcode
abbrev pub heap_row_acted : Linked → Heap → Thread → Frame → List Frame → Instr → Option Action → HeapAfter
heap_row_acted k h t f fs i None = halts h t (Stuck PcOut)
heap_row_acted k h t f fs i (Some action) = heap_acted k h t f fs i action

-- the same, where there is an instruction
abbrev pub heap_fetched : Linked → Heap → Thread → Frame → List Frame → Option Instr → HeapAfter
heap_fetched k h t f fs None = halts h t (Stuck PcOut)
heap_fetched k h t f fs (Some i) = heap_row_acted k h t f fs i (action_of i.op)

-- ---- exceptions that leave an initialiser, or a thread's last frame (JVMS 5.5, 2.10)

-- the class is bad from now on; what isn't an Error is replaced
abbrev pub fails_initialiser : Linked → Heap → Thread → ℕ → List Frame → Value → HeapAfter
fails_initialiser k h t class fs e =
    if conforms k.classes (class_of e) ERROR
    then goes_to (with_init h class init.Bad) (record t { frames = fs; thrown = Some e })
    else goes_to (with_init (with_exception k h EXCEPTION_IN_INITIALIZER_ERROR) class init.Bad)
    (record t { frames = fs; thrown = Some (thrown_value h EXCEPTION_IN_INITIALIZER_ERROR) })

-- the message of an exception, if it has one
abbrev pub message_at : Heap → Value → Option (List ℕ)
message_at h (value.Ref at class) = message_in h (field_at h at 0)
message_at h e = None

-- the thread ends, which is told
abbrev pub ends_thread : Linked → Heap → Thread → Value → HeapAfter
ends_thread k h t e =
    goes_to (with_event h (event.Uncaught t.number (class_text k (class_of e)) (message_at h e)))
    (record t { frames = []; thrown = None })

-- an exception leaves the frame of an initialiser, or a thread's last frame
abbrev pub leaves_frame : Linked → Heap → Thread → Frame → List Frame → Value → HeapAfter
leaves_frame k h t f fs e = if is_initialiser k f then fails_initialiser k h t f.class fs e else ends_thread k h t e

-- ---- one heap step

-- the heap step of a thread whose innermost frame is this one
abbrev pub heap_steps_in : Linked → Heap → Thread → Frame → List Frame → Option Value → HeapAfter
heap_steps_in k h t f fs (Some e) = leaves_frame k h t f fs e
heap_steps_in k h t f fs None = heap_fetched k h t f fs (instr_at k f)

-- the heap step of a thread with these frames
abbrev pub heap_steps_among : Linked → Heap → Thread → List Frame → HeapAfter
heap_steps_among k h t [] = halts h t (Stuck PcOut)
heap_steps_among k h t (f ∷ fs) = heap_steps_in k h t f fs t.thrown

-- what a thread's next step is where that is a heap step, and the heap and the thread after it
abbrev pub heap_step : Linked → Heap → Thread → HeapAfter
heap_step k h t = heap_steps_among k h t t.frames
