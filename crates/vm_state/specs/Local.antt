-- Local steps: what an instruction does to its frame, and a frame to its thread (JVMS 2.6, 2.10, 6.5).
use Rattle.std.specs.Prelude.{◌≡◌, ℕ, pos, ◌+◌, ◌-◌, ◌&&◌, ◌||◌, not, Bool, true, false, if◌then◌else◌, nat_eq, nat_le, nat_lt, List, [], ◌∷◌, ◌++◌, length, take, drop, replicate, Option, Some, None, slice_get}
use Rattle.cf_form.specs.declared.code.Code.{Code}
use Rattle.cf_form.specs.declared.code.Handler.{Handler}
use Rattle.cf_form.specs.declared.instr.Instr.{Instr}
use Rattle.cf_link.specs.declared.linked.Linked.{Linked}
use Rattle.cf_link.specs.declared.member.LinkedMethod.{LinkedMethod}
use Rattle.cf_link.specs.declared.native.Native.{Native}
use Rattle.cf_link.specs.declared.reference.LinkedRef.{LinkedRef}
use Rattle.cf_link.specs.declared.reference.LinkedRef.TheVariants as ref
use Rattle.cf_link.specs.declared.value_kind.ValueKind.{ValueKind}
use Rattle.cf_link.specs.declared.value_kind.ValueKind.TheVariants as kind
use Rattle.cf_link.specs.declared.built_in.TheConstants.{THROWABLE, LATCH, EVALUATING}
use Rattle.cf_link.specs.Classes.{is_static, method_at, conforms}
use Rattle.cf_link.specs.Selection.{chosen_at}
use Rattle.vm_state.specs.declared.value.Value.{Value}
use Rattle.vm_state.specs.declared.value.Value.TheVariants as value
use Rattle.vm_state.specs.declared.frame.Frame.{Frame}
use Rattle.vm_state.specs.declared.thread.Thread.{Thread}
use Rattle.vm_state.specs.declared.target.Target.{Target}
use Rattle.vm_state.specs.declared.action.Action.{Action}
use Rattle.vm_state.specs.declared.action.Action.TheVariants as act
use Rattle.vm_state.specs.declared.action.Invocation.{Invocation}
use Rattle.vm_state.specs.declared.action.Invocation.TheVariants.{Special}
use Rattle.vm_state.specs.declared.outcomes.StuckKind.TheVariants.{Stack, LocalOut, WrongKind, PcOut, NoMethod}
use Rattle.vm_state.specs.declared.outcomes.Effect.{Effect}
use Rattle.vm_state.specs.declared.outcomes.Effect.TheVariants.{Done, AtHeap, Stuck, Call, Return, Throw}
use Rattle.vm_state.specs.declared.outcomes.LocalStep.{LocalStep}
use Rattle.vm_state.specs.declared.outcomes.LocalStep.TheVariants as step
use Rattle.vm_state.specs.Values.{width, depth, is_kind, is_null}
use Rattle.vm_state.specs.Actions.{action_of}
use Rattle.vm_state.specs.Instructions.{After, same, next, pushed, as_index, at_local, load, store, incremented, pop, dup, swap, ints, longs, long_shift, int_divide, long_divide, int_negate, long_negate, widen, narrow, compare_longs, if_zero, if_ints, if_same, if_null, goes}
use Rattle.vm_state.specs.Methods.{method_of, code_of, instr_at, ref_at, class_of, is_initialiser, is_result, are_arguments}

-- ---- constants and classes (JVMS 6.5: ldc, checkcast, instanceof)

-- ldc of what its index resolves to
abbrev pub constant : Frame → Option LinkedRef → After
constant f (Some (ref.Int n)) = pushed f f.stack.values (value.Int n)
constant f (Some (ref.Long n)) = pushed f f.stack.values (value.Long n)
constant f (Some (ref.Text at)) = pushed f f.stack.values (value.Text at)
constant f (Some _) = same f (Stuck WrongKind)
constant f None = same f (Stuck WrongKind)

-- null, or of a class that conforms; else an exception is made
abbrev pub cast : Linked → Frame → ℕ → Value → After
cast k f class v = if is_null v || conforms k.classes (class_of v) class then next f f.stack.values else same f AtHeap

-- checkcast of a value to what its index resolves to
abbrev pub class_cast : Linked → Frame → Value → Option LinkedRef → After
class_cast k f v (Some (ref.Class class)) = if is_kind kind.Reference v then cast k f class v else same f (Stuck WrongKind)
class_cast k f v (Some _) = same f (Stuck WrongKind)
class_cast k f v None = same f (Stuck WrongKind)

-- checkcast of the top operand
unfoldable pub check_cast : Linked → Frame → Option LinkedRef → List Value → After
check_cast k f r [] = same f (Stuck Stack)
check_cast k f r (v ∷ vs) = class_cast k f v r

-- the value is an `Evaluating`
abbrev pub is_evaluating : Value → Bool
is_evaluating (value.Evaluating thread) = true
is_evaluating _ = false

-- the value is a `Latch`
abbrev pub is_latch : Value → Bool
is_latch (value.Latch at owner) = true
is_latch _ = false

-- a value that names a thread is an `Evaluating`, and a latch a `Latch`, and nothing else is; of other classes a value
-- that isn't null and whose class conforms
abbrev pub is_instance : Linked → Value → ℕ → Bool
is_instance k v class =
    if nat_eq class EVALUATING then is_evaluating v
    else if nat_eq class LATCH then is_latch v
    else not (is_null v) && conforms k.classes (class_of v) class

-- a truth value as an Int
abbrev pub truth : Bool → Value
truth b = value.Int (pos (if b then 1 else 0))

-- instanceof of a value and what its index resolves to
abbrev pub class_tested : Linked → Frame → Value → List Value → Option LinkedRef → After
class_tested k f v vs (Some (ref.Class class)) =
    if is_kind kind.Reference v then next f (truth (is_instance k v class) ∷ vs) else same f (Stuck WrongKind)
class_tested k f v vs (Some _) = same f (Stuck WrongKind)
class_tested k f v vs None = same f (Stuck WrongKind)

-- instanceof of the top operand
unfoldable pub instance_of : Linked → Frame → Option LinkedRef → List Value → After
instance_of k f r [] = same f (Stuck Stack)
instance_of k f r (v ∷ vs) = class_tested k f v vs r

-- ---- calls (JVMS 6.5: invokevirtual, invokespecial, invokeinterface)

-- a method with code is called; one that is built in is a heap step
abbrev pub aims : Frame → Target → ℕ → Option Code → Option Native → After
aims f target count (Some code) native = same f (Call target count)
aims f target count None (Some native) = same f AtHeap
aims f target count None None = same f (Stuck NoMethod)

-- the call of a method, where there is one
abbrev pub aimed : Frame → Target → ℕ → Option LinkedMethod → After
aimed f target count None = same f (Stuck NoMethod)
aimed f target count (Some m) = aims f target count m.code m.native

-- the call of the selected method, where there is one
abbrev pub selected : Linked → Frame → ℕ → Option (ℕ × ℕ) → After
selected k f count None = same f (Stuck NoMethod)
selected k f count (Some found) =
    aimed f (record { class = found.0; method = found.1 }) count (method_at k.classes found.0 found.1)

-- `invokespecial` runs the method that is named, every other call the one that the object's class selects
abbrev pub selection : Linked → Invocation → ℕ → ℕ → ℕ → Option (ℕ × ℕ)
selection k Special class of number = Some (of, number)
selection k _ class of number = chosen_at k.classes class of number

-- on null an exception is made
abbrev pub received : Linked → Frame → Invocation → ℕ → ℕ → ℕ → Value → After
received k f how of number count v =
    if is_null v then same f AtHeap else selected k f count (selection k how (class_of v) of number)

-- the call of a method on the object below its arguments
abbrev pub invoked_on : Linked → Frame → Invocation → ℕ → ℕ → LinkedMethod → Option Value → After
invoked_on k f how of number m None = same f (Stuck Stack)
invoked_on k f how of number m (Some v) =
    if not (is_static m.access) && (is_kind kind.Reference v && are_arguments m.parameters f.stack.values)
    then received k f how of number (length m.parameters + 1) v
    else same f (Stuck WrongKind)

-- the call of the method that is named, where there is one
abbrev pub invoked_as : Linked → Frame → Invocation → ℕ → ℕ → Option LinkedMethod → After
invoked_as k f how of number None = same f (Stuck NoMethod)
invoked_as k f how of number (Some m) = invoked_on k f how of number m (slice_get f.stack.values (length m.parameters))

-- a call of what the reference resolves to
abbrev pub invoked : Linked → Frame → Invocation → Option LinkedRef → After
invoked k f how (Some (ref.Method of number)) = invoked_as k f how of number (method_at k.classes of number)
invoked k f how (Some _) = same f (Stuck WrongKind)
invoked k f how None = same f (Stuck WrongKind)

-- ---- ends of a method (JVMS 6.5: ireturn, lreturn, areturn, return, athrow)

-- a result, or none, is of the kind of the method's result
abbrev pub fits_method : Option LinkedMethod → Option Value → Bool
fits_method None v = false
fits_method (Some m) v = is_result m.result v

-- ireturn, lreturn or areturn: the top operand is the result
abbrev pub give : Linked → ValueKind → Frame → List Value → After
give k kind f [] = same f (Stuck Stack)
give k kind f (v ∷ vs) =
    if is_kind kind v && fits_method (method_of k f) (Some v) then same f (Return (Some v)) else same f (Stuck WrongKind)

-- return: there is no result
abbrev pub leave : Linked → Frame → After
leave k f = if fits_method (method_of k f) None then same f (Return None) else same f (Stuck WrongKind)

-- athrow: the top operand is thrown, on null an exception is made
abbrev pub throw : Linked → Frame → List Value → After
throw k f [] = same f (Stuck Stack)
throw k f (value.Ref at class ∷ vs) =
    if conforms k.classes class THROWABLE then same f (Throw (value.Ref at class)) else same f (Stuck WrongKind)
throw k f (value.Null ∷ vs) = same f AtHeap
throw k f (v ∷ vs) = same f (Stuck WrongKind)

-- ---- one instruction: a line for each family

-- what an instruction with this action does to its frame
abbrev pub acted : Linked → Frame → Instr → Action → After
acted k f i act.Nop = next f f.stack.values
acted k f i act.PushNull = pushed f f.stack.values value.Null
acted k f i (act.PushInt n) = pushed f f.stack.values (value.Int n)
acted k f i (act.PushLong n) = pushed f f.stack.values (value.Long n)
acted k f i act.PushOperand = pushed f f.stack.values (value.Int i.a)
acted k f i act.PushConstant = constant f (ref_at k f.class i.a)
acted k f i (act.Load kind) = at_local (load kind f) f (as_index i.a)
acted k f i (act.LoadAt kind n) = load kind f n
acted k f i (act.Store kind) = at_local (λ n. store kind f n f.stack.values) f (as_index i.a)
acted k f i (act.StoreAt kind n) = store kind f n f.stack.values
acted k f i (act.Pop units) = pop units f f.stack.values
acted k f i (act.Dup units under) = dup units under f f.stack.values
acted k f i act.Swap = swap f f.stack.values
acted k f i (act.Ints op) = ints op f f.stack.values
acted k f i (act.Longs op) = longs op f f.stack.values
acted k f i (act.LongShift op) = long_shift op f f.stack.values
acted k f i (act.IntDivide division) = int_divide division f f.stack.values
acted k f i (act.LongDivide division) = long_divide division f f.stack.values
acted k f i act.IntNegate = int_negate f f.stack.values
acted k f i act.LongNegate = long_negate f f.stack.values
acted k f i act.Increment = at_local (λ n. incremented f n i.b (slice_get f.locals n)) f (as_index i.a)
acted k f i act.IntToLong = widen f f.stack.values
acted k f i act.LongToInt = narrow f f.stack.values
acted k f i act.CompareLongs = compare_longs f f.stack.values
acted k f i (act.IfZero comparison) = if_zero comparison f i.a f.stack.values
acted k f i (act.IfInts comparison) = if_ints comparison f i.a f.stack.values
acted k f i (act.IfSame wanted) = if_same wanted f i.a f.stack.values
acted k f i (act.IfNull wanted) = if_null wanted f i.a f.stack.values
acted k f i act.Goto = goes f f.stack.values (as_index i.a)
acted k f i (act.Give kind) = give k kind f f.stack.values
acted k f i act.Leave = leave k f
acted k f i (act.AtHeap action) = same f AtHeap
acted k f i (act.Invoke how) = invoked k f how (ref_at k f.class i.a)
acted k f i act.Throw = throw k f f.stack.values
acted k f i act.CheckCast = check_cast k f (ref_at k f.class i.a) f.stack.values
acted k f i act.InstanceOf = instance_of k f (ref_at k f.class i.a) f.stack.values
acted k f i act.Wide = same f (Stuck PcOut)

-- the same, where a row of the table has its opcode
abbrev pub row_acted : Linked → Frame → Instr → Option Action → After
row_acted k f i None = same f (Stuck PcOut)
row_acted k f i (Some action) = acted k f i action

-- the same, where there is an instruction
abbrev pub fetched : Linked → Frame → Option Instr → After
fetched k f None = same f (Stuck PcOut)
fetched k f (Some i) = row_acted k f i (action_of i.op)

-- what the next instruction of a frame does
abbrev pub instructed : Linked → Frame → After
instructed k f = fetched k f (instr_at k f)

-- ---- in its thread

-- what a step of a thread comes to, and the thread after it
pub record LocalAfter : Type 0 where
  pub step : LocalStep
  pub thread : Thread

-- the code did this, or lacked memory; only a step that is made changes the thread
abbrev pub IsLocal : LocalAfter → LocalStep → Thread → Thread → Type 0
IsLocal a step.Memory old new = new ≡ old
IsLocal a step.Stepped old new = (step.Stepped ≡ a.step) × (new ≡ a.thread)
IsLocal a other old new = (other ≡ a.step) × (new ≡ a.thread) × (new ≡ old)

-- a step that leaves the thread as it was
abbrev pub stays : Thread → LocalStep → LocalAfter
stays t s = record { step = s; thread = t }

-- a step that is made, and leaves these frames
abbrev pub moves : Thread → List Frame → LocalAfter
moves t fs = record { step = step.Stepped; thread = record t { frames = fs } }

-- the local variables of a value: the second of a Long holds Null (JVMS 2.6.1)
abbrev pub local_values : Value → List Value
local_values (value.Long n) = value.Long n ∷ value.Null ∷ []
local_values v = v ∷ []

-- operands as locals: the last is on top
abbrev pub as_locals : List Value → List Value
as_locals [] = []
as_locals (v ∷ vs) = as_locals vs ++ local_values v

-- a local that isn't set holds Null
abbrev pub padded : List Value → ℕ → List Value
padded locals all = locals ++ replicate (all - length locals) value.Null

-- a new frame
abbrev pub frame_of : Target → Code → List Value → Frame
frame_of target code locals = record {
  class = target.class;
  method = target.method;
  pc = 0;
  locals = padded locals code.max_locals;
  stack = record { values = []; room = code.max_stack };
}

-- a frame without its top operands, so many of them
abbrev pub without : ℕ → Frame → Frame
without count f = record f { stack = record { values = drop count f.stack.values; room = f.stack.room } }

-- the call of a method: its frame is new, with the top operands of the caller's as its first locals (JVMS 2.6)
abbrev pub entered : Thread → Frame → List Frame → Target → ℕ → Option Code → LocalAfter
entered t f fs target count None = stays t (step.Stuck NoMethod)
entered t f fs target count (Some code) =
    if nat_le count (length f.stack.values)
    then (if nat_le (length (as_locals (take count f.stack.values))) code.max_locals
    then moves t (frame_of target code (as_locals (take count f.stack.values)) ∷ without count f ∷ fs)
    else stays t (step.Stuck LocalOut))
    else stays t (step.Stuck Stack)

-- the same, for the innermost of these frames
abbrev pub called : Thread → List Frame → Target → ℕ → Option Code → LocalAfter
called t [] target count code = stays t step.Ended
called t (f ∷ fs) target count code = entered t f fs target count code

-- the caller goes on behind its call
abbrev pub resumed : Frame → Option Value → Frame
resumed g None = record g { pc = g.pc + 1 }
resumed g (Some v) = record g { pc = g.pc + 1; stack = record { values = v ∷ g.stack.values; room = g.stack.room } }

-- whether a result fits the operands of a frame
abbrev pub has_room : Frame → Option Value → Bool
has_room g None = true
has_room g (Some v) = nat_le (depth g.stack.values + width v) g.stack.room

-- a method of the frames above these ends, with a result or none
abbrev pub returned : Thread → List Frame → Option Value → LocalAfter
returned t [] v = moves t []
returned t (g ∷ gs) v =
    if nat_lt g.pc 65535
    then (if has_room g v then moves t (resumed g v ∷ gs) else stays t (step.Stuck Stack))
    else stays t (step.Stuck PcOut)

-- a method ends; the end of a class's initialiser is a heap step
abbrev pub ended : Linked → Thread → List Frame → Option Value → LocalAfter
ended k t [] v = stays t step.Ended
ended k t (f ∷ fs) v = if is_initialiser k f then stays t step.AtHeap else returned t fs v

-- what the effect of the innermost frame, which is this one now, does to its thread
abbrev pub settled : Linked → Thread → List Frame → Frame → Effect → LocalAfter
settled k t fs f Done = moves t (f ∷ fs)
settled k t fs f AtHeap = stays t step.AtHeap
settled k t fs f (Stuck kind) = stays t (step.Stuck kind)
settled k t fs f (Call target count) = entered t f fs target count (code_of k target.class target.method)
settled k t fs f (Return v) = ended k t (f ∷ fs) v
settled k t fs f (Throw v) = record { step = step.Stepped; thread = record t { thrown = Some v } }

-- ---- exceptions (JVMS 2.10)

-- a handler with this class takes an exception
abbrev pub takes : Linked → Value → Option LinkedRef → Bool
takes k e (Some (ref.Class class)) = conforms k.classes (class_of e) class
takes k e (Some _) = false
takes k e None = false

-- the range of a handler holds the instruction, and its class fits; 0 fits all
abbrev pub covers : Linked → Frame → Value → Handler → Bool
covers k f e h =
    nat_le h.from f.pc && nat_lt f.pc h.to && (nat_eq h.class 0 || takes k e (ref_at k f.class (pos h.class)))

-- the first such handler
abbrev pub handler : Linked → Frame → Value → List Handler → Option ℕ
handler k f e [] = None
handler k f e (h ∷ hs) = if covers k f e h then Some h.target else handler k f e hs

-- the handlers of a method's code
abbrev pub handlers_of : Option Code → List Handler
handlers_of None = []
handlers_of (Some code) = code.handlers

-- a frame that handles an exception: the exception alone is on its operand stack (JVMS 2.10)
abbrev pub caught : Frame → Value → ℕ → Frame
caught f e target = record f { pc = target; stack = record { values = e ∷ []; room = f.stack.room } }

-- the innermost frame handles the exception or is left; an initialiser and the last frame are left by a heap step
abbrev pub unwound : Linked → Thread → Frame → List Frame → Value → Option ℕ → LocalAfter
unwound k t f fs e (Some target) =
    if nat_le (width e) f.stack.room
    then record { step = step.Stepped; thread = record t { frames = caught f e target ∷ fs; thrown = None } }
    else stays t (step.Stuck Stack)
unwound k t f [] e None = stays t step.AtHeap
unwound k t f (g ∷ gs) e None = if is_initialiser k f then stays t step.AtHeap else moves t (g ∷ gs)

-- ---- one local step

-- the step of a thread whose innermost frame is this one: it goes on, or an exception unwinds it
abbrev pub steps_in : Linked → Thread → Frame → List Frame → Option Value → LocalAfter
steps_in k t f fs (Some e) = unwound k t f fs e (handler k f e (handlers_of (code_of k f.class f.method)))
steps_in k t f fs None = settled k t fs (instructed k f).frame (instructed k f).effect

-- the step of a thread with these frames
abbrev pub steps_among : Linked → Thread → List Frame → LocalAfter
steps_among k t [] = stays t step.Ended
steps_among k t (f ∷ fs) = steps_in k t f fs t.thrown

-- what a thread's next step is, and the thread after it where it is local
abbrev pub local_step : Linked → Thread → LocalAfter
local_step k t = steps_among k t t.frames
