-- What frames and instructions name: methods, code, entries of the constant pool, classes (JVMS 2.6, 5.4, 6.5).
use Rattle.std.specs.Prelude.{ℕ, zero, suc, ℤ, ◌&&◌, Bool, true, false, if◌then◌else◌, nat_eq, nat_lt, List, [], ◌∷◌, length, Option, Some, None, option_and_then, slice_get}
use Rattle.cf_form.specs.declared.code.Code.{Code}
use Rattle.cf_form.specs.declared.instr.Instr.{Instr}
use Rattle.cf_link.specs.declared.linked.Linked.{Linked}
use Rattle.cf_link.specs.declared.linked_class.LinkedClass.{LinkedClass}
use Rattle.cf_link.specs.declared.member.LinkedMethod.{LinkedMethod}
use Rattle.cf_link.specs.declared.reference.LinkedRef.{LinkedRef}
use Rattle.cf_link.specs.declared.value_kind.ValueKind.{ValueKind}
use Rattle.cf_link.specs.declared.built_in.TheConstants.{OBJECT, STRING, INTEGER, LONG, BOOLEAN, UNIT, LATCH}
use Rattle.cf_link.specs.Classes.{method_at}
use Rattle.vm_state.specs.declared.value.Value.{Value}
use Rattle.vm_state.specs.declared.value.Value.TheVariants as value
use Rattle.vm_state.specs.declared.frame.Frame.{Frame}
use Rattle.vm_state.specs.Values.{is_kind}
use Rattle.vm_state.specs.Instructions.{as_index}

-- the method that a frame runs
abbrev pub method_of : Linked → Frame → Option LinkedMethod
method_of k f = method_at k.classes f.class f.method

-- the code of the method of a class with this number
abbrev pub code_of : Linked → ℕ → ℕ → Option Code
code_of k class method = option_and_then (λ m. m.code) (method_at k.classes class method)

-- the instruction with this number; a code has at most 65,535 bytes (JVMS 4.7.3)
abbrev pub instr_in : Code → ℕ → Option Instr
instr_in code pc = if nat_lt pc 65535 then slice_get code.instrs pc else None

-- the instruction where a frame stands
abbrev pub instr_at : Linked → Frame → Option Instr
instr_at k f = option_and_then (λ code. instr_in code f.pc) (code_of k f.class f.method)

-- what an index of a pool resolves to
abbrev pub entry_of : List LinkedRef → ℕ → Option LinkedRef
entry_of refs zero = None
entry_of refs (suc n) = slice_get refs n

-- what an index of the pool of a class resolves to
abbrev pub ref_at : Linked → ℕ → ℤ → Option LinkedRef
ref_at k class a = option_and_then (λ refs. option_and_then (entry_of refs) (as_index a)) (slice_get k.refs class)

-- the class of a value; control values are of class Object
abbrev pub class_of : Value → ℕ
class_of (value.Ref at class) = class
class_of (value.Text at) = STRING
class_of (value.BoxInt n) = INTEGER
class_of (value.BoxLong n) = LONG
class_of (value.BoxBool b) = BOOLEAN
class_of value.BoxUnit = UNIT
class_of (value.Latch at owner) = LATCH
class_of _ = OBJECT

-- a number that is there is this one
abbrev pub is_number : Option ℕ → ℕ → Bool
is_number None n = false
is_number (Some m) n = nat_eq m n

-- this method of the class initialises it
abbrev pub initialises : Option LinkedClass → ℕ → Bool
initialises None method = false
initialises (Some c) method = is_number c.initialiser method

-- a frame is that of a class's initialiser
abbrev pub is_initialiser : Linked → Frame → Bool
is_initialiser k f = initialises (slice_get k.classes f.class) f.method

-- a value, where there is one, is of the kind that is wanted
abbrev pub is_of : ValueKind → Option Value → Bool
is_of kind None = false
is_of kind (Some v) = is_kind kind v

-- a result, or none, is of the kind of a method's result, or none
abbrev pub is_result : Option ValueKind → Option Value → Bool
is_result None None = true
is_result None (Some v) = false
is_result (Some kind) v = is_of kind v

-- the operands are arguments of these kinds, the last on top
abbrev pub are_arguments : List ValueKind → List Value → Bool
are_arguments [] vs = true
are_arguments (kind ∷ kinds) vs = is_of kind (slice_get vs (length kinds)) && are_arguments kinds vs
