-- The classes of a linked set by their numbers.
use Rattle.std.specs.Prelude.{ℕ, Bool, false, ◌==◌, not, nat_lt, if◌then◌else◌, List, [], Option, Some, None, bit_and, slice_get, option_map, option_and_then}
use Rattle.std.specs.List.{position_from}
use Rattle.std.specs.Option.{unwrap_or}
use Rattle.ty_linear.specs.Linear.{is_in}
use Rattle.cf_link.specs.declared.linked_class.LinkedClass.{LinkedClass}
use Rattle.cf_link.specs.declared.member.LinkedMethod.{LinkedMethod}
use Rattle.cf_link.specs.declared.member.LinkedField.{LinkedField}
use Rattle.cf_link.specs.declared.member.Slot.{Slot}

-- ACC_STATIC is set (JVMS 4.5, 4.6)
abbrev pub is_static : ℕ → Bool
is_static access = not (bit_and access 0x0008 == 0)

-- ACC_ABSTRACT is set (JVMS 4.6)
abbrev pub is_abstract : ℕ → Bool
is_abstract access = not (bit_and access 0x0400 == 0)

-- ACC_INTERFACE is set (JVMS 4.1)
abbrev pub is_interface_access : ℕ → Bool
is_interface_access access = not (bit_and access 0x0200 == 0)

-- a number of 32 bits
abbrev pub number : ℕ → Option ℕ
number i = if nat_lt i 4294967296 then Some i else None

-- the number of the first of a list that passes a test
abbrev pub number_of : {A : Type 0} → (A → Bool) → List A → Option ℕ
number_of test items = option_and_then number (position_from test 0 items)

-- whether a class is an interface
abbrev pub is_interface : List LinkedClass → ℕ → Bool
is_interface classes class = unwrap_or (option_map (λ c. is_interface_access c.access) (slice_get classes class)) false

-- a class, its superclass, and so on
abbrev pub chain_of : List LinkedClass → ℕ → List ℕ
chain_of classes class = unwrap_or (option_map (λ c. c.chain) (slice_get classes class)) []

-- a class and all that is above it
abbrev pub line_of : List LinkedClass → ℕ → List ℕ
line_of classes class = unwrap_or (option_map (λ c. c.line) (slice_get classes class)) []

-- the methods that a class declares
abbrev pub methods_of : List LinkedClass → ℕ → List LinkedMethod
methods_of classes class = unwrap_or (option_map (λ c. c.methods) (slice_get classes class)) []

-- the instance fields that a class declares
abbrev pub fields_of : List LinkedClass → ℕ → List LinkedField
fields_of classes class = unwrap_or (option_map (λ c. c.fields) (slice_get classes class)) []

-- the fields of the objects of a class
abbrev pub slots_of : List LinkedClass → ℕ → List Slot
slots_of classes class = unwrap_or (option_map (λ c. c.slots) (slice_get classes class)) []

-- the static fields that a class declares
abbrev pub statics_of : List LinkedClass → ℕ → List LinkedField
statics_of classes class = unwrap_or (option_map (λ c. c.statics) (slice_get classes class)) []

-- the method of a class with this number
abbrev pub method_at : List LinkedClass → ℕ → ℕ → Option LinkedMethod
method_at classes class number = slice_get (methods_of classes class) number

-- whether the objects of the first class are objects of the second too (JVMS 5.5, 6.5 checkcast): a class is in the chain, an
-- interface in the line
abbrev pub conforms : List LinkedClass → ℕ → ℕ → Bool
conforms classes class of = is_in (if is_interface classes of then line_of classes class else chain_of classes class) of
