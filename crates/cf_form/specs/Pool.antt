-- The constant pool (JVMS 4.4): its bytes, which entry an index names, and of which kind it is.
use Rattle.std.specs.Prelude.{ℕ, zero, suc, ◌<◌, ◌^◌, FitsSigned, List, [], ◌∷◌, ◌++◌, length, Option, None, Some, Bool, true, false, ◌||◌, ◌==◌, nat_le, ◌&&◌, slice_get, if◌then◌else◌}
use Rattle.std.specs.List.{flat_map}
use Rattle.std.specs.Int.{w16, w32, w64, to_be_bytes, cast_unsigned}
use Rattle.cf_mutf8.specs.ModifiedUtf8.{encoded, IsText}
use Rattle.cf_form.specs.declared.constant.Const.{Const}
use Rattle.cf_form.specs.declared.constant.Const.TheVariants.{Utf8, Int, Float, Long, Double, Class, Text, Field, Method, Interface, NameType, Rest}
use Rattle.cf_form.specs.declared.kind.Kind.{Kind}
use Rattle.cf_form.specs.declared.kind.Kind.TheVariants as kind

-- a natural number in two bytes
abbrev pub u2 : ℕ → List ℕ
u2 n = to_be_bytes w16 n

-- a natural number in four bytes
abbrev pub u4 : ℕ → List ℕ
u4 n = to_be_bytes w32 n

-- it fits two bytes
abbrev pub Fits2 : ℕ → Type 0
Fits2 n = n < 2 ^ 16

-- a constant: its tag and what it holds
abbrev pub constant_bytes : Const → List ℕ
constant_bytes (Utf8 text) = 1 ∷ u2 (length (encoded text)) ++ encoded text
constant_bytes (Int x) = 3 ∷ to_be_bytes w32 (cast_unsigned w32 x)
constant_bytes (Float bits) = 4 ∷ u4 bits
constant_bytes (Long x) = 5 ∷ to_be_bytes w64 (cast_unsigned w64 x)
constant_bytes (Double bits) = 6 ∷ to_be_bytes w64 bits
constant_bytes (Class name) = 7 ∷ u2 name
constant_bytes (Text text) = 8 ∷ u2 text
constant_bytes (Field class member) = 9 ∷ u2 class ++ u2 member
constant_bytes (Method class member) = 10 ∷ u2 class ++ u2 member
constant_bytes (Interface class member) = 11 ∷ u2 class ++ u2 member
constant_bytes (NameType name descriptor) = 12 ∷ u2 name ++ u2 descriptor
constant_bytes Rest = []

-- it is a constant of its own, and what it holds fits its bytes
abbrev pub ConstantFits : Const → Type 0
ConstantFits (Utf8 text) = IsText text × Fits2 (length (encoded text))
ConstantFits (Int x) = FitsSigned w32 x
ConstantFits (Float bits) = bits < 2 ^ 32
ConstantFits (Long x) = FitsSigned w64 x
ConstantFits (Double bits) = bits < 2 ^ 64
ConstantFits (Class name) = Fits2 name
ConstantFits (Text text) = Fits2 text
ConstantFits (Field class member) = Fits2 class × Fits2 member
ConstantFits (Method class member) = Fits2 class × Fits2 member
ConstantFits (Interface class member) = Fits2 class × Fits2 member
ConstantFits (NameType name descriptor) = Fits2 name × Fits2 descriptor
ConstantFits Rest = ⊥

-- the entries that a constant takes: a Long and a Double take two (JVMS 4.4.5)
abbrev pub entries_of : Const → List Const
entries_of (Long x) = Long x ∷ Rest ∷ []
entries_of (Double bits) = Double bits ∷ Rest ∷ []
entries_of constant = constant ∷ []

-- the pool that these constants make
abbrev pub pool_of : List Const → List Const
pool_of constants = flat_map entries_of constants

-- the entry at an index, if there is one: the first entry has the index 1
abbrev pub entry : List Const → ℕ → Option Const
entry pool zero = None
entry pool (suc n) = slice_get pool n

-- whether a constant is of a kind
abbrev pub is_of : Kind → Const → Bool
is_of kind.Utf8 (Utf8 text) = true
is_of kind.Class (Class name) = true
is_of kind.NameType (NameType name descriptor) = true
is_of kind.Field (Field class member) = true
is_of kind.Method (Method class member) = true
is_of kind.Interface (Interface class member) = true
is_of kind.AnyMethod (Method class member) = true
is_of kind.AnyMethod (Interface class member) = true
is_of kind.Single (Int x) = true
is_of kind.Single (Float bits) = true
is_of kind.Single (Text text) = true
is_of kind.Single (Class name) = true
is_of kind.Double (Long x) = true
is_of kind.Double (Double bits) = true
is_of _ _ = false

-- whether there is a constant of a kind
abbrev pub is_some_of : Kind → Option Const → Bool
is_some_of needed None = false
is_some_of needed (Some constant) = is_of needed constant

-- whether an index names an entry of a kind
abbrev pub names : List Const → Kind → ℕ → Bool
names pool needed index = is_some_of needed (entry pool index)

-- whether the entries that an entry names are of the kinds that it needs
abbrev pub refers_well : List Const → Const → Bool
refers_well pool (Class name) = names pool kind.Utf8 name
refers_well pool (Text text) = names pool kind.Utf8 text
refers_well pool (Field class member) = names pool kind.Class class && names pool kind.NameType member
refers_well pool (Method class member) = names pool kind.Class class && names pool kind.NameType member
refers_well pool (Interface class member) = names pool kind.Class class && names pool kind.NameType member
refers_well pool (NameType name descriptor) = names pool kind.Utf8 name && names pool kind.Utf8 descriptor
refers_well pool _ = true

-- the text that a constant is, if it is one
abbrev pub text_by : Option Const → Option (List ℕ)
text_by (Some (Utf8 text)) = Some text
text_by _ = None

-- the text at an index; none where it names no text
abbrev pub text_at : List Const → ℕ → Option (List ℕ)
text_at pool index = text_by (entry pool index)

-- what the index that follows an opcode has to name; None where none follows (JVMS 6.5)
unfoldable pub kind_needed : ℕ → Option Kind
kind_needed op =
    if op == 18 || op == 19 then Some kind.Single
    else (if op == 20 then Some kind.Double
    else (if nat_le 178 op && nat_le op 181 then Some kind.Field
    else (if op == 182 || op == 183 then Some kind.Method
    else (if op == 184 then Some kind.AnyMethod
    else (if op == 185 then Some kind.Interface
    else (if op == 187 || op == 192 || op == 193 then Some kind.Class else None))))))
