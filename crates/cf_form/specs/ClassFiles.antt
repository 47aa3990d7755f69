-- Which bytes are a class file (JVMS 4), what they say, and which of them are written.
use Rattle.std.specs.Prelude.{◌≡◌, ◌≢◌, ℕ, ◌<◌, ◌≤◌, List, [], ◌∷◌, ◌++◌, length, Option, None, Some, Bool, bit_and, IsTrue, map, codes, IfSome, nat_le, ◌&&◌, ◌||◌, ◌==◌}
use Rattle.std.specs.List.{AllByRecursion}
use Rattle.cf_form.specs.Pool.{pool_of, names, refers_well, text_at, kind_needed}
use Rattle.cf_form.specs.Instructions.{IsCode, code_bytes, offset, number}
use Rattle.cf_form.specs.Outline.{Attribute, Member, Row, CodeOutline, code_outline_bytes, CodeOutlineFits, Outline, outline_bytes, OutlineFits}
use Rattle.cf_form.specs.declared.class_file.ClassFile.{ClassFile}
use Rattle.cf_form.specs.declared.class_file.FieldInfo.{FieldInfo}
use Rattle.cf_form.specs.declared.class_file.MethodInfo.{MethodInfo}
use Rattle.cf_form.specs.declared.code.Code.{Code}
use Rattle.cf_form.specs.declared.code.Handler.{Handler}
use Rattle.cf_form.specs.declared.constant.Const.{Const}
use Rattle.cf_form.specs.declared.instr.Instr.{Instr}
use Rattle.cf_form.specs.declared.kind.Kind.TheVariants as kind

-- the index that an instruction has names an entry of the kind that its opcode needs
abbrev pub NamesWell : List Const → Instr → Type 0
NamesWell pool i = IfSome (kind_needed i.op) (λ needed. IsTrue (names pool needed (number i.a)))

-- the row of a handler: its ends as offsets in bytes
abbrev pub row_of : List Instr → Handler → Row
row_of code h = record { from = offset code h.from; to = offset code h.to; target = offset code h.target; class = h.class }

-- its start, end and target are each one of n instructions or the end behind them, and it catches a class or everything
abbrev pub HandlerFits : List Const → ℕ → Handler → Type 0
HandlerFits pool n h =
    (h.from ≤ n) × (h.to ≤ n) × (h.target ≤ n) × (h.class ≢ 0 → IsTrue (names pool kind.Class h.class))

-- these bytes of a Code attribute hold this code
pub record HoldsCode (pool : List Const) (info : List ℕ) (code : Code) : Type 0 where
  pub outline : CodeOutline
  pub fits : CodeOutlineFits outline
  pub bytes : info ≡ code_outline_bytes outline
  pub max_stack : outline.max_stack ≡ code.max_stack
  pub max_locals : outline.max_locals ≡ code.max_locals
  pub is_code : IsCode code.instrs
  pub instrs : outline.code ≡ code_bytes code.instrs
  pub names : AllByRecursion (NamesWell pool) code.instrs
  pub rows : outline.rows ≡ map (row_of code.instrs) code.handlers
  pub handlers : AllByRecursion (HandlerFits pool (length code.instrs)) code.handlers

-- the text `Code`
abbrev pub code_name : List ℕ
code_name = codes "Code"

-- the attribute is no Code
abbrev pub IsOther : List Const → Attribute → Type 0
IsOther pool a = text_at pool a.name ≢ Some code_name

-- the code of a method with these attributes; those of other names are passed over
pub record HasCode (pool : List Const) (attributes : List Attribute) (code : Code) : Type 0 where
  pub before : List Attribute
  pub attribute : Attribute
  pub after : List Attribute
  pub are : attributes ≡ before ++ attribute ∷ after
  pub named : text_at pool attribute.name ≡ Some code_name
  pub others : AllByRecursion (IsOther pool) (before ++ after)
  pub holds : HoldsCode pool attribute.info code

-- the code of a method with these attributes is this one where there is one; else no attribute is a Code
abbrev pub HasCodeOrNone : List Const → List Attribute → Option Code → Type 0
HasCodeOrNone pool attributes None = AllByRecursion (IsOther pool) attributes
HasCodeOrNone pool attributes (Some code) = HasCode pool attributes code

-- ACC_ABSTRACT or ACC_NATIVE is set (JVMS 4.6)
abbrev pub IsWithoutCode : ℕ → Type 0
IsWithoutCode access = bit_and access 0x0500 ≢ 0

-- a method with these access flags has a code exactly where neither is set
abbrev pub IsCodeDue : ℕ → Option Code → Type 0
IsCodeDue access None = IsWithoutCode access
IsCodeDue access (Some code) = bit_and access 0x0500 ≡ 0

-- a member is this field
abbrev pub IsField : Member → FieldInfo → Type 0
IsField m f = (m.access ≡ f.access) × (m.name ≡ f.name) × (m.descriptor ≡ f.descriptor)

-- a member is this method
abbrev pub IsMethod : List Const → Member → MethodInfo → Type 0
IsMethod pool m i =
    (m.access ≡ i.access) × (m.name ≡ i.name) × (m.descriptor ≡ i.descriptor)
    × IsCodeDue i.access i.code × HasCodeOrNone pool m.attributes i.code

-- one by one
abbrev pub Each : {A B : Type 0} → (A → B → Type 0) → List A → List B → Type 0
Each P [] [] = Unit {0}
Each P (x ∷ xs) (y ∷ ys) = P x y × Each P xs ys
Each P _ _ = ⊥

-- what names a member
abbrev pub key : List Const → Member → Option (List ℕ) × Option (List ℕ)
key pool m = (text_at pool m.name, text_at pool m.descriptor)

-- a name and a descriptor, both texts
abbrev pub IsNamed : List Const → Member → Type 0
IsNamed pool m = IsTrue (names pool kind.Utf8 m.name) × IsTrue (names pool kind.Utf8 m.descriptor)

-- no two are equal
abbrev pub AreDifferent : {A : Type 0} → List A → Type 0
AreDifferent [] = Unit {0}
AreDifferent (x ∷ xs) = AllByRecursion (λ y. y ≢ x) xs × AreDifferent xs

-- each has its name, and no two have the same name and descriptor
abbrev pub AreNamed : List Const → List Member → Type 0
AreNamed pool members = AllByRecursion (IsNamed pool) members × AreDifferent (map (key pool) members)

-- the major versions that are read and written: 45 to 49, and 52
abbrev pub is_version : ℕ → Bool
is_version major = (nat_le 45 major && nat_le major 49) || major == 52

-- the outline breaks no rule, and this is what it says
pub record Says (o : Outline) (file : ClassFile) : Type 0 where
  pub minor : o.minor ≡ file.minor
  pub major : o.major ≡ file.major
  pub version : IsTrue (is_version file.major)
  pub pool : pool_of o.constants ≡ file.pool
  pub refers : AllByRecursion (λ c. IsTrue (refers_well file.pool c)) o.constants
  pub access : o.access ≡ file.access
  pub this : o.this ≡ file.this
  pub is_class : IsTrue (names file.pool kind.Class file.this)
  pub parent : o.parent ≡ file.parent
  pub has_parent : IsTrue (names file.pool kind.Class file.parent)
  pub interfaces : o.interfaces ≡ file.interfaces
  pub are_classes : AllByRecursion (λ i. IsTrue (names file.pool kind.Class i)) file.interfaces
  pub fields_named : AreNamed file.pool o.fields
  pub fields : Each IsField o.fields file.fields
  pub methods_named : AreNamed file.pool o.methods
  pub methods : Each (IsMethod file.pool) o.methods file.methods

-- the bytes are those of the outline, and it says the file
pub record ReadsBy (o : Outline) (bytes : List ℕ) (file : ClassFile) : Type 0 where
  pub fits : OutlineFits o
  pub is_spelled : bytes ≡ outline_bytes o
  pub says : Says o file

-- the bytes are a class file that is accepted, and this is what they say
abbrev pub Reads : List ℕ → ClassFile → Type 0
Reads bytes file = (o : Outline) × ReadsBy o bytes file

-- the first entry that is the text `Code` has this index
abbrev pub IsFirstCodeName : List Const → ℕ → Type 0
IsFirstCodeName pool n = (text_at pool n ≡ Some code_name) × ((i : ℕ) → i < n → text_at pool i ≢ Some code_name)

-- no attribute of its own stands in the bytes of a Code attribute
abbrev pub IsBare : List ℕ → Type 0
IsBare info = (c : CodeOutline) × CodeOutlineFits c × (info ≡ code_outline_bytes c) × (c.attributes ≡ [])

-- it has no attribute
abbrev pub HasNone : Member → Type 0
HasNone m = m.attributes ≡ []

-- it has no attribute but Code, named by the first entry that is this text
abbrev pub HasCodeAlone : List Const → Member → Type 0
HasCodeAlone pool m =
    AllByRecursion (λ (a : Attribute). IsFirstCodeName pool a.name × IsBare a.info) m.attributes

-- no attribute stands anywhere but Code in methods
pub record IsPlain (o : Outline) : Type 0 where
  pub fields : AllByRecursion HasNone o.fields
  pub methods : AllByRecursion (HasCodeAlone (pool_of o.constants)) o.methods
  pub attributes : o.attributes ≡ []

-- the bytes are the one spelling of the file, in its own version, with no attribute but Code
abbrev pub Spelled : ClassFile → List ℕ → Type 0
Spelled file bytes = (o : Outline) × ReadsBy o bytes file × IsPlain o
