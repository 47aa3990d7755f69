-- Everything that stands in the bytes of a class file (JVMS 4.1, 4.5 to 4.7), attributes that are passed over included.
use Rattle.std.specs.Prelude.{ℕ, ◌+◌, ◌<◌, ◌≤◌, ◌^◌, List, ◌∷◌, ◌++◌, length}
use Rattle.std.specs.List.{flat_map, AllByRecursion}
use Rattle.cf_form.specs.Pool.{u2, u4, Fits2, constant_bytes, ConstantFits, pool_of}
use Rattle.cf_form.specs.declared.constant.Const.{Const}

-- a list after its count in two bytes
abbrev pub counted : {A : Type 0} → (A → List ℕ) → List A → List ℕ
counted bytes xs = u2 (length xs) ++ flat_map bytes xs

-- so many that their count fits two bytes, and each of them fits
abbrev pub AllFit : {A : Type 0} → (A → Type 0) → List A → Type 0
AllFit Fits xs = Fits2 (length xs) × AllByRecursion Fits xs

-- an attribute: the index of its name, and its bytes (JVMS 4.7)
pub record Attribute : Type 0 where
  pub name : ℕ
  pub info : List ℕ

-- the bytes of an attribute
abbrev pub attribute_bytes : Attribute → List ℕ
attribute_bytes a = u2 a.name ++ u4 (length a.info) ++ a.info

-- its index and its length fit their bytes
abbrev pub AttributeFits : Attribute → Type 0
AttributeFits a = Fits2 a.name × (length a.info < 2 ^ 32)

-- a field or a method (JVMS 4.5, 4.6)
pub record Member : Type 0 where
  pub access : ℕ
  pub name : ℕ
  pub descriptor : ℕ
  pub attributes : List Attribute

-- the bytes of a member
abbrev pub member_bytes : Member → List ℕ
member_bytes m = u2 m.access ++ u2 m.name ++ u2 m.descriptor ++ counted attribute_bytes m.attributes

-- its numbers fit their bytes
abbrev pub MemberFits : Member → Type 0
MemberFits m = Fits2 m.access × Fits2 m.name × Fits2 m.descriptor × AllFit AttributeFits m.attributes

-- a row of an exception table: its ends as offsets in bytes (JVMS 4.7.3)
pub record Row : Type 0 where
  pub from : ℕ
  pub to : ℕ
  pub target : ℕ
  pub class : ℕ

-- the bytes of a row
abbrev pub row_bytes : Row → List ℕ
row_bytes r = u2 r.from ++ u2 r.to ++ u2 r.target ++ u2 r.class

-- its numbers fit their bytes
abbrev pub RowFits : Row → Type 0
RowFits r = Fits2 r.from × Fits2 r.to × Fits2 r.target × Fits2 r.class

-- what a Code attribute has (JVMS 4.7.3); `code` has 1 to 65,535 bytes
pub record CodeOutline : Type 0 where
  pub max_stack : ℕ
  pub max_locals : ℕ
  pub code : List ℕ
  pub rows : List Row
  pub attributes : List Attribute

-- the bytes of a Code attribute, its name and length left out
abbrev pub code_outline_bytes : CodeOutline → List ℕ
code_outline_bytes c =
    u2 c.max_stack ++ u2 c.max_locals ++ u4 (length c.code) ++ c.code
    ++ counted row_bytes c.rows ++ counted attribute_bytes c.attributes

-- its numbers fit their bytes
pub record CodeOutlineFits (c : CodeOutline) : Type 0 where
  pub max_stack : Fits2 c.max_stack
  pub max_locals : Fits2 c.max_locals
  pub some : 1 ≤ length c.code
  pub most : length c.code ≤ 65535
  pub rows : AllFit RowFits c.rows
  pub attributes : AllFit AttributeFits c.attributes

-- a class file (JVMS 4.1)
pub record Outline : Type 0 where
  pub minor : ℕ
  pub major : ℕ
  pub constants : List Const
  pub access : ℕ
  pub this : ℕ
  pub parent : ℕ
  pub interfaces : List ℕ
  pub fields : List Member
  pub methods : List Member
  pub attributes : List Attribute

-- the magic, the version and the pool
abbrev pub head_bytes : Outline → List ℕ
head_bytes o =
    0xCA ∷ 0xFE ∷ 0xBA ∷ 0xBE ∷ u2 o.minor ++ u2 o.major
    ++ u2 (1 + length (pool_of o.constants)) ++ flat_map constant_bytes o.constants

-- the bytes of a class file
abbrev pub outline_bytes : Outline → List ℕ
outline_bytes o =
    head_bytes o ++ u2 o.access ++ u2 o.this ++ u2 o.parent ++ counted u2 o.interfaces
    ++ counted member_bytes o.fields ++ counted member_bytes o.methods ++ counted attribute_bytes o.attributes

-- its numbers fit their bytes
pub record OutlineFits (o : Outline) : Type 0 where
  pub minor : Fits2 o.minor
  pub major : Fits2 o.major
  pub constants : AllByRecursion ConstantFits o.constants
  pub count : Fits2 (1 + length (pool_of o.constants))
  pub access : Fits2 o.access
  pub this : Fits2 o.this
  pub parent : Fits2 o.parent
  pub interfaces : AllFit Fits2 o.interfaces
  pub fields : AllFit MemberFits o.fields
  pub methods : AllFit MemberFits o.methods
  pub attributes : AllFit AttributeFits o.attributes
