-- A class file from its first byte to its last, with the first fault that is met (JVMS 4). Each reader takes the bytes
-- that are left, and gives what it reads and the bytes behind it.
use Rattle.std.specs.Prelude.{ℕ, zero, suc, ◌+◌, ◌-◌, List, [], ◌∷◌, ◌++◌, length, take, drop, Option, None, Some, Result, Ok, Err, Bool, true, false, nat_lt, nat_le, ◌==◌, ◌&&◌, ◌||◌, not, if◌then◌else◌, bit_and}
use Rattle.std.specs.List.{list_any}
use Rattle.std.specs.Str.{bytes_eq}
use Rattle.std.specs.Int.{w16, w32, w64, from_be_bytes, cast_signed}
use Rattle.cf_mutf8.specs.Decoded.{decoded}
use Rattle.cf_form.specs.Pool.{names, is_of, entries_of, constant_bytes, text_at}
use Rattle.cf_form.specs.ClassFiles.{code_name, is_version}
use Rattle.cf_form.specs.Outline.{Row}
use Rattle.cf_form.specs.declared.constant.Const.{Const}
use Rattle.cf_form.specs.declared.constant.Const.TheVariants.{Utf8, Int, Float, Long, Double, Class, Text, Field, Method, Interface, NameType}
use Rattle.cf_form.specs.declared.class_file.FieldInfo.{FieldInfo}
use Rattle.cf_form.specs.declared.kind.Kind.{Kind}
use Rattle.cf_form.specs.declared.kind.Kind.TheVariants as kind
use Rattle.cf_read.specs.declared.fault.Fault.{Fault}
use Rattle.cf_read.specs.declared.file_fault.FileKind.{FileKind}
use Rattle.cf_read.specs.declared.file_fault.FileKind.TheVariants as fault

-- what was read with the bytes behind it, or the first fault
abbrev pub Read : Type 0 → Type 0
Read A = Result (A × List ℕ) Fault

-- a fault, whose first wrong byte is the first of these
abbrev pub refused : {A : Type 0} → FileKind → List ℕ → Result A Fault
refused kind from = Err (record { kind = kind; left = length from })

infixl 10 ◌>>=◌
-- one after the other, up to a fault
abbrev pub ◌>>=◌ : {A B : Type 0} → Result A Fault → (A → Result B Fault) → Result B Fault
(Ok x) >>= f = f x
(Err e) >>= f = Err e

-- nothing, where the condition holds, else the fault
abbrev pub demand : Bool → FileKind → List ℕ → Result (Unit {0}) Fault
demand holds kind from = if holds then Ok tt else refused kind from

-- so many bytes; where there are fewer, the file is cut
unfoldable pub some_at : ℕ → List ℕ → Read (List ℕ)
some_at n bytes = if nat_lt (length bytes) n then refused fault.Cut [] else Ok (take n bytes, drop n bytes)

-- a byte
unfoldable pub u1_at : List ℕ → Read ℕ
u1_at [] = refused fault.Cut []
u1_at (b ∷ bytes) = Ok (b, bytes)

-- a number of two bytes
unfoldable pub u2_at : List ℕ → Read ℕ
u2_at bytes = do
  two ← some_at 2 bytes
  Ok (from_be_bytes w16 two.0, two.1)

-- a number of four bytes
unfoldable pub u4_at : List ℕ → Read ℕ
u4_at bytes = do
  four ← some_at 4 bytes
  Ok (from_be_bytes w32 four.0, four.1)

-- a number of eight bytes
unfoldable pub u8_at : List ℕ → Read ℕ
u8_at bytes = do
  eight ← some_at 8 bytes
  Ok (from_be_bytes w64 eight.0, eight.1)

-- the magic
unfoldable pub magic_at : List ℕ → Read (Unit {0})
magic_at bytes = do
  magic ← u4_at bytes
  right ← demand (magic.0 == 0xCAFEBABE) fault.Magic bytes
  Ok (tt, magic.1)

-- the minor and the major version
unfoldable pub version_at : List ℕ → Read (ℕ × ℕ)
version_at bytes = do
  minor ← u2_at bytes
  major ← u2_at minor.1
  right ← demand (is_version major.0) fault.Version minor.1
  Ok ((minor.0, major.0), major.1)

-- the text that was decoded, or that none was, in a constant that begins at `from`
abbrev pub text_or : List ℕ → List ℕ → Option (List ℕ) → Read Const
text_or from rest None = refused fault.Utf from
text_or from rest (Some text) = Ok (Utf8 text, rest)

-- a text, in a constant that begins at `from`
unfoldable pub text_constant_at : List ℕ → List ℕ → Read Const
text_constant_at from bytes = do
  count ← u2_at bytes
  text ← some_at count.0 count.1
  text_or from text.1 (decoded text.0)

-- a constant of one index
unfoldable pub indexed_at : (ℕ → Const) → List ℕ → Read Const
indexed_at make bytes = do
  index ← u2_at bytes
  Ok (make index.0, index.1)

-- two numbers of two bytes
unfoldable pub two_at : List ℕ → Read (ℕ × ℕ)
two_at bytes = do
  one ← u2_at bytes
  other ← u2_at one.1
  Ok ((one.0, other.0), other.1)

-- a constant of two indexes
unfoldable pub paired_at : (ℕ → ℕ → Const) → List ℕ → Read Const
paired_at make bytes = do
  two ← two_at bytes
  Ok (make two.0.0 two.0.1, two.1)

-- an Int
unfoldable pub int_at : List ℕ → Read Const
int_at bytes = do
  n ← u4_at bytes
  Ok (Int (cast_signed w32 n.0), n.1)

-- a Float
unfoldable pub float_at : List ℕ → Read Const
float_at bytes = do
  n ← u4_at bytes
  Ok (Float n.0, n.1)

-- a Long
unfoldable pub long_at : List ℕ → Read Const
long_at bytes = do
  n ← u8_at bytes
  Ok (Long (cast_signed w64 n.0), n.1)

-- a Double
unfoldable pub double_at : List ℕ → Read Const
double_at bytes = do
  n ← u8_at bytes
  Ok (Double n.0, n.1)

-- what stands behind a tag, in a constant that begins at `from`
unfoldable pub tagged_at : ℕ → List ℕ → List ℕ → Read Const
tagged_at tag from bytes =
    if tag == 1 then text_constant_at from bytes
    else (if tag == 3 then int_at bytes
    else (if tag == 4 then float_at bytes
    else (if tag == 5 then long_at bytes
    else (if tag == 6 then double_at bytes
    else (if tag == 7 then indexed_at Class bytes
    else (if tag == 8 then indexed_at Text bytes
    else (if tag == 9 then paired_at Field bytes
    else (if tag == 10 then paired_at Method bytes
    else (if tag == 11 then paired_at Interface bytes
    else (if tag == 12 then paired_at NameType bytes
    else refused fault.Tag from))))))))))

-- a constant; one of two entries doesn't fit the last entry of the pool
unfoldable pub constant_at : Bool → List ℕ → Read Const
constant_at is_last bytes = do
  tag ← u1_at bytes
  room ← demand (not (is_last && (tag.0 == 5 || tag.0 == 6))) fault.Index bytes
  tagged_at tag.0 bytes tag.1

-- the constants of so many entries, each with its entries
unfoldable pub entries_at : ℕ → List ℕ → Read (List Const)
entries_at zero bytes = Ok ([], bytes)
entries_at (suc zero) bytes = do
  one ← constant_at true bytes
  Ok (entries_of one.0, one.1)
entries_at (suc (suc n)) bytes = do
  one ← constant_at false bytes
  others ← if is_of kind.Double one.0 then entries_at n one.1 else entries_at (suc n) one.1
  Ok (entries_of one.0 ++ others.0, others.1)

-- the pool, after its count of entries and one; 0 is taken for 1
unfoldable pub pool_at : List ℕ → Read (List Const)
pool_at bytes = do
  count ← u2_at bytes
  entries_at (count.0 - 1) count.1

-- an index of an entry of a kind
unfoldable pub index_at : List Const → Kind → List ℕ → Read ℕ
index_at pool needed bytes = do
  index ← u2_at bytes
  right ← demand (names pool needed index.0) fault.Index bytes
  Ok index

-- two indexes of entries of kinds
unfoldable pub indexes_at : List Const → Kind → Kind → List ℕ → Read (Unit {0})
indexes_at pool one other bytes = do
  first ← index_at pool one bytes
  second ← index_at pool other first.1
  Ok (tt, second.1)

-- the references of a constant, which stand behind its tag
unfoldable pub references_at : List Const → Const → List ℕ → Result (Unit {0}) Fault
references_at pool (Class name) bytes = index_at pool kind.Utf8 bytes >>= λ _. Ok tt
references_at pool (Text text) bytes = index_at pool kind.Utf8 bytes >>= λ _. Ok tt
references_at pool (Field class member) bytes = indexes_at pool kind.Class kind.NameType bytes >>= λ _. Ok tt
references_at pool (Method class member) bytes = indexes_at pool kind.Class kind.NameType bytes >>= λ _. Ok tt
references_at pool (Interface class member) bytes = indexes_at pool kind.Class kind.NameType bytes >>= λ _. Ok tt
references_at pool (NameType name descriptor) bytes = indexes_at pool kind.Utf8 kind.Utf8 bytes >>= λ _. Ok tt
references_at pool _ bytes = Ok tt

-- the references of these constants, which begin the bytes; the second entry of one has none
unfoldable pub all_references_at : List Const → List Const → List ℕ → Result (Unit {0}) Fault
all_references_at pool [] bytes = Ok tt
all_references_at pool (c ∷ cs) bytes = do
  right ← references_at pool c (drop 1 bytes)
  all_references_at pool cs (drop (length (constant_bytes c)) bytes)

-- so many of a kind, one after another
unfoldable pub many_at : {A : Type 0} → (List ℕ → Read A) → ℕ → List ℕ → Read (List A)
many_at one zero bytes = Ok ([], bytes)
many_at one (suc n) bytes = do
  first ← one bytes
  others ← many_at one n first.1
  Ok (first.0 ∷ others.0, others.1)

-- classes, as many as the count says
unfoldable pub interfaces_at : List Const → List ℕ → Read (List ℕ)
interfaces_at pool bytes = do
  count ← u2_at bytes
  many_at (index_at pool kind.Class) count.0 count.1

-- the bytes of an attribute, after its name
unfoldable pub info_at : List ℕ → Read (List ℕ)
info_at bytes = do
  count ← u4_at bytes
  some_at count.0 count.1

-- an attribute that is passed over
unfoldable pub passed_one_at : List ℕ → Read (Unit {0})
passed_one_at bytes = do
  name ← u2_at bytes
  info ← info_at name.1
  Ok (tt, info.1)

-- so many attributes that are passed over
unfoldable pub passed_at : ℕ → List ℕ → Read (Unit {0})
passed_at zero bytes = Ok (tt, bytes)
passed_at (suc n) bytes = do
  first ← passed_one_at bytes
  passed_at n first.1

-- attributes that are passed over, after their count
unfoldable pub attributes_at : List ℕ → Read (Unit {0})
attributes_at bytes = do
  count ← u2_at bytes
  passed_at count.0 count.1

-- a row of an exception table
unfoldable pub row_at : List ℕ → Read Row
row_at bytes = do
  from ← u2_at bytes
  to ← u2_at from.1
  target ← u2_at to.1
  class ← u2_at target.1
  Ok (record { from = from.0; to = to.0; target = target.0; class = class.0 }, class.1)

-- a code before it is looked into, with the bytes from its first instruction on, and from its first row on
pub record Found : Type 0 where
  pub max_stack : ℕ
  pub max_locals : ℕ
  pub code : List ℕ
  pub code_from : List ℕ
  pub rows : List Row
  pub rows_from : List ℕ

-- what a Code attribute has
unfoldable pub content_at : List ℕ → Read Found
content_at bytes = do
  max_stack ← u2_at bytes
  max_locals ← u2_at max_stack.1
  count ← u4_at max_locals.1
  right ← demand (nat_le 1 count.0 && nat_le count.0 65535) fault.Code max_locals.1
  code ← some_at count.0 count.1
  many ← u2_at code.1
  rows ← many_at row_at many.0 many.1
  attributes ← attributes_at rows.1
  Ok (
    record {
      max_stack = max_stack.0;
      max_locals = max_locals.0;
      code = code.0;
      code_from = count.1;
      rows = rows.0;
      rows_from = many.1;
    },
    attributes.1,
  )

-- a Code attribute after its name, whose length is that of its content
unfoldable pub code_at : List ℕ → Read Found
code_at bytes = do
  count ← u4_at bytes
  found ← content_at count.1
  right ← demand (count.0 + length found.1 == length count.1) fault.Code bytes
  Ok found

-- there is none
abbrev pub is_none : {A : Type 0} → Option A → Bool
is_none None = true
is_none (Some x) = false

-- whether this is the text `Code`
abbrev pub is_code_name : Option (List ℕ) → Bool
is_code_name None = false
is_code_name (Some text) = bytes_eq text code_name

-- ACC_ABSTRACT or ACC_NATIVE is set
abbrev pub is_without_code : ℕ → Bool
is_without_code access = not (bit_and access 0x0500 == 0)

-- the Code, which begins at `from`, of a method with this access, behind another one or none
unfoldable pub method_code_at : ℕ → Option Found → List ℕ → List ℕ → Read (Option Found)
method_code_at access before from bytes = do
  right ← demand (not (is_without_code access) && is_none before) fault.Code from
  found ← code_at bytes
  Ok (Some found.0, found.1)

-- an attribute that is passed over, after its name
unfoldable pub other_at : Option Found → List ℕ → Read (Option Found)
other_at before bytes = do
  info ← info_at bytes
  Ok (before, info.1)

-- an attribute of a method, behind others of which one, or none, was its Code
unfoldable pub attribute_at : List Const → ℕ → Option Found → List ℕ → Read (Option Found)
attribute_at pool access before bytes = do
  name ← u2_at bytes
  if is_code_name (text_at pool name.0) then method_code_at access before bytes name.1 else other_at before name.1

-- so many attributes of a method, with its Code if one of them is
unfoldable pub method_attributes_at : ℕ → List Const → ℕ → Option Found → List ℕ → Read (Option Found)
method_attributes_at zero pool access before bytes = Ok (before, bytes)
method_attributes_at (suc n) pool access before bytes = do
  first ← attribute_at pool access before bytes
  method_attributes_at n pool access first.0 first.1

-- the name and the descriptor of a member
abbrev pub Key : Type 0
Key = Option (List ℕ) × Option (List ℕ)

-- the texts at these indexes
abbrev pub key_of : List Const → ℕ → ℕ → Key
key_of pool name descriptor = (text_at pool name, text_at pool descriptor)

-- both are the same text, or none is one
abbrev pub same_text : Option (List ℕ) → Option (List ℕ) → Bool
same_text (Some one) (Some other) = bytes_eq one other
same_text None None = true
same_text _ _ = false

-- the names are the same, and the descriptors
abbrev pub same_key : Key → Key → Bool
same_key one other = same_text one.0 other.0 && same_text one.1 other.1

-- a method before its code is looked into
pub record MethodOutline : Type 0 where
  pub access : ℕ
  pub name : ℕ
  pub descriptor : ℕ
  pub code : Option Found

-- the access, the name and the descriptor of a member that has none of these keys
pub record Front : Type 0 where
  pub access : ℕ
  pub name : ℕ
  pub descriptor : ℕ

-- what a member begins with
unfoldable pub front_at : List Const → List Key → List ℕ → Read Front
front_at pool keys bytes = do
  access ← u2_at bytes
  name ← index_at pool kind.Utf8 access.1
  descriptor ← index_at pool kind.Utf8 name.1
  new ← demand (not (list_any (same_key (key_of pool name.0 descriptor.0)) keys)) fault.Double bytes
  Ok (record { access = access.0; name = name.0; descriptor = descriptor.0 }, descriptor.1)

-- so many members, none of which has one of these keys or that of an earlier one
unfoldable pub members_at : {A : Type 0} → (List Key → List ℕ → Read A) → (A → Key) → ℕ → List Key → List ℕ → Read (List A)
members_at one key zero keys bytes = Ok ([], bytes)
members_at one key (suc n) keys bytes = do
  first ← one keys bytes
  others ← members_at one key n (keys ++ key first.0 ∷ []) first.1
  Ok (first.0 ∷ others.0, others.1)

-- the key of a field
abbrev pub field_key : List Const → FieldInfo → Key
field_key pool field = key_of pool field.name field.descriptor

-- a field that has none of these keys
unfoldable pub field_at : List Const → List Key → List ℕ → Read FieldInfo
field_at pool keys bytes = do
  front ← front_at pool keys bytes
  attributes ← attributes_at front.1
  Ok (record { access = front.0.access; name = front.0.name; descriptor = front.0.descriptor }, attributes.1)

-- the fields, after their count
unfoldable pub fields_at : List Const → List ℕ → Read (List FieldInfo)
fields_at pool bytes = do
  count ← u2_at bytes
  members_at (field_at pool) (field_key pool) count.0 [] count.1

-- a method has code exactly where it is neither abstract nor native
unfoldable pub method_at : List Const → List Key → List ℕ → Read MethodOutline
method_at pool keys bytes = do
  front ← front_at pool keys bytes
  count ← u2_at front.1
  code ← method_attributes_at count.0 pool front.0.access None count.1
  right ← demand (is_without_code front.0.access || not (is_none code.0)) fault.Code bytes
  Ok (
    record {
      access = front.0.access;
      name = front.0.name;
      descriptor = front.0.descriptor;
      code = code.0;
    },
    code.1,
  )

-- the key of a method
abbrev pub method_key : List Const → MethodOutline → Key
method_key pool method = key_of pool method.name method.descriptor

-- the methods, after their count
unfoldable pub methods_at : List Const → List ℕ → Read (List MethodOutline)
methods_at pool bytes = do
  count ← u2_at bytes
  members_at (method_at pool) (method_key pool) count.0 [] count.1

-- a class file before its codes are looked into
pub record FileOutline : Type 0 where
  pub minor : ℕ
  pub major : ℕ
  pub pool : List Const
  pub access : ℕ
  pub this : ℕ
  pub parent : ℕ
  pub interfaces : List ℕ
  pub fields : List FieldInfo
  pub methods : List MethodOutline

-- what stands before the access flags: the version and the pool
unfoldable pub head_at : List ℕ → Read ((ℕ × ℕ) × List Const)
head_at bytes = do
  magic ← magic_at bytes
  version ← version_at magic.1
  pool ← pool_at version.1
  right ← all_references_at pool.0 pool.0 (drop 2 version.1)
  Ok ((version.0, pool.0), pool.1)

-- all of the bytes
unfoldable pub outline_of : List ℕ → Result FileOutline Fault
outline_of bytes = do
  head ← head_at bytes
  access ← u2_at head.1
  this ← index_at head.0.1 kind.Class access.1
  parent ← index_at head.0.1 kind.Class this.1
  interfaces ← interfaces_at head.0.1 parent.1
  fields ← fields_at head.0.1 interfaces.1
  methods ← methods_at head.0.1 fields.1
  attributes ← attributes_at methods.1
  ended ← demand (length attributes.1 == 0) fault.Rest attributes.1
  Ok (record {
    minor = head.0.0.0;
    major = head.0.0.1;
    pool = head.0.1;
    access = access.0;
    this = this.0;
    parent = parent.0;
    interfaces = interfaces.0;
    fields = fields.0;
    methods = methods.0;
  })
