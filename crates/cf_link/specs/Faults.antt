-- Why class files aren't linked, and which fault is told (JVMS 5.3, 5.4.3).
use Rattle.std.specs.Prelude.{◌≡◌, ℕ, ◌+◌, ◌<◌, Bool, false, true, List, ◌∷◌, ◌++◌, Option, Some, None, codes, map, take, length, slice_get, option_map, option_to_list, encode_utf8_all, IsTrue}
use Rattle.std.specs.List.{All}
use Rattle.std.specs.Option.{unwrap_or}
use Rattle.ty_linear.specs.Linear.{IsAncestor}
use Rattle.cf_form.specs.ClassFiles.{Each}
use Rattle.cf_form.specs.Pool.{entry, text_at}
use Rattle.cf_form.specs.declared.class_file.ClassFile.{ClassFile}
use Rattle.cf_form.specs.declared.constant.Const.{Const}
use Rattle.cf_form.specs.declared.constant.Const.TheVariants as constant
use Rattle.cf_link.specs.BuiltIns.{built_ins}
use Rattle.cf_link.specs.Classes.{is_interface_access}
use Rattle.cf_link.specs.Descriptors.{IsType, IsMethodType}
use Rattle.cf_link.specs.OfFiles.{class_named, name_of, names_of, has_text, IsAt, Says, AreClasses, IsMain}
use Rattle.cf_link.specs.Resolution.{resolved_field, resolved_method}
use Rattle.cf_link.specs.declared.built_in.TheConstants.{BUILT_INS}
use Rattle.cf_link.specs.declared.fault.LinkKind.{LinkKind}
use Rattle.cf_link.specs.declared.fault.LinkKind.TheVariants.{Twice, NoClass, Cyclic, Shape, NoMember, Memory}
use Rattle.cf_link.specs.declared.linked_class.LinkedClass.{LinkedClass}
use Rattle.cf_link.specs.declared.reference.LinkedRef.{LinkedRef}
use Rattle.cf_link.specs.declared.value_kind.ValueKind.{ValueKind}

-- the numbers of the superclass and the superinterfaces of a file's class
abbrev pub AreAbove : List (List ℕ) → ClassFile → List ℕ → Type 0
AreAbove names file numbers = Each (λ index number. IsAt names number (class_named file.pool index)) (file.parent ∷ file.interfaces) numbers

-- the direct supertypes of each class, the built-in ones first
pub record AreSupertypes (files : List ClassFile) (rows : List (List ℕ)) : Type 0 where
  pub of_files : List (List ℕ)
  pub both : rows ≡ map (λ b. option_to_list b.parent) built_ins ++ of_files
  pub are_of_files : Each (AreAbove (names_of files)) files of_files

-- whether the class of this number is an interface
abbrev pub interface_at : List ClassFile → ℕ → Bool
interface_at files number =
    unwrap_or (option_map is_interface_access (slice_get (map (λ b. b.access) built_ins ++ map (λ f. f.access) files) number)) false

-- the class at an index is an interface, or isn't
abbrev pub IsInterfaceAt : List ClassFile → Bool → ClassFile → ℕ → Type 0
IsInterfaceAt files is file index =
    (number : ℕ) → IsAt (names_of files) number (class_named file.pool index) → interface_at files number ≡ is

-- a text describes a field
abbrev pub IsFieldText : Option (List ℕ) → Type 0
IsFieldText None = ⊥
IsFieldText (Some text) = (kind : ValueKind) × IsType (encode_utf8_all text) kind

-- a text describes a method
abbrev pub IsMethodText : Option (List ℕ) → Type 0
IsMethodText None = ⊥
IsMethodText (Some text) = (kinds : List ValueKind) × (result : Option ValueKind) × IsMethodType (encode_utf8_all text) kinds result

-- a text describes a field or a method
pub data IsDescriptor : Option (List ℕ) → Type 0 where
  field : (text : Option (List ℕ)) → IsFieldText text → IsDescriptor text
  method : (text : Option (List ℕ)) → IsMethodText text → IsDescriptor text

-- the descriptor of a name with its descriptor
abbrev pub descriptor_of : List Const → Option Const → Option (List ℕ)
descriptor_of pool (Some (constant.NameType name descriptor)) = text_at pool descriptor
descriptor_of pool _ = None

-- an entry has a descriptor of its form (JVMS 4.4.2, 4.4.6)
abbrev pub IsDescribed : List Const → Const → Type 0
IsDescribed pool (constant.NameType name descriptor) = IsDescriptor (text_at pool descriptor)
IsDescribed pool (constant.Field class member) = IsFieldText (descriptor_of pool (entry pool member))
IsDescribed pool (constant.Method class member) = IsMethodText (descriptor_of pool (entry pool member))
IsDescribed pool (constant.Interface class member) = IsMethodText (descriptor_of pool (entry pool member))
IsDescribed pool _ = Unit {0}

-- the superclass of a file's class is no interface, each superinterface is one, and each descriptor is well formed
pub record IsShaped (files : List ClassFile) (file : ClassFile) : Type 0 where
  pub parent : IsInterfaceAt files false file file.parent
  pub interfaces : All (IsInterfaceAt files true file) file.interfaces
  pub fields : All (λ f. IsFieldText (text_at file.pool f.descriptor)) file.fields
  pub methods : All (λ m. IsMethodText (text_at file.pool m.descriptor)) file.methods
  pub entries : All (IsDescribed file.pool) file.pool

-- a reference resolves to nothing; it names this class
abbrev pub LacksBy : (List LinkedClass → ℕ → List ℕ → List ℕ → Option LinkedRef) → List (List ℕ) → List LinkedClass → List Const → ℕ → ℕ → List ℕ → Type 0
LacksBy resolved names classes pool class member told =
    (class_named pool class ≡ Some told) × ((number : ℕ) × (name : List ℕ) × (descriptor : List ℕ) × Says names pool class member number name descriptor
    × (resolved classes number name descriptor ≡ None))

-- an entry is a reference to a field or method that the named class lacks
abbrev pub Lacks : List (List ℕ) → List LinkedClass → List Const → Const → List ℕ → Type 0
Lacks names classes pool (constant.Field class member) told = LacksBy resolved_field names classes pool class member told
Lacks names classes pool (constant.Method class member) told = LacksBy resolved_method names classes pool class member told
Lacks names classes pool (constant.Interface class member) told = LacksBy resolved_method names classes pool class member told
Lacks names classes pool _ told = ⊥

-- a fault of a kind, with the number of its file, the index in its pool (0 where the whole file is meant), and the name of
-- the class that is told
pub data IsFault (files : List ClassFile) : LinkKind → ℕ → ℕ → List ℕ → Type 0 where
  -- a class has the name of a built-in one or of one in an earlier file
  twice : (i : ℕ) (file : ClassFile) → slice_get files i ≡ Some file
      → IsTrue (has_text (take (BUILT_INS + i) (names_of files)) (name_of file)) → IsFault files Twice i 0 (name_of file)
  -- an entry names a class that isn't there
  no_class : (i index text : ℕ) (file : ClassFile) (name : List ℕ) → slice_get files i ≡ Some file
      → entry file.pool index ≡ Some (constant.Class text) → text_at file.pool text ≡ Some name
      → ¬ (IsTrue (has_text (names_of files) name)) → IsFault files NoClass i index name
  -- a class is its own ancestor
  cyclic : (i : ℕ) (file : ClassFile) (rows : List (List ℕ)) → slice_get files i ≡ Some file → AreSupertypes files rows
      → IsAncestor rows (BUILT_INS + i) (BUILT_INS + i) → IsFault files Cyclic i 0 (name_of file)
  -- a superclass is an interface, a superinterface isn't one, or a descriptor is malformed
  shape : (i : ℕ) (file : ClassFile) → slice_get files i ≡ Some file → ¬ (IsShaped files file) → IsFault files Shape i 0 (name_of file)
  -- a reference resolves to nothing; told is the class that it names
  no_member : (i index : ℕ) (file : ClassFile) (c : Const) (told : List ℕ) (classes : List LinkedClass)
      → slice_get files i ≡ Some file → AreClasses files classes → entry file.pool index ≡ Some c
      → Lacks (names_of files) classes file.pool c told → IsFault files NoMember i index told
  -- there is no method to start at; it comes behind all files
  no_main : (classes : List LinkedClass) → AreClasses files classes → ((main : ℕ × ℕ) → ¬ (IsMain files classes main))
      → IsFault files NoMember (length files) 0 (codes "Main")

-- the order in which the kinds are looked for
abbrev pub rank : LinkKind → ℕ
rank Twice = 0
rank NoClass = 1
rank Cyclic = 2
rank Shape = 3
rank NoMember = 4
rank Memory = 5

-- a fault comes before another: by the kind, then by the file, then by the index
pub data ComesBefore : LinkKind → ℕ → ℕ → LinkKind → ℕ → ℕ → Type 0 where
  kind : (a b : LinkKind) (i j m n : ℕ) → rank a < rank b → ComesBefore a i m b j n
  file : (k : LinkKind) (i j m n : ℕ) → i < j → ComesBefore k i m k j n
  index : (k : LinkKind) (i m n : ℕ) → m < n → ComesBefore k i m k i n

-- the files have no fault of a kind
abbrev pub HasNone : List ClassFile → LinkKind → Type 0
HasNone files of = (i n : ℕ) (told : List ℕ) → ¬ (IsFault files of i n told)

-- the first fault of the files has this kind and tells this class
pub record IsFirstFault (files : List ClassFile) (kind : LinkKind) (told : List ℕ) : Type 0 where
  pub file : ℕ
  pub index : ℕ
  pub is : IsFault files kind file index told
  pub first : (k : LinkKind) (i n : ℕ) (name : List ℕ) → IsFault files k i n name → ¬ (ComesBefore k i n kind file index)
