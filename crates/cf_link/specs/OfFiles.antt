-- What a linked set has of its class files: classes, members, texts, what pool entries resolve to, and the main method
-- (JVMS 5.3, 5.4).
use Rattle.std.specs.Prelude.{◌≡◌, ℕ, Bool, ◌&&◌, not, is_some, List, [], ◌∷◌, ◌++◌, Option, Some, None, codes, map, slice_get, option_map, filter, if◌then◌else◌}
use Rattle.std.specs.List.{list_any, flat_map}
use Rattle.std.specs.Option.{unwrap_or}
use Rattle.std.specs.Str.{bytes_eq}
use Rattle.cf_form.specs.ClassFiles.{Each}
use Rattle.cf_form.specs.Pool.{entry, text_at}
use Rattle.cf_form.specs.declared.class_file.ClassFile.{ClassFile}
use Rattle.cf_form.specs.declared.class_file.FieldInfo.{FieldInfo}
use Rattle.cf_form.specs.declared.class_file.MethodInfo.{MethodInfo}
use Rattle.cf_form.specs.declared.constant.Const.{Const}
use Rattle.cf_form.specs.declared.constant.Const.TheVariants as constant
use Rattle.cf_link.specs.BuiltIns.{built_ins, IsBuiltIn}
use Rattle.cf_link.specs.Classes.{is_static, number_of, methods_of}
use Rattle.cf_link.specs.Linked.{IsClass}
use Rattle.cf_link.specs.Resolution.{is_method, resolved_field, resolved_method}
use Rattle.cf_link.specs.declared.linked_class.LinkedClass.{LinkedClass}
use Rattle.cf_link.specs.declared.member.LinkedField.{LinkedField}
use Rattle.cf_link.specs.declared.member.LinkedMethod.{LinkedMethod}
use Rattle.cf_link.specs.declared.reference.LinkedRef.{LinkedRef}
use Rattle.cf_link.specs.declared.reference.LinkedRef.TheVariants as ref

-- the text that an entry names: of a class its name, of a String its text
abbrev pub text_of : List Const → Option Const → Option (List ℕ)
text_of pool (Some (constant.Class name)) = text_at pool name
text_of pool (Some (constant.Text text)) = text_at pool text
text_of pool _ = None

-- the name of the class that an index names
abbrev pub class_named : List Const → ℕ → Option (List ℕ)
class_named pool index = text_of pool (entry pool index)

-- the name of the class of a file
abbrev pub name_of : ClassFile → List ℕ
name_of file = unwrap_or (class_named file.pool file.this) []

-- the names of all classes, by their numbers
abbrev pub names_of : List ClassFile → List (List ℕ)
names_of files = map (λ b. b.name) built_ins ++ map name_of files

-- whether a list has a text
abbrev pub has_text : List (List ℕ) → List ℕ → Bool
has_text texts text = list_any (bytes_eq text) texts

-- the text at an index is that of a number in a list
abbrev pub IsAt : List (List ℕ) → ℕ → Option (List ℕ) → Type 0
IsAt texts number None = ⊥
IsAt texts number (Some text) = slice_get texts number ≡ Some text

-- texts, each kept where it comes first alone
abbrev pub each_once : List (List ℕ) → List (List ℕ) → List (List ℕ)
each_once found [] = found
each_once found (text ∷ texts) = each_once (if has_text found text then found else found ++ text ∷ []) texts

-- the text of a String entry
abbrev pub string_text : List Const → Const → List (List ℕ)
string_text pool (constant.Text text) = unwrap_or (option_map (λ t. t ∷ []) (text_at pool text)) []
string_text pool _ = []

-- the texts that String entries name, in the order of the files and of their pools
abbrev pub texts_of : List ClassFile → List (List ℕ)
texts_of files = each_once [] (flat_map (λ file. flat_map (string_text file.pool) file.pool) files)

-- a linked field is this one of a file
abbrev pub IsFieldOf : List Const → FieldInfo → LinkedField → Type 0
IsFieldOf pool i f = (text_at pool i.name ≡ Some f.name) × (text_at pool i.descriptor ≡ Some f.descriptor)

-- a linked method is this one of a file
abbrev pub IsMethodOf : List Const → MethodInfo → LinkedMethod → Type 0
IsMethodOf pool i m =
    (text_at pool i.name ≡ Some m.name) × (text_at pool i.descriptor ≡ Some m.descriptor)
    × (m.access ≡ i.access) × (m.code ≡ i.code) × (m.native ≡ None)

-- a linked class is that of this file
pub record IsOfFile (names : List (List ℕ)) (file : ClassFile) (c : LinkedClass) : Type 0 where
  pub name : c.name ≡ name_of file
  pub access : c.access ≡ file.access
  pub parent : (number : ℕ) × (c.parent ≡ Some number) × IsAt names number (class_named file.pool file.parent)
  pub interfaces : Each (λ index number. IsAt names number (class_named file.pool index)) file.interfaces c.interfaces
  pub fields : Each (IsFieldOf file.pool) (filter (λ f. not (is_static f.access)) file.fields) c.fields
  pub statics : Each (IsFieldOf file.pool) (filter (λ f. is_static f.access) file.fields) c.statics
  pub methods : Each (IsMethodOf file.pool) file.methods c.methods

-- what a reference to a member says: its class's number, its name and its descriptor
pub record Says (names : List (List ℕ)) (pool : List Const) (class member number : ℕ) (name descriptor : List ℕ) : Type 0 where
  pub name_index : ℕ
  pub descriptor_index : ℕ
  pub of_class : IsAt names number (class_named pool class)
  pub of_member : entry pool member ≡ Some (constant.NameType name_index descriptor_index)
  pub named : text_at pool name_index ≡ Some name
  pub described : text_at pool descriptor_index ≡ Some descriptor

-- a reference resolves to this
abbrev pub ResolvesBy : (List LinkedClass → ℕ → List ℕ → List ℕ → Option LinkedRef) → List (List ℕ) → List LinkedClass → List Const → ℕ → ℕ → LinkedRef → Type 0
ResolvesBy resolved names classes pool class member r =
    (number : ℕ) × (name : List ℕ) × (descriptor : List ℕ) × Says names pool class member number name descriptor
    × (resolved classes number name descriptor ≡ Some r)

-- an entry of a pool resolves to this (JVMS 5.4.3)
abbrev pub Resolves : List (List ℕ) → List (List ℕ) → List LinkedClass → List Const → Const → LinkedRef → Type 0
Resolves names texts classes pool (constant.Int x) r = r ≡ ref.Int x
Resolves names texts classes pool (constant.Long x) r = r ≡ ref.Long x
Resolves names texts classes pool (constant.Text text) r = (number : ℕ) × (r ≡ ref.Text number) × IsAt texts number (text_at pool text)
Resolves names texts classes pool (constant.Class name) r = (number : ℕ) × (r ≡ ref.Class number) × IsAt names number (text_at pool name)
Resolves names texts classes pool (constant.Field class member) r = ResolvesBy resolved_field names classes pool class member r
Resolves names texts classes pool (constant.Method class member) r = ResolvesBy resolved_method names classes pool class member r
Resolves names texts classes pool (constant.Interface class member) r = ResolvesBy resolved_method names classes pool class member r
Resolves names texts classes pool _ r = r ≡ ref.Other

-- whether a method is `static main([Ljava/lang/String;)V` with code
abbrev pub is_main : LinkedMethod → Bool
is_main m = is_method (codes "main") (codes "([Ljava/lang/String;)V") m && is_static m.access && is_some m.code

-- these are the classes of the files: the built-in ones, then those of the files in their order
pub record AreClasses (files : List ClassFile) (classes : List LinkedClass) : Type 0 where
  pub built_in : List LinkedClass
  pub of_files : List LinkedClass
  pub both : classes ≡ built_in ++ of_files
  pub are_built_in : Each IsBuiltIn built_ins built_in
  pub are_of_files : Each (IsOfFile (names_of files)) files of_files
  pub each : (class : ℕ) (c : LinkedClass) → slice_get classes class ≡ Some c → IsClass classes class c

-- the method at which a program starts, by its class and number
pub record IsMain (files : List ClassFile) (classes : List LinkedClass) (main : ℕ × ℕ) : Type 0 where
  pub class : slice_get (names_of files) main.0 ≡ Some (codes "Main")
  pub method : number_of is_main (methods_of classes main.0) ≡ Some main.1
