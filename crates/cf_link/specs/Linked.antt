-- What every linked set keeps.
use Rattle.std.specs.Prelude.{◌≡◌, ◌≢◌, ◌≤◌, ℕ, List, [], ◌∷◌, ◌++◌, Option, Some, None, ⊤, codes, ◌<◌, take, length, map, slice_get, option_map, option_to_list, encode_utf8_all, IsTrue, IsSome}
use Rattle.std.specs.List.{All}
use Rattle.ty_linear.specs.Linear.{IsLinearisation}
use Rattle.cf_form.specs.ClassFiles.{Each}
use Rattle.cf_link.specs.BuiltIns.{built_ins, IsBuiltIn}
use Rattle.cf_link.specs.Descriptors.{IsType, IsMethodType}
use Rattle.cf_link.specs.Classes.{number_of, is_static, chain_of, method_at, statics_of, slots_of}
use Rattle.cf_link.specs.Resolution.{is_method}
use Rattle.cf_link.specs.Layout.{slots_by, table}
use Rattle.cf_link.specs.declared.linked_class.LinkedClass.{LinkedClass}
use Rattle.cf_link.specs.declared.member.LinkedField.{LinkedField}
use Rattle.cf_link.specs.declared.member.LinkedMethod.{LinkedMethod}
use Rattle.cf_link.specs.declared.reference.LinkedRef.{LinkedRef}
use Rattle.cf_link.specs.declared.reference.LinkedRef.TheVariants.{Text, Class, Field, Static, Method}
use Rattle.cf_link.specs.declared.table.Table.{Table}
use Rattle.cf_link.specs.declared.built_in.TheConstants.{BUILT_INS, OBJECT}

-- the direct supertypes of a class or interface (JLS 4.10.2), by their numbers
abbrev pub supertypes : LinkedClass → List ℕ
supertypes c = option_to_list c.parent ++ c.interfaces

-- the chain of the superclass, if there is one
abbrev pub chain_above : List LinkedClass → Option ℕ → List ℕ
chain_above classes None = []
chain_above classes (Some parent) = chain_of classes parent

-- a field has the kind of its descriptor
abbrev pub IsField : LinkedField → Type 0
IsField f = IsType (encode_utf8_all f.descriptor) f.kind

-- a method has the kinds of its descriptor
abbrev pub IsMethod : LinkedMethod → Type 0
IsMethod m = IsMethodType (encode_utf8_all m.descriptor) m.parameters m.result

-- one class of a set
pub record IsClass (classes : List LinkedClass) (class : ℕ) (c : LinkedClass) : Type 0 where
  -- what is above it is there
  pub there : All (λ other. other < length classes) (supertypes c)
  pub chain : c.chain ≡ class ∷ chain_above classes c.parent
  pub line : IsLinearisation (map supertypes classes) class c.line
  pub fields : All IsField c.fields
  pub statics : All IsField c.statics
  pub methods : All IsMethod c.methods
  pub slots : c.slots ≡ slots_by classes c.chain
  pub initialiser : c.initialiser ≡ number_of (is_method (codes "<clinit>") (codes "()V")) c.methods

-- what a pool entry resolves to is there
abbrev pub IsRef : List LinkedClass → List (List ℕ) → LinkedRef → Type 0
IsRef classes texts (Text text) = text < length texts
IsRef classes texts (Class class) = class < length classes
IsRef classes texts (Field class number) = option_map (λ slot. slot.class) (slice_get (slots_of classes class) number) ≡ Some class
IsRef classes texts (Static class number) = number < length (statics_of classes class)
IsRef classes texts (Method class number) = IsSome (method_at classes class number)
IsRef classes texts _ = ⊤

-- a static method with code
abbrev pub IsEntry : LinkedMethod → Type 0
IsEntry m = IsTrue (is_static m.access) × IsSome m.code

-- a linked set
pub record IsLinked (classes : List LinkedClass) (tables : List Table) (refs : List (List LinkedRef)) (texts : List (List ℕ)) (main : ℕ × ℕ) : Type 0 where
  pub built_in : BUILT_INS ≤ length classes
  -- the built-in classes come first, as they are
  pub are_built_in : Each IsBuiltIn built_ins (take BUILT_INS classes)
  -- each class but Object has a superclass
  pub parents : (class : ℕ) (c : LinkedClass) → slice_get classes class ≡ Some c → class ≢ OBJECT → IsSome c.parent
  pub each : (class : ℕ) (c : LinkedClass) → slice_get classes class ≡ Some c → IsClass classes class c
  pub tables_count : length tables ≡ length classes
  pub each_table : (class : ℕ) (t : Table) → slice_get tables class ≡ Some t → t ≡ table classes class
  pub refs_count : length refs ≡ length classes
  pub each_ref : All (All (IsRef classes texts)) refs
  pub entry : (m : LinkedMethod) × (method_at classes main.0 main.1 ≡ Some m) × IsEntry m
