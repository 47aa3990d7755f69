-- What references to fields and methods resolve to (JVMS 5.4.3.2 to 5.4.3.4): the walk goes along the class and its
-- superclasses, then along the interfaces above them.
use Rattle.std.specs.Prelude.{ℕ, ◌+◌, ◌-◌, Bool, ◌&&◌, nat_lt, List, [], ◌∷◌, Option, None, codes, encode_utf8_all, length, option_map, option_and_then, if◌then◌else◌}
use Rattle.std.specs.Option.{option_or}
use Rattle.std.specs.Str.{bytes_eq}
use Rattle.cf_link.specs.Classes.{number, number_of, is_interface, chain_of, line_of, methods_of, fields_of, statics_of, slots_of}
use Rattle.cf_link.specs.Selection.{only, declared_in, defaults}
use Rattle.cf_link.specs.declared.linked_class.LinkedClass.{LinkedClass}
use Rattle.cf_link.specs.declared.member.LinkedField.{LinkedField}
use Rattle.cf_link.specs.declared.member.LinkedMethod.{LinkedMethod}
use Rattle.cf_link.specs.declared.reference.LinkedRef.{LinkedRef}
use Rattle.cf_link.specs.declared.reference.LinkedRef.TheVariants.{Field, Static, Method}
use Rattle.cf_link.specs.declared.built_in.TheConstants.{BUILT_INS}

-- a field of this name and descriptor
abbrev pub is_field : List ℕ → List ℕ → LinkedField → Bool
is_field name descriptor f = bytes_eq name f.name && bytes_eq descriptor f.descriptor

-- a method of this name and descriptor
abbrev pub is_method : List ℕ → List ℕ → LinkedMethod → Bool
is_method name descriptor m = bytes_eq name m.name && bytes_eq descriptor m.descriptor

-- how many fields the superclass of a class gives its objects
abbrev pub inherited_slots : List LinkedClass → ℕ → ℕ
inherited_slots classes class = length (slots_of classes class) - length (fields_of classes class)

module _ (classes : List LinkedClass) (name descriptor : List ℕ) where
  -- the instance field that a class declares
  abbrev pub instance_in : ℕ → Option LinkedRef
  instance_in class =
      option_and_then (λ i. option_map (λ n. Field class n) (number (inherited_slots classes class + i)))
      (number_of (is_field name descriptor) (fields_of classes class))

  -- the field that a class declares; no reference resolves to a field of a built-in class
  abbrev pub field_in : ℕ → Option LinkedRef
  field_in class =
      if nat_lt class BUILT_INS then None
      else option_or (instance_in class)
      (option_map (λ i. Static class i) (number_of (is_field name descriptor) (statics_of classes class)))

  -- the method that a class declares
  abbrev pub method_in : ℕ → Option LinkedRef
  method_in class = option_map (λ i. Method class i) (number_of (is_method name descriptor) (methods_of classes class))

-- what a search gives in an interface, and nothing in a class
abbrev pub in_interface : List LinkedClass → (ℕ → Option LinkedRef) → ℕ → Option LinkedRef
in_interface classes search class = if is_interface classes class then search class else None

-- the first that a search gives in classes
abbrev pub first_found : (ℕ → Option LinkedRef) → List ℕ → Option LinkedRef
first_found search [] = None
first_found search (class ∷ classes) = option_or (search class) (first_found search classes)

-- what a reference to a field of a class resolves to: the first one in the class and its superclasses, then in the
-- interfaces in the order of the linearisation
abbrev pub resolved_field : List LinkedClass → ℕ → List ℕ → List ℕ → Option LinkedRef
resolved_field classes class name descriptor =
    option_or (first_found (field_in classes name descriptor) (chain_of classes class))
    (first_found (in_interface classes (field_in classes name descriptor)) (line_of classes class))

-- the method of these numbers
abbrev pub method_ref : ℕ × ℕ → LinkedRef
method_ref found = Method found.0 found.1

module _ (classes : List LinkedClass) (name descriptor : List ℕ) where
  -- the method that an interface declares and that isn't static
  abbrev pub offered_in : ℕ → Option LinkedRef
  offered_in class = in_interface classes (λ c. option_map method_ref (declared_in classes name descriptor c)) class

  -- the method of the interfaces of a line: the one that isn't abstract and is declared again by none below it, if it is
  -- one, else the first that isn't static
  abbrev pub of_interfaces : List ℕ → Option LinkedRef
  of_interfaces line = option_or (option_map method_ref (only (defaults classes name descriptor line line))) (first_found offered_in line)

-- the name of what initialises a class (JVMS 2.9)
abbrev pub initialiser_name : List ℕ
initialiser_name = codes "<clinit>"

-- what a reference to a method of a class resolves to: the first one in the class and its superclasses, then that of the
-- interfaces; none to the initialiser of a class (JVMS 4.4.2)
abbrev pub resolved_method : List LinkedClass → ℕ → List ℕ → List ℕ → Option LinkedRef
resolved_method classes class name descriptor =
    if bytes_eq (encode_utf8_all name) initialiser_name then None
    else option_or (first_found (method_in classes name descriptor) (chain_of classes class))
    (of_interfaces classes name descriptor (line_of classes class))
