-- Which method a call on an object of a class runs (JVMS 5.4.6), by its name and descriptor.
use Rattle.std.specs.Prelude.{ℕ, Bool, false, ◌&&◌, not, nat_eq, is_some, List, [], ◌∷◌, ◌++◌, Option, Some, None, map, option_map, option_and_then, if◌then◌else◌}
use Rattle.std.specs.List.{list_any}
use Rattle.std.specs.Option.{option_or, unwrap_or}
use Rattle.std.specs.Str.{bytes_eq}
use Rattle.ty_linear.specs.Linear.{is_in}
use Rattle.cf_link.specs.Classes.{is_static, is_abstract, is_interface, number_of, chain_of, line_of, methods_of, method_at}
use Rattle.cf_link.specs.declared.linked_class.LinkedClass.{LinkedClass}
use Rattle.cf_link.specs.declared.member.LinkedMethod.{LinkedMethod}

-- a method that isn't static, of this name and descriptor
abbrev pub is_wanted : List ℕ → List ℕ → LinkedMethod → Bool
is_wanted name descriptor m = not (is_static m.access) && bytes_eq name m.name && bytes_eq descriptor m.descriptor

-- whether the method with these numbers isn't abstract
abbrev pub is_concrete : List LinkedClass → ℕ → ℕ → Bool
is_concrete classes class number = unwrap_or (option_map (λ m. not (is_abstract m.access)) (method_at classes class number)) false

-- the method, if it isn't abstract
abbrev pub if_concrete : List LinkedClass → Option (ℕ × ℕ) → List (ℕ × ℕ)
if_concrete classes None = []
if_concrete classes (Some found) =
    if is_concrete classes found.0 found.1 then found ∷ [] else []

-- the one of a list
abbrev pub only : List (ℕ × ℕ) → Option (ℕ × ℕ)
only [] = None
only (found ∷ []) = Some found
only (found ∷ next ∷ rest) = None

module _ (classes : List LinkedClass) (name descriptor : List ℕ) where
  -- the method of that name and descriptor that a class declares and that isn't static
  abbrev pub declared_in : ℕ → Option (ℕ × ℕ)
  declared_in class = option_map (λ m. (class, m)) (number_of (is_wanted name descriptor) (methods_of classes class))

  -- the first of a chain
  abbrev pub inherited : List ℕ → Option (ℕ × ℕ)
  inherited [] = None
  inherited (class ∷ chain) = option_or (declared_in class) (inherited chain)

  -- an interface below another that declares the method again
  abbrev pub declares_again : ℕ → ℕ → Bool
  declares_again interface lower =
      not (nat_eq lower interface) && is_interface classes lower && is_in (line_of classes lower) interface && is_some (declared_in lower)

  -- the method of an interface that isn't abstract and that no interface of a line below it declares again
  abbrev pub default_of : List ℕ → ℕ → List (ℕ × ℕ)
  default_of all interface =
      if is_interface classes interface && not (list_any (declares_again interface) all) then if_concrete classes (declared_in interface) else []

  -- all of these in a line
  abbrev pub defaults : List ℕ → List ℕ → List (ℕ × ℕ)
  defaults all [] = []
  defaults all (interface ∷ line) = default_of all interface ++ defaults all line

  -- the selected method: the first one in the class and its superclasses in turn; where there is none, the one of its
  -- superinterfaces that isn't abstract, if it is one
  abbrev pub selected : ℕ → Option (ℕ × ℕ)
  selected class = option_or (inherited (chain_of classes class)) (only (defaults (line_of classes class) (line_of classes class)))

-- what a class selects for a method, unless that is static
abbrev pub chosen : List LinkedClass → ℕ → LinkedMethod → Option (ℕ × ℕ)
chosen classes class m = if is_static m.access then None else selected classes m.name m.descriptor class

-- what a class selects for each method of a class or interface
abbrev pub chosen_all : List LinkedClass → ℕ → ℕ → List (Option (ℕ × ℕ))
chosen_all classes class of = map (chosen classes class) (methods_of classes of)

-- what a class selects for the method of a class or interface with this number
abbrev pub chosen_at : List LinkedClass → ℕ → ℕ → ℕ → Option (ℕ × ℕ)
chosen_at classes class of number = option_and_then (chosen classes class) (method_at classes of number)
