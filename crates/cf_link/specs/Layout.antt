-- Where the fields of an object and the selected methods of a class have their slots.
use Rattle.std.specs.Prelude.{ℕ, zero, suc, ◌&&◌, List, [], ◌∷◌, ◌++◌, Option, map, reverse, drop, length}
use Rattle.std.specs.List.{filter, flat_map}
use Rattle.ty_linear.specs.Linear.{is_in}
use Rattle.cf_link.specs.Classes.{chain_of, line_of, fields_of, is_interface}
use Rattle.cf_link.specs.Selection.{chosen_all}
use Rattle.cf_link.specs.declared.linked_class.LinkedClass.{LinkedClass}
use Rattle.cf_link.specs.declared.member.Slot.{Slot}
use Rattle.cf_link.specs.declared.table.Table.{Table}
use Rattle.cf_link.specs.declared.table.Face.{Face}

-- the slots of a class's own instance fields
abbrev pub own_slots : List LinkedClass → ℕ → List Slot
own_slots classes class = map (λ f. record { class = class; kind = f.kind }) (fields_of classes class)

-- the slots of the classes of a chain, the uppermost class first
abbrev pub slots_by : List LinkedClass → List ℕ → List Slot
slots_by classes chain = flat_map (own_slots classes) (reverse chain)

-- what a class selects for the methods of the classes of a chain, the uppermost class first
abbrev pub method_slots : List LinkedClass → ℕ → List ℕ → List (Option (ℕ × ℕ))
method_slots classes class chain = flat_map (chosen_all classes class) (reverse chain)

-- the numbers below a bound, in their order
abbrev pub numbers : ℕ → List ℕ
numbers zero = []
numbers (suc n) = numbers n ++ n ∷ []

-- the interfaces to which a class conforms, in rising order
abbrev pub interfaces_of : List LinkedClass → ℕ → List ℕ
interfaces_of classes class =
    filter (λ i. is_interface classes i && is_in (line_of classes class) i) (numbers (length classes))

-- what a class selects for the methods of an interface
abbrev pub face : List LinkedClass → ℕ → ℕ → Face
face classes class of = record { of = of; slots = chosen_all classes class of }

-- the table of a class
abbrev pub table : List LinkedClass → ℕ → Table
table classes class = record {
  base = length (method_slots classes class (drop 1 (chain_of classes class)));
  slots = method_slots classes class (chain_of classes class);
  faces = map (face classes class) (interfaces_of classes class);
}
