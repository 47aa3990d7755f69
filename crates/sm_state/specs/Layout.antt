-- Objects as they are made: where each field and each cell stands, and what it begins with (JVMS 2.3, 2.4).
use Rattle.std.specs.Prelude.{ℕ, ◌+◌, ◌==◌, false, if◌then◌else◌, pos, List, [], ◌∷◌, ◌++◌, map, length, Option, Some, None, option_map, slice_get}
use Rattle.ty_prog.specs.Tree.{or_none}
use Rattle.ty_prog.specs.declared.class.Class.{Class}
use Rattle.ty_prog.specs.declared.field.Field.{Field}
use Rattle.ty_prog.specs.declared.cell.Cell.{Cell}
use Rattle.ty_prog.specs.declared.ty.Ty.{Ty}
use Rattle.ty_prog.specs.declared.ty.Ty.TheVariants as ty
use Rattle.sm_state.specs.declared.value.Value.{Value}
use Rattle.sm_state.specs.declared.value.Value.TheVariants as value
use Rattle.sm_state.specs.declared.once.Once.{Once}
use Rattle.sm_state.specs.declared.once.Once.TheVariants as once
use Rattle.sm_state.specs.declared.heap.Object.{Object}

-- the linearisation of a class; none where there is no such class
abbrev pub linear_of : List Class → ℕ → List ℕ
linear_of classes class = or_none (option_map (λ c. c.linear) (slice_get classes class))

-- the fields of a class
abbrev pub fields_of : List Class → ℕ → List Field
fields_of classes class = or_none (option_map (λ c. c.fields) (slice_get classes class))

-- the cells of a class
abbrev pub cells_of : List Class → ℕ → List Cell
cells_of classes class = or_none (option_map (λ c. c.cells) (slice_get classes class))

-- how many items the classes before a class in a linearisation have, if it is there
abbrev pub offset : {A : Type 0} → (ℕ → List A) → List ℕ → ℕ → Option ℕ
offset items [] class = None
offset items (c ∷ linear) class = if c == class then Some 0 else option_map (λ n. length (items c) + n) (offset items linear class)

-- the number that the field of a class has among the fields of an object of the class `of`
abbrev pub field_number : List Class → ℕ → ℕ → ℕ → Option ℕ
field_number classes of class field = option_map (λ n. n + field) (offset (fields_of classes) (linear_of classes of) class)

-- the number that the cell of a class has among the cells of an object of the class `of`
abbrev pub cell_number : List Class → ℕ → ℕ → ℕ → Option ℕ
cell_number classes of class cell = option_map (λ n. n + cell) (offset (cells_of classes) (linear_of classes of) class)

-- zero, false, () or null, by the type
abbrev pub default_of : Ty → Value
default_of ty.Int = value.Int (pos 0)
default_of ty.Long = value.Long (pos 0)
default_of ty.Boolean = value.Bool false
default_of ty.Unit = value.Unit
default_of other = value.Null

-- what a field of this type begins with: a given value, or the default
abbrev pub initial : Option Value → Ty → Value
initial None type = default_of type
initial (Some v) type = v

-- the fields of an object whose class has this linearisation
abbrev pub made_fields : List Class → Option Value → List ℕ → List Value
made_fields classes given [] = []
made_fields classes given (c ∷ linear) = map (λ f. initial given f.ty) (fields_of classes c) ++ made_fields classes given linear

-- the cells of a new object: all Empty
abbrev pub made_cells : List Class → List ℕ → List Once
made_cells classes [] = []
made_cells classes (c ∷ linear) = map (λ cell. once.Empty) (cells_of classes c) ++ made_cells classes linear

-- an object of this class, with all fields as given, or with their defaults, and its cells empty
abbrev pub made : List Class → ℕ → Option Value → Object
made classes class given = record {
  class = class;
  fields = made_fields classes given (linear_of classes class);
  cells = made_cells classes (linear_of classes class);
}
