-- The types that the members of classes are declared with.
use Rattle.std.specs.Prelude.{ℕ, List, [], ◌∷◌, ◌++◌, Option, slice_get, option_map, option_and_then, option_to_list, if◌then◌else◌}
use Rattle.std.specs.Option.{unwrap_or}
use Rattle.ty_prog.specs.declared.class.Class.{Class}
use Rattle.ty_prog.specs.declared.field.Field.{Field}
use Rattle.ty_prog.specs.declared.method.Method.{Method}
use Rattle.ty_prog.specs.declared.program.Program.{Program}
use Rattle.ty_prog.specs.declared.ty.Ty.{Ty}
use Rattle.ty_prog.specs.Find.{super_find}
use Rattle.ty_conform.specs.Kinds.{is_trait_kind, is_trait}

-- the type of a field of a class
abbrev pub field_type : List Class → ℕ → ℕ → Option Ty
field_type classes class field = option_and_then (λ c. option_map (λ f. f.ty) (slice_get c.fields field)) (slice_get classes class)

-- the type of a cell of a class
abbrev pub cell_type : List Class → ℕ → ℕ → Option Ty
cell_type classes class cell = option_and_then (λ c. option_map (λ x. x.ty) (slice_get c.cells cell)) (slice_get classes class)

-- a method of a class
abbrev pub method_at : List Class → ℕ → ℕ → Option Method
method_at classes class method = option_and_then (λ c. slice_get c.methods method) (slice_get classes class)

-- the result of a method, if there is one
abbrev pub result_of : Option Method → Option Ty
result_of method = option_map (λ m. m.result) method

-- the first concrete method of a name behind a template in the linearisation of the class whose `this` it is
abbrev pub super_method : Program → Option ℕ → ℕ → List ℕ → Option Method
super_method p this after name =
    option_and_then (λ found. method_at p.classes found.0 found.1) (option_and_then (λ class. super_find p class after name) this)

-- the types of the fields with these numbers
abbrev pub types_of_fields : List Field → List ℕ → List Ty
types_of_fields fields [] = []
types_of_fields fields (field ∷ rest) = option_to_list (option_map (λ f. f.ty) (slice_get fields field)) ++ types_of_fields fields rest

-- the types of the parameters of a class
abbrev pub param_types : Class → List Ty
param_types class = types_of_fields class.fields class.params

-- the types of the parameters of the class with a number
abbrev pub param_types_at : List Class → ℕ → Option (List Ty)
param_types_at classes class = option_map param_types (slice_get classes class)

-- the types that the constructor of the superclass wants: none where that is AnyRef, and none of a trait, which calls no
-- superclass constructor
abbrev pub first_params : List Class → List ℕ → List Ty
first_params classes [] = []
first_params classes (first ∷ rest) = if is_trait classes first then [] else unwrap_or (param_types_at classes first) []

-- what the constructor of a class hands its superclass's
abbrev pub super_params : List Class → Class → List Ty
super_params classes class = if is_trait_kind class.kind then [] else first_params classes class.parents
