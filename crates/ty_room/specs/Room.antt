-- What a program becomes has room in class files: code of under 65,536 bytes, so that each jump is short (JVMS 4.7.3,
-- 6.5), and a constant pool of under 65,536 entries (JVMS 4.1).
use Rattle.std.specs.Prelude.{ℕ, ◌+◌, ◌*◌, ◌-◌, ◌≤◌, Bool, ◌&&◌, not, is_some, List, Option, Some, None, length, map, sum_by, slice_get, option_map, if◌then◌else◌}
use Rattle.std.specs.List.{All, count_by}
use Rattle.std.specs.Option.{unwrap_or}
use Rattle.ty_prog.specs.declared.class.Class.{Class}
use Rattle.ty_prog.specs.declared.cell.Cell.{Cell}
use Rattle.ty_prog.specs.declared.method.Method.{Method}
use Rattle.ty_prog.specs.declared.kind.Kind.{Kind}
use Rattle.ty_prog.specs.declared.kind.Kind.TheVariants as kind
use Rattle.ty_prog.specs.declared.expr.Expr.{Expr}
use Rattle.ty_prog.specs.declared.program.Program.{Program}
use Rattle.ty_room.specs.declared.ahead.Ahead.{Ahead}
use Rattle.ty_room.specs.declared.size.Size.{Size}
use Rattle.ty_room.specs.Ahead.{ahead_of}
use Rattle.ty_room.specs.Numbers.{making}
use Rattle.ty_room.specs.Sizing.{nothing, merged, together, all_exprs, node_size, expr_size}

-- the most that a body may weigh: no jump in it needs a wide form
abbrev pub MOST_WEIGHT : ℕ
MOST_WEIGHT = 32000

-- the most entries that a class may bring
abbrev pub MOST_ENTRIES : ℕ
MOST_ENTRIES = 64000

-- what ends a body
abbrev pub RETURN_WEIGHT : ℕ
RETURN_WEIGHT = 2

-- a constructor stores each class parameter
abbrev pub PARAMETER_WEIGHT : ℕ
PARAMETER_WEIGHT = 8

-- it runs the statements of each trait that is mixed in
abbrev pub MIXIN_WEIGHT : ℕ
MIXIN_WEIGHT = 8

-- it stores the reference of an object
abbrev pub OBJECT_WEIGHT : ℕ
OBJECT_WEIGHT = 12

-- what every class file may name: built-in methods, boxes, exceptions, its own constructor
abbrev pub FILE_ENTRIES : ℕ
FILE_ENTRIES = 1000

-- each class of the program may be named: its entry, its name, its descriptor
abbrev pub NAMED_ENTRIES : ℕ
NAMED_ENTRIES = 3

-- each class parameter
abbrev pub PARAMETER_ENTRIES : ℕ
PARAMETER_ENTRIES = 3

-- each field; one of a trait becomes methods
abbrev pub field_entries : Ahead → ℕ
field_entries ahead = if ahead.traits then 8 else 1

-- a lazy member: its field, its initialiser and what is more in its method
abbrev pub CELL_ENTRIES : ℕ
CELL_ENTRIES = 32

-- each method: its name and its descriptor
abbrev pub METHOD_ENTRIES : ℕ
METHOD_ENTRIES = 2

-- a trait's method with a body will call the static method that gets the body
abbrev pub BODY_ENTRIES : ℕ
BODY_ENTRIES = 4

-- the reference of an object, which its constructor will store
abbrev pub OBJECT_ENTRIES : ℕ
OBJECT_ENTRIES = 2

-- the static method that will run a trait's statements: its name and its descriptor
abbrev pub STATEMENTS_ENTRIES : ℕ
STATEMENTS_ENTRIES = 2

-- each call by `super` that stands in a class: the deferred method that a trait will have for it
abbrev pub ACCESSOR_ENTRIES : ℕ
ACCESSOR_ENTRIES = 2

-- each trait that is mixed in
abbrev pub MIXIN_ENTRIES : ℕ
MIXIN_ENTRIES = 5

-- each field that is taken from a trait
abbrev pub TAKEN_FIELD_ENTRIES : ℕ
TAKEN_FIELD_ENTRIES = 20

-- each method that is taken from a trait
abbrev pub TAKEN_METHOD_ENTRIES : ℕ
TAKEN_METHOD_ENTRIES = 12

-- each lazy member that is taken from a trait
abbrev pub TAKEN_CELL_ENTRIES : ℕ
TAKEN_CELL_ENTRIES = 36

-- each call by `super` that stands in a trait that is mixed in
abbrev pub SUPER_ENTRIES : ℕ
SUPER_ENTRIES = 12

-- the trees of a method
abbrev pub body_size : Ahead → Option Expr → Size
body_size ahead None = nothing
body_size ahead (Some body) = expr_size ahead body

-- the trees of a class: the arguments of the superclass constructor, the statements, the initialisers of lazy members
-- and the bodies of methods
abbrev pub class_size : Ahead → Class → Size
class_size ahead class =
    merged (merged (all_exprs ahead class.super_args) (all_exprs ahead class.body))
    (merged (together (map (λ cell. expr_size ahead cell.init) class.cells))
    (together (map (λ method. body_size ahead method.body) class.methods)))

-- a method that a class takes from a trait: one with a body that isn't static
abbrev pub is_taken : Method → Bool
is_taken method = is_some method.body && not method.is_static

-- the entries of a trait's method without its body. When the traits are lowered, one with a body that isn't static does
-- nothing but call a static method of the trait: the call counts the static method's name and descriptor
abbrev pub trait_method_entries : Ahead → Method → ℕ
trait_method_entries ahead method =
    if ahead.traits then METHOD_ENTRIES + (if is_some method.body then BODY_ENTRIES else 0)
    else (if is_taken method then 0 else METHOD_ENTRIES)

-- the entries of a method of a class of some kind, without its body
abbrev pub method_entries : Ahead → Kind → Method → ℕ
method_entries ahead kind.Trait method = trait_method_entries ahead method
method_entries ahead other method = METHOD_ENTRIES

-- what a trait brings to a class that mixes it in
abbrev pub trait_entries : Ahead → Class → ℕ
trait_entries ahead trait =
    MIXIN_ENTRIES + TAKEN_FIELD_ENTRIES * length trait.fields + TAKEN_CELL_ENTRIES * length trait.cells
    + TAKEN_METHOD_ENTRIES * count_by is_taken trait.methods
    + SUPER_ENTRIES * (class_size ahead trait).supers

-- the same by the number of the trait
abbrev pub taken_entries : Ahead → List Class → ℕ → ℕ
taken_entries ahead classes trait = unwrap_or (option_map (trait_entries ahead) (slice_get classes trait)) 0

-- what the parts of a class bring, without its trees
abbrev pub part_entries : Ahead → Class → ℕ
part_entries ahead class =
    PARAMETER_ENTRIES * length class.params + field_entries ahead * length class.fields
    + CELL_ENTRIES * length class.cells + sum_by (method_entries ahead class.kind) class.methods

-- what lowerings that are to come add to a class with so many calls by `super`
abbrev pub coming_entries : Ahead → ℕ → ℕ
coming_entries ahead supers =
    (if ahead.objects then OBJECT_ENTRIES else 0)
    + (if ahead.traits then STATEMENTS_ENTRIES + ACCESSOR_ENTRIES * supers else 0)

-- the entries of a class
abbrev pub class_entries : Ahead → List Class → Class → ℕ
class_entries ahead classes class =
    FILE_ENTRIES + NAMED_ENTRIES * length classes + part_entries ahead class
    + sum_by (taken_entries ahead classes) class.mixins + (class_size ahead class).entries
    + coming_entries ahead (class_size ahead class).supers

-- a body weighs what its tree does, what ends it, and 1 for each local past those that have values
abbrev pub body_weight : Ahead → ℕ → ℕ → Expr → ℕ
body_weight ahead given locals body = (expr_size ahead body).value + RETURN_WEIGHT + (locals - given)

-- the call of the superclass constructor
abbrev pub superclass_size : Ahead → List Expr → Size
superclass_size ahead args = node_size (making 4 0 0) (all_exprs ahead args)

-- a constructor weighs the call of the superclass constructor, its statements, whose values are dropped, what it does
-- with parameters, traits and the reference of an object, what ends it, and its locals
abbrev pub constructor_weight : Ahead → Class → ℕ
constructor_weight ahead class =
    (superclass_size ahead class.super_args).value + sum_by (λ e. (expr_size ahead e).value + 1) class.body
    + PARAMETER_WEIGHT * length class.params + MIXIN_WEIGHT * length class.mixins
    + (if ahead.objects then OBJECT_WEIGHT else 0) + RETURN_WEIGHT + (class.locals - length class.params)

-- a body is light enough, where there is one
abbrev pub BodyHasRoom : Ahead → Method → Option Expr → Type 0
BodyHasRoom ahead method None = Unit
BodyHasRoom ahead method (Some body) = body_weight ahead (length method.params) method.locals body ≤ MOST_WEIGHT

-- a method has room
abbrev pub MethodHasRoom : Ahead → Method → Type 0
MethodHasRoom ahead method = BodyHasRoom ahead method method.body

-- a lazy member has room
unfoldable pub CellHasRoom : Ahead → Cell → Type 0
CellHasRoom ahead cell = body_weight ahead 0 cell.locals cell.init ≤ MOST_WEIGHT

-- a class has room
pub record ClassHasRoom (ahead : Ahead) (classes : List Class) (class : Class) : Type 0 where
  pub constructor : constructor_weight ahead class ≤ MOST_WEIGHT
  pub cells : All (CellHasRoom ahead) class.cells
  pub methods : All (MethodHasRoom ahead) class.methods
  pub pool : class_entries ahead classes class ≤ MOST_ENTRIES

-- a program has room when the first k lowerings are done
pub record Room (k : ℕ) (p : Program) : Type 0 where
  pub classes : All (ClassHasRoom (ahead_of k) p.classes) p.classes
