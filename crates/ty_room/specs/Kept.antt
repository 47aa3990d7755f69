-- A lowered class has room where the class had, by what its parts take.
use Rattle.std.specs.Prelude.{ℕ, ◌+◌, ◌*◌, ◌-◌, ◌≤◌, ◌≡◌, length, sum_by, if◌then◌else◌, List, Option, Some, None}
use Rattle.std.specs.List.{All, AllZip}
use Rattle.ty_prog.specs.declared.class.Class.{Class}
use Rattle.ty_prog.specs.declared.cell.Cell.{Cell}
use Rattle.ty_prog.specs.declared.method.Method.{Method}
use Rattle.ty_prog.specs.declared.expr.Expr.{Expr}
use Rattle.ty_room.specs.declared.size.Size.{Size}
use Rattle.ty_room.specs.NoMore.{NoMore}
use Rattle.ty_room.specs.Ahead.{ahead_of}
use Rattle.ty_room.specs.Sizing.{expr_size}
use Rattle.ty_room.specs.Room.{OBJECT_WEIGHT, MIXIN_WEIGHT, CellHasRoom, MethodHasRoom, superclass_size, body_size, class_size, constructor_weight, part_entries, taken_entries, coming_entries, class_entries}

-- what statements take, their values dropped
abbrev pub statements : ℕ → List Expr → ℕ
statements k es = sum_by (λ e. (expr_size (ahead_of k) e).value + 1) es

-- statements that a pass leaves, one for each
abbrev pub EachNoMore : ℕ → ℕ → List Expr → List Expr → Type 0
EachNoMore j k = AllZip (λ low high. NoMore (expr_size (ahead_of j) low) (expr_size (ahead_of k) high))

-- a constructor, whose statements gain so many bytes, which were counted before for objects and traits
pub record ConstructorKept (j k gained : ℕ) (low high : Class) : Type 0 where
  pub superclass : (superclass_size (ahead_of j) low.super_args).value ≤ (superclass_size (ahead_of k) high.super_args).value
  pub body : statements j low.body ≤ statements k high.body + gained
  pub params : length low.params ≡ length high.params
  pub locals : low.locals ≤ high.locals
  pub counted : gained + MIXIN_WEIGHT * length low.mixins + (if (ahead_of j).objects then OBJECT_WEIGHT else 0)
      ≤ MIXIN_WEIGHT * length high.mixins + (if (ahead_of k).objects then OBJECT_WEIGHT else 0)

-- a body that a pass leaves: it takes no more, and has no more locals past those that have values
pub record BodyKept (j k given given' locals locals' : ℕ) (low high : Expr) : Type 0 where
  pub size : NoMore (expr_size (ahead_of j) low) (expr_size (ahead_of k) high)
  pub new : locals - given ≤ locals' - given'

-- a lazy member that a pass leaves
unfoldable pub CellKept : ℕ → ℕ → Cell → Cell → Type 0
CellKept j k low high = BodyKept j k 0 0 low.locals high.locals low.init high.init

-- the bodies of two methods, if they have any: a method without a body always has room
abbrev pub SomeKept : ℕ → ℕ → Method → Method → Option Expr → Option Expr → Type 0
SomeKept j k low high None body = Unit
SomeKept j k low high (Some body) None = ⊥
SomeKept j k low high (Some body) (Some other) = BodyKept j k (length low.params) (length high.params) low.locals high.locals body other

-- a method that a pass leaves
unfoldable pub MethodKept : ℕ → ℕ → Method → Method → Type 0
MethodKept j k low high = SomeKept j k low high low.body high.body

-- entries, or calls by `super`, of all trees of a class, tree by tree
abbrev pub in_trees : (Size → ℕ) → ℕ → Class → ℕ
in_trees of k class =
    sum_by (λ e. of (expr_size (ahead_of k) e)) class.super_args + sum_by (λ e. of (expr_size (ahead_of k) e)) class.body
    + (sum_by (λ cell. of (expr_size (ahead_of k) cell.init)) class.cells + sum_by (λ method. of (body_size (ahead_of k) method.body)) class.methods)

-- the pool of a class: members, what is taken, trees and what is to come together
abbrev pub brought : ℕ → List Class → Class → ℕ
brought k classes class =
    part_entries (ahead_of k) class + sum_by (taken_entries (ahead_of k) classes) class.mixins + (class_size (ahead_of k) class).entries
    + coming_entries (ahead_of k) (class_size (ahead_of k) class).supers

-- a class
pub record ClassKept (j k : ℕ) (lows highs : List Class) (low high : Class) : Type 0 where
  pub constructor : constructor_weight (ahead_of j) low ≤ constructor_weight (ahead_of k) high
  pub cells : All (CellHasRoom (ahead_of k)) high.cells → All (CellHasRoom (ahead_of j)) low.cells
  pub methods : All (MethodHasRoom (ahead_of k)) high.methods → All (MethodHasRoom (ahead_of j)) low.methods
  pub pool : class_entries (ahead_of j) lows low ≤ class_entries (ahead_of k) highs high
