-- Programs of source that keep the limits, by what each member of a class stands for.
use Rattle.std.specs.Prelude.{ℕ, ◌+◌, ◌*◌, ◌-◌, ◌≤◌, Option, Some, None, List, length, sum_by}
use Rattle.std.specs.List.{All}
use Rattle.ty_prog.specs.declared.class.Class.{Class}
use Rattle.ty_prog.specs.declared.cell.Cell.{Cell}
use Rattle.ty_prog.specs.declared.method.Method.{Method}
use Rattle.ty_prog.specs.declared.expr.Expr.{Expr}
use Rattle.ty_prog.specs.declared.program.Program.{Program}
use Rattle.ty_room.specs.Ahead.{ahead_of}
use Rattle.ty_room.specs.Sizing.{expr_size}
use Rattle.ty_room.specs.Room.{superclass_size, class_size, part_entries, taken_entries, ACCESSOR_ENTRIES}

-- the most nodes of a body or a constructor
abbrev pub MOST_NODES : ℕ
MOST_NODES = 1000

-- the most units of a class
abbrev pub MOST_UNITS : ℕ
MOST_UNITS = 10000

-- the most classes of a program, those of the prelude included
abbrev pub MOST_CLASSES : ℕ
MOST_CLASSES = 4120

-- the call of a superclass constructor without arguments
abbrev pub SUPERCLASS_WEIGHT : ℕ
SUPERCLASS_WEIGHT = 4

-- what a class may bring besides, as the constant parts of a case class do
abbrev pub BESIDE_ENTRIES : ℕ
BESIDE_ENTRIES = 500

-- what a node of source may take is 31.6 bytes: 158 fifths of a byte. Patterns of five variables take that much
abbrev pub FIFTHS : ℕ
FIFTHS = 158

-- a body that stands for so many nodes of source, with its locals
pub record BodyWithin (given locals : ℕ) (body : Expr) : Type 0 where
  pub nodes : ℕ
  pub few : nodes ≤ MOST_NODES
  pub bytes : 5 * ((expr_size (ahead_of 0) body).value + (locals - given)) ≤ FIFTHS * nodes

-- a lazy member
unfoldable pub CellWithin : Cell → Type 0
CellWithin cell = BodyWithin 0 cell.locals cell.init

-- the body of a method, if it has one
abbrev pub SomeWithin : Method → Option Expr → Type 0
SomeWithin method None = Unit
SomeWithin method (Some body) = BodyWithin (length method.params) method.locals body

-- a method
unfoldable pub MethodWithin : Method → Type 0
MethodWithin method = SomeWithin method method.body

-- a class: its constructor, of which each parameter counts two nodes and each trait that is mixed in four, and which calls
-- that of the superclass by four bytes also where it has no nodes; its members; and its size
pub record ClassWithin (classes : List Class) (class : Class) : Type 0 where
  pub nodes : ℕ
  pub few : nodes + 2 * length class.params + 4 * length class.mixins ≤ MOST_NODES
  pub bytes : 5 * ((superclass_size (ahead_of 0) class.super_args).value + sum_by (λ e. (expr_size (ahead_of 0) e).value + 1) class.body
      + (class.locals - length class.params)) ≤ FIFTHS * nodes + 5 * SUPERCLASS_WEIGHT
  pub cells : All CellWithin class.cells
  pub methods : All MethodWithin class.methods
  pub units : ℕ
  pub small : units ≤ MOST_UNITS
  pub entries : (class_size (ahead_of 0) class).entries + part_entries (ahead_of 0) class
      + sum_by (taken_entries (ahead_of 0) classes) class.mixins + ACCESSOR_ENTRIES * (class_size (ahead_of 0) class).supers
      ≤ 5 * units + BESIDE_ENTRIES

-- a program
pub record WithinLimits (p : Program) : Type 0 where
  pub few : length p.classes ≤ MOST_CLASSES
  pub classes : All (ClassWithin p.classes) p.classes
