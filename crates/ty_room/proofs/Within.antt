-- What keeps the limits has room.
use Rattle.std.proofs.Common.{◌≤◌, ℕ, Option, Some, None, List, length, slice_index_or, arith}
use Rattle.ty_prog.specs.declared.class.Class.{Class}
use Rattle.ty_prog.specs.declared.cell.Cell.{Cell}
use Rattle.ty_prog.specs.declared.method.Method.{Method}
use Rattle.ty_prog.specs.declared.expr.Expr.{Expr}
use Rattle.ty_prog.specs.declared.program.Program.{Program}
use Rattle.ty_room.specs.Ahead.{ahead_of}
use Rattle.ty_room.specs.Room.{Room, ClassHasRoom, CellHasRoom, MethodHasRoom, BodyHasRoom, MOST_WEIGHT, body_weight}
use Rattle.ty_room.specs.Limits.{BodyWithin, CellWithin, MethodWithin, SomeWithin, ClassWithin, WithinLimits}

body_has_room : (given locals : ℕ) (body : Expr) → BodyWithin given locals body → body_weight (ahead_of 0) given locals body ≤ MOST_WEIGHT
body_has_room given locals body h = omega (arith, h.bytes, h.few)

cell_has_room : (cell : Cell) → CellWithin cell → CellHasRoom (ahead_of 0) cell
unfolding CellWithin CellHasRoom
cell_has_room cell h = body_has_room 0 cell.locals cell.init h

some_has_room : (method : Method) (body : Option Expr) → SomeWithin method body → BodyHasRoom (ahead_of 0) method body
some_has_room method None h = tt
some_has_room method (Some body) h = body_has_room (length method.params) method.locals body h

method_has_room : (method : Method) → MethodWithin method → MethodHasRoom (ahead_of 0) method
unfolding MethodWithin
method_has_room method h = some_has_room method method.body h

class_has_room : (classes : List Class) (class : Class) → length classes ≤ 4120 → ClassWithin classes class → ClassHasRoom (ahead_of 0) classes class
class_has_room classes class few h = record {
  constructor = omega (arith, h.few, h.bytes);
  cells = λ k d is. cell_has_room (slice_index_or class.cells k d) (h.cells k d is);
  methods = λ k d is. method_has_room (slice_index_or class.methods k d) (h.methods k d is);
  pool = omega (arith, few, h.small, h.entries);
}

pub has_room : (p : Program) → WithinLimits p → Room 0 p
has_room p h = record { classes = λ k d is. class_has_room p.classes (slice_index_or p.classes k d) h.few (h.classes k d is) }
