-- The classes that every program begins with. Their members have bodies wherever an object of the class may be asked
-- for them, also those that the machine has built in: a body says what the built-in method does.
use Rattle.std.specs.Prelude.{ℕ, false, List, [], ◌∷◌, Option, Some, None, codes}
use Rattle.ty_prog.specs.declared.class.Class.{Class}
use Rattle.ty_prog.specs.declared.field.Field.{Field}
use Rattle.ty_prog.specs.declared.method.Method.{Method}
use Rattle.ty_prog.specs.declared.kind.Kind.{Kind}
use Rattle.ty_prog.specs.declared.kind.Kind.TheVariants as kind
use Rattle.ty_prog.specs.declared.ty.Ty.{Ty}
use Rattle.ty_prog.specs.declared.ty.Ty.TheVariants as ty
use Rattle.ty_prog.specs.declared.prim_op.PrimOp.TheVariants as op
use Rattle.ty_prog.specs.declared.expr.Expr.{Expr}
use Rattle.ty_prog.specs.declared.expr.Expr.TheVariants as expr

-- a method without parameters
abbrev pub method : List ℕ → Ty → Option Expr → Method
method name result body = record { name = name; params = []; result = result; body = body; is_static = false; locals = 0 }

-- a class with at most one parameter, which its first field holds
abbrev pub class : List ℕ → Kind → List ℕ → List ℕ → List ℕ → List Field → List Method → List Expr → ℕ → Class
class name kind parents linear params fields methods super_args locals = record {
  name = name;
  kind = kind;
  parents = parents;
  linear = linear;
  params = params;
  mixins = [];
  fields = fields;
  cells = [];
  methods = methods;
  super_args = super_args;
  body = [];
  locals = locals;
}

-- `trait Runnable { def run(): Unit }`
abbrev pub runnable : Class
runnable = class (codes "Runnable") kind.Trait [] (0 ∷ []) [] [] (method (codes "run") ty.Unit None ∷ []) [] 0

-- `class Thread(target: Runnable)`, with a place for whether it was started, and `start`
abbrev pub thread_fields : List Field
thread_fields = record { name = codes "target"; ty = ty.Class 0 } ∷ record { name = codes "started"; ty = ty.Boolean } ∷ []

-- the class, whose constructor has the target
abbrev pub thread : Class
thread = class (codes "Thread") kind.Class [] (1 ∷ []) (0 ∷ []) thread_fields
    (method (codes "start") ty.Unit (Some (expr.Start expr.This)) ∷ []) [] 1

-- the parameter of each throwable
abbrev pub message : List Field
message = record { name = codes "message"; ty = ty.Text } ∷ []

-- the message that the constructor of Throwable was given
abbrev pub get_message : Expr
get_message = expr.Get expr.This 2 0

-- the name of the class of `this`
abbrev pub class_name : Expr
class_name = expr.Prim op.ClassName (expr.This ∷ [])

-- the name of the class, and where there is a message `: ` and the message
abbrev pub to_string : Expr
to_string =
    expr.If (expr.Prim op.Same (get_message ∷ expr.Null ∷ [])) class_name
    (expr.Prim op.Concat (expr.Prim op.Concat (class_name ∷ expr.Text (codes ": ") ∷ []) ∷ get_message ∷ []))

-- `class Throwable(message: String)`, with `getMessage` and `toString`
abbrev pub throwable : Class
throwable = class (codes "Throwable") kind.Class [] (2 ∷ []) (0 ∷ []) message
    (method (codes "getMessage") ty.Text (Some get_message) ∷ method (codes "toString") ty.Text (Some to_string) ∷ []) [] 1

-- a class of throwables below another, to which it hands its message on
abbrev pub exception : List ℕ → Kind → ℕ → List ℕ → Class
exception name kind parent linear = class name kind (parent ∷ []) linear (0 ∷ []) message [] (expr.Local 0 ∷ []) 1

-- the classes below Throwable, in their order
abbrev pub exceptions : List Class
exceptions =
    exception (codes "Exception") kind.Class 2 (3 ∷ 2 ∷ [])
    ∷ exception (codes "RuntimeException") kind.Class 3 (4 ∷ 3 ∷ 2 ∷ [])
    ∷ exception (codes "ArithmeticException") kind.Class 4 (5 ∷ 4 ∷ 3 ∷ 2 ∷ [])
    ∷ exception (codes "NullPointerException") kind.Class 4 (6 ∷ 4 ∷ 3 ∷ 2 ∷ [])
    ∷ exception (codes "ClassCastException") kind.Class 4 (7 ∷ 4 ∷ 3 ∷ 2 ∷ [])
    ∷ exception (codes "IllegalStateException") kind.Class 4 (8 ∷ 4 ∷ 3 ∷ 2 ∷ [])
    ∷ exception (codes "MatchError") kind.Class 4 (9 ∷ 4 ∷ 3 ∷ 2 ∷ [])
    ∷ exception (codes "IllegalArgumentException") kind.Class 4 (10 ∷ 4 ∷ 3 ∷ 2 ∷ [])
    ∷ exception (codes "IllegalThreadStateException") kind.Class 10 (11 ∷ 10 ∷ 4 ∷ 3 ∷ 2 ∷ [])
    ∷ exception (codes "Error") kind.Class 2 (12 ∷ 2 ∷ [])
    ∷ exception (codes "LinkageError") kind.Class 12 (13 ∷ 12 ∷ 2 ∷ [])
    ∷ exception (codes "ExceptionInInitializerError") kind.Class 13 (14 ∷ 13 ∷ 12 ∷ 2 ∷ [])
    ∷ exception (codes "NoClassDefFoundError") kind.Class 13 (15 ∷ 13 ∷ 12 ∷ 2 ∷ [])
    ∷ exception (codes "VirtualMachineError") kind.Abstract 12 (16 ∷ 12 ∷ 2 ∷ [])
    ∷ exception (codes "OutOfMemoryError") kind.Class 16 (17 ∷ 16 ∷ 12 ∷ 2 ∷ [])
    ∷ exception (codes "LazyCycle") kind.Class 4 (18 ∷ 4 ∷ 3 ∷ 2 ∷ [])
    ∷ []

-- all of them, in their order
abbrev pub prelude : List Class
prelude = runnable ∷ thread ∷ throwable ∷ exceptions
