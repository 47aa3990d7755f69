-- Classes and methods that have nothing yet but what they are named and are.
use Rattle.std.specs.Prelude.{ℕ, false, List, [], Option}
use Rattle.ty_prog.specs.declared.class.Class.{Class}
use Rattle.ty_prog.specs.declared.expr.Expr.{Expr}
use Rattle.ty_prog.specs.declared.kind.Kind.{Kind}
use Rattle.ty_prog.specs.declared.method.Method.{Method}
use Rattle.ty_prog.specs.declared.ty.Ty.{Ty}

-- a class without parents, members, statements and locals
abbrev pub new_class : List ℕ → Kind → Class
new_class name kind = record {
  name = name;
  kind = kind;
  parents = [];
  linear = [];
  params = [];
  mixins = [];
  fields = [];
  cells = [];
  methods = [];
  super_args = [];
  body = [];
  locals = 0;
}

-- a method without parameters and locals, which isn't static
abbrev pub new_method : List ℕ → Ty → Option Expr → Method
new_method name result body = record { name = name; params = []; result = result; body = body; is_static = false; locals = 0 }
