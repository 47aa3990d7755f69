-- That the numbers with which a program declares its classes and members are in range; those in its trees are where its
-- nodes are typed.
use Rattle.std.specs.Prelude.{ℕ, ◌<◌, Bool, ◌&&◌, nat_lt, IsTrue, List, length}
use Rattle.std.specs.List.{All, list_all}
use Rattle.ty_prog.specs.declared.class.Class.{Class}
use Rattle.ty_prog.specs.declared.method.Method.{Method}
use Rattle.ty_prog.specs.declared.program.Program.{Program}
use Rattle.ty_conform.specs.Kinds.{is_known}

-- numbers below another
abbrev pub are_below : ℕ → List ℕ → Bool
are_below count numbers = list_all (λ number. nat_lt number count) numbers

-- the types of a method's parameters and of its result name classes that are there
abbrev pub method_in_range : List Class → Method → Bool
method_in_range classes method = list_all (is_known classes) method.params && is_known classes method.result

-- the numbers of parents and of the linearisation are those of classes, class parameters are fields, and the types of
-- members name classes that are there
abbrev pub class_in_range : List Class → Class → Bool
class_in_range classes class =
    are_below (length classes) class.parents && are_below (length classes) class.linear
    && are_below (length class.fields) class.params
    && list_all (λ f. is_known classes f.ty) class.fields && list_all (λ c. is_known classes c.ty) class.cells
    && list_all (method_in_range classes) class.methods

-- the numbers of all declarations of a program are in range
pub record NumbersInRange (p : Program) : Type 0 where
  pub main : p.main < length p.classes
  pub each : All (λ class. IsTrue (class_in_range p.classes class)) p.classes
