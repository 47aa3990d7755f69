-- Where the constructor of an object sets the object's module (SLS 5.5, JVMS 5.5): first of its statements, and there alone.
use Rattle.std.specs.Prelude.{ℕ, Bool, true, false, ◌&&◌, ◌||◌, not, nat_eq, nat_le, IsTrue, List, [], ◌∷◌, option_map, if◌then◌else◌}
use Rattle.std.specs.List.{list_all}
use Rattle.std.specs.Option.{unwrap_or}
use Rattle.ty_prog.specs.declared.class.Class.{Class}
use Rattle.ty_prog.specs.declared.cell.Cell.{Cell}
use Rattle.ty_prog.specs.declared.method.Method.{Method}
use Rattle.ty_prog.specs.declared.kind.Kind.{Kind}
use Rattle.ty_prog.specs.declared.program.Program.{Program}
use Rattle.ty_prog.specs.declared.expr.Expr.{Expr, out-Expr}
use Rattle.ty_prog.specs.declared.catch.Catch.TheOpen.{Expr-F}
use Rattle.ty_prog.specs.Shape.{Shape, ExprShape, ExprForm}
use Rattle.ty_prog.specs.Tree.{Tree, ExprTree, ConstructorTree, ExprLevel}
use Rattle.ty_walk.specs.SumOver.{sum_over}
use Rattle.ty_conform.specs.Kinds.{is_object_kind}
use Rattle.ty_typed.specs.NodeTyped.{is_this}
use Rattle.ty_good.specs.Each.{EachClass}

-- 1 for a form that sets a module
abbrev pub form_sets : ExprForm → ℕ
form_sets (Expr-F.SetModule class e) = 1
form_sets other = 0

-- 1 for a node that sets a module
abbrev pub sets : Shape → ℕ
sets (ExprShape form) = form_sets form
sets other = 0

-- how many nodes of a tree set a module
abbrev pub module_sets : Tree → ℕ
module_sets tree = sum_over sets tree

-- an initialiser and a body set none
abbrev pub cell_sets_none : Cell → Bool
cell_sets_none cell = nat_eq (module_sets (ExprTree cell.init)) 0

-- nor does the body of a method
abbrev pub method_sets_none : Method → Bool
method_sets_none m = unwrap_or (option_map (λ body. nat_eq (module_sets (ExprTree body)) 0) m.body) true

-- `this` as the module of the object with a number
abbrev pub level_sets_this : ℕ → ExprLevel → Bool
level_sets_this number (Expr-F.SetModule class e) = nat_eq class number && is_this (out-Expr e)
level_sets_this number other = false

-- the first statement does so
abbrev pub begins_with_module : ℕ → List Expr → Bool
begins_with_module number [] = false
begins_with_module number (first ∷ rest) = level_sets_this number (out-Expr first)

-- objects alone begin so, and from the lowering of reads of objects on, the first of the four, each does
abbrev pub may_begin : ℕ → Kind → Bool → Bool
may_begin k kind begins = if is_object_kind kind then begins || not (nat_le 1 k) else not begins

-- the constructor sets a module once where it begins so, and else never
abbrev pub module_fits : ℕ → ℕ → Class → Bool
module_fits k number class =
    nat_eq (module_sets (ConstructorTree class)) (if begins_with_module number class.body then 1 else 0)
    && may_begin k class.kind (begins_with_module number class.body)
    && list_all cell_sets_none class.cells && list_all method_sets_none class.methods

-- the modules of a program are set so
abbrev pub ModulesSet : ℕ → Program → Type 0
ModulesSet k p = EachClass (λ number class. IsTrue (module_fits k number class)) p.classes
