-- Where the fields of traits are read and stored: a `val` or `var` of a trait is read by the method of its name alone, and
-- stored by its setter and its definition (SLS 4.1, 4.2), since the lowering of traits, the second, moves the field into
-- the classes that mix the trait in.
use Rattle.std.specs.Prelude.{ℕ, Bool, true, false, ◌&&◌, ◌||◌, nat_eq, nat_le, IsTrue, IsFalse, List, ◌++◌, codes, slice_get, option_map, if◌then◌else◌}
use Rattle.std.specs.List.{list_all}
use Rattle.std.specs.Option.{unwrap_or}
use Rattle.std.specs.Str.{bytes_eq}
use Rattle.ty_prog.specs.declared.class.Class.{Class}
use Rattle.ty_prog.specs.declared.field.Field.{Field}
use Rattle.ty_prog.specs.declared.method.Method.{Method}
use Rattle.ty_prog.specs.declared.program.Program.{Program}
use Rattle.ty_prog.specs.declared.expr.Expr.{Expr, out-Expr}
use Rattle.ty_prog.specs.declared.catch.Catch.TheOpen.{Expr-F}
use Rattle.ty_prog.specs.Shape.{Shape, ExprShape, ExprForm}
use Rattle.ty_prog.specs.Tree.{ExprTree, ExprLevel}
use Rattle.ty_walk.specs.SumOver.{sum_over}
use Rattle.ty_conform.specs.Kinds.{is_trait}
use Rattle.ty_typed.specs.NodeTyped.{is_this}
use Rattle.ty_good.specs.Each.{EachClass}
use Rattle.ty_good.specs.Traits.{level_is_local}

-- whether the field with a number has a name
abbrev pub is_field_named : List Field → List ℕ → ℕ → Bool
is_field_named fields name field = unwrap_or (option_map (λ f. bytes_eq f.name name) (slice_get fields field)) false

-- whether a name is that of the setter of the field with a number
abbrev pub is_setter_named : List Field → List ℕ → ℕ → Bool
is_setter_named fields name field = unwrap_or (option_map (λ f. bytes_eq (f.name ++ codes "_$eq") name) (slice_get fields field)) false

module _ (classes : List Class) where
  -- 1 for a trait
  abbrev pub of_trait : ℕ → ℕ
  of_trait class = if is_trait classes class then 1 else 0

  -- 1 for a form that reads or stores into a field of a trait
  abbrev pub form_uses : ExprForm → ℕ
  form_uses (Expr-F.Get of class field) = of_trait class
  form_uses (Expr-F.Put of class field value) = of_trait class
  form_uses other = 0

  -- 1 for a node that does so
  abbrev pub uses : Shape → ℕ
  uses (ExprShape form) = form_uses form
  uses other = 0

  -- an expression none of whose nodes does
  abbrev pub uses_none : Expr → Bool
  uses_none e = nat_eq (sum_over uses (ExprTree e)) 0

module _ (number : ℕ) (fields : List Field) where
  -- the body of the method of a name, in the class with a number and these fields, that reads the field of that name from
  -- `this`, or stores its parameter into the one whose setter it is
  abbrev pub level_accesses : List ℕ → ExprLevel → Bool
  level_accesses name (Expr-F.Get of class field) = is_this (out-Expr of) && nat_eq class number && is_field_named fields name field
  level_accesses name (Expr-F.Put of class field value) =
      is_this (out-Expr of) && nat_eq class number && level_is_local 0 (out-Expr value) && is_setter_named fields name field
  level_accesses name other = false

module _ (classes : List Class) (number : ℕ) where
  -- the statement that stores the value of a definition into a field of `this`
  abbrev pub level_defines : ExprLevel → Bool
  level_defines (Expr-F.Put of class field value) = is_this (out-Expr of) && nat_eq class number && uses_none classes value
  level_defines other = false

  -- a statement of a constructor that does, or uses no field of a trait
  abbrev pub defines : Expr → Bool
  defines e = level_defines (out-Expr e) || uses_none classes e

  -- a method whose body is that of a getter or a setter, or uses no field of a trait
  abbrev pub method_accesses : List Field → Method → Bool
  method_accesses fields m =
      unwrap_or (option_map (λ body. level_accesses number fields m.name (out-Expr body) || uses_none classes body) m.body) true

  -- nothing else in a class uses a field of a trait
  abbrev pub class_accesses : Class → Bool
  class_accesses class =
      list_all (uses_none classes) class.super_args && list_all defines class.body
      && list_all (λ c. uses_none classes c.init) class.cells && list_all (method_accesses class.fields) class.methods

-- so in each class of the program, until the lowering of traits
pub record TraitFieldsStand (k : ℕ) (p : Program) : Type 0 where
  pub before : IsFalse (nat_le 2 k) → EachClass (λ number class. IsTrue (class_accesses p.classes number class)) p.classes
