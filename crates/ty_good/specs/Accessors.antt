-- That the accessors of traits are found: of a name for which a trait has a getter or a setter, each class with the trait
-- has that one, so its lowering may give the class a method of the name (SLS 5.1.4).
use Rattle.std.specs.Prelude.{ℕ, Bool, true, false, ◌||◌, not, nat_eq, nat_le, IsTrue, IsFalse, slice_get, option_map}
use Rattle.std.specs.List.{list_all}
use Rattle.std.specs.Option.{unwrap_or}
use Rattle.ty_prog.specs.declared.class.Class.{Class}
use Rattle.ty_prog.specs.declared.method.Method.{Method}
use Rattle.ty_prog.specs.declared.program.Program.{Program}
use Rattle.ty_prog.specs.declared.expr.Expr.{out-Expr}
use Rattle.ty_prog.specs.Find.{find}
use Rattle.ty_conform.specs.Kinds.{is_trait, is_trait_kind}
use Rattle.ty_good.specs.Each.{EachClass}
use Rattle.ty_good.specs.TraitFields.{level_accesses}

-- a method that reads or stores the field of its name, in the class with a number
abbrev pub is_accessor : ℕ → Class → Method → Bool
is_accessor number class m = unwrap_or (option_map (λ body. level_accesses number class.fields m.name (out-Expr body)) m.body) false

module _ (p : Program) (class : ℕ) where
  -- the class finds a method of this name in another class
  abbrev pub finds_in : ℕ → Method → Bool
  finds_in above m = unwrap_or (option_map (λ found. nat_eq found.0 above) (find p class m.name)) false

  -- a method of another class is no accessor, or is found there
  abbrev pub is_kept : ℕ → Class → Method → Bool
  is_kept number above m = not (is_accessor number above m) || finds_in number m

  -- another class is no trait, or all its accessors are found there
  abbrev pub keeps_accessors : ℕ → Bool
  keeps_accessors number =
      not (is_trait p.classes number) || unwrap_or (option_map (λ above. list_all (is_kept number above) above.methods) (slice_get p.classes number)) true

-- a class is a trait, or finds the accessors of all traits of its linearisation
abbrev pub class_keeps : Program → ℕ → Class → Bool
class_keeps p number class = is_trait_kind class.kind || list_all (keeps_accessors p number) class.linear

-- so each class of the program, until the lowering of traits
pub record AccessorsFound (k : ℕ) (p : Program) : Type 0 where
  pub before : IsFalse (nat_le 2 k) → EachClass (λ number class. IsTrue (class_keeps p number class)) p.classes
