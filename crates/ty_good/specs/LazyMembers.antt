-- Which methods read lazy members: each lazy member has the method of its name that reads it, and each class has those of
-- the classes of its linearisation, so that a method `x$init` of the fourth lowering is the one of the class whose method
-- calls it (SLS 4.1, 5.1.4).
use Rattle.std.specs.Prelude.{ℕ, Bool, true, false, ◌&&◌, ◌||◌, not, nat_le, IsTrue, IsFalse, slice_get, option_map}
use Rattle.std.specs.List.{list_all, list_any}
use Rattle.std.specs.Option.{unwrap_or}
use Rattle.std.specs.Str.{bytes_eq}
use Rattle.ty_prog.specs.declared.class.Class.{Class}
use Rattle.ty_prog.specs.declared.cell.Cell.{Cell}
use Rattle.ty_prog.specs.declared.method.Method.{Method}
use Rattle.ty_prog.specs.declared.program.Program.{Program}
use Rattle.ty_prog.specs.declared.expr.Expr.{out-Expr}
use Rattle.ty_conform.specs.Kinds.{is_trait_kind}
use Rattle.ty_good.specs.Accessors.{finds_in}
use Rattle.ty_good.specs.Each.{EachClass}
use Rattle.ty_good.specs.LazyGets.{level_gets_own}

-- a method that reads the lazy member of its name, in the class with a number, and does nothing else
abbrev pub reads_lazy : ℕ → Class → Method → Bool
reads_lazy number class m = unwrap_or (option_map (λ body. level_gets_own number class.cells m.name (out-Expr body)) m.body) false

-- a lazy member that the method of its name reads
abbrev pub is_read : ℕ → Class → Cell → Bool
is_read number class cell = list_any (λ m. bytes_eq m.name cell.name && reads_lazy number class m) class.methods

-- each lazy member of a class is
abbrev pub cells_read : ℕ → Class → Bool
cells_read number class = list_all (is_read number class) class.cells

-- so in each class of the program, until the lowering of lazy members
pub record CellsRead (k : ℕ) (p : Program) : Type 0 where
  pub before : IsFalse (nat_le 4 k) → EachClass (λ number class. IsTrue (cells_read number class)) p.classes

module _ (p : Program) (class : ℕ) where
  -- a method of the class with a number reads no lazy member, or is found there
  abbrev pub is_inherited : ℕ → Class → Method → Bool
  is_inherited number above m = not (reads_lazy number above m) || finds_in p class number m

  -- so each method of that class
  abbrev pub inherits_lazy : ℕ → Bool
  inherits_lazy number = unwrap_or (option_map (λ above. list_all (is_inherited number above) above.methods) (slice_get p.classes number)) true

-- a class is a trait, or finds the methods of all lazy members of its linearisation
abbrev pub class_inherits_lazy : Program → ℕ → Class → Bool
class_inherits_lazy p number class = is_trait_kind class.kind || list_all (inherits_lazy p number) class.linear

-- so each class of the program, until the lowering of lazy members
pub record LazyMembersFound (k : ℕ) (p : Program) : Type 0 where
  pub before : IsFalse (nat_le 4 k) → EachClass (λ number class. IsTrue (class_inherits_lazy p number class)) p.classes
