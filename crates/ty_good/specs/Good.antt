-- What makes a program good after the first k of the four lowerings.
use Rattle.std.specs.Prelude.{ℕ, List}
use Rattle.ty_prog.specs.declared.program.Program.{Program}
use Rattle.ty_typed.specs.declared.class_locals.ClassLocals.{ClassLocals}
use Rattle.ty_typed.specs.Bodies.{TypedWith}
use Rattle.ty_complete.specs.Complete.{Complete}
use Rattle.ty_good.specs.Numbers.{NumbersInRange}
use Rattle.ty_good.specs.Forms.{HasForms}
use Rattle.ty_good.specs.Names.{NamesMade}
use Rattle.ty_good.specs.Traits.{MixinsFit, SupersStand, TraitsHaveRoom, TraitsLowered}
use Rattle.ty_good.specs.Modules.{ModulesSet}
use Rattle.ty_good.specs.Accessors.{AccessorsFound}
use Rattle.ty_good.specs.LazyGets.{LazyGetsStand}
use Rattle.ty_good.specs.LazyMembers.{CellsRead, LazyMembersFound}
use Rattle.ty_good.specs.TraitFields.{TraitFieldsStand}
use Rattle.ty_good.specs.Selection.{SelectsFound}

-- good where the locals have these types
pub record GoodWith (k : ℕ) (p : Program) (locals : List ClassLocals) : Type 0 where
  pub numbers : NumbersInRange p
  pub typed : TypedWith p locals
  pub complete : Complete p
  pub forms : HasForms k p
  pub names : NamesMade k p
  pub mixins : MixinsFit k p
  pub supers : SupersStand p
  pub room : TraitsHaveRoom k p
  pub traits : TraitsLowered k p
  pub modules : ModulesSet k p
  pub lazy_gets : LazyGetsStand k p
  pub cells : CellsRead k p
  pub lazy_members : LazyMembersFound k p
  pub trait_fields : TraitFieldsStand k p
  pub accessors : AccessorsFound k p
  pub selection : SelectsFound k p

-- all numbers are in range, each expression has the type that its place wants, each local has one type, the program is
-- complete, and it has the forms, names and members of one after k lowerings
pub record Good (k : ℕ) (p : Program) : Type 0 where
  pub locals : List ClassLocals
  pub good : GoodWith k p locals
