-- The nodes of a context are nodes of its class, so what holds of all nodes of a program holds of them.
use Rattle.std.specs.Prelude.{◌≡◌, Some, slice_get}
use Rattle.std.specs.List.{AllByRecursion}
use Rattle.ty_prog.specs.declared.class.Class.{Class}
use Rattle.ty_prog.specs.declared.program.Program.{Program}
use Rattle.ty_walk.specs.Everywhere.{StandsIn}
use Rattle.sm_state.specs.declared.thread.Context.{Context}

-- the class of the context is there, and the node of the context and those of its levels stand in that class
pub record InClass (p : Program) (c : Context) : Type 0 where
  pub class : Class
  pub is : slice_get p.classes c.class ≡ Some class
  pub node : StandsIn class c.node
  pub above : AllByRecursion (λ l. StandsIn class l.node) c.levels
