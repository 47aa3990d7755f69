-- What each part of goodness says of a program after k lowerings, its locals having some types: the definitions of
-- `ty_complete` and `ty_good`, by their names.
use Rattle.std.specs.Prelude.{ℕ, List}
use Rattle.ty_prog.specs.declared.program.Program.{Program}
use Rattle.ty_conform.specs.Carried.{HasLinearisations}
use Rattle.ty_flow.specs.SetFirst.{LocalsAreSetFirst}
use Rattle.ty_typed.specs.declared.class_locals.ClassLocals.{ClassLocals}
use Rattle.ty_typed.specs.Bodies.{TypedWith}
use Rattle.ty_complete.specs.Complete.{BeginsWithPrelude, FilesDiffer, NamesFit, WordsFit, TextsFit, ParametersFit, OnlyClassesHaveParameters, TypesAreDeclared, MethodsFitAnyRef, MembersDiffer, ParentsDiffer, ParentsFit, ParentsAreNoObjects, ParentsAreNoThreads, NewIsConcrete, PreludeIsClosed, MembersAgree, FindsAll, HasMain}
use Rattle.ty_good.specs.Numbers.{NumbersInRange}
use Rattle.ty_good.specs.Forms.{HasForms}
use Rattle.ty_good.specs.Names.{NamesMade}
use Rattle.ty_good.specs.Traits.{MixinsFit, SupersStand, TraitsHaveRoom, TraitsLowered}
use Rattle.ty_good.specs.Modules.{ModulesSet}
use Rattle.ty_good.specs.LazyGets.{LazyGetsStand}
use Rattle.ty_good.specs.LazyMembers.{CellsRead, LazyMembersFound}
use Rattle.ty_good.specs.TraitFields.{TraitFieldsStand}
use Rattle.ty_good.specs.Accessors.{AccessorsFound}
use Rattle.ty_good.specs.Selection.{SelectsFound}
use Rattle.ty_cases.specs.declared.part.Part.{Part}
use Rattle.ty_cases.specs.declared.part.Part.TheVariants as part

-- a part of goodness holds
abbrev pub Holds : Part → ℕ → Program → List ClassLocals → Type 0
Holds part.BeginsWithPrelude k p locals = BeginsWithPrelude p
Holds part.FilesDiffer k p locals = FilesDiffer p
Holds part.NamesFit k p locals = NamesFit p
Holds part.WordsFit k p locals = WordsFit p
Holds part.TextsFit k p locals = TextsFit p
Holds part.ParametersFit k p locals = ParametersFit p
Holds part.OnlyClassesHaveParameters k p locals = OnlyClassesHaveParameters p
Holds part.TypesAreDeclared k p locals = TypesAreDeclared p
Holds part.MethodsFitAnyRef k p locals = MethodsFitAnyRef p
Holds part.MembersDiffer k p locals = MembersDiffer p
Holds part.HasLinearisations k p locals = HasLinearisations p
Holds part.ParentsDiffer k p locals = ParentsDiffer p
Holds part.ParentsFit k p locals = ParentsFit p
Holds part.ParentsAreNoObjects k p locals = ParentsAreNoObjects p
Holds part.ParentsAreNoThreads k p locals = ParentsAreNoThreads p
Holds part.NewIsConcrete k p locals = NewIsConcrete p
Holds part.PreludeIsClosed k p locals = PreludeIsClosed p
Holds part.MembersAgree k p locals = MembersAgree p
Holds part.FindsAll k p locals = FindsAll p
Holds part.LocalsAreSetFirst k p locals = LocalsAreSetFirst p
Holds part.HasMain k p locals = HasMain p
Holds part.NumbersInRange k p locals = NumbersInRange p
Holds part.Typed k p locals = TypedWith p locals
Holds part.HasForms k p locals = HasForms k p
Holds part.NamesMade k p locals = NamesMade k p
Holds part.MixinsFit k p locals = MixinsFit k p
Holds part.SupersStand k p locals = SupersStand p
Holds part.TraitsHaveRoom k p locals = TraitsHaveRoom k p
Holds part.TraitsLowered k p locals = TraitsLowered k p
Holds part.ModulesSet k p locals = ModulesSet k p
Holds part.LazyGetsStand k p locals = LazyGetsStand k p
Holds part.CellsRead k p locals = CellsRead k p
Holds part.LazyMembersFound k p locals = LazyMembersFound k p
Holds part.TraitFieldsStand k p locals = TraitFieldsStand k p
Holds part.AccessorsFound k p locals = AccessorsFound k p
Holds part.SelectsFound k p locals = SelectsFound k p
