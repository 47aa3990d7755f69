-- The types that the parts of expressions give.
use Rattle.std.specs.Prelude.{◌≡◌, ℕ, Bool, List, [], ◌∷◌, Option, map, take, option_map, option_to_list}
use Rattle.std.specs.List.{list_all}
use Rattle.std.specs.Option.{unwrap_or}
use Rattle.ty_prog.specs.declared.program.Program.{Program}
use Rattle.ty_prog.specs.declared.class.Class.{Class}
use Rattle.ty_prog.specs.declared.expr.Expr.{Expr}
use Rattle.ty_prog.specs.declared.case.Case.{Case}
use Rattle.ty_prog.specs.declared.catch.Catch.{Catch}
use Rattle.ty_prog.specs.declared.catch.Catch.TheFolds.{fold-Case, fold-Catch}
use Rattle.ty_prog.specs.declared.ty.Ty.{Ty}
use Rattle.ty_prog.specs.declared.ty.Ty.TheVariants as ty
use Rattle.ty_prog.specs.declared.prim_op.PrimOp.{PrimOp}
use Rattle.ty_prog.specs.declared.prim_op.PrimOp.TheVariants as op
use Rattle.ty_typed.specs.declared.operands.Choices.{Choices}
use Rattle.ty_typed.specs.declared.operands.Choices.TheVariants as choices
use Rattle.ty_typed.specs.declared.operands.Given.{Given}
use Rattle.ty_typed.specs.declared.operands.Given.TheVariants as given
use Rattle.ty_typed.specs.declared.wanting.Wanted.{Wanted}
use Rattle.ty_typed.specs.declared.wanting.Wanted.TheVariants as wanted
use Rattle.ty_typed.specs.Stands.{stands_for, common, numbers, bits, compared, kinds}
use Rattle.ty_typed.specs.NodeTyped.{converts}
use Rattle.ty_typed.specs.Members.{param_types_at}
use Rattle.ty_typed.specs.Types.{Asks, types_of, handler_step, types_step, pattern_step, case_step}

-- what is wanted of a type: that its values stand for those of another, or can be made ones of it
abbrev pub suits : List Class → Wanted → Ty → Bool
suits classes (wanted.Stands upper) lower = stands_for classes lower upper
suits classes (wanted.Converts to) from = converts classes from to

-- each of several types is what is wanted
abbrev pub all_suit : List Class → Wanted → List Ty → Bool
all_suit classes wanted types = list_all (λ lower. suits classes wanted lower) types

-- the types of which one is wanted
abbrev pub list_of : Choices → List Ty
list_of choices.Numbers = numbers
list_of choices.Bits = bits
list_of choices.Compared = compared
list_of choices.Kinds = kinds

-- the types of what is given, by those of the operands
abbrev pub types_given : List Class → Given → List (List Ty) → List Ty
types_given classes (given.Fixed type) args = type ∷ []
types_given classes (given.OfAll wanted) args = option_to_list (common classes (list_of wanted) args)
types_given classes given.OfFirst args = option_to_list (common classes numbers (take 1 args))

-- the type of what an operator gives
abbrev pub given_by : PrimOp → Given
given_by op.Add = given.OfAll choices.Numbers
given_by op.Sub = given.OfAll choices.Numbers
given_by op.Mul = given.OfAll choices.Numbers
given_by op.Div = given.OfAll choices.Numbers
given_by op.Rem = given.OfAll choices.Numbers
given_by op.And = given.OfAll choices.Bits
given_by op.Or = given.OfAll choices.Bits
given_by op.Xor = given.OfAll choices.Bits
given_by op.Shl = given.OfFirst
given_by op.Shr = given.OfFirst
given_by op.Ushr = given.OfFirst
given_by op.Concat = given.Fixed ty.Text
given_by op.Length = given.Fixed ty.Int
given_by op.ToString = given.Fixed ty.Text
given_by op.ClassName = given.Fixed ty.Text
given_by op.Evaluating = given.Fixed ty.Any
given_by op.NullValue = given.Fixed ty.Any
given_by other = given.Fixed ty.Boolean

-- the second list begins with the first
abbrev pub Begins : List Ty → List Ty → Type 0
Begins [] locals = Unit
Begins (type ∷ given) [] = ⊥
Begins (type ∷ given) (local ∷ locals) = (local ≡ type) × Begins given locals

-- the types of the parameters of a class, none where it isn't there
abbrev pub params_or_none : List Class → ℕ → List Ty
params_or_none classes class = unwrap_or (param_types_at classes class) []

module _ (p : Program) (this : Option ℕ) (locals : List Ty) where
  -- the types of each of several expressions
  abbrev pub types_of_each : List Expr → List (List Ty)
  types_of_each es = map (types_of p this locals) es

  -- the types of what a case gives
  abbrev pub types_of_case : Case → List Ty
  types_of_case = fold-Case (List Ty) (List Ty) Asks (List Ty) (handler_step p this locals) (types_step p this locals) (pattern_step p this locals) (case_step p this locals)

  -- those of what a handler gives
  abbrev pub types_of_catch : Catch → List Ty
  types_of_catch = fold-Catch (List Ty) (List Ty) Asks (List Ty) (handler_step p this locals) (types_step p this locals) (pattern_step p this locals) (case_step p this locals)

  -- those of what a handler gives, if there is one
  abbrev pub types_of_handler : Option Catch → List Ty
  types_of_handler handler = unwrap_or (option_map types_of_catch handler) []
