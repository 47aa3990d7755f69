-- The types of the values that an expression gives, and what a pattern asks of the types of the value that it looks at.
-- `this` is the class whose object `This` is, None in a static method; `locals` are the types of the locals.
use Rattle.std.specs.Prelude.{ℕ, Bool, true, false, ◌&&◌, ◌||◌, is_some, List, [], ◌∷◌, ◌++◌, Option, Some, None, take, slice_get, option_map, option_to_list}
use Rattle.std.specs.List.{list_all}
use Rattle.std.specs.Option.{unwrap_or}
use Rattle.ty_prog.specs.declared.program.Program.{Program}
use Rattle.ty_prog.specs.declared.class.Class.{Class}
use Rattle.ty_prog.specs.declared.expr.Expr.{Expr}
use Rattle.ty_prog.specs.declared.pattern.Pattern.{Pattern}
use Rattle.ty_prog.specs.declared.catch.Catch.TheOpen.{Expr-F, Catch-F, Pattern-F, Case-F}
use Rattle.ty_prog.specs.declared.catch.Catch.TheFolds.{fold-Expr, fold-Pattern}
use Rattle.ty_prog.specs.declared.prim_op.PrimOp.{PrimOp}
use Rattle.ty_prog.specs.declared.prim_op.PrimOp.TheVariants as op
use Rattle.ty_prog.specs.declared.ty.Ty.{Ty}
use Rattle.ty_prog.specs.declared.ty.Ty.TheVariants as ty
use Rattle.ty_typed.specs.Stands.{fits, common, compared, numbers, bits}
use Rattle.ty_typed.specs.Members.{field_type, cell_type, method_at, result_of, super_method, param_types_at}
use Rattle.ty_conform.specs.Kinds.{is_object, is_known}

-- the types of what an operator gives (SLS 12.2): an operation on numbers is one on Int where all operands are, and else
-- on Long; a shift has its left operand's type
abbrev pub prim_types : List Class → PrimOp → List (List Ty) → List Ty
prim_types classes op.Add args = option_to_list (common classes numbers args)
prim_types classes op.Sub args = option_to_list (common classes numbers args)
prim_types classes op.Mul args = option_to_list (common classes numbers args)
prim_types classes op.Div args = option_to_list (common classes numbers args)
prim_types classes op.Rem args = option_to_list (common classes numbers args)
prim_types classes op.And args = option_to_list (common classes bits args)
prim_types classes op.Or args = option_to_list (common classes bits args)
prim_types classes op.Xor args = option_to_list (common classes bits args)
prim_types classes op.Shl args = option_to_list (common classes numbers (take 1 args))
prim_types classes op.Shr args = option_to_list (common classes numbers (take 1 args))
prim_types classes op.Ushr args = option_to_list (common classes numbers (take 1 args))
prim_types classes op.Less args = ty.Boolean ∷ []
prim_types classes op.AtMost args = ty.Boolean ∷ []
prim_types classes op.Greater args = ty.Boolean ∷ []
prim_types classes op.AtLeast args = ty.Boolean ∷ []
prim_types classes op.Not args = ty.Boolean ∷ []
prim_types classes op.Same args = ty.Boolean ∷ []
prim_types classes op.Concat args = ty.Text ∷ []
prim_types classes op.Length args = ty.Int ∷ []
prim_types classes op.IsEmpty args = ty.Boolean ∷ []
prim_types classes op.Equals args = ty.Boolean ∷ []
prim_types classes op.ToString args = ty.Text ∷ []
prim_types classes op.ClassName args = ty.Text ∷ []
prim_types classes op.Evaluating args = ty.Any ∷ []
prim_types classes op.NullValue args = ty.Any ∷ []

-- a type that a value can be tested for
abbrev pub is_tested : List Class → Ty → Bool
is_tested classes ty.Boolean = true
is_tested classes ty.Int = true
is_tested classes ty.Long = true
is_tested classes ty.Text = true
is_tested classes (ty.Class class) = is_known classes (ty.Class class)
is_tested classes other = false

-- what a pattern asks of the types of the value that it looks at, and the types of the values that it matches
pub record Asks : Type 0 where
  pub holds : List Ty → Bool
  pub matched : List Ty → List Ty

-- the types of the last of several, of Unit where there is none
abbrev pub last_of : List (List Ty) → List Ty
last_of [] = ty.Unit ∷ []
last_of (types ∷ []) = types
last_of (types ∷ next ∷ rest) = last_of (next ∷ rest)

-- the types of all of several
abbrev pub all_of : List (List Ty) → List Ty
all_of [] = []
all_of (types ∷ rest) = types ++ all_of rest

module _ (p : Program) (this : Option ℕ) (locals : List Ty) where
  -- where the types don't hang on those of parts
  abbrev pub plain_types : {C E P K : Type 0} → Expr-F C E P K → List Ty
  plain_types (Expr-F.Int n) = ty.Int ∷ []
  plain_types (Expr-F.Long n) = ty.Long ∷ []
  plain_types (Expr-F.Bool b) = ty.Boolean ∷ []
  plain_types (Expr-F.Text text) = ty.Text ∷ []
  plain_types Expr-F.Null = ty.Null ∷ []
  plain_types (Expr-F.Local local) = option_to_list (slice_get locals local)
  plain_types Expr-F.This = option_to_list (option_map ty.Class this)
  plain_types (Expr-F.Get of class field) = option_to_list (field_type p.classes class field)
  plain_types (Expr-F.Call of class method args) = option_to_list (result_of (method_at p.classes class method))
  plain_types (Expr-F.New class args) = ty.Class class ∷ []
  plain_types (Expr-F.Convert to of) = to ∷ []
  plain_types (Expr-F.Equal a b) = ty.Boolean ∷ []
  plain_types (Expr-F.TextOf e) = ty.Text ∷ []
  plain_types (Expr-F.Throw e) = ty.Nothing ∷ []
  plain_types (Expr-F.LazyGet of class cell) = option_to_list (cell_type p.classes class cell)
  plain_types (Expr-F.ObjectGet class) = ty.Class class ∷ []
  plain_types (Expr-F.SuperCall after name args) = option_to_list (result_of (super_method p this after name))
  plain_types (Expr-F.Test of test) = ty.Boolean ∷ []
  plain_types (Expr-F.Cas of class field old new) = ty.Boolean ∷ []
  plain_types (Expr-F.NewLatch e) = ty.Any ∷ []
  plain_types (Expr-F.OwnedHere e) = ty.Boolean ∷ []
  plain_types (Expr-F.StaticCall class method args) = option_to_list (result_of (method_at p.classes class method))
  plain_types (Expr-F.ModuleGet class) = ty.Class class ∷ []
  plain_types other = ty.Unit ∷ []

  -- the types of the values of a conditional are those of both branches, and so on (SLS 6.16, 6.11, 6.22, 8.4)
  abbrev pub types_step : Expr-F (List Ty) (List Ty) Asks (List Ty) → List Ty
  types_step (Expr-F.Prim operator args) = prim_types p.classes operator args
  types_step (Expr-F.If c a b) = a ++ b
  types_step (Expr-F.Block es) = last_of es
  types_step (Expr-F.Try body handler last) = body ++ unwrap_or handler []
  types_step (Expr-F.Match of cases) = all_of cases
  types_step other = plain_types other

  -- the types of what a handler gives
  abbrev pub handler_step : Catch-F (List Ty) (List Ty) Asks (List Ty) → List Ty
  handler_step (Catch-F.Cases cases) = all_of cases
  handler_step (Catch-F.«Catch::Any» local body) = body

  -- a local may hold values of these types
  abbrev pub takes : ℕ → List Ty → Bool
  takes local types = unwrap_or (option_map (fits p.classes types) (slice_get locals local)) false

  -- each pattern holds of the value of its parameter
  abbrev pub parts_hold : List Asks → List Ty → Bool
  parts_hold [] [] = true
  parts_hold (part ∷ parts) (type ∷ params) = part.holds (type ∷ []) && parts_hold parts params
  parts_hold parts params = false

  -- each pattern holds of the value of its parameter, where the class is there
  abbrev pub made_of : List Asks → Option (List Ty) → Bool
  made_of parts None = false
  made_of parts (Some params) = parts_hold parts params

  -- a value of these types may be of a type, or is
  abbrev pub may_be : List Ty → Ty → Bool
  may_be types type = is_tested p.classes type && (fits p.classes types ty.Any || fits p.classes types type)

  -- a type or constructor pattern looks at a reference, or at a value of the very type; a literal at a reference or at a
  -- value of its own type; an object's name at a reference (SLS 8.1)
  abbrev pub pattern_step : Pattern-F (List Ty) (List Ty) Asks (List Ty) → Asks
  pattern_step Pattern-F.«Pattern::Any» = record { holds = λ types. true; matched = λ types. types }
  pattern_step (Pattern-F.Bind local part) =
      record { holds = λ types. part.holds types && takes local (part.matched types); matched = part.matched }
  pattern_step (Pattern-F.OfType type) = record { holds = λ types. may_be types type; matched = λ types. type ∷ [] }
  pattern_step (Pattern-F.Literal e) =
      record { holds = λ types. fits p.classes types ty.Any || is_some (common p.classes compared (types ∷ e ∷ [])); matched = λ types. types }
  pattern_step (Pattern-F.Object class) =
      record { holds = λ types. is_object p.classes class && fits p.classes types ty.Any; matched = λ types. types }
  pattern_step (Pattern-F.Make class parts) = record {
    holds = λ types. fits p.classes types ty.Any && made_of parts (param_types_at p.classes class);
    matched = λ types. ty.Class class ∷ [];
  }
  pattern_step (Pattern-F.Either parts) =
      record { holds = λ types. list_all (λ part. part.holds types) parts; matched = λ types. types }

  -- the types of what a case gives
  abbrev pub case_step : Case-F (List Ty) (List Ty) Asks (List Ty) → List Ty
  case_step c = c.body

  -- the types of the values that an expression gives
  abbrev pub types_of : Expr → List Ty
  types_of = fold-Expr (List Ty) (List Ty) Asks (List Ty) handler_step types_step pattern_step case_step

  -- what a pattern asks
  abbrev pub asks : Pattern → Asks
  asks = fold-Pattern (List Ty) (List Ty) Asks (List Ty) handler_step types_step pattern_step case_step
