-- That a node is typed: each of its parts has the type that its place wants (SLS 6, 8), by cases on one level.
use Rattle.std.specs.Prelude.{ℕ, Bool, true, false, ◌&&◌, ◌||◌, not, is_some, List, [], ◌∷◌, Option, Some, None, map, take, drop, length, nat_eq, slice_get, option_map}
use Rattle.std.specs.List.{list_all}
use Rattle.std.specs.Option.{unwrap_or}
use Rattle.ty_prog.specs.declared.program.Program.{Program}
use Rattle.ty_prog.specs.declared.class.Class.{Class}
use Rattle.ty_prog.specs.declared.method.Method.{Method}
use Rattle.ty_prog.specs.declared.expr.Expr.{Expr, out-Expr}
use Rattle.ty_prog.specs.declared.pattern.Pattern.{Pattern, out-Pattern}
use Rattle.ty_prog.specs.declared.case.Case.{Case, out-Case}
use Rattle.ty_prog.specs.declared.catch.Catch.{Catch, out-Catch}
use Rattle.ty_prog.specs.declared.catch.Catch.TheOpen.{Expr-F, Catch-F, Pattern-F}
use Rattle.ty_prog.specs.declared.prim_op.PrimOp.{PrimOp}
use Rattle.ty_prog.specs.declared.prim_op.PrimOp.TheVariants as op
use Rattle.ty_prog.specs.declared.tested.Tested.{Tested}
use Rattle.ty_prog.specs.declared.tested.Tested.TheVariants as tested
use Rattle.ty_prog.specs.declared.ty.Ty.{Ty}
use Rattle.ty_prog.specs.declared.ty.Ty.TheVariants as ty
use Rattle.ty_prog.specs.Tree.{Tree, ExprTree, CaseTree, PatternTree, ConstructorTree, StageTree, ExprLevel, PatternLevel}
use Rattle.ty_typed.specs.Stands.{fits, common, compared, numbers, bits, is_value, all_fit, is_any}
use Rattle.ty_typed.specs.Members.{field_type, cell_type, method_at, super_method, param_types_at, super_params}
use Rattle.ty_conform.specs.Kinds.{is_object, is_superclass, is_known}
use Rattle.ty_typed.specs.Types.{types_of, asks, takes, is_tested}

-- Throwable and Thread, by their numbers in the prelude
abbrev pub throwable : Ty
throwable = ty.Class 2

-- the type of Thread
abbrev pub thread : Ty
thread = ty.Class 1

-- a literal
abbrev pub is_literal : ExprLevel → Bool
is_literal (Expr-F.Int n) = true
is_literal (Expr-F.Long n) = true
is_literal (Expr-F.Bool b) = true
is_literal (Expr-F.Text text) = true
is_literal Expr-F.Null = true
is_literal other = false

-- `this`
abbrev pub is_this : ExprLevel → Bool
is_this Expr-F.This = true
is_this other = false

-- two operands, for which one of some types is wanted
abbrev pub two_of : List Class → List Ty → List (List Ty) → Bool
two_of classes choices args = nat_eq (length args) 2 && is_some (common classes choices args)

-- a number, and the Int that it is shifted by
abbrev pub shifted : List Class → List (List Ty) → Bool
shifted classes args = nat_eq (length args) 2 && is_some (common classes numbers (take 1 args)) && all_fit classes (drop 1 args) (ty.Int ∷ [])

-- what an operator wants of its operands
abbrev pub operands_fit : List Class → PrimOp → List (List Ty) → Bool
operands_fit classes op.Add args = two_of classes numbers args
operands_fit classes op.Sub args = two_of classes numbers args
operands_fit classes op.Mul args = two_of classes numbers args
operands_fit classes op.Div args = two_of classes numbers args
operands_fit classes op.Rem args = two_of classes numbers args
operands_fit classes op.And args = two_of classes bits args
operands_fit classes op.Or args = two_of classes bits args
operands_fit classes op.Xor args = two_of classes bits args
operands_fit classes op.Shl args = shifted classes args
operands_fit classes op.Shr args = shifted classes args
operands_fit classes op.Ushr args = shifted classes args
operands_fit classes op.Less args = two_of classes numbers args
operands_fit classes op.AtMost args = two_of classes numbers args
operands_fit classes op.Greater args = two_of classes numbers args
operands_fit classes op.AtLeast args = two_of classes numbers args
operands_fit classes op.Not args = all_fit classes args (ty.Boolean ∷ [])
operands_fit classes op.Same args = all_fit classes args (ty.Any ∷ ty.Any ∷ [])
operands_fit classes op.Concat args = all_fit classes args (ty.Text ∷ ty.Text ∷ [])
operands_fit classes op.Length args = all_fit classes args (ty.Text ∷ [])
operands_fit classes op.IsEmpty args = all_fit classes args (ty.Text ∷ [])
operands_fit classes op.Equals args = all_fit classes args (ty.Any ∷ ty.Any ∷ [])
operands_fit classes op.ToString args = all_fit classes args (ty.Any ∷ [])
operands_fit classes op.ClassName args = all_fit classes args (ty.Any ∷ [])
operands_fit classes op.Evaluating args = all_fit classes args []
operands_fit classes op.NullValue args = all_fit classes args []

-- a reference is narrowed to another type of references, or unboxed
abbrev pub narrows_to : List Class → Ty → Bool
narrows_to classes ty.Nothing = false
narrows_to classes ty.Null = false
narrows_to classes ty.Array = false
narrows_to classes other = is_known classes other

-- Int is widened to Long, Long is narrowed to Int
abbrev pub other_number : Ty → Ty → Bool
other_number ty.Int ty.Long = true
other_number ty.Long ty.Int = true
other_number from to = false

-- a value of the first type can be made one of the second: widened, boxed, unboxed or narrowed (SLS 6.26.1, 12.2)
abbrev pub converts : List Class → Ty → Ty → Bool
converts classes ty.Array to = false
converts classes ty.Int to = is_any to || other_number ty.Int to
converts classes ty.Long to = is_any to || other_number ty.Long to
converts classes ty.Boolean to = is_any to
converts classes ty.Unit to = is_any to
converts classes reference to = narrows_to classes to

-- what a test asks for can be asked for
abbrev pub can_test : List Class → Tested → Bool
can_test classes tested.Latch = true
can_test classes tested.Evaluating = true
can_test classes (tested.OfType type) = is_tested classes type

-- as wanted: static, or not
abbrev pub is_as : Bool → Bool → Bool
is_as true static = static
is_as false static = not static

module _ (classes : List Class) where
  -- values of these types fit the type, if there is one
  abbrev pub fits_some : List Ty → Option Ty → Bool
  fits_some types None = false
  fits_some types (Some wanted) = fits classes types wanted

  -- the values fit the types, if there are any
  abbrev pub all_fit_some : List (List Ty) → Option (List Ty) → Bool
  all_fit_some several None = false
  all_fit_some several (Some wanted) = all_fit classes several wanted

  -- the method is there, is static or not as it should be, and takes the arguments
  abbrev pub takes_args : Bool → List (List Ty) → Option Method → Bool
  takes_args static args None = false
  takes_args static args (Some method) = is_as static method.is_static && all_fit classes args method.params

module _ (p : Program) (this : Option ℕ) (locals : List Ty) where
  -- the types of an expression at this place
  abbrev pub types : Expr → List Ty
  types = types_of p this locals

  -- an expression fits a type
  abbrev pub expr_fits : Expr → Ty → Bool
  expr_fits e wanted = fits p.classes (types e) wanted

  -- an expression has a value, whatever its type, that has a text and can be compared
  abbrev pub has_text : Expr → Bool
  has_text e = is_some (common p.classes compared (types e ∷ []))

  -- an expression whose value is dropped
  abbrev pub is_dropped : Expr → Bool
  is_dropped e = is_value p.classes (types e)

  -- the values of all but the last are dropped
  abbrev pub drops_all_but_last : List Expr → Bool
  drops_all_but_last [] = true
  drops_all_but_last (e ∷ []) = true
  drops_all_but_last (e ∷ next ∷ rest) = is_dropped e && drops_all_but_last (next ∷ rest)

  -- the patterns of cases hold of a value of these types
  abbrev pub cases_hold : List Ty → List Case → Bool
  cases_hold looked_at cases = list_all (λ c. (asks p this locals (out-Case c).pattern).holds looked_at) cases

  -- the cases of a handler, or its local, take a Throwable
  abbrev pub handler_level_typed : Catch-F Catch Expr Pattern Case → Bool
  handler_level_typed (Catch-F.Cases cases) = cases_hold (throwable ∷ []) cases
  handler_level_typed (Catch-F.«Catch::Any» local body) = takes p this locals local (throwable ∷ [])

  -- a handler looks at a Throwable
  abbrev pub handler_typed : Option Catch → Bool
  handler_typed handler = unwrap_or (option_map (λ h. handler_level_typed (out-Catch h)) handler) true

  -- the value of an expression, if there is one, is dropped
  abbrev pub some_dropped : Option Expr → Bool
  some_dropped e = unwrap_or (option_map is_dropped e) true

  -- whether a class is a superclass of the one whose object `This` is
  abbrev pub is_above : ℕ → Bool
  is_above class = unwrap_or (option_map (λ lower. is_superclass p.classes lower class) this) false

  -- a concrete method of a superclass, called without selection: the object is `This`, and the method takes the others
  -- (JVMS 6.5, invokespecial)
  abbrev pub calls_above : ℕ → Option Method → List Expr → Bool
  calls_above class method [] = false
  calls_above class None (first ∷ rest) = false
  calls_above class (Some method) (first ∷ rest) =
      is_this (out-Expr first) && is_above class && is_some method.body && takes_args p.classes false (map types rest) (Some method)

  -- each part of an expression has the type that its place wants; a part whose value is the expression's own is typed by
  -- whoever wants that
  abbrev pub expr_typed : ExprLevel → Bool
  expr_typed (Expr-F.Local local) = is_some (slice_get locals local)
  expr_typed (Expr-F.SetLocal local e) = takes p this locals local (types e)
  expr_typed Expr-F.This = is_some this
  expr_typed (Expr-F.Get of class field) = expr_fits of (ty.Class class) && is_some (field_type p.classes class field)
  expr_typed (Expr-F.Put of class field value) = expr_fits of (ty.Class class) && fits_some p.classes (types value) (field_type p.classes class field)
  expr_typed (Expr-F.Call of class method args) =
      expr_fits of (ty.Class class) && takes_args p.classes false (map types args) (method_at p.classes class method)
  expr_typed (Expr-F.New class args) = all_fit_some p.classes (map types args) (param_types_at p.classes class)
  expr_typed (Expr-F.Prim operator args) = operands_fit p.classes operator (map types args)
  expr_typed (Expr-F.Convert to of) = is_known p.classes to && is_dropped of && list_all (λ from. converts p.classes from to) (types of)
  expr_typed (Expr-F.Equal a b) = is_some (common p.classes compared (types a ∷ types b ∷ []))
  expr_typed (Expr-F.TextOf e) = has_text e
  expr_typed (Expr-F.Println e) = unwrap_or (option_map has_text e) true
  expr_typed (Expr-F.If c a b) = expr_fits c ty.Boolean
  expr_typed (Expr-F.While c b) = expr_fits c ty.Boolean && is_dropped b
  expr_typed (Expr-F.Block es) = drops_all_but_last es
  expr_typed (Expr-F.Try body handler last) = handler_typed handler && some_dropped last
  expr_typed (Expr-F.Throw e) = expr_fits e throwable
  expr_typed (Expr-F.Start e) = expr_fits e thread
  expr_typed (Expr-F.Match of cases) = is_dropped of && cases_hold (types of) cases
  expr_typed (Expr-F.LazyGet of class cell) = expr_fits of (ty.Class class) && is_some (cell_type p.classes class cell)
  expr_typed (Expr-F.ObjectGet class) = is_object p.classes class
  expr_typed (Expr-F.SuperCall after name args) = takes_args p.classes false (map types args) (super_method p this after name)
  expr_typed (Expr-F.Test of test) = expr_fits of ty.Any && can_test p.classes test
  expr_typed (Expr-F.Cas of class field old new) =
      expr_fits of (ty.Class class) && is_any (unwrap_or (field_type p.classes class field) ty.Nothing)
      && expr_fits old ty.Any && expr_fits new ty.Any
  expr_typed (Expr-F.NewLatch e) = expr_fits e ty.Any
  expr_typed (Expr-F.OwnedHere e) = expr_fits e ty.Any
  expr_typed (Expr-F.Await e) = expr_fits e ty.Any
  expr_typed (Expr-F.CountDown e) = expr_fits e ty.Any
  expr_typed (Expr-F.StaticCall class method args) =
      takes_args p.classes true (map types args) (method_at p.classes class method) || calls_above class (method_at p.classes class method) args
  expr_typed (Expr-F.ModuleGet class) = is_object p.classes class
  expr_typed (Expr-F.SetModule class e) = is_object p.classes class && expr_fits e (ty.Class class)
  expr_typed other = true

  -- the literal of a pattern is one
  abbrev pub pattern_typed : PatternLevel → Bool
  pattern_typed (Pattern-F.Literal e) = is_literal (out-Expr e)
  pattern_typed other = true

  -- a node is typed; the constructor of a class hands its superclass's what that wants, and drops the values of its statements
  abbrev pub node_typed : Tree → Bool
  node_typed (ExprTree e) = expr_typed (out-Expr e)
  node_typed (CaseTree c) = unwrap_or (option_map (λ guard. expr_fits guard ty.Boolean) (out-Case c).guard) true
  node_typed (PatternTree pattern) = pattern_typed (out-Pattern pattern)
  node_typed (ConstructorTree class) =
      all_fit p.classes (map types class.super_args) (super_params p.classes class) && list_all is_dropped class.body
  node_typed (StageTree stage) = true
