-- Trees: an expression, a case or a pattern with all that is below it, or the constructor of a class or a stage of it;
-- and the parts of each in order of evaluation (SLS 5.1, 6, 8).
use Rattle.std.specs.Prelude.{ℕ, Bool, true, false, List, [], ◌∷◌, ◌++◌, Option, Some, None, map, option_to_list, option_map, if◌then◌else◌}
use Rattle.ty_prog.specs.declared.expr.Expr.{Expr, out-Expr}
use Rattle.ty_prog.specs.declared.catch.Catch.{Catch, out-Catch}
use Rattle.ty_prog.specs.declared.catch.Catch.TheOpen.{Expr-F, Catch-F, Pattern-F, Case-F}
use Rattle.ty_prog.specs.declared.case.Case.{Case, out-Case}
use Rattle.ty_prog.specs.declared.pattern.Pattern.{Pattern, out-Pattern}
use Rattle.ty_prog.specs.declared.class.Class.{Class}
use Rattle.ty_prog.specs.declared.kind.Kind.{Kind}
use Rattle.ty_prog.specs.declared.kind.Kind.TheVariants as kind
use Rattle.ty_prog.specs.declared.stage.Stage.{Stage}
use Rattle.ty_prog.specs.declared.stage.Stage.TheVariants as stage

-- a tree of L, by the kind of its root: an expression, a case, a pattern, a constructor, a stage of one
pub data Tree : Type 0 where
  ExprTree : (e : Expr) → Tree
  CaseTree : (c : Case) → Tree
  PatternTree : (p : Pattern) → Tree
  ConstructorTree : (class : Class) → Tree
  StageTree : (stage : Stage) → Tree

-- one level of an expression, of a handler, of a case or of a pattern
abbrev pub ExprLevel : Type 0
ExprLevel = Expr-F Catch Expr Pattern Case

abbrev pub CatchLevel : Type 0
CatchLevel = Catch-F Catch Expr Pattern Case

abbrev pub PatternLevel : Type 0
PatternLevel = Pattern-F Catch Expr Pattern Case

abbrev pub CaseLevel : Type 0
CaseLevel = Case-F Catch Expr Pattern Case

-- the list, or an empty one where there is none
abbrev pub or_none : {A : Type 0} → Option (List A) → List A
or_none None = []
or_none (Some parts) = parts

-- the parts of a handler
abbrev pub handler_parts : {C E P K A : Type 0} → (E → A) → (K → A) → Catch-F C E P K → List A
handler_parts expr case (Catch-F.Cases cases) = map case cases
handler_parts expr case (Catch-F.«Catch::Any» local body) = expr body ∷ []

-- the parts of an expression, in order of evaluation, given what each kind of part is told as
abbrev pub expr_parts : {C E P K A : Type 0} → (C → List A) → (E → A) → (K → A) → Expr-F C E P K → List A
expr_parts handler expr case (Expr-F.SetLocal local e) = expr e ∷ []
expr_parts handler expr case (Expr-F.Get of class field) = expr of ∷ []
expr_parts handler expr case (Expr-F.Put of class field value) = expr of ∷ expr value ∷ []
expr_parts handler expr case (Expr-F.Call of class method args) = expr of ∷ map expr args
expr_parts handler expr case (Expr-F.New class args) = map expr args
expr_parts handler expr case (Expr-F.Prim op args) = map expr args
expr_parts handler expr case (Expr-F.Convert to of) = expr of ∷ []
expr_parts handler expr case (Expr-F.Equal a b) = expr a ∷ expr b ∷ []
expr_parts handler expr case (Expr-F.TextOf e) = expr e ∷ []
expr_parts handler expr case (Expr-F.Println e) = option_to_list (option_map expr e)
expr_parts handler expr case (Expr-F.If c a b) = expr c ∷ expr a ∷ expr b ∷ []
expr_parts handler expr case (Expr-F.While c b) = expr c ∷ expr b ∷ []
expr_parts handler expr case (Expr-F.Block es) = map expr es
expr_parts handler expr case (Expr-F.Try body catch last) = expr body ∷ or_none (option_map handler catch) ++ option_to_list (option_map expr last)
expr_parts handler expr case (Expr-F.Throw e) = expr e ∷ []
expr_parts handler expr case (Expr-F.Start e) = expr e ∷ []
expr_parts handler expr case (Expr-F.Match of cases) = expr of ∷ map case cases
expr_parts handler expr case (Expr-F.LazyGet of class cell) = expr of ∷ []
expr_parts handler expr case (Expr-F.SuperCall after name args) = map expr args
expr_parts handler expr case (Expr-F.Test of test) = expr of ∷ []
expr_parts handler expr case (Expr-F.Cas of class field old new) = expr of ∷ expr old ∷ expr new ∷ []
expr_parts handler expr case (Expr-F.NewLatch e) = expr e ∷ []
expr_parts handler expr case (Expr-F.OwnedHere e) = expr e ∷ []
expr_parts handler expr case (Expr-F.Await e) = expr e ∷ []
expr_parts handler expr case (Expr-F.CountDown e) = expr e ∷ []
expr_parts handler expr case (Expr-F.StaticCall class method args) = map expr args
expr_parts handler expr case (Expr-F.SetModule class e) = expr e ∷ []
expr_parts handler expr case (Expr-F.Int n) = []
expr_parts handler expr case (Expr-F.Long n) = []
expr_parts handler expr case (Expr-F.Bool b) = []
expr_parts handler expr case (Expr-F.Text text) = []
expr_parts handler expr case Expr-F.Null = []
expr_parts handler expr case Expr-F.Unit = []
expr_parts handler expr case (Expr-F.Local local) = []
expr_parts handler expr case Expr-F.This = []
expr_parts handler expr case (Expr-F.ObjectGet class) = []
expr_parts handler expr case (Expr-F.ModuleGet class) = []

-- the parts of a pattern
abbrev pub pattern_parts : {C E P K A : Type 0} → (E → A) → (P → A) → Pattern-F C E P K → List A
pattern_parts expr pattern Pattern-F.«Pattern::Any» = []
pattern_parts expr pattern (Pattern-F.Bind local p) = pattern p ∷ []
pattern_parts expr pattern (Pattern-F.OfType type) = []
pattern_parts expr pattern (Pattern-F.Literal e) = expr e ∷ []
pattern_parts expr pattern (Pattern-F.Object class) = []
pattern_parts expr pattern (Pattern-F.Make class parts) = map pattern parts
pattern_parts expr pattern (Pattern-F.Either parts) = map pattern parts

-- the parts of a case: its pattern, its guard and its body
abbrev pub case_parts : {C E P K A : Type 0} → (E → A) → (P → A) → Case-F C E P K → List A
case_parts expr pattern c = pattern c.pattern ∷ option_to_list (option_map expr c.guard) ++ expr c.body ∷ []

-- the children of a handler
abbrev pub handler_children : Catch → List Tree
handler_children c = handler_parts ExprTree CaseTree (out-Catch c)

-- a level that sets the module of an object
abbrev pub level_sets_module : ExprLevel → Bool
level_sets_module (Expr-F.SetModule class e) = true
level_sets_module other = false

-- an expression that does
abbrev pub sets_module : Expr → Bool
sets_module e = level_sets_module (out-Expr e)

-- the mixin evaluation, and then statements (SLS 5.1)
abbrev pub mixins_then : List ℕ → List Expr → List Tree
mixins_then mixins body = map (λ trait. StageTree (stage.Mixin trait)) mixins ++ map ExprTree body

-- the same for a whole body: where it begins by setting the module of an object, that comes first
abbrev pub module_then : List ℕ → List Expr → List Tree
module_then mixins [] = mixins_then mixins []
module_then mixins (first ∷ rest) =
    if sets_module first then ExprTree first ∷ mixins_then mixins rest else mixins_then mixins (first ∷ rest)

-- what a constructor does behind the constructor of the superclass
abbrev pub behind_superclass : Class → List Tree
behind_superclass class = module_then class.mixins class.body

-- what it does behind the storing of class parameters
abbrev pub behind_params : Class → List Tree
behind_params class = map ExprTree class.super_args ++ StageTree stage.Superclass ∷ behind_superclass class

-- what a constructor does, in order (SLS 5.1): one of a trait runs statements alone
abbrev pub constructor_children : Class → Kind → List Tree
constructor_children class kind.Trait = map ExprTree class.body
constructor_children class other = map (λ field. StageTree (stage.Parameter field)) class.params ++ behind_params class

-- the children of a tree, in order of evaluation
abbrev pub children : Tree → List Tree
children (ExprTree e) = expr_parts handler_children ExprTree CaseTree (out-Expr e)
children (CaseTree c) = case_parts ExprTree PatternTree (out-Case c)
children (PatternTree p) = pattern_parts ExprTree PatternTree (out-Pattern p)
children (ConstructorTree class) = constructor_children class class.kind
children (StageTree stage) = []
