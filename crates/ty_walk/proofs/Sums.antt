-- The sum over a tree is what its root counts, and the sums over its children.
use Rattle.std.proofs.Common.{◌≡◌, ℕ, ◌+◌, List, [], ◌∷◌, ◌++◌, Bool, true, false, if◌then◌else◌, sum, sum_by, map, take, length, get_or, ◌<◌, ◌≤◌, refl, ap, sym, subst, ◌∙◌, Option, Some, None, arith, ◌⊎◌, inl, inr}
use Rattle.std.proofs.Math.Nat.{le_refl}
use Rattle.std.proofs.lemmas.List.{map-append}
use Rattle.std.proofs.lemmas.List.Sums.{sum-map, sum_by_more, sum_by-take-le}
use Rattle.std.proofs.lemmas.Option.{slice_get_within, get_or_from_slice_get, slice_get_cases}
use Rattle.std.proofs.lemmas.Grind.{common_steps}
use Rattle.std.specs.Prelude.{slice_get, option_and_then}
use Rattle.ty_prog.specs.declared.class.Class.{Class}
use Rattle.ty_prog.specs.declared.kind.Kind.{Kind}
use Rattle.ty_prog.specs.declared.kind.Kind.TheVariants as kind
use Rattle.ty_prog.specs.declared.stage.Stage.TheVariants as stage
use Rattle.ty_prog.specs.declared.expr.Expr.{Expr, out-Expr}
use Rattle.ty_prog.specs.declared.case.Case.{Case, out-Case}
use Rattle.ty_prog.specs.declared.pattern.Pattern.{Pattern, out-Pattern}
use Rattle.ty_prog.specs.declared.catch.Catch.{Catch, out-Catch}
use Rattle.ty_prog.specs.declared.catch.Catch.TheOpen.{Expr-F, Catch-F, Pattern-F, Case-F}
use Rattle.ty_prog.specs.declared.catch.Catch.TheFolds.{fold-Catch, map-Expr, map-Case, map-Pattern, map-Catch, fold_out-Expr, fold_out-Case, fold_out-Pattern, fold_out-Catch}
use Rattle.ty_prog.specs.Tree.{Tree, ExprTree, CaseTree, PatternTree, ConstructorTree, StageTree, ExprLevel, PatternLevel, CaseLevel, CatchLevel, handler_parts, expr_parts, case_parts, pattern_parts, handler_children, mixins_then, module_then, behind_superclass, behind_params, constructor_children, sets_module, children}
use Rattle.ty_prog.specs.Node.{tree_at}
use Rattle.ty_prog.specs.Shape.{Shape, ExprShape, CaseShape, PatternShape, ConstructorShape, to_one, catch_form, expr_form, pattern_form, case_form, handler_form, shape}
use Rattle.ty_walk.specs.SumOver.{Summed, handler_sum, expr_sum, pattern_sum, case_sum, part_sum, sum_over, nodes}

-- two ways to map twice that agree at each item
map_twice : {X Y Z W : Type 0} (f : X → Y) (g : Y → W) (h : X → Z) (k : Z → W) → ((x : X) → g (f x) ≡ k (h x)) → (xs : List X) → map g (map f xs) ≡ map k (map h xs)
map_twice f g h k same [] = refl
map_twice f g h k same (x ∷ xs) = rw (same x, map_twice f g h k same xs)

-- leaving out what parts became is leaving out the parts
ones_same : {X Y : Type 0} (f : X → Y) (xs : List X) → map to_one (map f xs) ≡ map to_one xs
ones_same f [] = refl
ones_same f (x ∷ xs) = ap (λ l. tt ∷ l) (ones_same f xs)

-- a level whose parts became sums
module _ (number : Tree → ℕ) (caught : Catch → Summed) where
  abbrev numbered : ExprLevel → Expr-F Summed ℕ ℕ ℕ
  numbered = map-Expr Catch Expr Pattern Case Summed ℕ ℕ ℕ caught (λ e. number (ExprTree e)) (λ p. number (PatternTree p)) (λ c. number (CaseTree c))

  abbrev handler_numbered : CatchLevel → Catch-F Summed ℕ ℕ ℕ
  handler_numbered = map-Catch Catch Expr Pattern Case Summed ℕ ℕ ℕ caught (λ e. number (ExprTree e)) (λ p. number (PatternTree p)) (λ c. number (CaseTree c))

  abbrev pattern_numbered : PatternLevel → Pattern-F Summed ℕ ℕ ℕ
  pattern_numbered = map-Pattern Catch Expr Pattern Case Summed ℕ ℕ ℕ caught (λ e. number (ExprTree e)) (λ p. number (PatternTree p)) (λ c. number (CaseTree c))

  abbrev case_numbered : CaseLevel → Case-F Summed ℕ ℕ ℕ
  case_numbered = map-Case Catch Expr Pattern Case Summed ℕ ℕ ℕ caught (λ e. number (ExprTree e)) (λ p. number (PatternTree p)) (λ c. number (CaseTree c))

  -- has the same form
  handler_form_same : (level : CatchLevel) → catch_form (handler_numbered level) ≡ catch_form level
  handler_form_same (Catch-F.Cases cases) = ap Catch-F.Cases (ones_same (λ c. number (CaseTree c)) cases)
  handler_form_same (Catch-F.«Catch::Any» local body) = refl

  exprs_same : (es : List Expr) → map to_one (map (λ e. number (ExprTree e)) es) ≡ map to_one es
  exprs_same = ones_same (λ e. number (ExprTree e))

  module _ (same : (c : Catch) → (caught c).0 ≡ handler_form c) where
    form_same : (level : ExprLevel) → expr_form (λ c. c.0) (numbered level) ≡ expr_form handler_form level
    form_same (Expr-F.Call of class method args) = ap (Expr-F.Call tt class method) (exprs_same args)
    form_same (Expr-F.New class args) = ap (Expr-F.New class) (exprs_same args)
    form_same (Expr-F.Prim op args) = ap (Expr-F.Prim op) (exprs_same args)
    form_same (Expr-F.SuperCall after name args) = ap (Expr-F.SuperCall after name) (exprs_same args)
    form_same (Expr-F.StaticCall class method args) = ap (Expr-F.StaticCall class method) (exprs_same args)
    form_same (Expr-F.Block args) = ap Expr-F.Block (exprs_same args)
    form_same (Expr-F.Println None) = refl
    form_same (Expr-F.Println (Some e)) = refl
    form_same (Expr-F.Match of cases) = ap (Expr-F.Match tt) (ones_same (λ c. number (CaseTree c)) cases)
    form_same (Expr-F.Try body None None) = refl
    form_same (Expr-F.Try body None (Some last)) = refl
    form_same (Expr-F.Try body (Some c) None) = ap (λ k. Expr-F.Try tt (Some k) None) (same c)
    form_same (Expr-F.Try body (Some c) (Some last)) = ap (λ k. Expr-F.Try tt (Some k) (Some tt)) (same c)
    form_same (Expr-F.Int n) = refl
    form_same _ = refl

  pattern_form_same : (level : PatternLevel) → pattern_form (pattern_numbered level) ≡ pattern_form level
  pattern_form_same (Pattern-F.Make class ps) = ap (Pattern-F.Make class) (ones_same (λ p. number (PatternTree p)) ps)
  pattern_form_same (Pattern-F.Either ps) = ap Pattern-F.Either (ones_same (λ p. number (PatternTree p)) ps)
  pattern_form_same _ = refl

  abbrev with_guard : CaseLevel → Option Expr → CaseLevel
  with_guard level guard = record { pattern = level.pattern; guard = guard; body = level.body }

  guard_form_same : (level : CaseLevel) (guard : Option Expr) → case_form (case_numbered (with_guard level guard)) ≡ case_form (with_guard level guard)
  guard_form_same level None = refl
  guard_form_same level (Some e) = refl

  case_form_same : (level : CaseLevel) → case_form (case_numbered level) ≡ case_form level
  case_form_same level = guard_form_same level level.guard

  -- and its parts are the sums over its parts
  of_exprs : (es : List Expr) → map (λ n. n) (map (λ e. number (ExprTree e)) es) ≡ map number (map ExprTree es)
  of_exprs = map_twice (λ e. number (ExprTree e)) (λ n. n) ExprTree number (λ e. refl)

  of_cases : (cs : List Case) → map (λ n. n) (map (λ c. number (CaseTree c)) cs) ≡ map number (map CaseTree cs)
  of_cases = map_twice (λ c. number (CaseTree c)) (λ n. n) CaseTree number (λ c. refl)

  of_patterns : (ps : List Pattern) → map (λ n. n) (map (λ p. number (PatternTree p)) ps) ≡ map number (map PatternTree ps)
  of_patterns = map_twice (λ p. number (PatternTree p)) (λ n. n) PatternTree number (λ p. refl)

  handler_parts_same : (level : CatchLevel) → handler_parts (λ n. n) (λ n. n) (handler_numbered level) ≡ map number (handler_parts ExprTree CaseTree level)
  handler_parts_same (Catch-F.Cases cases) = of_cases cases
  handler_parts_same (Catch-F.«Catch::Any» local body) = refl

  pattern_parts_same : (level : PatternLevel) → pattern_parts (λ n. n) (λ n. n) (pattern_numbered level) ≡ map number (pattern_parts ExprTree PatternTree level)
  pattern_parts_same (Pattern-F.Make class ps) = of_patterns ps
  pattern_parts_same (Pattern-F.Either ps) = of_patterns ps
  pattern_parts_same _ = refl

  guard_parts_same : (level : CaseLevel) (guard : Option Expr) → case_parts (λ n. n) (λ n. n) (case_numbered (with_guard level guard)) ≡ map number (case_parts ExprTree PatternTree (with_guard level guard))
  guard_parts_same level None = refl
  guard_parts_same level (Some e) = refl

  case_parts_same : (level : CaseLevel) → case_parts (λ n. n) (λ n. n) (case_numbered level) ≡ map number (case_parts ExprTree PatternTree level)
  case_parts_same level = guard_parts_same level level.guard

  module _ (same : (c : Catch) → (caught c).1 ≡ map number (handler_children c)) where
    parts_same : (level : ExprLevel) → expr_parts (λ c. c.1) (λ n. n) (λ n. n) (numbered level) ≡ map number (expr_parts handler_children ExprTree CaseTree level)
    parts_same (Expr-F.Call of class method args) = rw (of_exprs args)
    parts_same (Expr-F.New class args) = of_exprs args
    parts_same (Expr-F.Prim op args) = of_exprs args
    parts_same (Expr-F.SuperCall after name args) = of_exprs args
    parts_same (Expr-F.StaticCall class method args) = of_exprs args
    parts_same (Expr-F.Block args) = of_exprs args
    parts_same (Expr-F.Println None) = refl
    parts_same (Expr-F.Println (Some e)) = refl
    parts_same (Expr-F.Match of cases) = rw (of_cases cases)
    parts_same (Expr-F.Try body None None) = refl
    parts_same (Expr-F.Try body None (Some last)) = refl
    parts_same (Expr-F.Try body (Some c) None) = rw (map-append number (handler_children c) [], same c)
    parts_same (Expr-F.Try body (Some c) (Some last)) = rw (map-append number (handler_children c) (ExprTree last ∷ []), same c)
    parts_same _ = refl

module _ (number : Shape → ℕ) where
  abbrev over : Tree → ℕ
  over = sum_over number

  abbrev caught : Catch → Summed
  caught = fold-Catch Summed ℕ ℕ ℕ (handler_sum number) (expr_sum number) (pattern_sum number) (case_sum number)

  caught_is : (c : Catch) → caught c ≡ handler_sum number (handler_numbered over caught (out-Catch c))
  caught_is c = fold_out-Catch Summed ℕ ℕ ℕ (handler_sum number) (expr_sum number) (pattern_sum number) (case_sum number) c

  caught_form : (c : Catch) → (caught c).0 ≡ handler_form c
  caught_form c = ap (λ s. s.0) (caught_is c) ∙ handler_form_same over caught (out-Catch c)

  caught_parts : (c : Catch) → (caught c).1 ≡ map over (handler_children c)
  caught_parts c = ap (λ s. s.1) (caught_is c) ∙ handler_parts_same over caught (out-Catch c)

  expr_over : (e : Expr) → over (ExprTree e) ≡ number (shape (ExprTree e)) + sum (map over (children (ExprTree e)))
  expr_over e =
      fold_out-Expr Summed ℕ ℕ ℕ (handler_sum number) (expr_sum number) (pattern_sum number) (case_sum number) e
      ∙ ap (λ form. number (ExprShape form) + sum (expr_parts (λ c. c.1) (λ n. n) (λ n. n) (numbered over caught (out-Expr e)))) (form_same over caught caught_form (out-Expr e))
      ∙ ap (λ ns. number (shape (ExprTree e)) + sum ns) (parts_same over caught caught_parts (out-Expr e))

  pattern_over : (p : Pattern) → over (PatternTree p) ≡ number (shape (PatternTree p)) + sum (map over (children (PatternTree p)))
  pattern_over p =
      fold_out-Pattern Summed ℕ ℕ ℕ (handler_sum number) (expr_sum number) (pattern_sum number) (case_sum number) p
      ∙ ap (λ form. number (PatternShape form) + sum (pattern_parts (λ n. n) (λ n. n) (pattern_numbered over caught (out-Pattern p)))) (pattern_form_same over caught (out-Pattern p))
      ∙ ap (λ ns. number (shape (PatternTree p)) + sum ns) (pattern_parts_same over caught (out-Pattern p))

  case_over : (c : Case) → over (CaseTree c) ≡ number (shape (CaseTree c)) + sum (map over (children (CaseTree c)))
  case_over c =
      fold_out-Case Summed ℕ ℕ ℕ (handler_sum number) (expr_sum number) (pattern_sum number) (case_sum number) c
      ∙ ap (λ form. number (CaseShape form) + sum (case_parts (λ n. n) (λ n. n) (case_numbered over caught (out-Case c)))) (case_form_same over caught (out-Case c))
      ∙ ap (λ ns. number (shape (CaseTree c)) + sum ns) (case_parts_same over caught (out-Case c))

  abbrev part : Tree → ℕ
  part = part_sum number

  -- no child of a constructor is a constructor
  exprs_agree : (es : List Expr) → map part (map ExprTree es) ≡ map over (map ExprTree es)
  exprs_agree = map_twice ExprTree part ExprTree over (λ e. refl)

  mixins_agree : (mixins : List ℕ) (body : List Expr) → map part (mixins_then mixins body) ≡ map over (mixins_then mixins body)
  mixins_agree [] body = exprs_agree body
  mixins_agree (trait ∷ mixins) body = ap (λ ns. over (StageTree (stage.Mixin trait)) ∷ ns) (mixins_agree mixins body)

  module_agrees : (mixins : List ℕ) (body : List Expr) → map part (module_then mixins body) ≡ map over (module_then mixins body)
  module_agrees mixins [] = mixins_agree mixins []
  module_agrees mixins (first ∷ rest) = either (sets_module first) where
    either : (sets : Bool) → map part (if sets then ExprTree first ∷ mixins_then mixins rest else mixins_then mixins (first ∷ rest))
        ≡ map over (if sets then ExprTree first ∷ mixins_then mixins rest else mixins_then mixins (first ∷ rest))
    either true = ap (λ ns. over (ExprTree first) ∷ ns) (mixins_agree mixins rest)
    either false = mixins_agree mixins (first ∷ rest)

  args_agree : (args : List Expr) (class : Class) → map part (map ExprTree args ++ StageTree stage.Superclass ∷ behind_superclass class)
      ≡ map over (map ExprTree args ++ StageTree stage.Superclass ∷ behind_superclass class)
  args_agree [] class = ap (λ ns. over (StageTree stage.Superclass) ∷ ns) (module_agrees class.mixins class.body)
  args_agree (e ∷ args) class = ap (λ ns. over (ExprTree e) ∷ ns) (args_agree args class)

  params_agree : (params : List ℕ) (class : Class) → map part (map (λ field. StageTree (stage.Parameter field)) params ++ behind_params class)
      ≡ map over (map (λ field. StageTree (stage.Parameter field)) params ++ behind_params class)
  params_agree [] class = args_agree class.super_args class
  params_agree (field ∷ params) class = ap (λ ns. over (StageTree (stage.Parameter field)) ∷ ns) (params_agree params class)

  children_agree : (class : Class) (kind : Kind) → map part (constructor_children class kind) ≡ map over (constructor_children class kind)
  children_agree class kind.Trait = exprs_agree class.body
  children_agree class kind.Class = params_agree class.params class
  children_agree class kind.Abstract = params_agree class.params class
  children_agree class kind.Object = params_agree class.params class

  over_map : (t : Tree) → over t ≡ number (shape t) + sum (map over (children t))
  over_map (ExprTree e) = expr_over e
  over_map (CaseTree c) = case_over c
  over_map (PatternTree p) = pattern_over p
  over_map (ConstructorTree class) = ap (λ ns. number (ConstructorShape class) + sum ns) (children_agree class class.kind)
  over_map (StageTree stage) = omega arith

  pub over_children : (t : Tree) → over t ≡ number (shape t) + sum_by over (children t)
  over_children t = over_map t ∙ ap (λ n. number (shape t) + n) (sum-map over (children t))

  -- the sums over the first children and over the next one
  pub over_next : (ts : List Tree) (i : ℕ) (next : Tree) → Some next ≡ slice_get ts i
      → sum_by over (take (i + 1) ts) ≡ sum_by over (take i ts) + over next
  over_next ts i next is =
      let within : i < length ts = slice_get_within ts i next (sym is) in
      let got : get_or ts i next ≡ next = get_or_from_slice_get ts i next next (sym is) in
      sum_by_more over ts i next within ∙ ap (λ t. sum_by over (take i ts) + over t) got

  -- the sums over the first children are within the sum over the tree
  over_first : (t : Tree) (i : ℕ) → number (shape t) + sum_by over (take i (children t)) ≤ over t
  over_first t i = omega (arith, over_children t, sum_by-take-le over (children t) i)

  -- the sum over a child, and what the root counts, are within the sum over the tree
  pub over_child : (t : Tree) (i : ℕ) (next : Tree) → slice_get (children t) i ≡ Some next → number (shape t) + over next ≤ over t
  over_child t i next is = omega (arith, over_next (children t) i next (sym is), over_first t (i + 1))

  all_taken : (ts : List Tree) (i : ℕ) → None ≡ slice_get ts i → take i ts ≡ ts
  all_taken ts i is = elim ((slice_get_cases ts i).1) [ inl w ↦ absurd (cc) | inr w ↦ grind (arith, common_steps) ]

  -- behind the last child the sums are whole
  pub over_all : (t : Tree) (i : ℕ) → None ≡ slice_get (children t) i → number (shape t) + sum_by over (take i (children t)) ≡ over t
  over_all t i is = rw (all_taken (children t) i is) (sym (over_children t))

  one_of : {A : Type 0} (o : Option A) → (o ≡ None) ⊎ ((x : A) × (o ≡ Some x))
  one_of None = inl refl
  one_of (Some x) = inr (x, refl)

  abbrev lacking : Option Tree
  lacking = None

  -- the sum over what is at a place is within the sum over the tree
  pub over_place : (t : Tree) (place : List ℕ) (part : Tree) → tree_at t place ≡ Some part → over part ≤ over t
  over_place t [] part is = let same : t ≡ part = cc in subst (λ u. over u ≤ over t) same (le_refl (over t))
  over_place t (i ∷ place) part is =
      elim (one_of (slice_get (children t) i)) [
        | inl none ↦ absurd (let h : lacking ≡ Some part = sym (ap (option_and_then (λ child. tree_at child place)) none) ∙ is in cc)
        | inr one ↦
            let h : tree_at one.0 place ≡ Some part = sym (ap (option_and_then (λ child. tree_at child place)) one.1) ∙ is in
            omega (arith, over_place one.0 place part h, over_child t i one.0 one.1)
      ]

pub nodes_positive : (t : Tree) → 1 ≤ nodes t
nodes_positive t = omega (arith, over_children (λ shape. 1) t)

pub nodes_below : (t : Tree) (i : ℕ) (next : Tree) → slice_get (children t) i ≡ Some next → nodes next < nodes t
nodes_below t i next is = omega (arith, over_child (λ shape. 1) t i next is)
