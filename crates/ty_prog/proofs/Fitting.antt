-- What is made of a form and children of the right kinds has this form and these children.
use Rattle.std.proofs.Common.{◌≡◌, ℕ, List, [], ◌∷◌, ◌++◌, Option, Some, None, map, reverse, take, drop, length, refl, ap, sym, ◌∙◌}
use Rattle.std.proofs.lemmas.List.{map-append, append-nil}
use Rattle.ty_prog.specs.declared.expr.Expr.{Expr, out-Expr}
use Rattle.ty_prog.specs.declared.case.Case.{Case, out-Case}
use Rattle.ty_prog.specs.declared.pattern.Pattern.{Pattern, out-Pattern}
use Rattle.ty_prog.specs.declared.catch.Catch.{Catch, out-Catch, roll-Catch}
use Rattle.ty_prog.specs.declared.catch.Catch.TheOpen.{Expr-F, Catch-F, Pattern-F, Case-F}
use Rattle.ty_prog.specs.declared.catch.Catch.TheViews.{out-roll-Catch}
use Rattle.ty_prog.specs.Tree.{Tree, ExprTree, CaseTree, PatternTree, ConstructorTree, StageTree, ExprLevel, CatchLevel, PatternLevel, CaseLevel, handler_parts, handler_children, expr_parts, pattern_parts, case_parts, or_none, children}
use Rattle.ty_prog.specs.Shape.{ExprShape, CaseShape, PatternShape, shape, ExprForm, to_one, catch_form, expr_form, pattern_form, case_form, handler_form}
use Rattle.ty_prog.specs.declared.part.Part.{Part}
use Rattle.ty_prog.specs.Part.{TreeKind, AnExpr, ACase, APattern, tree_kind, kinds, part_tree, in_order}
use Rattle.ty_prog.specs.Rebuilt.{as_expr, as_case, as_pattern, first_expr, first_pattern, catch_rebuilt, handler_rebuilt, handler_len, expr_rebuilt, pattern_rebuilt, guarded_rebuilt, case_rebuilt}

-- the first child is of its kind
expr_ahead : (ts : List Tree) (ks : List TreeKind) → kinds ts ≡ AnExpr ∷ ks → (ts ≡ ExprTree (first_expr ts) ∷ drop 1 ts) × (kinds (drop 1 ts) ≡ ks)
expr_ahead [] ks h = absurd (cc)
expr_ahead (ExprTree e ∷ ts) ks h = (refl, cc)
expr_ahead (CaseTree c ∷ ts) ks h = absurd (cc)
expr_ahead (PatternTree p ∷ ts) ks h = absurd (cc)
expr_ahead (ConstructorTree class ∷ ts) ks h = absurd (cc)
expr_ahead (StageTree stage ∷ ts) ks h = absurd (cc)

pattern_ahead : (ts : List Tree) (ks : List TreeKind) → kinds ts ≡ APattern ∷ ks → (ts ≡ PatternTree (first_pattern ts) ∷ drop 1 ts) × (kinds (drop 1 ts) ≡ ks)
pattern_ahead [] ks h = absurd (cc)
pattern_ahead (PatternTree p ∷ ts) ks h = (refl, cc)
pattern_ahead (CaseTree c ∷ ts) ks h = absurd (cc)
pattern_ahead (ExprTree e ∷ ts) ks h = absurd (cc)
pattern_ahead (ConstructorTree class ∷ ts) ks h = absurd (cc)
pattern_ahead (StageTree stage ∷ ts) ks h = absurd (cc)

none_left : (ts : List Tree) → kinds ts ≡ [] → [] ≡ ts
none_left [] h = refl
none_left (t ∷ ts) h = absurd (cc)

one : (ts : List Tree) → kinds ts ≡ AnExpr ∷ [] → ExprTree (first_expr ts) ∷ [] ≡ ts
one ts h = let a = expr_ahead ts [] h in ap (λ l. ExprTree (first_expr ts) ∷ l) (none_left (drop 1 ts) a.1) ∙ sym a.0

two : (ts : List Tree) → kinds ts ≡ AnExpr ∷ AnExpr ∷ [] → ExprTree (first_expr ts) ∷ ExprTree (first_expr (drop 1 ts)) ∷ [] ≡ ts
two ts h = let a = expr_ahead ts (AnExpr ∷ []) h in ap (λ l. ExprTree (first_expr ts) ∷ l) (one (drop 1 ts) a.1) ∙ sym a.0

three : (ts : List Tree) → kinds ts ≡ AnExpr ∷ AnExpr ∷ AnExpr ∷ [] → ExprTree (first_expr ts) ∷ ExprTree (first_expr (drop 1 ts)) ∷ ExprTree (first_expr (drop 1 (drop 1 ts))) ∷ [] ≡ ts
three ts h = let a = expr_ahead ts (AnExpr ∷ AnExpr ∷ []) h in ap (λ l. ExprTree (first_expr ts) ∷ l) (two (drop 1 ts) a.1) ∙ sym a.0

-- a list of children of one kind
exprs_fit : (ts : List Tree) (es : List Expr) → kinds ts ≡ kinds (map ExprTree es) → (map ExprTree (map as_expr ts) ≡ ts) × (map to_one (map as_expr ts) ≡ map to_one es)
exprs_fit [] [] h = (refl, refl)
exprs_fit [] (e ∷ es) h = absurd (cc)
exprs_fit (t ∷ ts) [] h = absurd (cc)
exprs_fit (ExprTree x ∷ ts) (e ∷ es) h = let f = exprs_fit ts es (cc) in (ap (λ l. ExprTree x ∷ l) f.0, ap (λ l. tt ∷ l) f.1)
exprs_fit (CaseTree c ∷ ts) (e ∷ es) h = absurd (cc)
exprs_fit (PatternTree p ∷ ts) (e ∷ es) h = absurd (cc)
exprs_fit (ConstructorTree class ∷ ts) (e ∷ es) h = absurd (cc)
exprs_fit (StageTree stage ∷ ts) (e ∷ es) h = absurd (cc)

patterns_fit : (ts : List Tree) (ps : List Pattern) → kinds ts ≡ kinds (map PatternTree ps) → (map PatternTree (map as_pattern ts) ≡ ts) × (map to_one (map as_pattern ts) ≡ map to_one ps)
patterns_fit [] [] h = (refl, refl)
patterns_fit [] (p ∷ ps) h = absurd (cc)
patterns_fit (t ∷ ts) [] h = absurd (cc)
patterns_fit (PatternTree x ∷ ts) (p ∷ ps) h = let f = patterns_fit ts ps (cc) in (ap (λ l. PatternTree x ∷ l) f.0, ap (λ l. tt ∷ l) f.1)
patterns_fit (CaseTree c ∷ ts) (p ∷ ps) h = absurd (cc)
patterns_fit (ExprTree e ∷ ts) (p ∷ ps) h = absurd (cc)
patterns_fit (ConstructorTree class ∷ ts) (p ∷ ps) h = absurd (cc)
patterns_fit (StageTree stage ∷ ts) (p ∷ ps) h = absurd (cc)

-- so many cases ahead, and others behind them
record CasesAhead (ts : List Tree) (cs : List Case) (ks : List TreeKind) : Type 0 where
  trees : map CaseTree (map as_case (take (length (map to_one cs)) ts)) ++ drop (length (map to_one cs)) ts ≡ ts
  ones : map to_one (map as_case (take (length (map to_one cs)) ts)) ≡ map to_one cs
  rest : kinds (drop (length (map to_one cs)) ts) ≡ ks

cases_ahead : (ts : List Tree) (cs : List Case) (ks : List TreeKind) → kinds ts ≡ kinds (map CaseTree cs) ++ ks → CasesAhead ts cs ks
cases_ahead [] [] ks h = record { trees = refl; ones = refl; rest = h }
cases_ahead (t ∷ ts) [] ks h = record { trees = refl; ones = refl; rest = h }
cases_ahead [] (c ∷ cs) ks h = absurd (cc)
cases_ahead (CaseTree x ∷ ts) (c ∷ cs) ks h =
    let f = cases_ahead ts cs ks (cc) in
    record { trees = ap (λ l. CaseTree x ∷ l) f.trees; ones = ap (λ l. tt ∷ l) f.ones; rest = f.rest }
cases_ahead (ExprTree e ∷ ts) (c ∷ cs) ks h = absurd (cc)
cases_ahead (PatternTree p ∷ ts) (c ∷ cs) ks h = absurd (cc)
cases_ahead (ConstructorTree class ∷ ts) (c ∷ cs) ks h = absurd (cc)
cases_ahead (StageTree stage ∷ ts) (c ∷ cs) ks h = absurd (cc)

-- what is made of a level's form and children, beside the form and the children
abbrev ExprFits : ExprLevel → List Tree → Type 0
ExprFits level ts = (expr_form handler_form (expr_rebuilt (expr_form handler_form level) ts) ≡ expr_form handler_form level)
    × (expr_parts handler_children ExprTree CaseTree (expr_rebuilt (expr_form handler_form level) ts) ≡ ts)

-- a handler ahead, and others behind it
record HandlerAhead (level : CatchLevel) (ts : List Tree) (ks : List TreeKind) : Type 0 where
  trees : handler_parts ExprTree CaseTree (catch_rebuilt (catch_form level) ts) ++ drop (handler_len (Some (catch_form level))) ts ≡ ts
  form : catch_form (catch_rebuilt (catch_form level) ts) ≡ catch_form level
  rest : kinds (drop (handler_len (Some (catch_form level))) ts) ≡ ks

handler_ahead : (level : CatchLevel) (ts : List Tree) (ks : List TreeKind) → kinds ts ≡ kinds (handler_parts ExprTree CaseTree level) ++ ks → HandlerAhead level ts ks
handler_ahead (Catch-F.Cases cases) ts ks h =
    let f = cases_ahead ts cases ks h in
    record { trees = f.trees; form = ap Catch-F.Cases f.ones; rest = f.rest }
handler_ahead (Catch-F.«Catch::Any» local body) ts ks h =
    let f = expr_ahead ts ks h in
    record { trees = sym f.0; form = refl; rest = f.1 }

-- a body, a handler, and what stands behind them
caught_fits : (body : Expr) (c : Catch) (ts : List Tree) (ks : List TreeKind) → kinds ts ≡ AnExpr ∷ kinds (handler_children c) ++ ks
    → HandlerAhead (out-Catch c) (drop 1 ts) ks
caught_fits body c ts ks h = handler_ahead (out-Catch c) (drop 1 ts) ks (expr_ahead ts (kinds (handler_children c) ++ ks) h).1

module _ (c : Catch) (ts : List Tree) where
  abbrev made : CatchLevel
  made = catch_rebuilt (handler_form c) (drop 1 ts)

  abbrev behind : List Tree
  behind = drop (handler_len (Some (handler_form c))) (drop 1 ts)

  -- the children are the first one, those of the handler, and what stands behind them
  whole : (ks : List TreeKind) (more : List Tree) → kinds ts ≡ AnExpr ∷ kinds (handler_children c) ++ ks → HandlerAhead (out-Catch c) (drop 1 ts) ks
      → more ≡ behind → ExprTree (first_expr ts) ∷ handler_children (roll-Catch made) ++ more ≡ ts
  whole ks more h ahead same =
      ap (λ level. ExprTree (first_expr ts) ∷ handler_parts ExprTree CaseTree level ++ more) (out-roll-Catch made)
      ∙ ap (λ ps. ExprTree (first_expr ts) ∷ handler_parts ExprTree CaseTree made ++ ps) same
      ∙ ap (λ ps. ExprTree (first_expr ts) ∷ ps) ahead.trees ∙ sym (expr_ahead ts (kinds (handler_children c) ++ ks) h).0

  form_kept : (ks : List TreeKind) → HandlerAhead (out-Catch c) (drop 1 ts) ks → handler_form (roll-Catch made) ≡ handler_form c
  form_kept ks ahead = ap catch_form (out-roll-Catch made) ∙ ahead.form

abbrev tried : Expr → Option Catch → Option Expr → ExprLevel
tried body handler last = Expr-F.Try body handler last

try_fits : (body : Expr) (handler : Option Catch) (last : Option Expr) (ts : List Tree)
    → kinds ts ≡ kinds (expr_parts handler_children ExprTree CaseTree (tried body handler last)) → ExprFits (tried body handler last) ts
try_fits body None None ts h = (refl, one ts h)
try_fits body None (Some last) ts h = (refl, two ts h)
try_fits body (Some c) None ts h =
    let split = h ∙ ap (λ ks. AnExpr ∷ ks) (map-append tree_kind (handler_children c) []) in
    let ahead = caught_fits body c ts [] split in
    (ap (λ form. Expr-F.Try tt (Some form) None) (form_kept c ts [] ahead), whole c ts [] [] split ahead (none_left (behind c ts) ahead.rest))
try_fits body (Some c) (Some last) ts h =
    let split = h ∙ ap (λ ks. AnExpr ∷ ks) (map-append tree_kind (handler_children c) (ExprTree last ∷ [])) in
    let ahead = caught_fits body c ts (AnExpr ∷ []) split in (
      ap (λ form. Expr-F.Try tt (Some form) (Some tt)) (form_kept c ts (AnExpr ∷ []) ahead),
      whole c ts (AnExpr ∷ []) (ExprTree (first_expr (behind c ts)) ∷ []) split ahead (one (behind c ts) ahead.rest),
    )

pub expr_fits : (level : ExprLevel) (ts : List Tree) → kinds ts ≡ kinds (expr_parts handler_children ExprTree CaseTree level) → ExprFits level ts
expr_fits (Expr-F.Int n) ts h = (refl, none_left ts h)
expr_fits (Expr-F.Long n) ts h = (refl, none_left ts h)
expr_fits (Expr-F.Bool b) ts h = (refl, none_left ts h)
expr_fits (Expr-F.Text text) ts h = (refl, none_left ts h)
expr_fits Expr-F.Null ts h = (refl, none_left ts h)
expr_fits Expr-F.Unit ts h = (refl, none_left ts h)
expr_fits (Expr-F.Local local) ts h = (refl, none_left ts h)
expr_fits Expr-F.This ts h = (refl, none_left ts h)
expr_fits (Expr-F.ObjectGet class) ts h = (refl, none_left ts h)
expr_fits (Expr-F.ModuleGet class) ts h = (refl, none_left ts h)
expr_fits (Expr-F.SetLocal local e) ts h = (refl, one ts h)
expr_fits (Expr-F.Get of class field) ts h = (refl, one ts h)
expr_fits (Expr-F.Convert to of) ts h = (refl, one ts h)
expr_fits (Expr-F.TextOf e) ts h = (refl, one ts h)
expr_fits (Expr-F.Throw e) ts h = (refl, one ts h)
expr_fits (Expr-F.Start e) ts h = (refl, one ts h)
expr_fits (Expr-F.LazyGet of class cell) ts h = (refl, one ts h)
expr_fits (Expr-F.Test of test) ts h = (refl, one ts h)
expr_fits (Expr-F.NewLatch e) ts h = (refl, one ts h)
expr_fits (Expr-F.OwnedHere e) ts h = (refl, one ts h)
expr_fits (Expr-F.Await e) ts h = (refl, one ts h)
expr_fits (Expr-F.CountDown e) ts h = (refl, one ts h)
expr_fits (Expr-F.SetModule class e) ts h = (refl, one ts h)
expr_fits (Expr-F.Put of class field value) ts h = (refl, two ts h)
expr_fits (Expr-F.Equal a b) ts h = (refl, two ts h)
expr_fits (Expr-F.While c b) ts h = (refl, two ts h)
expr_fits (Expr-F.If c a b) ts h = (refl, three ts h)
expr_fits (Expr-F.Cas of class field old new) ts h = (refl, three ts h)
expr_fits (Expr-F.Println None) ts h = (refl, none_left ts h)
expr_fits (Expr-F.Println (Some e)) ts h = (refl, one ts h)
expr_fits (Expr-F.New class args) ts h = let f = exprs_fit ts args h in (ap (Expr-F.New class) f.1, f.0)
expr_fits (Expr-F.Prim op args) ts h = let f = exprs_fit ts args h in (ap (Expr-F.Prim op) f.1, f.0)
expr_fits (Expr-F.SuperCall after name args) ts h = let f = exprs_fit ts args h in (ap (Expr-F.SuperCall after name) f.1, f.0)
expr_fits (Expr-F.StaticCall class method args) ts h = let f = exprs_fit ts args h in (ap (Expr-F.StaticCall class method) f.1, f.0)
expr_fits (Expr-F.Block args) ts h = let f = exprs_fit ts args h in (ap Expr-F.Block f.1, f.0)
expr_fits (Expr-F.Call of class method args) ts h =
    let a = expr_ahead ts (kinds (map ExprTree args)) h in
    let f = exprs_fit (drop 1 ts) args a.1 in
    (ap (Expr-F.Call tt class method) f.1, ap (λ l. ExprTree (first_expr ts) ∷ l) f.0 ∙ sym a.0)
expr_fits (Expr-F.Match of cases) ts h =
    let a = expr_ahead ts (kinds (map CaseTree cases)) h in
    let f = cases_ahead (drop 1 ts) cases [] (a.1 ∙ sym (append-nil (kinds (map CaseTree cases)))) in
    let all = ap (λ l. map CaseTree (map as_case (take (length (map to_one cases)) (drop 1 ts))) ++ l) (none_left _ f.rest) in
    let whole = sym (append-nil (map CaseTree (map as_case (take (length (map to_one cases)) (drop 1 ts))))) ∙ all ∙ f.trees in
    (ap (Expr-F.Match tt) f.ones, ap (λ l. ExprTree (first_expr ts) ∷ l) whole ∙ sym a.0)
expr_fits (Expr-F.Try body handler last) ts h = try_fits body handler last ts h

pub pattern_fits : (level : PatternLevel) (ts : List Tree) → kinds ts ≡ kinds (pattern_parts ExprTree PatternTree level)
    → (pattern_form (pattern_rebuilt (pattern_form level) ts) ≡ pattern_form level) × (pattern_parts ExprTree PatternTree (pattern_rebuilt (pattern_form level) ts) ≡ ts)
pattern_fits Pattern-F.«Pattern::Any» ts h = (refl, none_left ts h)
pattern_fits (Pattern-F.OfType type) ts h = (refl, none_left ts h)
pattern_fits (Pattern-F.Object class) ts h = (refl, none_left ts h)
pattern_fits (Pattern-F.Literal e) ts h = (refl, one ts h)
pattern_fits (Pattern-F.Bind local p) ts h =
    let a = pattern_ahead ts [] h in
    (refl, ap (λ l. PatternTree (first_pattern ts) ∷ l) (none_left (drop 1 ts) a.1) ∙ sym a.0)
pattern_fits (Pattern-F.Make class ps) ts h = let f = patterns_fit ts ps h in (ap (Pattern-F.Make class) f.1, f.0)
pattern_fits (Pattern-F.Either ps) ts h = let f = patterns_fit ts ps h in (ap Pattern-F.Either f.1, f.0)

abbrev with_guard : CaseLevel → Option Expr → CaseLevel
with_guard level guard = record { pattern = level.pattern; guard = guard; body = level.body }

guarded_fits : (level : CaseLevel) (guard : Option Expr) (ts : List Tree) → kinds ts ≡ kinds (case_parts ExprTree PatternTree (with_guard level guard))
    → (case_form (case_rebuilt (case_form (with_guard level guard)) ts) ≡ case_form (with_guard level guard))
    × (case_parts ExprTree PatternTree (case_rebuilt (case_form (with_guard level guard)) ts) ≡ ts)
guarded_fits level None ts h =
    let a = pattern_ahead ts (AnExpr ∷ []) h in
    (refl, ap (λ l. PatternTree (first_pattern ts) ∷ l) (one (drop 1 ts) a.1) ∙ sym a.0)
guarded_fits level (Some e) ts h =
    let a = pattern_ahead ts (AnExpr ∷ AnExpr ∷ []) h in
    (refl, ap (λ l. PatternTree (first_pattern ts) ∷ l) (two (drop 1 ts) a.1) ∙ sym a.0)

pub case_fits : (level : CaseLevel) (ts : List Tree) → kinds ts ≡ kinds (case_parts ExprTree PatternTree level)
    → (case_form (case_rebuilt (case_form level) ts) ≡ case_form level) × (case_parts ExprTree PatternTree (case_rebuilt (case_form level) ts) ≡ ts)
case_fits level = guarded_fits level level.guard

-- the same of trees, made from a stack of parts
abbrev Fits : Tree → Tree → List Tree → Type 0
Fits made t ts = (shape made ≡ shape t) × (children made ≡ ts)

pub expr_made : (made e : Expr) (left parts : List Part) → reverse left ≡ parts → kinds (map part_tree parts) ≡ kinds (children (ExprTree e))
    → out-Expr made ≡ expr_rebuilt (expr_form handler_form (out-Expr e)) (in_order left) → Fits (ExprTree made) (ExprTree e) (map part_tree parts)
expr_made made e left parts turned fits is =
    let level = is ∙ ap (λ ps. expr_rebuilt (expr_form handler_form (out-Expr e)) (map part_tree ps)) turned in
    let f = expr_fits (out-Expr e) (map part_tree parts) fits in
    (ap (λ l. ExprShape (expr_form handler_form l)) level ∙ ap ExprShape f.0, ap (expr_parts handler_children ExprTree CaseTree) level ∙ f.1)

pub pattern_made : (made p : Pattern) (left parts : List Part) → reverse left ≡ parts → kinds (map part_tree parts) ≡ kinds (children (PatternTree p))
    → out-Pattern made ≡ pattern_rebuilt (pattern_form (out-Pattern p)) (in_order left) → Fits (PatternTree made) (PatternTree p) (map part_tree parts)
pattern_made made p left parts turned fits is =
    let level = is ∙ ap (λ ps. pattern_rebuilt (pattern_form (out-Pattern p)) (map part_tree ps)) turned in
    let f = pattern_fits (out-Pattern p) (map part_tree parts) fits in
    (ap (λ l. PatternShape (pattern_form l)) level ∙ ap PatternShape f.0, ap (pattern_parts ExprTree PatternTree) level ∙ f.1)

pub case_made : (made c : Case) (left parts : List Part) → reverse left ≡ parts → kinds (map part_tree parts) ≡ kinds (children (CaseTree c))
    → out-Case made ≡ case_rebuilt (case_form (out-Case c)) (in_order left) → Fits (CaseTree made) (CaseTree c) (map part_tree parts)
case_made made c left parts turned fits is =
    let level = is ∙ ap (λ ps. case_rebuilt (case_form (out-Case c)) (map part_tree ps)) turned in
    let f = case_fits (out-Case c) (map part_tree parts) fits in
    (ap (λ l. CaseShape (case_form l)) level ∙ ap CaseShape f.0, ap (case_parts ExprTree PatternTree) level ∙ f.1)
