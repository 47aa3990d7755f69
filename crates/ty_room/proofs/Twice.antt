-- To map the parts of a level twice is to map them once.
use Rattle.std.proofs.Common.{◌≡◌, List, [], ◌∷◌, Option, Some, None, map, refl, ap}
use Rattle.ty_prog.specs.declared.catch.Catch.TheOpen.{Expr-F, Catch-F, Pattern-F, Case-F}
use Rattle.ty_prog.specs.declared.catch.Catch.TheFolds.{map-Expr, map-Case, map-Pattern, map-Catch}

list_twice : {A B C : Type 0} (f : A → B) (g : B → C) (xs : List A) → map g (map f xs) ≡ map (λ x. g (f x)) xs
list_twice f g [] = refl
list_twice f g (x ∷ xs) = ap (λ rest. g (f x) ∷ rest) (list_twice f g xs)

module _ (H E P C H' E' P' C' H'' E'' P'' C'' : Type 0) (fh : H → H') (fe : E → E') (fp : P → P') (fc : C → C') (gh : H' → H'') (ge : E' → E'') (gp : P' → P'') (gc : C' → C'') where
  abbrev TwiceExpr : Expr-F H E P C → Type 0
  TwiceExpr x = map-Expr H' E' P' C' H'' E'' P'' C'' gh ge gp gc (map-Expr H E P C H' E' P' C' fh fe fp fc x)
      ≡ map-Expr H E P C H'' E'' P'' C'' (λ h. gh (fh h)) (λ e. ge (fe e)) (λ p. gp (fp p)) (λ c. gc (fc c)) x

  pub expr_twice : (x : Expr-F H E P C) → TwiceExpr x
  expr_twice (Expr-F.Call of class method args) = ap (Expr-F.Call (ge (fe of)) class method) (list_twice fe ge args)
  expr_twice (Expr-F.New class args) = ap (Expr-F.New class) (list_twice fe ge args)
  expr_twice (Expr-F.Prim op args) = ap (Expr-F.Prim op) (list_twice fe ge args)
  expr_twice (Expr-F.SuperCall after name args) = ap (Expr-F.SuperCall after name) (list_twice fe ge args)
  expr_twice (Expr-F.StaticCall class method args) = ap (Expr-F.StaticCall class method) (list_twice fe ge args)
  expr_twice (Expr-F.Block es) = ap Expr-F.Block (list_twice fe ge es)
  expr_twice (Expr-F.Match of cases) = ap (Expr-F.Match (ge (fe of))) (list_twice fc gc cases)
  expr_twice (Expr-F.Println None) = refl
  expr_twice (Expr-F.Println (Some of)) = refl
  expr_twice (Expr-F.Try body None None) = refl
  expr_twice (Expr-F.Try body (Some handler) None) = refl
  expr_twice (Expr-F.Try body None (Some last)) = refl
  expr_twice (Expr-F.Try body (Some handler) (Some last)) = refl
  expr_twice _ = refl

  pub handler_twice : (x : Catch-F H E P C) → map-Catch H' E' P' C' H'' E'' P'' C'' gh ge gp gc (map-Catch H E P C H' E' P' C' fh fe fp fc x)
      ≡ map-Catch H E P C H'' E'' P'' C'' (λ h. gh (fh h)) (λ e. ge (fe e)) (λ p. gp (fp p)) (λ c. gc (fc c)) x
  handler_twice (Catch-F.Cases cases) = ap Catch-F.Cases (list_twice fc gc cases)
  handler_twice (Catch-F.«Catch::Any» local body) = refl

  pub pattern_twice : (x : Pattern-F H E P C) → map-Pattern H' E' P' C' H'' E'' P'' C'' gh ge gp gc (map-Pattern H E P C H' E' P' C' fh fe fp fc x)
      ≡ map-Pattern H E P C H'' E'' P'' C'' (λ h. gh (fh h)) (λ e. ge (fe e)) (λ p. gp (fp p)) (λ c. gc (fc c)) x
  pattern_twice (Pattern-F.Make class ps) = ap (Pattern-F.Make class) (list_twice fp gp ps)
  pattern_twice (Pattern-F.Either ps) = ap Pattern-F.Either (list_twice fp gp ps)
  pattern_twice _ = refl

  guarded_twice : (pattern : P) (guard : Option E) (body : E)
      → map-Case H' E' P' C' H'' E'' P'' C'' gh ge gp gc (map-Case H E P C H' E' P' C' fh fe fp fc (record { pattern = pattern; guard = guard; body = body }))
      ≡ map-Case H E P C H'' E'' P'' C'' (λ h. gh (fh h)) (λ e. ge (fe e)) (λ p. gp (fp p)) (λ c. gc (fc c)) (record { pattern = pattern; guard = guard; body = body })
  guarded_twice pattern None body = refl
  guarded_twice pattern (Some guard) body = refl

  pub case_twice : (x : Case-F H E P C) → map-Case H' E' P' C' H'' E'' P'' C'' gh ge gp gc (map-Case H E P C H' E' P' C' fh fe fp fc x)
      ≡ map-Case H E P C H'' E'' P'' C'' (λ h. gh (fh h)) (λ e. ge (fe e)) (λ p. gp (fp p)) (λ c. gc (fc c)) x
  case_twice x = guarded_twice x.pattern x.guard x.body
