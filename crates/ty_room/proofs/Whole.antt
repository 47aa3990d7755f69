-- Whole trees, by induction.
use Rattle.std.proofs.Common.{◌≡◌, ◌∙◌, ℕ, sym, subst, arith}
use Rattle.ty_prog.specs.declared.expr.Expr.{Expr, roll-Expr}
use Rattle.ty_prog.specs.declared.case.Case.{Case, roll-Case}
use Rattle.ty_prog.specs.declared.pattern.Pattern.{Pattern, roll-Pattern}
use Rattle.ty_prog.specs.declared.catch.Catch.{Catch, roll-Catch}
use Rattle.ty_prog.specs.declared.catch.Catch.TheOpen.{Expr-F, Catch-F, Pattern-F, Case-F}
use Rattle.ty_prog.specs.declared.catch.Catch.TheFolds.{map-Expr, map-Case, map-Pattern, map-Catch, ind-Expr, ind-Case, fold-roll-Expr, fold-roll-Case, fold-roll-Pattern, fold-roll-Catch}
use Rattle.ty_room.specs.declared.size.Size.{Size}
use Rattle.ty_room.specs.Ahead.{ahead_of}
use Rattle.ty_room.specs.Sizing.{handler_step, expr_step, pattern_step, case_step, expr_size, case_sizes, pattern_size, handler_size}
use Rattle.ty_room.specs.NoMore.{NoMore, MakesNoMore, Part, low_of, high_of, low_expr, high_expr, low_handler, high_handler, low_pattern, high_pattern, low_case, high_case}
use Rattle.ty_room.proofs.Monotone.{through}
use Rattle.ty_room.proofs.Copied.{expr_no_more, handler_no_more, pattern_no_more, case_no_more}
use Rattle.ty_room.proofs.Laterness.{later_of}
use Rattle.ty_room.proofs.Twice.{expr_twice, handler_twice, pattern_twice, case_twice}

module _ (k : ℕ) (handler : Catch → Size) (expr : Expr → Size) (pattern : Pattern → Size) (case : Case → Size) (makes : MakesNoMore k handler expr pattern case) where
  abbrev HandlerFits : Catch → Type 0
  HandlerFits h = NoMore (handler h) (handler_size (ahead_of k) h)

  abbrev ExprFits : Expr → Type 0
  ExprFits e = NoMore (expr e) (expr_size (ahead_of k) e)

  abbrev PatternFits : Pattern → Type 0
  PatternFits p = NoMore (pattern p) (pattern_size (ahead_of k) p)

  abbrev CaseFits : Case → Type 0
  CaseFits c = NoMore (case c) (case_sizes (ahead_of k) c)

  abbrev SomeHandler : Type 0
  SomeHandler = (h : Catch) × HandlerFits h

  abbrev SomeExpr : Type 0
  SomeExpr = (e : Expr) × ExprFits e

  abbrev SomePattern : Type 0
  SomePattern = (p : Pattern) × PatternFits p

  abbrev SomeCase : Type 0
  SomeCase = (c : Case) × CaseFits c

  -- a part with both sizes
  abbrev handler_part : SomeHandler → Part
  handler_part h = record { low = handler h.0; high = handler_size (ahead_of k) h.0; no_more = h.1 }

  abbrev expr_part : SomeExpr → Part
  expr_part e = record { low = expr e.0; high = expr_size (ahead_of k) e.0; no_more = e.1 }

  abbrev pattern_part : SomePattern → Part
  pattern_part p = record { low = pattern p.0; high = pattern_size (ahead_of k) p.0; no_more = p.1 }

  abbrev case_part : SomeCase → Part
  case_part c = record { low = case c.0; high = case_sizes (ahead_of k) c.0; no_more = c.1 }

  -- a level over parts that fit
  expr_level : (y : Expr-F SomeHandler SomeExpr SomePattern SomeCase)
      → NoMore (expr_step (ahead_of k) (map-Expr Catch Expr Pattern Case Size Size Size Size handler expr pattern case (map-Expr SomeHandler SomeExpr SomePattern SomeCase Catch Expr Pattern Case (λ h. h.0) (λ e. e.0) (λ p. p.0) (λ c. c.0) y)))
      (expr_step (ahead_of k) (map-Expr Catch Expr Pattern Case Size Size Size Size (handler_size (ahead_of k)) (expr_size (ahead_of k)) (pattern_size (ahead_of k)) (case_sizes (ahead_of k)) (map-Expr SomeHandler SomeExpr SomePattern SomeCase Catch Expr Pattern Case (λ h. h.0) (λ e. e.0) (λ p. p.0) (λ c. c.0) y)))
  expr_level y =
      let parts : Expr-F Part Part Part Part = map-Expr SomeHandler SomeExpr SomePattern SomeCase Part Part Part Part handler_part expr_part pattern_part case_part y in
      let low : low_expr parts ≡ map-Expr Catch Expr Pattern Case Size Size Size Size handler expr pattern case (map-Expr SomeHandler SomeExpr SomePattern SomeCase Catch Expr Pattern Case (λ h. h.0) (λ e. e.0) (λ p. p.0) (λ c. c.0) y) =
      expr_twice SomeHandler SomeExpr SomePattern SomeCase Part Part Part Part Size Size Size Size handler_part expr_part pattern_part case_part low_of low_of low_of low_of y
      ∙ sym (expr_twice SomeHandler SomeExpr SomePattern SomeCase Catch Expr Pattern Case Size Size Size Size (λ h. h.0) (λ e. e.0) (λ p. p.0) (λ c. c.0) handler expr pattern case y) in
      let high : high_expr parts ≡ map-Expr Catch Expr Pattern Case Size Size Size Size (handler_size (ahead_of k)) (expr_size (ahead_of k)) (pattern_size (ahead_of k)) (case_sizes (ahead_of k)) (map-Expr SomeHandler SomeExpr SomePattern SomeCase Catch Expr Pattern Case (λ h. h.0) (λ e. e.0) (λ p. p.0) (λ c. c.0) y) =
      expr_twice SomeHandler SomeExpr SomePattern SomeCase Part Part Part Part Size Size Size Size handler_part expr_part pattern_part case_part high_of high_of high_of high_of y
      ∙ sym (expr_twice SomeHandler SomeExpr SomePattern SomeCase Catch Expr Pattern Case Size Size Size Size (λ h. h.0) (λ e. e.0) (λ p. p.0) (λ c. c.0) (handler_size (ahead_of k)) (expr_size (ahead_of k)) (pattern_size (ahead_of k)) (case_sizes (ahead_of k)) y) in
      subst (λ l. NoMore (expr_step (ahead_of k) l) (expr_step (ahead_of k) (map-Expr Catch Expr Pattern Case Size Size Size Size (handler_size (ahead_of k)) (expr_size (ahead_of k)) (pattern_size (ahead_of k)) (case_sizes (ahead_of k)) (map-Expr SomeHandler SomeExpr SomePattern SomeCase Catch Expr Pattern Case (λ h. h.0) (λ e. e.0) (λ p. p.0) (λ c. c.0) y)))) low
      (subst (λ l. NoMore (expr_step (ahead_of k) (low_expr parts)) (expr_step (ahead_of k) l)) high (expr_no_more (ahead_of k) (ahead_of k) (later_of k k (omega arith)) parts))

  expr_rolled : (x : Expr-F Catch Expr Pattern Case) (y : Expr-F SomeHandler SomeExpr SomePattern SomeCase) → map-Expr SomeHandler SomeExpr SomePattern SomeCase Catch Expr Pattern Case (λ h. h.0) (λ e. e.0) (λ p. p.0) (λ c. c.0) y ≡ x → NoMore (expr (roll-Expr x)) (expr_size (ahead_of k) (roll-Expr x))
  expr_rolled x y is =
      let inner : NoMore (expr_step (ahead_of k) (map-Expr Catch Expr Pattern Case Size Size Size Size handler expr pattern case x)) (expr_step (ahead_of k) (map-Expr Catch Expr Pattern Case Size Size Size Size (handler_size (ahead_of k)) (expr_size (ahead_of k)) (pattern_size (ahead_of k)) (case_sizes (ahead_of k)) x)) =
      subst (λ z. NoMore (expr_step (ahead_of k) (map-Expr Catch Expr Pattern Case Size Size Size Size handler expr pattern case z)) (expr_step (ahead_of k) (map-Expr Catch Expr Pattern Case Size Size Size Size (handler_size (ahead_of k)) (expr_size (ahead_of k)) (pattern_size (ahead_of k)) (case_sizes (ahead_of k)) z))) is (expr_level y) in
      subst (λ s. NoMore (expr (roll-Expr x)) s) (sym (fold-roll-Expr Size Size Size Size handler_step (expr_step (ahead_of k)) pattern_step case_step x)) (through (makes.of_expr x) inner)

  -- a level over parts that fit
  handler_level : (y : Catch-F SomeHandler SomeExpr SomePattern SomeCase)
      → NoMore (handler_step (map-Catch Catch Expr Pattern Case Size Size Size Size handler expr pattern case (map-Catch SomeHandler SomeExpr SomePattern SomeCase Catch Expr Pattern Case (λ h. h.0) (λ e. e.0) (λ p. p.0) (λ c. c.0) y)))
      (handler_step (map-Catch Catch Expr Pattern Case Size Size Size Size (handler_size (ahead_of k)) (expr_size (ahead_of k)) (pattern_size (ahead_of k)) (case_sizes (ahead_of k)) (map-Catch SomeHandler SomeExpr SomePattern SomeCase Catch Expr Pattern Case (λ h. h.0) (λ e. e.0) (λ p. p.0) (λ c. c.0) y)))
  handler_level y =
      let parts : Catch-F Part Part Part Part = map-Catch SomeHandler SomeExpr SomePattern SomeCase Part Part Part Part handler_part expr_part pattern_part case_part y in
      let low : low_handler parts ≡ map-Catch Catch Expr Pattern Case Size Size Size Size handler expr pattern case (map-Catch SomeHandler SomeExpr SomePattern SomeCase Catch Expr Pattern Case (λ h. h.0) (λ e. e.0) (λ p. p.0) (λ c. c.0) y) =
      handler_twice SomeHandler SomeExpr SomePattern SomeCase Part Part Part Part Size Size Size Size handler_part expr_part pattern_part case_part low_of low_of low_of low_of y
      ∙ sym (handler_twice SomeHandler SomeExpr SomePattern SomeCase Catch Expr Pattern Case Size Size Size Size (λ h. h.0) (λ e. e.0) (λ p. p.0) (λ c. c.0) handler expr pattern case y) in
      let high : high_handler parts ≡ map-Catch Catch Expr Pattern Case Size Size Size Size (handler_size (ahead_of k)) (expr_size (ahead_of k)) (pattern_size (ahead_of k)) (case_sizes (ahead_of k)) (map-Catch SomeHandler SomeExpr SomePattern SomeCase Catch Expr Pattern Case (λ h. h.0) (λ e. e.0) (λ p. p.0) (λ c. c.0) y) =
      handler_twice SomeHandler SomeExpr SomePattern SomeCase Part Part Part Part Size Size Size Size handler_part expr_part pattern_part case_part high_of high_of high_of high_of y
      ∙ sym (handler_twice SomeHandler SomeExpr SomePattern SomeCase Catch Expr Pattern Case Size Size Size Size (λ h. h.0) (λ e. e.0) (λ p. p.0) (λ c. c.0) (handler_size (ahead_of k)) (expr_size (ahead_of k)) (pattern_size (ahead_of k)) (case_sizes (ahead_of k)) y) in
      subst (λ l. NoMore (handler_step l) (handler_step (map-Catch Catch Expr Pattern Case Size Size Size Size (handler_size (ahead_of k)) (expr_size (ahead_of k)) (pattern_size (ahead_of k)) (case_sizes (ahead_of k)) (map-Catch SomeHandler SomeExpr SomePattern SomeCase Catch Expr Pattern Case (λ h. h.0) (λ e. e.0) (λ p. p.0) (λ c. c.0) y)))) low
      (subst (λ l. NoMore (handler_step (low_handler parts)) (handler_step l)) high (handler_no_more parts))

  handler_rolled : (x : Catch-F Catch Expr Pattern Case) (y : Catch-F SomeHandler SomeExpr SomePattern SomeCase) → map-Catch SomeHandler SomeExpr SomePattern SomeCase Catch Expr Pattern Case (λ h. h.0) (λ e. e.0) (λ p. p.0) (λ c. c.0) y ≡ x → NoMore (handler (roll-Catch x)) (handler_size (ahead_of k) (roll-Catch x))
  handler_rolled x y is =
      let inner : NoMore (handler_step (map-Catch Catch Expr Pattern Case Size Size Size Size handler expr pattern case x)) (handler_step (map-Catch Catch Expr Pattern Case Size Size Size Size (handler_size (ahead_of k)) (expr_size (ahead_of k)) (pattern_size (ahead_of k)) (case_sizes (ahead_of k)) x)) =
      subst (λ z. NoMore (handler_step (map-Catch Catch Expr Pattern Case Size Size Size Size handler expr pattern case z)) (handler_step (map-Catch Catch Expr Pattern Case Size Size Size Size (handler_size (ahead_of k)) (expr_size (ahead_of k)) (pattern_size (ahead_of k)) (case_sizes (ahead_of k)) z))) is (handler_level y) in
      subst (λ s. NoMore (handler (roll-Catch x)) s) (sym (fold-roll-Catch Size Size Size Size handler_step (expr_step (ahead_of k)) pattern_step case_step x)) (through (makes.of_handler x) inner)

  -- a level over parts that fit
  pattern_level : (y : Pattern-F SomeHandler SomeExpr SomePattern SomeCase)
      → NoMore (pattern_step (map-Pattern Catch Expr Pattern Case Size Size Size Size handler expr pattern case (map-Pattern SomeHandler SomeExpr SomePattern SomeCase Catch Expr Pattern Case (λ h. h.0) (λ e. e.0) (λ p. p.0) (λ c. c.0) y)))
      (pattern_step (map-Pattern Catch Expr Pattern Case Size Size Size Size (handler_size (ahead_of k)) (expr_size (ahead_of k)) (pattern_size (ahead_of k)) (case_sizes (ahead_of k)) (map-Pattern SomeHandler SomeExpr SomePattern SomeCase Catch Expr Pattern Case (λ h. h.0) (λ e. e.0) (λ p. p.0) (λ c. c.0) y)))
  pattern_level y =
      let parts : Pattern-F Part Part Part Part = map-Pattern SomeHandler SomeExpr SomePattern SomeCase Part Part Part Part handler_part expr_part pattern_part case_part y in
      let low : low_pattern parts ≡ map-Pattern Catch Expr Pattern Case Size Size Size Size handler expr pattern case (map-Pattern SomeHandler SomeExpr SomePattern SomeCase Catch Expr Pattern Case (λ h. h.0) (λ e. e.0) (λ p. p.0) (λ c. c.0) y) =
      pattern_twice SomeHandler SomeExpr SomePattern SomeCase Part Part Part Part Size Size Size Size handler_part expr_part pattern_part case_part low_of low_of low_of low_of y
      ∙ sym (pattern_twice SomeHandler SomeExpr SomePattern SomeCase Catch Expr Pattern Case Size Size Size Size (λ h. h.0) (λ e. e.0) (λ p. p.0) (λ c. c.0) handler expr pattern case y) in
      let high : high_pattern parts ≡ map-Pattern Catch Expr Pattern Case Size Size Size Size (handler_size (ahead_of k)) (expr_size (ahead_of k)) (pattern_size (ahead_of k)) (case_sizes (ahead_of k)) (map-Pattern SomeHandler SomeExpr SomePattern SomeCase Catch Expr Pattern Case (λ h. h.0) (λ e. e.0) (λ p. p.0) (λ c. c.0) y) =
      pattern_twice SomeHandler SomeExpr SomePattern SomeCase Part Part Part Part Size Size Size Size handler_part expr_part pattern_part case_part high_of high_of high_of high_of y
      ∙ sym (pattern_twice SomeHandler SomeExpr SomePattern SomeCase Catch Expr Pattern Case Size Size Size Size (λ h. h.0) (λ e. e.0) (λ p. p.0) (λ c. c.0) (handler_size (ahead_of k)) (expr_size (ahead_of k)) (pattern_size (ahead_of k)) (case_sizes (ahead_of k)) y) in
      subst (λ l. NoMore (pattern_step l) (pattern_step (map-Pattern Catch Expr Pattern Case Size Size Size Size (handler_size (ahead_of k)) (expr_size (ahead_of k)) (pattern_size (ahead_of k)) (case_sizes (ahead_of k)) (map-Pattern SomeHandler SomeExpr SomePattern SomeCase Catch Expr Pattern Case (λ h. h.0) (λ e. e.0) (λ p. p.0) (λ c. c.0) y)))) low
      (subst (λ l. NoMore (pattern_step (low_pattern parts)) (pattern_step l)) high (pattern_no_more parts))

  pattern_rolled : (x : Pattern-F Catch Expr Pattern Case) (y : Pattern-F SomeHandler SomeExpr SomePattern SomeCase) → map-Pattern SomeHandler SomeExpr SomePattern SomeCase Catch Expr Pattern Case (λ h. h.0) (λ e. e.0) (λ p. p.0) (λ c. c.0) y ≡ x → NoMore (pattern (roll-Pattern x)) (pattern_size (ahead_of k) (roll-Pattern x))
  pattern_rolled x y is =
      let inner : NoMore (pattern_step (map-Pattern Catch Expr Pattern Case Size Size Size Size handler expr pattern case x)) (pattern_step (map-Pattern Catch Expr Pattern Case Size Size Size Size (handler_size (ahead_of k)) (expr_size (ahead_of k)) (pattern_size (ahead_of k)) (case_sizes (ahead_of k)) x)) =
      subst (λ z. NoMore (pattern_step (map-Pattern Catch Expr Pattern Case Size Size Size Size handler expr pattern case z)) (pattern_step (map-Pattern Catch Expr Pattern Case Size Size Size Size (handler_size (ahead_of k)) (expr_size (ahead_of k)) (pattern_size (ahead_of k)) (case_sizes (ahead_of k)) z))) is (pattern_level y) in
      subst (λ s. NoMore (pattern (roll-Pattern x)) s) (sym (fold-roll-Pattern Size Size Size Size handler_step (expr_step (ahead_of k)) pattern_step case_step x)) (through (makes.of_pattern x) inner)

  -- a level over parts that fit
  case_level : (y : Case-F SomeHandler SomeExpr SomePattern SomeCase)
      → NoMore (case_step (map-Case Catch Expr Pattern Case Size Size Size Size handler expr pattern case (map-Case SomeHandler SomeExpr SomePattern SomeCase Catch Expr Pattern Case (λ h. h.0) (λ e. e.0) (λ p. p.0) (λ c. c.0) y)))
      (case_step (map-Case Catch Expr Pattern Case Size Size Size Size (handler_size (ahead_of k)) (expr_size (ahead_of k)) (pattern_size (ahead_of k)) (case_sizes (ahead_of k)) (map-Case SomeHandler SomeExpr SomePattern SomeCase Catch Expr Pattern Case (λ h. h.0) (λ e. e.0) (λ p. p.0) (λ c. c.0) y)))
  case_level y =
      let parts : Case-F Part Part Part Part = map-Case SomeHandler SomeExpr SomePattern SomeCase Part Part Part Part handler_part expr_part pattern_part case_part y in
      let low : low_case parts ≡ map-Case Catch Expr Pattern Case Size Size Size Size handler expr pattern case (map-Case SomeHandler SomeExpr SomePattern SomeCase Catch Expr Pattern Case (λ h. h.0) (λ e. e.0) (λ p. p.0) (λ c. c.0) y) =
      case_twice SomeHandler SomeExpr SomePattern SomeCase Part Part Part Part Size Size Size Size handler_part expr_part pattern_part case_part low_of low_of low_of low_of y
      ∙ sym (case_twice SomeHandler SomeExpr SomePattern SomeCase Catch Expr Pattern Case Size Size Size Size (λ h. h.0) (λ e. e.0) (λ p. p.0) (λ c. c.0) handler expr pattern case y) in
      let high : high_case parts ≡ map-Case Catch Expr Pattern Case Size Size Size Size (handler_size (ahead_of k)) (expr_size (ahead_of k)) (pattern_size (ahead_of k)) (case_sizes (ahead_of k)) (map-Case SomeHandler SomeExpr SomePattern SomeCase Catch Expr Pattern Case (λ h. h.0) (λ e. e.0) (λ p. p.0) (λ c. c.0) y) =
      case_twice SomeHandler SomeExpr SomePattern SomeCase Part Part Part Part Size Size Size Size handler_part expr_part pattern_part case_part high_of high_of high_of high_of y
      ∙ sym (case_twice SomeHandler SomeExpr SomePattern SomeCase Catch Expr Pattern Case Size Size Size Size (λ h. h.0) (λ e. e.0) (λ p. p.0) (λ c. c.0) (handler_size (ahead_of k)) (expr_size (ahead_of k)) (pattern_size (ahead_of k)) (case_sizes (ahead_of k)) y) in
      subst (λ l. NoMore (case_step l) (case_step (map-Case Catch Expr Pattern Case Size Size Size Size (handler_size (ahead_of k)) (expr_size (ahead_of k)) (pattern_size (ahead_of k)) (case_sizes (ahead_of k)) (map-Case SomeHandler SomeExpr SomePattern SomeCase Catch Expr Pattern Case (λ h. h.0) (λ e. e.0) (λ p. p.0) (λ c. c.0) y)))) low
      (subst (λ l. NoMore (case_step (low_case parts)) (case_step l)) high (case_no_more parts))

  case_rolled : (x : Case-F Catch Expr Pattern Case) (y : Case-F SomeHandler SomeExpr SomePattern SomeCase) → map-Case SomeHandler SomeExpr SomePattern SomeCase Catch Expr Pattern Case (λ h. h.0) (λ e. e.0) (λ p. p.0) (λ c. c.0) y ≡ x → NoMore (case (roll-Case x)) (case_sizes (ahead_of k) (roll-Case x))
  case_rolled x y is =
      let inner : NoMore (case_step (map-Case Catch Expr Pattern Case Size Size Size Size handler expr pattern case x)) (case_step (map-Case Catch Expr Pattern Case Size Size Size Size (handler_size (ahead_of k)) (expr_size (ahead_of k)) (pattern_size (ahead_of k)) (case_sizes (ahead_of k)) x)) =
      subst (λ z. NoMore (case_step (map-Case Catch Expr Pattern Case Size Size Size Size handler expr pattern case z)) (case_step (map-Case Catch Expr Pattern Case Size Size Size Size (handler_size (ahead_of k)) (expr_size (ahead_of k)) (pattern_size (ahead_of k)) (case_sizes (ahead_of k)) z))) is (case_level y) in
      subst (λ s. NoMore (case (roll-Case x)) s) (sym (fold-roll-Case Size Size Size Size handler_step (expr_step (ahead_of k)) pattern_step case_step x)) (through (makes.of_case x) inner)

  pub exprs_fit : (e : Expr) → ExprFits e
  exprs_fit = ind-Expr HandlerFits ExprFits PatternFits CaseFits handler_rolled expr_rolled pattern_rolled case_rolled

  pub cases_fit : (c : Case) → CaseFits c
  cases_fit = ind-Case HandlerFits ExprFits PatternFits CaseFits handler_rolled expr_rolled pattern_rolled case_rolled
