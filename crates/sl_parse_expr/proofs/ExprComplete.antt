-- Expressions that are in the grammar are read.
use Rattle.std.proofs.Common.{◌≡◌, ℕ, zero, suc, true, false, List, [], ◌∷◌, ◌++◌, Some, refl, ◌∙◌}
use Rattle.sl_text.specs.declared.span.Span.{Span}
use Rattle.sl_ast.specs.declared.token.Token.{Token}
use Rattle.sl_ast.specs.declared.expr.Expr.{Expr}
use Rattle.sl_ast.specs.declared.pattern.Pattern.{Pattern}
use Rattle.sl_ast.specs.declared.infix.Infix.{Infix}
use Rattle.sl_ast.specs.declared.cases.Case.{Case}
use Rattle.sl_ast.specs.declared.cases.Cases.{Cases}
use Rattle.sl_parse_expr.specs.declared.ahead.Ahead.TheVariants as see
use Rattle.sl_parse_expr.specs.Ahead.{same}
use Rattle.sl_parse_expr.specs.Trees.{plain_expr, match_tree, assign_tree}
use Rattle.sl_parse_expr.specs.Reading.{ahead, pure, nothing, expect, fold, clean, Reader}
use Rattle.sl_parse_expr.specs.Rules.{added, at_line, one_more, lines, guarded, case_reader, more_cases, cases, condition, if_expr, while_expr, handler, finalizer, try_expr, throw_expr, at_behind, match_behind, assign_behind, behind_infix, plain, any}
use Rattle.sl_parse_expr.specs.PatternRules.{pattern}
use Rattle.sl_parse_expr.specs.Levels.{expr}
use Rattle.sl_parse_expr.specs.Phrases.{IsWord, IsLines}
use Rattle.sl_parse_expr.specs.Phrases as phrase
use Rattle.sl_parse_expr.specs.Grammar.{IsPattern, IsExpr, IsGuard, IsCase, IsMoreCases, IsCases, IsHandler, IsFinalizer, IsCondition, IsAnyExpr}
use Rattle.sl_parse_expr.specs.Grammar as grammar
use Rattle.sl_parse_expr.proofs.Theory.{Held, fold_goes, fold_stays}
use Rattle.sl_parse_expr.proofs.Choices.{both_false}
use Rattle.sl_parse_expr.proofs.Good.{newline}
use Rattle.sl_parse_expr.proofs.Loops.{Eats, eats_of}
use Rattle.sl_parse_expr.proofs.Fronts.{front}
use Rattle.sl_parse_expr.proofs.ExprFronts.{front_expr, front_infix, no_if, no_while, no_try, no_throw}
use Rattle.sl_parse_expr.proofs.Reaches.{Reaches, Lands, From, loose, at_once, next, next_clean, upon, upon_clean, map, map_clean, map_from, through, through_clean, marked, closing, missing, there, optional, left, right, stays, goes}
use Rattle.sl_parse_expr.proofs.BlockComplete.{reads_block}
use Rattle.sl_parse_expr.proofs.SimpleComplete.{reads_infix}
use Rattle.sl_parse_expr.proofs.ElseComplete.{reads_other}
use Rattle.sl_parse_expr.proofs.Inside.{CompleteExprs, expr_items}
use Rattle.sl_parse_expr.proofs.PatternComplete.{complete_patterns}

-- ---- line ends

line_eats : Eats (expect see.Newline)
line_eats = eats_of 0 (newline 0) refl

never : (s : Unit {0}) (d : Held) → clean at_line s see.End d ≡ false
never s d = both_false (nothing d)

reads_lines : {a r : List Token} → IsLines a r → Lands lines [] a tt r
unfolding lines
reads_lines (phrase.no_line {r = r} h) = record { reads = fold_stays (clean at_line) (expect see.Newline) one_more never tt [] r h }
reads_lines (phrase.a_line {s = s} {a = a} {b = b} w k) = record { reads = fold_goes (clean at_line) (expect see.Newline) one_more never tt [] a s [] b (front (same see.Newline) see.Newline true refl w) (marked see.Newline w).reads (line_eats.eats ([], a) s ([], b) (marked see.Newline w).reads) ∙ (reads_lines k).reads }

given_clean : {A : Type 0} (x : A) (m : List Token) → Lands (pure x) [] m x m
given_clean x m = record { reads = refl }

-- ---- the rules, over the expressions inside

module _ {exprs : Reader Expr} {patterns : Reader Pattern} {E : Expr → List Token → List Token → Type 0} {Q : Pattern → List Token → List Token → Type 0} (ok : CompleteExprs exprs patterns E Q) where
  -- ---- cases

  front_guard : (x : Infix) (a r : List Token) → IsGuard E Q x a r → same see.If (ahead a) ≡ true
  front_guard x a r (grammar.guard w h) = front (same see.If) see.If true refl w

  reads_guard : (x : Infix) (a r : List Token) → IsGuard E Q x a r → Reaches (guarded exprs patterns) [] a (Some x) r
  unfolding guarded
  reads_guard x a r (grammar.guard w h) = upon _ (marked see.If w) (map _ (reads_infix ok h))

  reads_case : {x : Case} {a r : List Token} → IsCase E Q x a r → Lands (case_reader exprs patterns) [] a x r
  unfolding case_reader
  reads_case (grammar.«case» w h g z b) = upon_clean _ (marked see.Case w) (next_clean _ (ok.inside.reads _ _ _ h) (through_clean _ (optional (same see.If) refl refl front_guard reads_guard g) (closing see.Arrow refl refl refl z (upon_clean _ (marked see.Arrow z) (map_clean _ (reads_block ok b))))))

  front_case : {x : Case} {a r : List Token} → IsCase E Q x a r → same see.Case (ahead a) ≡ true
  front_case (grammar.«case» w h g z b) = front (same see.Case) see.Case true refl w

  reads_more_cases : {ys : List Case} {m r : List Token} (xs : List Case) → IsMoreCases E Q ys m r → From (fold (clean (λ _ o. same see.Case o)) (case_reader exprs patterns) added xs) m (xs ++ ys) r
  reads_more_cases xs (grammar.no_case {r = r} h) = stays (same see.Case) (case_reader exprs patterns) refl refl refl ok.items.a_case xs r h
  reads_more_cases xs (grammar.a_case {x = x} {xs = ys} {a = a} {b = b} {r = r} h k) = goes (same see.Case) (case_reader exprs patterns) refl refl refl ok.items.a_case xs x ys a b r (front_case h) (loose (reads_case h)) (reads_more_cases (xs ++ x ∷ []) k)

  reads_cases : {c : Cases} {s : Span} {a r : List Token} → IsCases E Q c s a r → Lands (cases exprs patterns) [] a (c, s) r
  unfolding cases more_cases
  reads_cases (grammar.cases w h m z) = upon_clean _ (marked see.OpenBrace w) (upon_clean _ (reads_case h) (next_clean _ (at_once (reads_more_cases [] m)) (closing see.CloseBrace refl refl refl z (map_clean _ (marked see.CloseBrace z)))))

  -- ---- control

  reads_condition : {c : Expr} {a r : List Token} → IsCondition E Q c a r → Lands (condition exprs patterns) [] a c r
  unfolding condition
  reads_condition (grammar.condition {e = e} {r = r} w h z l) = upon_clean _ (marked see.OpenParen w) (next_clean _ (ok.reads _ _ _ h) (closing see.CloseParen refl refl refl z (upon_clean _ (marked see.CloseParen z) (upon_clean _ (reads_lines l) (given_clean e r)))))

  front_handler : (c : Cases × Span) (a r : List Token) → IsHandler E Q c a r → same see.Catch (ahead a) ≡ true
  front_handler c a r (grammar.handler w h) = front (same see.Catch) see.Catch true refl w

  reads_handler : (c : Cases × Span) (a r : List Token) → IsHandler E Q c a r → Reaches (handler exprs patterns) [] a (Some c) r
  unfolding handler
  reads_handler c a r (grammar.handler w h) = upon _ (marked see.Catch w) (map _ (loose (reads_cases h)))

  front_finalizer : (e : Expr) (a r : List Token) → IsFinalizer E Q e a r → same see.Finally (ahead a) ≡ true
  front_finalizer e a r (grammar.finalizer w h) = front (same see.Finally) see.Finally true refl w

  reads_finalizer : (e : Expr) (a r : List Token) → IsFinalizer E Q e a r → Reaches (finalizer exprs patterns) [] a (Some e) r
  unfolding finalizer
  reads_finalizer e a r (grammar.finalizer w h) = upon _ (marked see.Finally w) (map _ (ok.reads _ _ _ h))

  -- ---- what begins with an operand

  to_plain : {x : Expr} {i : Infix} {a b r : List Token} → grammar.IsInfix E Q i a b → Reaches (plain exprs patterns) [] a x r → Reaches (any exprs patterns) [] a x r
  unfolding any
  to_plain {a = a} h g = let k = front_infix E Q h in right _ (same see.If) (no_if (ahead a) k) (right _ (same see.While) (no_while (ahead a) k) (right _ (same see.Try) (no_try (ahead a) k) (right _ (same see.Throw) (no_throw (ahead a) k) g)))

  reads_plain : {i : Infix} {a r : List Token} → grammar.IsInfix E Q i a r → at_behind (ahead r) ≡ false → Reaches (plain exprs patterns) [] a (plain_expr i) r
  unfolding plain
  reads_plain {i = i} h k = next _ (reads_infix ok h) (missing at_behind refl refl (plain_expr i) k)

  reads_match : {i : Infix} {c : Cases} {s t : Span} {a b d r : List Token} → grammar.IsInfix E Q i a b → IsWord see.Match s b d → IsCases E Q c t d r → Reaches (plain exprs patterns) [] a (match_tree i c t) r
  unfolding plain behind_infix match_behind
  reads_match {i = i} h w c = next _ (reads_infix ok h) (there at_behind refl refl (plain_expr i) (front at_behind see.Match true refl w) (left _ (same see.Match) (front (same see.Match) see.Match true refl w) (upon _ (marked see.Match w) (map _ (loose (reads_cases c))))))

  reads_assign : {i : Infix} (e : Expr) {s : Span} {a b c r : List Token} → grammar.IsInfix E Q i a b → IsWord see.Equals s b c → E e c r → Reaches (plain exprs patterns) [] a (assign_tree i e) r
  unfolding plain behind_infix assign_behind
  reads_assign {i = i} e h w k = next _ (reads_infix ok h) (there at_behind refl refl (plain_expr i) (front at_behind see.Equals true refl w) (right _ (same see.Match) (front (same see.Match) see.Equals false refl w) (upon _ (marked see.Equals w) (map _ (ok.reads _ _ _ k)))))

  -- ---- expressions

  pub reads_any : {x : Expr} {a r : List Token} → IsAnyExpr E Q x a r → Reaches (any exprs patterns) [] a x r
  unfolding any if_expr while_expr try_expr throw_expr
  reads_any (grammar.«if» w c h y) = left _ (same see.If) (front (same see.If) see.If true refl w) (upon _ (marked see.If w) (upon _ (reads_condition c) (next _ (ok.reads _ _ _ h) (map_from _ (reads_other exprs patterns ok.reads y)))))
  reads_any (grammar.while w c h) = right _ (same see.If) (front (same see.If) see.While false refl w) (left _ (same see.While) (front (same see.While) see.While true refl w) (upon _ (marked see.While w) (upon _ (reads_condition c) (map _ (ok.reads _ _ _ h)))))
  reads_any (grammar.try w h c f) = right _ (same see.If) (front (same see.If) see.Try false refl w) (right _ (same see.While) (front (same see.While) see.Try false refl w) (left _ (same see.Try) (front (same see.Try) see.Try true refl w) (upon _ (marked see.Try w) (next _ (ok.reads _ _ _ h) (through _ (optional (same see.Catch) refl refl front_handler reads_handler c) (map_from _ (optional (same see.Finally) refl refl front_finalizer reads_finalizer f)))))))
  reads_any (grammar.throw w h) = right _ (same see.If) (front (same see.If) see.Throw false refl w) (right _ (same see.While) (front (same see.While) see.Throw false refl w) (right _ (same see.Try) (front (same see.Try) see.Throw false refl w) (left _ (same see.Throw) (front (same see.Throw) see.Throw true refl w) (upon _ (marked see.Throw w) (map _ (ok.reads _ _ _ h))))))
  reads_any (grammar.plain h k) = to_plain h (reads_plain h k)
  reads_any (grammar.match h w c) = to_plain h (reads_match h w c)
  reads_any (grammar.assign {e = e} h w k) = to_plain h (reads_assign e h w k)

pub reads_expr : (n : ℕ) (x : Expr) (a r : List Token) → IsExpr n x a r → Reaches (expr n) [] a x r
unfolding expr
reads_expr zero x a r h = absurd h
reads_expr (suc n) x a r h = reads_any (record { items = expr_items n; fronts = front_expr n; reads = reads_expr n; inside = complete_patterns n }) h

pub complete_exprs : (n : ℕ) → CompleteExprs (expr n) (pattern n) (IsExpr n) (IsPattern n)
complete_exprs n = record { items = expr_items n; fronts = front_expr n; reads = reads_expr n; inside = complete_patterns n }
