-- What a tree does with one local on the ways through it (definite assignment, as in JLS 16; JVMS 4.10): whether some way
-- reads it before it sets it, and whether each way on which the tree gives `true`, and each on which it gives `false`, has
-- set it. A tree that isn't a condition has both where each way that ends normally has set it. A pattern may fail at any
-- place, and an exception may come at any place inside a `Try`.
use Rattle.std.specs.Prelude.{ℕ, Bool, true, false, ◌==◌, ◌||◌, ◌&&◌, not, List, [], ◌∷◌, Option, Some, None, fold, map, if◌then◌else◌}
use Rattle.std.specs.Option.{unwrap_or}
use Rattle.ty_prog.specs.declared.expr.Expr.{Expr}
use Rattle.ty_prog.specs.declared.prim_op.PrimOp.{PrimOp}
use Rattle.ty_prog.specs.declared.prim_op.PrimOp.TheVariants as op
use Rattle.ty_prog.specs.declared.catch.Catch.TheOpen.{Expr-F, Catch-F, Pattern-F, Case-F}
use Rattle.ty_prog.specs.declared.catch.Catch.TheFolds.{fold-Expr, fold-Case, fold-Pattern}
use Rattle.ty_prog.specs.Tree.{Tree, ExprTree, CaseTree, PatternTree, ConstructorTree, StageTree, expr_parts}
use Rattle.ty_flow.specs.declared.passage.Passage.{Passage}
use Rattle.ty_flow.specs.declared.passage.CasePassage.{CasePassage}

-- the local isn't touched
abbrev pub untouched : Passage
untouched = record { reads = false; on_true = false; on_false = false }

-- no way ends normally
abbrev pub leaves : Passage
leaves = record { reads = false; on_true = true; on_false = true }

-- a literal: no way gives the other value
abbrev pub literal : Bool → Passage
literal b = record { reads = false; on_true = not b; on_false = b }

-- each way that ends normally has set it
abbrev pub sets : Passage → Bool
sets p = p.on_true && p.on_false

-- parts whose values aren't that of the whole
unfoldable pub either_way : Passage → Passage
either_way p = record { reads = p.reads; on_true = sets p; on_false = sets p }

-- `!`
unfoldable pub negated : Passage → Passage
negated p = record { reads = p.reads; on_true = p.on_false; on_false = p.on_true }

-- one after the other, which gives the value
unfoldable pub followed : Passage → Passage → Passage
followed one next = record {
  reads = one.reads || (not (sets one) && next.reads);
  on_true = sets one || next.on_true;
  on_false = sets one || next.on_false;
}

-- a condition, and what follows where it is true, and where it is false
unfoldable pub chosen : Passage → Passage → Passage → Passage
chosen condition one other = record {
  reads = condition.reads || (not condition.on_true && one.reads) || (not condition.on_false && other.reads);
  on_true = (condition.on_true || one.on_true) && (condition.on_false || other.on_true);
  on_false = (condition.on_true || one.on_false) && (condition.on_false || other.on_false);
}

-- a condition, and another where it is true: `&&`
abbrev pub both : Passage → Passage → Passage
both one other = chosen one other (literal false)

-- a condition, and another where it is false: `||`
abbrev pub one_of : Passage → Passage → Passage
one_of one other = chosen one (literal true) other

-- parts one after the other; the last gives the value
abbrev pub sequence : List Passage → Passage
sequence = fold followed untouched

-- operands
abbrev pub in_order : List Passage → Passage
in_order parts = either_way (sequence parts)

-- the condition, and while it is true the body and the condition again
unfoldable pub looped : Passage → Passage → Passage
looped condition body = record {
  reads = condition.reads || (not condition.on_true && body.reads);
  on_true = condition.on_false;
  on_false = condition.on_false;
}

-- the body, or a part of it and then the handler; and on each way, also on those that leave, the `finally`
unfoldable pub tried : Passage → Passage → Passage → Passage
tried body handler last = record {
  reads = body.reads || handler.reads || last.reads;
  on_true = (sets body && sets handler) || sets last;
  on_false = (sets body && sets handler) || sets last;
}

-- a case that is never taken
abbrev pub no_case : CasePassage
no_case = record { taken = leaves; failed = false }

-- a case: what decides whether it is taken, and its body
unfoldable pub tested : Passage → Passage → CasePassage
tested test body = record { taken = chosen test body leaves; failed = test.on_false }

-- a case, and another where it isn't taken
unfoldable pub or_else : CasePassage → CasePassage → CasePassage
or_else one other = record {
  taken = record {
    reads = one.taken.reads || (not one.failed && other.taken.reads);
    on_true = one.taken.on_true && (one.failed || other.taken.on_true);
    on_false = one.taken.on_false && (one.failed || other.taken.on_false);
  };
  failed = one.failed || other.failed;
}

-- the first of several cases that is taken; where none is, no way ends normally
abbrev pub first_of : List CasePassage → Passage
first_of cases = (fold or_else no_case cases).taken

-- a pattern, and its guard if it has one
abbrev pub guarded : Passage → Option Passage → Passage
guarded pattern None = pattern
guarded pattern (Some guard) = both pattern guard

-- an operator, by what its operands do one after the other
abbrev pub operated : PrimOp → Passage → Passage
operated op.Not parts = negated parts
operated other parts = either_way parts

module _ (local : ℕ) where
  -- a local with this number is stored into
  abbrev pub stored : ℕ → Passage
  stored other = if other == local then leaves else untouched

  -- a local with this number is read
  abbrev pub read : ℕ → Passage
  read other = record { reads = other == local; on_true = false; on_false = false }

  -- what matches is stored into a local with this number
  unfoldable pub bound : ℕ → Passage → Passage
  bound other pattern = record { reads = pattern.reads; on_true = pattern.on_true || other == local; on_false = pattern.on_false }

  -- what a handler does, by what its parts do
  abbrev pub handler_step : Catch-F Passage Passage Passage CasePassage → Passage
  handler_step (Catch-F.Cases cases) = first_of cases
  handler_step (Catch-F.«Catch::Any» other body) = followed (stored other) body

  -- what an expression does, by what its parts do
  abbrev pub expr_step : Expr-F Passage Passage Passage CasePassage → Passage
  expr_step (Expr-F.Bool b) = literal b
  expr_step (Expr-F.Local other) = read other
  expr_step (Expr-F.SetLocal other e) = followed e (stored other)
  expr_step (Expr-F.If condition one other) = chosen condition one other
  expr_step (Expr-F.While condition body) = looped condition body
  expr_step (Expr-F.Block parts) = sequence parts
  expr_step (Expr-F.Prim op parts) = operated op (sequence parts)
  expr_step (Expr-F.Call of class method args) = in_order (of ∷ args)
  expr_step (Expr-F.New class args) = in_order args
  expr_step (Expr-F.SuperCall after name args) = in_order args
  expr_step (Expr-F.StaticCall class method args) = in_order args
  expr_step (Expr-F.Try body handler last) = tried body (unwrap_or handler leaves) (unwrap_or last untouched)
  expr_step (Expr-F.Throw e) = followed e leaves
  expr_step (Expr-F.Match of cases) = followed of (first_of cases)
  expr_step other = in_order (expr_parts (λ u. u ∷ []) (λ u. u) (λ u. u.taken) other)

  -- what a pattern does, by what its parts do: where it matches, and where it fails
  abbrev pub pattern_step : Pattern-F Passage Passage Passage CasePassage → Passage
  pattern_step Pattern-F.«Pattern::Any» = literal true
  pattern_step (Pattern-F.Bind other pattern) = bound other pattern
  pattern_step (Pattern-F.OfType type) = untouched
  pattern_step (Pattern-F.Literal e) = either_way e
  pattern_step (Pattern-F.Object class) = untouched
  pattern_step (Pattern-F.Make class parts) = fold both untouched parts
  pattern_step (Pattern-F.Either parts) = fold one_of (literal false) parts

  -- what a case does, by what its parts do
  abbrev pub case_step : Case-F Passage Passage Passage CasePassage → CasePassage
  case_step c = tested (guarded c.pattern c.guard) c.body

  -- what an expression does with the local
  abbrev pub expr_passage : Expr → Passage
  expr_passage = fold-Expr Passage Passage Passage CasePassage handler_step expr_step pattern_step case_step

  -- what a tree does with the local; a case as the way on which it is taken. The stages of a constructor that are no
  -- expressions touch no local but its parameters, which have values from the start
  abbrev pub passage : Tree → Passage
  passage (ExprTree e) = expr_passage e
  passage (CaseTree c) = (fold-Case Passage Passage Passage CasePassage handler_step expr_step pattern_step case_step c).taken
  passage (PatternTree p) = fold-Pattern Passage Passage Passage CasePassage handler_step expr_step pattern_step case_step p
  passage (ConstructorTree class) = in_order (sequence (map expr_passage class.super_args) ∷ sequence (map expr_passage class.body) ∷ [])
  passage (StageTree stage) = untouched
