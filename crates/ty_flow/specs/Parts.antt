-- What the parts of a tree do with one local.
use Rattle.std.specs.Prelude.{ℕ}
use Rattle.ty_prog.specs.declared.catch.Catch.{Catch}
use Rattle.ty_prog.specs.declared.case.Case.{Case}
use Rattle.ty_prog.specs.declared.pattern.Pattern.{Pattern}
use Rattle.ty_prog.specs.declared.catch.Catch.TheFolds.{fold-Catch, fold-Case, fold-Pattern}
use Rattle.ty_flow.specs.declared.passage.Passage.{Passage}
use Rattle.ty_flow.specs.declared.passage.CasePassage.{CasePassage}
use Rattle.ty_flow.specs.Uses.{handler_step, expr_step, pattern_step, case_step}

module _ (local : ℕ) where
  -- what a handler does with the local
  abbrev pub handler_passage : Catch → Passage
  handler_passage = fold-Catch Passage Passage Passage CasePassage (handler_step local) (expr_step local) (pattern_step local) (case_step local)

  -- what a pattern does
  abbrev pub pattern_passage : Pattern → Passage
  pattern_passage = fold-Pattern Passage Passage Passage CasePassage (handler_step local) (expr_step local) (pattern_step local) (case_step local)

  -- what a case does
  abbrev pub case_passage : Case → CasePassage
  case_passage = fold-Case Passage Passage Passage CasePassage (handler_step local) (expr_step local) (pattern_step local) (case_step local)
