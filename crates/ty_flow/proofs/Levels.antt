-- What an expression of each form does with a local, by what its parts do.
use Rattle.std.proofs.Common.{◌≡◌, ◌∙◌, ap, sym, ℕ, Bool, true, false, [], ◌∷◌, Option, Some, None, option_map, refl, if◌then◌else◌, eq-eqb}
use Rattle.std.specs.Prelude.{◌||◌, ◌&&◌, not}
use Rattle.std.specs.Option.{unwrap_or}
use Rattle.ty_prog.specs.declared.expr.Expr.{Expr, roll-Expr}
use Rattle.ty_prog.specs.declared.prim_op.PrimOp.TheVariants as op
use Rattle.ty_prog.specs.declared.catch.Catch.{Catch}
use Rattle.ty_prog.specs.declared.case.Case.{Case}
use Rattle.ty_prog.specs.declared.pattern.Pattern.{Pattern}
use Rattle.ty_prog.specs.declared.expr.Expr.TheVariants as expr
use Rattle.ty_prog.specs.declared.catch.Catch.TheOpen.{Expr-F}
use Rattle.ty_prog.specs.declared.catch.Catch.TheFolds.{map-Expr, fold-roll-Expr}
use Rattle.ty_prog.specs.Tree.{ExprLevel}
use Rattle.ty_flow.specs.declared.passage.Passage.{Passage}
use Rattle.ty_flow.specs.declared.passage.CasePassage.{CasePassage}
use Rattle.ty_flow.specs.Uses.{untouched, leaves, sets, followed, negated, chosen, looped, sequence, tried, stored, handler_step, expr_step, pattern_step, case_step, expr_passage}
use Rattle.ty_flow.specs.Parts.{handler_passage, pattern_passage, case_passage}

-- what stands before a part that leaves
pub left_reads : (p : Passage) → (followed p leaves).reads ≡ p.reads
unfolding followed
left_reads p = reads_only p.reads (sets p) where
  reads_only : (reads set : Bool) → (reads || (not set && false)) ≡ reads
  reads_only true set = refl
  reads_only false true = refl
  reads_only false false = refl

pub left_sets : (p : Passage) → sets (followed p leaves) ≡ true
unfolding followed
left_sets p = set_behind (sets p) where
  set_behind : (set : Bool) → ((set || true) && (set || true)) ≡ true
  set_behind true = refl
  set_behind false = refl

unread : (reads set again : Bool) → set ≡ true → (reads || (not set && again)) ≡ reads
unread true set again is = refl
unread false true again is = refl
unread false false again is = absurd (cc)

both_same : (b : Bool) → (b && b) ≡ b
both_same true = refl
both_same false = refl

module _ (local : ℕ) where
  abbrev parts_passages : ExprLevel → Expr-F Passage Passage Passage CasePassage
  parts_passages = map-Expr Catch Expr Pattern Case Passage Passage Passage CasePassage (handler_passage local) (expr_passage local) (pattern_passage local) (case_passage local)

  rolled : (level : ExprLevel) → expr_passage local (roll-Expr level) ≡ expr_step local (parts_passages level)
  rolled = fold-roll-Expr Passage Passage Passage CasePassage (handler_step local) (expr_step local) (pattern_step local) (case_step local)

  tried_parts : (body : Expr) (handler : Option Catch) (last : Option Expr) → expr_step local (parts_passages (Expr-F.Try body handler last))
      ≡ tried (expr_passage local body) (unwrap_or (option_map (handler_passage local) handler) leaves) (unwrap_or (option_map (expr_passage local) last) untouched)
  tried_parts body None None = refl
  tried_parts body None (Some last) = refl
  tried_parts body (Some handler) None = refl
  tried_parts body (Some handler) (Some last) = refl

  pub try_passage : (body : Expr) (handler : Option Catch) (last : Option Expr) → expr_passage local (expr.Try body handler last)
      ≡ tried (expr_passage local body) (unwrap_or (option_map (handler_passage local) handler) leaves) (unwrap_or (option_map (expr_passage local) last) untouched)
  try_passage body handler last =
      ap (expr_passage local) (sym (expr.rolls-Try body handler last)) ∙ rolled (Expr-F.Try body handler last) ∙ tried_parts body handler last

  throw_passage : (e : Expr) → expr_passage local (expr.Throw e) ≡ followed (expr_passage local e) leaves
  throw_passage e = ap (expr_passage local) (sym (expr.rolls-Throw e)) ∙ rolled (Expr-F.Throw e)

  stored_leaves : stored local local ≡ leaves
  stored_leaves = ap (λ b. if b then leaves else untouched) (eq-eqb local local refl)

  set_passage : (e : Expr) → expr_passage local (expr.SetLocal local e) ≡ followed (expr_passage local e) leaves
  set_passage e =
      ap (expr_passage local) (sym (expr.rolls-SetLocal local e)) ∙ rolled (Expr-F.SetLocal local e)
      ∙ ap (followed (expr_passage local e)) stored_leaves

  while_passage : (c b : Expr) → expr_passage local (expr.While c b) ≡ looped (expr_passage local c) (expr_passage local b)
  while_passage c b = ap (expr_passage local) (sym (expr.rolls-While c b)) ∙ rolled (Expr-F.While c b)

  if_passage : (c a b : Expr) → expr_passage local (expr.If c a b) ≡ chosen (expr_passage local c) (expr_passage local a) (expr_passage local b)
  if_passage c a b = ap (expr_passage local) (sym (expr.rolls-If c a b)) ∙ rolled (Expr-F.If c a b)

  block_passage : (a b : Expr) → expr_passage local (expr.Block (a ∷ b ∷ [])) ≡ sequence (expr_passage local a ∷ expr_passage local b ∷ [])
  block_passage a b = ap (expr_passage local) (sym (expr.rolls-Block (a ∷ b ∷ []))) ∙ rolled (Expr-F.Block (a ∷ b ∷ []))

  not_passage : (e : Expr) → expr_passage local (expr.Prim op.Not (e ∷ [])) ≡ negated (sequence (expr_passage local e ∷ []))
  not_passage e = ap (expr_passage local) (sym (expr.rolls-Prim op.Not (e ∷ []))) ∙ rolled (Expr-F.Prim op.Not (e ∷ []))

  bool_passage : (b : Bool) → expr_passage local (expr.Bool b) ≡ record { reads = false; on_true = not b; on_false = b }
  bool_passage b = ap (expr_passage local) (sym (expr.rolls-Bool b)) ∙ rolled (Expr-F.Bool b)

  pub throw_reads : (e : Expr) → (expr_passage local (expr.Throw e)).reads ≡ (expr_passage local e).reads
  throw_reads e = ap (λ p. p.reads) (throw_passage e) ∙ left_reads (expr_passage local e)

  pub throw_leaves : (e : Expr) → sets (expr_passage local (expr.Throw e)) ≡ true
  throw_leaves e = ap sets (throw_passage e) ∙ left_sets (expr_passage local e)

  pub set_reads : (e : Expr) → (expr_passage local (expr.SetLocal local e)).reads ≡ (expr_passage local e).reads
  set_reads e = ap (λ p. p.reads) (set_passage e) ∙ left_reads (expr_passage local e)

  pub set_sets : (e : Expr) → sets (expr_passage local (expr.SetLocal local e)) ≡ true
  set_sets e = ap sets (set_passage e) ∙ left_sets (expr_passage local e)

  pub block_reads : (a b : Expr) → sets (expr_passage local a) ≡ true → (expr_passage local (expr.Block (a ∷ b ∷ []))).reads ≡ (expr_passage local a).reads
  unfolding followed
  block_reads a b is =
      ap (λ p. p.reads) (block_passage a b) ∙ unread (expr_passage local a).reads (sets (expr_passage local a)) (expr_passage local b).reads is

  pub block_true : (a b : Expr) → (expr_passage local (expr.Block (a ∷ b ∷ []))).on_true ≡ (sets (expr_passage local a) || (expr_passage local b).on_true)
  unfolding followed
  block_true a b = ap (λ p. p.on_true) (block_passage a b)

  pub block_false : (a b : Expr) → (expr_passage local (expr.Block (a ∷ b ∷ []))).on_false ≡ (sets (expr_passage local a) || (expr_passage local b).on_false)
  unfolding followed
  block_false a b = ap (λ p. p.on_false) (block_passage a b)

  pub while_sets : (c b : Expr) → sets (expr_passage local (expr.While c b)) ≡ (expr_passage local c).on_false
  unfolding looped
  while_sets c b = ap sets (while_passage c b) ∙ both_same (expr_passage local c).on_false

  pub while_reads : (c b : Expr) → (expr_passage local c).on_true ≡ true → (expr_passage local (expr.While c b)).reads ≡ (expr_passage local c).reads
  unfolding looped
  while_reads c b is =
      ap (λ p. p.reads) (while_passage c b) ∙ unread (expr_passage local c).reads (expr_passage local c).on_true (expr_passage local b).reads is

  pub not_true : (e : Expr) → (expr_passage local (expr.Prim op.Not (e ∷ []))).on_true ≡ (expr_passage local e).on_false
  unfolding negated followed
  not_true e = ap (λ p. p.on_true) (not_passage e)

  pub not_false : (e : Expr) → (expr_passage local (expr.Prim op.Not (e ∷ []))).on_false ≡ (expr_passage local e).on_true
  unfolding negated followed
  not_false e = ap (λ p. p.on_false) (not_passage e)

  pub literal_true : (b : Bool) → (expr_passage local (expr.Bool b)).on_true ≡ not b
  literal_true b = ap (λ p. p.on_true) (bool_passage b)

  pub literal_false : (b : Bool) → (expr_passage local (expr.Bool b)).on_false ≡ b
  literal_false b = ap (λ p. p.on_false) (bool_passage b)

  first_reads : (reads set again unset other : Bool) → set ≡ true → (reads || (not set && again) || (not unset && other)) ≡ (reads || (not unset && other))
  first_reads true set again unset other is = refl
  first_reads false true again unset other is = refl
  first_reads false false again unset other is = absurd (cc)

  last_reads : (reads set again unset other : Bool) → unset ≡ true → (reads || (not set && again) || (not unset && other)) ≡ (reads || (not set && again))
  last_reads true set again unset other is = refl
  last_reads false true again true other is = refl
  last_reads false true again false other is = absurd (cc)
  last_reads false false true unset other is = refl
  last_reads false false false true other is = refl
  last_reads false false false false other is = absurd (cc)

  pub if_set_true : (c a b : Expr) → (expr_passage local c).on_true ≡ true
      → (expr_passage local (expr.If c a b)).reads ≡ ((expr_passage local c).reads || (not (expr_passage local c).on_false && (expr_passage local b).reads))
  unfolding chosen
  if_set_true c a b is =
      ap (λ p. p.reads) (if_passage c a b)
      ∙ first_reads (expr_passage local c).reads (expr_passage local c).on_true (expr_passage local a).reads (expr_passage local c).on_false (expr_passage local b).reads is

  pub if_set_false : (c a b : Expr) → (expr_passage local c).on_false ≡ true
      → (expr_passage local (expr.If c a b)).reads ≡ ((expr_passage local c).reads || (not (expr_passage local c).on_true && (expr_passage local a).reads))
  unfolding chosen
  if_set_false c a b is =
      ap (λ p. p.reads) (if_passage c a b)
      ∙ last_reads (expr_passage local c).reads (expr_passage local c).on_true (expr_passage local a).reads (expr_passage local c).on_false (expr_passage local b).reads is

  pub if_true : (c a b : Expr) → (expr_passage local (expr.If c a b)).on_true
      ≡ (((expr_passage local c).on_true || (expr_passage local a).on_true) && ((expr_passage local c).on_false || (expr_passage local b).on_true))
  unfolding chosen
  if_true c a b = ap (λ p. p.on_true) (if_passage c a b)

  pub if_false : (c a b : Expr) → (expr_passage local (expr.If c a b)).on_false
      ≡ (((expr_passage local c).on_true || (expr_passage local a).on_false) && ((expr_passage local c).on_false || (expr_passage local b).on_false))
  unfolding chosen
  if_false c a b = ap (λ p. p.on_false) (if_passage c a b)

  all_set : (c d a s b n : Bool) → a ≡ (s || b) → s ≡ true → n ≡ true → ((c || a) && (d || n)) ≡ true
  all_set true true a s b n is set never = refl
  all_set true false a s b n is set never = never
  all_set false true a true b n is set never = ap (λ x. x && true) is
  all_set false true a false b n is set never = absurd (cc)
  all_set false false a true b n is set never = ap (λ x. x && n) is ∙ never
  all_set false false a false b n is set never = absurd (cc)

  -- where a test is true that stores what it matched, the local is set
  pub test_sets : (c v : Expr) → (expr_passage local (expr.If c (expr.Block (expr.SetLocal local v ∷ expr.Bool true ∷ [])) (expr.Bool false))).on_true ≡ true
  test_sets c v =
      if_true c (expr.Block (expr.SetLocal local v ∷ expr.Bool true ∷ [])) (expr.Bool false)
      ∙ all_set (expr_passage local c).on_true (expr_passage local c).on_false _ (sets (expr_passage local (expr.SetLocal local v))) _ _
      (block_true (expr.SetLocal local v) (expr.Bool true)) (set_sets v) (literal_true false)

  or_middle : (one two three : Bool) → two ≡ true → (one || two || three) ≡ true
  or_middle true two three is = refl
  or_middle false true three is = refl
  or_middle false false three is = absurd (cc)

  pub handler_reads : (body : Expr) (handler : Catch) (last : Option Expr) → (handler_passage local handler).reads ≡ true
      → (expr_passage local (expr.Try body (Some handler) last)).reads ≡ true
  unfolding tried
  handler_reads body handler last is =
      ap (λ p. p.reads) (try_passage body (Some handler) last)
      ∙ or_middle (expr_passage local body).reads (handler_passage local handler).reads (unwrap_or (option_map (expr_passage local) last) untouched).reads is
