-- A node that sees the same begins with the same move; and of the value of a child it makes the same move on the same object.
use Rattle.std.proofs.Common.{◌≡◌, ℕ, true, List, [], ◌∷◌, Option, Some, None, slice_get, refl, ap, ◌∙◌}
use Rattle.ty_prog.specs.Shape.{Shape, ExprShape, CaseShape, PatternShape, ConstructorShape, StageShape, ExprForm, PatternForm}
use Rattle.ty_prog.specs.declared.catch.Catch.TheOpen.{Expr-F}
use Rattle.ty_prog.specs.declared.stage.Stage.{Stage}
use Rattle.ty_prog.specs.declared.stage.Stage.TheVariants as stage
use Rattle.sm_state.specs.declared.value.Value.{Value}
use Rattle.sm_rule.specs.declared.act.Act.TheVariants as act
use Rattle.sm_rule.specs.declared.moves.Move.TheVariants as move
use Rattle.sm_rule.specs.Moves.{Sight, set_local, first_or, expr_begun, looked, pattern_begun, case_begun, constructor_begun, parameter_begun, stage_begun, begun, expr_received, received}
use Rattle.sm_law.specs.Copies.{local_read, names_this, SameTop, SeesAlike}

expr_received_this : (form : ExprForm) (this that : Value) → (names_this (ExprShape form) ≡ true → that ≡ this) → (i : ℕ) (v : Value) (operands : List Value)
    → expr_received that i v operands form ≡ expr_received this i v operands form
expr_received_this (Expr-F.SuperCall after name args) this that h i v operands = rw (h refl) refl
expr_received_this (Expr-F.Int n) this that h i v operands = refl
expr_received_this _ this that h i v operands = refl

-- the value of a child gives the same move on the same object
pub received_this : (s : Shape) (this that : Value) → (names_this s ≡ true → that ≡ this) → (i : ℕ) (v : Value) (operands : List Value)
    → received that i v operands s ≡ received this i v operands s
received_this (ExprShape e) this that h i v operands = expr_received_this e this that h i v operands
received_this (CaseShape c) this that h i v operands = refl
received_this (PatternShape p) this that h i v operands = refl
received_this (ConstructorShape c) this that h i v operands = refl
received_this (StageShape s) this that h i v operands = refl

case_sees : (vs us : List Value) → SameTop vs us → case_begun us ≡ case_begun vs
case_sees [] [] e = refl
case_sees (v ∷ vs) (u ∷ us) e = ap (λ z. move.Keep 0 z) e
case_sees [] (u ∷ us) e = absurd e
case_sees (v ∷ vs) [] e = absurd e

pattern_sees : (p : PatternForm) (vs us : List Value) → SameTop vs us → pattern_begun us p ≡ pattern_begun vs p
pattern_sees p [] [] e = refl
pattern_sees p (v ∷ vs) (u ∷ us) e = ap (λ z. looked z p) e
pattern_sees p [] (u ∷ us) e = absurd e
pattern_sees p (v ∷ vs) [] e = absurd e

module _ (a b : Sight) (class_is : b.class ≡ a.class) where
  parameter_is : (field : ℕ) (o : Option (Option Value)) → b.this ≡ a.this → parameter_begun b field o ≡ parameter_begun a field o
  parameter_is field (Some (Some v)) e = rw (e, class_is) refl
  parameter_is field (Some None) e = refl
  parameter_is field None e = refl

  stage_sees : (s : Stage) → b.this ≡ a.this → ((x : ℕ) → local_read a.child (StageShape s) ≡ Some x → slice_get b.locals x ≡ slice_get a.locals x) → SeesAlike a b (StageShape s) → stage_begun b s ≡ stage_begun a s
  stage_sees (stage.Parameter field) e locals sees =
      ap (λ i. parameter_begun b field (slice_get b.locals i)) sees.0
      ∙ ap (parameter_begun b field) (locals a.child refl)
      ∙ parameter_is field (slice_get a.locals a.child) e
  stage_sees stage.Superclass e locals sees = rw (e, class_is, sees.1) refl
  stage_sees (stage.Mixin trait) e locals sees = rw e refl

  expr_sees : (form : ExprForm) → (names_this (ExprShape form) ≡ true → b.this ≡ a.this)
      → ((x : ℕ) → local_read a.child (ExprShape form) ≡ Some x → slice_get b.locals x ≡ slice_get a.locals x) → expr_begun b form ≡ expr_begun a form
  expr_sees Expr-F.This this locals = ap move.End (this refl)
  expr_sees (Expr-F.Local x) this locals = ap set_local (locals x refl)
  expr_sees (Expr-F.SuperCall after name args) this locals = ap (λ z. first_or args (move.Do (act.CallSuper after name z []))) (this refl)
  expr_sees (Expr-F.Int n) this locals = refl
  expr_sees _ this locals = refl

  -- the same move
  pub sees : (s : Shape) → (names_this s ≡ true → b.this ≡ a.this) → ((x : ℕ) → local_read a.child s ≡ Some x → slice_get b.locals x ≡ slice_get a.locals x) → SeesAlike a b s → begun b s ≡ begun a s
  sees (ExprShape e) this locals alike = expr_sees e this locals
  sees (CaseShape c) this locals alike = case_sees a.operands b.operands alike
  sees (PatternShape p) this locals alike = pattern_sees p a.operands b.operands alike
  sees (ConstructorShape c) this locals alike = ap constructor_begun (this refl)
  sees (StageShape s) this locals alike = stage_sees s (this refl) locals alike
