-- Shapes that are alike keep as many operands and make the same moves.
use Rattle.std.proofs.Common.{◌≡◌, ℕ, List, refl, ap}
use Rattle.ty_prog.specs.Shape.{Shape, ExprShape, CaseShape, PatternShape, ConstructorShape, StageShape}
use Rattle.ty_prog.specs.declared.class.Class.{Class}
use Rattle.ty_prog.specs.declared.kind.Kind.{Kind}
use Rattle.ty_prog.specs.declared.kind.Kind.TheVariants as kind
use Rattle.sm_state.specs.declared.value.Value.{Value}
use Rattle.sm_rule.specs.Moves.{is_super_arg, super_kept, kept, Sight, begun, received, passed, caught, publishes, constructor_received}
use Rattle.sm_law.specs.Copies.{AlikeClass, Alike}

module _ (c d : Class) (like : AlikeClass c d) where
  -- the children of constructors that are alike are told apart at the same numbers
  super_kept_alike : (k : Kind) (i : ℕ) → super_kept d k i ≡ super_kept c k i
  super_kept_alike kind.Trait i = refl
  super_kept_alike kind.Class i = rw (like.params, like.args) refl
  super_kept_alike k i = rw (like.params, like.args) refl

  is_super_arg_alike : (k : Kind) (i : ℕ) → is_super_arg d k i ≡ is_super_arg c k i
  is_super_arg_alike kind.Trait i = refl
  is_super_arg_alike kind.Class i = rw (like.params, like.args) refl
  is_super_arg_alike k i = rw (like.params, like.args) refl

  publishes_alike : (k : Kind) (i : ℕ) → publishes d k i ≡ publishes c k i
  publishes_alike kind.Object i = rw (like.params, like.args, like.sets) refl
  publishes_alike kind.Class i = refl
  publishes_alike k i = refl

  constructor_alike : (i : ℕ) (v : Value) → constructor_received i v d ≡ constructor_received i v c
  constructor_alike i v = rw (like.kind, is_super_arg_alike c.kind i, publishes_alike c.kind i) refl

  constructor_kept : (i : ℕ) → super_kept d d.kind i ≡ super_kept c c.kind i
  constructor_kept i = rw like.kind (super_kept_alike c.kind i)

-- as many operands are kept
pub kept_alike : (s z : Shape) → Alike s z → (i : ℕ) → kept z i ≡ kept s i
kept_alike (ConstructorShape c) z like i = rw like.1 (constructor_kept c like.0 like.2 i)
kept_alike (ExprShape e) z like i = ap (λ s. kept s i) like
kept_alike (CaseShape c) z like i = ap (λ s. kept s i) like
kept_alike (PatternShape p) z like i = ap (λ s. kept s i) like
kept_alike (StageShape g) z like i = ap (λ s. kept s i) like

-- the value of a child gives the same move
pub received_alike : (s z : Shape) → Alike s z → (this : Value) (i : ℕ) (v : Value) (operands : List Value) → received this i v operands z ≡ received this i v operands s
received_alike (ConstructorShape c) z like this i v operands = rw like.1 (constructor_alike c like.0 like.2 i v)
received_alike (ExprShape e) z like this i v operands = ap (received this i v operands) like
received_alike (CaseShape c) z like this i v operands = ap (received this i v operands) like
received_alike (PatternShape p) z like this i v operands = ap (received this i v operands) like
received_alike (StageShape g) z like this i v operands = ap (received this i v operands) like

-- so does a case that doesn't match
pub passed_alike : (s z : Shape) → Alike s z → (i : ℕ) (operands : List Value) → passed i operands z ≡ passed i operands s
passed_alike (ConstructorShape c) z like i operands = ap (passed i operands) like.1
passed_alike (ExprShape e) z like i operands = ap (passed i operands) like
passed_alike (CaseShape c) z like i operands = ap (passed i operands) like
passed_alike (PatternShape p) z like i operands = ap (passed i operands) like
passed_alike (StageShape g) z like i operands = ap (passed i operands) like

-- so does an exception
pub caught_alike : (s z : Shape) → Alike s z → (i : ℕ) (x : Value) → caught i x z ≡ caught i x s
caught_alike (ConstructorShape c) z like i x = ap (caught i x) like.1
caught_alike (ExprShape e) z like i x = ap (caught i x) like
caught_alike (CaseShape c) z like i x = ap (caught i x) like
caught_alike (PatternShape p) z like i x = ap (caught i x) like
caught_alike (StageShape g) z like i x = ap (caught i x) like

-- and a beginning
pub begun_alike : (s z : Shape) → Alike s z → (sight : Sight) → begun sight z ≡ begun sight s
begun_alike (ConstructorShape c) z like sight = ap (begun sight) like.1
begun_alike (ExprShape e) z like sight = ap (begun sight) like
begun_alike (CaseShape c) z like sight = ap (begun sight) like
begun_alike (PatternShape p) z like sight = ap (begun sight) like
begun_alike (StageShape g) z like sight = ap (begun sight) like
