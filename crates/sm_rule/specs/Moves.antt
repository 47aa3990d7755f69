-- Which move a node makes: when it begins, when it gets the value of a child, when one of its cases doesn't match, and
-- when an exception comes out of a child. All of it is told from the shape of the node, its own operands (the latest
-- first), the locals and `this`.
use Rattle.std.specs.Prelude.{ℕ, zero, suc, ◌+◌, ◌-◌, ◌==◌, ◌&&◌, not, Bool, true, false, if◌then◌else◌, nat_lt, nat_le, List, [], ◌∷◌, map, length, reverse, codes, Option, Some, None, slice_get}
use Rattle.std.specs.Option.{option_or}
use Rattle.ty_prog.specs.Tree.{sets_module}
use Rattle.ty_prog.specs.Shape.{Shape, ExprShape, CaseShape, PatternShape, ConstructorShape, StageShape, One, ExprForm, CatchForm, PatternForm, CaseForm}
use Rattle.ty_prog.specs.declared.catch.Catch.TheOpen.{Expr-F, Catch-F, Pattern-F, Case-F}
use Rattle.ty_prog.specs.declared.class.Class.{Class}
use Rattle.ty_prog.specs.declared.expr.Expr.{Expr}
use Rattle.ty_prog.specs.declared.kind.Kind.{Kind}
use Rattle.ty_prog.specs.declared.kind.Kind.TheVariants as kind
use Rattle.ty_prog.specs.declared.prim_op.PrimOp.{PrimOp}
use Rattle.ty_prog.specs.declared.prim_op.PrimOp.TheVariants as op
use Rattle.ty_prog.specs.declared.stage.Stage.{Stage}
use Rattle.ty_prog.specs.declared.stage.Stage.TheVariants as stage
use Rattle.ty_prog.specs.declared.tested.Tested.TheVariants as tested
use Rattle.ty_prog.specs.declared.ty.Ty.TheVariants as ty
use Rattle.sm_state.specs.declared.value.Value.{Value}
use Rattle.sm_state.specs.declared.value.Value.TheVariants as value
use Rattle.sm_rule.specs.declared.act.Act.TheVariants as act
use Rattle.sm_rule.specs.declared.moves.Move.{Move}
use Rattle.sm_rule.specs.declared.moves.Move.TheVariants as move
use Rattle.sm_rule.specs.Values.{null_pointer, computed}

-- ---- operands

-- how many children a handler has
abbrev pub handler_len : Option CatchForm → ℕ
handler_len None = 0
handler_len (Some (Catch-F.Cases cases)) = length cases
handler_len (Some (Catch-F.«Catch::Any» local body)) = 1

-- how many values the cases of a handler keep: the exception
abbrev pub handler_kept : Option CatchForm → ℕ
handler_kept (Some (Catch-F.Cases cases)) = 1
handler_kept other = 0

-- how many values a `try` keeps for its child: its `finally` has two
abbrev pub try_kept : Option CatchForm → ℕ → ℕ
try_kept handler zero = 0
try_kept handler (suc i) = if nat_lt i (handler_len handler) then handler_kept handler else 2

-- whether this child of a constructor is an argument of the superclass constructor (SLS 5.1)
abbrev pub is_super_arg : Class → Kind → ℕ → Bool
is_super_arg class kind.Trait i = false
is_super_arg class other i = nat_le (length class.params) i && nat_lt i (length class.params + length class.super_args)

-- how many of these arguments are there when this child begins: all of them when that constructor is called
abbrev pub super_kept : Class → Kind → ℕ → ℕ
super_kept class kind.Trait i = 0
super_kept class other i = if nat_le i (length class.params + length class.super_args) then i - length class.params else 0

-- how many operands an expression keeps for its child
abbrev pub expr_kept : ExprForm → ℕ → ℕ
expr_kept (Expr-F.Put of class field value) i = i
expr_kept (Expr-F.Call of class method args) i = i
expr_kept (Expr-F.New class []) i = 0
expr_kept (Expr-F.New class args) i = i + 1
expr_kept (Expr-F.Prim op args) i = i
expr_kept (Expr-F.Equal a b) i = i
expr_kept (Expr-F.Try body handler last) i = try_kept handler i
expr_kept (Expr-F.Match of cases) zero = 0
expr_kept (Expr-F.Match of cases) (suc i) = 1
expr_kept (Expr-F.SuperCall after name args) i = i
expr_kept (Expr-F.Cas of class field old new) i = i
expr_kept (Expr-F.StaticCall class method args) i = i
expr_kept other i = 0

-- how many operands a pattern keeps for its child: the value, and with `Make` the part of it
abbrev pub pattern_kept : PatternForm → ℕ
pattern_kept (Pattern-F.Make class parts) = 2
pattern_kept other = 1

-- a case keeps the value for its pattern
abbrev pub case_kept : ℕ → ℕ
case_kept zero = 1
case_kept (suc i) = 0

-- how many operands a node of this shape keeps while its child with this number is evaluated
abbrev pub kept : Shape → ℕ → ℕ
kept (ExprShape e) i = expr_kept e i
kept (CaseShape c) i = case_kept i
kept (PatternShape p) i = pattern_kept p
kept (ConstructorShape class) i = super_kept class class.kind i
kept (StageShape s) i = 0

-- ---- a node begins

-- what a node that begins sees: `this`, the class whose part it stands in, the locals, its number below the node above,
-- and the operands of the nodes above
pub record Sight : Type 0 where
  pub this : Value
  pub class : ℕ
  pub locals : List (Option Value)
  pub child : ℕ
  pub operands : List Value

-- the value of a local that is set
abbrev pub set_local : Option (Option Value) → Move
set_local (Some (Some v)) = move.End v
set_local other = move.Stuck

-- the first child begins, or where there is none, something else is done
abbrev pub first_or : {A : Type 0} → List A → Move → Move
first_or [] none = none
first_or (x ∷ xs) none = move.Turn 0

-- an operator without operands: the control values
abbrev pub lone : PrimOp → Move
lone op.Evaluating = move.Do act.Mine
lone op.NullValue = move.End value.NullValue
lone other = move.Stuck

-- an object is made before the arguments of its constructor are evaluated (SLS 6.10)
abbrev pub making : {A : Type 0} → ℕ → List A → Move
making class [] = move.Again None 0 (act.Make class)
making class (a ∷ args) = move.Hold class

-- `println` without an operand prints an empty line
abbrev pub printing : {A : Type 0} → Option A → Move
printing None = move.Do (act.Print [])
printing (Some e) = move.Turn 0

-- how an expression begins
abbrev pub expr_begun : Sight → ExprForm → Move
expr_begun s (Expr-F.Int n) = move.End (value.Int n)
expr_begun s (Expr-F.Long n) = move.End (value.Long n)
expr_begun s (Expr-F.Bool b) = move.End (value.Bool b)
expr_begun s (Expr-F.Text t) = move.End (value.Text t)
expr_begun s Expr-F.Null = move.End value.Null
expr_begun s Expr-F.Unit = move.End value.Unit
expr_begun s Expr-F.This = move.End s.this
expr_begun s (Expr-F.Local x) = set_local (slice_get s.locals x)
expr_begun s (Expr-F.Block es) = first_or es (move.End value.Unit)
expr_begun s (Expr-F.Prim op args) = first_or args (lone op)
expr_begun s (Expr-F.New class args) = making class args
expr_begun s (Expr-F.Println e) = printing e
expr_begun s (Expr-F.SuperCall after name args) = first_or args (move.Do (act.CallSuper after name s.this []))
expr_begun s (Expr-F.StaticCall class method args) = first_or args (move.Do (act.CallDirectly class method []))
expr_begun s (Expr-F.ObjectGet class) = move.Do (act.ReadModule class)
expr_begun s (Expr-F.ModuleGet class) = move.Do (act.ReadModule class)
expr_begun s other = move.Turn 0

-- a pattern of a case class begins, by the value that it looks at
abbrev pub making_begun : {A : Type 0} → Value → ℕ → List A → Move
making_begun v class [] = move.Do (act.Test v (tested.OfType (ty.Class class)))
making_begun v class (p ∷ parts) = move.Open class 0 v

-- alternatives begin, by the value that they look at
abbrev pub either_begun : {A : Type 0} → Value → List A → Move
either_begun v [] = move.End (value.Bool false)
either_begun v (p ∷ parts) = move.Keep 0 v

-- a pattern begins, by the value that it looks at, which the node above keeps for it (SLS 8.1)
abbrev pub looked : Value → PatternForm → Move
looked v Pattern-F.«Pattern::Any» = move.End (value.Bool true)
looked v (Pattern-F.Bind local p) = move.Keep 0 v
looked v (Pattern-F.OfType type) = move.Do (act.Test v (tested.OfType type))
looked v (Pattern-F.Literal e) = move.Keep 0 v
looked v (Pattern-F.Object class) = move.Again (Some v) 0 (act.ReadModule class)
looked v (Pattern-F.Make class parts) = making_begun v class parts
looked v (Pattern-F.Either parts) = either_begun v parts

-- how a pattern begins
abbrev pub pattern_begun : List Value → PatternForm → Move
pattern_begun [] p = move.Stuck
pattern_begun (v ∷ above) p = looked v p

-- how a case begins: with its pattern, which looks at the same value
abbrev pub case_begun : List Value → Move
case_begun [] = move.Stuck
case_begun (v ∷ above) = move.Keep 0 v

-- a constructor whose object isn't made yet makes it: that of an object definition
abbrev pub constructor_begun : Value → Move
constructor_begun value.Null = move.Embody
constructor_begun this = move.Advance 0

-- a class parameter is stored into its field
abbrev pub parameter_begun : Sight → ℕ → Option (Option Value) → Move
parameter_begun s field (Some (Some v)) = move.Do (act.Write s.this s.class field v)
parameter_begun s field other = move.Stuck

-- how a stage of a constructor begins (SLS 5.1)
abbrev pub stage_begun : Sight → Stage → Move
stage_begun s (stage.Parameter field) = parameter_begun s field (slice_get s.locals s.child)
stage_begun s stage.Superclass = move.Do (act.ConstructAbove s.class s.this (map Some (reverse s.operands)))
stage_begun s (stage.Mixin trait) = move.Do (act.Construct trait (Some s.this ∷ []))

-- what a node does when it begins
abbrev pub begun : Sight → Shape → Move
begun s (ExprShape e) = expr_begun s e
begun s (CaseShape c) = case_begun s.operands
begun s (PatternShape p) = pattern_begun s.operands p
begun s (ConstructorShape class) = constructor_begun s.this
begun s (StageShape stage) = stage_begun s stage

-- ---- a node gets the value of a child

-- one of two moves, by a condition
abbrev pub branched : Value → Move → Move → Move
branched (value.Bool true) one two = one
branched (value.Bool false) one two = two
branched other one two = move.Stuck

-- a conditional: the condition, then a branch (SLS 6.16)
abbrev pub if_received : ℕ → Value → Move
if_received zero v = branched v (move.Turn 1) (move.Turn 2)
if_received (suc i) v = move.End v

-- a loop: the condition, then the body, and again (SLS 6.17)
abbrev pub while_received : ℕ → Value → Move
while_received zero v = branched v (move.Turn 1) (move.End value.Unit)
while_received (suc i) v = move.Turn 0

-- the sibling behind begins, or where there is none, something else is done
abbrev pub next_or : ℕ → ℕ → Move → Move → Move
next_or count i next last = if nat_lt (i + 1) count then next else last

-- all operands in order, the latest included
abbrev pub all : Value → List Value → List Value
all v operands = reverse (v ∷ operands)

-- the same as the arguments of a call
abbrev pub arguments : Value → List Value → List (Option Value)
arguments v operands = map Some (all v operands)

-- the next operand begins, or behind the last one something is done
abbrev pub operand_or : ℕ → ℕ → Value → Move → Move
operand_or count i v last = next_or count i (move.Keep (i + 1) v) last

-- a write of a field: the object, then the value
abbrev pub written : ℕ → ℕ → ℕ → Value → List Value → Move
written class field zero v operands = move.Keep 1 v
written class field (suc i) v (of ∷ above) = move.Do (act.Write of class field v)
written class field (suc i) v [] = move.Stuck

-- `==`: one side, then the other
abbrev pub compared : ℕ → Value → List Value → Move
compared zero b operands = move.Keep 1 b
compared (suc i) b (a ∷ above) = move.Do (act.Compare a b)
compared (suc i) b [] = move.Stuck

-- an exchange of a field: the object, the old value, the new one
abbrev pub exchanged : ℕ → ℕ → ℕ → Value → List Value → Move
exchanged class field zero v operands = move.Keep 1 v
exchanged class field (suc zero) v operands = move.Keep 2 v
exchanged class field (suc (suc i)) new (old ∷ of ∷ above) = move.Do (act.Exchange of class field old new)
exchanged class field (suc (suc i)) new other = move.Stuck

-- a text as it is shown: null is `null`
abbrev pub shown : (List ℕ → Move) → Value → Move
shown use_text (value.Text t) = use_text t
shown use_text value.Null = use_text (codes "null")
shown use_text other = move.Stuck

-- a value is made a text, and the text is used
abbrev pub text_received : ℕ → (List ℕ → Move) → Value → Move
text_received zero use_text v = move.Again None 1 (act.TextOf v)
text_received (suc i) use_text v = shown use_text v

-- `throw`: null throws NullPointerException (SLS 6.21)
abbrev pub thrown : Value → Move
thrown (value.Ref r) = move.Raise (value.Ref r)
thrown value.Null = null_pointer
thrown other = move.Stuck

-- behind a `finally` the exception goes on, or the value is given (SLS 6.20)
abbrev pub unshelved : List Value → Move
unshelved (x ∷ value.Bool true ∷ above) = move.Raise x
unshelved (v ∷ value.Bool false ∷ above) = move.End v
unshelved other = move.Stuck

-- a `try`: its body or a handler is done, or its `finally` (SLS 6.20)
abbrev pub try_received : ℕ → Value → List Value → ℕ → Option One → Move
try_received i v operands at None = move.End v
try_received i v operands at (Some last) = if i == at then unshelved operands else move.Shelve at false v

-- a match: the value, then the body of a case (SLS 8.4)
abbrev pub match_received : {A : Type 0} → ℕ → Value → List A → Move
match_received zero v [] = move.Do (act.Unmatched v)
match_received zero v (c ∷ cases) = move.Keep 1 v
match_received (suc i) v cases = move.End v

-- what an expression does with the value of its child
abbrev pub expr_received : Value → ℕ → Value → List Value → ExprForm → Move
expr_received this i v operands (Expr-F.SetLocal local e) = move.Store local v value.Unit
expr_received this i v operands (Expr-F.Get of class field) = move.Do (act.Read v class field)
expr_received this i v operands (Expr-F.Put of class field new) = written class field i v operands
expr_received this i v operands (Expr-F.Call of class method args) = operand_or (suc (length args)) i v (move.Do (act.Call class method (arguments v operands)))
expr_received this i v operands (Expr-F.New class args) = operand_or (length args) i v (move.Do (act.Construct class (arguments v operands)))
expr_received this i v operands (Expr-F.Prim op args) = operand_or (length args) i v (computed op v operands)
expr_received this i v operands (Expr-F.Convert to of) = move.Do (act.Convert to v)
expr_received this i v operands (Expr-F.Equal a b) = compared i v operands
expr_received this i v operands (Expr-F.TextOf e) = text_received i (λ t. move.End (value.Text t)) v
expr_received this i v operands (Expr-F.Println e) = text_received i (λ t. move.Do (act.Print t)) v
expr_received this i v operands (Expr-F.If c a b) = if_received i v
expr_received this i v operands (Expr-F.While c b) = while_received i v
expr_received this i v operands (Expr-F.Block es) = next_or (length es) i (move.Turn (i + 1)) (move.End v)
expr_received this i v operands (Expr-F.Try body handler last) = try_received i v operands (1 + handler_len handler) last
expr_received this i v operands (Expr-F.Throw e) = thrown v
expr_received this i v operands (Expr-F.Start e) = move.Do (act.Start v)
expr_received this i v operands (Expr-F.Match of cases) = match_received i v cases
expr_received this i v operands (Expr-F.LazyGet of class cell) = move.Do (act.ReadCell v class cell)
expr_received this i v operands (Expr-F.SuperCall after name args) = operand_or (length args) i v (move.Do (act.CallSuper after name this (arguments v operands)))
expr_received this i v operands (Expr-F.Test of test) = move.Do (act.Test v test)
expr_received this i v operands (Expr-F.Cas of class field old new) = exchanged class field i v operands
expr_received this i v operands (Expr-F.NewLatch e) = move.Do (act.MakeLatch v)
expr_received this i v operands (Expr-F.OwnedHere e) = move.Do (act.IsMine v)
expr_received this i v operands (Expr-F.Await e) = move.Do (act.Await v)
expr_received this i v operands (Expr-F.CountDown e) = move.Do (act.CountDown v)
expr_received this i v operands (Expr-F.StaticCall class method args) = operand_or (length args) i v (move.Do (act.CallDirectly class method (arguments v operands)))
expr_received this i v operands (Expr-F.SetModule class e) = move.Do (act.SetModule class v)
expr_received this i v operands other = move.Stuck

-- a case: its pattern, its guard where it has one, its body (SLS 8.4)
abbrev pub case_received : ℕ → Value → Option One → Move
case_received zero v guard = branched v (move.Fresh 1) move.Pass
case_received (suc zero) v (Some guard) = branched v (move.Fresh 2) move.Pass
case_received (suc i) v guard = move.End v

-- a variable of a pattern gets the value, where the pattern behind it matches (SLS 8.1.3)
abbrev pub bound : ℕ → Value → List Value → Move
bound local (value.Bool true) (v ∷ above) = move.Store local v (value.Bool true)
bound local (value.Bool false) operands = move.End (value.Bool false)
bound local other operands = move.Stuck

-- the literal, or the object, stands on the left
abbrev pub met : Value → List Value → Move
met a (v ∷ above) = move.Do (act.Compare a v)
met a [] = move.Stuck

-- the next part of a pattern of a case class, or the pattern matches (SLS 8.1.6)
abbrev pub part_next : ℕ → ℕ → ℕ → List Value → Move
part_next class count i (part ∷ of ∷ above) = next_or count i (move.Open class (i + 1) of) (move.End (value.Bool true))
part_next class count i other = move.Stuck

-- what a pattern does with the value of its child
abbrev pub pattern_received : ℕ → Value → List Value → PatternForm → Move
pattern_received i v operands (Pattern-F.Bind local p) = bound local v operands
pattern_received i v operands (Pattern-F.Literal e) = met v operands
pattern_received i v operands (Pattern-F.Object class) = met v operands
pattern_received i v operands (Pattern-F.Make class parts) = branched v (part_next class (length parts) i operands) (move.End (value.Bool false))
pattern_received i v operands (Pattern-F.Either parts) = branched v (move.End (value.Bool true)) (next_or (length parts) i (move.Turn (i + 1)) (move.End (value.Bool false)))
pattern_received i v operands other = move.Stuck

-- an object's reference is set when the constructor of the superclass is done, unless its body begins by doing that
abbrev pub sets_none : List Expr → Bool
sets_none [] = true
sets_none (first ∷ rest) = not (sets_module first)

-- whether an object definition's reference is set when this child of its constructor is done
abbrev pub publishes : Class → Kind → ℕ → Bool
publishes class kind.Object i = i == length class.params + length class.super_args && sets_none class.body
publishes class other i = false

-- what a constructor does when one of its stages is done
abbrev pub constructor_received : ℕ → Value → Class → Move
constructor_received i v class =
    if is_super_arg class class.kind i then move.Keep (i + 1) v
    else if publishes class class.kind i then move.Publish (i + 1) else move.Advance (i + 1)

-- what a node does with the value of its child with this number
abbrev pub received : Value → ℕ → Value → List Value → Shape → Move
received this i v operands (ExprShape e) = expr_received this i v operands e
received this i v operands (CaseShape c) = case_received i v c.guard
received this i v operands (PatternShape p) = pattern_received i v operands p
received this i v operands (ConstructorShape class) = constructor_received i v class
received this i v operands (StageShape stage) = move.Stuck

-- ---- a case doesn't match

-- a match of which no case matches (SLS 8.4)
abbrev pub unmatched : List Value → Move
unmatched (v ∷ above) = move.Do (act.Unmatched v)
unmatched [] = move.Stuck

-- a handler whose cases don't match lets the exception go on
abbrev pub rethrown : List Value → Move
rethrown (x ∷ above) = move.Raise x
rethrown [] = move.Stuck

-- what an expression does when a case of it doesn't match: the next case is tried
abbrev pub expr_passed : ℕ → List Value → ExprForm → Move
expr_passed i operands (Expr-F.Match of cases) = if nat_lt i (length cases) then move.Turn (i + 1) else unmatched operands
expr_passed i operands (Expr-F.Try body handler last) = if nat_lt i (handler_len handler) then move.Turn (i + 1) else rethrown operands
expr_passed i operands other = move.Stuck

-- what a node does whose case with this number doesn't match
abbrev pub passed : ℕ → List Value → Shape → Move
passed i operands (ExprShape e) = expr_passed i operands e
passed i operands other = move.Stuck

-- ---- an exception comes

-- the handler catches what comes out of the body, which is the first child
abbrev pub handled : ℕ → Value → Option CatchForm → Option Move
handled zero x (Some (Catch-F.«Catch::Any» local body)) = Some (move.Bind local x 1)
handled zero x (Some (Catch-F.Cases (c ∷ cases))) = Some (move.Keep 1 x)
handled i x other = None

-- a `finally` begins on each way out of what stands before it
abbrev pub finished : ℕ → Value → ℕ → Option One → Option Move
finished i x at (Some last) = if nat_lt i at then Some (move.Shelve at true x) else None
finished i x at None = None

-- what an expression does with an exception out of its child, if it does anything
abbrev pub expr_caught : ℕ → Value → ExprForm → Option Move
expr_caught i x (Expr-F.Try body handler last) = option_or (handled i x handler) (finished i x (1 + handler_len handler) last)
expr_caught i x other = None

-- what a node does with an exception out of its child with this number, if it does anything
abbrev pub caught : ℕ → Value → Shape → Option Move
caught i x (ExprShape e) = expr_caught i x e
caught i x other = None
