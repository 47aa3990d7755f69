-- What is known of a move from the shape of its node: how many operands it leaves for the child that begins.
use Rattle.std.proofs.Common.{◌≡◌, ℕ, zero, suc, ◌+◌, ◌-◌, ◌<◌, ◌≤◌, ◌&&◌, ℤ, pos, Bool, true, false, if◌then◌else◌, nat_eq, nat_lt, nat_le, List, [], ◌∷◌, ◌++◌, codes, length, Option, Some, None, slice_get, refl, arith, ap, sym, subst, ◌∙◌, true≢false, le-leb, leb-true, leb-false, ltb-true, lt-ltb, le-ltb, add-one, one-add}
use Rattle.ty_prog.specs.Shape.{Shape, ExprShape, CaseShape, PatternShape, ConstructorShape, StageShape, One, ExprForm, CatchForm, PatternForm, CaseForm}
use Rattle.ty_prog.specs.declared.catch.Catch.TheOpen.{Expr-F, Catch-F, Pattern-F}
use Rattle.ty_prog.specs.declared.class.Class.{Class}
use Rattle.ty_prog.specs.declared.kind.Kind.{Kind}
use Rattle.ty_prog.specs.declared.kind.Kind.TheVariants as kind
use Rattle.ty_prog.specs.declared.prim_op.PrimOp.{PrimOp}
use Rattle.ty_prog.specs.declared.prim_op.PrimOp.TheVariants as op
use Rattle.sm_state.specs.declared.value.Value.{Value}
use Rattle.sm_state.specs.declared.value.Value.TheVariants as value
use Rattle.sm_rule.specs.declared.act.Act.TheVariants as act
use Rattle.sm_rule.specs.declared.moves.Move.{Move}
use Rattle.sm_rule.specs.declared.moves.Move.TheVariants as move
use Rattle.sm_rule.specs.Moves.{expr_kept, pattern_kept, case_kept, arguments, expr_passed, expr_caught, handler_len, try_kept, is_super_arg, super_kept, kept, Sight, set_local, first_or, lone, making, printing, expr_begun, looked, pattern_begun, case_begun, constructor_begun, parameter_begun, stage_begun, begun, branched, if_received, while_received, next_or, operand_or, written, compared, exchanged, text_received, shown, thrown, unshelved, try_received, match_received, expr_received, case_received, bound, met, part_next, pattern_received, publishes, constructor_received, received, unmatched, rethrown, passed, handled, finished, caught}
use Rattle.sm_rule.specs.Values.{divided, joined, int_computed, long_computed, long_shifted, bool_computed, concatenated, values_computed, two_computed, one_computed, computed, units}
use Rattle.std.specs.Option.{option_or}
use Rattle.ty_prog.specs.declared.stage.Stage.{Stage}
use Rattle.ty_prog.specs.declared.stage.Stage.TheVariants as stage
use Rattle.std.specs.Ordering.{int_eq}
use Rattle.sl_num.specs.Division.{int_quotient, long_quotient, remainder}
use Rattle.sm_placed.specs.Placed.{awaits}

-- the case of a shape
abbrev pub IsCase : Shape → Type 0
IsCase (CaseShape c) = Unit {0}
IsCase other = ⊥

abbrev pub own_count : Option Value → ℕ
own_count None = 0
own_count (Some v) = 1

-- a move of a node of this shape, whose operands are so many: the child that begins finds as many as are kept for it. `Made`
-- is owed where the object of a constructor is made.
abbrev pub Fits : Type 0 → ℕ → Shape → Move → Type 0
Fits Made own s (move.Turn i) = kept s i ≡ own
Fits Made own s (move.Fresh i) = kept s i ≡ 0
Fits Made own s (move.Keep i v) = kept s i ≡ suc own
Fits Made own s (move.Bind x v i) = kept s i ≡ 0
Fits Made own s (move.Shelve i raised v) = kept s i ≡ 2
Fits Made own s (move.Open class i of) = kept s i ≡ 2
Fits Made own s (move.Hold class) = kept s 0 ≡ 1
Fits Made own s (move.Again v i a) = (kept s i ≡ own_count v) × (awaits s i ≡ true)
Fits Made own s move.Embody = Made
Fits Made own s (move.Advance i) = kept s i ≡ 0
Fits Made own s (move.Publish i) = kept s i ≡ 0
Fits Made own s move.Pass = IsCase s
Fits Made own s other = Unit {0}

module _ (Made : Type 0) (own : ℕ) (s : Shape) where
  -- a choice of two moves
  either : (b : Bool) (m n : Move) → (b ≡ true → Fits Made own s m) → (b ≡ false → Fits Made own s n) → Fits Made own s (if b then m else n)
  either true m n holds fails = holds refl
  either false m n holds fails = fails refl

  branched_fits : (v : Value) (m n : Move) → Fits Made own s m → Fits Made own s n → Fits Made own s (branched v m n)
  branched_fits (value.Bool true) m n h k = h
  branched_fits (value.Bool false) m n h k = k
  branched_fits value.Unit m n h k = tt
  branched_fits _ m n h k = tt

  -- an operator only computes
  fails_or_fits : (b : Bool) (class : ℕ) (message v : Value) → Fits Made own s (if b then move.Fail class message else move.End v)
  fails_or_fits true class message v = tt
  fails_or_fits false class message v = tt

  divided_fits : (b : ℤ) (v : Value) → Fits Made own s (divided b v)
  divided_fits b v = fails_or_fits (int_eq b (pos 0)) _ _ v

  int_fits : (o : PrimOp) (a b : ℤ) → Fits Made own s (int_computed o a b)
  int_fits op.Div a b = divided_fits b (value.Int (int_quotient a b))
  int_fits op.Rem a b = divided_fits b (value.Int (remainder a b))
  int_fits op.Add a b = tt
  int_fits _ a b = tt

  long_fits : (o : PrimOp) (a b : ℤ) → Fits Made own s (long_computed o a b)
  long_fits op.Div a b = divided_fits b (value.Long (long_quotient a b))
  long_fits op.Rem a b = divided_fits b (value.Long (remainder a b))
  long_fits op.Add a b = tt
  long_fits _ a b = tt

  shifted_fits : (o : PrimOp) (a b : ℤ) → Fits Made own s (long_shifted o a b)
  shifted_fits op.Shl a b = tt
  shifted_fits _ a b = tt

  bool_fits : (o : PrimOp) (a b : Bool) → Fits Made own s (bool_computed o a b)
  bool_fits op.And a b = tt
  bool_fits _ a b = tt

  joined_fits : (a b : List ℕ) → Fits Made own s (joined a b)
  joined_fits a b = fails_or_fits (nat_lt 1000000 (units a + units b)) _ _ (value.Text (a ++ b))

  concatenated_fits : (a b : Value) → Fits Made own s (concatenated a b)
  concatenated_fits (value.Text a) (value.Text b) = joined_fits a b
  concatenated_fits (value.Text a) _ = tt
  concatenated_fits value.Null b = tt
  concatenated_fits _ b = tt

  values_fit : (o : PrimOp) (a b : Value) → Fits Made own s (values_computed o a b)
  values_fit o (value.Int a) (value.Int b) = int_fits o a b
  values_fit o (value.Int a) _ = tt
  values_fit o (value.Long a) (value.Long b) = long_fits o a b
  values_fit o (value.Long a) (value.Int b) = shifted_fits o a b
  values_fit o (value.Long a) _ = tt
  values_fit o (value.Bool a) (value.Bool b) = bool_fits o a b
  values_fit o (value.Bool a) _ = tt
  values_fit o value.Unit b = tt
  values_fit o _ b = tt

  two_fit : (o : PrimOp) (a b : Value) → Fits Made own s (two_computed o a b)
  two_fit op.Same a b = tt
  two_fit op.Equals a b = tt
  two_fit op.Concat a b = concatenated_fits a b
  two_fit op.Add a b = values_fit op.Add a b
  two_fit o a b = values_fit o a b

  not_fits : (v : Value) → Fits Made own s (one_computed op.Not v)
  not_fits (value.Bool a) = tt
  not_fits _ = tt

  length_fits : (v : Value) → Fits Made own s (one_computed op.Length v)
  length_fits (value.Text t) = tt
  length_fits value.Null = tt
  length_fits _ = tt

  empty_fits : (v : Value) → Fits Made own s (one_computed op.IsEmpty v)
  empty_fits (value.Text t) = tt
  empty_fits value.Null = tt
  empty_fits _ = tt

  one_fits : (o : PrimOp) (v : Value) → Fits Made own s (one_computed o v)
  one_fits op.Not v = not_fits v
  one_fits op.Length v = length_fits v
  one_fits op.IsEmpty v = empty_fits v
  one_fits op.ToString v = tt
  one_fits op.ClassName v = tt
  one_fits op.Add v = tt
  one_fits _ v = tt

  computed_fits : (o : PrimOp) (v : Value) (operands : List Value) → Fits Made own s (computed o v operands)
  computed_fits o v [] = one_fits o v
  computed_fits o v (a ∷ []) = two_fit o a v
  computed_fits o v (a ∷ b ∷ rest) = tt

  shown_fits : (use_text : List ℕ → Move) → ((t : List ℕ) → Fits Made own s (use_text t)) → (v : Value) → Fits Made own s (shown use_text v)
  shown_fits use_text h (value.Text t) = h t
  shown_fits use_text h value.Null = h (codes "null")
  shown_fits use_text h _ = tt

  thrown_fits : (v : Value) → Fits Made own s (thrown v)
  thrown_fits (value.Ref r) = tt
  thrown_fits value.Null = tt
  thrown_fits _ = tt

  truth_of_shelf : (v : Value) (rest : List Value) (x : Value) → Fits Made own s (unshelved (x ∷ v ∷ rest))
  truth_of_shelf (value.Bool true) rest x = tt
  truth_of_shelf (value.Bool false) rest x = tt
  truth_of_shelf _ rest x = tt

  unshelved_fits : (operands : List Value) → Fits Made own s (unshelved operands)
  unshelved_fits [] = tt
  unshelved_fits (x ∷ []) = tt
  unshelved_fits (x ∷ v ∷ rest) = truth_of_shelf v rest x

  set_local_fits : (o : Option (Option Value)) → Fits Made own s (set_local o)
  set_local_fits None = tt
  set_local_fits (Some None) = tt
  set_local_fits (Some (Some v)) = tt

  lone_fits : (o : PrimOp) → Fits Made own s (lone o)
  lone_fits op.Evaluating = tt
  lone_fits op.NullValue = tt
  lone_fits _ = tt

  first_fits : {A : Type 0} (es : List A) (m : Move) → kept s 0 ≡ own → Fits Made own s m → Fits Made own s (first_or es m)
  first_fits [] m none h = h
  first_fits (e ∷ es) m none h = none

  bound_fits : (x : ℕ) (v : Value) (operands : List Value) → Fits Made own s (bound x v operands)
  bound_fits x (value.Bool true) [] = tt
  bound_fits x (value.Bool true) (v ∷ above) = tt
  bound_fits x (value.Bool false) operands = tt
  bound_fits x _ operands = tt

  met_fits : (v : Value) (operands : List Value) → Fits Made own s (met v operands)
  met_fits v [] = tt
  met_fits v (a ∷ above) = tt

  unmatched_fits : (operands : List Value) → Fits Made own s (unmatched operands)
  unmatched_fits [] = tt
  unmatched_fits (v ∷ above) = tt

  rethrown_fits : (operands : List Value) → Fits Made own s (rethrown operands)
  rethrown_fits [] = tt
  rethrown_fits (v ∷ above) = tt

-- ---- how many operands are kept for a child that begins next

none_below_zero : (i : ℕ) → nat_lt (i + 1) 0 ≡ true → ⊥
none_below_zero i e = omega (arith, ltb-true (i + 1) 0 e)

super_kept_first : (class : Class) (k : Kind) → super_kept class k 0 ≡ 0
super_kept_first class kind.Trait = refl
super_kept_first class kind.Class = first (nat_le 0 (length class.params + length class.super_args))
  where
    first : (b : Bool) → (if b then 0 - length class.params else 0) ≡ 0
    first true = omega arith
    first false = refl
super_kept_first class kind.Abstract = first (nat_le 0 (length class.params + length class.super_args))
  where
    first : (b : Bool) → (if b then 0 - length class.params else 0) ≡ 0
    first true = omega arith
    first false = refl
super_kept_first class kind.Object = first (nat_le 0 (length class.params + length class.super_args))
  where
    first : (b : Bool) → (if b then 0 - length class.params else 0) ≡ 0
    first true = omega arith
    first false = refl

module _ (m n i : ℕ) where
  abbrev is_arg : Bool
  is_arg = nat_le m i && nat_lt i (m + n)

  abbrev args_kept : ℕ → ℕ
  args_kept j = if nat_le j (m + n) then j - m else 0

  first_true : (a b : Bool) → (a && b) ≡ true → a ≡ true
  first_true true b e = refl
  first_true false b e = e

  second_true : (a b : Bool) → (a && b) ≡ true → b ≡ true
  second_true true b e = e
  second_true false b e = absurd (true≢false (sym e))

  args_more : is_arg ≡ true → args_kept (i + 1) ≡ suc (args_kept i)
  args_more e =
      let low : m ≤ i = leb-true m i (first_true (nat_le m i) (nat_lt i (m + n)) e) in
      let high : i < m + n = ltb-true i (m + n) (second_true (nat_le m i) (nat_lt i (m + n)) e) in
      let one : nat_le (i + 1) (m + n) ≡ true = le-leb (i + 1) (m + n) (omega (arith, high)) in
      let other : nat_le i (m + n) ≡ true = le-leb i (m + n) (omega (arith, high)) in
      let counts : i + 1 - m ≡ suc (i - m) = omega (arith, low) in
      rw (one, other) counts

  args_over : (b : Bool) → nat_le (i + 1) (m + n) ≡ b → (a : Bool) → nat_le m i ≡ a → (a && nat_lt i (m + n)) ≡ false → (if b then i + 1 - m else 0) ≡ 0
  args_over false low a is e = refl
  args_over true low true is e = absurd (true≢false (sym (lt-ltb i (m + n) (omega (arith, leb-true (i + 1) (m + n) low))) ∙ e))
  args_over true low false is e =
      let less : i < m = leb-false m i is in
      omega (arith, less)

  args_none : is_arg ≡ false → args_kept (i + 1) ≡ 0
  args_none e = args_over (nat_le (i + 1) (m + n)) refl (nat_le m i) refl e

super_kept_more : (class : Class) (k : Kind) (i : ℕ) → is_super_arg class k i ≡ true → super_kept class k (i + 1) ≡ suc (super_kept class k i)
super_kept_more class kind.Trait i e = absurd (true≢false (sym e))
super_kept_more class kind.Class i e = args_more (length class.params) (length class.super_args) i e
super_kept_more class kind.Abstract i e = args_more (length class.params) (length class.super_args) i e
super_kept_more class kind.Object i e = args_more (length class.params) (length class.super_args) i e

super_kept_none : (class : Class) (k : Kind) (i : ℕ) → is_super_arg class k i ≡ false → super_kept class k (i + 1) ≡ 0
super_kept_none class kind.Trait i e = refl
super_kept_none class kind.Class i e = args_none (length class.params) (length class.super_args) i e
super_kept_none class kind.Abstract i e = args_none (length class.params) (length class.super_args) i e
super_kept_none class kind.Object i e = args_none (length class.params) (length class.super_args) i e

-- a `finally` keeps two values
last_kept : (handler : Option CatchForm) → try_kept handler (1 + handler_len handler) ≡ 2
last_kept handler =
    let n = handler_len handler in
    let over : nat_lt n n ≡ false = le-ltb n n (omega arith) in
    subst (λ i. try_kept handler i ≡ 2) (sym (one-add n)) (rw over refl)

-- the case behind another one
next_case_kept : (handler : Option CatchForm) (i : ℕ) → nat_lt (suc i) (handler_len handler) ≡ true → try_kept handler (suc i + 1) ≡ try_kept handler (suc i)
next_case_kept handler i e =
    let here : nat_lt i (handler_len handler) ≡ true = lt-ltb i (handler_len handler) (omega (arith, ltb-true (suc i) (handler_len handler) e)) in
    subst (λ j. try_kept handler j ≡ try_kept handler (suc i)) (sym (add-one (suc i))) (rw (e, here) refl)

-- ---- a node gets a value

module _ (Made : Type 0) (this : Value) (i : ℕ) (v : Value) (operands : List Value) where
  -- operands are kept one after another
  args_fit : (form : ExprForm) (count : ℕ) (last : Move) → expr_kept form (i + 1) ≡ i + 1 → expr_kept form i ≡ i → Fits Made (expr_kept form i) (ExprShape form) last
      → Fits Made (expr_kept form i) (ExprShape form) (operand_or count i v last)
  args_fit form count last next here h = either Made (expr_kept form i) (ExprShape form) (nat_lt (i + 1) count) (move.Keep (i + 1) v) last (λ e. next ∙ add-one i ∙ ap suc (sym here)) (λ e. h)

  new_fits : (class : ℕ) (args : List One) → Fits Made (expr_kept (Expr-F.New class args) i) (ExprShape (Expr-F.New class args)) (expr_received this i v operands (Expr-F.New class args))
  new_fits class [] = either Made 0 (ExprShape (Expr-F.New class [])) (nat_lt (i + 1) 0) (move.Keep (i + 1) v) (move.Do (act.Construct class (arguments v operands))) (λ e. absurd (none_below_zero i e)) (λ e. tt)
  new_fits class (a ∷ args) = either Made (i + 1) (ExprShape (Expr-F.New class (a ∷ args))) (nat_lt (i + 1) (length (a ∷ args))) (move.Keep (i + 1) v) (move.Do (act.Construct class (arguments v operands))) (λ e. add-one (i + 1)) (λ e. tt)

  block_fits : (es : List One) → Fits Made 0 (ExprShape (Expr-F.Block es)) (expr_received this i v operands (Expr-F.Block es))
  block_fits es = either Made 0 (ExprShape (Expr-F.Block es)) (nat_lt (i + 1) (length es)) (move.Turn (i + 1)) (move.End v) (λ e. refl) (λ e. tt)

  try_fits : (body : One) (handler : Option CatchForm) (last last' : Option One)
      → Fits Made (try_kept handler i) (ExprShape (Expr-F.Try body handler last)) (try_received i v operands (1 + handler_len handler) last')
  try_fits body handler last None = tt
  try_fits body handler last (Some e) =
      either Made (try_kept handler i) (ExprShape (Expr-F.Try body handler last)) (nat_eq i (1 + handler_len handler)) (unshelved operands) (move.Shelve (1 + handler_len handler) false v)
      (λ e. unshelved_fits Made (try_kept handler i) (ExprShape (Expr-F.Try body handler last)) operands) (λ e. last_kept handler)

match_fits : (Made : Type 0) (i : ℕ) (v : Value) (of : One) (cases : List One) → Fits Made (expr_kept (Expr-F.Match of cases) i) (ExprShape (Expr-F.Match of cases)) (match_received i v cases)
match_fits Made zero v of [] = tt
match_fits Made zero v of (c ∷ cases) = refl
match_fits Made (suc i) v of cases = tt

put_fits : (Made : Type 0) (i : ℕ) (v : Value) (operands : List Value) (of new : One) (class field : ℕ) → Fits Made i (ExprShape (Expr-F.Put of class field new)) (written class field i v operands)
put_fits Made zero v operands of new class field = refl
put_fits Made (suc i) v [] of new class field = tt
put_fits Made (suc i) v (a ∷ above) of new class field = tt

equal_fits : (Made : Type 0) (i : ℕ) (v : Value) (operands : List Value) (a b : One) → Fits Made i (ExprShape (Expr-F.Equal a b)) (compared i v operands)
equal_fits Made zero v operands a b = refl
equal_fits Made (suc i) v [] a b = tt
equal_fits Made (suc i) v (x ∷ above) a b = tt

cas_fits : (Made : Type 0) (i : ℕ) (v : Value) (operands : List Value) (of old new : One) (class field : ℕ) → Fits Made i (ExprShape (Expr-F.Cas of class field old new)) (exchanged class field i v operands)
cas_fits Made zero v operands of old new class field = refl
cas_fits Made (suc zero) v operands of old new class field = refl
cas_fits Made (suc (suc i)) v [] of old new class field = tt
cas_fits Made (suc (suc i)) v (a ∷ []) of old new class field = tt
cas_fits Made (suc (suc i)) v (a ∷ b ∷ above) of old new class field = tt

text_fits : (Made : Type 0) (i : ℕ) (v : Value) (e : One) → Fits Made 0 (ExprShape (Expr-F.TextOf e)) (text_received i (λ t. move.End (value.Text t)) v)
text_fits Made zero v e = (refl, refl)
text_fits Made (suc i) v e = shown_fits Made 0 (ExprShape (Expr-F.TextOf e)) (λ t. move.End (value.Text t)) (λ t. tt) v

line_fits : (Made : Type 0) (i : ℕ) (v : Value) (e : Option One) → Fits Made 0 (ExprShape (Expr-F.Println e)) (text_received i (λ t. move.Do (act.Print t)) v)
line_fits Made zero v e = (refl, refl)
line_fits Made (suc i) v e = shown_fits Made 0 (ExprShape (Expr-F.Println e)) (λ t. move.Do (act.Print t)) (λ t. tt) v

if_fits : (Made : Type 0) (i : ℕ) (v : Value) (c a b : One) → Fits Made 0 (ExprShape (Expr-F.If c a b)) (if_received i v)
if_fits Made zero v c a b = branched_fits Made 0 (ExprShape (Expr-F.If c a b)) v (move.Turn 1) (move.Turn 2) refl refl
if_fits Made (suc i) v c a b = tt

while_fits : (Made : Type 0) (i : ℕ) (v : Value) (c b : One) → Fits Made 0 (ExprShape (Expr-F.While c b)) (while_received i v)
while_fits Made zero v c b = branched_fits Made 0 (ExprShape (Expr-F.While c b)) v (move.Turn 1) (move.End value.Unit) refl tt
while_fits Made (suc i) v c b = refl

expr_fits : (Made : Type 0) (this : Value) (i : ℕ) (v : Value) (operands : List Value) (form : ExprForm) → Fits Made (expr_kept form i) (ExprShape form) (expr_received this i v operands form)
expr_fits Made this i v operands (Expr-F.SetLocal x e) = tt
expr_fits Made this i v operands (Expr-F.Get of class field) = tt
expr_fits Made this i v operands (Expr-F.Put of class field new) = put_fits Made i v operands of new class field
expr_fits Made this i v operands (Expr-F.Call of class method args) =
    args_fit Made this i v operands (Expr-F.Call of class method args) (suc (length args)) (move.Do (act.Call class method (arguments v operands))) refl refl tt
expr_fits Made this i v operands (Expr-F.New class args) = new_fits Made this i v operands class args
expr_fits Made this i v operands (Expr-F.Prim o args) =
    args_fit Made this i v operands (Expr-F.Prim o args) (length args) (computed o v operands) refl refl (computed_fits Made i (ExprShape (Expr-F.Prim o args)) o v operands)
expr_fits Made this i v operands (Expr-F.Convert to of) = tt
expr_fits Made this i v operands (Expr-F.Equal a b) = equal_fits Made i v operands a b
expr_fits Made this i v operands (Expr-F.TextOf e) = text_fits Made i v e
expr_fits Made this i v operands (Expr-F.Println e) = line_fits Made i v e
expr_fits Made this i v operands (Expr-F.If c a b) = if_fits Made i v c a b
expr_fits Made this i v operands (Expr-F.While c b) = while_fits Made i v c b
expr_fits Made this i v operands (Expr-F.Block es) = block_fits Made this i v operands es
expr_fits Made this i v operands (Expr-F.Try body handler last) = try_fits Made this i v operands body handler last last
expr_fits Made this i v operands (Expr-F.Throw e) = thrown_fits Made 0 (ExprShape (Expr-F.Throw e)) v
expr_fits Made this i v operands (Expr-F.Start e) = tt
expr_fits Made this i v operands (Expr-F.Match of cases) = match_fits Made i v of cases
expr_fits Made this i v operands (Expr-F.LazyGet of class cell) = tt
expr_fits Made this i v operands (Expr-F.SuperCall after name args) =
    args_fit Made this i v operands (Expr-F.SuperCall after name args) (length args) (move.Do (act.CallSuper after name this (arguments v operands))) refl refl tt
expr_fits Made this i v operands (Expr-F.Test of test) = tt
expr_fits Made this i v operands (Expr-F.Cas of class field old new) = cas_fits Made i v operands of old new class field
expr_fits Made this i v operands (Expr-F.NewLatch e) = tt
expr_fits Made this i v operands (Expr-F.OwnedHere e) = tt
expr_fits Made this i v operands (Expr-F.Await e) = tt
expr_fits Made this i v operands (Expr-F.CountDown e) = tt
expr_fits Made this i v operands (Expr-F.StaticCall class method args) =
    args_fit Made this i v operands (Expr-F.StaticCall class method args) (length args) (move.Do (act.CallDirectly class method (arguments v operands))) refl refl tt
expr_fits Made this i v operands (Expr-F.SetModule class e) = tt
expr_fits Made this i v operands _ = tt

case_fits : (Made : Type 0) (i : ℕ) (v : Value) (c : CaseForm) (guard : Option One) → Fits Made (case_kept i) (CaseShape c) (case_received i v guard)
case_fits Made zero v c guard = branched_fits Made 1 (CaseShape c) v (move.Fresh 1) move.Pass refl tt
case_fits Made (suc zero) v c (Some g) = branched_fits Made 0 (CaseShape c) v (move.Fresh 2) move.Pass refl tt
case_fits Made (suc zero) v c None = tt
case_fits Made (suc (suc i)) v c guard = tt

part_next_fits : (Made : Type 0) (i class count : ℕ) (operands : List Value) (parts : List One) → Fits Made 2 (PatternShape (Pattern-F.Make class parts)) (part_next class count i operands)
part_next_fits Made i class count [] parts = tt
part_next_fits Made i class count (a ∷ []) parts = tt
part_next_fits Made i class count (part ∷ of ∷ above) parts =
    either Made 2 (PatternShape (Pattern-F.Make class parts)) (nat_lt (i + 1) count) (move.Open class (i + 1) of) (move.End (value.Bool true)) (λ e. refl) (λ e. tt)

pattern_fits : (Made : Type 0) (i : ℕ) (v : Value) (operands : List Value) (p : PatternForm) → Fits Made (pattern_kept p) (PatternShape p) (pattern_received i v operands p)
pattern_fits Made i v operands (Pattern-F.Bind x p) = bound_fits Made 1 (PatternShape (Pattern-F.Bind x p)) x v operands
pattern_fits Made i v operands (Pattern-F.Literal e) = met_fits Made 1 (PatternShape (Pattern-F.Literal e)) v operands
pattern_fits Made i v operands (Pattern-F.Object class) = met_fits Made 1 (PatternShape (Pattern-F.Object class)) v operands
pattern_fits Made i v operands (Pattern-F.Make class parts) =
    branched_fits Made 2 (PatternShape (Pattern-F.Make class parts)) v (part_next class (length parts) i operands) (move.End (value.Bool false)) (part_next_fits Made i class (length parts) operands parts) tt
pattern_fits Made i v operands (Pattern-F.Either parts) =
    branched_fits Made 1 (PatternShape (Pattern-F.Either parts)) v (move.End (value.Bool true)) (next_or (length parts) i (move.Turn (i + 1)) (move.End (value.Bool false))) tt
    (either Made 1 (PatternShape (Pattern-F.Either parts)) (nat_lt (i + 1) (length parts)) (move.Turn (i + 1)) (move.End (value.Bool false)) (λ e. refl) (λ e. tt))
pattern_fits Made i v operands _ = tt

constructor_fits : (Made : Type 0) (i : ℕ) (v : Value) (class : Class) → Fits Made (super_kept class class.kind i) (ConstructorShape class) (constructor_received i v class)
constructor_fits Made i v class =
    either Made own s (is_super_arg class class.kind i) (move.Keep (i + 1) v) later (λ e. super_kept_more class class.kind i e)
    (λ e. either Made own s (publishes class class.kind i) (move.Publish (i + 1)) (move.Advance (i + 1)) (λ b. super_kept_none class class.kind i e) (λ b. super_kept_none class class.kind i e))
  where
    own : ℕ
    own = super_kept class class.kind i

    s : Shape
    s = ConstructorShape class

    later : Move
    later = if publishes class class.kind i then move.Publish (i + 1) else move.Advance (i + 1)

pub received_fits : (Made : Type 0) (this : Value) (i : ℕ) (v : Value) (operands : List Value) (s : Shape) → Fits Made (kept s i) s (received this i v operands s)
received_fits Made this i v operands (ExprShape e) = expr_fits Made this i v operands e
received_fits Made this i v operands (CaseShape c) = case_fits Made i v c c.guard
received_fits Made this i v operands (PatternShape p) = pattern_fits Made i v operands p
received_fits Made this i v operands (ConstructorShape class) = constructor_fits Made i v class
received_fits Made this i v operands (StageShape stage) = tt

-- ---- a node begins

making_fits : (Made : Type 0) (class : ℕ) (args : List One) → Fits Made 0 (ExprShape (Expr-F.New class args)) (making class args)
making_fits Made class [] = (refl, refl)
making_fits Made class (a ∷ args) = refl

printing_fits : (Made : Type 0) (e : Option One) → Fits Made 0 (ExprShape (Expr-F.Println e)) (printing e)
printing_fits Made None = tt
printing_fits Made (Some e) = refl

expr_begun_fits : (Made : Type 0) (s : Sight) (form : ExprForm) → Fits Made 0 (ExprShape form) (expr_begun s form)
expr_begun_fits Made s (Expr-F.Int n) = tt
expr_begun_fits Made s (Expr-F.Long n) = tt
expr_begun_fits Made s (Expr-F.Bool b) = tt
expr_begun_fits Made s (Expr-F.Text t) = tt
expr_begun_fits Made s Expr-F.Null = tt
expr_begun_fits Made s Expr-F.Unit = tt
expr_begun_fits Made s Expr-F.This = tt
expr_begun_fits Made s (Expr-F.Local x) = set_local_fits Made 0 (ExprShape (Expr-F.Local x)) (slice_get s.locals x)
expr_begun_fits Made s (Expr-F.Block es) = first_fits Made 0 (ExprShape (Expr-F.Block es)) es (move.End value.Unit) refl tt
expr_begun_fits Made s (Expr-F.Prim o args) = first_fits Made 0 (ExprShape (Expr-F.Prim o args)) args (lone o) refl (lone_fits Made 0 (ExprShape (Expr-F.Prim o args)) o)
expr_begun_fits Made s (Expr-F.New class args) = making_fits Made class args
expr_begun_fits Made s (Expr-F.Println e) = printing_fits Made e
expr_begun_fits Made s (Expr-F.SuperCall after name args) = first_fits Made 0 (ExprShape (Expr-F.SuperCall after name args)) args (move.Do (act.CallSuper after name s.this [])) refl tt
expr_begun_fits Made s (Expr-F.StaticCall class method args) = first_fits Made 0 (ExprShape (Expr-F.StaticCall class method args)) args (move.Do (act.CallDirectly class method [])) refl tt
expr_begun_fits Made s (Expr-F.ObjectGet class) = tt
expr_begun_fits Made s (Expr-F.ModuleGet class) = tt
expr_begun_fits Made s _ = refl

looked_fits : (Made : Type 0) (v : Value) (p : PatternForm) → Fits Made 0 (PatternShape p) (looked v p)
looked_fits Made v (Pattern-F.Make class []) = tt
looked_fits Made v (Pattern-F.Make class (p ∷ parts)) = refl
looked_fits Made v (Pattern-F.Either []) = tt
looked_fits Made v (Pattern-F.Either (p ∷ parts)) = refl
looked_fits Made v Pattern-F.«Pattern::Any» = tt
looked_fits Made v (Pattern-F.Bind x p) = refl
looked_fits Made v (Pattern-F.OfType type) = tt
looked_fits Made v (Pattern-F.Literal e) = refl
looked_fits Made v (Pattern-F.Object class) = (refl, refl)

pattern_begun_fits : (Made : Type 0) (operands : List Value) (p : PatternForm) → Fits Made 0 (PatternShape p) (pattern_begun operands p)
pattern_begun_fits Made [] p = tt
pattern_begun_fits Made (v ∷ above) p = looked_fits Made v p

case_begun_fits : (Made : Type 0) (operands : List Value) (c : CaseForm) → Fits Made 0 (CaseShape c) (case_begun operands)
case_begun_fits Made [] c = tt
case_begun_fits Made (v ∷ above) c = refl

constructor_begun_fits : (Made : Type 0) (this : Value) → (this ≡ value.Null → Made) → (class : Class) → Fits Made 0 (ConstructorShape class) (constructor_begun this)
constructor_begun_fits Made value.Null made class = made refl
constructor_begun_fits Made value.Unit made class = super_kept_first class class.kind
constructor_begun_fits Made _ made class = super_kept_first class class.kind

parameter_fits : (Made : Type 0) (own : ℕ) (shape : Shape) (s : Sight) (field : ℕ) (o : Option (Option Value)) → Fits Made own shape (parameter_begun s field o)
parameter_fits Made own shape s field None = tt
parameter_fits Made own shape s field (Some None) = tt
parameter_fits Made own shape s field (Some (Some v)) = tt

stage_begun_fits : (Made : Type 0) (s : Sight) (st : Stage) → Fits Made 0 (StageShape st) (stage_begun s st)
stage_begun_fits Made s (stage.Parameter field) = parameter_fits Made 0 (StageShape (stage.Parameter field)) s field (slice_get s.locals s.child)
stage_begun_fits Made s stage.Superclass = tt
stage_begun_fits Made s (stage.Mixin trait) = tt

pub begun_fits : (Made : Type 0) (s : Sight) → (s.this ≡ value.Null → Made) → (shape : Shape) → Fits Made 0 shape (begun s shape)
begun_fits Made s made (ExprShape e) = expr_begun_fits Made s e
begun_fits Made s made (CaseShape c) = case_begun_fits Made s.operands c
begun_fits Made s made (PatternShape p) = pattern_begun_fits Made s.operands p
begun_fits Made s made (ConstructorShape class) = constructor_begun_fits Made s.this made class
begun_fits Made s made (StageShape st) = stage_begun_fits Made s st

-- ---- a case doesn't match, and it isn't the first child

expr_passed_fits : (Made : Type 0) (i : ℕ) (operands : List Value) (form : ExprForm) → Fits Made (expr_kept form (suc i)) (ExprShape form) (expr_passed (suc i) operands form)
expr_passed_fits Made i operands (Expr-F.Match of cases) =
    either Made 1 (ExprShape (Expr-F.Match of cases)) (nat_lt (suc i) (length cases)) (move.Turn (suc i + 1)) (unmatched operands)
    (λ e. subst (λ j. expr_kept (Expr-F.Match of cases) j ≡ 1) (sym (add-one (suc i))) refl) (λ e. unmatched_fits Made 1 (ExprShape (Expr-F.Match of cases)) operands)
expr_passed_fits Made i operands (Expr-F.Try body handler last) =
    either Made (try_kept handler (suc i)) (ExprShape (Expr-F.Try body handler last)) (nat_lt (suc i) (handler_len handler)) (move.Turn (suc i + 1)) (rethrown operands)
    (λ e. next_case_kept handler i e) (λ e. rethrown_fits Made (try_kept handler (suc i)) (ExprShape (Expr-F.Try body handler last)) operands)
expr_passed_fits Made i operands _ = tt

pub passed_fits : (Made : Type 0) (i : ℕ) (operands : List Value) (s : Shape) → Fits Made (kept s (suc i)) s (passed (suc i) operands s)
passed_fits Made i operands (ExprShape e) = expr_passed_fits Made i operands e
passed_fits Made i operands (CaseShape c) = tt
passed_fits Made i operands (PatternShape p) = tt
passed_fits Made i operands (ConstructorShape class) = tt
passed_fits Made i operands (StageShape stage) = tt

-- ---- an exception comes

abbrev pub SomeFits : Shape → Option Move → Type 0
SomeFits s None = Unit {0}
SomeFits s (Some m) = Fits ⊥ 0 s m

or_fits : (s : Shape) (one other : Option Move) → SomeFits s one → SomeFits s other → SomeFits s (option_or one other)
or_fits s None other h k = k
or_fits s (Some m) other h k = h

handled_fits : (i : ℕ) (x : Value) (body : One) (handler : Option CatchForm) (last : Option One) → SomeFits (ExprShape (Expr-F.Try body handler last)) (handled i x handler)
handled_fits zero x body (Some (Catch-F.«Catch::Any» local e)) last = refl
handled_fits zero x body (Some (Catch-F.Cases (c ∷ cases))) last =
    let there : nat_lt 0 (length (c ∷ cases)) ≡ true = lt-ltb 0 (length (c ∷ cases)) (omega arith) in
    rw there refl
handled_fits zero x body (Some (Catch-F.Cases [])) last = tt
handled_fits zero x body None last = tt
handled_fits (suc i) x body (Some (Catch-F.«Catch::Any» local e)) last = tt
handled_fits (suc i) x body (Some (Catch-F.Cases cases)) last = tt
handled_fits (suc i) x body None last = tt

shelf_fits : (s : Shape) (b : Bool) (at : ℕ) (x : Value) → kept s at ≡ 2 → SomeFits s (if b then Some (move.Shelve at true x) else None)
shelf_fits s true at x h = h
shelf_fits s false at x h = tt

finished_fits : (s : Shape) (i : ℕ) (x : Value) (at : ℕ) (last : Option One) → kept s at ≡ 2 → SomeFits s (finished i x at last)
finished_fits s i x at None h = tt
finished_fits s i x at (Some e) h = shelf_fits s (nat_lt i at) at x h

expr_caught_fits : (i : ℕ) (x : Value) (form : ExprForm) → SomeFits (ExprShape form) (expr_caught i x form)
expr_caught_fits i x (Expr-F.Try body handler last) =
    or_fits (ExprShape (Expr-F.Try body handler last)) (handled i x handler) (finished i x (1 + handler_len handler) last) (handled_fits i x body handler last)
    (finished_fits (ExprShape (Expr-F.Try body handler last)) i x (1 + handler_len handler) last (last_kept handler))
expr_caught_fits i x (Expr-F.Int n) = tt
expr_caught_fits i x _ = tt

pub caught_fits : (i : ℕ) (x : Value) (s : Shape) → SomeFits s (caught i x s)
caught_fits i x (ExprShape e) = expr_caught_fits i x e
caught_fits i x (CaseShape c) = tt
caught_fits i x (PatternShape p) = tt
caught_fits i x (ConstructorShape class) = tt
caught_fits i x (StageShape stage) = tt
