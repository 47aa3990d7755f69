-- Three readers: one that stops for depth at once, one that does so until k tokens are left, and one that goes deeper. Where
-- the first doesn't stop for depth they are alike. Where it does with more than k tokens left, the second stops too, and
-- else the second is the third.
use Rattle.std.proofs.Common.{◌≡◌, ℕ, zero, suc, ◌≤◌, ◌<◌, Bool, true, false, List, [], ◌∷◌, ◌++◌, length, Option, Some, None, Ok, Err, refl, sym, ap, subst, ◌∙◌, arith}
use Rattle.std.specs.Prelude.{if◌then◌else◌}
use Rattle.std.proofs.lemmas.List.{length-append}
use Rattle.sl_text.specs.declared.span.Span.{Span}
use Rattle.sl_ast.specs.declared.token.Token.{Token}
use Rattle.sl_parse_expr.specs.declared.ahead.Ahead.{Ahead}
use Rattle.sl_parse_expr.specs.Reading.{Stop, State, Outcome, Reader, and_then, ◌>>=◌, pure, ahead, nothing, rest, first, hold, look, choose_by, choose, option, if_clean, shorter, fold, fold_from, expect, one, one_by}
use Rattle.sl_parse_expr.specs.Reading as reading
use Rattle.sl_parse_expr.proofs.Theory.{Good, err_of, stop, ok_2}
use Rattle.sl_parse_expr.proofs.Loops.{Eats}

-- at most k tokens are left behind what was read
abbrev pub Few : {A : Type 0} → ℕ → Outcome A → Type 0
Few k (Ok q) = length q.1.1 ≤ k
Few k (Err s) = Unit {0}

pub data AtOne {A : Type 0} (k : ℕ) (x u y : Outcome A) : Type 0 where
  alike : x ≡ u → u ≡ y → AtOne k x u y
  passed : (at : List Token) → x ≡ err_of (stop true at) → length at ≤ k → u ≡ y → Few k u → AtOne k x u y
  stopped : (at : List Token) → x ≡ err_of (stop true at) → u ≡ err_of (stop true at) → k < length at → AtOne k x u y

-- the same, however the outcomes are written
along : {A : Type 0} {k : ℕ} {x u y x2 u2 y2 : Outcome A} → x ≡ x2 → u ≡ u2 → y ≡ y2 → AtOne k x2 u2 y2 → AtOne k x u y
along i j l (alike a b) = alike (i ∙ a ∙ sym j) (j ∙ b ∙ sym l)
along {k = k} i j l (passed at a b c few) = passed at (i ∙ a) b (j ∙ c ∙ sym l) (subst (λ (o : Outcome _). Few k o) (sym j) few)
along i j l (stopped at a b c) = stopped at (i ∙ a) (j ∙ b) c

pub record Tied {A : Type 0} (k : ℕ) (x u y : Reader A) : Type 0 where
  pub tied : (st : State) → AtOne k (x st) (u st) (y st)
  -- from few tokens the second is the third
  pub near : (st : State) → length st.1 ≤ k → u st ≡ y st
  pub less : (st : State) (v : A) (new : State) → u st ≡ Ok (v, new) → length new.1 ≤ length st.1

-- what the second reads the third does
pub reads_too : {A : Type 0} {k : ℕ} {x u y : Reader A} → Tied k x u y → (st : State) (q : A × State) → u st ≡ Ok q → y st ≡ Ok q
reads_too {A} {k} {x} {u} {y} t st q e = go (t.tied st)
  where
    go : AtOne k (x st) (u st) (y st) → y st ≡ Ok q
    go (alike i j) = sym j ∙ e
    go (passed at i l j few) = sym j ∙ e
    go (stopped at i j l) = let h : err_of (stop true at) ≡ Ok q = sym j ∙ e in absurd cc

pub eats_too : {A : Type 0} {k : ℕ} {x u y : Reader A} → Tied k x u y → Eats y → Eats u
eats_too t h = record { eats = λ st x new e. h.eats st x new (reads_too t st (x, new) e) }

-- ---- a reader that nests nothing

pub alone : {A : Type 0} (k : ℕ) (q : Reader A) → ((st : State) (v : A) (new : State) → q st ≡ Ok (v, new) → length new.1 ≤ length st.1) → Tied k q q q
alone k q less = record { tied = λ st. alike refl refl; near = λ st l. refl; less = less }

-- a reader that depends on the tokens that it takes alone
pub plainly : {A : Type 0} {ends : Ahead → Bool} {w : List Token} {q : Reader A} (k : ℕ) → Good ends w 0 (λ _. q) → Tied k q q q
plainly {q = q} k g = alone k q (λ st v new e. let t = g.takes st.0 st.1 v new.0 new.1 e in omega (arith, ap length t.is, length-append t.front new.1))

pub word : (k : ℕ) (what : Ahead) → Tied k (expect what) (expect what) (expect what)
unfolding expect one
word k what = alone k (expect what) (λ st v new e. go st.0 st.1 v new e)
  where
    of_given : (o : Option Span) (t : Token) (ts : List Token) (v : Span) (new : State) → reading.given o t ts ≡ Ok (v, new) → length new.1 ≤ length (t ∷ ts)
    of_given (Some x) t ts v new e = let h : ts ≡ new.1 = ok_2 e in omega (arith, ap length h)
    of_given None t ts v new e = absurd cc

    go : (d ts : List Token) (v : Span) (new : State) → one_by (reading.word what) d ts ≡ Ok (v, new) → length new.1 ≤ length ts
    go d [] v new e = absurd cc
    go [] (t ∷ ts) v new e = of_given (reading.word what t) t ts v new e
    go (u ∷ d) (t ∷ ts) v new e = absurd cc

pub given : {A : Type 0} (k : ℕ) (x : A) → Tied k (pure x) (pure x) (pure x)
given k x = alone k (pure x) (λ st v new e. same_length st v new e)
  where
    same_length : (st : State) (v : _) (new : State) → pure x st ≡ Ok (v, new) → length new.1 ≤ length st.1
    same_length st v new e = let h : st.1 ≡ new.1 = ok_2 e in omega (arith, ap length h)

-- ---- one after the other

module _ {A B : Type 0} {k : ℕ} {P Pu Py : Reader A} {F Fu Fy : A → Reader B} (p : Tied k P Pu Py) (f : (v : A) → Tied k (F v) (Fu v) (Fy v)) where
  behind_alike : (o : Outcome A) → AtOne k (and_then o F) (and_then o Fu) (and_then o Fy)
  behind_alike (Ok q) = (f q.0).tied q.1
  behind_alike (Err s) = alike refl refl

  near_behind : (o : Outcome A) → Few k o → and_then o Fu ≡ and_then o Fy
  near_behind (Ok q) few = (f q.0).near q.1 few
  near_behind (Err s) few = refl

  few_behind : (o : Outcome A) → Few k o → Few k (and_then o Fu)
  few_behind (Ok q) few = fewer (Fu q.0 q.1) refl
    where
      fewer : (r : Outcome B) → Fu q.0 q.1 ≡ r → Few k r
      fewer (Ok w) e = let l = (f q.0).less q.1 w.0 w.1 e in omega (arith, few)
      fewer (Err s) e = tt
  few_behind (Err s) few = tt

  bound : (st : State) → AtOne k (P st) (Pu st) (Py st) → AtOne k ((P >>= F) st) ((Pu >>= Fu) st) ((Py >>= Fy) st)
  bound st (alike i j) = along (ap (λ (o : Outcome A). and_then o F) i) refl (ap (λ (o : Outcome A). and_then o Fy) (sym j)) (behind_alike (Pu st))
  bound st (passed at i l j few) = passed at (ap (λ (o : Outcome A). and_then o F) i) l (near_behind (Pu st) few ∙ ap (λ (o : Outcome A). and_then o Fy) j) (few_behind (Pu st) few)
  bound st (stopped at i j l) = stopped at (ap (λ (o : Outcome A). and_then o F) i) (ap (λ (o : Outcome A). and_then o Fu) j) l

  few_of : (st : State) → length st.1 ≤ k → Few k (Pu st)
  few_of st l = go (Pu st) refl
    where
      go : (o : Outcome A) → Pu st ≡ o → Few k o
      go (Ok q) e = let h = p.less st q.0 q.1 e in omega (arith, l)
      go (Err s) e = tt

  less_of : (st : State) (v : B) (new : State) (o : Outcome A) → Pu st ≡ o → and_then o Fu ≡ Ok (v, new) → length new.1 ≤ length st.1
  less_of st v new (Ok q) i e = let h = p.less st q.0 q.1 i in let g = (f q.0).less q.1 v new e in omega arith
  less_of st v new (Err s) i e = absurd cc

  pub bind : Tied k (P >>= F) (Pu >>= Fu) (Py >>= Fy)
  bind = record {
    tied = λ st. bound st (p.tied st);
    near = λ st l. near_behind (Pu st) (few_of st l) ∙ ap (λ (o : Outcome A). and_then o Fy) (p.near st l);
    less = λ st v new e. less_of st v new (Pu st) refl e;
  }

-- the value alone is changed
pub map : {A B : Type 0} {k : ℕ} {P Pu Py : Reader A} (f : A → B) → Tied k P Pu Py → Tied k (P >>= λ x. pure (f x)) (Pu >>= λ x. pure (f x)) (Py >>= λ x. pure (f x))
map {A} {B} {k} f p = bind p (λ v. given k (f v))

-- ---- choices

pub either : {A : Type 0} {k : ℕ} {P Pu Py Q Qu Qy : Reader A} (b : Bool) → Tied k P Pu Py → Tied k Q Qu Qy → Tied k (if b then P else Q) (if b then Pu else Qu) (if b then Py else Qy)
either true p q = p
either false p q = q

-- the readers that what is held and the token ahead give
pub looked : {A : Type 0} {k : ℕ} {f fu fy : Ahead → List Token → Reader A} → ((o : Ahead) (held : List Token) → Tied k (f o held) (fu o held) (fy o held)) → Tied k (look f) (look fu) (look fy)
looked h = record { tied = λ st. (h (ahead st.1) st.0).tied st; near = λ st l. (h (ahead st.1) st.0).near st l; less = λ st v new e. (h (ahead st.1) st.0).less st v new e }

pub chosen_by : {A : Type 0} {k : ℕ} {P Pu Py Q Qu Qy : Reader A} (test : List Token → Ahead → Bool) → Tied k P Pu Py → Tied k Q Qu Qy → Tied k (choose_by test P Q) (choose_by test Pu Qu) (choose_by test Py Qy)
chosen_by test p q = record { tied = λ st. (either (test st.0 (ahead st.1)) p q).tied st; near = λ st l. (either (test st.0 (ahead st.1)) p q).near st l; less = λ st v new e. (either (test st.0 (ahead st.1)) p q).less st v new e }

pub chosen : {A : Type 0} {k : ℕ} {P Pu Py Q Qu Qy : Reader A} (test : Ahead → Bool) → Tied k P Pu Py → Tied k Q Qu Qy → Tied k (choose test P Q) (choose test Pu Qu) (choose test Py Qy)
chosen test p q = chosen_by (λ _ o. test o) p q

pub perhaps : {A : Type 0} {k : ℕ} {P Pu Py : Reader A} (test : Ahead → Bool) (none : A) → Tied k P Pu Py → Tied k (option test P none) (option test Pu none) (option test Py none)
perhaps {A} {k} test none p = chosen_by (if_clean test) p (given k none)

less_rest : (ts : List Token) → length (rest ts) ≤ length ts
less_rest [] = omega arith
less_rest (t ∷ ts) = omega arith

pub held : {A : Type 0} {k : ℕ} {P Pu Py : Reader A} → Tied k P Pu Py → Tied k (hold P) (hold Pu) (hold Py)
held p = record {
  tied = λ st. p.tied (st.0 ++ first st.1, rest st.1);
  near = λ st l. p.near (st.0 ++ first st.1, rest st.1) (omega (arith, l, less_rest st.1));
  less = λ st v new e. let h = p.less (st.0 ++ first st.1, rest st.1) v new e in omega (arith, h, less_rest st.1);
}

-- ---- loops

tied_if : {A : Type 0} {k : ℕ} {P Pu Py Q Qu Qy : Reader A} (b : Bool) (st : State) → Tied k P Pu Py → Tied k Q Qu Qy → AtOne k (if b then P st else Q st) (if b then Pu st else Qu st) (if b then Py st else Qy st)
tied_if true st p q = p.tied st
tied_if false st p q = q.tied st

near_if : {A : Type 0} {k : ℕ} {P Pu Py Q Qu Qy : Reader A} (b : Bool) (st : State) → length st.1 ≤ k → Tied k P Pu Py → Tied k Q Qu Qy → (if b then Pu st else Qu st) ≡ (if b then Py st else Qy st)
near_if true st l p q = p.near st l
near_if false st l p q = q.near st l

less_if : {A : Type 0} {k : ℕ} {P Pu Py Q Qu Qy : Reader A} (b : Bool) (st : State) (v : A) (new : State) → Tied k P Pu Py → Tied k Q Qu Qy → (if b then Pu st else Qu st) ≡ Ok (v, new) → length new.1 ≤ length st.1
less_if true st v new p q e = p.less st v new e
less_if false st v new p q e = q.less st v new e

module _ {S A : Type 0} {k : ℕ} (goes : S → Ahead → List Token → Bool) {item item_u item_y : Reader A} (add : S → A → S) (t : Tied k item item_u item_y) where
  -- a turn of the loop, and the turns behind it
  abbrev turn : Reader A → ℕ → S → List Token → A → Reader S
  turn q n s before x new = if shorter new.1 before then fold_from goes q add n (add s x) new else Ok (add s x, new)

  abbrev go_on : Reader A → ℕ → S → List Token → Reader S
  go_on q n s before = q >>= (λ x. turn q n s before x)

  module _ (n : ℕ) (further : (s : S) → Tied k (fold_from goes item add n s) (fold_from goes item_u add n s) (fold_from goes item_y add n s)) (s : S) where
    again : (before : List Token) (x : A) → Tied k (turn item n s before x) (turn item_u n s before x) (turn item_y n s before x)
    again before x = record {
      tied = λ st. tied_if (shorter st.1 before) st (further (add s x)) (given k (add s x));
      near = λ st l. near_if (shorter st.1 before) st l (further (add s x)) (given k (add s x));
      less = λ st v new e. less_if (shorter st.1 before) st v new (further (add s x)) (given k (add s x)) e;
    }

    on : (before : List Token) → Tied k (go_on item n s before) (go_on item_u n s before) (go_on item_y n s before)
    on before = bind t (again before)

  folded_from : (n : ℕ) (s : S) → Tied k (fold_from goes item add n s) (fold_from goes item_u add n s) (fold_from goes item_y add n s)
  unfolding fold_from
  folded_from zero s = given k s
  folded_from (suc n) s = record {
    tied = λ st. tied_if (goes s (ahead st.1) st.0) st (on n (folded_from n) s st.1) (given k s);
    near = λ st l. near_if (goes s (ahead st.1) st.0) st l (on n (folded_from n) s st.1) (given k s);
    less = λ st v new e. less_if (goes s (ahead st.1) st.0) st v new (on n (folded_from n) s st.1) (given k s) e;
  }

  pub folded : (s : S) → Tied k (fold goes item add s) (fold goes item_u add s) (fold goes item_y add s)
  unfolding fold
  folded s = record {
    tied = λ st. (folded_from (length st.1) s).tied st;
    near = λ st l. (folded_from (length st.1) s).near st l;
    less = λ st v new e. (folded_from (length st.1) s).less st v new e;
  }
