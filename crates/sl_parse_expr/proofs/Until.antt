-- Readers that are as deep as a number until k tokens are left, and m deeper there: what they read is what the grammar says
-- of such nesting, and where the shallow reader stops for depth with more tokens left, they stop too.
use Rattle.std.proofs.Common.{◌≡◌, ℕ, zero, suc, ◌+◌, ◌≤◌, ◌<◌, Bool, true, false, List, [], ◌∷◌, ◌++◌, length, Ok, Err, refl, sym, ap, subst, ◌∙◌, arith, inl, inr, ◌⊎◌}
use Rattle.std.specs.Prelude.{if◌then◌else◌, ◌&&◌}
use Rattle.std.proofs.lemmas.List.{length-append}
use Rattle.sl_ast.specs.declared.token.Token.{Token}
use Rattle.sl_ast.specs.declared.expr.Expr.{Expr}
use Rattle.sl_ast.specs.declared.pattern.Pattern.{Pattern}
use Rattle.sl_parse_expr.specs.declared.ahead.Ahead.{Ahead}
use Rattle.sl_parse_expr.specs.Starts.{begins_expr}
use Rattle.sl_parse_expr.specs.Reading.{State, Outcome, Reader, ahead, nothing}
use Rattle.sl_parse_expr.specs.Rules.{any, too_deep}
use Rattle.sl_parse_expr.specs.PatternRules.{any_pattern, pattern, begins_pattern}
use Rattle.sl_parse_expr.specs.Levels.{expr}
use Rattle.sl_parse_expr.specs.Grammar.{IsExpr, IsPattern}
use Rattle.sl_parse_expr.specs.Until.{IsExprUntil, IsPatternUntil}
use Rattle.sl_parse_expr.proofs.Theory.{Held, Good, ok_of, err_of, stop, decide}
use Rattle.sl_parse_expr.proofs.Choices.{both_false}
use Rattle.sl_parse_expr.proofs.Level.{level, pattern_level}
use Rattle.sl_parse_expr.proofs.Gives.{Gives, Loose}
use Rattle.sl_parse_expr.proofs.Reaches.{Reaches}
use Rattle.sl_parse_expr.proofs.Inside.{PatternItems, ExprItems, pattern_items, expr_items, SoundPatterns, SoundExprs, CompletePatterns, CompleteExprs, Untold}
use Rattle.sl_parse_expr.proofs.PatternSound.{pattern_is, any_pattern_is}
use Rattle.sl_parse_expr.proofs.Sound.{expr_is, any_is}
use Rattle.sl_parse_expr.proofs.PatternComplete.{reads_pattern, reads_any_pattern, front_pattern}
use Rattle.sl_parse_expr.proofs.PatternComplete as patterns
use Rattle.sl_parse_expr.proofs.ExprFronts.{front_expr, front_any}
use Rattle.sl_parse_expr.proofs.ExprComplete.{reads_expr, reads_any}
use Rattle.sl_parse_expr.proofs.Tied.{Tied, AtOne, eats_too, reads_too}
use Rattle.sl_parse_expr.proofs.Tied as tied
use Rattle.sl_parse_expr.proofs.PatternTied.{tied_next_part, tied_next_alternative, tied_any_pattern}
use Rattle.sl_parse_expr.proofs.ExprTied.{tied_next_arg, tied_block_item, tied_suffix, tied_operation, tied_case_reader, tied_any}

-- ---- few tokens

-- at most k tokens
few : ℕ → List Token → Bool
few k [] = true
few zero (t ∷ ts) = false
few (suc k) (t ∷ ts) = few k ts

few_is : (k : ℕ) (ts : List Token) → few k ts ≡ true → length ts ≤ k
unfolding few
few_is k [] h = omega arith
few_is zero (t ∷ ts) h = absurd cc
few_is (suc k) (t ∷ ts) h = let l = few_is k ts h in omega arith

is_few : (k : ℕ) (ts : List Token) → length ts ≤ k → few k ts ≡ true
unfolding few
is_few k [] l = refl
is_few zero (t ∷ ts) l = absurd (omega arith)
is_few (suc k) (t ∷ ts) l = is_few k ts (omega arith)

many : (k : ℕ) (ts : List Token) → few k ts ≡ false → k < length ts
unfolding few
many k [] h = absurd cc
many zero (t ∷ ts) h = omega arith
many (suc k) (t ∷ ts) h = let l = many k ts h in omega arith

-- ---- where nothing may nest until few tokens are left

module _ {A : Type 0} {ends : Ahead → Bool} {w : List Token} (k m : ℕ) (begins : Ahead → Bool) (P : ℕ → Reader A) (zero_is : (st : State) → P 0 st ≡ err_of (stop (begins (ahead st.1) && nothing st.0) st.1)) (good_zero : Good ends w 0 P) (good : Good ends w m P) where
  pub opening : Reader A
  opening st = (if few k st.1 then P m else P 0) st

  flag : State → Bool
  flag st = begins (ahead st.1) && nothing st.0

  -- where nothing begins, each depth stops alike
  never : (st : State) → flag st ≡ false → P m st ≡ err_of (stop false st.1)
  unfolding flag
  never st h =
      let s = good_zero.fails st.0 st.1 (stop false st.1) (zero_is st ∙ ap (λ (b : Bool). err_of (stop b st.1)) h) in
      ap (λ (z : List Token). P m (st.0, z)) s.is ∙ s.again m (omega arith) (inl refl) st.1 refl

  less : (st : State) (v : A) (new : State) → P m st ≡ Ok (v, new) → length new.1 ≤ length st.1
  less st v new e = let t = good.takes st.0 st.1 v new.0 new.1 e in omega (arith, ap length t.is, length-append t.front new.1)

  at_few : (st : State) → few k st.1 ≡ true → opening st ≡ P m st
  unfolding opening
  at_few st h = ap (λ (b : Bool). (if b then P m else P 0) st) h

  at_many : (st : State) → few k st.1 ≡ false → opening st ≡ P 0 st
  unfolding opening
  at_many st h = ap (λ (b : Bool). (if b then P m else P 0) st) h

  stops : (st : State) (b : Bool) → flag st ≡ b → P 0 st ≡ err_of (stop b st.1)
  unfolding flag
  stops st b h = zero_is st ∙ ap (λ (z : Bool). err_of (stop z st.1)) h

  few_left : (st : State) (o : Outcome A) → P m st ≡ o → length st.1 ≤ k → tied.Few k o
  few_left st (Ok q) e l = let h = less st q.0 q.1 e in omega (arith, l)
  few_left st (Err s) e l = tt

  at_one : (st : State) → AtOne k (P 0 st) (opening st) (P m st)
  at_one st = elim (decide (flag st)) [
    | inr calm ↦ elim (decide (few k st.1)) [
      | inl f ↦ tied.alike (stops st false calm ∙ sym (never st calm) ∙ sym (at_few st f)) (at_few st f)
      | inr g ↦ tied.alike (sym (at_many st g)) (at_many st g ∙ stops st false calm ∙ sym (never st calm))
    ]
    | inl there ↦ elim (decide (few k st.1)) [
      | inl f ↦ tied.passed st.1 (stops st true there) (few_is k st.1 f) (at_few st f) (subst (λ (o : Outcome A). tied.Few k o) (sym (at_few st f)) (few_left st (P m st) refl (few_is k st.1 f)))
      | inr g ↦ tied.stopped st.1 (stops st true there) (at_many st g ∙ stops st true there) (many k st.1 g)
    ]
  ]

  less_opening : (st : State) (v : A) (new : State) → opening st ≡ Ok (v, new) → length new.1 ≤ length st.1
  less_opening st v new e = elim (decide (few k st.1)) [
    | inl f ↦ less st v new (sym (at_few st f) ∙ e)
    | inr g ↦ let h : err_of (stop (flag st) st.1) ≡ Ok (v, new) = sym (stops st (flag st) refl) ∙ sym (at_many st g) ∙ e in absurd cc
  ]

  pub tied_opening : Tied k (P 0) opening (P m)
  tied_opening = record { tied = at_one; near = λ st l. at_few st (is_few k st.1 l); less = less_opening }

  -- what is read here is what the deeper reader reads, with nothing held and few tokens left
  pub opened : (d : Held) (a : List Token) (R : A → List Token → List Token → Type 0) → ((d : Held) (a : List Token) → Gives (P m) d a (Loose (λ x r. R x (d ++ a) r))) → Gives opening d a (Loose (λ x r. (length (d ++ a) ≤ k) × R x (d ++ a) r))
  unfolding flag
  opened d a R sound = record { gives = λ y e r i. go d a y e r i (decide (few k a)) }
    where
      go : (d : Held) (a : List Token) (y : A) (e : Held) (r : List Token) → opening (d, a) ≡ ok_of y e r → (few k a ≡ true) ⊎ (few k a ≡ false) → Loose (λ x r. (length (d ++ a) ≤ k) × R x (d ++ a) r) y e r
      go d a y e r i (inr g) = let h : err_of (stop (flag (d, a)) a) ≡ ok_of y e r = sym (stops (d, a) (flag (d, a)) refl) ∙ sym (at_many (d, a) g) ∙ i in absurd cc
      go [] a y e r i (inl f) = let g = (sound [] a).gives y e r (sym (at_few ([], a) f) ∙ i) in record { held = g.held; is = (few_is k a f, g.is) }
      go (t ∷ d) a y e r i (inl f) = let h : err_of (stop false a) ≡ ok_of y e r = sym (never (t ∷ d, a) (both_false (begins (ahead a)))) ∙ sym (at_few (t ∷ d, a) f) ∙ i in absurd cc

  pub reads_opened : (x : A) (a r : List Token) → length a ≤ k → Reaches (P m) [] a x r → Reaches opening [] a x r
  reads_opened x a r l g = record { held = g.held; left = g.left; pending = g.pending; whole = g.whole; reads = at_few ([], a) (is_few k a l) ∙ g.reads }

-- ---- the levels

-- so many levels above m
abbrev pub raised : ℕ → ℕ → ℕ
raised m zero = m
raised m (suc n) = suc (raised m n)

pub raised_is : (m n : ℕ) → raised m n ≡ m + n
raised_is m zero = omega arith
raised_is m (suc n) = let h = raised_is m n in omega (arith, h)

pattern_stops : (st : State) → pattern 0 st ≡ err_of (stop (begins_pattern (ahead st.1) && nothing st.0) st.1)
unfolding pattern too_deep
pattern_stops st = refl

expr_stops : (st : State) → expr 0 st ≡ err_of (stop (begins_expr (ahead st.1) && nothing st.0) st.1)
unfolding expr too_deep
expr_stops st = refl

pub pattern_until : ℕ → ℕ → ℕ → Reader Pattern
pattern_until k m zero = opening k m begins_pattern pattern (λ st. pattern_stops st) (pattern_level 0) (pattern_level m)
pattern_until k m (suc n) = any_pattern (pattern_until k m n)

pub expr_until : ℕ → ℕ → ℕ → Reader Expr
expr_until k m zero = opening k m begins_expr expr (λ st. expr_stops st) (level 0) (level m)
expr_until k m (suc n) = any (expr_until k m n) (pattern_until k m n)

pub tied_pattern : (k m n : ℕ) → Tied k (pattern n) (pattern_until k m n) (pattern (raised m n))
unfolding pattern pattern_until
tied_pattern k m zero = tied_opening k m begins_pattern pattern (λ st. pattern_stops st) (pattern_level 0) (pattern_level m)
tied_pattern k m (suc n) = tied_any_pattern (tied_pattern k m n)

pub tied_expr : (k m n : ℕ) → Tied k (expr n) (expr_until k m n) (expr (raised m n))
unfolding expr expr_until
tied_expr k m zero = tied_opening k m begins_expr expr (λ st. expr_stops st) (level 0) (level m)
tied_expr k m (suc n) = tied_any (tied_expr k m n) (tied_pattern k m n)

pattern_items_until : (k m n : ℕ) → PatternItems (pattern_until k m n)
pattern_items_until k m n =
    let t = tied_pattern k m n in
    let i = pattern_items (raised m n) in
    record { part = eats_too (tied_next_part t) i.part; alternative = eats_too (tied_next_alternative t) i.alternative }

expr_items_until : (k m n : ℕ) → ExprItems (expr_until k m n) (pattern_until k m n)
expr_items_until k m n =
    let t = tied_expr k m n in
    let q = tied_pattern k m n in
    let i = expr_items (raised m n) in
    record {
      arg = eats_too (tied_next_arg t q) i.arg;
      item = eats_too (tied_block_item t q) i.item;
      suffixed = eats_too (tied_suffix t q) i.suffixed;
      operated = eats_too (tied_operation t q) i.operated;
      a_case = eats_too (tied_case_reader t q) i.a_case;
    }

-- ---- what they read is by the grammar

pattern_until_is : (k m n : ℕ) (d : Held) (a : List Token) → Gives (pattern_until k m n) d a (Loose (λ x r. IsPatternUntil k m n x (d ++ a) r))
unfolding pattern_until
pattern_until_is k m zero d a = opened k m begins_pattern pattern (λ st. pattern_stops st) (pattern_level 0) (pattern_level m) d a (IsPattern m) (pattern_is m)
pattern_until_is k m (suc n) d a = any_pattern_is (record { items = pattern_items_until k m n; is = pattern_until_is k m n }) d a

sound_patterns_until : (k m n : ℕ) → SoundPatterns (pattern_until k m n) (IsPatternUntil k m n)
sound_patterns_until k m n = record { items = pattern_items_until k m n; is = pattern_until_is k m n }

expr_until_is : (k m n : ℕ) (d : Held) (a : List Token) → Gives (expr_until k m n) d a (Loose (λ x r. IsExprUntil k m n x (d ++ a) r))
unfolding expr_until
expr_until_is k m zero d a = opened k m begins_expr expr (λ st. expr_stops st) (level 0) (level m) d a (IsExpr m) (expr_is m)
expr_until_is k m (suc n) d a = any_is (record { items = expr_items_until k m n; is = expr_until_is k m n; inside = sound_patterns_until k m n }) d a

pub sound_until : (k m n : ℕ) → SoundExprs (expr_until k m n) (pattern_until k m n) (IsExprUntil k m n) (IsPatternUntil k m n)
sound_until k m n = record { items = expr_items_until k m n; is = expr_until_is k m n; inside = sound_patterns_until k m n }

-- ---- what is by the grammar they read

front_pattern_until : (k m n : ℕ) (p : Pattern) (a r : List Token) (test : Ahead → Bool) (v : Bool) → Untold test v → IsPatternUntil k m n p a r → test (ahead a) ≡ v
front_pattern_until k m zero p a r test v u h = front_pattern m p a r test v u h.1
front_pattern_until k m (suc n) p a r test v u h = patterns.front_any p a r test v u h

reads_pattern_until : (k m n : ℕ) (p : Pattern) (a r : List Token) → IsPatternUntil k m n p a r → Reaches (pattern_until k m n) [] a p r
unfolding pattern_until
reads_pattern_until k m zero p a r h = reads_opened k m begins_pattern pattern (λ st. pattern_stops st) (pattern_level 0) (pattern_level m) p a r h.0 (reads_pattern m p a r h.1)
reads_pattern_until k m (suc n) p a r h = reads_any_pattern (record { items = pattern_items_until k m n; fronts = front_pattern_until k m n; reads = reads_pattern_until k m n }) h

front_until : (k m n : ℕ) (x : Expr) (a r : List Token) → IsExprUntil k m n x a r → begins_expr (ahead a) ≡ true
front_until k m zero x a r h = front_expr m x a r h.1
front_until k m (suc n) x a r h = front_any (IsExprUntil k m n) (IsPatternUntil k m n) h

complete_patterns_until : (k m n : ℕ) → CompletePatterns (pattern_until k m n) (IsPatternUntil k m n)
complete_patterns_until k m n = record { items = pattern_items_until k m n; fronts = front_pattern_until k m n; reads = reads_pattern_until k m n }

reads_until : (k m n : ℕ) (x : Expr) (a r : List Token) → IsExprUntil k m n x a r → Reaches (expr_until k m n) [] a x r
unfolding expr_until
reads_until k m zero x a r h = reads_opened k m begins_expr expr (λ st. expr_stops st) (level 0) (level m) x a r h.0 (reads_expr m x a r h.1)
reads_until k m (suc n) x a r h = reads_any (record { items = expr_items_until k m n; fronts = front_until k m n; reads = reads_until k m n; inside = complete_patterns_until k m n }) h

pub complete_until : (k m n : ℕ) → CompleteExprs (expr_until k m n) (pattern_until k m n) (IsExprUntil k m n) (IsPatternUntil k m n)
complete_until k m n = record { items = expr_items_until k m n; fronts = front_until k m n; reads = reads_until k m n; inside = complete_patterns_until k m n }

-- ---- depths add up

pub sum : (k m n : ℕ) (x : Expr) (a r : List Token) → IsExprUntil k m n x a r → IsExpr (m + n) x a r
sum k m n x a r h =
    let g = reads_until k m n x a r h in
    let is = ((expr_is (raised m n) [] a).gives x g.held g.left (reads_too (tied_expr k m n) ([], a) (x, (g.held, g.left)) g.reads)).is in
    subst (λ (z : ℕ). IsExpr z x a r) (raised_is m n) (subst (λ (z : List Token). IsExpr (raised m n) x a z) g.whole is)
