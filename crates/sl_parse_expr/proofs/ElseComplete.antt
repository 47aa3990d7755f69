-- What stands behind an `if` in the grammar is read: an `else`, which separators may precede, or none.
use Rattle.std.proofs.Common.{◌≡◌, Bool, true, false, List, [], ◌∷◌, ◌++◌, Option, Some, None, refl, sym, ap, ◌∙◌}
use Rattle.std.specs.Prelude.{if◌then◌else◌, ◌&&◌, ◌||◌}
use Rattle.sl_text.specs.declared.span.Span.{Span}
use Rattle.sl_ast.specs.declared.token.Token.{Token}
use Rattle.sl_ast.specs.declared.expr.Expr.{Expr}
use Rattle.sl_parse_expr.specs.declared.ahead.Ahead.{Ahead}
use Rattle.sl_parse_expr.specs.declared.ahead.Ahead.TheVariants as see
use Rattle.sl_parse_expr.specs.declared.cursor.Waiting.{Waiting}
use Rattle.sl_parse_expr.specs.declared.cursor.Waiting.TheVariants as waiting
use Rattle.sl_parse_expr.specs.Ahead.{sort, same}
use Rattle.sl_parse_expr.specs.Reading.{Reader, ◌>>=◌, ◌>>◌, pure, hold, ahead, rest, expect, absorb, waits}
use Rattle.sl_parse_expr.specs.Rules.{with_else, third, third_by, second, second_by, other, semi_from, line_from}
use Rattle.sl_parse_expr.specs.Phrases.{IsWord, IsSemi, Pending, none_held, semi_held, line_held, lines_held}
use Rattle.sl_parse_expr.specs.Phrases as phrase
use Rattle.sl_parse_expr.specs.Grammar.{IsPattern, IsExpr, IsOther, else_follows}
use Rattle.sl_parse_expr.specs.Grammar as grammar
use Rattle.sl_parse_expr.proofs.Theory.{Held, ok_of}
use Rattle.sl_parse_expr.proofs.Fronts.{word_ahead}
use Rattle.sl_parse_expr.proofs.Reaches.{Reaches, From, cleared, upon, map, marked}
use Rattle.sl_ast.specs.declared.pattern.Pattern.{Pattern}

-- `else_follows` by the three tokens ahead
abbrev else_by : Ahead → Ahead → Ahead → Bool
else_by o p q = same see.Else o || ((same see.Semicolon o || same see.Newline o) && same see.Else p) || (same see.Newline o && same see.Newline p && same see.Else q)

no_else_at : (o p q : Ahead) → else_by o p q ≡ false → same see.Else o ≡ false
no_else_at see.Else p q h = absurd cc
no_else_at o p q h = refl

behind_semi : (p q : Ahead) → else_by see.Semicolon p q ≡ false → same see.Else p ≡ false
behind_semi see.Else q h = absurd cc
behind_semi p q h = refl

behind_line : (p q : Ahead) → else_by see.Newline p q ≡ false → same see.Else p ≡ false
behind_line see.Else q h = absurd cc
behind_line p q h = refl

behind_lines : (q : Ahead) → else_by see.Newline see.Newline q ≡ false → same see.Else q ≡ false
behind_lines see.Else h = absurd cc
behind_lines q h = refl

clash : {A : Type 0} (o p q : Ahead) → o ≡ p → o ≡ q → same p q ≡ false → same p p ≡ true → A
clash o p q i j f g = let k : true ≡ false = sym g ∙ ap (same p) (sym i ∙ j) ∙ f in absurd cc

module _ (exprs : Reader Expr) (patterns : Reader Pattern) where
  -- by what is held, as far as it is looked at, and the token ahead
  abbrev by_wait : Waiting → Ahead → Reader (Option Expr)
  by_wait w o = if same see.Else o then with_else exprs patterns else if semi_from w o then hold (third exprs patterns) else if line_from w o then hold (second exprs patterns) else pure None

  abbrev None_at : Reader (Option Expr) → Held → List Token → Type 0
  None_at q d a = (e : Held) × (b : List Token) × Pending e × (e ++ b ≡ d ++ a) × (q (d, a) ≡ ok_of None e b)

  third_none : (d : Held) (a : List Token) → Pending d → same see.Else (ahead a) ≡ false → None_at (third exprs patterns) d a
  unfolding third
  third_none d a k h = (d, a, k, refl, ap (λ (v : Bool). (if v then with_else exprs patterns else pure None) (d, a)) h)

  -- behind one line end
  second_none : (o : Ahead) (t u : Token) (b : List Token) → sort t ≡ see.Newline → sort u ≡ o → else_by see.Newline o (ahead b) ≡ false → None_at (second_by exprs patterns o (t ∷ [])) (t ∷ []) (u ∷ b)
  second_none see.Else t u b i j h = absurd cc
  second_none see.Newline t u b i j h = third_none (t ∷ u ∷ []) b (lines_held i j) (behind_lines (ahead b) h)
  second_none o t u b i j h = (t ∷ [], u ∷ b, line_held i, refl, refl)

  second_alone : (t : Token) (a : List Token) → sort t ≡ see.Newline → else_by see.Newline (ahead a) (ahead (rest a)) ≡ false → None_at (second exprs patterns) (t ∷ []) a
  unfolding second
  second_alone t [] i h = (t ∷ [], [], line_held i, refl, refl)
  second_alone t (u ∷ b) i h = second_none (sort u) t u b i refl h

  -- where nothing is held
  clean_none : (o : Ahead) (t : Token) (b : List Token) → sort t ≡ o → else_by o (ahead b) (ahead (rest b)) ≡ false → None_at (by_wait waiting.Nothing o) [] (t ∷ b)
  clean_none see.Else t b i h = absurd cc
  clean_none see.Semicolon t b i h = third_none (t ∷ []) b (semi_held i) (behind_semi (ahead b) (ahead (rest b)) h)
  clean_none see.Newline t b i h = second_alone t b i h
  clean_none o t b i h = ([], t ∷ b, none_held, refl, refl)

  -- behind a line end that is held
  held_none : (o : Ahead) (t u : Token) (b : List Token) → sort t ≡ see.Newline → sort u ≡ o → else_by see.Newline o (ahead b) ≡ false → None_at (by_wait waiting.Line o) (t ∷ []) (u ∷ b)
  held_none see.Else t u b i j h = absurd cc
  held_none see.Newline t u b i j h = third_none (t ∷ u ∷ []) b (lines_held i j) (behind_lines (ahead b) h)
  held_none o t u b i j h = (t ∷ [], u ∷ b, line_held i, refl, refl)

  held_alone : (t : Token) (a : List Token) → sort t ≡ see.Newline → else_by see.Newline (ahead a) (ahead (rest a)) ≡ false → None_at (by_wait waiting.Line (ahead a)) (t ∷ []) a
  held_alone t [] i h = (t ∷ [], [], line_held i, refl, refl)
  held_alone t (u ∷ b) i h = held_none (sort u) t u b i refl h

  more_none : (o : Ahead) (d : Held) (a : List Token) → Pending d → same see.Else o ≡ false → None_at (by_wait waiting.More o) d a
  more_none o d a k h = (d, a, k, refl, ap (λ (v : Bool). (if v then with_else exprs patterns else pure None) (d, a)) h)

  waited : (t : Token) (a : List Token) (o : Ahead) → sort t ≡ o → other exprs patterns (t ∷ [], a) ≡ by_wait (if same see.Newline o then waiting.Line else waiting.More) (ahead a) (t ∷ [], a)
  unfolding other
  waited t a o i = ap (λ (z : Ahead). by_wait (if same see.Newline z then waiting.Line else waiting.More) (ahead a) (t ∷ [], a)) i

  other_none : (d : Held) (a : List Token) → Pending d → else_follows (d ++ a) ≡ false → None_at (other exprs patterns) d a
  unfolding other
  other_none d [] none_held h = ([], [], none_held, refl, refl)
  other_none d (t ∷ b) none_held h = clean_none (sort t) t b refl h
  other_none d a (semi_held {t = t} i) h = let k = more_none (ahead a) (t ∷ []) a (semi_held i) (behind_semi (ahead a) (ahead (rest a)) (ap (λ (z : Ahead). else_by z (ahead a) (ahead (rest a))) (sym i) ∙ h)) in (k.0, k.1, k.2, k.3, waited t a see.Semicolon i ∙ k.4)
  other_none d a (line_held {t = t} i) h = let k = held_alone t a i (ap (λ (z : Ahead). else_by z (ahead a) (ahead (rest a))) (sym i) ∙ h) in (k.0, k.1, k.2, k.3, waited t a see.Newline i ∙ k.4)
  other_none d a (lines_held {t = t} {u = u} i j) h = more_none (ahead a) (t ∷ u ∷ []) a (lines_held i j) (behind_lines (ahead a) (ap (λ (z : Ahead). else_by z see.Newline (ahead a)) (sym i) ∙ ap (λ (z : Ahead). else_by (sort t) z (ahead a)) (sym j) ∙ h))

  -- ---- an else

  abbrev Else_at : Reader (Option Expr) → Held → List Token → List Token → Type 0
  Else_at q d a b = (e : Held) × (q (d, a) ≡ with_else exprs patterns (e, b))

  third_else : (d : Held) (b : List Token) → ahead b ≡ see.Else → third exprs patterns (d, b) ≡ with_else exprs patterns (d, b)
  unfolding third
  third_else d b h = ap (λ (o : Ahead). third_by exprs patterns o d (d, b)) h

  second_else : (d : Held) (b : List Token) → ahead b ≡ see.Else → second exprs patterns (d, b) ≡ with_else exprs patterns (d, b)
  unfolding second
  second_else d b h = ap (λ (o : Ahead). second_by exprs patterns o d (d, b)) h

  second_lines : (t u : Token) (b : List Token) → sort u ≡ see.Newline → ahead b ≡ see.Else → second exprs patterns (t ∷ [], u ∷ b) ≡ with_else exprs patterns (t ∷ u ∷ [], b)
  unfolding second
  second_lines t u b i h = ap (λ (o : Ahead). second_by exprs patterns o (t ∷ []) (t ∷ [], u ∷ b)) i ∙ third_else (t ∷ u ∷ []) b h

  -- where it stands ahead already
  ahead_else : (d : Held) (a b : List Token) → a ≡ b → ahead b ≡ see.Else → Else_at (other exprs patterns) d a b
  unfolding other
  ahead_else d a b i h = (d, ap (λ (z : List Token). other exprs patterns (d, z)) i ∙ ap (λ (o : Ahead). by_wait (waits d) o (d, b)) h)

  semi_else : (t : Token) (b : List Token) → sort t ≡ see.Semicolon → ahead b ≡ see.Else → Else_at (other exprs patterns) [] (t ∷ b) b
  unfolding other
  semi_else t b i h = (t ∷ [], ap (λ (o : Ahead). by_wait waiting.Nothing o ([], t ∷ b)) i ∙ third_else (t ∷ []) b h)

  line_else : (t : Token) (b : List Token) → sort t ≡ see.Newline → ahead b ≡ see.Else → Else_at (other exprs patterns) [] (t ∷ b) b
  unfolding other
  line_else t b i h = (t ∷ [], ap (λ (o : Ahead). by_wait waiting.Nothing o ([], t ∷ b)) i ∙ second_else (t ∷ []) b h)

  lines_else : (t u : Token) (b : List Token) → sort t ≡ see.Newline → sort u ≡ see.Newline → ahead b ≡ see.Else → Else_at (other exprs patterns) [] (t ∷ u ∷ b) b
  unfolding other
  lines_else t u b i j h = (t ∷ u ∷ [], ap (λ (o : Ahead). by_wait waiting.Nothing o ([], t ∷ u ∷ b)) i ∙ second_lines t u b j h)

  held_else : (t u : Token) (b : List Token) → sort t ≡ see.Newline → sort u ≡ see.Newline → ahead b ≡ see.Else → Else_at (other exprs patterns) (t ∷ []) (u ∷ b) b
  held_else t u b i j h = (t ∷ u ∷ [], waited t (u ∷ b) see.Newline i ∙ ap (λ (o : Ahead). by_wait waiting.Line o (t ∷ [], u ∷ b)) j ∙ third_else (t ∷ u ∷ []) b h)

  at_tokens : (a m b : List Token) → a ≡ m → Else_at (other exprs patterns) [] m b → Else_at (other exprs patterns) [] a b
  at_tokens a m b i k = (k.0, ap (λ (z : List Token). other exprs patterns ([], z)) i ∙ k.1)

  -- one separator before it, and what of it is held
  behind_one : (t : Token) (b : List Token) → ahead b ≡ see.Else → Else_at (other exprs patterns) [] (t ∷ b) b → (d : Held) (a : List Token) → Pending d → d ++ a ≡ t ∷ b → Else_at (other exprs patterns) d a b
  behind_one t b h k d a none_held i = at_tokens a (t ∷ b) b i k
  behind_one t b h k d a (semi_held j) i = ahead_else d a b (ap rest i) h
  behind_one t b h k d a (line_held j) i = ahead_else d a b (ap rest i) h
  behind_one t b h k d a (lines_held {u = u} j l) i = clash (ahead b) see.Else see.Newline h (sym (ap (λ (z : List Token). ahead (rest z)) i) ∙ l) refl refl

  else_found : (d : Held) (a m b : List Token) → Pending d → d ++ a ≡ m → IsSemi m b → ahead b ≡ see.Else → Else_at (other exprs patterns) d a b
  else_found d a m b p i phrase.no_semi h = let c = cleared (same see.Else) refl refl d a b p i (ap (same see.Else) h) in ahead_else d a b c.1 h
  else_found d a m b p i (phrase.semicolon (phrase.token {t = t} j)) h = behind_one t b h (semi_else t b (word_ahead (phrase.token {t = t} {r = b} j)) h) d a p i
  else_found d a m b p i (phrase.one_line (phrase.token {t = t} j)) h = behind_one t b h (line_else t b (word_ahead (phrase.token {t = t} {r = b} j)) h) d a p i
  else_found d a m b none_held i (phrase.two_lines (phrase.token {t = t} j) (phrase.token {t = u} l)) h = at_tokens a (t ∷ u ∷ b) b i (lines_else t u b (word_ahead (phrase.token {t = t} {r = u ∷ b} j)) (word_ahead (phrase.token {t = u} {r = b} l)) h)
  else_found d a m b (semi_held k) i (phrase.two_lines (phrase.token {t = t} j) (phrase.token {t = u} l)) h = clash (sort t) see.Newline see.Semicolon (word_ahead (phrase.token {t = t} {r = u ∷ b} j)) (sym (ap ahead i) ∙ k) refl refl
  else_found d a m b (line_held {t = t2} k) i (phrase.two_lines (phrase.token {t = t} j) (phrase.token {t = u} l)) h =
      let g = held_else t2 u b k (word_ahead (phrase.token {t = u} {r = b} l)) h in (g.0, ap (λ (z : List Token). other exprs patterns (t2 ∷ [], z)) (ap rest i) ∙ g.1)
  else_found d a m b (lines_held k k2) i (phrase.two_lines (phrase.token {t = t} j) (phrase.token {t = u} l)) h = ahead_else d a b (ap (λ (z : List Token). rest (rest z)) i) h

  module _ {E : Expr → List Token → List Token → Type 0} (reads : (x : Expr) (a r : List Token) → E x a r → Reaches exprs [] a x r) where
    reads_else : {s : Span} {x : Expr} {b c r : List Token} → IsWord see.Else s b c → E x c r → Reaches (expect see.Else >> (exprs >>= λ x. pure (Some x))) [] b (Some x) r
    reads_else w h = upon _ (marked see.Else w) (map _ (reads _ _ _ h))

    else_reached : {s : Span} {x : Expr} {b c r : List Token} (d e : Held) (a : List Token) → other exprs patterns (d, a) ≡ with_else exprs patterns (e, b) → IsWord see.Else s b c → E x c r → Reaches (other exprs patterns) d a (Some x) r
    unfolding with_else absorb
    else_reached d e a i w h = let g = reads_else w h in record { held = g.held; left = g.left; pending = g.pending; whole = g.whole; reads = i ∙ g.reads }

    pub reads_other : {Q : Pattern → List Token → List Token → Type 0} {y : Option Expr} {m r : List Token} → IsOther E Q y m r → From (other exprs patterns) m y r
    reads_other (grammar.no_else {r = r} h) = record { from = λ d a k i. let g = other_none d a k (ap else_follows i ∙ h) in record { held = g.0; left = g.1; pending = g.2; whole = g.3 ∙ i; reads = g.4 } }
    reads_other (grammar.an_else {a = m} {b = b} s w h) = record { from = λ d a k i. let g = else_found d a m b k i s (word_ahead w) in else_reached d g.0 a g.1 w h }
