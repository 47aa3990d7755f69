-- Choices by a test, and what absorbs what is held.
use Rattle.std.proofs.Common.{◌≡◌, ℕ, ◌<◌, Bool, true, false, List, [], ◌∷◌, ◌++◌, length, Option, Some, refl, sym, ap, ◌∙◌, inl, inr, ◌⊎◌}
use Rattle.std.specs.Prelude.{◌&&◌}
use Rattle.sl_ast.specs.declared.token.Token.{Token}
use Rattle.sl_parse_expr.specs.declared.ahead.Ahead.{Ahead}
use Rattle.sl_parse_expr.specs.declared.ahead.Ahead.TheVariants as see
use Rattle.sl_parse_expr.specs.declared.cursor.Waiting.TheVariants as waiting
use Rattle.sl_parse_expr.specs.Reading.{Stop, Reader, pure, head, seen, ahead, nothing, choose_by, by_ahead, choose, if_clean, option, absorb, settle, fold, clean}
use Rattle.sl_parse_expr.proofs.Theory.{Held, pends, ok_of, err_of, ok_0, ok_1, ok_2, decide, Completes, Takes, Stops, Good, needs, no_less, head_same, good_fold}

keeps_head : (front ts r r' : List Token) → ts ≡ front ++ r → length r < length ts → head ts ≡ head (front ++ r')
keeps_head [] ts r r' is l = absurd (no_less ts r is l)
keeps_head (t ∷ front) ts r r' is l = ap head is

pub both_false : (b : Bool) → (b && false) ≡ false
both_false true = refl
both_false false = refl

-- a reader that is another one where the test gives b
module _ {A : Type 0} (ends : Ahead → Bool) (w : List Token) (n : ℕ) (test : Held → Ahead → Bool) (b : Bool) (P C : ℕ → Reader A)
    (same : (m : ℕ) (d : Held) (ts : List Token) → test d (ahead ts) ≡ b → C m (d, ts) ≡ P m (d, ts)) (g : Good ends w n P) (some : needs w ≡ true) where
  moved : (d : Held) (ts us : List Token) → head ts ≡ head us → test d (ahead ts) ≡ b → test d (ahead us) ≡ b
  moved d ts us e h = ap (λ (o : Option Token). test d (seen o)) (sym e) ∙ h

  moved_on : (d : Held) (t : Token) (front : List Token) → test d (ahead (t ∷ front)) ≡ b → Completes ends n P d (t ∷ front) → Completes ends n C d (t ∷ front)
  moved_on d t front h c = (c.0, λ m l follow e. let y = c.1 m l follow e in (y.0, same m d (t ∷ (front ++ (c.0 ++ follow))) h ∙ y.1))

  completed : (d : Held) (ts front r : List Token) → ts ≡ front ++ r → test d (ahead ts) ≡ b → Completes ends n P d front → (front ≡ []) ⊎ Completes ends n C d front
  completed d ts [] r is h c = inl refl
  completed d ts (t ∷ front) r is h c = inr (moved_on d t front (moved d ts (t ∷ front) (ap head is) h) c)

  completed_some : (d : Held) (ts front r : List Token) → ts ≡ front ++ r → length r < length ts → test d (ahead ts) ≡ b → Completes ends n P d front → Completes ends n C d front
  completed_some d ts [] r is l h c = absurd (no_less ts r is l)
  completed_some d ts (t ∷ front) r is l h c = moved_on d t front (moved d ts (t ∷ front) (ap head is) h) c

  completed_by : (d : Held) (ts front at : List Token) (t : Token) → ts ≡ front ++ at → head at ≡ Some t → test d (ahead ts) ≡ b → Completes ends n P d (front ++ t ∷ []) → Completes ends n C d (front ++ t ∷ [])
  completed_by d ts [] at t is ht h c = moved_on d t [] (moved d ts (t ∷ []) (ap head is ∙ ht) h) c
  completed_by d ts (u ∷ front) at t is ht h c = moved_on d u (front ++ t ∷ []) (moved d ts (u ∷ []) (ap head is) h) c

  pub branch_takes : (need : Bool) (d : Held) (ts : List Token) (x : A) (d' : Held) (r : List Token) → test d (ahead ts) ≡ b → C n (d, ts) ≡ ok_of x d' r → Takes ends need n C d ts x d' r
  branch_takes need d ts x d' r h e =
      let a = g.takes d ts x d' r (sym (same n d ts h) ∙ e) in
      let l = a.eats some in
      record {
        front = a.front;
        is = a.is;
        again = λ m k r' s. same m d (a.front ++ r') (moved d ts (a.front ++ r') (keeps_head a.front ts r r' a.is l) h) ∙ a.again m k r' s;
        eats = λ _. l;
        clean = λ _ _. l;
        resumes = λ q _. completed_some d ts a.front r a.is l h (a.resumes q l);
      }

  pub branch_fails : (d : Held) (ts : List Token) (s : Stop) → test d (ahead ts) ≡ b → C n (d, ts) ≡ err_of s → Stops ends n C d ts s
  branch_fails d ts s h e =
      let a = g.fails d ts s (sym (same n d ts h) ∙ e) in
      record {
        front = a.front;
        is = a.is;
        again = λ m k q at' i. same m d (a.front ++ at') (moved d ts (a.front ++ at') (ap head a.is ∙ head_same a.front s.at at' i) h) ∙ a.again m k q at' i;
        goes_on = elim a.goes_on [ inl i ↦ inl i | inr c ↦ completed d ts a.front s.at a.is h c ];
        further = λ k. let f = a.further k in (f.0, f.1, completed_by d ts a.front s.at f.0 a.is f.1 h f.2);
      }

module _ {A : Type 0} (test : Held → Ahead → Bool) (P Q : ℕ → Reader A) where
  is_left : (m : ℕ) (d : Held) (ts : List Token) → test d (ahead ts) ≡ true → choose_by test (P m) (Q m) (d, ts) ≡ P m (d, ts)
  is_left m d ts h = rw h refl

  is_right : (m : ℕ) (d : Held) (ts : List Token) → test d (ahead ts) ≡ false → choose_by test (P m) (Q m) (d, ts) ≡ Q m (d, ts)
  is_right m d ts h = rw h refl

-- a choice of two that both take something; the word is one of either
module _ {A : Type 0} (ends : Ahead → Bool) (v w : List Token) (n : ℕ) (test : Ahead → Bool) (P Q : ℕ → Reader A) (g : Good ends v n P) (h : Good ends w n Q) (some : needs v ≡ true) (other : needs w ≡ true) where
  chosen_takes : (need : Bool) (d : Held) (ts : List Token) (x : A) (d' : Held) (r : List Token) → choose test (P n) (Q n) (d, ts) ≡ ok_of x d' r → Takes ends need n (λ m. choose test (P m) (Q m)) d ts x d' r
  chosen_takes need d ts x d' r e = elim (decide (test (ahead ts))) [
    | inl i ↦ branch_takes ends v n (by_ahead test) true P (λ m. choose test (P m) (Q m)) (is_left (by_ahead test) P Q) g some need d ts x d' r i e
    | inr i ↦ branch_takes ends w n (by_ahead test) false Q (λ m. choose test (P m) (Q m)) (is_right (by_ahead test) P Q) h other need d ts x d' r i e
  ]

  chosen_fails : (d : Held) (ts : List Token) (s : Stop) → choose test (P n) (Q n) (d, ts) ≡ err_of s → Stops ends n (λ m. choose test (P m) (Q m)) d ts s
  chosen_fails d ts s e = elim (decide (test (ahead ts))) [
    | inl i ↦ branch_fails ends v n (by_ahead test) true P (λ m. choose test (P m) (Q m)) (is_left (by_ahead test) P Q) g some d ts s i e
    | inr i ↦ branch_fails ends w n (by_ahead test) false Q (λ m. choose test (P m) (Q m)) (is_right (by_ahead test) P Q) h other d ts s i e
  ]

  pub good_left : test (ahead v) ≡ true → Good ends v n (λ m. choose test (P m) (Q m))
  good_left i = record {
    takes = chosen_takes (needs v);
    fails = chosen_fails;
    can = λ m l follow e. let y = g.can m l follow e in (y.0, is_left (by_ahead test) P Q m [] (v ++ follow) (at_word v some i follow) ∙ y.1);
  }
    where
      at_word : (v : List Token) → needs v ≡ true → test (ahead v) ≡ true → (follow : List Token) → test (ahead (v ++ follow)) ≡ true
      at_word [] s i follow = absurd cc
      at_word (t ∷ v) s i follow = i

  pub good_right : test (ahead w) ≡ false → Good ends w n (λ m. choose test (P m) (Q m))
  good_right i = record {
    takes = chosen_takes (needs w);
    fails = chosen_fails;
    can = λ m l follow e. let y = h.can m l follow e in (y.0, is_right (by_ahead test) P Q m [] (w ++ follow) (at_word w other i follow) ∙ y.1);
  }
    where
      at_word : (v : List Token) → needs v ≡ true → test (ahead v) ≡ false → (follow : List Token) → test (ahead (v ++ follow)) ≡ false
      at_word [] s i follow = absurd cc
      at_word (t ∷ v) s i follow = i

-- an optional part
module _ {A : Type 0} (ends : Ahead → Bool) (v : List Token) (n : ℕ) (test : Ahead → Bool) (P : ℕ → Reader A) (x : A) (g : Good ends v n P) (some : needs v ≡ true) (stays : (o : Ahead) → ends o ≡ true → test o ≡ false) where
  none_ends : (d : Held) (o : Ahead) → ends o ≡ true → if_clean test d o ≡ false
  none_ends d o e = ap (λ (b : Bool). nothing d && b) (stays o e) ∙ both_false (nothing d)

  none_taken : (d : Held) (ts : List Token) (y : A) (d' : Held) (r : List Token) → if_clean test d (ahead ts) ≡ false → option test (P n) x (d, ts) ≡ ok_of y d' r → Takes ends false n (λ m. option test (P m) x) d ts y d' r
  none_taken d ts y d' r i e =
      let f : ok_of x d ts ≡ ok_of y d' r = sym (is_right (if_clean test) P (λ _. pure x) n d ts i) ∙ e in
      record {
        front = [];
        is = ok_2 f;
        again = λ m l r' side. is_right (if_clean test) P (λ _. pure x) m d r' (elim side [ inl s ↦ ap (λ (o : Option Token). if_clean test d (seen o)) (sym (ap head (ok_2 f) ∙ s)) ∙ i | inr s ↦ none_ends d (ahead r') s ])
            ∙ ap (λ (z : A). ok_of z d r') (ok_0 f) ∙ ap (λ (z : Held). ok_of y z r') (ok_1 f);
        eats = λ h. absurd cc;
        clean = λ h h'. let j : pends d ≡ pends d' = ap pends (ok_1 f) in absurd cc;
        resumes = λ h l. absurd (no_less ts r (ok_2 f) l);
      }

  pub good_option : Good ends [] n (λ m. option test (P m) x)
  good_option = record { takes = took; fails = failed; can = λ m l follow e. (x, is_right (if_clean test) P (λ _. pure x) m [] follow (none_ends [] (ahead follow) e)) }
    where
      took : (d : Held) (ts : List Token) (y : A) (d' : Held) (r : List Token) → option test (P n) x (d, ts) ≡ ok_of y d' r → Takes ends false n (λ m. option test (P m) x) d ts y d' r
      took d ts y d' r e = elim (decide (if_clean test d (ahead ts))) [
        | inl i ↦ branch_takes ends v n (if_clean test) true P (λ m. option test (P m) x) (is_left (if_clean test) P (λ _. pure x)) g some false d ts y d' r i e
        | inr i ↦ none_taken d ts y d' r i e
      ]

      failed : (d : Held) (ts : List Token) (s : Stop) → option test (P n) x (d, ts) ≡ err_of s → Stops ends n (λ m. option test (P m) x) d ts s
      failed d ts s e = elim (decide (if_clean test d (ahead ts))) [
        | inl i ↦ branch_fails ends v n (if_clean test) true P (λ m. option test (P m) x) (is_left (if_clean test) P (λ _. pure x)) g some d ts s i e
        | inr i ↦ (let f : ok_of x d ts ≡ err_of s = sym (is_right (if_clean test) P (λ _. pure x) n d ts i) ∙ e in absurd cc)
      ]

-- what is held goes away
pub good_absorb : (ends : Ahead → Bool) (n : ℕ) → Good ends [] n (λ _. absorb)
unfolding absorb
good_absorb ends n = record {
  takes = λ d ts y d' r e. record {
    front = [];
    is = ok_2 e;
    again = λ m l r' _. ap (λ z. ok_of z [] r') (ok_0 e) ∙ ap (λ (z : Held). ok_of y z r') (ok_1 e);
    eats = λ h. absurd cc;
    clean = λ h h'. let i : pends [] ≡ pends d' = ap pends (ok_1 e) in absurd cc;
    resumes = λ h l. absurd (no_less ts r (ok_2 e) l);
  };
  fails = λ d ts s e. absurd cc;
  can = λ m l follow h. (true, refl);
}

pub good_settle : (ends : Ahead → Bool) (n : ℕ) → Good ends [] n (λ _. settle)
unfolding settle
good_settle ends n = record {
  takes = λ d ts y d' r e. record {
    front = [];
    is = ok_2 e;
    again = λ m l r' _. ap (λ z. ok_of z [] r') (ok_0 e) ∙ ap (λ (z : Held). ok_of y z r') (ok_1 e);
    eats = λ h. absurd cc;
    clean = λ h h'. let i : pends [] ≡ pends d' = ap pends (ok_1 e) in absurd cc;
    resumes = λ h l. absurd (no_less ts r (ok_2 e) l);
  };
  fails = λ d ts s e. absurd cc;
  can = λ m l follow h. (waiting.Nothing, refl);
}

-- a loop that goes on only where nothing is held
pub good_loop : {S A : Type 0} (more : S → Ahead → Bool) (ends : Ahead → Bool) (w : List Token) (n : ℕ) (P : ℕ → Reader A) (add : S → A → S)
    → ((s : S) → more s see.End ≡ false) → ((s : S) (o : Ahead) → ends o ≡ true → more s o ≡ false) → needs w ≡ true → Good ends w n P → (s : S) → Good ends [] n (λ m. fold (clean more) (P m) add s)
good_loop more ends w n P add stays over some good s = good_fold (clean more) ends w n P add (λ s d. ap (λ (b : Bool). nothing d && b) (stays s) ∙ both_false (nothing d)) (λ s o d e. ap (λ (b : Bool). nothing d && b) (over s o e) ∙ both_false (nothing d)) some good s
