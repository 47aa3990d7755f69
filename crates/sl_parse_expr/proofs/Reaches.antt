-- That a reader gives a value, and what is left behind it, of which separators may be held.
use Rattle.std.proofs.Common.{◌≡◌, Bool, true, false, List, [], ◌∷◌, ◌++◌, Option, Some, None, refl, sym, ap, ◌∙◌, append_assoc}
use Rattle.std.specs.Prelude.{if◌then◌else◌, ◌&&◌}
use Rattle.std.proofs.lemmas.List.{append-nil}
use Rattle.sl_text.specs.declared.span.Span.{Span}
use Rattle.sl_ast.specs.declared.token.Token.{Token}
use Rattle.sl_parse_expr.specs.declared.ahead.Ahead.{Ahead}
use Rattle.sl_parse_expr.specs.declared.ahead.Ahead.TheVariants as see
use Rattle.sl_parse_expr.specs.Ahead.{same}
use Rattle.sl_parse_expr.specs.Reading.{Outcome, Reader, and_then, ◌>>=◌, pure, ahead, nothing, one, given, expect, choose, option, fold, clean}
use Rattle.sl_parse_expr.specs.Rules.{added}
use Rattle.sl_parse_expr.specs.Phrases.{IsOne, IsWord, IsOption, Pending, none_held, semi_held, line_held, lines_held}
use Rattle.sl_parse_expr.specs.Phrases as phrase
use Rattle.sl_parse_expr.proofs.Theory.{Held, ok_of, fold_goes, fold_stays}
use Rattle.sl_parse_expr.proofs.Choices.{both_false}
use Rattle.sl_parse_expr.proofs.Loops.{Eats}
use Rattle.sl_parse_expr.proofs.Fronts.{front}

-- from what is held and the tokens behind it the reader gives x, and r is left, of which some may be held
pub record Reaches {A : Type 0} (q : Reader A) (d : Held) (a : List Token) (x : A) (r : List Token) : Type 0 where
  pub held : Held
  pub left : List Token
  pub pending : Pending held
  pub whole : held ++ left ≡ r
  pub reads : q (d, a) ≡ ok_of x held left

-- and nothing is held
pub record Lands {A : Type 0} (q : Reader A) (d : Held) (a : List Token) (x : A) (r : List Token) : Type 0 where
  pub reads : q (d, a) ≡ ok_of x [] r

-- whatever of the tokens m is held
pub record From {A : Type 0} (q : Reader A) (m : List Token) (x : A) (r : List Token) : Type 0 where
  pub from : (d : Held) (a : List Token) → Pending d → d ++ a ≡ m → Reaches q d a x r

pub record FromClean {A : Type 0} (q : Reader A) (m : List Token) (x : A) (r : List Token) : Type 0 where
  pub from : (d : Held) (a : List Token) → Pending d → d ++ a ≡ m → Lands q d a x r

pub loose : {A : Type 0} {q : Reader A} {d : Held} {a : List Token} {x : A} {r : List Token} → Lands q d a x r → Reaches q d a x r
loose {A} {q} {d} {a} {x} {r} h = record { held = []; left = r; pending = none_held; whole = refl; reads = h.reads }

pub at_once : {A : Type 0} {q : Reader A} {m : List Token} {x : A} {r : List Token} → From q m x r → Reaches q [] m x r
at_once {A} {q} {m} {x} {r} f = f.from [] m none_held refl

-- ---- one after the other

pub next : {A B : Type 0} {P : Reader A} (F : A → Reader B) {d : Held} {a : List Token} {x : A} {m : List Token} {y : B} {r : List Token} → Reaches P d a x m → From (F x) m y r → Reaches (P >>= F) d a y r
next {A} {B} {P} F {d} {a} {x} {m} {y} {r} h f =
    let g = f.from h.held h.left h.pending h.whole in
    record { held = g.held; left = g.left; pending = g.pending; whole = g.whole; reads = ap (λ (o : Outcome A). and_then o F) h.reads ∙ g.reads }

pub next_clean : {A B : Type 0} {P : Reader A} (F : A → Reader B) {d : Held} {a : List Token} {x : A} {m : List Token} {y : B} {r : List Token} → Reaches P d a x m → FromClean (F x) m y r → Lands (P >>= F) d a y r
next_clean {A} {B} {P} F {d} {a} {x} {m} {y} {r} h f =
    let g = f.from h.held h.left h.pending h.whole in
    record { reads = ap (λ (o : Outcome A). and_then o F) h.reads ∙ g.reads }

pub upon : {A B : Type 0} {P : Reader A} (F : A → Reader B) {d : Held} {a : List Token} {x : A} {m : List Token} {y : B} {r : List Token} → Lands P d a x m → Reaches (F x) [] m y r → Reaches (P >>= F) d a y r
upon {A} {B} {P} F {d} {a} {x} {m} {y} {r} h g = record { held = g.held; left = g.left; pending = g.pending; whole = g.whole; reads = ap (λ (o : Outcome A). and_then o F) h.reads ∙ g.reads }

pub upon_clean : {A B : Type 0} {P : Reader A} (F : A → Reader B) {d : Held} {a : List Token} {x : A} {m : List Token} {y : B} {r : List Token} → Lands P d a x m → Lands (F x) [] m y r → Lands (P >>= F) d a y r
upon_clean {A} {B} {P} F {d} {a} {x} {m} {y} {r} h g = record { reads = ap (λ (o : Outcome A). and_then o F) h.reads ∙ g.reads }

pub map : {A B : Type 0} {P : Reader A} {d : Held} {a : List Token} {x : A} {r : List Token} (f : A → B) → Reaches P d a x r → Reaches (P >>= λ x. pure (f x)) d a (f x) r
map {A} {B} {P} {d} {a} {x} {r} f h = record { held = h.held; left = h.left; pending = h.pending; whole = h.whole; reads = ap (λ (o : Outcome A). and_then o (λ x. pure (f x))) h.reads }

pub map_clean : {A B : Type 0} {P : Reader A} {d : Held} {a : List Token} {x : A} {r : List Token} (f : A → B) → Lands P d a x r → Lands (P >>= λ x. pure (f x)) d a (f x) r
map_clean {A} {B} {P} {d} {a} {x} {r} f h = record { reads = ap (λ (o : Outcome A). and_then o (λ x. pure (f x))) h.reads }

pub map_from : {A B : Type 0} {P : Reader A} {m : List Token} {x : A} {r : List Token} (f : A → B) → From P m x r → From (P >>= λ x. pure (f x)) m (f x) r
map_from {A} {B} {P} {m} {x} {r} f h = record { from = λ d a k i. map f (h.from d a k i) }

pub through : {A B : Type 0} {P : Reader A} (F : A → Reader B) {m : List Token} {x : A} {c : List Token} {y : B} {r : List Token} → From P m x c → From (F x) c y r → From (P >>= F) m y r
through F h f = record { from = λ d a k i. next F (h.from d a k i) f }

pub through_clean : {A B : Type 0} {P : Reader A} (F : A → Reader B) {m : List Token} {x : A} {c : List Token} {y : B} {r : List Token} → From P m x c → FromClean (F x) c y r → FromClean (P >>= F) m y r
through_clean F h f = record { from = λ d a k i. next_clean F (h.from d a k i) f }

-- ---- single tokens

pub single : {A : Type 0} {value : Token → Option A} {x : A} {m r : List Token} → IsOne value x m r → Lands (one value) [] m x r
unfolding one
single {A} {value} {x} {r = r} (phrase.token {t = t} i) = record { reads = ap (λ (o : Option A). given o t r) i }

pub marked : (what : Ahead) {s : Span} {m r : List Token} → IsWord what s m r → Lands (expect what) [] m s r
unfolding expect
marked what w = single w

-- ---- what isn't a separator isn't held

seen_held : (test : Ahead → Bool) (o p : Ahead) → o ≡ p → test p ≡ false → test o ≡ true → ⊥
seen_held test o p i f h = let j : true ≡ false = sym h ∙ ap test i ∙ f in absurd cc

module _ (test : Ahead → Bool) (s : test see.Semicolon ≡ false) (l : test see.Newline ≡ false) where
  pub cleared : (d : Held) (a m : List Token) → Pending d → d ++ a ≡ m → test (ahead m) ≡ true → (d ≡ []) × (a ≡ m)
  cleared d a m none_held i h = (refl, i)
  cleared d a m (semi_held {t = t} k) i h = absurd (seen_held test (ahead m) see.Semicolon (sym (ap ahead i) ∙ k) s h)
  cleared d a m (line_held {t = t} k) i h = absurd (seen_held test (ahead m) see.Newline (sym (ap ahead i) ∙ k) l h)
  cleared d a m (lines_held {t = t} {u = u} k k2) i h = absurd (seen_held test (ahead m) see.Newline (sym (ap ahead i) ∙ k) l h)

  pub not_there : (d : Held) (a m : List Token) → d ++ a ≡ m → test (ahead m) ≡ false → (nothing d && test (ahead a)) ≡ false
  not_there [] a m i h = ap (λ (z : List Token). test (ahead z)) i ∙ h
  not_there (t ∷ d) a m i h = refl

  -- what begins with such a token
  pub beginning : {A : Type 0} {q : Reader A} {m : List Token} {x : A} {r : List Token} → test (ahead m) ≡ true → Reaches q [] m x r → From q m x r
  beginning {A} {q} {m} {x} {r} h g = record { from = λ d a k i. let c = cleared d a m k i h in record { held = g.held; left = g.left; pending = g.pending; whole = g.whole; reads = ap (λ (z : Held). q (z, a)) c.0 ∙ ap (λ (z : List Token). q ([], z)) c.1 ∙ g.reads } }

  pub beginning_clean : {A : Type 0} {q : Reader A} {m : List Token} {x : A} {r : List Token} → test (ahead m) ≡ true → Lands q [] m x r → FromClean q m x r
  beginning_clean {A} {q} {m} {x} {r} h g = record { from = λ d a k i. let c = cleared d a m k i h in record { reads = ap (λ (z : Held). q (z, a)) c.0 ∙ ap (λ (z : List Token). q ([], z)) c.1 ∙ g.reads } }

  -- an optional part that isn't there
  pub missing : {A : Type 0} {q : Reader A} {m : List Token} (none : A) → test (ahead m) ≡ false → From (option test q none) m none m
  missing {A} {q} {m} none h = record { from = λ d a k i. record { held = d; left = a; pending = k; whole = i; reads = ap (λ (b : Bool). (if b then q else pure none) (d, a)) (not_there d a m i h) } }

  -- and one that is
  pub there : {A : Type 0} {q : Reader A} {m : List Token} {x : A} {r : List Token} (none : A) → test (ahead m) ≡ true → Reaches q [] m x r → From (option test q none) m x r
  there {A} {q} {m} {x} {r} none h g = beginning h (record { held = g.held; left = g.left; pending = g.pending; whole = g.whole; reads = ap (λ (b : Bool). (if b then q else pure none) ([], m)) h ∙ g.reads })

  pub optional : {A : Type 0} {R : A → List Token → List Token → Type 0} {q : Reader (Option A)} {x : Option A} {m r : List Token} → ((y : A) (a b : List Token) → R y a b → test (ahead a) ≡ true) → ((y : A) (a b : List Token) → R y a b → Reaches q [] a (Some y) b)
      → IsOption test R x m r → From (option test q None) m x r
  optional {A} {R} {q} f g (phrase.absent h) = missing None h
  optional {A} {R} {q} f g (phrase.present {x = y} {a = a} {r = b} h) = there None (f y a b h) (g y a b h)

-- what begins with a word
pub opened : {A : Type 0} {q : Reader A} {m : List Token} {x : A} {r b : List Token} {s : Span} (what : Ahead) → same what see.Semicolon ≡ false → same what see.Newline ≡ false → same what what ≡ true → IsWord what s m b → Reaches q [] m x r → From q m x r
opened what s l h w g = beginning (same what) s l (front (same what) what true h w) g

pub closing : {A : Type 0} {q : Reader A} {m : List Token} {x : A} {r b : List Token} {s : Span} (what : Ahead) → same what see.Semicolon ≡ false → same what see.Newline ≡ false → same what what ≡ true → IsWord what s m b → Lands q [] m x r → FromClean q m x r
closing what s l h w g = beginning_clean (same what) s l (front (same what) what true h w) g

-- where nothing is held
pub without : {A : Type 0} {q : Reader A} {m : List Token} (test : Ahead → Bool) (none : A) → test (ahead m) ≡ false → Lands (option test q none) [] m none m
without {A} {q} {m} test none h = record { reads = ap (λ (b : Bool). (if b then q else pure none) ([], m)) h }

pub having : {A : Type 0} {q : Reader A} {m : List Token} {x : A} {r : List Token} (test : Ahead → Bool) (none : A) → test (ahead m) ≡ true → Lands q [] m x r → Lands (option test q none) [] m x r
having {A} {q} {m} {x} {r} test none h g = record { reads = ap (λ (b : Bool). (if b then q else pure none) ([], m)) h ∙ g.reads }

pub optional_clean : {A : Type 0} {R : A → List Token → List Token → Type 0} {q : Reader (Option A)} {x : Option A} {m r : List Token} (test : Ahead → Bool) → ((y : A) (a b : List Token) → R y a b → test (ahead a) ≡ true) → ((y : A) (a b : List Token) → R y a b → Lands q [] a (Some y) b)
    → IsOption test R x m r → Lands (option test q None) [] m x r
optional_clean {A} {R} {q} test f g (phrase.absent h) = without test None h
optional_clean {A} {R} {q} test f g (phrase.present {x = y} {a = a} {r = b} h) = having test None (f y a b h) (g y a b h)

-- ---- choices

pub left : {A : Type 0} {q : Reader A} (p : Reader A) {d : Held} {a : List Token} {x : A} {r : List Token} (test : Ahead → Bool) → test (ahead a) ≡ true → Reaches q d a x r → Reaches (choose test q p) d a x r
left {A} {q} p {d} {a} {x} {r} test h g = record { held = g.held; left = g.left; pending = g.pending; whole = g.whole; reads = ap (λ (b : Bool). (if b then q else p) (d, a)) h ∙ g.reads }

pub right : {A : Type 0} {p : Reader A} (q : Reader A) {d : Held} {a : List Token} {x : A} {r : List Token} (test : Ahead → Bool) → test (ahead a) ≡ false → Reaches p d a x r → Reaches (choose test q p) d a x r
right {A} {p} q {d} {a} {x} {r} test h g = record { held = g.held; left = g.left; pending = g.pending; whole = g.whole; reads = ap (λ (b : Bool). (if b then q else p) (d, a)) h ∙ g.reads }

pub left_clean : {A : Type 0} {q : Reader A} (p : Reader A) {d : Held} {a : List Token} {x : A} {r : List Token} (test : Ahead → Bool) → test (ahead a) ≡ true → Lands q d a x r → Lands (choose test q p) d a x r
left_clean {A} {q} p {d} {a} {x} {r} test h g = record { reads = ap (λ (b : Bool). (if b then q else p) (d, a)) h ∙ g.reads }

pub right_clean : {A : Type 0} {p : Reader A} (q : Reader A) {d : Held} {a : List Token} {x : A} {r : List Token} (test : Ahead → Bool) → test (ahead a) ≡ false → Lands p d a x r → Lands (choose test q p) d a x r
right_clean {A} {p} q {d} {a} {x} {r} test h g = record { reads = ap (λ (b : Bool). (if b then q else p) (d, a)) h ∙ g.reads }

-- ---- loops

module _ {X : Type 0} (test : Ahead → Bool) (item : Reader X) (end : test see.End ≡ false) (s : test see.Semicolon ≡ false) (l : test see.Newline ≡ false) (eats : Eats item) where
  never : (xs : List X) (d : Held) → clean (λ (_ : List X) o. test o) xs see.End d ≡ false
  never xs d = ap (λ (b : Bool). nothing d && b) end ∙ both_false (nothing d)

  pub stays : (xs : List X) (m : List Token) → test (ahead m) ≡ false → From (fold (clean (λ _ o. test o)) item added xs) m (xs ++ []) m
  stays xs m h = record { from = λ d a k i. record { held = d; left = a; pending = k; whole = i; reads = fold_stays (clean (λ _ o. test o)) item added never xs d a (not_there test s l d a m i h) ∙ ap (λ (z : List X). ok_of z d a) (sym (append-nil xs)) } }

  pub goes : (xs : List X) (x : X) (ys : List X) (m b r : List Token) → test (ahead m) ≡ true → Reaches item [] m x b → From (fold (clean (λ _ o. test o)) item added (xs ++ x ∷ [])) b ((xs ++ x ∷ []) ++ ys) r → From (fold (clean (λ _ o. test o)) item added xs) m (xs ++ x ∷ ys) r
  goes xs x ys m b r h g f = beginning test s l h (
      let k = f.from g.held g.left g.pending g.whole in
      record {
        held = k.held;
        left = k.left;
        pending = k.pending;
        whole = k.whole;
        reads = fold_goes (clean (λ _ o. test o)) item added never xs [] m x g.held g.left h g.reads (eats.eats ([], m) x (g.held, g.left) g.reads) ∙ k.reads ∙ ap (λ (z : List X). ok_of z k.held k.left) (append_assoc xs (x ∷ []) ys);
      })
