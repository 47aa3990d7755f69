-- What a reader gives: of each tree that it gives, what holds of it, of what is held then and of what is left.
use Rattle.std.proofs.Common.{◌≡◌, ℕ, zero, suc, ◌<◌, Bool, true, false, List, [], ◌∷◌, ◌++◌, length, Option, Some, None, Ok, Err, refl, sym, ap, subst, ◌∙◌, append_assoc, arith, inl, inr, ◌⊎◌}
use Rattle.std.specs.Prelude.{if◌then◌else◌, ◌&&◌}
use Rattle.std.proofs.lemmas.List.{append-nil}
use Rattle.sl_text.specs.declared.span.Span.{Span}
use Rattle.sl_ast.specs.declared.token.Token.{Token}
use Rattle.sl_parse_expr.specs.declared.ahead.Ahead.{Ahead}
use Rattle.sl_parse_expr.specs.declared.ahead.Ahead.TheVariants as see
use Rattle.sl_parse_expr.specs.declared.cursor.Waiting.{Waiting}
use Rattle.sl_parse_expr.specs.Reading.{Stop, State, Outcome, Reader, ◌>>=◌, ◌>>◌, pure, hold, look, absorb, settle, waits, ahead, nothing, one, given, word, expect, choose_by, by_ahead, choose, if_clean, option, fold, clean}
use Rattle.sl_parse_expr.specs.Rules.{added}
use Rattle.sl_parse_expr.specs.Phrases.{IsOne, IsWord, Pending, none_held, semi_held, line_held, lines_held}
use Rattle.sl_parse_expr.specs.Phrases as phrase
use Rattle.sl_parse_expr.proofs.Theory.{Held, ok_of, err_of, decide, bind_ok, ok_0, ok_1, ok_2, fold_goes, fold_stays, fold_fails}
use Rattle.sl_parse_expr.proofs.Choices.{both_false}
use Rattle.sl_parse_expr.proofs.Loops.{Eats}

pub record Gives {A : Type 0} (q : Reader A) (d : Held) (a : List Token) (T : A → Held → List Token → Type 0) : Type 0 where
  pub gives : (y : A) (e : Held) (r : List Token) → q (d, a) ≡ ok_of y e r → T y e r

-- nothing is held behind it
pub record Clean {A : Type 0} (R : A → List Token → Type 0) (y : A) (e : Held) (r : List Token) : Type 0 where
  pub none : e ≡ []
  pub is : R y r

-- what is held behind it is counted with what is left
pub record Loose {A : Type 0} (R : A → List Token → Type 0) (y : A) (e : Held) (r : List Token) : Type 0 where
  pub held : Pending e
  pub is : R y (e ++ r)

along : {A : Type 0} (T : A → Held → List Token → Type 0) (x y : A) (d e : Held) (a r : List Token) → ok_of x d a ≡ ok_of y e r → T x d a → T y e r
along {A} T x y d e a r i h = subst (λ (z : List Token). T y e z) (ok_2 i) (subst (λ (z : Held). T y z a) (ok_1 i) (subst (λ (z : A). T z d a) (ok_0 i) h))

pub give : {A : Type 0} {T : A → Held → List Token → Type 0} {d : Held} {a : List Token} (x : A) → T x d a → Gives (pure x) d a T
give {A} {T} {d} {a} x h = record { gives = λ y e r i. along T x y d e a r i h }

pub stopped : {A : Type 0} {T : A → Held → List Token → Type 0} {q : Reader A} {d : Held} {a : List Token} (s : Stop) → q (d, a) ≡ err_of s → Gives q d a T
stopped {A} {T} {q} {d} {a} s i = record { gives = λ y e r j. let k : err_of s ≡ ok_of y e r = sym i ∙ j in absurd cc }

-- a reader that is another at this place
pub same_as : {A : Type 0} {T : A → Held → List Token → Type 0} {q p : Reader A} {d c : Held} {a b : List Token} → q (d, a) ≡ p (c, b) → Gives p c b T → Gives q d a T
same_as {A} {T} {q} {p} {d} {c} {a} {b} i g = record { gives = λ y e r j. g.gives y e r (sym i ∙ j) }

-- what is held with the next token, looked at, let go, or let go and looked at
pub holding : {A : Type 0} {T : A → Held → List Token → Type 0} {q : Reader A} {d : Held} {t : Token} {b : List Token} → Gives q (d ++ t ∷ []) b T → Gives (hold q) d (t ∷ b) T
holding {A} {T} {q} {d} {t} {b} g = record { gives = λ y e r i. g.gives y e r i }

pub looked : {A : Type 0} {T : A → Held → List Token → Type 0} {d : Held} {a : List Token} (f : Ahead → List Token → Reader A) → Gives (f (ahead a) d) d a T → Gives (look f) d a T
looked {A} {T} {d} {a} f g = record { gives = λ y e r i. g.gives y e r i }

pub absorbed : {A : Type 0} {T : A → Held → List Token → Type 0} {q : Reader A} {d : Held} {a : List Token} → Gives q [] a T → Gives (absorb >> q) d a T
unfolding absorb
absorbed {A} {T} {q} {d} {a} g = record { gives = λ y e r i. g.gives y e r i }

pub settled : {A : Type 0} {T : A → Held → List Token → Type 0} {d : Held} {a : List Token} (f : Waiting → Reader A) → Gives (f (waits d)) [] a T → Gives (settle >>= f) d a T
unfolding settle
settled {A} {T} {d} {a} f g = record { gives = λ y e r i. g.gives y e r i }

pub weaker : {A : Type 0} {S T : A → Held → List Token → Type 0} {q : Reader A} {d : Held} {a : List Token} → Gives q d a S → ((x : A) (e : Held) (r : List Token) → S x e r → T x e r) → Gives q d a T
weaker {A} {S} {T} {q} {d} {a} g f = record { gives = λ y e r i. f y e r (g.gives y e r i) }

pub looser : {A : Type 0} {R : A → List Token → Type 0} {q : Reader A} {d : Held} {a : List Token} → Gives q d a (Clean R) → Gives q d a (Loose R)
looser {A} {R} {q} {d} {a} g = weaker g (λ x e r h. record { held = subst (λ (z : Held). Pending z) (sym h.none) none_held; is = subst (λ (z : Held). R x (z ++ r)) (sym h.none) h.is })

pub as_clean : {A : Type 0} {R S : A → List Token → Type 0} {q : Reader A} {d : Held} {a : List Token} → Gives q d a (Clean R) → ((x : A) (r : List Token) → R x r → S x r) → Gives q d a (Clean S)
as_clean {A} {R} {S} {q} {d} {a} g f = weaker g (λ x e r h. record { none = h.none; is = f x r h.is })

pub as_loose : {A : Type 0} {R S : A → List Token → Type 0} {q : Reader A} {d : Held} {a : List Token} → Gives q d a (Loose R) → ((x : A) (r : List Token) → R x r → S x r) → Gives q d a (Loose S)
as_loose {A} {R} {S} {q} {d} {a} g f = weaker g (λ x e r h. record { held = h.held; is = f x (e ++ r) h.is })

-- ---- one after the other

pub next : {A B : Type 0} {R : A → Held → List Token → Type 0} {T : B → Held → List Token → Type 0} {P : Reader A} {F : A → Reader B} {d : Held} {a : List Token}
    → Gives P d a R → ((x : A) (e : Held) (b : List Token) → R x e b → Gives (F x) e b T) → Gives (P >>= F) d a T
next {A} {B} {R} {T} {P} {F} {d} {a} g f = record { gives = λ y e r i. let o = bind_ok (P (d, a)) F y e r i in (f o.0 o.1 o.2 (g.gives o.0 o.1 o.2 o.3)).gives y e r o.4 }

-- behind what leaves nothing held
pub upon : {A B : Type 0} {R : A → List Token → Type 0} {T : B → Held → List Token → Type 0} {P : Reader A} {F : A → Reader B} {d : Held} {a : List Token}
    → Gives P d a (Clean R) → ((x : A) (b : List Token) → R x b → Gives (F x) [] b T) → Gives (P >>= F) d a T
upon {A} {B} {R} {T} {P} {F} {d} {a} g f = next g (λ x e b h. record { gives = λ y e2 r i. (f x b h.is).gives y e2 r (ap (λ (z : Held). F x (z, b)) (sym h.none) ∙ i) })

pub map_clean : {A B : Type 0} {R : A → List Token → Type 0} {S : B → List Token → Type 0} {P : Reader A} {d : Held} {a : List Token} (f : A → B)
    → Gives P d a (Clean R) → ((x : A) (r : List Token) → R x r → S (f x) r) → Gives (P >>= λ x. pure (f x)) d a (Clean S)
map_clean {A} {B} {R} {S} {P} {d} {a} f g h = next g (λ x e b i. give (f x) (record { none = i.none; is = h x b i.is }))

pub map_loose : {A B : Type 0} {R : A → List Token → Type 0} {S : B → List Token → Type 0} {P : Reader A} {d : Held} {a : List Token} (f : A → B)
    → Gives P d a (Loose R) → ((x : A) (r : List Token) → R x r → S (f x) r) → Gives (P >>= λ x. pure (f x)) d a (Loose S)
map_loose {A} {B} {R} {S} {P} {d} {a} f g h = next g (λ x e b i. give (f x) (record { held = i.held; is = h x (e ++ b) i.is }))

-- ---- single tokens

given_is : {A : Type 0} (o : Option A) (t : Token) (ts : List Token) (x : A) (e : Held) (r : List Token) → given o t ts ≡ ok_of x e r → (o ≡ Some x) × (e ≡ []) × (ts ≡ r)
given_is (Some y) t ts x e r i = (ap (λ z. Some z) (ok_0 i), sym (ok_1 i), ok_2 i)
given_is None t ts x e r i = absurd cc

pub single : {A : Type 0} (value : Token → Option A) (d : Held) (a : List Token) → Gives (one value) d a (Clean (λ x r. IsOne value x (d ++ a) r))
unfolding one
single {A} value d a = record { gives = go d a }
  where
    go : (d : Held) (a : List Token) (x : A) (e : Held) (r : List Token) → one value (d, a) ≡ ok_of x e r → Clean (λ x r. IsOne value x (d ++ a) r) x e r
    go [] (t ∷ ts) x e r i = let k = given_is (value t) t ts x e r i in record { none = k.1; is = subst (λ (z : List Token). IsOne value x (t ∷ ts) z) k.2 (phrase.token k.0) }
    go d [] x e r i = absurd cc
    go (u ∷ d) (t ∷ ts) x e r i = absurd cc

pub marked : (what : Ahead) (d : Held) (a : List Token) → Gives (expect what) d a (Clean (λ s r. IsWord what s (d ++ a) r))
unfolding expect
marked what d a = single (word what) d a

-- ---- choices

pub branch_by : {A : Type 0} {T : A → Held → List Token → Type 0} {q p : Reader A} {d : Held} {a : List Token} (b : Bool) → (b ≡ true → Gives q d a T) → (b ≡ false → Gives p d a T) → Gives (if b then q else p) d a T
branch_by true f g = f refl
branch_by false f g = g refl

branch : {A : Type 0} (b v : Bool) (q p : Reader A) (st : State) → b ≡ v → (if b then q else p) st ≡ (if v then q else p) st
branch b v q p st i = rw i refl

pub either : {A : Type 0} {T : A → Held → List Token → Type 0} {q p : Reader A} {d : Held} {a : List Token} (test : Held → Ahead → Bool)
    → (test d (ahead a) ≡ true → Gives q d a T) → (test d (ahead a) ≡ false → Gives p d a T) → Gives (choose_by test q p) d a T
either {A} {T} {q} {p} {d} {a} test f g = elim (decide (test d (ahead a))) [
  | inl h ↦ same_as {q = choose_by test q p} {p = q} (branch (test d (ahead a)) true q p (d, a) h) (f h)
  | inr h ↦ same_as {q = choose_by test q p} {p = p} (branch (test d (ahead a)) false q p (d, a) h) (g h)
]

pub both : {A : Type 0} {T : A → Held → List Token → Type 0} {q p : Reader A} {d : Held} {a : List Token} (test : Ahead → Bool) → Gives q d a T → Gives p d a T → Gives (choose test q p) d a T
both test f g = either (by_ahead test) (λ _. f) (λ _. g)

-- what isn't at a separator isn't at what is held
pub not_held : (test : Ahead → Bool) (d : Held) (a : List Token) → Pending d → test see.Semicolon ≡ false → test see.Newline ≡ false → (nothing d && test (ahead a)) ≡ false → test (ahead (d ++ a)) ≡ false
not_held test d a none_held s l h = h
not_held test d a (semi_held i) s l h = ap test i ∙ s
not_held test d a (line_held i) s l h = ap test i ∙ l
not_held test d a (lines_held i j) s l h = ap test i ∙ l

-- an optional part, where something may be held
pub perhaps : {A : Type 0} {R : A → List Token → Type 0} {q : Reader A} {d : Held} {a : List Token} (test : Ahead → Bool) (none : A) → Pending d → test see.Semicolon ≡ false → test see.Newline ≡ false
    → Gives q d a (Loose R) → (test (ahead (d ++ a)) ≡ false → R none (d ++ a)) → Gives (option test q none) d a (Loose R)
perhaps {A} {R} {q} {d} {a} test none k s l g f = either (if_clean test) (λ _. g) (λ h. give none (record { held = k; is = f (not_held test d a k s l h) }))

-- and where nothing is
pub perhaps_clean : {A : Type 0} {R : A → List Token → Type 0} {q : Reader A} {a : List Token} (test : Ahead → Bool) (none : A) → Gives q [] a (Clean R) → (test (ahead a) ≡ false → R none a) → Gives (option test q none) [] a (Clean R)
perhaps_clean {A} {R} {q} {a} test none g f = either (if_clean test) (λ _. g) (λ h. give none (record { none = refl; is = f h }))

-- ---- loops

module _ {S A : Type 0} (more : S → Ahead → Bool) (item : Reader A) (add : S → A → S) (stays : (s : S) → more s see.End ≡ false) (eats : Eats item)
    (Inv : S → Held → List Token → Type 0) (T : S → Held → List Token → Type 0)
    (step : (s : S) (d : Held) (a : List Token) → Inv s d a → clean more s (ahead a) d ≡ true → Gives item d a (λ x e b. Inv (add s x) e b))
    (done : (s : S) (d : Held) (a : List Token) → Inv s d a → clean more s (ahead a) d ≡ false → T s d a) where
  never : (s : S) (d : Held) → clean more s see.End d ≡ false
  never s d = ap (λ (b : Bool). nothing d && b) (stays s) ∙ both_false (nothing d)

  turns : (k : ℕ) (s : S) (d : Held) (a : List Token) → length a < k → Inv s d a → Gives (fold (clean more) item add s) d a T
  turns zero s d a l inv = absurd (omega arith)
  turns (suc k) s d a l inv = record { gives = λ y e r i. go (λ s d b fewer inv. turns k s d b (omega arith) inv) y e r i (decide (clean more s (ahead a) d)) (item (d, a)) refl }
    where
      go : ((s : S) (d : Held) (b : List Token) → length b < length a → Inv s d b → Gives (fold (clean more) item add s) d b T) → (y : S) (e : Held) (r : List Token) → fold (clean more) item add s (d, a) ≡ ok_of y e r
          → (clean more s (ahead a) d ≡ true) ⊎ (clean more s (ahead a) d ≡ false) → (o : Outcome A) → item (d, a) ≡ o → T y e r
      go ih y e r i (inr h) o j = along T s y d e a r (sym (fold_stays (clean more) item add never s d a h) ∙ i) (done s d a inv h)
      go ih y e r i (inl h) (Err f) j = let k : err_of f ≡ ok_of y e r = sym (fold_fails (clean more) item add never s d a f h j) ∙ i in absurd cc
      go ih y e r i (inl h) (Ok q) j =
          let m = eats.eats (d, a) q.0 q.1 j in
          (ih (add s q.0) q.1.0 q.1.1 m ((step s d a inv h).gives q.0 q.1.0 q.1.1 j)).gives y e r (sym (fold_goes (clean more) item add never s d a q.0 q.1.0 q.1.1 h j m) ∙ i)

  pub loop : (s : S) (d : Held) (a : List Token) → Inv s d a → Gives (fold (clean more) item add s) d a T
  loop s d a inv = turns (suc (length a)) s d a (omega arith) inv

-- a list, as far as a token that the test knows follows: L says what it is, and whatever its rest is completes the whole, W
module _ {X : Type 0} (test : Ahead → Bool) (item : Reader X) (end : test see.End ≡ false) (s : test see.Semicolon ≡ false) (l : test see.Newline ≡ false) (eats : Eats item)
    (I : X → List Token → List Token → Type 0) (L : List X → List Token → List Token → Type 0) (W : List X → List Token → Type 0)
    (nil : (r : List Token) → test (ahead r) ≡ false → L [] r r) (cons : (x : X) (xs : List X) (a b r : List Token) → I x a b → L xs b r → L (x ∷ xs) a r)
    (item_is : (d : Held) (a : List Token) → Gives item d a (Loose (λ x b. I x (d ++ a) b))) where
  abbrev So : List X → Held → List Token → Type 0
  So xs d a = Pending d × ((zs : List X) (r : List Token) → L zs (d ++ a) r → W (xs ++ zs) r)

  pub listing : (xs : List X) (d : Held) (a : List Token) → So xs d a → Gives (fold (clean (λ _ o. test o)) item added xs) d a (Loose W)
  listing xs d a inv = loop (λ _ o. test o) item added (λ _. end) eats So (Loose W)
      (λ xs d a inv h. weaker (item_is d a) (λ x e b k. (k.held, λ zs r j. subst (λ (z : List X). W z r) (sym (append_assoc xs (x ∷ []) zs)) (inv.1 (x ∷ zs) r (cons x zs (d ++ a) (e ++ b) r k.is j)))))
      (λ xs d a inv h. record { held = inv.0; is = subst (λ (z : List X). W z (d ++ a)) (append-nil xs) (inv.1 [] (d ++ a) (nil (d ++ a) (not_held test d a inv.0 s l h))) })
      xs d a inv

-- a separator and what it stands before
pub data IsNext {A : Type 0} (sep : Ahead) (X : A → List Token → List Token → Type 0) : A → List Token → List Token → Type 0 where
  behind : {s : Span} {x : A} {a b r : List Token} → IsWord sep s a b → X x b r → IsNext sep X x a r

pub one_behind : {A : Type 0} (sep : Ahead) (X : A → List Token → List Token → Type 0) (x : A) (xs : List A) (a b r : List Token) → IsNext sep X x a b → phrase.IsMore sep X xs b r → phrase.IsMore sep X (x ∷ xs) a r
one_behind sep X x xs a b r (behind w h) m = phrase.one_more w h m
