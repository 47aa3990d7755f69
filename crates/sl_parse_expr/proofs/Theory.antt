-- How a family of readers, one for each depth, depends on the tokens: on those that it takes and on the next one; and how what it stopped in can be completed.
use Rattle.std.proofs.Common.{◌≡◌, ℕ, zero, suc, ◌+◌, ◌≤◌, ◌<◌, Bool, true, false, List, [], ◌∷◌, ◌++◌, length, Option, Some, None, Ok, Err, refl, sym, ap, subst, ◌∙◌, append_assoc, arith, inl, inr, ◌⊎◌}
use Rattle.std.specs.Prelude.{if◌then◌else◌}
use Rattle.std.proofs.lemmas.List.{append-nil, length-append}
use Rattle.sl_ast.specs.declared.token.Token.{Token}
use Rattle.sl_parse_expr.specs.declared.ahead.Ahead.{Ahead}
use Rattle.sl_parse_expr.specs.declared.ahead.Ahead.TheVariants as see
use Rattle.sl_parse_expr.specs.Ahead.{sort}
use Rattle.sl_parse_expr.specs.Reading.{Stop, State, Outcome, Reader, and_then, ◌>>=◌, pure, stuck, head, seen, ahead, rest, first, hold, look, one, one_by, given, shorter, fold, fold_from}

abbrev pub Held : Type 0
Held = List Token

-- whether something is held
abbrev pub pends : Held → Bool
pends [] = false
pends (t ∷ ts) = true

abbrev pub stop : Bool → List Token → Stop
stop b ts = record { deep = b; at = ts }

abbrev pub ok_of : {A : Type 0} → A → Held → List Token → Outcome A
ok_of x d r = Ok (x, (d, r))

abbrev pub err_of : {A : Type 0} → Stop → Outcome A
err_of s = Err s

pub bind_ok : {A B : Type 0} (o : Outcome A) (f : A → Reader B) (y : B) (d : Held) (r : List Token) → and_then o f ≡ ok_of y d r → (x : A) × (d' : Held) × (r' : List Token) × (o ≡ ok_of x d' r') × (f x (d', r') ≡ ok_of y d r)
bind_ok (Ok q) f y d r e = (q.0, q.1.0, q.1.1, refl, e)
bind_ok (Err s) f y d r e = absurd cc

-- which of the two stopped
pub bind_err : {A B : Type 0} (o : Outcome A) (f : A → Reader B) (s : Stop) → and_then o f ≡ Err s → (o ≡ err_of s) ⊎ ((x : A) × (d' : Held) × (r' : List Token) × (o ≡ ok_of x d' r') × (f x (d', r') ≡ Err s))
bind_err (Ok q) f s e = inr (q.0, q.1.0, q.1.1, refl, e)
bind_err (Err d) f s e = inl cc

got_0 : {A : Type 0} → A → Outcome A → A
got_0 z (Ok q) = q.0
got_0 z (Err s) = z

got_1 : {A : Type 0} → Outcome A → Held
got_1 (Ok q) = q.1.0
got_1 (Err s) = []

got_2 : {A : Type 0} → Outcome A → List Token
got_2 (Ok q) = q.1.1
got_2 (Err s) = []

got_3 : {A : Type 0} → Outcome A → Stop
got_3 (Ok q) = stop false []
got_3 (Err s) = s

pub ok_0 : {A : Type 0} {x y : A} {d d' : Held} {r s : List Token} → ok_of x d r ≡ ok_of y d' s → x ≡ y
unfolding got_0
ok_0 {A} {x} {y} {d} {d'} {r} {s} e = ap (got_0 x) e

pub ok_1 : {A : Type 0} {x y : A} {d d' : Held} {r s : List Token} → ok_of x d r ≡ ok_of y d' s → d ≡ d'
unfolding got_1
ok_1 e = ap got_1 e

pub ok_2 : {A : Type 0} {x y : A} {d d' : Held} {r s : List Token} → ok_of x d r ≡ ok_of y d' s → r ≡ s
unfolding got_2
ok_2 e = ap got_2 e

pub err_is : {A : Type 0} {s u : Stop} → err_of {A = A} s ≡ err_of u → s ≡ u
unfolding got_3
err_is e = ap got_3 e

pub decide : (b : Bool) → (b ≡ true) ⊎ (b ≡ false)
decide true = inl refl
decide false = inr refl

pub nothing_is : (d : Held) → pends d ≡ false → d ≡ []
nothing_is [] e = refl
nothing_is d e = absurd cc

-- ---- what is said of a reader

-- the same next token, or one before which the reader is surely over
abbrev pub Same : (Ahead → Bool) → List Token → List Token → Type 0
Same ends r r' = (head r ≡ head r') ⊎ (ends (ahead r') ≡ true)

-- the readers of the deeper levels, after the front, can be led to an end where nothing pends and a token of `ends` may follow
abbrev pub Completes : {A : Type 0} → (Ahead → Bool) → ℕ → (ℕ → Reader A) → Held → List Token → Type 0
Completes {A} ends n P d front = (w : List Token) × ((m : ℕ) → n + 2 ≤ m → (follow : List Token) → ends (ahead follow) ≡ true → (x : A) × (P m (d, front ++ (w ++ follow)) ≡ ok_of x [] follow))

-- It took the front, and takes it at each greater depth before every rest with this head, and before each that ends it.
pub record Takes {A : Type 0} (ends : Ahead → Bool) (need : Bool) (n : ℕ) (P : ℕ → Reader A) (d : Held) (ts : List Token) (x : A) (d' : Held) (r : List Token) : Type 0 where
  pub front : List Token
  pub is : ts ≡ front ++ r
  pub again : (m : ℕ) → n ≤ m → (r' : List Token) → Same ends r r' → P m (d, front ++ r') ≡ ok_of x d' r'
  pub eats : need ≡ true → length r < length ts
  -- where something begins to pend, it was taken
  pub clean : pends d ≡ false → pends d' ≡ true → length r < length ts
  -- what was taken and pends can be settled
  pub resumes : pends d' ≡ true → length r < length ts → Completes ends n P d front

-- It stopped after the front. If it took anything, that can be completed; and if it was too deep, the token that stopped it too.
pub record Stops {A : Type 0} (ends : Ahead → Bool) (n : ℕ) (P : ℕ → Reader A) (d : Held) (ts : List Token) (s : Stop) : Type 0 where
  pub front : List Token
  pub is : ts ≡ front ++ s.at
  pub again : (m : ℕ) → n ≤ m → (s.deep ≡ false) ⊎ (m ≡ n) → (at' : List Token) → head s.at ≡ head at' → P m (d, front ++ at') ≡ err_of (stop s.deep at')
  pub goes_on : (front ≡ []) ⊎ Completes ends n P d front
  pub further : s.deep ≡ true → (b : Token) × (head s.at ≡ Some b) × Completes ends n P d (front ++ b ∷ [])

-- a word that is not empty tells that something is always taken
abbrev pub needs : List Token → Bool
needs [] = false
needs (t ∷ ts) = true

-- `w` is a whole text of the reader
pub record Good {A : Type 0} (ends : Ahead → Bool) (w : List Token) (n : ℕ) (P : ℕ → Reader A) : Type 0 where
  pub takes : (d : Held) (ts : List Token) (x : A) (d' : Held) (r : List Token) → P n (d, ts) ≡ ok_of x d' r → Takes ends (needs w) n P d ts x d' r
  pub fails : (d : Held) (ts : List Token) (s : Stop) → P n (d, ts) ≡ err_of s → Stops ends n P d ts s
  pub can : (m : ℕ) → n + 2 ≤ m → (follow : List Token) → ends (ahead follow) ≡ true → (x : A) × (P m ([], w ++ follow) ≡ ok_of x [] follow)

pub no_less : (ts r : List Token) → ts ≡ r → length r < length ts → ⊥
no_less ts r e l = let m = ap length e in omega arith

pub good_pure : {A : Type 0} (ends : Ahead → Bool) (n : ℕ) (x : A) → Good ends [] n (λ _. pure x)
good_pure ends n x = record {
  takes = λ d ts y d' r e. record {
    front = [];
    is = ok_2 e;
    again = λ m l r' _. ap (λ z. ok_of z d r') (ok_0 e) ∙ ap (λ z. ok_of y z r') (ok_1 e);
    eats = λ h. absurd cc;
    clean = λ h h'. let i = ap pends (ok_1 e) in absurd cc;
    resumes = λ h l. absurd (no_less ts r (ok_2 e) l);
  };
  fails = λ d ts s e. absurd cc;
  can = λ m l follow h. (x, refl);
}

-- ---- one after the other

pub head_same : (f a b : List Token) → head a ≡ head b → head (f ++ a) ≡ head (f ++ b)
head_same [] a b e = e
head_same (t ∷ f) a b e = refl

-- the first part is over before the second: what may come behind an empty second part ends the first, and so does the word's first token
abbrev pub Meets : (Ahead → Bool) → (Ahead → Bool) → List Token → Type 0
Meets mid ends [] = (t : Ahead) → ends t ≡ true → mid t ≡ true
Meets mid ends (c ∷ w) = mid (sort c) ≡ true

meets_word : (mid ends : Ahead → Bool) (w follow : List Token) → Meets mid ends w → ends (ahead follow) ≡ true → mid (ahead (w ++ follow)) ≡ true
meets_word mid ends [] follow sub h = sub (ahead follow) h
meets_word mid ends (c ∷ w) follow sub h = sub

-- the token that follows, seen from before the second part
before : (mid ends : Ahead → Bool) (w f r r1 r' : List Token) → Meets mid ends w → r1 ≡ f ++ r → (needs w ≡ true → length r < length r1) → Same ends r r' → Same mid r1 (f ++ r')
before mid ends w (t ∷ f) r r1 r' sub is eats h = inl (ap head is)
before mid ends [] [] r r1 r' sub is eats (inl e) = inl (ap head is ∙ e)
before mid ends [] [] r r1 r' sub is eats (inr e) = inr (sub (ahead r') e)
before mid ends (c ∷ w) [] r r1 r' sub is eats h = absurd (no_less r1 r is (eats refl))

both_need : (v w : List Token) → needs (v ++ w) ≡ true → (needs v ≡ true) ⊎ (needs w ≡ true)
both_need [] w e = inr e
both_need (c ∷ v) w e = inl refl

shrinks : (f ts r : List Token) → ts ≡ f ++ r → length r ≤ length ts
shrinks f ts r e = let l = ap length e ∙ length-append f r in omega arith

module _ {A B : Type 0} (mid ends : Ahead → Bool) (v w : List Token) (n : ℕ) (P : ℕ → Reader A) (F : ℕ → A → Reader B)
    (first : Good mid v n P) (second : (x : A) → Good ends w n (λ m. F m x)) (sub : Meets mid ends w) where
  Q : ℕ → Reader B
  Q m = P m >>= F m

  -- the first is completed, then the second by its word
  first_then : (d : Held) (front : List Token) → Completes mid n P d front → Completes ends n (λ m. P m >>= F m) d front
  first_then d front c = (
    c.0 ++ w,
    λ m l follow h.
        let regroup : front ++ ((c.0 ++ w) ++ follow) ≡ front ++ (c.0 ++ (w ++ follow)) = ap (λ (z : List Token). front ++ z) (append_assoc c.0 w follow) in
        let o = c.1 m l (w ++ follow) (meets_word mid ends w follow sub h) in
        let y = (second o.0).can m l follow h in
        (y.0, ap (λ (z : List Token). and_then (P m (d, z)) (F m)) regroup ∙ ap (λ (o : Outcome A). and_then o (F m)) o.1 ∙ y.1),
  )

  module _ (d : Held) (ts : List Token) (x : A) (d1 : Held) (r1 : List Token) (a : Takes mid (needs v) n P d ts x d1 r1) where
    joined : (m : ℕ) → n ≤ m → (f2 z : List Token) → Same mid r1 (f2 ++ z) → and_then (P m (d, (a.front ++ f2) ++ z)) (F m) ≡ F m x (d1, f2 ++ z)
    joined m l f2 z h = ap (λ (z : List Token). and_then (P m (d, z)) (F m)) (append_assoc a.front f2 z) ∙ ap (λ (o : Outcome A). and_then o (F m)) (a.again m l (f2 ++ z) h)

    -- the first is over, and nothing of the second was taken
    over : (front : List Token) → a.front ≡ front → (pends d1 ≡ true) ⊎ (pends d1 ≡ false) → (front ≡ []) ⊎ Completes ends n (λ m. P m >>= F m) d (front ++ [])
    over [] e h = inl refl
    over (t ∷ f) e (inl h) = let l = ap length a.is ∙ length-append a.front r1 in let k = ap length e in
        inr (subst (λ (z : List Token). Completes ends n (λ m. P m >>= F m) d z) (e ∙ sym (append-nil (t ∷ f))) (first_then d a.front (a.resumes h (omega arith))))
    over (t ∷ f) e (inr h) = inr (
      w,
      λ m l follow g.
          let y = (second x).can m l follow g in
          (y.0, ap (λ (z : List Token). and_then (P m (d, (z ++ []) ++ (w ++ follow))) (F m)) (sym e) ∙ joined m (omega arith) [] (w ++ follow) (inr (meets_word mid ends w follow sub g)) ∙ ap (λ (z : Held). F m x (z, w ++ follow)) (nothing_is d1 h) ∙ y.1),
    )

    -- the second is completed after the first
    on : (t : Token) (more z : List Token) → head r1 ≡ Some t → Completes ends n (λ m. F m x) d1 (t ∷ more) → Completes ends n (λ m. P m >>= F m) d (a.front ++ (t ∷ more))
    on t more z same c = (c.0, λ m l follow h. let y = c.1 m l follow h in (y.0, joined m (omega arith) (t ∷ more) (c.0 ++ follow) (inl same) ∙ y.1))

    on_ahead : (f2 z : List Token) → r1 ≡ f2 ++ z → (f2 ≡ []) ⊎ Completes ends n (λ m. F m x) d1 f2 → ((a.front ++ f2) ≡ []) ⊎ Completes ends n (λ m. P m >>= F m) d (a.front ++ f2)
    on_ahead [] z is h = elim (over a.front refl (decide (pends d1))) [ inl e ↦ inl (append-nil a.front ∙ e) | inr c ↦ inr c ]
    on_ahead (t ∷ more) z is (inl e) = absurd cc
    on_ahead (t ∷ more) z is (inr c) = inr (on t more z (ap head is) c)

    on_further : (f2 at : List Token) (t : Token) → r1 ≡ f2 ++ at → head at ≡ Some t → Completes ends n (λ m. F m x) d1 (f2 ++ t ∷ []) → Completes ends n (λ m. P m >>= F m) d ((a.front ++ f2) ++ t ∷ [])
    on_further f2 at t is ht c = (
      c.0,
      λ m l follow h.
          let y = c.1 m l follow h in
          let regroup : ((a.front ++ f2) ++ t ∷ []) ++ (c.0 ++ follow) ≡ (a.front ++ (f2 ++ t ∷ [])) ++ (c.0 ++ follow) = ap (λ (z : List Token). z ++ (c.0 ++ follow)) (append_assoc a.front f2 (t ∷ [])) in
          let same : head r1 ≡ head ((f2 ++ t ∷ []) ++ (c.0 ++ follow)) = ap head is ∙ head_same f2 at (t ∷ (c.0 ++ follow)) ht ∙ ap head (sym (append_assoc f2 (t ∷ []) (c.0 ++ follow))) in
          (y.0, ap (λ (z : List Token). and_then (P m (d, z)) (F m)) regroup ∙ joined m (omega arith) (f2 ++ t ∷ []) (c.0 ++ follow) (inl same) ∙ y.1),
    )

    bind_takes : (y : B) (d' : Held) (r : List Token) → Takes ends (needs w) n (λ m. F m x) d1 r1 y d' r → Takes ends (needs (v ++ w)) n (λ m. P m >>= F m) d ts y d' r
    bind_takes y d' r b = record {
      front = a.front ++ b.front;
      is = a.is ∙ ap (λ (z : List Token). a.front ++ z) b.is ∙ sym (append_assoc a.front b.front r);
      again = λ m l r' h. joined m l b.front r' (before mid ends w b.front r r1 r' sub b.is b.eats h) ∙ b.again m l r' h;
      eats = λ h. elim (both_need v w h) [ inl i ↦ (let j = a.eats i in omega (arith, one, two)) | inr i ↦ (let j = b.eats i in omega (arith, one, two)) ];
      clean = λ h h'. elim (decide (pends d1)) [ inl i ↦ (let j = a.clean h i in omega (arith, one, two)) | inr i ↦ (let j = b.clean i h' in omega (arith, one, two)) ];
      resumes = λ h' l. settle b.front b.is (b.resumes h') h' l;
    }
      where
        one : length r ≤ length r1
        one = shrinks b.front r1 r b.is

        two : length r1 ≤ length ts
        two = shrinks a.front ts r1 a.is

        settle : (f2 : List Token) → r1 ≡ f2 ++ r → (length r < length r1 → Completes ends n (λ m. F m x) d1 f2) → pends d' ≡ true → length r < length ts → Completes ends n (λ m. P m >>= F m) d (a.front ++ f2)
        settle [] is c h' l = elim (decide (pends d1)) [
          | inl i ↦ (let k = ap length is in subst (λ (z : List Token). Completes ends n (λ m. P m >>= F m) d z) (sym (append-nil a.front)) (first_then d a.front (a.resumes i (omega arith))))
          | inr i ↦ (let j = b.clean i h' in let k = ap length is in absurd (omega arith))
        ]
        settle (t ∷ more) is c h' l = let k = ap length is ∙ length-append (t ∷ more) r in on t more r (ap head is) (c (omega arith))

    bind_second : (s : Stop) → Stops ends n (λ m. F m x) d1 r1 s → Stops ends n (λ m. P m >>= F m) d ts s
    bind_second s b = record {
      front = a.front ++ b.front;
      is = a.is ∙ ap (λ (z : List Token). a.front ++ z) b.is ∙ sym (append_assoc a.front b.front s.at);
      again = λ m l k at' h. joined m l b.front at' (inl (ap head b.is ∙ head_same b.front s.at at' h)) ∙ b.again m l k at' h;
      goes_on = on_ahead b.front s.at b.is b.goes_on;
      further = λ h. let k = b.further h in (k.0, k.1, on_further b.front s.at k.0 b.is k.1 k.2);
    }

  bind_first : (d : Held) (ts : List Token) (s : Stop) → Stops mid n P d ts s → Stops ends n (λ m. P m >>= F m) d ts s
  bind_first d ts s a = record {
    front = a.front;
    is = a.is;
    again = λ m l k at' h. ap (λ (o : Outcome A). and_then o (F m)) (a.again m l k at' h);
    goes_on = elim a.goes_on [ inl e ↦ inl e | inr c ↦ inr (first_then d a.front c) ];
    further = λ h. let k = a.further h in (k.0, k.1, first_then d (a.front ++ k.0 ∷ []) k.2);
  }

  pub good_bind : Good ends (v ++ w) n (λ m. P m >>= F m)
  good_bind = record {
    takes = λ d ts y d' r e.
        let o = bind_ok (P n (d, ts)) (F n) y d' r e in
        bind_takes d ts o.0 o.1 o.2 (first.takes d ts o.0 o.1 o.2 o.3) y d' r ((second o.0).takes o.1 o.2 y d' r o.4);
    fails = λ d ts s e. elim (bind_err (P n (d, ts)) (F n) s e) [
      | inl h ↦ bind_first d ts s (first.fails d ts s h)
      | inr o ↦ bind_second d ts o.0 o.1 o.2 (first.takes d ts o.0 o.1 o.2 o.3) s ((second o.0).fails o.1 o.2 s o.4)
    ];
    can = λ m l follow h.
        let x = first.can m l (w ++ follow) (meets_word mid ends w follow sub h) in
        let y = (second x.0).can m l follow h in
        (y.0, ap (λ (z : List Token). and_then (P m ([], z)) (F m)) (append_assoc v w follow) ∙ ap (λ (o : Outcome A). and_then o (F m)) x.1 ∙ y.1);
  }

pub good_map : {A B : Type 0} (ends : Ahead → Bool) (w : List Token) (n : ℕ) (P : ℕ → Reader A) (f : A → B) → Good ends w n P → Good ends (w ++ []) n (λ m. P m >>= λ x. pure (f x))
good_map ends w n P f g = good_bind ends ends w [] n P (λ m x. pure (f x)) g (λ x. good_pure ends n (f x)) (λ t e. e)

-- ---- a choice by the token ahead

-- a reader at lists that begin with the token: it takes it, or refuses at it
abbrev TakenAt : {A : Type 0} → (Ahead → Bool) → ℕ → (ℕ → Reader A) → Held → Token → List Token → A → Held → List Token → Type 0
TakenAt ends n F d t ts x d' r = (front : List Token) × (ts ≡ front ++ r)
    × ((m : ℕ) → n ≤ m → (r' : List Token) → Same ends r r' → F m (d, t ∷ (front ++ r')) ≡ ok_of x d' r')
    × (pends d' ≡ true → Completes ends n F d (t ∷ front))

abbrev RefusedAt : {A : Type 0} → (Ahead → Bool) → ℕ → (ℕ → Reader A) → Held → Token → List Token → Stop → Type 0
RefusedAt ends n F d t ts s = (t ∷ ts ≡ s.at)
    × ((m : ℕ) → n ≤ m → (s.deep ≡ false) ⊎ (m ≡ n) → (ts' : List Token) → F m (d, t ∷ ts') ≡ err_of (stop s.deep (t ∷ ts')))
    × (s.deep ≡ true → Completes ends n F d (t ∷ []))

abbrev StoppedBehind : {A : Type 0} → (Ahead → Bool) → ℕ → (ℕ → Reader A) → Held → Token → List Token → Stop → Type 0
StoppedBehind ends n F d t ts s = (front : List Token) × (ts ≡ front ++ s.at)
    × ((m : ℕ) → n ≤ m → (s.deep ≡ false) ⊎ (m ≡ n) → (at' : List Token) → head s.at ≡ head at' → F m (d, t ∷ (front ++ at')) ≡ err_of (stop s.deep at'))
    × Completes ends n F d (t ∷ front)
    × (s.deep ≡ true → (b : Token) × (head s.at ≡ Some b) × Completes ends n F d (t ∷ (front ++ b ∷ [])))

pub record At {A : Type 0} (ends : Ahead → Bool) (n : ℕ) (F : ℕ → Reader A) (d : Held) (t : Token) : Type 0 where
  pub takes : (ts : List Token) (x : A) (d' : Held) (r : List Token) → F n (d, t ∷ ts) ≡ ok_of x d' r → TakenAt ends n F d t ts x d' r
  pub fails : (ts : List Token) (s : Stop) → F n (d, t ∷ ts) ≡ err_of s → RefusedAt ends n F d t ts s ⊎ StoppedBehind ends n F d t ts s

pub at_stuck : {A : Type 0} (ends : Ahead → Bool) (n : ℕ) (d : Held) (t : Token) → At {A = A} ends n (λ _. stuck) d t
at_stuck ends n d t = record {
  takes = λ ts x d' r e. absurd cc;
  fails = λ ts s e. let i = err_is e in inl (ap (λ (z : Stop). z.at) i, λ m l q ts'. ap (λ (z : Stop). err_of (stop z.deep (t ∷ ts'))) i, λ h. let j : false ≡ true = ap (λ (z : Stop). z.deep) i ∙ h in absurd cc);
}

-- nothing or something was taken behind the token
taken : {X : Type 0} (front ts r : List Token) → ts ≡ front ++ r → (length r < length ts → X) → (front ≡ []) ⊎ X
taken [] ts r e f = inl refl
taken (t ∷ front) ts r e f = let l = ap length e ∙ length-append (t ∷ front) r in inr (f (omega arith))

-- the token is taken and `e` pends; `c` tells how to settle that
pub at_hold : {A : Type 0} (ends : Ahead → Bool) (w : List Token) (n : ℕ) (F : ℕ → Reader A) (d : Held) (t : Token) → Good ends w n F → Completes ends n F (d ++ t ∷ []) [] → At ends n (λ m. hold (F m)) d t
at_hold ends w n F d t g c = record {
  takes = λ ts x d' r h. let a = g.takes (d ++ t ∷ []) ts x d' r h in (a.front, a.is, a.again, λ k. on a.front (taken a.front ts r a.is (a.resumes k)));
  fails = λ ts s h. let a = g.fails (d ++ t ∷ []) ts s h in inr (a.front, a.is, a.again, on a.front a.goes_on, a.further);
}
  where
    on : (front : List Token) → (front ≡ []) ⊎ Completes ends n F (d ++ t ∷ []) front → Completes ends n (λ m. hold (F m)) d (t ∷ front)
    on front (inl none) = (c.0, λ m l follow h. let y = c.1 m l follow h in (y.0, ap (λ (z : List Token). F m (d ++ t ∷ [], z ++ (c.0 ++ follow))) none ∙ y.1))
    on front (inr k) = k

-- what a list that begins so was cut into
cut : (t : Token) (ts front r : List Token) → t ∷ ts ≡ front ++ r → (front ≡ []) ⊎ ((more : List Token) × (front ≡ t ∷ more) × (ts ≡ more ++ r))
cut t ts [] r e = inl refl
cut t ts (u ∷ more) r e = let h : u ≡ t = cc in inr (more, ap (λ z. z ∷ more) h, ap rest e)

-- a reader that looks at the token itself, and always takes something
pub at_left : {A : Type 0} (ends : Ahead → Bool) (w : List Token) (n : ℕ) (F : ℕ → Reader A) (d : Held) (t : Token) → needs w ≡ true → Good ends w n F → At ends n F d t
at_left ends w n F d t some g = record {
  takes = λ ts x d' r e. let a = g.takes d (t ∷ ts) x d' r e in left_takes ts x d' r a (cut t ts a.front r a.is);
  fails = λ ts s e. let a = g.fails d (t ∷ ts) s e in left_fails ts s e a (cut t ts a.front s.at a.is) a.goes_on;
}
  where
    left_takes : (ts : List Token) (x : _) (d' : Held) (r : List Token) → (a : Takes ends (needs w) n F d (t ∷ ts) x d' r)
        → (a.front ≡ []) ⊎ ((more : List Token) × (a.front ≡ t ∷ more) × (ts ≡ more ++ r)) → TakenAt ends n F d t ts x d' r
    left_takes ts x d' r a (inl none) = absurd (no_less (t ∷ ts) r (a.is ∙ ap (λ (z : List Token). z ++ r) none) (a.eats some))
    left_takes ts x d' r a (inr k) = (
      k.0,
      k.2,
      λ m l r' h. ap (λ (z : List Token). F m (d, z ++ r')) (sym k.1) ∙ a.again m l r' h,
      λ h. subst (λ (z : List Token). Completes ends n F d z) k.1 (a.resumes h (a.eats some)),
    )

    left_fails : (ts : List Token) (s : Stop) → F n (d, t ∷ ts) ≡ err_of s → (a : Stops ends n F d (t ∷ ts) s)
        → (a.front ≡ []) ⊎ ((more : List Token) × (a.front ≡ t ∷ more) × (ts ≡ more ++ s.at)) → (a.front ≡ []) ⊎ Completes ends n F d a.front → RefusedAt ends n F d t ts s ⊎ StoppedBehind ends n F d t ts s
    left_fails ts s e a (inl none) on =
        let is : t ∷ ts ≡ s.at = a.is ∙ ap (λ (z : List Token). z ++ s.at) none in
        inl (
          is,
          λ m l q ts'. ap (λ (z : List Token). F m (d, z ++ (t ∷ ts'))) (sym none) ∙ a.again m l q (t ∷ ts') (ap head (sym is)),
          λ h. let k = a.further h in let i : Some t ≡ Some k.0 = ap head is ∙ k.1 in let j : k.0 ≡ t = cc in subst (λ (z : Token). Completes ends n F d (z ∷ [])) j (subst (λ (z : List Token). Completes ends n F d (z ++ k.0 ∷ [])) none k.2),
        )
    left_fails ts s e a (inr k) (inl none) = let h : t ∷ k.0 ≡ [] = sym k.1 ∙ none in absurd cc
    left_fails ts s e a (inr k) (inr c) = inr (
      k.0,
      k.2,
      λ m l q at' h. ap (λ (z : List Token). F m (d, z ++ at')) (sym k.1) ∙ a.again m l q at' h,
      subst (λ (z : List Token). Completes ends n F d z) k.1 c,
      λ h. let f = a.further h in (f.0, f.1, subst (λ (z : List Token). Completes ends n F d (z ++ f.0 ∷ [])) k.1 f.2),
    )

empty_head : (ts : List Token) → None ≡ head ts → ts ≡ []
empty_head [] e = refl
empty_head (t ∷ ts) e = absurd cc

begins_with : (t : Token) (at' : List Token) → Some t ≡ head at' → (us : List Token) × (at' ≡ t ∷ us)
begins_with t [] e = absurd cc
begins_with t (u ∷ us) e = let h : u ≡ t = cc in (us, ap (λ z. z ∷ us) h)

abbrev By : Type 0 → Type 0
By A = ℕ → Ahead → Held → Reader A

module _ {A : Type 0} (ends : Ahead → Bool) (n : ℕ) (f : By A) where
  look_takes : (d : Held) (t : Token) (ts : List Token) (x : A) (d' : Held) (r : List Token) (need : Bool) → TakenAt ends n (λ m. f m (sort t) d) d t ts x d' r → Takes ends need n (λ m. look (f m)) d (t ∷ ts) x d' r
  look_takes d t ts x d' r need a =
      let l = shrinks a.0 ts r a.1 in
      record { front = t ∷ a.0; is = ap (λ (z : List Token). t ∷ z) a.1; again = a.2; eats = λ _. omega arith; clean = λ _ _. omega arith; resumes = λ h _. a.3 h }

  look_fails : (d : Held) (t : Token) (ts : List Token) (s : Stop) → RefusedAt ends n (λ m. f m (sort t) d) d t ts s ⊎ StoppedBehind ends n (λ m. f m (sort t) d) d t ts s → Stops ends n (λ m. look (f m)) d (t ∷ ts) s
  look_fails d t ts s (inl a) = record {
    front = [];
    is = a.0;
    again = λ m l q at' h. let b = begins_with t at' (ap head a.0 ∙ h) in ap (λ (z : List Token). look (f m) (d, z)) b.1 ∙ a.1 m l q b.0 ∙ ap (λ (z : List Token). err_of (stop s.deep z)) (sym b.1);
    goes_on = inl refl;
    further = λ h. (t, ap head (sym a.0), a.2 h);
  }
  look_fails d t ts s (inr a) = record { front = t ∷ a.0; is = ap (λ (z : List Token). t ∷ z) a.1; again = a.2; goes_on = inr a.3; further = a.4 }

  nothing_left : (d : Held) (s : Stop) → ((m : ℕ) → f m see.End d ≡ stuck) → look (f n) (d, []) ≡ err_of s → Stops ends n (λ m. look (f m)) d [] s
  nothing_left d s none e =
      let i : stop false [] ≡ s = err_is (ap (λ (q : Reader A). q (d, [])) (sym (none n)) ∙ e) in
      let ats : [] ≡ s.at = ap (λ (z : Stop). z.at) i in
      record {
        front = [];
        is = ats;
        again = λ m l q at' h. let k = empty_head at' (ap head ats ∙ h) in ap (λ (z : List Token). look (f m) (d, z)) k ∙ ap (λ (q : Reader A). q (d, [])) (none m) ∙ ap (λ (z : Stop). err_of (stop z.deep z.at)) i ∙ ap (λ (z : List Token). err_of (stop s.deep z)) (sym ats ∙ sym k);
        goes_on = inl refl;
        further = λ h. let k : false ≡ true = ap (λ (z : Stop). z.deep) i ∙ h in absurd cc;
      }

  -- a choice whose branches all take something; `w` is a whole text of one of them
  pub good_look : (w : List Token) → ((d : Held) (m : ℕ) → f m see.End d ≡ stuck) → ((d : Held) (t : Token) → At ends n (λ m. f m (sort t) d) d t)
      → ((m : ℕ) → n + 2 ≤ m → (follow : List Token) → ends (ahead follow) ≡ true → (x : A) × (look (f m) ([], w ++ follow) ≡ ok_of x [] follow)) → Good ends w n (λ m. look (f m))
  good_look w none at can = record { takes = took; fails = failed; can = can }
    where
      took : (d : Held) (ts : List Token) (x : A) (d' : Held) (r : List Token) → look (f n) (d, ts) ≡ ok_of x d' r → Takes ends (needs w) n (λ m. look (f m)) d ts x d' r
      took d [] x d' r e = let i : err_of (stop false []) ≡ ok_of x d' r = ap (λ (q : Reader A). q (d, [])) (sym (none d n)) ∙ e in absurd cc
      took d (t ∷ ts) x d' r e = look_takes d t ts x d' r (needs w) ((at d t).takes ts x d' r e)

      failed : (d : Held) (ts : List Token) (s : Stop) → look (f n) (d, ts) ≡ err_of s → Stops ends n (λ m. look (f m)) d ts s
      failed d [] s e = nothing_left d s (none d) e
      failed d (t ∷ ts) s e = look_fails d t ts s ((at d t).fails ts s e)

  -- an optional part: where it does not begin nothing is taken
  module _ (v : A) (none : (d : Held) (m : ℕ) → f m see.End d ≡ pure v) (stays : (d : Held) (m : ℕ) (t : Token) → ends (sort t) ≡ true → f m (sort t) d ≡ pure v) where
    stays_over : (m : ℕ) (d : Held) (r' : List Token) → ends (ahead r') ≡ true → look (f m) (d, r') ≡ ok_of v d r'
    stays_over m d [] h = ap (λ (q : Reader A). q (d, [])) (none d m)
    stays_over m d (t ∷ ts) h = ap (λ (q : Reader A). q (d, t ∷ ts)) (stays d m t h)

    not_taken : (d : Held) (ts : List Token) (x : A) (d' : Held) (r : List Token) → ((m : ℕ) → f m (ahead ts) d ≡ pure v) → look (f n) (d, ts) ≡ ok_of x d' r → Takes ends false n (λ m. look (f m)) d ts x d' r
    not_taken d ts x d' r e h =
        let i : ok_of v d ts ≡ ok_of x d' r = ap (λ (q : Reader A). q (d, ts)) (sym (e n)) ∙ h in
        record {
          front = [];
          is = ok_2 i;
          again = λ m l r' side. (elim side [ inl s ↦ ap (λ (o : Option Token). f m (seen o) d (d, r')) (sym (ap head (ok_2 i) ∙ s)) ∙ ap (λ (q : Reader A). q (d, r')) (e m) | inr s ↦ stays_over m d r' s ])
              ∙ ap (λ (z : A). ok_of z d r') (ok_0 i) ∙ ap (λ (z : Held). ok_of x z r') (ok_1 i);
          eats = λ h. absurd cc;
          clean = λ h h'. let j = ap pends (ok_1 i) in absurd cc;
          resumes = λ h l. absurd (no_less ts r (ok_2 i) l);
        }

    pub good_option : ((d : Held) (t : Token) → At ends n (λ m. f m (sort t) d) d t ⊎ ((m : ℕ) → f m (sort t) d ≡ pure v)) → Good ends [] n (λ m. look (f m))
    good_option at = record { takes = took; fails = failed; can = λ m l follow h. (v, stays_over m [] follow h) }
      where
        took : (d : Held) (ts : List Token) (x : A) (d' : Held) (r : List Token) → look (f n) (d, ts) ≡ ok_of x d' r → Takes ends false n (λ m. look (f m)) d ts x d' r
        took d [] x d' r e = not_taken d [] x d' r (none d) e
        took d (t ∷ ts) x d' r e = elim (at d t) [
          | inl a ↦ look_takes d t ts x d' r false (a.takes ts x d' r e)
          | inr k ↦ not_taken d (t ∷ ts) x d' r k e
        ]

        failed : (d : Held) (ts : List Token) (s : Stop) → look (f n) (d, ts) ≡ err_of s → Stops ends n (λ m. look (f m)) d ts s
        failed d [] s e = let i : ok_of v d [] ≡ err_of s = ap (λ (q : Reader A). q (d, [])) (sym (none d n)) ∙ e in absurd cc
        failed d (t ∷ ts) s e = elim (at d t) [
          | inl a ↦ look_fails d t ts s (a.fails ts s e)
          | inr k ↦ (let i : ok_of v d (t ∷ ts) ≡ err_of s = ap (λ (q : Reader A). q (d, t ∷ ts)) (sym (k n)) ∙ e in absurd cc)
        ]

-- ---- a single token

abbrev pub always : Ahead → Bool
always _ = true

-- what a token with a value and one without do
module _ {A : Type 0} (n : ℕ) (value : Token → Option A) where
  given_takes : (o : Option A) (t : Token) (ts : List Token) (x : A) (d' : Held) (r : List Token) → given o t ts ≡ ok_of x d' r → (o ≡ Some x) × ([] ≡ d') × (ts ≡ r)
  given_takes (Some y) t ts x d' r e = (ap (λ z. Some z) (ok_0 e), ok_1 e, ok_2 e)
  given_takes None t ts x d' r e = absurd cc

  given_fails : (o : Option A) (t : Token) (ts : List Token) (s : Stop) → given o t ts ≡ err_of s → (o ≡ None) × (stop false (t ∷ ts) ≡ s)
  given_fails None t ts s e = (refl, err_is e)
  given_fails (Some y) t ts s e = absurd cc

  one_takes : (d : Held) (ts : List Token) (x : A) (d' : Held) (r : List Token) → one value (d, ts) ≡ ok_of x d' r → Takes always true n (λ _. one value) d ts x d' r
  unfolding one
  one_takes [] (t ∷ ts) x d' r e =
      let i = given_takes (value t) t ts x d' r e in
      record {
        front = t ∷ [];
        is = ap (λ (z : List Token). t ∷ z) i.2;
        again = λ m l r' h. ap (λ (o : Option A). given o t r') i.0 ∙ ap (λ (z : Held). ok_of x z r') i.1;
        eats = λ _. let j = ap length i.2 in omega arith;
        clean = λ h h'. let j = ap pends i.1 in absurd cc;
        resumes = λ h l. let j = ap pends i.1 in absurd cc;
      }
  one_takes d [] x d' r e = absurd cc
  one_takes (u ∷ d) (t ∷ ts) x d' r e = absurd cc

  at_it : (d : Held) (ts : List Token) (s : Stop) → one value (d, ts) ≡ err_of s → (stop false ts ≡ s) × ((at' : List Token) → head ts ≡ head at' → one value (d, at') ≡ err_of (stop false at'))
  unfolding one
  at_it d [] s e = (err_is e, λ at' h. ap (λ (z : List Token). one_by value d z) (empty_head at' h) ∙ ap (λ (z : List Token). err_of (stop false z)) (sym (empty_head at' h)))
  at_it [] (t ∷ ts) s e =
      let i = given_fails (value t) t ts s e in
      (i.1, λ at' h. let b = begins_with t at' h in ap (λ (z : List Token). one_by value [] z) b.1 ∙ ap (λ (o : Option A). given o t b.0) i.0 ∙ ap (λ (z : List Token). err_of (stop false z)) (sym b.1))
  at_it (u ∷ d) (t ∷ ts) s e = (err_is e, λ at' h. let b = begins_with t at' h in ap (λ (z : List Token). one_by value (u ∷ d) z) b.1 ∙ ap (λ (z : List Token). err_of (stop false z)) (sym b.1))

  one_fails : (d : Held) (ts : List Token) (s : Stop) → one value (d, ts) ≡ err_of s → Stops always n (λ _. one value) d ts s
  one_fails d ts s e =
      let i = at_it d ts s e in
      record {
        front = [];
        is = ap (λ (z : Stop). z.at) i.0;
        again = λ m l q at' h. i.1 at' (ap (λ (z : Stop). head z.at) i.0 ∙ h) ∙ ap (λ (z : Stop). err_of (stop z.deep at')) i.0;
        goes_on = inl refl;
        further = λ h. let j : false ≡ true = ap (λ (z : Stop). z.deep) i.0 ∙ h in absurd cc;
      }

  pub good_one : (t : Token) (v : A) → value t ≡ Some v → Good always (t ∷ []) n (λ _. one value)
  unfolding one
  good_one t v is = record { takes = one_takes; fails = one_fails; can = λ m l follow h. (v, ap (λ (o : Option A). given o t follow) is) }

-- ---- loops

pub shorter_is : (r ts : List Token) → length r < length ts → shorter r ts ≡ true
shorter_is r [] l = absurd (omega arith)
shorter_is [] (t ∷ ts) l = refl
shorter_is (u ∷ r) (t ∷ ts) l = shorter_is r ts (omega arith)

shorter_means : (r ts : List Token) → shorter r ts ≡ true → length r < length ts
shorter_means r [] e = absurd cc
shorter_means [] (t ∷ ts) e = omega arith
shorter_means (u ∷ r) (t ∷ ts) e = let l = shorter_means r ts e in omega arith

module _ {S A : Type 0} (goes : S → Ahead → Held → Bool) (item : Reader A) (add : S → A → S) where
  abbrev turn : ℕ → S → State → A → Reader S
  turn k s st x st' = if shorter st'.1 st.1 then fold_from goes item add k (add s x) st' else Ok (add s x, st')

  turns : (k j : ℕ) (s : S) (d : Held) (ts : List Token) → ((s : S) (d : Held) (r : List Token) → length r ≤ k → length r ≤ j → fold_from goes item add k s (d, r) ≡ fold_from goes item add j s (d, r))
      → length ts ≤ suc k → length ts ≤ suc j → (o : Outcome A) → and_then o (turn k s (d, ts)) ≡ and_then o (turn j s (d, ts))
  turns k j s d ts same hk hj (Ok q) = elim (decide (shorter q.1.1 ts)) [
    | inl h ↦ (let l = shorter_means q.1.1 ts h in rw h (same (add s q.0) q.1.0 q.1.1 (omega arith) (omega arith)))
    | inr h ↦ rw h refl
  ]
  turns k j s d ts same hk hj (Err e) = refl

  module _ (stays : (s : S) (d : Held) → goes s see.End d ≡ false) where
    enough : (k j : ℕ) (s : S) (d : Held) (ts : List Token) → length ts ≤ k → length ts ≤ j → fold_from goes item add k s (d, ts) ≡ fold_from goes item add j s (d, ts)
    unfolding fold_from
    enough k j s d [] hk hj = one k ∙ sym (one j)
      where
        one : (k : ℕ) → fold_from goes item add k s (d, []) ≡ Ok (s, (d, []))
        one zero = refl
        one (suc k) = rw (stays s d) refl
    enough zero j s d (t ∷ ts) hk hj = absurd (omega arith)
    enough (suc k) zero s d (t ∷ ts) hk hj = absurd (omega arith)
    enough (suc k) (suc j) s d (t ∷ ts) hk hj = ap (λ (o : Outcome S). if goes s (sort t) d then o else Ok (s, (d, t ∷ ts))) (turns k j s d (t ∷ ts) (λ s d r a b. enough k j s d r a b) hk hj (item (d, t ∷ ts)))

    pub fold_stays : (s : S) (d : Held) (ts : List Token) → goes s (ahead ts) d ≡ false → fold goes item add s (d, ts) ≡ ok_of s d ts
    unfolding fold fold_from
    fold_stays s d [] h = refl
    fold_stays s d (t ∷ ts) h = rw h refl

    pub fold_goes : (s : S) (d : Held) (ts : List Token) (x : A) (d' : Held) (r : List Token) → goes s (ahead ts) d ≡ true → item (d, ts) ≡ ok_of x d' r → length r < length ts → fold goes item add s (d, ts) ≡ fold goes item add (add s x) (d', r)
    unfolding fold fold_from
    fold_goes s d [] x d' r h e l = absurd (omega arith)
    fold_goes s d (t ∷ ts) x d' r h e l = rw h (rw e (rw (shorter_is r (t ∷ ts) l) (enough (length ts) (length r) (add s x) d' r (omega arith) (omega arith))))

    pub fold_fails : (s : S) (d : Held) (ts : List Token) (e : Stop) → goes s (ahead ts) d ≡ true → item (d, ts) ≡ err_of e → fold goes item add s (d, ts) ≡ err_of e
    unfolding fold fold_from
    fold_fails s d [] e h f = absurd (let i = sym (stays s d) ∙ h in cc)
    fold_fails s d (t ∷ ts) e h f = rw h (rw f refl)

module _ {S A : Type 0} (goes : S → Ahead → Held → Bool) (ends : Ahead → Bool) (w : List Token) (n : ℕ) (P : ℕ → Reader A) (add : S → A → S)
    (stays : (s : S) (d : Held) → goes s see.End d ≡ false) (over : (s : S) (t : Ahead) (d : Held) → ends t ≡ true → goes s t d ≡ false)
    (some : needs w ≡ true) (good : Good ends w n P) where
  abbrev Fold : S → ℕ → Reader S
  Fold s m = fold goes (P m) add s

  none_takes : (s : S) (d : Held) (ts : List Token) (x : S) (d' : Held) (r : List Token) → goes s (ahead ts) d ≡ false → fold goes (P n) add s (d, ts) ≡ ok_of x d' r → Takes ends false n (Fold s) d ts x d' r
  none_takes s d ts x d' r h e =
      let i : ok_of s d ts ≡ ok_of x d' r = sym (fold_stays goes (P n) add stays s d ts h) ∙ e in
      record {
        front = [];
        is = ok_2 i;
        again = λ m l r' side. fold_stays goes (P m) add stays s d r' (elim side [ inl k ↦ ap (λ (o : Ahead). goes s o d) (sym (ap ahead (ok_2 i) ∙ ap seen k)) ∙ h | inr k ↦ over s (ahead r') d k ])
            ∙ ap (λ (z : S). ok_of z d r') (ok_0 i) ∙ ap (λ (z : Held). ok_of x z r') (ok_1 i);
        eats = λ h. absurd cc;
        clean = λ h h'. let j = ap pends (ok_1 i) in absurd cc;
        resumes = λ h l. absurd (no_less ts r (ok_2 i) l);
      }

  -- an item that is completed ends the loop
  item_done : (s : S) (d : Held) (t : Token) (front : List Token) → goes s (sort t) d ≡ true → Completes ends n P d (t ∷ front) → Completes ends n (Fold s) d (t ∷ front)
  item_done s d t front h c = (
    c.0,
    λ m l follow k.
        let y = c.1 m l follow k in
        let j = length-append (t ∷ front) (c.0 ++ follow) in
        let i = length-append c.0 follow in
        (add s y.0, fold_goes goes (P m) add stays s d (t ∷ (front ++ (c.0 ++ follow))) y.0 [] follow h y.1 (omega (arith, i, j)) ∙ fold_stays goes (P m) add stays (add s y.0) [] follow (over (add s y.0) (ahead follow) [] k)),
  )

  module _ (s : S) (d : Held) (ts : List Token) (x : A) (d1 : Held) (r1 : List Token) (go_on : goes s (ahead ts) d ≡ true) (a : Takes ends (needs w) n P d ts x d1 r1) where
    first_token : (front z : List Token) → ts ≡ front ++ r1 → length r1 < length ts → goes s (ahead (front ++ z)) d ≡ true
    first_token [] z is l = absurd (no_less ts r1 is l)
    first_token (t ∷ front) z is l = ap (λ (o : Option Token). goes s (seen o) d) (sym (ap head is)) ∙ go_on

    -- the first item, then the rest
    step : (m : ℕ) → n ≤ m → (z : List Token) → Same ends r1 z → fold goes (P m) add s (d, a.front ++ z) ≡ fold goes (P m) add (add s x) (d1, z)
    step m l z h =
        let k = a.eats some in
        let i = ap length a.is ∙ length-append a.front r1 in
        let j = length-append a.front z in
        fold_goes goes (P m) add stays s d (a.front ++ z) x d1 z (first_token a.front z a.is k) (a.again m l z h) (omega (arith, i, j, k))

    step_2 : (m : ℕ) → n ≤ m → (f2 z : List Token) → Same ends r1 (f2 ++ z) → fold goes (P m) add s (d, (a.front ++ f2) ++ z) ≡ fold goes (P m) add (add s x) (d1, f2 ++ z)
    step_2 m l f2 z h = ap (λ (z : List Token). fold goes (P m) add s (d, z)) (append_assoc a.front f2 z) ∙ step m l (f2 ++ z) h

    completed : (front : List Token) → a.front ≡ front → Completes ends n P d front → Completes ends n (Fold s) d front
    completed [] e c = absurd (no_less ts r1 (a.is ∙ ap (λ (z : List Token). z ++ r1) e) (a.eats some))
    completed (t ∷ front) e c = item_done s d t front (first_token (t ∷ front) [] (a.is ∙ ap (λ (z : List Token). z ++ r1) e) (a.eats some)) c

    -- the item is over, and nothing of the rest was taken
    rest_none : (pends d1 ≡ true) ⊎ (pends d1 ≡ false) → Completes ends n (Fold s) d (a.front ++ [])
    rest_none (inl h) = subst (λ (z : List Token). Completes ends n (Fold s) d z) (sym (append-nil a.front)) (completed a.front refl (a.resumes h (a.eats some)))
    rest_none (inr h) = ([], λ m l follow k. (add s x, step_2 m (omega arith) [] follow (inr k) ∙ ap (λ (z : Held). fold goes (P m) add (add s x) (z, follow)) (nothing_is d1 h) ∙ fold_stays goes (P m) add stays (add s x) [] follow (over (add s x) (ahead follow) [] k)))

    rest_on : (t : Token) (more : List Token) → head r1 ≡ Some t → Completes ends n (Fold (add s x)) d1 (t ∷ more) → Completes ends n (Fold s) d (a.front ++ (t ∷ more))
    rest_on t more same c = (c.0, λ m l follow h. let y = c.1 m l follow h in (y.0, step_2 m (omega arith) (t ∷ more) (c.0 ++ follow) (inl same) ∙ y.1))

    rest_ahead : (f2 z : List Token) → r1 ≡ f2 ++ z → (f2 ≡ []) ⊎ Completes ends n (Fold (add s x)) d1 f2 → Completes ends n (Fold s) d (a.front ++ f2)
    rest_ahead [] z is h = rest_none (decide (pends d1))
    rest_ahead (t ∷ more) z is (inl e) = absurd cc
    rest_ahead (t ∷ more) z is (inr c) = rest_on t more (ap head is) c

    rest_further : (f2 at : List Token) (t : Token) → r1 ≡ f2 ++ at → head at ≡ Some t → Completes ends n (Fold (add s x)) d1 (f2 ++ t ∷ []) → Completes ends n (Fold s) d ((a.front ++ f2) ++ t ∷ [])
    rest_further f2 at t is ht c = (
      c.0,
      λ m l follow h.
          let y = c.1 m l follow h in
          let regroup : ((a.front ++ f2) ++ t ∷ []) ++ (c.0 ++ follow) ≡ (a.front ++ (f2 ++ t ∷ [])) ++ (c.0 ++ follow) = ap (λ (z : List Token). z ++ (c.0 ++ follow)) (append_assoc a.front f2 (t ∷ [])) in
          let same : head r1 ≡ head ((f2 ++ t ∷ []) ++ (c.0 ++ follow)) = ap head is ∙ head_same f2 at (t ∷ (c.0 ++ follow)) ht ∙ ap head (sym (append_assoc f2 (t ∷ []) (c.0 ++ follow))) in
          (y.0, ap (λ (z : List Token). fold goes (P m) add s (d, z)) regroup ∙ step_2 m (omega arith) (f2 ++ t ∷ []) (c.0 ++ follow) (inl same) ∙ y.1),
    )

    then_takes : (y : S) (d' : Held) (r : List Token) → Takes ends false n (Fold (add s x)) d1 r1 y d' r → Takes ends false n (Fold s) d ts y d' r
    then_takes y d' r b =
        let one = shrinks b.front r1 r b.is in
        let two = a.eats some in
        record {
          front = a.front ++ b.front;
          is = a.is ∙ ap (λ (z : List Token). a.front ++ z) b.is ∙ sym (append_assoc a.front b.front r);
          again = λ m l r' h. step_2 m l b.front r' (side b.front b.is r' h) ∙ b.again m l r' h;
          eats = λ _. omega (arith, one, two);
          clean = λ _ _. omega (arith, one, two);
          resumes = λ h _. settle b.front b.is (b.resumes h) h;
        }
      where
        side : (f2 : List Token) → r1 ≡ f2 ++ r → (r' : List Token) → Same ends r r' → Same ends r1 (f2 ++ r')
        side [] is r' (inl e) = inl (ap head is ∙ e)
        side [] is r' (inr e) = inr e
        side (t ∷ f2) is r' h = inl (ap head is)

        settle : (f2 : List Token) → r1 ≡ f2 ++ r → (length r < length r1 → Completes ends n (Fold (add s x)) d1 f2) → pends d' ≡ true → Completes ends n (Fold s) d (a.front ++ f2)
        settle [] is c h' = rest_none (decide (pends d1))
        settle (t ∷ more) is c h' = let k = ap length is ∙ length-append (t ∷ more) r in rest_on t more (ap head is) (c (omega arith))

    then_fails : (e : Stop) → Stops ends n (Fold (add s x)) d1 r1 e → Stops ends n (Fold s) d ts e
    then_fails e b = record {
      front = a.front ++ b.front;
      is = a.is ∙ ap (λ (z : List Token). a.front ++ z) b.is ∙ sym (append_assoc a.front b.front e.at);
      again = λ m l k at' h. step_2 m l b.front at' (inl (ap head b.is ∙ head_same b.front e.at at' h)) ∙ b.again m l k at' h;
      goes_on = inr (rest_ahead b.front e.at b.is b.goes_on);
      further = λ h. let k = b.further h in (k.0, k.1, rest_further b.front e.at k.0 b.is k.1 k.2);
    }

  item_fails : (s : S) (d : Held) (ts : List Token) (e : Stop) → goes s (ahead ts) d ≡ true → Stops ends n P d ts e → Stops ends n (Fold s) d ts e
  item_fails s d ts e h a = record {
    front = a.front;
    is = a.is;
    again = λ m l k at' q. fold_fails goes (P m) add stays s d (a.front ++ at') (stop e.deep at') (first_is a.front a.is at' q) (a.again m l k at' q);
    goes_on = on a.front a.is a.goes_on;
    further = λ k. let f = a.further k in (f.0, f.1, further_on a.front a.is f.0 f.1 f.2);
  }
    where
      first_is : (front : List Token) → ts ≡ front ++ e.at → (at' : List Token) → head e.at ≡ head at' → goes s (ahead (front ++ at')) d ≡ true
      first_is front is at' q = ap (λ (o : Option Token). goes s (seen o) d) (sym (ap head is ∙ head_same front e.at at' q)) ∙ h

      on : (front : List Token) → ts ≡ front ++ e.at → (front ≡ []) ⊎ Completes ends n P d front → (front ≡ []) ⊎ Completes ends n (Fold s) d front
      on front is (inl k) = inl k
      on [] is (inr c) = inl refl
      on (t ∷ front) is (inr c) = inr (item_done s d t front (ap (λ (o : Option Token). goes s (seen o) d) (sym (ap head is)) ∙ h) c)

      further_on : (front : List Token) → ts ≡ front ++ e.at → (t : Token) → head e.at ≡ Some t → Completes ends n P d (front ++ t ∷ []) → Completes ends n (Fold s) d (front ++ t ∷ [])
      further_on [] is t ht c = item_done s d t [] (ap (λ (o : Option Token). goes s (seen o) d) (sym (ap head is ∙ ht)) ∙ h) c
      further_on (u ∷ front) is t ht c = item_done s d u (front ++ t ∷ []) (ap (λ (o : Option Token). goes s (seen o) d) (sym (ap head is)) ∙ h) c

  -- a turn of a loop that was read to its end
  after : (s : S) (d : Held) (ts : List Token) → goes s (ahead ts) d ≡ true → (o : Outcome A) → P n (d, ts) ≡ o
      → ((e : Stop) × (o ≡ err_of e) × (fold goes (P n) add s (d, ts) ≡ err_of e))
      ⊎ ((x : A) × (d1 : Held) × (r1 : List Token) × (P n (d, ts) ≡ ok_of x d1 r1) × (length r1 < length ts) × (fold goes (P n) add s (d, ts) ≡ fold goes (P n) add (add s x) (d1, r1)))
  after s d ts h (Err e) is = inl (e, refl, fold_fails goes (P n) add stays s d ts e h is)
  after s d ts h (Ok q) is =
      let l = (good.takes d ts q.0 q.1.0 q.1.1 is).eats some in
      inr (q.0, q.1.0, q.1.1, is, l, fold_goes goes (P n) add stays s d ts q.0 q.1.0 q.1.1 h is l)

  fold_to : (k : ℕ) (s : S) (d : Held) (ts : List Token) → length ts < k
      → ((x : S) (d' : Held) (r : List Token) → fold goes (P n) add s (d, ts) ≡ ok_of x d' r → Takes ends false n (Fold s) d ts x d' r)
      × ((e : Stop) → fold goes (P n) add s (d, ts) ≡ err_of e → Stops ends n (Fold s) d ts e)
  fold_to zero s d ts hk = absurd (omega arith)
  fold_to (suc k) s d ts hk = elim (decide (goes s (ahead ts) d)) [
    | inr h ↦ (λ x d' r e. none_takes s d ts x d' r h e, λ e f. let i : ok_of s d ts ≡ err_of e = sym (fold_stays goes (P n) add stays s d ts h) ∙ f in absurd cc)
    | inl h ↦ elim (after s d ts h (P n (d, ts)) refl) [
      | inl a ↦ (
        λ x d' r e. let i : err_of a.0 ≡ ok_of x d' r = sym a.2 ∙ e in absurd cc,
        λ e f. item_fails s d ts e h (good.fails d ts e (a.1 ∙ ap (λ (z : Stop). err_of z) (err_is (sym a.2 ∙ f)))),
      )
      | inr a ↦ (let b = fold_to k (add s a.0) a.1 a.2 (omega (arith, a.4)) in
          let t = good.takes d ts a.0 a.1 a.2 a.3 in (
            λ x d' r e. then_takes s d ts a.0 a.1 a.2 h t x d' r (b.0 x d' r (sym a.5 ∙ e)),
            λ e f. then_fails s d ts a.0 a.1 a.2 h t e (b.1 e (sym a.5 ∙ f)),
          ))
    ]
  ]

  pub good_fold : (s : S) → Good ends [] n (Fold s)
  good_fold s = record {
    takes = λ d ts x d' r e. (fold_to (suc (length ts)) s d ts (omega arith)).0 x d' r e;
    fails = λ d ts e f. (fold_to (suc (length ts)) s d ts (omega arith)).1 e f;
    can = λ m l follow h. (s, fold_stays goes (P m) add stays s [] follow (over s (ahead follow) [] h));
  }

-- fewer ends
pub good_sub : {A : Type 0} (big small : Ahead → Bool) (w : List Token) (n : ℕ) (P : ℕ → Reader A) → ((t : Ahead) → small t ≡ true → big t ≡ true) → Good big w n P → Good small w n P
good_sub big small w n P sub g = record {
  takes = λ d ts x d' r e. let a = g.takes d ts x d' r e in record {
    front = a.front;
    is = a.is;
    again = λ m l r' h. a.again m l r' (wider (head r) (head r') h);
    eats = a.eats;
    clean = a.clean;
    resumes = λ h l. fewer d a.front (a.resumes h l);
  };
  fails = λ d ts s e. let a = g.fails d ts s e in record {
    front = a.front;
    is = a.is;
    again = a.again;
    goes_on = elim a.goes_on [ inl k ↦ inl k | inr c ↦ inr (fewer d a.front c) ];
    further = λ h. let k = a.further h in (k.0, k.1, fewer d (a.front ++ k.0 ∷ []) k.2);
  };
  can = λ m l follow h. g.can m l follow (sub (ahead follow) h);
}
  where
    wider : (h h' : Option Token) → (h ≡ h') ⊎ (small (seen h') ≡ true) → (h ≡ h') ⊎ (big (seen h') ≡ true)
    wider h h' (inl e) = inl e
    wider h h' (inr e) = inr (sub (seen h') e)

    fewer : (d : Held) (front : List Token) → Completes big n P d front → Completes small n P d front
    fewer d front c = (c.0, λ m l follow h. c.1 m l follow (sub (ahead follow) h))

-- the next level, where the readers of a level are rules over those of the level below
pub good_up : {A : Type 0} (ends : Ahead → Bool) (w : List Token) (n : ℕ) (P Q : ℕ → Reader A) → ((m : ℕ) → Q (suc m) ≡ P m) → Good ends w n P → Good ends w (suc n) Q
good_up {A} ends w n P Q eq g = record { takes = took; fails = failed; can = can_up }
  where
    can_up : (m : ℕ) → suc n + 2 ≤ m → (follow : List Token) → ends (ahead follow) ≡ true → (x : A) × (Q m ([], w ++ follow) ≡ ok_of x [] follow)
    can_up zero l follow h = absurd (omega arith)
    can_up (suc m) l follow h = let y = g.can m (omega arith) follow h in (y.0, ap (λ (q : Reader A). q ([], w ++ follow)) (eq m) ∙ y.1)

    completes_up : (d : Held) (front : List Token) → Completes ends n P d front → Completes ends (suc n) Q d front
    completes_up d front c = (c.0, go)
      where
        go : (m : ℕ) → suc n + 2 ≤ m → (follow : List Token) → ends (ahead follow) ≡ true → (x : A) × (Q m (d, front ++ (c.0 ++ follow)) ≡ ok_of x [] follow)
        go zero l follow h = absurd (omega arith)
        go (suc m) l follow h = let y = c.1 m (omega arith) follow h in (y.0, ap (λ (q : Reader A). q (d, front ++ (c.0 ++ follow))) (eq m) ∙ y.1)

    took : (d : Held) (ts : List Token) (x : A) (d' : Held) (r : List Token) → Q (suc n) (d, ts) ≡ ok_of x d' r → Takes ends (needs w) (suc n) Q d ts x d' r
    took d ts x d' r e =
        let a = g.takes d ts x d' r (ap (λ (q : Reader A). q (d, ts)) (sym (eq n)) ∙ e) in
        record { front = a.front; is = a.is; again = again a.front a.again; eats = a.eats; clean = a.clean; resumes = λ h l. completes_up d a.front (a.resumes h l) }
      where
        again : (front : List Token) → ((m : ℕ) → n ≤ m → (r' : List Token) → Same ends r r' → P m (d, front ++ r') ≡ ok_of x d' r') → (m : ℕ) → suc n ≤ m → (r' : List Token) → Same ends r r' → Q m (d, front ++ r') ≡ ok_of x d' r'
        again front f zero l r' h = absurd (omega arith)
        again front f (suc m) l r' h = ap (λ (q : Reader A). q (d, front ++ r')) (eq m) ∙ f m (omega arith) r' h

    failed : (d : Held) (ts : List Token) (s : Stop) → Q (suc n) (d, ts) ≡ err_of s → Stops ends (suc n) Q d ts s
    failed d ts s e =
        let a = g.fails d ts s (ap (λ (q : Reader A). q (d, ts)) (sym (eq n)) ∙ e) in
        record { front = a.front; is = a.is; again = again a.front a.again; goes_on = elim a.goes_on [ inl k ↦ inl k | inr c ↦ inr (completes_up d a.front c) ]; further = λ h. let k = a.further h in (k.0, k.1, completes_up d (a.front ++ k.0 ∷ []) k.2) }
      where
        side : (m : ℕ) → (s.deep ≡ false) ⊎ (suc m ≡ suc n) → (s.deep ≡ false) ⊎ (m ≡ n)
        side m (inl h) = inl h
        side m (inr h) = inr (omega arith)

        again : (front : List Token) → ((m : ℕ) → n ≤ m → (s.deep ≡ false) ⊎ (m ≡ n) → (at' : List Token) → head s.at ≡ head at' → P m (d, front ++ at') ≡ err_of (stop s.deep at')) → (m : ℕ) → suc n ≤ m → (s.deep ≡ false) ⊎ (m ≡ suc n) → (at' : List Token) → head s.at ≡ head at' → Q m (d, front ++ at') ≡ err_of (stop s.deep at')
        again front f zero l k at' h = absurd (omega arith)
        again front f (suc m) l k at' h = ap (λ (q : Reader A). q (d, front ++ at')) (eq m) ∙ f m (omega arith) (side m k) at' h

-- with the parts that can be read off the goal left out
pub bind : {A B : Type 0} {mid ends : Ahead → Bool} {v w : List Token} {n : ℕ} {P : ℕ → Reader A} {F : ℕ → A → Reader B} → Good mid v n P → ((x : A) → Good ends w n (λ m. F m x)) → Meets mid ends w → Good ends (v ++ w) n (λ m. P m >>= F m)
bind {A} {B} {mid} {ends} {v} {w} {n} {P} {F} first second sub = good_bind mid ends v w n P F first second sub

pub give : {A : Type 0} {ends : Ahead → Bool} {n : ℕ} (x : A) → Good ends [] n (λ _. pure x)
give {A} {ends} {n} x = good_pure ends n x

pub map : {A B : Type 0} {ends : Ahead → Bool} {w : List Token} {n : ℕ} {P : ℕ → Reader A} (f : A → B) → Good ends w n P → Good ends (w ++ []) n (λ m. P m >>= λ x. pure (f x))
map {A} {B} {ends} {w} {n} {P} f g = good_map ends w n P f g
