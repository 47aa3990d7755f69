-- The stack of open regions gives the innermost one.
use Rattle.std.proofs.Common.{◌≡◌, ℕ, suc, ◌+◌, length, arith, Bool, true, false, List, [], ◌∷◌, ◌++◌, Option, Some, None, refl, sym, ap, subst, ◌∙◌, append_assoc}
use Rattle.std.specs.Prelude.{if◌then◌else◌}
use Rattle.sl_ast.specs.declared.token.Token.{Token}
use Rattle.sl_ast.specs.Shape.{shape}
use Rattle.sl_newline.specs.declared.region.Region.{Region}
use Rattle.sl_newline.specs.Regions.{head, opens, closes, closes_by, opens_by, Quiet, done, pass, inner, Innermost, top, of, front, pop, push, step, shape_of}
use Rattle.sl_ast.specs.declared.shape.Shape.{Shape}
use Rattle.sl_ast.specs.declared.shape.Shape.TheVariants as k
use Rattle.sl_newline.specs.declared.region.Region.TheVariants as r

-- one token more, at the end
pass_end : {q : Option Region} {a x : List Token} → Quiet q a x → (t : Token) (b : List Token) → x ≡ t ∷ b → opens t (head b) ≡ None → closes q t ≡ false → Quiet q a b
pass_end {q = q} (done {b = x}) t b e o c = subst (λ (z : List Token). Quiet q z b) (sym e) (pass o c done)
pass_end (pass h k i) t b e o c = pass h k (pass_end i t b e o c)
pass_end (inner h i k j) t b e o c = inner h i k (pass_end j t b e o c)

-- a whole region more, at the end
inner_end : {q : Option Region} {a x : List Token} → Quiet q a x → (t u : Token) (o : Region) (b c : List Token) → x ≡ t ∷ b → opens t (head b) ≡ Some o → Quiet (Some o) b (u ∷ c) → closes (Some o) u ≡ true → Quiet q a c
inner_end {q = q} (done {b = x}) t u o b c e h i k = subst (λ (z : List Token). Quiet q z c) (sym e) (inner h i k done)
inner_end (pass h' k' i') t u o b c e h i k = pass h' k' (inner_end i' t u o b c e h i k)
inner_end (inner h' i' k' j) t u o b c e h i k = inner h' i' k' (inner_end j t u o b c e h i k)

-- these regions are open before b, the innermost first
pub data Opened : List Token → List Region → List Token → Type 0 where
  at_top : {ts b : List Token} → Quiet None ts b → Opened ts [] b
  opened : {ts a b : List Token} {t : Token} {q : Region} {s : List Region} → Opened ts s (t ∷ a) → opens t (head a) ≡ Some q → Quiet (Some q) a b → Opened ts (q ∷ s) b

-- each stands behind a token of the whole list
quiet_front : {q : Option Region} {a x : List Token} → Quiet q a x → (f : List Token) × (a ≡ f ++ x)
quiet_front done = ([], refl)
quiet_front (pass {t = t} h k i) = let f = quiet_front i in (t ∷ f.0, ap (λ (z : List Token). t ∷ z) f.1)
quiet_front (inner {t = t} {u = u} {b = b} {c = c} h i k j) =
    let f = quiet_front i in
    let g = quiet_front j in
    (t ∷ (f.0 ++ (u ∷ g.0)), ap (λ (z : List Token). t ∷ z) (f.1 ∙ ap (λ (z : List Token). f.0 ++ (u ∷ z)) g.1 ∙ sym (append_assoc f.0 (u ∷ g.0) c)))

before : {ts x : List Token} {s : List Region} → Opened ts s x → (f : List Token) × (ts ≡ f ++ x)
before (at_top i) = quiet_front i
before (opened {b = b} {t = t} o h i) =
    let f = before o in
    let g = quiet_front i in
    (f.0 ++ (t ∷ g.0), f.1 ∙ ap (λ (z : List Token). f.0 ++ (t ∷ z)) g.1 ∙ sym (append_assoc f.0 (t ∷ g.0) b))

pub innermost : {ts b : List Token} {s : List Region} → Opened ts s b → Innermost ts b (front s)
innermost (at_top i) = top i
innermost (opened {a = a} {t = t} o h i) = let f = before o in of f.0 a t f.1 h i

-- no token both opens and closes
one_only : (q : Option Region) (k : Shape) (n : Option Shape) → closes_by q k ≡ true → opens_by k n ≡ None
one_only None k n c = absurd cc
one_only (Some r.Round) k.CloseParen n c = refl
one_only (Some r.Round) k n c = absurd cc
one_only (Some r.Square) k.CloseBracket n c = refl
one_only (Some r.Square) k n c = absurd cc
one_only (Some r.Brace) k.CloseBrace n c = refl
one_only (Some r.Brace) k n c = absurd cc
one_only (Some r.Case) k.Arrow n c = refl
one_only (Some r.Case) k n c = absurd cc

pushed : (ts : List Token) (s : List Region) (t : Token) (b : List Token) → Opened ts s (t ∷ b) → closes (front s) t ≡ false → (o : Option Region) → opens t (head b) ≡ o → Opened ts (push o s) b
pushed ts s t b i c (Some q) h = opened i h done
pushed ts [] t b (at_top i) c None h = at_top (pass_end i t b refl h c)
pushed ts (q ∷ s) t b (opened o h' i) c None h = opened o h' (pass_end i t b refl h c)

popped : (ts : List Token) (s : List Region) (t : Token) (b : List Token) → Opened ts s (t ∷ b) → closes (front s) t ≡ true → Opened ts (pop s) b
popped ts [] t b i c = absurd cc
popped ts (q ∷ []) t b (opened {a = a} {t = u} (at_top j) h i) c = at_top (inner_end j u t q a b refl h i c)
popped ts (q ∷ (p ∷ s)) t b (opened {a = a} {t = u} (opened o h' j) h i) c = opened o h' (inner_end j u t q a b refl h i c)

-- a step of the code
pub stepped : (ts : List Token) (s : List Region) (t : Token) (b : List Token) → Opened ts s (t ∷ b) → Opened ts (step s t (head b)) b
stepped ts s t b i = go (closes (front s) t) refl
  where
    go : (c : Bool) → closes (front s) t ≡ c → Opened ts (if c then pop s else push (opens t (head b)) s) b
    go true c = popped ts s t b i c
    go false c = pushed ts s t b i c (opens t (head b)) refl

pub started : (ts : List Token) → Opened ts [] ts
started ts = at_top done

-- ---- and it gives no other: a quiet stretch leaves the stack as it was

-- the stack after n tokens
pub data Runs : ℕ → List Region → List Token → List Region → List Token → Type 0 where
  none : {s : List Region} {a : List Token} → Runs 0 s a s a
  more : {n : ℕ} {s s' : List Region} {t : Token} {a b : List Token} → Runs n (step s t (head a)) a s' b → Runs (suc n) s (t ∷ a) s' b

counted : {n m : ℕ} {s s' : List Region} {a b : List Token} → n ≡ m → Runs n s a s' b → Runs m s a s' b
counted {s = s} {s' = s'} {a = a} {b = b} e i = subst (λ (z : ℕ). Runs z s a s' b) e i

runs_then : {n m : ℕ} {s s' s'' : List Region} {a b c : List Token} → Runs n s a s' b → Runs m s' b s'' c → Runs (n + m) s a s'' c
runs_then {m = m} none j = counted (omega arith) j
runs_then {m = m} (more {n = n} i) j = counted {n = suc (n + m)} (omega arith) (more (runs_then i j))

-- a stretch that is quiet in the stack's front
opener_stays : (q : Option Region) (t : Token) (n : Option Token) (o : Region) → opens t n ≡ Some o → closes q t ≡ false
opener_stays q t n o h = go (closes q t) refl
  where
    go : (c : Bool) → closes q t ≡ c → c ≡ false
    go true c = let e : None ≡ Some o = sym (one_only q (shape t.kind) (shape_of n) c) ∙ h in absurd cc
    go false c = refl

step_pass : (s : List Region) (t : Token) (n : Option Token) → opens t n ≡ None → closes (front s) t ≡ false → step s t n ≡ s
step_pass s t n h c = rw c (rw h refl)

step_open : (s : List Region) (t : Token) (n : Option Token) (o : Region) → opens t n ≡ Some o → step s t n ≡ o ∷ s
step_open s t n o h = rw (opener_stays (front s) t n o h) (rw h refl)

step_close : (s : List Region) (o : Region) (t : Token) (n : Option Token) → closes (Some o) t ≡ true → step (o ∷ s) t n ≡ s
step_close s o t n c = rw c refl

runs_from : {n : ℕ} {s s' x : List Region} {a b : List Token} → x ≡ s → Runs n s a s' b → Runs n x a s' b
runs_from {n = n} {s' = s'} {a = a} {b = b} e i = subst (λ (z : List Region). Runs n z a s' b) (sym e) i

quiet_runs : {q : Option Region} {a b : List Token} → Quiet q a b → (s : List Region) → front s ≡ q → (n : ℕ) × Runs n s a s b
quiet_runs done s e = (0, none)
quiet_runs (pass {t = t} {a = a} h c i) s e =
    let k = quiet_runs i s e in
    (suc k.0, more (runs_from (step_pass s t (head a) h (ap (λ (q : Option Region). closes q t) e ∙ c)) k.1))
quiet_runs (inner {o = o} {t = t} {u = u} {a = a} {b = b} h i c j) s e =
    let k = quiet_runs i (o ∷ s) refl in
    let l = quiet_runs j s e in
    (suc (k.0 + suc l.0), more (runs_from (step_open s t (head a) o h) (runs_then k.1 (more (runs_from (step_close s o u (head b) c) l.1)))))

-- the stack before any token
runs_to : (f x : List Token) (s : List Region) → (n : ℕ) × (s' : List Region) × Runs n s (f ++ x) s' x
runs_to [] x s = (0, s, none)
runs_to (t ∷ f) x s = let k = runs_to f x (step s t (head (f ++ x))) in (suc k.0, k.1, more k.2)

runs_long : {n : ℕ} {s s' : List Region} {a b : List Token} → Runs n s a s' b → length a ≡ n + length b
runs_long none = omega arith
runs_long (more i) = let l = runs_long i in omega (arith, l)

-- one stack
one_stack : {n : ℕ} {s s1 : List Region} {a b1 : List Token} → Runs n s a s1 b1 → (m : ℕ) (s2 : List Region) (b2 : List Token) → n ≡ m → Runs m s a s2 b2 → s1 ≡ s2
one_stack none m s2 b2 e none = refl
one_stack none m s2 b2 e (more j) = absurd (omega (arith, e))
one_stack (more i) m s2 b2 e none = absurd (omega (arith, e))
one_stack (more i) m s2 b2 e (more {n = k} j) = one_stack i k s2 b2 (omega (arith, e)) j

stack_of : {ts b : List Token} {q : Option Region} → Innermost ts b q → (n : ℕ) × (s : List Region) × (front s ≡ q) × Runs n [] ts s b
stack_of (top i) = let k = quiet_runs i [] refl in (k.0, [], refl, k.1)
stack_of (of {ts = ts} {b = b} {q = q} f a t e h i) =
    let k = runs_to f (t ∷ a) [] in
    let l = quiet_runs i (q ∷ k.1) refl in
    (k.0 + suc l.0, q ∷ k.1, refl, subst (λ (z : List Token). Runs (k.0 + suc l.0) [] z (q ∷ k.1) b) (sym e) (runs_then k.2 (more (runs_from (step_open k.1 t (head a) q h) l.1))))

-- so one region is innermost
pub one_innermost : {ts b : List Token} {q q' : Option Region} → Innermost ts b q → Innermost ts b q' → q ≡ q'
one_innermost i j =
    let k = stack_of i in
    let l = stack_of j in
    let m = runs_long k.3 in
    let n = runs_long l.3 in
    sym k.2 ∙ ap front (one_stack k.3 l.0 l.1 _ (omega (arith, m, n)) l.3) ∙ l.2
