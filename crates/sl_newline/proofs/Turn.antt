-- A turn of the loop that puts newlines between tokens.
use Rattle.std.proofs.Common.{◌≡◌, ℕ, ◌≤◌, Bool, true, false, List, [], ◌∷◌, ◌++◌, Option, Some, None, refl, sym, ap, subst, ◌∙◌, append_assoc}
use Rattle.std.specs.Prelude.{◌==◌, ◌&&◌, if◌then◌else◌}
use Rattle.std.specs.List.{AllByRecursion}
use Rattle.sl_ast.specs.Shape.{shape}
use Rattle.sl_newline.specs.Gaps.{between, newlines}
use Rattle.std.proofs.lemmas.List.{append-nil}
use Rattle.sl_ast.specs.declared.token.Token.{Token}
use Rattle.sl_newline.specs.declared.region.Region.{Region}
use Rattle.sl_newline.specs.Regions.{head, rest, front, step, shape_of, enabled, can_end, can_begin, newline_at, lines_of, inserted, Sep, done, with_lines, Separated}
use Rattle.sl_newline.proofs.Opened.{Opened, started, stepped, innermost, one_innermost}

abbrev pub Kept : List ℕ → List Token → List Region → List Token → List Token → Option Token → Type 0
Kept x ts s left found last = Opened ts s left × ((out : List Token) → Sep x ts last left out → Sep x ts None ts (found ++ out))

pub turn : (x : List ℕ) (ts : List Token) (s : List Region) (left found : List Token) (last : Option Token) (u : Token) → Kept x ts s left found last → head left ≡ Some u
    → Kept x ts (step s u (head (rest left))) (rest left) ((found ++ inserted x (front s) last u (head (rest left))) ++ u ∷ []) (Some u)
turn x ts s [] found last u k e = absurd cc
turn x ts s (v ∷ b) found last u k e =
    let i : v ≡ u = cc in
    let o : Opened ts s (u ∷ b) = subst (λ (z : Token). Opened ts s (z ∷ b)) i k.0 in (
      stepped ts s u b o,
      λ out j.
          let m : Sep x ts last (u ∷ b) (inserted x (front s) last u (head b) ++ (u ∷ out)) = with_lines (innermost o) j in
          let n : Sep x ts last (v ∷ b) (inserted x (front s) last u (head b) ++ (u ∷ out)) = subst (λ (z : Token). Sep x ts last (z ∷ b) (inserted x (front s) last u (head b) ++ (u ∷ out))) (sym i) m in
          subst (λ (z : List Token). Sep x ts None ts z) (sym (append_assoc (found ++ inserted x (front s) last u (head b)) (u ∷ []) out ∙ append_assoc found (inserted x (front s) last u (head b)) (u ∷ out))) (k.1 (inserted x (front s) last u (head b) ++ (u ∷ out)) n),
    )

pub at_end : (x : List ℕ) (ts : List Token) (s : List Region) (left found : List Token) (last : Option Token) → Kept x ts s left found last → head left ≡ None → Sep x ts None ts found
at_end x ts s [] found last k e = subst (λ (z : List Token). Sep x ts None ts z) (append-nil found) (k.1 [] done)
at_end x ts s (v ∷ b) found last k e = absurd cc

-- and there is one such list
pub one_separated : {x : List ℕ} {ts : List Token} {last : Option Token} {b out : List Token} → Sep x ts last b out → (out' : List Token) → Sep x ts last b out' → out ≡ out'
one_separated done out' done = refl
one_separated {x = x} {last = last} (with_lines {u = u} {b = b} {out = o} i s) out' (with_lines {out = o'} {q = w} j s') =
    ap (λ (q : Option Region). inserted x q last u (head b) ++ (u ∷ o)) (one_innermost i j) ∙ ap (λ (z : List Token). inserted x w last u (head b) ++ (u ∷ z)) (one_separated s o' s')

-- there is one, behind each token
sep_from : (x : List ℕ) (ts : List Token) (s : List Region) (last : Option Token) (b : List Token) → Opened ts s b → (out : List Token) × Sep x ts last b out
sep_from x ts s last [] o = ([], done)
sep_from x ts s last (u ∷ b) o = let i = sep_from x ts (step s u (head b)) (Some u) b (stepped ts s u b o) in (inserted x (front s) last u (head b) ++ (u ∷ i.0), with_lines (innermost o) i.1)

pub has_separated : (x : List ℕ) (ts : List Token) → (out : List Token) × Separated x ts out
has_separated x ts = sep_from x ts [] None ts (started ts)

-- ---- where the tokens stand

abbrev pub IsIn : ℕ → Token → Type 0
IsIn n t = (t.span.from ≤ n) × (t.span.to ≤ n)

lines_in : (at k n : ℕ) → at ≤ n → AllByRecursion (IsIn n) (lines_of at k)
lines_in at k n h = by_two (k == 0) (k == 1)
  where
    by_two : (a b : Bool) → AllByRecursion (IsIn n) (if a then [] else (if b then newline_at at ∷ [] else newline_at at ∷ newline_at at ∷ []))
    by_two true b = tt
    by_two false true = ((h, h), tt)
    by_two false false = ((h, h), ((h, h), tt))

abbrev LastIn : ℕ → Option Token → Type 0
LastIn n None = Unit {0}
LastIn n (Some t) = IsIn n t

inserted_in : (x : List ℕ) (n : ℕ) (q : Option Region) (last : Option Token) (u : Token) (next : Option Token) → LastIn n last → AllByRecursion (IsIn n) (inserted x q last u next)
inserted_in x n q None u next h = tt
inserted_in x n q (Some t) u next h = by_test ((enabled q && can_end (shape t.kind)) && can_begin (shape u.kind) (shape_of next))
  where
    by_test : (b : Bool) → AllByRecursion (IsIn n) (if b then lines_of t.span.to (newlines (between x t.span u.span)) else [])
    by_test true = lines_in t.span.to (newlines (between x t.span u.span)) n h.1
    by_test false = tt

all_then : (n : ℕ) (a b : List Token) → AllByRecursion (IsIn n) a → AllByRecursion (IsIn n) b → AllByRecursion (IsIn n) (a ++ b)
all_then n [] b h k = k
all_then n (t ∷ a) b h k = (h.0, all_then n a b h.1 k)

sep_in : {x : List ℕ} {ts : List Token} {last : Option Token} {b out : List Token} → Sep x ts last b out → (n : ℕ) → LastIn n last → AllByRecursion (IsIn n) b → AllByRecursion (IsIn n) out
sep_in done n l h = tt
sep_in {x = x} {last = last} (with_lines {u = u} {b = b} {out = o} {q = q} i s) n l h =
    all_then n (inserted x q last u (head b)) (u ∷ o) (inserted_in x n q last u (head b) l) (h.0, sep_in s n h.0 h.1)

pub stay_in : (x : List ℕ) (ts out : List Token) (n : ℕ) → Separated x ts out → AllByRecursion (IsIn n) ts → AllByRecursion (IsIn n) out
stay_in x ts out n s h = sep_in s n tt h
