-- Each chain has one value.
use Rattle.std.proofs.Common.{◌≡◌, ℕ, ℤ, pos, List, [], ◌∷◌, ◌++◌, Option, Some, None, refl, sym, ap, ◌∙◌, subst, append_assoc}
use Rattle.std.proofs.lemmas.List.{append-nil}
use Rattle.std.specs.List.{fold}
use Rattle.std.proofs.lemmas.List.Sums.{fold-append}
use Rattle.sl_num.specs.declared.int_op.IntOp.TheVariants as operations
use Rattle.sl_num.specs.Int.{int}
use Rattle.sl_top.specs.declared.operator.Operator.{Operator}
use Rattle.sl_top.specs.declared.operator.Operator.TheVariants as operator
use Rattle.sl_top.specs.declared.chain.Term.{Term}
use Rattle.sl_top.specs.Value.{Value, Product, product, additive, literal, times, IsAdditive, int_op, term}

-- what waits to the left of a product, if anything does, and the product so far
record Partial : Type 0 where
  left : Option (ℤ × Operator)
  factor : ℤ

abbrev partial : Option (ℤ × Operator) → ℤ → Partial
partial left factor = record { left = left; factor = factor }

abbrev joined : Option (ℤ × Operator) → ℤ → ℤ
joined None y = y
joined (Some p) y = int (int_op p.1) p.0 y

abbrev total : Partial → ℤ
total s = joined s.left s.factor

abbrev with_term : Operator → ℕ → Partial → Partial
with_term operator.Add m s = partial (Some (total s, operator.Add)) (pos m)
with_term operator.Sub m s = partial (Some (total s, operator.Sub)) (pos m)
with_term operator.Mul m s = partial s.left (int operations.Mul s.factor (pos m))

abbrev next : Partial → Term → Partial
next s t = with_term t.op t.literal s

with_term-additive : (op : Operator) → IsAdditive op → (m : ℕ) (s : Partial) → with_term op m s ≡ partial (Some (total s, op)) (pos m)
with_term-additive operator.Add h m s = refl
with_term-additive operator.Sub h m s = refl
with_term-additive operator.Mul h m s = absurd h

-- a product from the left
fold-Product : {n : ℕ} {rest : List Term} {x : ℤ} → Product n rest x → (left : Option (ℤ × Operator)) → fold next (partial left (pos n)) rest ≡ partial left x
fold-Product literal left = refl
fold-Product {n} (times before m p) left =
    fold-append next (partial left (pos n)) before (term operator.Mul m ∷ []) ∙ ap (λ s. with_term operator.Mul m s) (fold-Product p left)

-- a chain from the left
total-Value : {n : ℕ} {rest : List Term} {v : ℤ} → Value n rest v → total (fold next (partial None (pos n)) rest) ≡ v
total-Value (product p) = ap total (fold-Product p None)
total-Value {n} (additive before op m after x y h b a) =
    let s : Partial = fold next (partial None (pos n)) before in
    ap total (fold-append next (partial None (pos n)) before (term op m ∷ after))
    ∙ ap (λ (t : Partial). total (fold next t after)) (with_term-additive op h m s)
    ∙ ap total (fold-Product a (Some (total s, op)))
    ∙ ap (λ w. int (int_op op) w y) (total-Value b)

-- one more term
Value-push : {n : ℕ} {rest : List Term} {v : ℤ} → Value n rest v → (op : Operator) (m : ℕ) → (w : ℤ) × Value n (rest ++ term op m ∷ []) w
Value-push {rest = rest} {v = v} h operator.Add m = (int operations.Add v (pos m), additive rest operator.Add m [] v (pos m) tt h literal)
Value-push {rest = rest} {v = v} h operator.Sub m = (int operations.Sub v (pos m), additive rest operator.Sub m [] v (pos m) tt h literal)
Value-push (product {rest = rest} {x = x} p) operator.Mul m = (int operations.Mul x (pos m), product (times rest m p))
Value-push {n} (additive before op k after x y h b a) operator.Mul m =
    let w : ℤ = int (int_op op) x (int operations.Mul y (pos m)) in (
      w,
      subst (λ ts. Value n ts w) (sym (append_assoc before (term op k ∷ after) (term operator.Mul m ∷ [])))
          (additive before op k (after ++ term operator.Mul m ∷ []) x (int operations.Mul y (pos m)) h b (times after m a)),
    )

-- the terms from the front
Value-append : (rest : List Term) (n : ℕ) (before : List Term) (v : ℤ) → Value n before v → (w : ℤ) × Value n (before ++ rest) w
Value-append [] n before v h = (v, subst (λ ts. Value n ts v) (sym (append-nil before)) h)
Value-append (t ∷ ts) n before v h =
    let one = Value-push h t.op t.literal in
    let all = Value-append ts n (before ++ t ∷ []) one.0 one.1 in
    (all.0, subst (λ l. Value n l all.0) (append_assoc before (t ∷ []) ts) all.1)

pub one_value : (n : ℕ) (rest : List Term) → (v : ℤ) × Value n rest v × ((w : ℤ) → Value n rest w → w ≡ v)
one_value n rest =
    let some = Value-append rest n [] (pos n) (product literal) in
    (some.0, some.1, λ w h. sym (total-Value h) ∙ total-Value some.1)
