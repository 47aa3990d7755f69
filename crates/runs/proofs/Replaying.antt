-- Runs end to end, and turns split in two.
use Rattle.std.proofs.Common.{◌≡◌, ℕ, zero, suc, ◌+◌, List, [], ◌∷◌, ◌++◌, refl, arith}
use Rattle.runs.specs.declared.turn.Turn.{Turn}
use Rattle.runs.specs.System.{System, Reached, tried, tries, run, reach, start}

pub run-append : {Event Place S : Type 0} (s : System Event Place S) (xs ys : List Turn) (r : Reached S) → run s (xs ++ ys) r ≡ run s ys (run s xs r)
run-append s [] ys r = refl
run-append s (x ∷ xs) ys r = run-append s xs ys (tries s x.thread x.count r)

pub reach-append : {Event Place S : Type 0} (s : System Event Place S) (xs ys : List Turn) → reach s (xs ++ ys) ≡ run s ys (reach s xs)
reach-append s xs ys = run-append s xs ys (start s)

pub tries-add : {Event Place S : Type 0} (s : System Event Place S) (t m n : ℕ) (r : Reached S) → tries s t (m + n) r ≡ tries s t n (tries s t m r)
tries-add s t zero n r = let e : 0 + n ≡ n = omega arith in rw e refl
tries-add s t (suc m) n r = let e : suc m + n ≡ suc (m + n) = omega arith in rw e (tries-add s t m n (tried s t r))
