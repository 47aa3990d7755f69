-- Bytes that begin with others.
use Rattle.std.proofs.Common.{◌≡◌, ℕ, ◌+◌, Bool, true, false, ◌&&◌, List, [], ◌∷◌, ◌++◌, length, take, drop, Option, None, Some, refl, sym, ap, ◌∙◌}
use Rattle.std.specs.Prelude.{nat_eq, MatchOption}
use Rattle.std.specs.Borrow.{Bor}
use Rattle.std.specs.Str.{bytes_eq}

joined : (same : Bool) (p q r : Bool) → (p ≡ true → q ≡ r) → (same && p) ≡ true → (same && q) ≡ r
joined true p q r f e = f e
joined false p q r f e = absurd (cc)

-- what follows them decides
pub behind : (xs ys more : List ℕ) → bytes_eq (take (length ys) xs) ys ≡ true → bytes_eq xs (ys ++ more) ≡ bytes_eq (drop (length ys) xs) more
behind xs [] more e = refl
behind [] (y ∷ ys) more e = absurd (cc)
behind (x ∷ xs) (y ∷ ys) more e =
    joined (nat_eq x y) (bytes_eq (take (length ys) xs) ys) (bytes_eq xs (ys ++ more)) (bytes_eq (drop (length ys) xs) more) (behind xs ys more) e

parted : (same : Bool) (p q : Bool) → (p ≡ false → q ≡ false) → (same && p) ≡ false → (same && q) ≡ false
parted true p q f e = f e
parted false p q f e = refl

-- others don't begin with them
pub elsewhere : (xs ys more : List ℕ) → bytes_eq (take (length ys) xs) ys ≡ false → bytes_eq xs (ys ++ more) ≡ false
elsewhere xs [] more e = absurd (cc)
elsewhere [] (y ∷ ys) more e = refl
elsewhere (x ∷ xs) (y ∷ ys) more e =
    parted (nat_eq x y) (bytes_eq (take (length ys) xs) ys) (bytes_eq xs (ys ++ more)) (elsewhere xs ys more) e

-- what is found behind bytes, where they are in front
pub found_behind : (xs ys : List ℕ) (o : Option (Bor (List ℕ)))
    → MatchOption o (bytes_eq (take (length ys) xs) ys ≡ false) (λ x. (bytes_eq (take (length ys) xs) ys ≡ true) × (x.now ≡ drop (length ys) xs) × (length x.now + length ys ≡ length xs))
    → MatchOption o ((more : List ℕ) → bytes_eq xs (ys ++ more) ≡ false) (λ x. (more : List ℕ) → bytes_eq xs (ys ++ more) ≡ bytes_eq x.now more)
found_behind xs ys None e = λ more. elsewhere xs ys more e
found_behind xs ys (Some x) e = λ more. behind xs ys more e.0 ∙ ap (λ l. bytes_eq l more) (sym e.1)
