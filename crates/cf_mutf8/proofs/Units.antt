-- The bytes of code units: their forms, what they read as, and that no two units share a front.
use Rattle.std.proofs.Common.{◌≡◌, sym, ap, ◌∙◌, ℕ, suc, ◌+◌, ◌-◌, ◌*◌, ◌/◌, ◌%◌, ◌<◌, ◌≤◌, ◌⊎◌, inl, inr, List, [], ◌∷◌, ◌++◌, length, get_or, drop, arith, add-zero}
use Rattle.std.proofs.lemmas.Bool.Decides.{nat_tests}
use Rattle.std.proofs.lemmas.List.{get_or_past, get_or-drop}
use Rattle.std.proofs.Math.Seq.{drop-cons}
use Rattle.std.specs.Int.{IsInRange}
use Rattle.cf_mutf8.specs.ModifiedUtf8.{unit_bytes}

pub unit_one : (u : ℕ) → 0 < u → u < 0x80 → unit_bytes u ≡ u ∷ []
unfolding unit_bytes
unit_one u l h = grind (arith, nat_tests)

pub unit_two : (u : ℕ) → (u ≡ 0) ⊎ (0x80 ≤ u) → u < 0x800 → unit_bytes u ≡ (0xC0 + u / 0x40) ∷ (0x80 + u % 0x40) ∷ []
unfolding unit_bytes
unit_two u l h = grind (arith, nat_tests)

pub unit_three : (u : ℕ) → 0x800 ≤ u
    → unit_bytes u ≡ (0xE0 + u / 0x1000) ∷ (0x80 + u / 0x40 % 0x40) ∷ (0x80 + u % 0x40) ∷ []
unfolding unit_bytes
unit_three u l = grind (arith, nat_tests)

-- the row of a unit
pub data UnitForm (u : ℕ) : Type 0 where
  one : 0 < u → u < 0x80 → unit_bytes u ≡ u ∷ [] → UnitForm u
  two : (u ≡ 0) ⊎ (0x80 ≤ u) → u < 0x800 → unit_bytes u ≡ (0xC0 + u / 0x40) ∷ (0x80 + u % 0x40) ∷ [] → UnitForm u
  three : 0x800 ≤ u → unit_bytes u ≡ (0xE0 + u / 0x1000) ∷ (0x80 + u / 0x40 % 0x40) ∷ (0x80 + u % 0x40) ∷ []
      → UnitForm u

order : (m n : ℕ) → (m < n) ⊎ (n ≤ m)
order m n = grind arith

pub unit_form : (u : ℕ) → UnitForm u
unit_form u = by (order u 1) (order u 0x80) (order u 0x800)
  where
    by : (u < 1) ⊎ (1 ≤ u) → (u < 0x80) ⊎ (0x80 ≤ u) → (u < 0x800) ⊎ (0x800 ≤ u) → UnitForm u
    by (inl n) _ _ = two (inl (omega arith)) (omega arith) (unit_two u (inl (omega arith)) (omega arith))
    by (inr p) (inl l) _ = one (omega arith) l (unit_one u (omega arith) l)
    by (inr _) (inr p) (inl l) = two (inr p) l (unit_two u (inr p) l)
    by (inr _) (inr _) (inr p) = three p (unit_three u p)

-- what two and three bytes say of their unit
pub two_form : (u a b : ℕ) → unit_bytes u ≡ a ∷ b ∷ []
    → ((u ≡ 0) ⊎ (0x80 ≤ u)) × (u < 0x800) × (a ≡ 0xC0 + u / 0x40) × (b ≡ 0x80 + u % 0x40)
two_form u a b e = by (unit_form u)
  where
    by : UnitForm u → ((u ≡ 0) ⊎ (0x80 ≤ u)) × (u < 0x800) × (a ≡ 0xC0 + u / 0x40) × (b ≡ 0x80 + u % 0x40)
    by (one p q f) = absurd (omega (arith, ap length (sym e ∙ f)))
    by (two p q f) = (p, q, cc, cc)
    by (three p f) = absurd (omega (arith, ap length (sym e ∙ f)))

pub three_form : (u a b c : ℕ) → unit_bytes u ≡ a ∷ b ∷ c ∷ []
    → (0x800 ≤ u) × (a ≡ 0xE0 + u / 0x1000) × (b ≡ 0x80 + u / 0x40 % 0x40) × (c ≡ 0x80 + u % 0x40)
three_form u a b c e = by (unit_form u)
  where
    by : UnitForm u → (0x800 ≤ u) × (a ≡ 0xE0 + u / 0x1000) × (b ≡ 0x80 + u / 0x40 % 0x40) × (c ≡ 0x80 + u % 0x40)
    by (one p q f) = absurd (omega (arith, ap length (sym e ∙ f)))
    by (two p q f) = absurd (omega (arith, ap length (sym e ∙ f)))
    by (three p f) = (p, cc, cc, cc)

-- and the unit of such bytes
pub two_back : (a b : ℕ) → IsInRange 0xC0 0xDF a → IsInRange 0x80 0xBF b
    → (((a - 0xC0) * 0x40 + (b - 0x80)) ≡ 0) ⊎ (0x80 ≤ (a - 0xC0) * 0x40 + (b - 0x80))
    → unit_bytes ((a - 0xC0) * 0x40 + (b - 0x80)) ≡ a ∷ b ∷ []
two_back a b p q r =
    let n : ℕ = (a - 0xC0) * 0x40 + (b - 0x80) in
    let x : 0xC0 + n / 0x40 ≡ a = omega arith in
    let y : 0x80 + n % 0x40 ≡ b = omega arith in
    unit_two n r (omega arith) ∙ (λ i. x i ∷ y i ∷ [])

pub three_back : (a b c : ℕ) → IsInRange 0xE0 0xEF a → IsInRange 0x80 0xBF b → IsInRange 0x80 0xBF c
    → 0x800 ≤ (a - 0xE0) * 0x1000 + (b - 0x80) * 0x40 + (c - 0x80)
    → unit_bytes ((a - 0xE0) * 0x1000 + (b - 0x80) * 0x40 + (c - 0x80)) ≡ a ∷ b ∷ c ∷ []
three_back a b c p q r l =
    let n : ℕ = (a - 0xE0) * 0x1000 + (b - 0x80) * 0x40 + (c - 0x80) in
    let x : 0xE0 + n / 0x1000 ≡ a = omega arith in
    let y : 0x80 + n / 0x40 % 0x40 ≡ b = omega arith in
    let z : 0x80 + n % 0x40 ≡ c = omega arith in
    unit_three n l ∙ (λ i. x i ∷ y i ∷ z i ∷ [])

-- a byte that is read, and what is behind it
pub head_read : (bytes xs : List ℕ) (at x : ℕ) → drop at bytes ≡ x ∷ xs → get_or bytes at 0 ≡ x
head_read bytes xs at x e = ap (λ n. get_or bytes n 0) (sym (add-zero at)) ∙ sym (get_or-drop at bytes 0 0) ∙ ap (λ l. get_or l 0 0) e

pub second_read : (bytes xs : List ℕ) (at x y : ℕ) → drop at bytes ≡ x ∷ y ∷ xs → get_or bytes (at + 1) 0 ≡ y
second_read bytes xs at x y e = sym (get_or-drop at bytes 1 0) ∙ ap (λ l. get_or l 1 0) e

pub third_read : (bytes xs : List ℕ) (at x y z : ℕ) → drop at bytes ≡ x ∷ y ∷ z ∷ xs → get_or bytes (at + 2) 0 ≡ z
third_read bytes xs at x y z e = sym (get_or-drop at bytes 2 0) ∙ ap (λ l. get_or l 2 0) e

pub within : (bytes : List ℕ) (at : ℕ) → 0 < get_or bytes at 0 → at < length bytes
within bytes at p = by (order at (length bytes))
  where
    by : (at < length bytes) ⊎ (length bytes ≤ at) → at < length bytes
    by (inl l) = l
    by (inr past) = absurd (omega (arith, get_or_past bytes at 0 past))

pub front_one : (bytes : List ℕ) (at : ℕ) → 0 < get_or bytes at 0 → drop at bytes ≡ get_or bytes at 0 ∷ drop (at + 1) bytes
front_one bytes at p =
    let next : suc at ≡ at + 1 = omega arith in
    drop-cons bytes at 0 (within bytes at p) ∙ ap (λ n. get_or bytes at 0 ∷ drop n bytes) next

pub front_two : (bytes : List ℕ) (at : ℕ) → 0 < get_or bytes at 0 → 0 < get_or bytes (at + 1) 0
    → drop at bytes ≡ get_or bytes at 0 ∷ get_or bytes (at + 1) 0 ∷ drop (at + 2) bytes
front_two bytes at p q =
    let e : at + 1 + 1 ≡ at + 2 = omega arith in
    front_one bytes at p ∙ ap (λ l. get_or bytes at 0 ∷ l) (front_one bytes (at + 1) q)
    ∙ ap (λ n. get_or bytes at 0 ∷ get_or bytes (at + 1) 0 ∷ drop n bytes) e

pub front_three : (bytes : List ℕ) (at : ℕ) → 0 < get_or bytes at 0 → 0 < get_or bytes (at + 1) 0 → 0 < get_or bytes (at + 2) 0
    → drop at bytes ≡ get_or bytes at 0 ∷ get_or bytes (at + 1) 0 ∷ get_or bytes (at + 2) 0 ∷ drop (at + 3) bytes
front_three bytes at p q r =
    let e : at + 2 + 1 ≡ at + 3 = omega arith in
    front_two bytes at p q ∙ ap (λ l. get_or bytes at 0 ∷ get_or bytes (at + 1) 0 ∷ l) (front_one bytes (at + 2) r)
    ∙ ap (λ n. get_or bytes at 0 ∷ get_or bytes (at + 1) 0 ∷ get_or bytes (at + 2) 0 ∷ drop n bytes) e

-- the unit that is read from its bytes
pub one_at : (bytes : List ℕ) (at a : ℕ) → a ≡ get_or bytes at 0 → IsInRange 0x01 0x7F a
    → (drop at bytes ≡ unit_bytes a ++ drop (at + 1) bytes) × (1 ≡ length (unit_bytes a))
one_at bytes at a p h =
    let e : unit_bytes a ≡ a ∷ [] = unit_one a (omega arith) (omega arith) in
    (front_one bytes at (omega arith) ∙ (λ i. sym p i ∷ drop (at + 1) bytes) ∙ ap (λ l. l ++ drop (at + 1) bytes) (sym e), ap length (sym e))

pub two_at : (bytes : List ℕ) (at u a b : ℕ) → a ≡ get_or bytes at 0 → b ≡ get_or bytes (at + 1) 0 → unit_bytes u ≡ a ∷ b ∷ []
    → (drop at bytes ≡ unit_bytes u ++ drop (at + 2) bytes) × (2 ≡ length (unit_bytes u))
two_at bytes at u a b p q e =
    let f = two_form u a b e in (
      front_two bytes at (omega arith) (omega arith) ∙ (λ i. sym p i ∷ sym q i ∷ drop (at + 2) bytes) ∙ ap (λ l. l ++ drop (at + 2) bytes) (sym e),
      ap length (sym e),
    )

pub three_at : (bytes : List ℕ) (at u a b c : ℕ) → a ≡ get_or bytes at 0 → b ≡ get_or bytes (at + 1) 0 → c ≡ get_or bytes (at + 2) 0
    → unit_bytes u ≡ a ∷ b ∷ c ∷ [] → (drop at bytes ≡ unit_bytes u ++ drop (at + 3) bytes) × (3 ≡ length (unit_bytes u))
three_at bytes at u a b c p q r e =
    let f = three_form u a b c e in (
      front_three bytes at (omega arith) (omega arith) (omega arith) ∙ (λ i. sym p i ∷ sym q i ∷ sym r i ∷ drop (at + 3) bytes)
          ∙ ap (λ l. l ++ drop (at + 3) bytes) (sym e),
      ap length (sym e),
    )

-- a unit that begins at a byte, by that byte
pub begins_first : (bytes rest : List ℕ) (at u a : ℕ) → u < 0x10000 → a ≡ get_or bytes at 0 → drop at bytes ≡ unit_bytes u ++ rest
    → IsInRange 0x01 0x7F a ⊎ IsInRange 0xC0 0xEF a
begins_first bytes rest at u a l p e = by (unit_form u)
  where
    by : UnitForm u → IsInRange 0x01 0x7F a ⊎ IsInRange 0xC0 0xEF a
    by (one low high f) = let r = head_read bytes rest at u (e ∙ ap (λ l. l ++ rest) f) in inl (omega arith, omega arith)
    by (two low high f) =
        let r = head_read bytes ((0x80 + u % 0x40) ∷ rest) at (0xC0 + u / 0x40) (e ∙ ap (λ l. l ++ rest) f) in
        inr (omega arith, omega arith)
    by (three low f) =
        let r = head_read bytes ((0x80 + u / 0x40 % 0x40) ∷ (0x80 + u % 0x40) ∷ rest) at (0xE0 + u / 0x1000) (e ∙ ap (λ l. l ++ rest) f) in
        inr (omega arith, omega arith)

pub begins_two : (bytes rest : List ℕ) (at u a b : ℕ) → u < 0x10000 → a ≡ get_or bytes at 0 → b ≡ get_or bytes (at + 1) 0
    → IsInRange 0xC0 0xDF a → drop at bytes ≡ unit_bytes u ++ rest → unit_bytes u ≡ a ∷ b ∷ []
begins_two bytes rest at u a b l p q h e = by (unit_form u)
  where
    by : UnitForm u → unit_bytes u ≡ a ∷ b ∷ []
    by (one low high f) = let r = head_read bytes rest at u (e ∙ ap (λ l. l ++ rest) f) in absurd (omega arith)
    by (two low high f) =
        let g = e ∙ ap (λ l. l ++ rest) f in
        let x = p ∙ head_read bytes ((0x80 + u % 0x40) ∷ rest) at (0xC0 + u / 0x40) g in
        let y = q ∙ second_read bytes rest at (0xC0 + u / 0x40) (0x80 + u % 0x40) g in
        f ∙ (λ i. sym x i ∷ sym y i ∷ [])
    by (three low f) =
        let r = head_read bytes ((0x80 + u / 0x40 % 0x40) ∷ (0x80 + u % 0x40) ∷ rest) at (0xE0 + u / 0x1000) (e ∙ ap (λ l. l ++ rest) f) in
        absurd (omega arith)

pub begins_three : (bytes rest : List ℕ) (at u a b c : ℕ) → u < 0x10000 → a ≡ get_or bytes at 0 → b ≡ get_or bytes (at + 1) 0
    → c ≡ get_or bytes (at + 2) 0 → IsInRange 0xE0 0xEF a → drop at bytes ≡ unit_bytes u ++ rest → unit_bytes u ≡ a ∷ b ∷ c ∷ []
begins_three bytes rest at u a b c l p q r h e = by (unit_form u)
  where
    by : UnitForm u → unit_bytes u ≡ a ∷ b ∷ c ∷ []
    by (one low high f) = let r = head_read bytes rest at u (e ∙ ap (λ l. l ++ rest) f) in absurd (omega arith)
    by (two low high f) =
        let r = head_read bytes ((0x80 + u % 0x40) ∷ rest) at (0xC0 + u / 0x40) (e ∙ ap (λ l. l ++ rest) f) in
        absurd (omega arith)
    by (three low f) =
        let g = e ∙ ap (λ l. l ++ rest) f in
        let x = p ∙ head_read bytes ((0x80 + u / 0x40 % 0x40) ∷ (0x80 + u % 0x40) ∷ rest) at (0xE0 + u / 0x1000) g in
        let y = q ∙ second_read bytes ((0x80 + u % 0x40) ∷ rest) at (0xE0 + u / 0x1000) (0x80 + u / 0x40 % 0x40) g in
        let z = r ∙ third_read bytes rest at (0xE0 + u / 0x1000) (0x80 + u / 0x40 % 0x40) (0x80 + u % 0x40) g in
        f ∙ (λ i. sym x i ∷ sym y i ∷ sym z i ∷ [])

-- no two units share a front
pub unit_same : (u v : ℕ) (r s : List ℕ) → u < 0x10000 → v < 0x10000 → unit_bytes u ++ r ≡ unit_bytes v ++ s → (u ≡ v) × (r ≡ s)
unit_same u v r s l m e = by (unit_form u) (unit_form v)
  where
    joined : (xs ys : List ℕ) → unit_bytes u ≡ xs → unit_bytes v ≡ ys → xs ++ r ≡ ys ++ s
    joined xs ys f g = ap (λ l. l ++ r) (sym f) ∙ e ∙ ap (λ l. l ++ s) g

    by : UnitForm u → UnitForm v → (u ≡ v) × (r ≡ s)
    by (one p q f) (one p' q' g) = let j = joined _ _ f g in (cc, cc)
    by (one p q f) (two p' q' g) = let j = joined _ _ f g in let x : u ≡ 0xC0 + v / 0x40 = cc in absurd (omega arith)
    by (one p q f) (three p' g) = let j = joined _ _ f g in let x : u ≡ 0xE0 + v / 0x1000 = cc in absurd (omega arith)
    by (two p q f) (one p' q' g) = let j = joined _ _ f g in let x : 0xC0 + u / 0x40 ≡ v = cc in absurd (omega arith)
    by (two p q f) (two p' q' g) =
        let j = joined _ _ f g in
        let x : 0xC0 + u / 0x40 ≡ 0xC0 + v / 0x40 = cc in
        let y : 0x80 + u % 0x40 ≡ 0x80 + v % 0x40 = cc in
        (omega arith, cc)
    by (two p q f) (three p' g) = let j = joined _ _ f g in let x : 0xC0 + u / 0x40 ≡ 0xE0 + v / 0x1000 = cc in absurd (omega arith)
    by (three p f) (one p' q' g) = let j = joined _ _ f g in let x : 0xE0 + u / 0x1000 ≡ v = cc in absurd (omega arith)
    by (three p f) (two p' q' g) = let j = joined _ _ f g in let x : 0xE0 + u / 0x1000 ≡ 0xC0 + v / 0x40 = cc in absurd (omega arith)
    by (three p f) (three p' g) =
        let j = joined _ _ f g in
        let x : 0xE0 + u / 0x1000 ≡ 0xE0 + v / 0x1000 = cc in
        let y : 0x80 + u / 0x40 % 0x40 ≡ 0x80 + v / 0x40 % 0x40 = cc in
        let z : 0x80 + u % 0x40 ≡ 0x80 + v % 0x40 = cc in
        (omega arith, cc)
