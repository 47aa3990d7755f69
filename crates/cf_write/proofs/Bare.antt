-- A Code attribute that can be read with no attribute of its own is never read with any.
use Rattle.std.proofs.Common.{◌≡◌, ℕ, ◌*◌, ◌^◌, ◌<◌, List, [], ◌∷◌, ◌++◌, length, refl, sym, ap, ◌∙◌, append_assoc, arith}
use Rattle.std.specs.List.{flat_map}
use Rattle.std.specs.Int.{w16, w32, from_be_bytes}
use Rattle.std.proofs.lemmas.List.{length-append, nil_from_length}
use Rattle.std.proofs.lemmas.Nat.{from_be_bytes-to_be_bytes_2, from_be_bytes-to_be_bytes_4}
use Rattle.cf_form.specs.Pool.{u2, u4}
use Rattle.cf_form.specs.Outline.{Row, row_bytes, counted, attribute_bytes, CodeOutline, code_outline_bytes, CodeOutlineFits}

-- fronts of the same length are cut off
same_front : (xs ys us vs : List ℕ) → length xs ≡ length ys → xs ++ us ≡ ys ++ vs → (xs ≡ ys) × (us ≡ vs)
same_front [] [] us vs l e = (refl, e)
same_front [] (y ∷ ys) us vs l e = absurd (omega arith)
same_front (x ∷ xs) [] us vs l e = absurd (omega arith)
same_front (x ∷ xs) (y ∷ ys) us vs l e =
    let head : x ≡ y = cc in
    let tail : xs ++ us ≡ ys ++ vs = cc in
    let rest = same_front xs ys us vs (omega arith) tail in
    (λ i. head i ∷ rest.0 i, rest.1)

u2_same : (m n : ℕ) → m < 2 ^ 16 → n < 2 ^ 16 → u2 m ≡ u2 n → m ≡ n
u2_same m n p q e = sym (from_be_bytes-to_be_bytes_2 m p) ∙ ap (from_be_bytes w16) e ∙ from_be_bytes-to_be_bytes_2 n q

u4_same : (m n : ℕ) → m < 2 ^ 32 → n < 2 ^ 32 → u4 m ≡ u4 n → m ≡ n
u4_same m n p q e = sym (from_be_bytes-to_be_bytes_4 m p) ∙ ap (from_be_bytes w32) e ∙ from_be_bytes-to_be_bytes_4 n q

-- numbers in front
u2_front : (m n : ℕ) (us vs : List ℕ) → m < 2 ^ 16 → n < 2 ^ 16 → u2 m ++ us ≡ u2 n ++ vs → (m ≡ n) × (us ≡ vs)
u2_front m n us vs p q e = let h = same_front (u2 m) (u2 n) us vs refl e in (u2_same m n p q h.0, h.1)

u4_front : (m n : ℕ) (us vs : List ℕ) → m < 2 ^ 32 → n < 2 ^ 32 → u4 m ++ us ≡ u4 n ++ vs → (m ≡ n) × (us ≡ vs)
u4_front m n us vs p q e = let h = same_front (u4 m) (u4 n) us vs refl e in (u4_same m n p q h.0, h.1)

rows_length : (rows : List Row) → length (flat_map row_bytes rows) ≡ 8 * length rows
rows_length [] = refl
rows_length (row ∷ rows) = let h = rows_length rows in let e = length-append (row_bytes row) (flat_map row_bytes rows) in omega arith

pub bare : (c d : CodeOutline) → CodeOutlineFits c → CodeOutlineFits d → code_outline_bytes c ≡ code_outline_bytes d
    → c.attributes ≡ [] → d.attributes ≡ []
bare c d f g e n =
    let stack = u2_front c.max_stack d.max_stack _ _ f.max_stack g.max_stack e in
    let locals = u2_front c.max_locals d.max_locals _ _ f.max_locals g.max_locals stack.1 in
    let size = u4_front (length c.code) (length d.code) _ _ (omega (arith, f.most)) (omega (arith, g.most)) locals.1 in
    let code = same_front c.code d.code (counted row_bytes c.rows ++ counted attribute_bytes c.attributes) (counted row_bytes d.rows ++ counted attribute_bytes d.attributes) size.0
    (sym (append_assoc c.code (counted row_bytes c.rows) (counted attribute_bytes c.attributes)) ∙ size.1 ∙ append_assoc d.code (counted row_bytes d.rows) (counted attribute_bytes d.attributes)) in
    let count = u2_front (length c.rows) (length d.rows) _ _ f.rows.0 g.rows.0 code.1 in
    let rows = same_front (flat_map row_bytes c.rows) (flat_map row_bytes d.rows) (counted attribute_bytes c.attributes) (counted attribute_bytes d.attributes) (rows_length c.rows ∙ ap (λ k. 8 * k) count.0 ∙ sym (rows_length d.rows)) count.1 in
    let attributes = u2_front (length c.attributes) (length d.attributes) _ _ f.attributes.0 g.attributes.0 rows.1 in
    nil_from_length d.attributes (sym attributes.0 ∙ ap length n)
