-- Bytes begin with at most one instruction, and are whole instructions in at most one way.
use Rattle.std.proofs.Common.{◌≡◌, ℕ, ◌+◌, ◌^◌, ◌<◌, ℤ, pos, negsuc, Bool, true, false, List, [], ◌∷◌, ◌++◌, length, Option, None, Some, refl, sym, ap, subst, ◌∙◌, append_assoc, arith, rules}
use Rattle.std.specs.Prelude.{IsTrue, FitsSigned, not, ◌≤ℤ◌}
use Rattle.std.specs.List.{flat_map, AllByRecursion}
use Rattle.std.specs.Int.{Width, w8, w16, w32, cast_signed, cast_unsigned, from_be_bytes, to_be_bytes}
use Rattle.std.proofs.lemmas.Int.{ints, to_z-of_z}
use Rattle.std.proofs.lemmas.Nat.{from_be_bytes-to_be_bytes_2, from_be_bytes-to_be_bytes_4}
use Rattle.std.proofs.lemmas.List.{length-append}
use Rattle.cf_form.specs.declared.instr.Instr.{Instr}
use Rattle.cf_form.specs.declared.shape.Shape.{Shape}
use Rattle.cf_form.specs.declared.shape.Shape.TheVariants.{Plain, Signed1, Signed2, Pool1, Pool2, Local, Step, Jump2, Jump4, Face, Wide}
use Rattle.cf_form.specs.Opcodes.{shape_of}
use Rattle.cf_form.specs.Instructions.{one, two, four, Is1, Is2, operands, OperandsFit, bytes_of, FitsBy, Fits, size, wide_opcode}
use Rattle.cf_instr.proofs.Filling.{allows, byte_again}
use Rattle.cf_instr.proofs.Table.{wide_shape}
use Rattle.cf_instr.proofs.Beginning.{head, instr, bytes_are}
use Rattle.cf_instr.proofs.Sizes.{size-within}

-- ---- numbers

-- two numbers of a kind with the same bytes, and what is behind them
abbrev Same : (ℤ → Type 0) → (ℤ → List ℕ) → Type 0
Same P spell = (a b : ℤ) (r s : List ℕ) → P a → P b → spell a ++ r ≡ spell b ++ s → (a ≡ b) × (r ≡ s)

natural : (a b : ℤ) → pos 0 ≤ℤ a → pos 0 ≤ℤ b → (w : Width) → cast_unsigned w a ≡ cast_unsigned w b → a ≡ b
natural (pos m) (pos n) h k w e = ap (λ (t : ℕ). pos t) e
natural (pos m) (negsuc n) h k w e = absurd (omega (arith, ints))
natural (negsuc m) b h k w e = absurd (omega (arith, ints))

signed : (w : Width) (a b : ℤ) → FitsSigned w a → FitsSigned w b → cast_unsigned w a ≡ cast_unsigned w b → a ≡ b
signed w a b h k e = sym (to_z-of_z w a h) ∙ ap (cast_signed w) e ∙ to_z-of_z w b k

cells-1 : (m n : ℕ) (r s : List ℕ) → m < 2 ^ 8 → n < 2 ^ 8 → to_be_bytes w8 m ++ r ≡ to_be_bytes w8 n ++ s → (m ≡ n) × (r ≡ s)
cells-1 m n r s h k e =
    let cells : m ∷ r ≡ n ∷ s = ap (λ (t : List ℕ). t ++ r) (sym (byte_again m h)) ∙ e ∙ ap (λ (t : List ℕ). t ++ s) (byte_again n k) in
    (cc, cc)

cells-2 : (m n : ℕ) (r s : List ℕ) → m < 2 ^ 16 → n < 2 ^ 16 → to_be_bytes w16 m ++ r ≡ to_be_bytes w16 n ++ s → (m ≡ n) × (r ≡ s)
cells-2 m n r s h k e =
    let same : to_be_bytes w16 m ≡ to_be_bytes w16 n = cc in
    (sym (from_be_bytes-to_be_bytes_2 m h) ∙ ap (from_be_bytes w16) same ∙ from_be_bytes-to_be_bytes_2 n k, cc)

cells-4 : (m n : ℕ) (r s : List ℕ) → m < 2 ^ 32 → n < 2 ^ 32 → to_be_bytes w32 m ++ r ≡ to_be_bytes w32 n ++ s → (m ≡ n) × (r ≡ s)
cells-4 m n r s h k e =
    let same : to_be_bytes w32 m ≡ to_be_bytes w32 n = cc in
    (sym (from_be_bytes-to_be_bytes_4 m h) ∙ ap (from_be_bytes w32) same ∙ from_be_bytes-to_be_bytes_4 n k, cc)

below1 : (a : ℤ) → Is1 a → cast_unsigned w8 a < 2 ^ 8
below1 (pos n) h = omega (arith, ints)
below1 (negsuc n) h = absurd (omega (arith, ints))

below2 : (a : ℤ) → Is2 a → cast_unsigned w16 a < 2 ^ 16
below2 (pos n) h = omega (arith, ints)
below2 (negsuc n) h = absurd (omega (arith, ints))

below-signed1 : (a : ℤ) → FitsSigned w8 a → cast_unsigned w8 a < 2 ^ 8
below-signed1 a h = search (rules, ints)

below-signed2 : (a : ℤ) → FitsSigned w16 a → cast_unsigned w16 a < 2 ^ 16
below-signed2 a h = search (rules, ints)

below-signed4 : (a : ℤ) → FitsSigned w32 a → cast_unsigned w32 a < 2 ^ 32
below-signed4 a h = search (rules, ints)

same1 : Same Is1 one
same1 a b r s h k e = let p = cells-1 (cast_unsigned w8 a) (cast_unsigned w8 b) r s (below1 a h) (below1 b k) e in (natural a b h.0 k.0 w8 p.0, p.1)

same1s : Same (FitsSigned w8) one
same1s a b r s h k e = let p = cells-1 (cast_unsigned w8 a) (cast_unsigned w8 b) r s (below-signed1 a h) (below-signed1 b k) e in (signed w8 a b h k p.0, p.1)

same2 : Same Is2 two
same2 a b r s h k e = let p = cells-2 (cast_unsigned w16 a) (cast_unsigned w16 b) r s (below2 a h) (below2 b k) e in (natural a b h.0 k.0 w16 p.0, p.1)

same2s : Same (FitsSigned w16) two
same2s a b r s h k e = let p = cells-2 (cast_unsigned w16 a) (cast_unsigned w16 b) r s (below-signed2 a h) (below-signed2 b k) e in (signed w16 a b h k p.0, p.1)

same4s : Same (FitsSigned w32) four
same4s a b r s h k e = let p = cells-4 (cast_unsigned w32 a) (cast_unsigned w32 b) r s (below-signed4 a h) (below-signed4 b k) e in (signed w32 a b h k p.0, p.1)

-- ---- operands

abbrev SameOperands : Shape → Bool → Type 0
SameOperands s w = (a b a' b' : ℤ) (r r' : List ℕ) → OperandsFit s w a b → OperandsFit s w a' b' → operands s w a b ++ r ≡ operands s w a' b' ++ r' → (a ≡ a') × (b ≡ b') × (r ≡ r')

same_operands : (s : Shape) (w : Bool) → SameOperands s w
same_operands Plain w a b a' b' r r' h k e = (h.1 ∙ sym k.1, h.2 ∙ sym k.2, e)
same_operands Signed1 w a b a' b' r r' h k e = let p = same1s a a' r r' h.1 k.1 e in (p.0, h.2 ∙ sym k.2, p.1)
same_operands Signed2 w a b a' b' r r' h k e = let p = same2s a a' r r' h.1 k.1 e in (p.0, h.2 ∙ sym k.2, p.1)
same_operands Pool1 w a b a' b' r r' h k e = let p = same1 a a' r r' h.1 k.1 e in (p.0, h.2 ∙ sym k.2, p.1)
same_operands Pool2 w a b a' b' r r' h k e = let p = same2 a a' r r' h.1 k.1 e in (p.0, h.2 ∙ sym k.2, p.1)
same_operands Local false a b a' b' r r' h k e = let p = same1 a a' r r' h.0 k.0 e in (p.0, h.1 ∙ sym k.1, p.1)
same_operands Local true a b a' b' r r' h k e = let p = same2 a a' r r' h.0 k.0 e in (p.0, h.1 ∙ sym k.1, p.1)
same_operands Step false a b a' b' r r' h k e =
    let p = same1 a a' (one b ++ r) (one b' ++ r') h.0 k.0 e in
    let q = same1s b b' r r' h.1 k.1 p.1 in (p.0, q.0, q.1)
same_operands Step true a b a' b' r r' h k e =
    let p = same2 a a' (two b ++ r) (two b' ++ r') h.0 k.0 e in
    let q = same2s b b' r r' h.1 k.1 p.1 in (p.0, q.0, q.1)
same_operands Jump2 w a b a' b' r r' h k e = let p = same2s a a' r r' h.1 k.1 e in (p.0, h.2 ∙ sym k.2, p.1)
same_operands Jump4 w a b a' b' r r' h k e = let p = same4s a a' r r' h.1 k.1 e in (p.0, h.2 ∙ sym k.2, p.1)
same_operands Face w a b a' b' r r' h k e =
    let p = same2 a a' (one b ++ 0 ∷ r) (one b' ++ 0 ∷ r') h.1 k.1 e in
    let q = same1 b b' (0 ∷ r) (0 ∷ r') h.2 k.2 p.1 in (p.0, q.0, let t = q.1 in cc)
same_operands Wide w a b a' b' r r' h k e = absurd h

-- ---- instructions

-- what an instruction that has a spelling is
pub record Seen (i : Instr) : Type 0 where
  pub shape : Shape
  pub has : shape_of i.op ≡ Some shape
  pub fits : OperandsFit shape i.wide i.a i.b
  pub ok : IsTrue (allows shape i.wide)
  pub bytes : bytes_of i ≡ head i.op i.wide ++ operands shape i.wide i.a i.b

narrow : (w : Bool) → w ≡ false → not w ≡ true
narrow w e = ap not e

allowed : (s : Shape) (w : Bool) (a b : ℤ) → OperandsFit s w a b → IsTrue (allows s w)
allowed Plain w a b h = narrow w h.0
allowed Signed1 w a b h = narrow w h.0
allowed Signed2 w a b h = narrow w h.0
allowed Pool1 w a b h = narrow w h.0
allowed Pool2 w a b h = narrow w h.0
allowed Local w a b h = refl
allowed Step w a b h = refl
allowed Jump2 w a b h = narrow w h.0
allowed Jump4 w a b h = narrow w h.0
allowed Face w a b h = narrow w h.0
allowed Wide w a b h = absurd h

seen_by : (i : Instr) (o : Option Shape) → shape_of i.op ≡ o → FitsBy o i → Seen i
seen_by i None e h = absurd h
seen_by i (Some s) e h = record { shape = s; has = e; fits = h; ok = allowed s i.wide i.a i.b h; bytes = bytes_are i.op i.wide i.a i.b s e }

pub seen : (i : Instr) → Fits i → Seen i
unfolding Fits
seen i h = seen_by i (shape_of i.op) refl h

heads : (op : ℕ) (w : Bool) (s : Shape) (xs : List ℕ) (op' : ℕ) (w' : Bool) (s' : Shape) (ys : List ℕ) → shape_of op ≡ Some s → shape_of op' ≡ Some s'
    → IsTrue (allows s w) → IsTrue (allows s' w') → head op w ++ xs ≡ head op' w' ++ ys → (op ≡ op') × (w ≡ w') × (xs ≡ ys)
heads op true s xs op' true s' ys h k ok ok' e = (cc, refl, cc)
heads op false s xs op' false s' ys h k ok ok' e = (cc, refl, cc)
heads op true s xs op' false s' ys h k ok ok' e =
    let o : op' ≡ wide_opcode = cc in
    let same : s' ≡ Wide = let t = wide_shape in let u = ap shape_of o in cc in
    absurd (let t = ap (λ (x : Shape). allows x false) same in cc)
heads op false s xs op' true s' ys h k ok ok' e =
    let o : op ≡ wide_opcode = cc in
    let same : s ≡ Wide = let t = wide_shape in let u = ap shape_of o in cc in
    absurd (let t = ap (λ (x : Shape). allows x false) same in cc)

-- the same bytes are the same instruction, and the same bytes behind it
pub one_instr : (i j : Instr) (r s : List ℕ) → Fits i → Fits j → bytes_of i ++ r ≡ bytes_of j ++ s → (i ≡ j) × (r ≡ s)
one_instr i j r s fi fj e =
    let p = seen i fi in
    let q = seen j fj in
    let left : bytes_of i ++ r ≡ head i.op i.wide ++ (operands p.shape i.wide i.a i.b ++ r) = ap (λ (t : List ℕ). t ++ r) p.bytes ∙ append_assoc (head i.op i.wide) (operands p.shape i.wide i.a i.b) r in
    let right : bytes_of j ++ s ≡ head j.op j.wide ++ (operands q.shape j.wide j.a j.b ++ s) = ap (λ (t : List ℕ). t ++ s) q.bytes ∙ append_assoc (head j.op j.wide) (operands q.shape j.wide j.a j.b) s in
    let h = heads i.op i.wide p.shape (operands p.shape i.wide i.a i.b ++ r) j.op j.wide q.shape (operands q.shape j.wide j.a j.b ++ s) p.has q.has p.ok q.ok (sym left ∙ e ∙ right) in
    let shapes : q.shape ≡ p.shape = let t = p.has in let u = q.has in let v = ap shape_of h.0 in cc in
    let fits : OperandsFit p.shape i.wide j.a j.b = subst (λ (x : Shape). OperandsFit x i.wide j.a j.b) shapes (subst (λ (x : Bool). OperandsFit q.shape x j.a j.b) (sym h.1) q.fits) in
    let same : operands q.shape j.wide j.a j.b ≡ operands p.shape i.wide j.a j.b = ap (λ (x : Shape). operands x j.wide j.a j.b) shapes ∙ ap (λ (x : Bool). operands p.shape x j.a j.b) (sym h.1) in
    let o = same_operands p.shape i.wide i.a i.b j.a j.b r s p.fits fits (h.2 ∙ ap (λ (t : List ℕ). t ++ s) same) in
    (ap (λ (x : ℕ). instr x i.wide i.a i.b) h.0 ∙ ap (λ (x : Bool). instr j.op x i.a i.b) h.1 ∙ ap (λ (x : ℤ). instr j.op j.wide x i.b) o.0 ∙ ap (λ (x : ℤ). instr j.op j.wide j.a x) o.1, o.2)

-- no instruction begins the bytes
abbrev pub Stuck : List ℕ → Type 0
Stuck rest = (i : Instr) (more : List ℕ) → Fits i → rest ≡ bytes_of i ++ more → ⊥

pub stuck_end : Stuck []
stuck_end i more f e =
    let some = size-within i f in
    let total : 0 ≡ size i + length more = ap length e ∙ length-append (bytes_of i) more in
    absurd (omega arith)

pub one_parse : (xs ys : List Instr) (r s : List ℕ) → AllByRecursion Fits xs → AllByRecursion Fits ys → Stuck r → Stuck s
    → flat_map bytes_of xs ++ r ≡ flat_map bytes_of ys ++ s → (xs ≡ ys) × (r ≡ s)
one_parse [] [] r s fx fy stuck_r stuck_s e = (refl, e)
one_parse [] (y ∷ ys) r s fx fy stuck_r stuck_s e = absurd (stuck_r y (flat_map bytes_of ys ++ s) fy.0 (e ∙ append_assoc (bytes_of y) (flat_map bytes_of ys) s))
one_parse (x ∷ xs) [] r s fx fy stuck_r stuck_s e = absurd (stuck_s x (flat_map bytes_of xs ++ r) fx.0 (sym e ∙ append_assoc (bytes_of x) (flat_map bytes_of xs) r))
one_parse (x ∷ xs) (y ∷ ys) r s fx fy stuck_r stuck_s e =
    let p = one_instr x y (flat_map bytes_of xs ++ r) (flat_map bytes_of ys ++ s) fx.0 fy.0 (sym (append_assoc (bytes_of x) (flat_map bytes_of xs) r) ∙ e ∙ append_assoc (bytes_of y) (flat_map bytes_of ys) s) in
    let q = one_parse xs ys r s fx.1 fy.1 stuck_r stuck_s p.1 in
    (ap (λ (t : Instr). t ∷ xs) p.0 ∙ ap (λ (t : List Instr). y ∷ t) q.0, q.1)
