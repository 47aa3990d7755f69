-- A fault of bytes is their only one, and bytes that have one are no code's.
use Rattle.std.proofs.Common.{◌≡◌, ℕ, ◌+◌, ◌≤◌, ℤ, Bool, true, false, List, [], ◌∷◌, ◌++◌, length, Some, refl, sym, ap, subst, ◌∙◌, append_assoc, arith, inl, inr}
use Rattle.std.specs.Prelude.{IsTrue}
use Rattle.std.proofs.lemmas.List.{length-append, append-nil}
use Rattle.cf_form.specs.declared.shape.Shape.{Shape}
use Rattle.cf_form.specs.declared.shape.Shape.TheVariants.{Plain, Signed1, Signed2, Pool1, Pool2, Local, Step, Jump2, Jump4, Face, Wide}
use Rattle.cf_form.specs.Opcodes.{shape_of}
use Rattle.cf_form.specs.Instructions.{operands, bytes_of, wide_opcode}
use Rattle.cf_instr.specs.declared.code_fault.CodeKind.{CodeKind}
use Rattle.cf_instr.specs.declared.code_fault.CodeKind.TheVariants as kinds
use Rattle.cf_instr.specs.Faults.{widens, CannotWiden, IsUnknown, IsCutShort, HasNoZero, Stops}
use Rattle.cf_instr.proofs.Filling.{allows}
use Rattle.cf_instr.proofs.Table.{wide_shape}
use Rattle.cf_instr.proofs.Beginning.{head}
use Rattle.cf_instr.proofs.Parsing.{seen, one_instr, Stuck}

-- ---- what stops the reading

widens-allowed : (s : Shape) → IsTrue (allows s true) → widens (Some s) ≡ true
widens-allowed Plain h = absurd cc
widens-allowed Signed1 h = absurd cc
widens-allowed Signed2 h = absurd cc
widens-allowed Pool1 h = absurd cc
widens-allowed Pool2 h = absurd cc
widens-allowed Local h = refl
widens-allowed Step h = refl
widens-allowed Jump2 h = absurd cc
widens-allowed Jump4 h = absurd cc
widens-allowed Face h = absurd cc
widens-allowed Wide h = absurd cc

-- `wide` isn't an instruction
no_wide : (op : ℕ) (s : Shape) → op ≡ wide_opcode → shape_of op ≡ Some s → s ≡ Wide
no_wide op s e h = let t = wide_shape in let u = ap shape_of e in cc

unknown_by : (w : Bool) (i-op : ℕ) (s : Shape) (xs rest : List ℕ) → shape_of i-op ≡ Some s → IsTrue (allows s w) → rest ≡ head i-op w ++ xs → IsUnknown rest → ⊥
unknown_by w i-op s xs [] h ok e u = u
unknown_by false i-op s xs (op ∷ more) h ok e (inl none) = let o : op ≡ i-op = cc in let t = ap shape_of o in absurd cc
unknown_by false i-op s xs (op ∷ more) h ok e (inr wide) =
    let o : i-op ≡ wide_opcode = let t = wide.0 in cc in
    let same : s ≡ Wide = no_wide i-op s o h in
    absurd (let t = ap (λ (x : Shape). allows x false) same in cc)
unknown_by true i-op s xs (op ∷ more) h ok e (inl none) = let o : op ≡ wide_opcode = cc in let t = ap shape_of o in let u = wide_shape in absurd cc
unknown_by true i-op s xs (op ∷ more) h ok e (inr wide) =
    let m : more ≡ i-op ∷ xs = cc in
    let c : widens (shape_of i-op) ≡ false = subst CannotWiden m wide.1 in
    let d : widens (shape_of i-op) ≡ true = ap widens h ∙ widens-allowed s ok in
    absurd cc

stuck_unknown : (rest : List ℕ) → IsUnknown rest → Stuck rest
stuck_unknown rest u i more f e =
    let p = seen i f in
    unknown_by i.wide i.op p.shape (operands p.shape i.wide i.a i.b ++ more) rest p.has p.ok (e ∙ ap (λ (t : List ℕ). t ++ more) p.bytes ∙ append_assoc (head i.op i.wide) (operands p.shape i.wide i.a i.b) more) u

-- the operands of `invokeinterface` end with 0
zero_last : (s : Shape) (a b : ℤ) (xs more : List ℕ) (h l c z : ℕ) → s ≡ Face → h ∷ l ∷ c ∷ z ∷ more ≡ operands s false a b ++ xs → z ≡ 0
zero_last s a b xs more h l c z e same =
    let t : h ∷ l ∷ c ∷ z ∷ more ≡ operands Face false a b ++ xs = same ∙ ap (λ (x : Shape). operands x false a b ++ xs) e in
    cc

face_by : (w : Bool) (i-op : ℕ) (s : Shape) (a b : ℤ) (xs rest : List ℕ) → shape_of i-op ≡ Some s → IsTrue (allows s w) → rest ≡ head i-op w ++ (operands s w a b ++ xs) → HasNoZero rest → ⊥
face_by false i-op s a b xs rest h ok e u =
    let cells = sym u.parts ∙ e in
    let o : u.op ≡ i-op = cc in
    let tail : u.high ∷ u.low ∷ u.count ∷ u.last ∷ u.more ≡ operands s false a b ++ xs = cc in
    let same : s ≡ Face = let t = ap shape_of o in let k = u.face in cc in
    u.wrong (zero_last s a b xs u.more u.high u.low u.count u.last same tail)
face_by true i-op s a b xs rest h ok e u =
    let cells = sym u.parts ∙ e in
    let o : u.op ≡ wide_opcode = cc in
    let same : Face ≡ Wide = no_wide u.op Face o u.face in
    absurd cc

stuck_face : (rest : List ℕ) → HasNoZero rest → Stuck rest
stuck_face rest u i more f e =
    let p = seen i f in
    face_by i.wide i.op p.shape i.a i.b more rest p.has p.ok (e ∙ ap (λ (t : List ℕ). t ++ more) p.bytes ∙ append_assoc (head i.op i.wide) (operands p.shape i.wide i.a i.b) more) u

stuck_cut : (rest : List ℕ) → IsCutShort rest → Stuck rest
stuck_cut rest u i more f e =
    let whole : bytes_of u.whole ++ [] ≡ bytes_of i ++ (more ++ u.more) = append-nil (bytes_of u.whole) ∙ u.spelled ∙ ap (λ (t : List ℕ). t ++ u.more) e ∙ append_assoc (bytes_of i) more u.more in
    let p = one_instr u.whole i [] (more ++ u.more) u.fits f whole in
    let total : 0 ≡ length more + length u.more = ap length p.1 ∙ length-append more u.more in
    let some = u.missing in
    absurd (omega arith)

pub stuck : (kind : CodeKind) (rest : List ℕ) → Stops kind rest → Stuck rest
stuck kinds.Opcode rest h = stuck_unknown rest h
stuck kinds.Cut rest h = stuck_cut rest h
stuck kinds.Jump rest h = absurd h
stuck kinds.Shape rest h = stuck_face rest h
stuck kinds.Memory rest h = absurd h

pub not_empty : (kind : CodeKind) (rest : List ℕ) → Stops kind rest → 1 ≤ length rest
not_empty kinds.Opcode [] h = absurd h
not_empty kinds.Opcode (x ∷ xs) h = omega arith
not_empty kinds.Cut rest h = h.begun
not_empty kinds.Jump rest h = absurd h
not_empty kinds.Shape rest h = omega (arith, ap length h.parts)
not_empty kinds.Memory rest h = absurd h

-- ---- one kind

unknown_more : (rest more : List ℕ) → IsUnknown rest → IsUnknown (rest ++ more)
unknown_more [] more h = absurd h
unknown_more (op ∷ xs) more (inl none) = inl none
unknown_more (op ∷ []) more (inr wide) = absurd wide.1
unknown_more (op ∷ x ∷ xs) more (inr wide) = inr wide

face_more : (rest more : List ℕ) → HasNoZero rest → HasNoZero (rest ++ more)
face_more rest more h = record { op = h.op; high = h.high; low = h.low; count = h.count; last = h.last; more = h.more ++ more; parts = ap (λ (t : List ℕ). t ++ more) h.parts; face = h.face; wrong = h.wrong }

not_both : (rest : List ℕ) → IsCutShort rest → ((more : List ℕ) → Stuck (rest ++ more)) → ⊥
not_both rest h s = s h.more h.whole [] h.fits (sym (append-nil (bytes_of h.whole) ∙ h.spelled))

unknown_face : (rest : List ℕ) → IsUnknown rest → HasNoZero rest → ⊥
unknown_face [] u h = u
unknown_face (op ∷ xs) (inl none) h = let t = h.parts in let o : op ≡ h.op = cc in let k = ap shape_of o in let l = h.face in absurd cc
unknown_face (op ∷ xs) (inr wide) h =
    let t = h.parts in
    let o : h.op ≡ wide_opcode = let k = wide.0 in cc in
    let same : Face ≡ Wide = no_wide h.op Face o h.face in
    absurd cc

pub one_kind : (k l : CodeKind) (rest : List ℕ) → Stops k rest → Stops l rest → k ≡ l
one_kind kinds.Opcode kinds.Opcode rest h m = refl
one_kind kinds.Opcode kinds.Cut rest h m = absurd (not_both rest m (λ more. stuck_unknown (rest ++ more) (unknown_more rest more h)))
one_kind kinds.Opcode kinds.Shape rest h m = absurd (unknown_face rest h m)
one_kind kinds.Cut kinds.Opcode rest h m = absurd (not_both rest h (λ more. stuck_unknown (rest ++ more) (unknown_more rest more m)))
one_kind kinds.Cut kinds.Cut rest h m = refl
one_kind kinds.Cut kinds.Shape rest h m = absurd (not_both rest h (λ more. stuck_face (rest ++ more) (face_more rest more m)))
one_kind kinds.Shape kinds.Opcode rest h m = absurd (unknown_face rest m h)
one_kind kinds.Shape kinds.Cut rest h m = absurd (not_both rest m (λ more. stuck_face (rest ++ more) (face_more rest more h)))
one_kind kinds.Shape kinds.Shape rest h m = refl
one_kind kinds.Jump l rest h m = absurd h
one_kind kinds.Memory l rest h m = absurd h
one_kind k kinds.Jump rest h m = absurd m
one_kind k kinds.Memory rest h m = absurd m
