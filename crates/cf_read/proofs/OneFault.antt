-- The fault of a file is the only one.
use Rattle.std.proofs.Common.{◌≡◌, ◌≢◌, refl, sym, ap, ◌∙◌, subst, ℕ, zero, suc, ◌+◌, ◌<◌, ◌≤◌, ◌⊎◌, inl, inr, List, [], ◌∷◌, ◌++◌, length, take, drop, Option, None, Some, Result, Ok, Err, append_assoc, arith}
use Rattle.std.specs.Prelude.{slice_get, IfSome, IsTrue}
use Rattle.std.specs.List.{flat_map, AllByRecursion}
use Rattle.std.proofs.lemmas.Bool.{cases_lt}
use Rattle.std.proofs.lemmas.List.{length-append}
use Rattle.std.proofs.lemmas.List.Concat.{flat_map-append}
use Rattle.std.proofs.Math.Seq.{drop-append_seam}
use Rattle.cf_form.specs.ClassFiles.{Each, NamesWell, Reads}
use Rattle.cf_form.specs.declared.class_file.ClassFile.{ClassFile}
use Rattle.cf_form.specs.Instructions.{bytes_of, Fits, offset, jumps, number}
use Rattle.cf_form.specs.Pool.{kind_needed, names}
use Rattle.cf_form.specs.Outline.{Row}
use Rattle.cf_form.specs.declared.class_file.MethodInfo.{MethodInfo}
use Rattle.cf_form.specs.declared.constant.Const.{Const}
use Rattle.cf_form.specs.declared.instr.Instr.{Instr}
use Rattle.cf_form.specs.declared.kind.Kind.{Kind}
use Rattle.cf_instr.specs.Faults.{FaultAt, StopsAt, JumpsAstray}
use Rattle.cf_instr.specs.declared.code_fault.CodeKind.{CodeKind}
use Rattle.cf_instr.specs.declared.code_fault.CodeKind.TheVariants as codes
use Rattle.cf_instr.specs.declared.code_fault.CodeFault.{CodeFault}
use Rattle.cf_instr.proofs.Codes.{one_code}
use Rattle.cf_instr.proofs.Excluding.{one_fault, not_code}
use Rattle.cf_instr.proofs.Faulty.{stuck}
use Rattle.cf_instr.proofs.Parsing.{one_instr}
use Rattle.cf_instr.proofs.Sizes.{size-within, offset-cons, offset-zero}
use Rattle.cf_read.specs.Codes.{IsMethodRead, IsBad, Refused, Unnamed, Table, IsBadMethod, IsBadCode, IsBadIndex, IsBadTable, IsRefusedAt, RowFits, IsBadRow, From, To, Target, Caught}
use Rattle.cf_read.specs.FileFaults.{IsMet, IsMetAt, IsFaultBy, IsFileFault}
use Rattle.cf_read.specs.Reading.{Found, MethodOutline, FileOutline}
use Rattle.cf_read.specs.declared.file_fault.FileFault.{FileFault}
use Rattle.cf_read.specs.declared.fault.Fault.{Fault}
use Rattle.cf_read.specs.declared.file_fault.FileKind.{FileKind}
use Rattle.cf_read.specs.declared.file_fault.FileKind.TheVariants as fault
use Rattle.cf_read.proofs.Needing.{needs_none}
use Rattle.cf_read.proofs.Determined.{has_at, row_apart, index_apart, code_apart, met_apart, whole_same}
use Rattle.cf_read.proofs.AgainFile.{reads_again}

-- ---- a row, and a table

one_row : (pool : List Const) (code : List Instr) (row : Row) (k l : FileKind) (a b : ℕ) → IsBadRow pool code row k a → IsBadRow pool code row l b → (k ≡ l) × (a ≡ b)
one_row pool code row k l a b (From n) (From m) = (refl, refl)
one_row pool code row k l a b (From n) (To h m) = absurd (n h)
one_row pool code row k l a b (From n) (Target h i m) = absurd (n h)
one_row pool code row k l a b (From n) (Caught h i j m) = absurd (n h)
one_row pool code row k l a b (To g n) (From m) = absurd (m g)
one_row pool code row k l a b (To g n) (To h m) = (refl, refl)
one_row pool code row k l a b (To g n) (Target h i m) = absurd (n i)
one_row pool code row k l a b (To g n) (Caught h i j m) = absurd (n i)
one_row pool code row k l a b (Target g h n) (From m) = absurd (m g)
one_row pool code row k l a b (Target g h n) (To i m) = absurd (m h)
one_row pool code row k l a b (Target g h n) (Target i j m) = (refl, refl)
one_row pool code row k l a b (Target g h n) (Caught i j o m) = absurd (n o)
one_row pool code row k l a b (Caught f g h n) (From m) = absurd (m f)
one_row pool code row k l a b (Caught f g h n) (To i m) = absurd (m g)
one_row pool code row k l a b (Caught f g h n) (Target i j m) = absurd (m h)
one_row pool code row k l a b (Caught f g h n) (Caught i j o m) = (refl, refl)

in_front : {A : Type 0} (xs : List A) (n m : ℕ) (x : A) → n < m → slice_get xs n ≡ Some x → slice_get (take m xs) n ≡ Some x
in_front [] n m x l e = absurd cc
in_front (y ∷ xs) n zero x l e = absurd (omega (arith, l))
in_front (y ∷ xs) zero (suc m) x l e = e
in_front (y ∷ xs) (suc n) (suc m) x l e = in_front xs n m x (omega (arith, l)) e

not_before : (pool : List Const) (code : List Instr) (rows : List Row) (k l : FileKind) (a b : ℕ) (t : IsBadTable pool code rows k a) (u : IsBadTable pool code rows l b) → t.n < u.n → ⊥
not_before pool code rows k l a b t u lt =
    row_apart pool code t.row k t.within (has_at (RowFits pool code) (take u.n rows) t.n t.row u.before (in_front rows t.n u.n t.row lt t.here)) t.bad

one_table : (pool : List Const) (code : List Instr) (rows : List Row) (k l : FileKind) (a b : ℕ) → IsBadTable pool code rows k a → IsBadTable pool code rows l b → (k ≡ l) × (a ≡ b)
one_table pool code rows k l a b t u = by (cases_lt t.n u.n) (cases_lt u.n t.n)
  where
    by : (t.n < u.n) ⊎ (u.n ≤ t.n) → (u.n < t.n) ⊎ (t.n ≤ u.n) → (k ≡ l) × (a ≡ b)
    by (inl c) d = absurd (not_before pool code rows k l a b t u c)
    by (inr c) (inl d) = absurd (not_before pool code rows l k b a u t d)
    by (inr c) (inr d) =
        let n : t.n ≡ u.n = omega arith in
        let row : t.row ≡ u.row = (let h = sym t.here ∙ ap (slice_get rows) n ∙ u.here in cc) in
        let p = one_row pool code u.row k l t.within u.within (subst (λ r. IsBadRow pool code r k t.within) row t.bad) u.bad in
        (p.0, (let x = t.offset in let y = u.offset in let z = p.1 in omega (arith, x, y, z, n)))

-- ---- a code

rest_same : (xs ys r s : List ℕ) → length xs ≡ length ys → xs ++ r ≡ ys ++ s → r ≡ s
rest_same xs ys r s l e = sym (drop-append_seam xs r) ∙ ap (λ n. drop n (xs ++ r)) l ∙ ap (drop (length ys)) e ∙ drop-append_seam ys s

-- where the n-th of these instructions stands
record StandsAt (raws : List Instr) (n : ℕ) (x : Instr) : Type 0 where
  before : List Instr
  after : List Instr
  is : raws ≡ before ++ x ∷ after
  here : offset raws n ≡ length (flat_map bytes_of before)

stands_at : (raws : List Instr) (n : ℕ) (x : Instr) → slice_get raws n ≡ Some x → StandsAt raws n x
stands_at [] n x e = absurd cc
stands_at (y ∷ ys) zero x e = let same : y ≡ x = cc in record { before = []; after = ys; is = ap (λ z. z ∷ ys) same; here = offset-zero (y ∷ ys) }
stands_at (y ∷ ys) (suc n) x e =
    let r = stands_at ys n x e in
    record { before = y ∷ r.before; after = r.after; is = ap (λ zs. y ∷ zs) r.is; here = omega (arith, offset-cons y ys n, r.here, length-append (bytes_of y) (flat_map bytes_of r.before)) }

-- an instruction that doesn't name what it needs doesn't jump, and nothing is refused where it begins
module _ (pool : List Const) (code : List ℕ) (front : List Instr) (instr : Instr) (rest : List ℕ) (fits : Fits instr)
    (splits : code ≡ flat_map bytes_of front ++ (bytes_of instr ++ rest)) (bad : NamesWell pool instr → ⊥) where
  stops_here : (kind : CodeKind) (at : ℕ) → StopsAt code at kind → at ≡ length (flat_map bytes_of front) → ⊥
  stops_here kind at h e =
      let begins = h.1 in
      stuck kind h.0 h.2 instr rest fits
      (rest_same (flat_map bytes_of begins.front) (flat_map bytes_of front) h.0 (bytes_of instr ++ rest) (sym begins.here ∙ e) (sym begins.parts ∙ splits))

  empty_here : code ≡ [] → ⊥
  empty_here none =
      let some = size-within instr fits in
      absurd (omega (arith, some.0, ap length (sym none ∙ splits), length-append (flat_map bytes_of front) (bytes_of instr ++ rest), length-append (bytes_of instr) rest))

  jumps_here : (at : ℕ) → JumpsAstray code at → at ≡ length (flat_map bytes_of front) → ⊥
  jumps_here at j e =
      let astray = j.astray in
      let s = stands_at j.raws j.n astray.jump astray.here in
      let whole : flat_map bytes_of s.before ++ (bytes_of astray.jump ++ flat_map bytes_of s.after) ≡ flat_map bytes_of front ++ (bytes_of instr ++ rest) =
      sym (flat_map-append bytes_of s.before (astray.jump ∷ s.after)) ∙ ap (flat_map bytes_of) (sym s.is) ∙ sym j.parts ∙ splits in
      let tail = rest_same (flat_map bytes_of s.before) (flat_map bytes_of front) (bytes_of astray.jump ++ flat_map bytes_of s.after) (bytes_of instr ++ rest) (sym s.here ∙ sym j.here ∙ e) whole in
      let same = one_instr astray.jump instr (flat_map bytes_of s.after) rest (has_at Fits j.raws j.n astray.jump j.fits astray.here) fits tail in
      let needs : kind_needed instr.op ≡ None = needs_none instr (sym (ap jumps same.0) ∙ astray.jumping) in
      bad (subst (λ (o : Option Kind). IfSome o (λ needed. IsTrue (names pool needed (number instr.a)))) (sym needs) tt)

  fault_here : (kind : CodeKind) (at : ℕ) → FaultAt code at kind → kind ≢ codes.Memory → at ≡ length (flat_map bytes_of front) → ⊥
  fault_here codes.Opcode at h m e = stops_here codes.Opcode at h e
  fault_here codes.Cut at (inl none) m e = empty_here none.0
  fault_here codes.Cut at (inr h) m e = stops_here codes.Cut at h e
  fault_here codes.Shape at h m e = stops_here codes.Shape at h e
  fault_here codes.Jump at h m e = jumps_here at h e
  fault_here codes.Memory at h m e = m refl

  pub not_refused : (at : ℕ) → IsRefusedAt code at → at ≡ length (flat_map bytes_of front) → ⊥
  not_refused at r e = fault_here r.0.kind r.0.at r.3 r.1 (r.2 ∙ e)

-- an instruction that stands before the end of a front is one of the front's
covers : (P : Instr → Type 0) (xs ys : List Instr) (i : Instr) (r s : List ℕ) → AllByRecursion Fits xs → AllByRecursion Fits ys → Fits i
    → length (flat_map bytes_of ys) < length (flat_map bytes_of xs) → flat_map bytes_of xs ++ r ≡ flat_map bytes_of ys ++ (bytes_of i ++ s) → AllByRecursion P xs → P i
covers P [] ys i r s fx fy fi lt e h = absurd (omega (arith, lt))
covers P (x ∷ xs) [] i r s fx fy fi lt e h =
    let p = one_instr x i (flat_map bytes_of xs ++ r) s fx.0 fi (sym (append_assoc (bytes_of x) (flat_map bytes_of xs) r) ∙ e) in
    subst P p.0 h.0
covers P (x ∷ xs) (y ∷ ys) i r s fx fy fi lt e h =
    let p = one_instr x y (flat_map bytes_of xs ++ r) (flat_map bytes_of ys ++ (bytes_of i ++ s)) fx.0 fy.0
    (sym (append_assoc (bytes_of x) (flat_map bytes_of xs) r) ∙ e ∙ append_assoc (bytes_of y) (flat_map bytes_of ys) (bytes_of i ++ s)) in
    let same = ap (λ (z : Instr). length (bytes_of z)) p.0 in
    let less : length (flat_map bytes_of ys) < length (flat_map bytes_of xs) =
    omega (arith, lt, same, length-append (bytes_of x) (flat_map bytes_of xs), length-append (bytes_of y) (flat_map bytes_of ys)) in
    covers P xs ys i r s fx.1 fy.1 fi less p.1 h.1

apart_last : {A : Type 0} (P : A → Type 0) (xs : List A) (x : A) → AllByRecursion P (xs ++ x ∷ []) → AllByRecursion P xs × P x
apart_last P [] x h = (tt, h.0)
apart_last P (y ∷ xs) x h = let r = apart_last P xs x h.1 in ((h.0, r.0), r.1)

named_before : (pool : List Const) (code : List ℕ) (a b : ℕ) (xs : List Instr) (r : List ℕ) → AllByRecursion Fits xs → code ≡ flat_map bytes_of xs ++ r
    → length (flat_map bytes_of xs) ≡ a → AllByRecursion (NamesWell pool) xs → (u : IsBadIndex pool code b) → b < a → ⊥
named_before pool code a b xs r fits splits is names u lt =
    let f = apart_last Fits u.front u.instr u.fits in
    let whole = sym splits ∙ u.splits ∙ append_assoc (flat_map bytes_of u.front) (bytes_of u.instr) u.rest in
    u.bad (covers (NamesWell pool) xs u.front u.instr r u.rest fits f.0 f.1 (let x = u.before in omega (arith, x, is, lt)) whole names)

-- where a code is refused and an instruction before it doesn't name what it needs, the one comes first
code_or_index : (pool : List Const) (code : List ℕ) (a b : ℕ) → IsBadCode pool code a → IsBadIndex pool code b → ⊥
code_or_index pool code a b c u = by (cases_lt a b) (cases_lt b a)
  where
    by : (a < b) ⊎ (b ≤ a) → (b < a) ⊎ (a ≤ b) → ⊥
    by (inl l) d = u.first a l c.refused
    by (inr l) (inl d) = named_before pool code a b c.front c.rest c.fits c.splits c.before c.names u d
    by (inr l) (inr d) =
        let f = apart_last Fits u.front u.instr u.fits in
        not_refused pool code u.front u.instr u.rest f.1 (u.splits ∙ append_assoc (flat_map bytes_of u.front) (bytes_of u.instr) u.rest) u.bad a c.refused
        (let x = u.before in omega (arith, x, l, d))

-- an instruction that doesn't name what it needs isn't behind another
not_later : (pool : List Const) (code : List ℕ) (a b : ℕ) → IsBadIndex pool code a → IsBadIndex pool code b → a < b → ⊥
not_later pool code a b t u lt =
    let f = apart_last Fits u.front u.instr u.fits in
    named_before pool code b a u.front (bytes_of u.instr ++ u.rest) f.0 (u.splits ∙ append_assoc (flat_map bytes_of u.front) (bytes_of u.instr) u.rest) u.before u.names t lt

one_index : (pool : List Const) (code : List ℕ) (a b : ℕ) → IsBadIndex pool code a → IsBadIndex pool code b → a ≡ b
one_index pool code a b t u = by (cases_lt a b) (cases_lt b a)
  where
    by : (a < b) ⊎ (b ≤ a) → (b < a) ⊎ (a ≤ b) → a ≡ b
    by (inl l) d = absurd (not_later pool code a b t u l)
    by (inr l) (inl d) = absurd (not_later pool code b a u t d)
    by (inr l) (inr d) = omega arith

one_refusal : (code : List ℕ) (a b : ℕ) → IsRefusedAt code a → IsRefusedAt code b → a ≡ b
one_refusal code a b r q = sym r.2 ∙ ap (λ (f : CodeFault). f.at) (one_fault code r.0 q.0 r.3 q.3 r.1 q.1) ∙ q.2

made : FileKind → ℕ → Fault
made kind left = record { kind = kind; left = left }

one_bad : (pool : List Const) (found : Found) (f g : Fault) → IsBad pool found f → IsBad pool found g → f ≡ g
unfolding made
one_bad pool found f g (Refused a b) (Refused a' b') = ap (λ at. made fault.Code (length (drop at found.code_from))) (one_refusal found.code a a' b.refused b'.refused)
one_bad pool found f g (Refused a b) (Unnamed a' b') = absurd (code_or_index pool found.code a a' b b')
one_bad pool found f g (Unnamed a b) (Refused a' b') = absurd (code_or_index pool found.code a' a b' b)
one_bad pool found f g (Unnamed a b) (Unnamed a' b') = ap (λ at. made fault.Index (length (drop (at + 1) found.code_from))) (one_index pool found.code a a' b b')
one_bad pool found f g (Refused a b) (Table code c e n kind at t) = absurd (not_code found.code b.refused.0 code b.refused.3 b.refused.1 c e)
one_bad pool found f g (Table code c e n kind at t) (Refused a b) = absurd (not_code found.code b.refused.0 code b.refused.3 b.refused.1 c e)
one_bad pool found f g (Unnamed a b) (Table code c e n kind at t) = absurd (index_apart pool found.code code a c e n b)
one_bad pool found f g (Table code c e n kind at t) (Unnamed a b) = absurd (index_apart pool found.code code a c e n b)
one_bad pool found f g (Table code c e n kind at t) (Table code' c' e' n' kind' at' t') =
    let same = one_code code code' c c' (sym e ∙ e') in
    let p = one_table pool code' found.rows kind kind' at at' (subst (λ is. IsBadTable pool is found.rows kind at) same t) t' in
    ap (λ k. made k (length (drop at found.rows_from))) p.0 ∙ ap (λ a. made kind' (length (drop a found.rows_from))) p.1

-- ---- a file

one_method : (pool : List Const) (before before' : List MethodOutline) (m m' : MethodOutline) (after after' : List MethodOutline) (right right' : List MethodInfo)
    (found found' : Found) (f g : Fault) → before ++ m ∷ after ≡ before' ++ m' ∷ after' → Each (IsMethodRead pool) before right → Each (IsMethodRead pool) before' right'
    → m.code ≡ Some found → m'.code ≡ Some found' → IsBad pool found f → IsBad pool found' g → f ≡ g
one_method pool [] [] m m' after after' right right' found found' f g e r r' h h' b b' =
    let same : m ≡ m' = cc in
    let here : found ≡ found' = (let x = sym h ∙ ap (λ (o : MethodOutline). o.code) same ∙ h' in cc) in
    one_bad pool found' f g (subst (λ x. IsBad pool x f) here b) b'
one_method pool [] (o ∷ before') m m' after after' right [] found found' f g e r r' h h' b b' = absurd r'
one_method pool [] (o ∷ before') m m' after after' right (i ∷ is) found found' f g e r r' h h' b b' =
    let same : o ≡ m = cc in
    absurd (code_apart pool o i found f r'.0 (ap (λ (x : MethodOutline). x.code) same ∙ h) b)
one_method pool (o ∷ before) [] m m' after after' [] right' found found' f g e r r' h h' b b' = absurd r
one_method pool (o ∷ before) [] m m' after after' (i ∷ is) right' found found' f g e r r' h h' b b' =
    let same : o ≡ m' = cc in
    absurd (code_apart pool o i found' g r.0 (ap (λ (x : MethodOutline). x.code) same ∙ h') b')
one_method pool (o ∷ before) (p ∷ before') m m' after after' [] right' found found' f g e r r' h h' b b' = absurd r
one_method pool (o ∷ before) (p ∷ before') m m' after after' (i ∷ is) [] found found' f g e r r' h h' b b' = absurd r'
one_method pool (o ∷ before) (p ∷ before') m m' after after' (i ∷ is) (j ∷ js) found found' f g e r r' h h' b b' =
    let rest : before ++ m ∷ after ≡ before' ++ m' ∷ after' = cc in
    one_method pool before before' m m' after after' is js found found' f g rest r.1 r'.1 h h' b b'

one_bad_method : (pool : List Const) (methods : List MethodOutline) (f g : Fault) → IsBadMethod pool methods f → IsBadMethod pool methods g → f ≡ g
one_bad_method pool methods f g b c =
    one_method pool b.before c.before b.method c.method b.after c.after b.right c.right b.found c.found f g (sym b.are ∙ c.are) b.read c.read b.has_code c.has_code b.bad c.bad

one_met : (bytes : List ℕ) (f g : Fault) → IsMet bytes f → IsMet bytes g → f ≡ g
one_met bytes f g (inl e) (inl d) = let x = sym e ∙ d in cc
one_met bytes f g (inl e) (inr d) = absurd (let x : ◌≡◌ {A = Result FileOutline Fault} (Err f) (Ok d.0) = sym e ∙ d.1 in cc)
one_met bytes f g (inr e) (inl d) = absurd (let x : ◌≡◌ {A = Result FileOutline Fault} (Ok e.0) (Err g) = sym e.1 ∙ d in cc)
one_met bytes f g (inr e) (inr d) =
    let same : e.0 ≡ d.0 = (let x : ◌≡◌ {A = Result FileOutline Fault} (Ok e.0) (Ok d.0) = sym e.1 ∙ d.1 in cc) in
    one_bad_method d.0.pool d.0.methods f g (subst (λ (o : FileOutline). IsBadMethod o.pool o.methods f) same e.2) d.2

met_at : (bytes : List ℕ) (kind : FileKind) (at : ℕ) → IsFaultBy bytes kind at → kind ≢ fault.Memory → IsMetAt bytes kind at
met_at bytes fault.Magic at h n = h
met_at bytes fault.Version at h n = h
met_at bytes fault.Cut at h n = h
met_at bytes fault.Rest at h n = h
met_at bytes fault.Tag at h n = h
met_at bytes fault.Index at h n = h
met_at bytes fault.Utf at h n = h
met_at bytes fault.Code at h n = h
met_at bytes fault.Double at h n = h
met_at bytes fault.Memory at h n = absurd (n refl)

pub one_file_fault : (bytes : List ℕ) (f g : FileFault) → IsFileFault bytes f → IsFileFault bytes g → f.kind ≢ fault.Memory → g.kind ≢ fault.Memory → f ≡ g
one_file_fault bytes f g h k n m =
    let p = met_at bytes f.kind f.at h n in
    let q = met_at bytes g.kind g.at k m in
    let same = one_met bytes (record { kind = f.kind; left = p.0 }) (record { kind = g.kind; left = q.0 }) p.1 q.1 in
    let left : p.0 ≡ q.0 = ap (λ (x : Fault). x.left) same in
    let at : f.at ≡ g.at = (let x = p.2 in let y = q.2 in omega (arith, left, x, y)) in
    let build : ℕ → FileKind → FileFault = λ a kind. record { at = a; kind = kind } in
    ap (λ a. build a f.kind) at ∙ ap (λ kind. build g.at kind) (ap (λ (x : Fault). x.kind) same)

pub fault_apart : (bytes : List ℕ) (f : FileFault) (file : ClassFile) → IsFileFault bytes f → f.kind ≢ fault.Memory → Reads bytes file → ⊥
fault_apart bytes f file h n r =
    let p = met_at bytes f.kind f.at h n in
    met_apart bytes (record { kind = f.kind; left = p.0 }) file p.1 (reads_again bytes file r)

-- the bytes say one file
pub one_file : (bytes : List ℕ) (f g : ClassFile) → Reads bytes f → Reads bytes g → f ≡ g
one_file bytes f g h k = whole_same bytes f g (reads_again bytes f h) (reads_again bytes g k)
