-- Of bytes, one fault stands or one code.
use Rattle.std.proofs.Common.{◌≡◌, ◌≢◌, ℕ, ◌≤◌, List, [], ◌∷◌, ◌++◌, length, take, drop, refl, sym, ap, subst, ◌∙◌, arith, ◌⊎◌, inl, inr, Result, Ok, Err}
use Rattle.std.specs.Prelude.{IfOk, IfErr, MatchResult}
use Rattle.std.specs.List.{flat_map, AllByRecursion}
use Rattle.std.proofs.lemmas.Bool.{cases_lt}
use Rattle.std.proofs.lemmas.List.{length-append, append-nil, take_all, drop_all}
use Rattle.cf_form.specs.declared.instr.Instr.{Instr}
use Rattle.cf_form.specs.Instructions.{bytes_of, Fits, offset, IsCode, code_bytes}
use Rattle.cf_instr.specs.declared.code_fault.CodeFault.{CodeFault}
use Rattle.cf_instr.specs.declared.code_fault.CodeKind.{CodeKind}
use Rattle.cf_instr.specs.declared.code_fault.CodeKind.TheVariants as kinds
use Rattle.cf_instr.specs.Faults.{IsAstray, JumpsAstray, Stops, StopsAt, FaultAt, IsFault}
use Rattle.cf_instr.specs.Raws.{AreRaws, AreSettled}
use Rattle.cf_instr.proofs.Sizes.{size-within}
use Rattle.cf_instr.proofs.Targets.{length-with_offsets}
use Rattle.cf_instr.proofs.Parsing.{stuck_end, one_parse}
use Rattle.cf_instr.proofs.Faulty.{stuck, not_empty, one_kind}
use Rattle.cf_instr.proofs.Codes.{raws, none_astray, code_bytes-is, one_code, settled-code}

-- the three ways of being no code
data Told (bytes : List ℕ) (at : ℕ) (kind : CodeKind) : Type 0 where
  stopped : StopsAt bytes at kind → Told bytes at kind
  nothing : bytes ≡ [] → at ≡ 0 → kind ≡ kinds.Cut → Told bytes at kind
  strays : JumpsAstray bytes at → kind ≡ kinds.Jump → Told bytes at kind

told : (bytes : List ℕ) (at : ℕ) (kind : CodeKind) → kind ≢ kinds.Memory → FaultAt bytes at kind → Told bytes at kind
told bytes at kinds.Opcode h f = stopped f
told bytes at kinds.Cut h (inl e) = nothing e.0 e.1 refl
told bytes at kinds.Cut h (inr f) = stopped f
told bytes at kinds.Shape h f = stopped f
told bytes at kinds.Jump h f = strays f refl
told bytes at kinds.Memory h f = absurd (h refl)

-- whole instructions that the reading stops at aren't all of the bytes
stops_before_end : (bytes : List ℕ) (at : ℕ) (kind : CodeKind) (is : List Instr) → StopsAt bytes at kind → AllByRecursion Fits is → bytes ≡ flat_map bytes_of is ++ [] → ⊥
stops_before_end bytes at kind is f fits e =
    let p = one_parse f.1.front is f.0 [] f.1.fits fits (stuck kind f.0 f.2) stuck_end (sym f.1.parts ∙ e) in
    let none : length f.0 ≡ 0 = ap length p.1 in
    let some = not_empty kind f.0 f.2 in
    absurd (omega arith)

whole : (bytes : List ℕ) (at : ℕ) (f : JumpsAstray bytes at) → bytes ≡ flat_map bytes_of f.raws ++ []
whole bytes at f = f.parts ∙ sym (append-nil (flat_map bytes_of f.raws))

strays_nowhere : (n : ℕ) → IsAstray [] n → ⊥
strays_nowhere n h = let t = h.here in absurd cc

no_raws : (is : List Instr) → AllByRecursion Fits is → [] ≡ flat_map bytes_of is → is ≡ []
no_raws [] h e = refl
no_raws (x ∷ xs) h e = let s = size-within x h.0 in absurd (omega (arith, ap length e, length-append (bytes_of x) (flat_map bytes_of xs)))

-- where two ways stand, they are one
same_offset : (bytes : List ℕ) (p q : ℕ) (k l : CodeKind) → Told bytes p k → Told bytes q l → (p ≡ q) × (k ≡ l)
same_offset bytes p q k l (stopped f) (stopped g) =
    let same = one_parse f.1.front g.1.front f.0 g.0 f.1.fits g.1.fits (stuck k f.0 f.2) (stuck l g.0 g.2) (sym f.1.parts ∙ g.1.parts) in
    (f.1.here ∙ ap (λ (t : List Instr). length (flat_map bytes_of t)) same.0 ∙ sym g.1.here, one_kind k l f.0 f.2 (subst (Stops l) (sym same.1) g.2))
same_offset bytes p q k l (stopped f) (nothing e at kind) = absurd (stops_before_end bytes p k [] f tt e)
same_offset bytes p q k l (stopped f) (strays g kind) = absurd (stops_before_end bytes p k g.raws f g.fits (whole bytes q g))
same_offset bytes p q k l (nothing e at kind) (stopped g) = absurd (stops_before_end bytes q l [] g tt e)
same_offset bytes p q k l (nothing e at kind) (nothing e' at' kind') = (at ∙ sym at', kind ∙ sym kind')
same_offset bytes p q k l (nothing e at kind) (strays g kind') =
    absurd (strays_nowhere g.n (subst (λ (t : List Instr). IsAstray t g.n) (no_raws g.raws g.fits (sym e ∙ g.parts)) g.astray))
same_offset bytes p q k l (strays f kind) (stopped g) = absurd (stops_before_end bytes q l f.raws g f.fits (whole bytes p f))
same_offset bytes p q k l (strays f kind) (nothing e at kind') =
    absurd (strays_nowhere f.n (subst (λ (t : List Instr). IsAstray t f.n) (no_raws f.raws f.fits (sym e ∙ f.parts)) f.astray))
same_offset bytes p q k l (strays f kind) (strays g kind') =
    let same = (one_parse f.raws g.raws [] [] f.fits g.fits stuck_end stuck_end (sym (whole bytes p f) ∙ whole bytes q g)).0 in
    let n : f.n ≡ g.n = elim (cases_lt f.n g.n) [
      | inl lt ↦ absurd (g.first f.n lt (subst (λ (t : List Instr). IsAstray t f.n) same f.astray))
      | inr le ↦ elim (cases_lt g.n f.n) [
        | inl lt ↦ absurd (f.first g.n lt (subst (λ (t : List Instr). IsAstray t g.n) (sym same) g.astray))
        | inr ge ↦ omega arith
      ]
    ] in
    (f.here ∙ ap (λ (t : List Instr). offset t f.n) same ∙ ap (offset g.raws) n ∙ sym g.here, kind ∙ sym kind')

pub one_fault : (bytes : List ℕ) (f g : CodeFault) → IsFault bytes f → IsFault bytes g → f.kind ≢ kinds.Memory → g.kind ≢ kinds.Memory → f ≡ g
one_fault bytes f g h k nf ng =
    let same = same_offset bytes f.at g.at f.kind g.kind (told bytes f.at f.kind nf h) (told bytes g.at g.kind ng k) in
    let made : ℕ → CodeKind → CodeFault = λ p q. record { at = p; kind = q } in
    ap (λ (t : ℕ). made t f.kind) same.0 ∙ ap (λ (t : CodeKind). made g.at t) same.1

not_code_by : (bytes : List ℕ) (at : ℕ) (kind : CodeKind) (code : List Instr) → Told bytes at kind → IsCode code → bytes ≡ code_bytes code → ⊥
not_code_by bytes at kind code (stopped f) h e = stops_before_end bytes at kind (raws code) f h.fits (e ∙ code_bytes-is code)
not_code_by bytes at kind code (nothing z p q) h e =
    let none = no_raws (raws code) h.fits (sym z ∙ e ∙ code_bytes-is code ∙ append-nil (flat_map bytes_of (raws code))) in
    let some = h.some in
    absurd (omega (arith, ap length none, length-with_offsets code 0 code))
not_code_by bytes at kind code (strays f q) h e =
    let same = (one_parse f.raws (raws code) [] [] f.fits h.fits stuck_end stuck_end (sym (whole bytes at f) ∙ e ∙ code_bytes-is code)).0 in
    none_astray code f.n h (subst (λ (t : List Instr). IsAstray t f.n) same f.astray)

pub not_code : (bytes : List ℕ) (f : CodeFault) (code : List Instr) → IsFault bytes f → f.kind ≢ kinds.Memory → IsCode code → bytes ≢ code_bytes code
not_code bytes f code h nf ok e = not_code_by bytes f.at f.kind code (told bytes f.at f.kind nf h) ok e

-- ---- what was read

memory_or : (kind : CodeKind) → (kind ≡ kinds.Memory) ⊎ (kind ≢ kinds.Memory)
memory_or kinds.Memory = inl refl
memory_or kinds.Opcode = inr (λ e. absurd cc)
memory_or kinds.Cut = inr (λ e. absurd cc)
memory_or kinds.Jump = inr (λ e. absurd cc)
memory_or kinds.Shape = inr (λ e. absurd cc)

abbrev memory : CodeFault
memory = record { at = 0; kind = kinds.Memory }

memory_at : (f : CodeFault) → f.kind ≡ kinds.Memory → f.at ≡ 0 → f ≡ memory
memory_at f k a =
    let made : ℕ → CodeKind → CodeFault = λ p q. record { at = p; kind = q } in
    ap (λ (t : ℕ). made t f.kind) a ∙ ap (λ (t : CodeKind). made 0 t) k

-- what was read is all that the bytes say
pub only : {V : Type 0} (items : V → List Instr) (bytes : List ℕ) (r : Result V CodeFault) (code : List Instr) → IfOk r (λ read. IsCode (items read) × (bytes ≡ code_bytes (items read)))
    → IfErr r (IsFault bytes) → IsCode code → bytes ≡ code_bytes code → MatchResult r (λ read. items read ≡ code) (λ f. f ≡ memory)
only items bytes (Ok read) code found faults h e = one_code (items read) code found.0 h (sym found.1 ∙ e)
only items bytes (Err f) code found faults h e =
    elim (memory_or f.kind) [
      | inl k ↦ memory_at f k (subst (FaultAt bytes f.at) k faults)
      | inr k ↦ absurd (not_code bytes f code faults k h e)
    ]

some_raws : (bytes : List ℕ) (rs : List Instr) (starts : List ℕ) → 1 ≤ length bytes → AreRaws bytes rs starts [] → 1 ≤ length rs
some_raws bytes [] starts some h = absurd (omega (arith, ap length h.parts))
some_raws bytes (x ∷ xs) starts some h = omega arith

-- the code that was found
pub found : (bytes : List ℕ) (rs : List Instr) (starts : List ℕ) (code : List Instr) → 1 ≤ length bytes → AreRaws bytes rs starts [] → AreSettled rs (length rs) code
    → IsCode code × (bytes ≡ code_bytes code)
found bytes rs starts code some h s =
    let c = settled-code rs code (some_raws bytes rs starts some h) h.fits s in
    (c.0, h.parts ∙ append-nil (flat_map bytes_of rs) ∙ c.1)

-- a list that was changed in place, as its owner holds it
pub written_back : {A : Type 0} (old new : List A) (n : ℕ) → length new ≡ length old → n ≡ length old → take n (new ++ drop (length new) old) ≡ new
written_back old new n long e =
    ap (λ l. take n (new ++ l)) (drop_all (length new) old (omega arith)) ∙ ap (take n) (append-nil new) ∙ take_all n new (omega arith)
