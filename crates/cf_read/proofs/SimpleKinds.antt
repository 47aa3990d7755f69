-- What the kind of a fault tells of the bytes, where it is Magic, Version, Cut or Rest.
use Rattle.std.proofs.Common.{◌≡◌, refl, sym, ap, ◌∙◌, subst, ℕ, ◌+◌, ◌<◌, ◌≤◌, inl, inr, List, [], ◌∷◌, ◌++◌, length, take, drop, Result, Ok, Err, Bool, true, false, length-drop, length-append, arith}
use Rattle.std.specs.Prelude.{nat_lt, ◌==◌, ◌↔◌, if◌then◌else◌}
use Rattle.std.specs.Int.{w16, w32, from_be_bytes}
use Rattle.std.specs.List.{AllByRecursion}
use Rattle.std.proofs.lemmas.Bool.{cond_both, ltb-false, le-ltb, eqb-true, eq-eqb, ne_eqb}
use Rattle.std.proofs.lemmas.List.{drop-drop}
use Rattle.cf_form.specs.ClassFiles.{is_version, Reads}
use Rattle.cf_form.specs.declared.class_file.ClassFile.{ClassFile}
use Rattle.cf_form.specs.declared.constant.Const.{Const}
use Rattle.cf_form.specs.declared.instr.Instr.{Instr}
use Rattle.cf_form.specs.declared.kind.Kind.TheVariants as kind
use Rattle.cf_form.specs.Outline.{Row}
use Rattle.cf_read.specs.Codes.{IsBad, Refused, Unnamed, Table, IsBadRow, From, To, Target, Caught}
use Rattle.cf_read.specs.FileFaults.{IsMet, IsFileFault, magic_of, HasOtherMagic, HasOtherVersion}
use Rattle.cf_read.specs.Reading.{Read, ◌>>=◌, refused, demand, some_at, u2_at, u4_at, magic_at, version_at, pool_at, all_references_at, head_at, index_at, interfaces_at, fields_at, methods_at, attributes_at, Found, FileOutline, outline_of}
use Rattle.cf_read.specs.declared.fault.Fault.{Fault}
use Rattle.cf_read.specs.declared.file_fault.FileKind.{FileKind}
use Rattle.cf_read.specs.declared.file_fault.FileKind.TheVariants as fault
use Rattle.cf_read.proofs.Again.{bind_at, demand_at}
use Rattle.cf_read.proofs.AgainFile.{outline_to}
use Rattle.cf_read.proofs.Bounds.{Plain, Held, held_bind, Any, MethodFits, u2_held, pool_held, index_held, all_references_held, interfaces_held, fields_held, methods_held, attributes_held}

-- what a fault of this kind with so many bytes left tells of all the bytes
abbrev pub Told : List ℕ → FileKind → ℕ → Type 0
Told bytes fault.Magic left = (left ≡ length bytes) × HasOtherMagic bytes
Told bytes fault.Version left = (6 + left ≡ length bytes) × HasOtherVersion bytes
Told bytes fault.Cut left = left ≡ 0
Told bytes fault.Rest left = 1 ≤ left
Told bytes _ left = Unit {0}

plain_told : (bytes : List ℕ) (k : FileKind) (left : ℕ) → Plain k left → Told bytes k left
plain_told bytes fault.Magic left h = absurd h
plain_told bytes fault.Version left h = absurd h
plain_told bytes fault.Cut left h = h
plain_told bytes fault.Rest left h = absurd h
plain_told bytes fault.Tag left h = tt
plain_told bytes fault.Index left h = tt
plain_told bytes fault.Utf left h = tt
plain_told bytes fault.Code left h = tt
plain_told bytes fault.Double left h = tt
plain_told bytes fault.Memory left h = tt

-- what was read of all the bytes has the property, or the fault lies within them and tells what its kind tells
abbrev pub Met : {A : Type 0} → (A → Type 0) → List ℕ → Result A Fault → Type 0
Met P bytes (Ok x) = P x
Met P bytes (Err f) = (f.left ≤ length bytes) × Told bytes f.kind f.left

met_bind : {A B : Type 0} (P : A → Type 0) (Q : B → Type 0) (bytes : List ℕ) (r : Result A Fault) (g : A → Result B Fault) → Met P bytes r → ((x : A) → P x → Met Q bytes (g x)) → Met Q bytes (r >>= g)
met_bind P Q bytes (Ok x) g h k = k x h
met_bind P Q bytes (Err f) g h k = h

met_held : {A B : Type 0} (P : A → Type 0) (Q : B → Type 0) (bytes : List ℕ) (r : Result A Fault) (g : A → Result B Fault) → Held P (length bytes) r → ((x : A) → P x → Met Q bytes (g x)) → Met Q bytes (r >>= g)
met_held P Q bytes (Ok x) g h k = k x h
met_held P Q bytes (Err f) g h k = (h.0, plain_told bytes f.kind f.left h.1)

met_demand : {B : Type 0} (Q : B → Type 0) (bytes : List ℕ) (b : Bool) (k : FileKind) (from : List ℕ) (g : Unit {0} → Result B Fault) → (b ≡ true → Met Q bytes (g tt))
    → (b ≡ false → (length from ≤ length bytes) × Told bytes k (length from)) → Met Q bytes (demand b k from >>= g)
met_demand Q bytes true k from g good bad = good refl
met_demand Q bytes false k from g good bad = bad refl

-- ---- numbers, by the bytes that they are

abbrev IsSome : ℕ → List ℕ → List ℕ × List ℕ → Type 0
IsSome count bytes x = (x.0 ≡ take count bytes) × (x.1 ≡ drop count bytes) × (count ≤ length bytes)

some_is : (n count : ℕ) (bytes : List ℕ) → Held (IsSome count bytes) n (some_at count bytes)
unfolding some_at
some_is n count bytes = cond_both (nat_lt (length bytes) count) _ _ (Held (IsSome count bytes) n) (λ e. (omega arith, refl)) (λ e. (refl, refl, ltb-false (length bytes) count e))

abbrev IsTwo : List ℕ → ℕ × List ℕ → Type 0
IsTwo bytes x = (x.0 ≡ from_be_bytes w16 (take 2 bytes)) × (x.1 ≡ drop 2 bytes) × (2 ≤ length bytes)

u2_is : (n : ℕ) (bytes : List ℕ) → Held (IsTwo bytes) n (u2_at bytes)
unfolding u2_at
u2_is n bytes = held_bind _ (IsTwo bytes) n (some_at 2 bytes) _ (some_is n 2 bytes) (λ x p. (ap (from_be_bytes w16) p.0, p.1, p.2))

abbrev IsFour : List ℕ → ℕ × List ℕ → Type 0
IsFour bytes x = (x.0 ≡ magic_of bytes) × (x.1 ≡ drop 4 bytes) × (4 ≤ length bytes)

u4_is : (n : ℕ) (bytes : List ℕ) → Held (IsFour bytes) n (u4_at bytes)
unfolding u4_at
u4_is n bytes = held_bind _ (IsFour bytes) n (some_at 4 bytes) _ (some_is n 4 bytes) (λ x p. (ap (from_be_bytes w32) p.0, p.1, p.2))

-- ---- the head

abbrev HasMagic : List ℕ → Unit {0} × List ℕ → Type 0
HasMagic bytes x = (x.1 ≡ drop 4 bytes) × (4 ≤ length bytes) × (magic_of bytes ≡ 0xCAFEBABE)

magic_met : (bytes : List ℕ) → Met (HasMagic bytes) bytes (magic_at bytes)
unfolding magic_at
magic_met bytes =
    met_held _ (HasMagic bytes) bytes (u4_at bytes) _ (u4_is (length bytes) bytes) (λ x p.
    met_demand (HasMagic bytes) bytes (x.0 == 0xCAFEBABE) fault.Magic bytes _ (λ e. (p.1, p.2, sym p.0 ∙ eqb-true x.0 0xCAFEBABE e))
    (λ e. (omega arith, (refl, record { four = p.2; other = λ same. let t = eq-eqb x.0 0xCAFEBABE (p.0 ∙ same) in absurd cc }))))

abbrev IsShorter : {A : Type 0} → List ℕ → A × List ℕ → Type 0
IsShorter bytes x = length x.1 ≤ length bytes

version_met : (bytes : List ℕ) → 4 ≤ length bytes → magic_of bytes ≡ 0xCAFEBABE → Met (IsShorter bytes) bytes (version_at (drop 4 bytes))
unfolding version_at
version_met bytes four magic =
    met_held _ (IsShorter bytes) bytes (u2_at (drop 4 bytes)) _ (u2_is (length bytes) (drop 4 bytes)) (λ minor p.
    met_held _ (IsShorter bytes) bytes (u2_at minor.1) _ (u2_is (length bytes) minor.1) (λ major q.
    let six : minor.1 ≡ drop 6 bytes = p.1 ∙ drop-drop 2 4 bytes in
    let long : length minor.1 ≡ length (drop 6 bytes) = ap length six in
    let eight : 8 ≤ length bytes = omega (arith, long, length-drop 6 bytes, q.2) in
    met_demand (IsShorter bytes) bytes (is_version major.0) fault.Version minor.1 _ (λ e. omega (arith, ap length q.1, length-drop 2 minor.1, long, length-drop 6 bytes))
    (λ e. (
      omega (arith, long, length-drop 6 bytes),
      (
        omega (arith, long, length-drop 6 bytes, eight),
        record {
          eight = eight;
          magic = magic;
          other = ap is_version (ap (λ (l : List ℕ). from_be_bytes w16 (take 2 l)) (sym six) ∙ sym q.0) ∙ e;
        },
      ),
    ))))

head_met : (bytes : List ℕ) → Met (IsShorter bytes) bytes (head_at bytes)
unfolding head_at
head_met bytes =
    met_bind _ (IsShorter bytes) bytes (magic_at bytes) _ (magic_met bytes) (λ magic p.
    met_bind _ (IsShorter bytes) bytes (version_at magic.1) _ (subst (λ (l : List ℕ). Met (IsShorter bytes) bytes (version_at l)) (sym p.0) (version_met bytes p.1 p.2)) (λ version q.
    met_held _ (IsShorter bytes) bytes (pool_at version.1) _ (pool_held (length bytes) version.1 q) (λ pool r.
    met_held Any (IsShorter bytes) bytes (all_references_at pool.0 pool.0 (drop 2 version.1)) _
    (all_references_held pool.0 pool.0 (length bytes) (drop 2 version.1) (omega (arith, length-drop 2 version.1, q))) (λ y s. r.1))))

some_left : (l : List ℕ) → (length l == 0) ≡ false → 1 ≤ length l
some_left [] e = absurd cc
some_left (x ∷ xs) e = omega arith

pub outline_met : (bytes : List ℕ) → Met (λ o. AllByRecursion (MethodFits (length bytes)) o.methods) bytes (outline_of bytes)
unfolding outline_of
outline_met bytes =
    let n = length bytes in
    let Q = λ (o : FileOutline). AllByRecursion (MethodFits (length bytes)) o.methods in
    met_bind _ Q bytes (head_at bytes) _ (head_met bytes) (λ head p.
    met_held _ Q bytes (u2_at head.1) _ (u2_held n head.1 p) (λ access q.
    met_held _ Q bytes (index_at head.0.1 kind.Class access.1) _ (index_held head.0.1 kind.Class n access.1 q.1) (λ this r.
    met_held _ Q bytes (index_at head.0.1 kind.Class this.1) _ (index_held head.0.1 kind.Class n this.1 r.1) (λ parent s.
    met_held _ Q bytes (interfaces_at head.0.1 parent.1) _ (interfaces_held head.0.1 n parent.1 s.1) (λ interfaces t.
    met_held _ Q bytes (fields_at head.0.1 interfaces.1) _ (fields_held n head.0.1 interfaces.1 t.1) (λ fields u.
    met_held _ Q bytes (methods_at head.0.1 fields.1) _ (methods_held n head.0.1 fields.1 u.1) (λ methods v.
    met_held _ Q bytes (attributes_at methods.1) _ (attributes_held n methods.1 v.1) (λ attributes w.
    met_demand Q bytes (length attributes.1 == 0) fault.Rest attributes.1 _ (λ x. v.0) (λ e. (w.1, some_left attributes.1 e))))))))))

-- ---- any fault

row_told : (bytes : List ℕ) (pool : List Const) (code : List Instr) (row : Row) (k : FileKind) (within left : ℕ) → IsBadRow pool code row k within → Told bytes k left
row_told bytes pool code row k within left (From n) = tt
row_told bytes pool code row k within left (To a n) = tt
row_told bytes pool code row k within left (Target a b n) = tt
row_told bytes pool code row k within left (Caught a b c n) = tt

bad_told : (bytes : List ℕ) (pool : List Const) (found : Found) (f : Fault) → IsBad pool found f → Told bytes f.kind f.left
bad_told bytes pool found f (Refused at b) = tt
bad_told bytes pool found f (Unnamed at b) = tt
bad_told bytes pool found f (Table code a b c k at d) = row_told bytes pool code d.row k d.within f.left d.bad

met_told : (bytes : List ℕ) (f : Fault) → IsMet bytes f → Told bytes f.kind f.left
met_told bytes f (inl e) = (subst (Met (λ o. AllByRecursion (MethodFits (length bytes)) o.methods) bytes) e (outline_met bytes)).1
met_told bytes f (inr h) = bad_told bytes h.0.pool h.2.found f h.2.bad

-- ---- each kind where it stands

bind_err : {A B : Type 0} (r : Result A Fault) (g : A → Result B Fault) (f : Fault) → r ≡ Err f → (r >>= g) ≡ Err f
bind_err r g f e = ap (λ s. s >>= g) e

demand_err : {B : Type 0} (b : Bool) (k : FileKind) (from : List ℕ) (g : Unit {0} → Result B Fault) → b ≡ false → (demand b k from >>= g) ≡ Err (record { kind = k; left = length from })
demand_err b k from g e = ap (λ c. demand c k from >>= g) e

some_whole : (n : ℕ) (bytes : List ℕ) → n ≤ length bytes → some_at n bytes ≡ Ok (take n bytes, drop n bytes)
unfolding some_at
some_whole n bytes le = ap (λ b. let r : Read (List ℕ) = if b then refused fault.Cut [] else Ok (take n bytes, drop n bytes) in r) (le-ltb (length bytes) n le)

u2_whole : (bytes : List ℕ) → 2 ≤ length bytes → u2_at bytes ≡ Ok (from_be_bytes w16 (take 2 bytes), drop 2 bytes)
unfolding u2_at
u2_whole bytes le = bind_at (some_at 2 bytes) (take 2 bytes, drop 2 bytes) _ (Ok (from_be_bytes w16 (take 2 bytes), drop 2 bytes)) (some_whole 2 bytes le) refl

u4_whole : (bytes : List ℕ) → 4 ≤ length bytes → u4_at bytes ≡ Ok (magic_of bytes, drop 4 bytes)
unfolding u4_at
u4_whole bytes le = bind_at (some_at 4 bytes) (take 4 bytes, drop 4 bytes) _ (Ok (magic_of bytes, drop 4 bytes)) (some_whole 4 bytes le) refl

other_magic : (bytes : List ℕ) → HasOtherMagic bytes → outline_of bytes ≡ Err (record { kind = fault.Magic; left = length bytes })
unfolding outline_of head_at magic_at
other_magic bytes h =
    let f : Fault = record { kind = fault.Magic; left = length bytes } in
    bind_err (head_at bytes) _ f (bind_err (magic_at bytes) _ f
    (bind_at (u4_at bytes) (magic_of bytes, drop 4 bytes) _ (Err f) (u4_whole bytes h.four)
    (demand_err (magic_of bytes == 0xCAFEBABE) fault.Magic bytes _ (ne_eqb (magic_of bytes) 0xCAFEBABE h.other))))

magic_whole : (bytes : List ℕ) → 4 ≤ length bytes → magic_of bytes ≡ 0xCAFEBABE → magic_at bytes ≡ Ok (tt, drop 4 bytes)
unfolding magic_at
magic_whole bytes le e =
    bind_at (u4_at bytes) (magic_of bytes, drop 4 bytes) _ (Ok (tt, drop 4 bytes)) (u4_whole bytes le)
    (demand_at (magic_of bytes == 0xCAFEBABE) fault.Magic bytes _ (Ok (tt, drop 4 bytes)) (eq-eqb (magic_of bytes) 0xCAFEBABE e) refl)

other_version : (bytes : List ℕ) → HasOtherVersion bytes → outline_of bytes ≡ Err (record { kind = fault.Version; left = length (drop 2 (drop 4 bytes)) })
unfolding outline_of head_at version_at
other_version bytes h =
    let from : List ℕ = drop 4 bytes in
    let from_major : List ℕ = drop 2 from in
    let f : Fault = record { kind = fault.Version; left = length from_major } in
    let four : 4 ≤ length bytes = let t = h.eight in omega arith in
    let long : 4 ≤ length from = let t = h.eight in omega (arith, length-drop 4 bytes) in
    let major : ℕ = from_be_bytes w16 (take 2 from_major) in
    let other : is_version major ≡ false = ap (λ (l : List ℕ). is_version (from_be_bytes w16 (take 2 l))) (drop-drop 2 4 bytes) ∙ h.other in
    bind_err (head_at bytes) _ f
    (bind_at (magic_at bytes) (tt, from) _ (Err f) (magic_whole bytes four h.magic)
    (bind_err (version_at from) _ f
    (bind_at (u2_at from) (from_be_bytes w16 (take 2 from), from_major) _ (Err f) (u2_whole from (omega (arith, long)))
    (bind_at (u2_at from_major) (major, drop 2 from_major) _ (Err f) (u2_whole from_major (omega (arith, length-drop 2 from, long)))
    (demand_err (is_version major) fault.Version from_major _ other)))))

pub magic_at_start : (bytes : List ℕ) (at : ℕ) → IsFileFault bytes (record { at = at; kind = fault.Magic }) ↔ ((at ≡ 0) × HasOtherMagic bytes)
magic_at_start bytes at = (
  λ h. let t = met_told bytes (record { kind = fault.Magic; left = h.0 }) h.1 in (omega (arith, t.0, h.2), t.1),
  λ h. (length bytes, inl (other_magic bytes h.1), omega (arith, h.0)),
)

pub version_at_six : (bytes : List ℕ) (at : ℕ) → IsFileFault bytes (record { at = at; kind = fault.Version }) ↔ ((at ≡ 6) × HasOtherVersion bytes)
version_at_six bytes at = (
  λ h. let t = met_told bytes (record { kind = fault.Version; left = h.0 }) h.1 in (omega (arith, t.0, h.2), t.1),
  λ h. (length (drop 2 (drop 4 bytes)), inl (other_version bytes h.1), (let t = h.1.eight in omega (arith, h.0, length-drop 4 bytes, length-drop 2 (drop 4 bytes)))),
)

pub cut_at_end : (bytes : List ℕ) (at : ℕ) → IsFileFault bytes (record { at = at; kind = fault.Cut }) → at ≡ length bytes
cut_at_end bytes at h = let t = met_told bytes (record { kind = fault.Cut; left = h.0 }) h.1 in omega (arith, t, h.2)

pub rest_before_end : (bytes : List ℕ) (at : ℕ) → IsFileFault bytes (record { at = at; kind = fault.Rest }) → at < length bytes
rest_before_end bytes at h = let t = met_told bytes (record { kind = fault.Rest; left = h.0 }) h.1 in omega (arith, t, h.2)

longer : (front more : List ℕ) (file : ClassFile) → Reads front file → 0 < length more → outline_of (front ++ more) ≡ Err (record { kind = fault.Rest; left = length more })
longer front more file r some =
    ap (λ b. outline_of (b ++ more)) r.1.is_spelled ∙ (outline_to r.0 file more r.1.fits r.1.says).read
    ∙ demand_err (length more == 0) fault.Rest more _ (ne_eqb (length more) 0 (λ e. absurd (omega (arith, e, some))))

pub rest_behind : (front more : List ℕ) (file : ClassFile) → Reads front file → 0 < length more → IsFileFault (front ++ more) (record { at = length front; kind = fault.Rest })
rest_behind front more file r some = (length more, inl (longer front more file r some), sym (length-append front more))
