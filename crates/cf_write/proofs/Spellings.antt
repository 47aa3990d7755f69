-- What spells a file is its spelling, and its numbers fit.
use Rattle.std.proofs.Common.{◌≡◌, ℕ, ◌+◌, ◌<◌, List, [], ◌∷◌, ◌++◌, length, map, Option, None, Some, refl, sym, ap, subst, ◌∙◌, arith}
use Rattle.std.specs.List.{flat_map, AllByRecursion}
use Rattle.std.proofs.lemmas.List.{length-map, append-nil}
use Rattle.std.proofs.lemmas.List.Folds.{flat_map-map}
use Rattle.cf_form.specs.Pool.{u2, u4, constant_bytes, ConstantFits, entries_of, pool_of, Fits2}
use Rattle.cf_form.specs.Outline.{Attribute, Member, row_bytes, counted, attribute_bytes, member_bytes, Outline}
use Rattle.cf_form.specs.ClassFiles.{HoldsCode, HasCodeOrNone, IsOther, IsField, IsMethod, Each, row_of, HandlerFits, IsFirstCodeName, IsBare, HasNone, HasCodeAlone, ReadsBy, IsPlain, Spelled}
use Rattle.cf_form.specs.declared.class_file.ClassFile.{ClassFile}
use Rattle.cf_form.specs.declared.class_file.FieldInfo.{FieldInfo}
use Rattle.cf_form.specs.declared.class_file.MethodInfo.{MethodInfo}
use Rattle.cf_form.specs.declared.code.Code.{Code}
use Rattle.cf_form.specs.declared.code.Handler.{Handler}
use Rattle.cf_form.specs.declared.constant.Const.{Const}
use Rattle.cf_form.specs.declared.constant.Const.TheVariants.{Utf8, Int, Float, Long, Double, Class, Text, Field, Method, Interface, NameType, Rest}
use Rattle.cf_write.specs.Spelling.{first_code, field_bytes, handler_bytes, code_info, attributes_bytes, method_bytes, spelling}
use Rattle.cf_write.specs.Writable.{TextFits, HandlerIsWithin, CodeIsWritable, CodeIsWritableOrNone, MethodIsWritable, IsWritable}
use Rattle.cf_write.proofs.Bare.{bare}
use Rattle.cf_write.proofs.CodeNames.{first_found}
use Rattle.cf_write.proofs.Offsets.{code-length}

-- ---- the pool

-- the second entry of a constant has no byte
entries_bytes : (c : Const) (pool : List Const) → flat_map constant_bytes (entries_of c ++ pool) ≡ constant_bytes c ++ flat_map constant_bytes pool
entries_bytes (Utf8 text) pool = refl
entries_bytes (Int x) pool = refl
entries_bytes (Float x) pool = refl
entries_bytes (Long x) pool = refl
entries_bytes (Double x) pool = refl
entries_bytes (Class x) pool = refl
entries_bytes (Text x) pool = refl
entries_bytes (Field x y) pool = refl
entries_bytes (Method x y) pool = refl
entries_bytes (Interface x y) pool = refl
entries_bytes (NameType x y) pool = refl
entries_bytes Rest pool = refl

pool_bytes : (cs : List Const) → flat_map constant_bytes (pool_of cs) ≡ flat_map constant_bytes cs
pool_bytes [] = refl
pool_bytes (c ∷ cs) = entries_bytes c (pool_of cs) ∙ ap (λ l. constant_bytes c ++ l) (pool_bytes cs)

entries_texts : (c : Const) (pool : List Const) → ConstantFits c → AllByRecursion TextFits pool → AllByRecursion TextFits (entries_of c ++ pool)
entries_texts (Utf8 text) pool f h = (f.1, h)
entries_texts (Int x) pool f h = (tt, h)
entries_texts (Float x) pool f h = (tt, h)
entries_texts (Long x) pool f h = (tt, (tt, h))
entries_texts (Double x) pool f h = (tt, (tt, h))
entries_texts (Class x) pool f h = (tt, h)
entries_texts (Text x) pool f h = (tt, h)
entries_texts (Field x y) pool f h = (tt, h)
entries_texts (Method x y) pool f h = (tt, h)
entries_texts (Interface x y) pool f h = (tt, h)
entries_texts (NameType x y) pool f h = (tt, h)
entries_texts Rest pool f h = absurd f

pool_texts : (cs : List Const) → AllByRecursion ConstantFits cs → AllByRecursion TextFits (pool_of cs)
pool_texts [] h = tt
pool_texts (c ∷ cs) h = entries_texts c (pool_of cs) h.0 (pool_texts cs h.1)

-- ---- lists of members

-- as many are there on both sides
each_length : {A B : Type 0} (P : A → B → Type 0) (xs : List A) (ys : List B) → Each P xs ys → length xs ≡ length ys
each_length P [] [] h = refl
each_length P [] (y ∷ ys) h = absurd h
each_length P (x ∷ xs) [] h = absurd h
each_length P (x ∷ xs) (y ∷ ys) h = let e = each_length P xs ys h.1 in omega arith

-- and the bytes of both are the same where they are of each two
each_bytes : {A B : Type 0} (P : A → B → Type 0) (Q : A → Type 0) (f : A → List ℕ) (g : B → List ℕ)
    → ((x : A) (y : B) → P x y → Q x → f x ≡ g y) → (xs : List A) (ys : List B) → Each P xs ys → AllByRecursion Q xs
    → flat_map f xs ≡ flat_map g ys
each_bytes P Q f g k [] [] h q = refl
each_bytes P Q f g k [] (y ∷ ys) h q = absurd h
each_bytes P Q f g k (x ∷ xs) [] h q = absurd h
each_bytes P Q f g k (x ∷ xs) (y ∷ ys) h q =
    let here = k x y h.0 q.0 in
    let later = each_bytes P Q f g k xs ys h.1 q.1 in
    (λ i. here i ++ later i)

-- what follows for each on the right
each_right : {A B : Type 0} (P : A → B → Type 0) (Q : A → Type 0) (R : B → Type 0)
    → ((x : A) (y : B) → P x y → Q x → R y) → (xs : List A) (ys : List B) → Each P xs ys → AllByRecursion Q xs → AllByRecursion R ys
each_right P Q R k [] [] h q = tt
each_right P Q R k [] (y ∷ ys) h q = absurd h
each_right P Q R k (x ∷ xs) [] h q = absurd h
each_right P Q R k (x ∷ xs) (y ∷ ys) h q = (k x y h.0 q.0, each_right P Q R k xs ys h.1 q.1)

both : {A : Type 0} (P Q : A → Type 0) (xs : List A) → AllByRecursion P xs → AllByRecursion Q xs → AllByRecursion (λ x. P x × Q x) xs
both P Q [] p q = tt
both P Q (x ∷ xs) p q = ((p.0, q.0), both P Q xs p.1 q.1)

counted_same : {A B : Type 0} (f : A → List ℕ) (g : B → List ℕ) (xs : List A) (ys : List B) → length xs ≡ length ys
    → flat_map f xs ≡ flat_map g ys → counted f xs ≡ counted g ys
counted_same f g xs ys l e = λ i. u2 (l i) ++ e i

-- ---- fields

field_same : (m : Member) (f : FieldInfo) → IsField m f → HasNone m → member_bytes m ≡ field_bytes f
field_same m f h n =
    λ i. u2 (h.0 i) ++ u2 (h.1 i) ++ u2 (h.2 i) ++ counted attribute_bytes (n i)

fields_same : (xs : List Member) (ys : List FieldInfo) → Each IsField xs ys → AllByRecursion HasNone xs
    → counted member_bytes xs ≡ counted field_bytes ys
fields_same xs ys h n =
    counted_same member_bytes field_bytes xs ys (each_length IsField xs ys h)
    (each_bytes IsField HasNone member_bytes field_bytes field_same xs ys h n)

-- ---- the attributes of methods

-- none is no Code, and each is one: there is none
none_apart : (pool : List Const) (xs : List Attribute) → AllByRecursion (IsOther pool) xs
    → AllByRecursion (λ (a : Attribute). IsFirstCodeName pool a.name × IsBare a.info) xs → xs ≡ []
none_apart pool [] o h = refl
none_apart pool (a ∷ xs) o h = absurd (o.0 h.0.0.0)

-- so Code stands alone
alone : (pool : List Const) (before : List Attribute) (a : Attribute) (after : List Attribute) → AllByRecursion (IsOther pool) (before ++ after)
    → AllByRecursion (λ (a : Attribute). IsFirstCodeName pool a.name × IsBare a.info) (before ++ a ∷ after)
    → (before ++ a ∷ after ≡ a ∷ []) × IsFirstCodeName pool a.name × IsBare a.info
alone pool [] a after o h = let e = none_apart pool after o h.1 in (ap (λ l. a ∷ l) e, h.0.0, h.0.1)
alone pool (x ∷ xs) a after o h = absurd (o.0 h.0.0.0)

-- the bytes of a Code attribute
info_same : (pool : List Const) (info : List ℕ) (code : Code) → HoldsCode pool info code → IsBare info → info ≡ code_info code
unfolding code_info
info_same pool info code h b =
    let none = bare b.0 h.outline b.1 h.fits (sym b.2 ∙ h.bytes) b.3 in
    let rows : counted row_bytes h.outline.rows ≡ counted (handler_bytes code.instrs) code.handlers =
    ap (counted row_bytes) h.rows
    ∙ counted_same row_bytes (handler_bytes code.instrs) (map (row_of code.instrs) code.handlers) code.handlers
    (length-map code.handlers (row_of code.instrs)) (flat_map-map row_bytes (row_of code.instrs) code.handlers) in
    h.bytes ∙ (λ i. u2 (h.max_stack i) ++ u2 (h.max_locals i) ++ u4 (length (h.instrs i)) ++ h.instrs i ++ rows i
    ++ counted attribute_bytes (none i))

attributes_same : (pool : List Const) (xs : List Attribute) (code : Option Code) → HasCodeOrNone pool xs code
    → AllByRecursion (λ (a : Attribute). IsFirstCodeName pool a.name × IsBare a.info) xs
    → counted attribute_bytes xs ≡ attributes_bytes (first_code pool) code
attributes_same pool xs None o h = ap (counted attribute_bytes) (none_apart pool xs o h)
attributes_same pool xs (Some code) c h =
    let stands = alone pool c.before c.attribute c.after c.others (subst (AllByRecursion (λ (a : Attribute). IsFirstCodeName pool a.name × IsBare a.info)) c.are h) in
    let name = first_found pool c.attribute.name stands.1 in
    let info = info_same pool c.attribute.info code c.holds stands.2 in
    ap (counted attribute_bytes) (c.are ∙ stands.0) ∙ ap (λ l. u2 1 ++ l) (append-nil (attribute_bytes c.attribute))
    ∙ (λ i. u2 1 ++ u2 (name i) ++ u4 (length (info i)) ++ info i)

method_same : (pool : List Const) (m : Member) (i : MethodInfo) → IsMethod pool m i → HasCodeAlone pool m
    → member_bytes m ≡ method_bytes (first_code pool) i
method_same pool m i h a =
    let attributes = attributes_same pool m.attributes i.code h.4 a in
    λ j. u2 (h.0 j) ++ u2 (h.1 j) ++ u2 (h.2 j) ++ attributes j

methods_same : (pool : List Const) (xs : List Member) (ys : List MethodInfo) → Each (IsMethod pool) xs ys → AllByRecursion (HasCodeAlone pool) xs
    → counted member_bytes xs ≡ counted (method_bytes (first_code pool)) ys
methods_same pool xs ys h n =
    counted_same member_bytes (method_bytes (first_code pool)) xs ys (each_length (IsMethod pool) xs ys h)
    (each_bytes (IsMethod pool) (HasCodeAlone pool) member_bytes (method_bytes (first_code pool)) (method_same pool) xs ys h n)

-- ---- files

pub spelled_is : (file : ClassFile) (bytes : List ℕ) → Spelled file bytes → bytes ≡ spelling file
unfolding spelling
spelled_is file bytes s =
    let o : Outline = s.0 in
    let r : ReadsBy o bytes file = s.1 in
    let p : IsPlain o = s.2 in
    let says = r.says in
    let pool = sym (pool_bytes o.constants) ∙ ap (flat_map constant_bytes) says.pool in
    let fields = fields_same o.fields file.fields says.fields p.fields in
    let methods = methods_same file.pool o.methods file.methods says.methods
    (subst (λ l. AllByRecursion (HasCodeAlone l) o.methods) says.pool p.methods) in
    r.is_spelled ∙ (λ i. (0xCA ∷ 0xFE ∷ 0xBA ∷ 0xBE ∷ u2 (says.minor i) ++ u2 (says.major i)
    ++ u2 (1 + length (says.pool i)) ++ pool i)
    ++ u2 (says.access i) ++ u2 (says.this i) ++ u2 (says.parent i) ++ counted u2 (says.interfaces i)
    ++ fields i ++ methods i ++ counted attribute_bytes (p.attributes i))

pub one_spelling : (file : ClassFile) (one other : List ℕ) → Spelled file one → Spelled file other → one ≡ other
one_spelling file one other s t = spelled_is file one s ∙ sym (spelled_is file other t)

-- ---- numbers that fit

within : (pool : List Const) (n : ℕ) (hs : List Handler) → AllByRecursion (HandlerFits pool n) hs → AllByRecursion (HandlerIsWithin n) hs
within pool n [] f = tt
within pool n (h ∷ hs) f = ((f.0.0, f.0.1, f.0.2), within pool n hs f.1)

holds_writable : (pool : List Const) (info : List ℕ) (code : Code) → HoldsCode pool info code → CodeIsWritable code
holds_writable pool info code h = record {
  is_code = h.is_code;
  most = let l = ap length h.instrs in let e = code-length code.instrs in omega (arith, h.fits.most);
  count = subst (λ n. n < 65536) (ap length h.rows ∙ length-map code.handlers (row_of code.instrs)) h.fits.rows.0;
  handlers = within pool (length code.instrs) code.handlers h.handlers;
}

code_writable : (pool : List Const) (xs : List Attribute) (code : Option Code) → HasCodeOrNone pool xs code → CodeIsWritableOrNone code
code_writable pool xs None h = tt
code_writable pool xs (Some code) h = holds_writable pool h.attribute.info code h.holds

method_writable : (pool : List Const) (m : Member) (i : MethodInfo) → IsMethod pool m i → HasCodeAlone pool m → MethodIsWritable i
method_writable pool m i h a = code_writable pool m.attributes i.code h.4

pub writable : (file : ClassFile) (bytes : List ℕ) → Spelled file bytes → IsWritable file
writable file bytes s =
    let o : Outline = s.0 in
    let r : ReadsBy o bytes file = s.1 in
    let p : IsPlain o = s.2 in
    let says = r.says in
    let f = r.fits in
    record {
      count = subst (λ l. Fits2 (1 + length l)) says.pool f.count;
      texts = subst (AllByRecursion TextFits) says.pool (pool_texts o.constants f.constants);
      interfaces = subst (λ l. Fits2 (length l)) says.interfaces f.interfaces.0;
      fields = subst Fits2 (each_length IsField o.fields file.fields says.fields) f.fields.0;
      methods = subst Fits2 (each_length (IsMethod file.pool) o.methods file.methods says.methods) f.methods.0;
      codes = each_right (IsMethod file.pool) (HasCodeAlone file.pool) MethodIsWritable (method_writable file.pool) o.methods file.methods says.methods
          (subst (λ l. AllByRecursion (HasCodeAlone l) o.methods) says.pool p.methods);
    }
