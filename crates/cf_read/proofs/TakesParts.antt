-- What is read is spelled so: attributes that are passed over, codes, fields and methods.
use Rattle.std.proofs.Common.{◌≡◌, refl, sym, ap, ◌∙◌, subst, ℕ, zero, suc, ◌+◌, ◌^◌, ◌<◌, List, [], ◌∷◌, ◌++◌, length, Option, None, Some, Ok, Err, true, false, append_assoc, length-append, arith}
use Rattle.std.specs.Prelude.{◌≢◌, ◌==◌, ◌&&◌, not, nat_le, IsTrue}
use Rattle.std.specs.List.{flat_map, AllByRecursion}
use Rattle.std.proofs.lemmas.Bool.{and_parts, leb-true, eqb-true, not-true}
use Rattle.std.proofs.lemmas.Slice.Eq.{bytes_eq-Decides}
use Rattle.cf_form.specs.Pool.{u2, u4, Fits2, names, text_at}
use Rattle.cf_form.specs.ClassFiles.{IsOther, code_name}
use Rattle.cf_form.specs.Outline.{counted, AllFit, Attribute, attribute_bytes, AttributeFits, Row, row_bytes, RowFits, CodeOutline, code_outline_bytes, CodeOutlineFits}
use Rattle.cf_form.specs.declared.constant.Const.{Const}
use Rattle.cf_form.specs.declared.kind.Kind.{Kind}
use Rattle.cf_form.specs.declared.kind.Kind.TheVariants as kind
use Rattle.cf_read.specs.declared.file_fault.FileKind.TheVariants as fault
use Rattle.cf_read.specs.Reading.{Read, some_at, u2_at, u4_at, index_at, many_at, interfaces_at, info_at, passed_one_at, passed_at, attributes_at, row_at, Found, content_at, code_at, is_none, is_code_name, is_without_code, method_code_at, other_at, attribute_at, method_attributes_at}
use Rattle.cf_read.proofs.Takes.{Given, given_bind, given_demand, given_cond, IsBytes, Takes, then_takes, takes_text, NumberTaken, u2_takes, u4_takes, some_takes, SomeTaken}

-- an index that was read names an entry of the kind
abbrev pub IndexTaken : List Const → Kind → List ℕ → ℕ × List ℕ → Type 0
IndexTaken pool k bytes x = Takes bytes (u2 x.0) x.1 × Fits2 x.0 × IsTrue (names pool k x.0)

pub index_takes : (pool : List Const) (k : Kind) (bytes : List ℕ) → IsBytes bytes → Given (IndexTaken pool k bytes) (index_at pool k bytes)
unfolding index_at
index_takes pool k bytes h =
    given_bind _ (IndexTaken pool k bytes) (u2_at bytes) _ (u2_takes bytes h) (λ x p.
    given_demand (IndexTaken pool k bytes) (names pool k x.0) fault.Index bytes _ (λ e. (p.0, p.1, e)))

-- so many things of a kind
pub record ManyTaken {A : Type 0} (spell : A → List ℕ) (P : A → Type 0) (count : ℕ) (bytes : List ℕ) (x : List A × List ℕ) : Type 0 where
  pub takes : Takes bytes (flat_map spell x.0) x.1
  pub all : AllByRecursion P x.0
  pub many : length x.0 ≡ count

pub many_take : {A : Type 0} (spell : A → List ℕ) (P : A → Type 0) (one : List ℕ → Read A)
    → ((bytes : List ℕ) → IsBytes bytes → Given (λ x. Takes bytes (spell x.0) x.1 × P x.0) (one bytes))
    → (count : ℕ) (bytes : List ℕ) → IsBytes bytes → Given (ManyTaken spell P count bytes) (many_at one count bytes)
unfolding many_at
many_take spell P one f zero bytes h = record { takes = record { parts = refl; fits = h }; all = tt; many = refl }
many_take spell P one f (suc count) bytes h =
    let Q = ManyTaken spell P (suc count) bytes in
    given_bind _ Q (one bytes) _ (f bytes h) (λ x p.
    given_bind _ Q (many_at one count x.1) _ (many_take spell P one f count x.1 p.0.fits) (λ y q. record {
      takes = then_takes bytes (spell x.0) x.1 (flat_map spell y.0) y.1 p.0 q.takes;
      all = (p.1, q.all);
      many = ap suc q.many;
    }))

-- and after their count
abbrev pub CountedTaken : {A : Type 0} → (A → List ℕ) → (A → Type 0) → List ℕ → List A × List ℕ → Type 0
CountedTaken spell P bytes x = Takes bytes (counted spell x.0) x.1 × AllFit P x.0

pub counted_takes : {A : Type 0} (spell : A → List ℕ) (P : A → Type 0) (count n : ℕ) (bytes behind rest : List ℕ) (xs : List A) → Takes bytes (u2 count) behind → count < 2 ^ 16
    → Takes behind (flat_map spell xs) rest → length xs ≡ count → AllByRecursion P xs → Takes bytes (counted spell xs) rest × AllFit P xs
counted_takes spell P count n bytes behind rest xs t l m e all = (
  takes_text bytes _ _ rest (ap (λ k. u2 k ++ flat_map spell xs) (sym e)) (then_takes bytes (u2 count) behind (flat_map spell xs) rest t m),
  (omega (arith, e), all),
)

pub interfaces_take : (pool : List Const) (bytes : List ℕ) → IsBytes bytes
    → Given (CountedTaken u2 (λ i. Fits2 i × IsTrue (names pool kind.Class i)) bytes) (interfaces_at pool bytes)
unfolding interfaces_at
interfaces_take pool bytes h =
    let P = λ (i : ℕ). Fits2 i × IsTrue (names pool kind.Class i) in
    given_bind _ (CountedTaken u2 P bytes) (u2_at bytes) _ (u2_takes bytes h) (λ count p.
    moved count p (many_at (index_at pool kind.Class) count.0 count.1) (many_take u2 P (index_at pool kind.Class) (λ b g. one b (index_at pool kind.Class b) (index_takes pool kind.Class b g)) count.0 count.1 p.0.fits))
  where
    one : (b : List ℕ) (r : Read ℕ) → Given (IndexTaken pool kind.Class b) r → Given (λ x. Takes b (u2 x.0) x.1 × (Fits2 x.0 × IsTrue (names pool kind.Class x.0))) r
    one b (Ok x) q = (q.0, (q.1, q.2))
    one b (Err f) q = tt

    moved : (count : ℕ × List ℕ) → NumberTaken u2 (2 ^ 16) bytes count → (r : Read (List ℕ))
        → Given (ManyTaken u2 (λ i. Fits2 i × IsTrue (names pool kind.Class i)) count.0 count.1) r → Given (CountedTaken u2 (λ i. Fits2 i × IsTrue (names pool kind.Class i)) bytes) r
    moved count p (Ok x) q = counted_takes u2 (λ i. Fits2 i × IsTrue (names pool kind.Class i)) count.0 0 bytes count.1 x.1 x.0 p.0 p.1 q.takes q.many q.all
    moved count p (Err f) q = tt

-- ---- attributes

abbrev pub InfoTaken : List ℕ → List ℕ × List ℕ → Type 0
InfoTaken bytes x = Takes bytes (u4 (length x.0) ++ x.0) x.1 × (length x.0 < 2 ^ 32)

pub info_takes : (bytes : List ℕ) → IsBytes bytes → Given (InfoTaken bytes) (info_at bytes)
unfolding info_at
info_takes bytes h =
    given_bind _ (InfoTaken bytes) (u4_at bytes) _ (u4_takes bytes h) (λ count p. moved count p (some_at count.0 count.1) (some_takes count.0 count.1 p.0.fits))
  where
    moved : (count : ℕ × List ℕ) → NumberTaken u4 (2 ^ 32) bytes count → (r : Read (List ℕ)) → Given (SomeTaken count.0 count.1) r → Given (InfoTaken bytes) r
    moved count p (Ok x) q = (
      takes_text bytes _ _ x.1 (ap (λ k. u4 k ++ x.0) (sym q.1)) (then_takes bytes (u4 count.0) count.1 x.0 x.1 p.0 q.0),
      omega (arith, q.1, p.1),
    )
    moved count p (Err f) q = tt

-- an attribute of a name
pub named_info : (bytes behind rest info : List ℕ) (name : ℕ) → Takes bytes (u2 name) behind → name < 2 ^ 16 → Takes behind (u4 (length info) ++ info) rest → length info < 2 ^ 32
    → Takes bytes (attribute_bytes (record { name = name; info = info })) rest × AttributeFits (record { name = name; info = info })
named_info bytes behind rest info name t l q m = (
  takes_text bytes _ _ rest (sym (append_assoc (u2 name) (u4 (length info)) info)) (then_takes bytes (u2 name) behind (u4 (length info) ++ info) rest t q),
  (l, m),
)

pub record PassedOne (bytes : List ℕ) (x : Unit {0} × List ℕ) : Type 0 where
  pub attribute : Attribute
  pub takes : Takes bytes (attribute_bytes attribute) x.1
  pub fits : AttributeFits attribute

pub passed_one_takes : (bytes : List ℕ) → IsBytes bytes → Given (PassedOne bytes) (passed_one_at bytes)
unfolding passed_one_at
passed_one_takes bytes h =
    given_bind _ (PassedOne bytes) (u2_at bytes) _ (u2_takes bytes h) (λ name p.
    given_bind _ (PassedOne bytes) (info_at name.1) _ (info_takes name.1 p.0.fits) (λ info q.
    let both = named_info bytes name.1 info.1 info.0 name.0 p.0 p.1 q.0 q.1 in
    record { attribute = record { name = name.0; info = info.0 }; takes = both.0; fits = both.1 }))

pub record Passed (count : ℕ) (bytes : List ℕ) (x : Unit {0} × List ℕ) : Type 0 where
  pub attributes : List Attribute
  pub takes : Takes bytes (flat_map attribute_bytes attributes) x.1
  pub all : AllByRecursion AttributeFits attributes
  pub many : length attributes ≡ count

pub passed_takes : (count : ℕ) (bytes : List ℕ) → IsBytes bytes → Given (Passed count bytes) (passed_at count bytes)
unfolding passed_at
passed_takes zero bytes h = record { attributes = []; takes = record { parts = refl; fits = h }; all = tt; many = refl }
passed_takes (suc count) bytes h =
    given_bind _ (Passed (suc count) bytes) (passed_one_at bytes) _ (passed_one_takes bytes h) (λ x p.
    more x p (passed_at count x.1) (passed_takes count x.1 p.takes.fits))
  where
    more : (x : Unit {0} × List ℕ) → PassedOne bytes x → (r : Read (Unit {0})) → Given (Passed count x.1) r → Given (Passed (suc count) bytes) r
    more x p (Ok y) q = record {
      attributes = p.attribute ∷ q.attributes;
      takes = then_takes bytes (attribute_bytes p.attribute) x.1 (flat_map attribute_bytes q.attributes) y.1 p.takes q.takes;
      all = (p.fits, q.all);
      many = ap suc q.many;
    }
    more x p (Err f) q = tt

pub record PassedAll (bytes : List ℕ) (x : Unit {0} × List ℕ) : Type 0 where
  pub attributes : List Attribute
  pub takes : Takes bytes (counted attribute_bytes attributes) x.1
  pub fit : AllFit AttributeFits attributes

pub attributes_take : (bytes : List ℕ) → IsBytes bytes → Given (PassedAll bytes) (attributes_at bytes)
unfolding attributes_at
attributes_take bytes h =
    given_bind _ (PassedAll bytes) (u2_at bytes) _ (u2_takes bytes h) (λ count p. moved count p (passed_at count.0 count.1) (passed_takes count.0 count.1 p.0.fits))
  where
    moved : (count : ℕ × List ℕ) → NumberTaken u2 (2 ^ 16) bytes count → (r : Read (Unit {0})) → Given (Passed count.0 count.1) r → Given (PassedAll bytes) r
    moved count p (Ok x) q =
        let both = counted_takes attribute_bytes AttributeFits count.0 0 bytes count.1 x.1 q.attributes p.0 p.1 q.takes q.many q.all in
        record { attributes = q.attributes; takes = both.0; fit = both.1 }
    moved count p (Err f) q = tt

-- ---- codes

abbrev pub RowTaken : List ℕ → Row × List ℕ → Type 0
RowTaken bytes x = Takes bytes (row_bytes x.0) x.1 × RowFits x.0

pub row_takes : (bytes : List ℕ) → IsBytes bytes → Given (RowTaken bytes) (row_at bytes)
unfolding row_at
row_takes bytes h =
    let Q = RowTaken bytes in
    given_bind _ Q (u2_at bytes) _ (u2_takes bytes h) (λ a p.
    given_bind _ Q (u2_at a.1) _ (u2_takes a.1 p.0.fits) (λ b q.
    given_bind _ Q (u2_at b.1) _ (u2_takes b.1 q.0.fits) (λ c r.
    given_bind _ Q (u2_at c.1) _ (u2_takes c.1 r.0.fits) (λ d s.
    let two = then_takes bytes (u2 a.0) a.1 (u2 b.0) b.1 p.0 q.0 in
    let three = then_takes bytes (u2 a.0 ++ u2 b.0) b.1 (u2 c.0) c.1 two r.0 in
    (then_takes bytes (u2 a.0 ++ u2 b.0 ++ u2 c.0) c.1 (u2 d.0) d.1 three s.0, (p.1, q.1, r.1, s.1))))))

-- what was found is that of an outline
pub record IsOutlined (found : Found) (c : CodeOutline) : Type 0 where
  pub fits : CodeOutlineFits c
  pub max_stack : c.max_stack ≡ found.max_stack
  pub max_locals : c.max_locals ≡ found.max_locals
  pub code : c.code ≡ found.code
  pub rows : c.rows ≡ found.rows

pub record ContentTaken (bytes : List ℕ) (x : Found × List ℕ) : Type 0 where
  pub outline : CodeOutline
  pub is : IsOutlined x.0 outline
  pub takes : Takes bytes (code_outline_bytes outline) x.1

pub content_takes : (bytes : List ℕ) → IsBytes bytes → Given (ContentTaken bytes) (content_at bytes)
unfolding content_at
content_takes bytes h =
    let Q = ContentTaken bytes in
    given_bind _ Q (u2_at bytes) _ (u2_takes bytes h) (λ a p.
    given_bind _ Q (u2_at a.1) _ (u2_takes a.1 p.0.fits) (λ b q.
    given_bind _ Q (u4_at b.1) _ (u4_takes b.1 q.0.fits) (λ count r.
    given_demand Q (nat_le 1 count.0 && nat_le count.0 65535) fault.Code b.1 _ (λ few.
    given_bind _ Q (some_at count.0 count.1) _ (some_takes count.0 count.1 r.0.fits) (λ code s.
    given_bind _ Q (u2_at code.1) _ (u2_takes code.1 s.0.fits) (λ many t.
    given_bind _ Q (many_at row_at many.0 many.1) _ (many_take row_bytes RowFits row_at row_takes many.0 many.1 t.0.fits) (λ rows u.
    given_bind _ Q (attributes_at rows.1) _ (attributes_take rows.1 u.takes.fits) (λ attributes v.
    let both = and_parts (nat_le 1 count.0) (nat_le count.0 65535) few in
    let least = leb-true 1 count.0 both.0 in
    let most = leb-true count.0 65535 both.1 in
    let sized = takes_text b.1 (u4 count.0) (u4 (length code.0)) count.1 (ap u4 (sym s.1)) r.0 in
    let table = counted_takes row_bytes RowFits many.0 0 code.1 many.1 rows.1 rows.0 t.0 t.1 u.takes u.many u.all in
    let x2 = then_takes bytes (u2 a.0) a.1 (u2 b.0) b.1 p.0 q.0 in
    let x3 = then_takes bytes (u2 a.0 ++ u2 b.0) b.1 (u4 (length code.0)) count.1 x2 sized in
    let x4 = then_takes bytes (u2 a.0 ++ u2 b.0 ++ u4 (length code.0)) count.1 code.0 code.1 x3 s.0 in
    let x5 = then_takes bytes (u2 a.0 ++ u2 b.0 ++ u4 (length code.0) ++ code.0) code.1 (counted row_bytes rows.0) rows.1 x4 table.0 in
    let x6 = then_takes bytes (u2 a.0 ++ u2 b.0 ++ u4 (length code.0) ++ code.0 ++ counted row_bytes rows.0) rows.1 (counted attribute_bytes v.attributes) attributes.1 x5 v.takes in
    record {
      outline = record { max_stack = a.0; max_locals = b.0; code = code.0; rows = rows.0; attributes = v.attributes };
      is = record {
        fits = record { max_stack = p.1; max_locals = q.1; some = omega (arith, s.1, least); most = omega (arith, s.1, most); rows = table.1; attributes = v.fit };
        max_stack = refl;
        max_locals = refl;
        code = refl;
        rows = refl;
      };
      takes = x6;
    }))))))))

-- a Code attribute behind its name
pub record CodeTaken (bytes : List ℕ) (x : Found × List ℕ) : Type 0 where
  pub outline : CodeOutline
  pub is : IsOutlined x.0 outline
  pub takes : Takes bytes (u4 (length (code_outline_bytes outline)) ++ code_outline_bytes outline) x.1
  pub below : length (code_outline_bytes outline) < 2 ^ 32

pub code_takes : (bytes : List ℕ) → IsBytes bytes → Given (CodeTaken bytes) (code_at bytes)
unfolding code_at
code_takes bytes h =
    let Q = CodeTaken bytes in
    given_bind _ Q (u4_at bytes) _ (u4_takes bytes h) (λ count p.
    given_bind _ Q (content_at count.1) _ (content_takes count.1 p.0.fits) (λ found q.
    given_demand Q (count.0 + length found.1 == length count.1) fault.Code bytes _ (λ e.
    let text : List ℕ = code_outline_bytes q.outline in
    let size : count.0 ≡ length text = omega (arith, eqb-true _ _ e, ap length q.takes.parts ∙ length-append text found.1) in
    record {
      outline = q.outline;
      is = q.is;
      takes = takes_text bytes _ _ found.1 (ap (λ n. u4 n ++ text) size) (then_takes bytes (u4 count.0) count.1 text found.1 p.0 q.takes);
      below = omega (arith, size, p.1);
    })))

-- ---- the attributes of a method

-- one of the attributes is the code that was found, of a method that may have one
pub record HasFound (pool : List Const) (access : ℕ) (attributes : List Attribute) (found : Found) : Type 0 where
  pub before : List Attribute
  pub attribute : Attribute
  pub after : List Attribute
  pub are : attributes ≡ before ++ attribute ∷ after
  pub named : text_at pool attribute.name ≡ Some code_name
  pub others : AllByRecursion (IsOther pool) (before ++ after)
  pub outline : CodeOutline
  pub is : IsOutlined found outline
  pub info : attribute.info ≡ code_outline_bytes outline
  pub due : is_without_code access ≡ false

-- what the attributes add to what was found before them
abbrev pub Adds : List Const → ℕ → Option Found → Option Found → List Attribute → Type 0
Adds pool access None None attributes = AllByRecursion (IsOther pool) attributes
Adds pool access None (Some found) attributes = HasFound pool access attributes found
Adds pool access (Some found) (Some same) attributes = (found ≡ same) × AllByRecursion (IsOther pool) attributes
Adds pool access (Some found) None attributes = ⊥

-- an attribute is passed over, or is the Code
pub record IsFoundIn (pool : List Const) (access : ℕ) (a : Attribute) (found : Found) : Type 0 where
  pub named : text_at pool a.name ≡ Some code_name
  pub outline : CodeOutline
  pub is : IsOutlined found outline
  pub info : a.info ≡ code_outline_bytes outline
  pub due : is_without_code access ≡ false

pub data Step (pool : List Const) (access : ℕ) (before next : Option Found) (a : Attribute) : Type 0 where
  other : next ≡ before → IsOther pool a → Step pool access before next a
  code : (found : Found) → before ≡ None → next ≡ Some found → IsFoundIn pool access a found → Step pool access before next a

other_more : (pool : List Const) (access : ℕ) (before last : Option Found) (a : Attribute) (more : List Attribute) → IsOther pool a
    → Adds pool access before last more → Adds pool access before last (a ∷ more)
other_more pool access None None a more o k = (o, k)
other_more pool access None (Some last) a more o k = record {
  before = a ∷ k.before;
  attribute = k.attribute;
  after = k.after;
  are = ap (λ l. a ∷ l) k.are;
  named = k.named;
  others = (o, k.others);
  outline = k.outline;
  is = k.is;
  info = k.info;
  due = k.due;
}
other_more pool access (Some found) (Some last) a more o k = (k.0, (o, k.1))
other_more pool access (Some found) None a more o k = absurd k

code_more : (pool : List Const) (access : ℕ) (found : Found) (last : Option Found) (a : Attribute) (more : List Attribute) → IsFoundIn pool access a found
    → Adds pool access (Some found) last more → Adds pool access None last (a ∷ more)
code_more pool access found None a more h k = absurd k
code_more pool access found (Some last) a more h k =
    let all : HasFound pool access (a ∷ more) found = record {
      before = [];
      attribute = a;
      after = more;
      are = refl;
      named = h.named;
      others = k.1;
      outline = h.outline;
      is = h.is;
      info = h.info;
      due = h.due;
    } in
    subst (HasFound pool access (a ∷ more)) k.0 all

pub adds_more : (pool : List Const) (access : ℕ) (before next last : Option Found) (a : Attribute) (more : List Attribute) → Step pool access before next a
    → Adds pool access next last more → Adds pool access before last (a ∷ more)
adds_more pool access before next last a more (other e o) k =
    other_more pool access before last a more o (subst (λ n. Adds pool access n last more) e k)
adds_more pool access before next last a more (code found e f h) k =
    subst (λ b. Adds pool access b last (a ∷ more)) (sym e) (code_more pool access found last a more h (subst (λ n. Adds pool access n last more) f k))

pub record AttributeTaken (pool : List Const) (access : ℕ) (before : Option Found) (bytes : List ℕ) (x : Option Found × List ℕ) : Type 0 where
  pub attribute : Attribute
  pub takes : Takes bytes (attribute_bytes attribute) x.1
  pub fits : AttributeFits attribute
  pub step : Step pool access before x.0 attribute

is_code : (o : Option (List ℕ)) → is_code_name o ≡ true → o ≡ Some code_name
is_code None e = absurd cc
is_code (Some text) e = ap (λ t. Some t) ((bytes_eq-Decides text code_name).0 e)

isnt_code : (o : Option (List ℕ)) → is_code_name o ≡ false → o ≢ Some code_name
isnt_code None e f = absurd cc
isnt_code (Some text) e f =
    let same : text ≡ code_name = cc in
    let t = (bytes_eq-Decides text code_name).1 same in
    absurd cc

none_before : (before : Option Found) → is_none before ≡ true → before ≡ None
none_before None e = refl
none_before (Some f) e = absurd cc

pub attribute_takes : (pool : List Const) (access : ℕ) (before : Option Found) (bytes : List ℕ) → IsBytes bytes
    → Given (AttributeTaken pool access before bytes) (attribute_at pool access before bytes)
unfolding attribute_at method_code_at other_at
attribute_takes pool access before bytes h =
    let Q = AttributeTaken pool access before bytes in
    given_bind _ Q (u2_at bytes) _ (u2_takes bytes h) (λ name p.
    given_cond Q (is_code_name (text_at pool name.0)) _ _
    (λ e. given_demand Q (not (is_without_code access) && is_none before) fault.Code bytes _ (λ d.
    given_bind _ Q (code_at name.1) _ (code_takes name.1 p.0.fits) (λ found q.
    let both = and_parts (not (is_without_code access)) (is_none before) d in
    let spelled = named_info bytes name.1 found.1 (code_outline_bytes q.outline) name.0 p.0 p.1 q.takes q.below in
    record {
      attribute = record { name = name.0; info = code_outline_bytes q.outline };
      takes = spelled.0;
      fits = spelled.1;
      step = code found.0 (none_before before both.1) refl (record {
        named = is_code (text_at pool name.0) e;
        outline = q.outline;
        is = q.is;
        info = refl;
        due = not-true (is_without_code access) both.0;
      });
    })))
    (λ e. given_bind _ Q (info_at name.1) _ (info_takes name.1 p.0.fits) (λ info q.
    let spelled = named_info bytes name.1 info.1 info.0 name.0 p.0 p.1 q.0 q.1 in
    record {
      attribute = record { name = name.0; info = info.0 };
      takes = spelled.0;
      fits = spelled.1;
      step = other refl (isnt_code (text_at pool name.0) e);
    })))

pub record AttributesTaken (pool : List Const) (access count : ℕ) (before : Option Found) (bytes : List ℕ) (x : Option Found × List ℕ) : Type 0 where
  pub attributes : List Attribute
  pub takes : Takes bytes (flat_map attribute_bytes attributes) x.1
  pub all : AllByRecursion AttributeFits attributes
  pub many : length attributes ≡ count
  pub adds : Adds pool access before x.0 attributes

adds_none : (pool : List Const) (access : ℕ) (before : Option Found) → Adds pool access before before []
adds_none pool access None = tt
adds_none pool access (Some found) = (refl, tt)

pub method_attributes_take : (count : ℕ) (pool : List Const) (access : ℕ) (before : Option Found) (bytes : List ℕ) → IsBytes bytes
    → Given (AttributesTaken pool access count before bytes) (method_attributes_at count pool access before bytes)
unfolding method_attributes_at
method_attributes_take zero pool access before bytes h =
    record { attributes = []; takes = record { parts = refl; fits = h }; all = tt; many = refl; adds = adds_none pool access before }
method_attributes_take (suc count) pool access before bytes h =
    given_bind _ (AttributesTaken pool access (suc count) before bytes) (attribute_at pool access before bytes) _ (attribute_takes pool access before bytes h) (λ x p.
    more x p (method_attributes_at count pool access x.0 x.1) (method_attributes_take count pool access x.0 x.1 p.takes.fits))
  where
    more : (x : Option Found × List ℕ) → AttributeTaken pool access before bytes x → (r : Read (Option Found)) → Given (AttributesTaken pool access count x.0 x.1) r
        → Given (AttributesTaken pool access (suc count) before bytes) r
    more x p (Ok y) q = record {
      attributes = p.attribute ∷ q.attributes;
      takes = then_takes bytes (attribute_bytes p.attribute) x.1 (flat_map attribute_bytes q.attributes) y.1 p.takes q.takes;
      all = (p.fits, q.all);
      many = ap suc q.many;
      adds = adds_more pool access before x.0 y.0 p.attribute q.attributes p.step q.adds;
    }
    more x p (Err f) q = tt
