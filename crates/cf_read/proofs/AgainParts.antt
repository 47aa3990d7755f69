-- What is spelled so is read: attributes, codes, fields and methods.
use Rattle.std.proofs.Common.{◌≡◌, refl, sym, ap, ◌∙◌, subst, ℕ, suc, ◌+◌, ◌^◌, ◌<◌, List, [], ◌∷◌, ◌++◌, length, Option, None, Some, Ok, true, false, append_assoc, length-append, arith}
use Rattle.std.specs.Prelude.{◌≢◌, ◌==◌, ◌&&◌, ◌||◌, nat_le, not, IsTrue, bit_and}
use Rattle.std.specs.List.{flat_map, AllByRecursion, list_any}
use Rattle.std.proofs.lemmas.Bool.{and_from, le-leb, eq-eqb, ne_eqb, cond-true, cond-false, or_right, or_left, false_from_ne_true}
use Rattle.std.proofs.lemmas.Slice.Eq.{bytes_eq-Decides}
use Rattle.cf_form.specs.Pool.{u2, u4, Fits2, names, text_at}
use Rattle.cf_form.specs.ClassFiles.{IsOther, code_name, IsField, IsMethod, IsCodeDue, IsWithoutCode, HasCodeOrNone, IsNamed, key}
use Rattle.cf_form.specs.Outline.{counted, AllFit, Attribute, attribute_bytes, AttributeFits, Member, member_bytes, MemberFits, Row, row_bytes, RowFits, CodeOutline, code_outline_bytes, CodeOutlineFits}
use Rattle.cf_form.specs.declared.class_file.FieldInfo.{FieldInfo}
use Rattle.cf_form.specs.declared.class_file.MethodInfo.{MethodInfo}
use Rattle.cf_form.specs.declared.code.Code.{Code}
use Rattle.cf_form.specs.declared.constant.Const.{Const}
use Rattle.cf_form.specs.declared.kind.Kind.TheVariants as kind
use Rattle.cf_read.specs.declared.file_fault.FileKind.TheVariants as fault
use Rattle.cf_read.specs.Codes.{IsReadOrNone, IsMethodRead}
use Rattle.cf_read.specs.Reading.{Read, ◌>>=◌, some_at, u2_at, u4_at, index_at, many_at, interfaces_at, info_at, passed_one_at, passed_at, attributes_at, row_at, Found, content_at, code_at, is_none, is_code_name, is_without_code, method_code_at, other_at, attribute_at, method_attributes_at, Key, key_of, same_key, Front, front_at, field_at, MethodOutline, method_key, method_at}
use Rattle.cf_read.proofs.Again.{bind_at, demand_at, u4_again}
use Rattle.cf_read.proofs.TakesPool.{some_again, u2_again, index_again}

pub many_again : {A : Type 0} (spell : A → List ℕ) (P : A → Type 0) (one : List ℕ → Read A) → ((x : A) (rest : List ℕ) → P x → one (spell x ++ rest) ≡ Ok (x, rest))
    → (xs : List A) (rest : List ℕ) → AllByRecursion P xs → many_at one (length xs) (flat_map spell xs ++ rest) ≡ Ok (xs, rest)
unfolding many_at
many_again spell P one f [] rest h = refl
many_again {A} spell P one f (x ∷ xs) rest h =
    let y : Read (List A) = Ok (x ∷ xs, rest) in
    let after : List ℕ = flat_map spell xs ++ rest in
    ap (many_at one (suc (length xs))) (append_assoc (spell x) (flat_map spell xs) rest)
    ∙ bind_at (one (spell x ++ after)) (x, after) (λ first. many_at one (length xs) first.1 >>= λ others. Ok (first.0 ∷ others.0, others.1)) y (f x after h.0)
    (bind_at (many_at one (length xs) after) (xs, rest) (λ others. Ok (x ∷ others.0, others.1)) y (many_again spell P one f xs rest h.1) refl)

pub interfaces_again : (pool : List Const) (is : List ℕ) (rest : List ℕ) → AllFit Fits2 is → AllByRecursion (λ i. IsTrue (names pool kind.Class i)) is
    → interfaces_at pool (counted u2 is ++ rest) ≡ Ok (is, rest)
unfolding interfaces_at
interfaces_again pool is rest f t =
    let y : Read (List ℕ) = Ok (is, rest) in
    let after : List ℕ = flat_map u2 is ++ rest in
    bind_at (u2_at (u2 (length is) ++ after)) (length is, after) _ y (u2_again (length is) after f.0)
    (many_again u2 (λ i. Fits2 i × IsTrue (names pool kind.Class i)) (index_at pool kind.Class) (λ i r p. index_again pool kind.Class i r p.0 p.1) is rest (both is f.1 t))
  where
    both : (is : List ℕ) → AllByRecursion Fits2 is → AllByRecursion (λ i. IsTrue (names pool kind.Class i)) is → AllByRecursion (λ i. Fits2 i × IsTrue (names pool kind.Class i)) is
    both [] f t = tt
    both (i ∷ is) f t = ((f.0, t.0), both is f.1 t.1)

-- ---- attributes

pub info_again : (info rest : List ℕ) → length info < 2 ^ 32 → info_at (u4 (length info) ++ (info ++ rest)) ≡ Ok (info, rest)
unfolding info_at
info_again info rest l =
    bind_at (u4_at (u4 (length info) ++ (info ++ rest))) (length info, info ++ rest) _ (Ok (info, rest)) (u4_again (length info) (info ++ rest) l) (some_again (length info) info rest refl)

passed_one_again : (a : Attribute) (rest : List ℕ) → AttributeFits a → passed_one_at (attribute_bytes a ++ rest) ≡ Ok (tt, rest)
unfolding passed_one_at
passed_one_again a rest f =
    let y : Read (Unit {0}) = Ok (tt, rest) in
    let behind : List ℕ = u4 (length a.info) ++ (a.info ++ rest) in
    bind_at (u2_at (u2 a.name ++ behind)) (a.name, behind) _ y (u2_again a.name behind f.0)
    (bind_at (info_at behind) (a.info, rest) _ y (info_again a.info rest f.1) refl)

passed_again : (more : List Attribute) (rest : List ℕ) → AllByRecursion AttributeFits more → passed_at (length more) (flat_map attribute_bytes more ++ rest) ≡ Ok (tt, rest)
unfolding passed_at
passed_again [] rest f = refl
passed_again (a ∷ more) rest f =
    let after : List ℕ = flat_map attribute_bytes more ++ rest in
    ap (passed_at (suc (length more))) (append_assoc (attribute_bytes a) (flat_map attribute_bytes more) rest)
    ∙ bind_at (passed_one_at (attribute_bytes a ++ after)) (tt, after) (λ first. passed_at (length more) first.1) (Ok (tt, rest)) (passed_one_again a after f.0) (passed_again more rest f.1)

pub attributes_again : (more : List Attribute) (rest : List ℕ) → AllFit AttributeFits more → attributes_at (counted attribute_bytes more ++ rest) ≡ Ok (tt, rest)
unfolding attributes_at
attributes_again more rest f =
    let after : List ℕ = flat_map attribute_bytes more ++ rest in
    bind_at (u2_at (u2 (length more) ++ after)) (length more, after) _ (Ok (tt, rest)) (u2_again (length more) after f.0) (passed_again more rest f.1)

-- ---- codes

row_again : (r : Row) (rest : List ℕ) → RowFits r → row_at (row_bytes r ++ rest) ≡ Ok (r, rest)
unfolding row_at
row_again r rest f =
    let y : Read Row = Ok (r, rest) in
    let d : List ℕ = u2 r.class ++ rest in
    let c : List ℕ = u2 r.target ++ d in
    let b : List ℕ = u2 r.to ++ c in
    bind_at (u2_at (u2 r.from ++ b)) (r.from, b) _ y (u2_again r.from b f.0)
    (bind_at (u2_at b) (r.to, c) _ y (u2_again r.to c f.1)
    (bind_at (u2_at c) (r.target, d) _ y (u2_again r.target d f.2)
    (bind_at (u2_at d) (r.class, rest) _ y (u2_again r.class rest f.3) refl)))

-- what is found of a code's content, before these bytes
abbrev pub found_before : CodeOutline → List ℕ → Found
found_before c rest = record {
  max_stack = c.max_stack;
  max_locals = c.max_locals;
  code = c.code;
  code_from = c.code ++ (counted row_bytes c.rows ++ (counted attribute_bytes c.attributes ++ rest));
  rows = c.rows;
  rows_from = flat_map row_bytes c.rows ++ (counted attribute_bytes c.attributes ++ rest);
}

regroup : (a b c d : List ℕ) → a ++ b ++ c ++ d ≡ a ++ (b ++ (c ++ d))
regroup a b c d = append_assoc (a ++ b) c d ∙ append_assoc a b (c ++ d)

content_again : (c : CodeOutline) (rest : List ℕ) → CodeOutlineFits c → content_at (code_outline_bytes c ++ rest) ≡ Ok (found_before c rest, rest)
unfolding content_at
content_again c rest f =
    let y : Read Found = Ok (found_before c rest, rest) in
    let attributes : List ℕ = counted attribute_bytes c.attributes ++ rest in
    let rows : List ℕ = flat_map row_bytes c.rows ++ attributes in
    let table : List ℕ = counted row_bytes c.rows ++ attributes in
    let code : List ℕ = c.code ++ table in
    let size : List ℕ = u4 (length c.code) ++ code in
    let locals : List ℕ = u2 c.max_locals ++ size in
    let few = f.most in
    let regrouped : code_outline_bytes c ++ rest ≡ u2 c.max_stack ++ locals = ap (λ l. u2 c.max_stack ++ (u2 c.max_locals ++ (u4 (length c.code) ++ l))) (regroup c.code (counted row_bytes c.rows) (counted attribute_bytes c.attributes) rest) in
    ap content_at regrouped
    ∙ bind_at (u2_at (u2 c.max_stack ++ locals)) (c.max_stack, locals) _ y (u2_again c.max_stack locals f.max_stack)
    (bind_at (u2_at locals) (c.max_locals, size) _ y (u2_again c.max_locals size f.max_locals)
    (bind_at (u4_at size) (length c.code, code) _ y (u4_again (length c.code) code (omega arith))
    (demand_at (nat_le 1 (length c.code) && nat_le (length c.code) 65535) fault.Code size _ y (and_from _ _ (le-leb 1 (length c.code) f.some) (le-leb (length c.code) 65535 f.most))
    (bind_at (some_at (length c.code) code) (c.code, table) _ y (some_again (length c.code) c.code table refl)
    (bind_at (u2_at table) (length c.rows, rows) _ y (u2_again (length c.rows) rows f.rows.0)
    (bind_at (many_at row_at (length c.rows) rows) (c.rows, attributes) _ y (many_again row_bytes RowFits row_at row_again c.rows attributes f.rows.1)
    (bind_at (attributes_at attributes) (tt, rest) _ y (attributes_again c.attributes rest f.attributes) refl)))))))

code_again : (c : CodeOutline) (rest : List ℕ) → CodeOutlineFits c → length (code_outline_bytes c) < 2 ^ 32
    → code_at (u4 (length (code_outline_bytes c)) ++ (code_outline_bytes c ++ rest)) ≡ Ok (found_before c rest, rest)
unfolding code_at
code_again c rest f l =
    let y : Read Found = Ok (found_before c rest, rest) in
    let text : List ℕ = code_outline_bytes c in
    bind_at (u4_at (u4 (length text) ++ (text ++ rest))) (length text, text ++ rest) _ y (u4_again (length text) (text ++ rest) l)
    (bind_at (content_at (text ++ rest)) (found_before c rest, rest) _ y (content_again c rest f)
    (demand_at (length text + length rest == length (text ++ rest)) fault.Code (u4 (length text) ++ (text ++ rest)) _ y (eq-eqb _ _ (omega (arith, length-append text rest))) refl))

-- ---- the attributes of a method

isnt : (o : Option (List ℕ)) → o ≢ Some code_name → is_code_name o ≡ false
isnt None h = refl
isnt (Some text) h = false_from_ne_true (is_code_name (Some text)) (λ e. h (ap (λ t. Some t) ((bytes_eq-Decides text code_name).0 e)))

is : (o : Option (List ℕ)) → o ≡ Some code_name → is_code_name o ≡ true
is o e = ap is_code_name e ∙ (bytes_eq-Decides code_name code_name).1 refl

other_again : (pool : List Const) (access : ℕ) (before : Option Found) (a : Attribute) (rest : List ℕ) → AttributeFits a → IsOther pool a
    → attribute_at pool access before (attribute_bytes a ++ rest) ≡ Ok (before, rest)
unfolding attribute_at other_at
other_again pool access before a rest f o =
    let y : Read (Option Found) = Ok (before, rest) in
    let behind : List ℕ = u4 (length a.info) ++ (a.info ++ rest) in
    bind_at (u2_at (u2 a.name ++ behind)) (a.name, behind) _ y (u2_again a.name behind f.0)
    (cond-false (is_code_name (text_at pool a.name)) _ _ (isnt (text_at pool a.name) o)
    ∙ bind_at (info_at behind) (a.info, rest) (λ info. Ok (before, info.1)) y (info_again a.info rest f.1) refl)

-- the Code of a method that has one
found_again : (pool : List Const) (access : ℕ) (a : Attribute) (c : CodeOutline) (rest : List ℕ) → AttributeFits a → text_at pool a.name ≡ Some code_name
    → CodeOutlineFits c → a.info ≡ code_outline_bytes c → is_without_code access ≡ false
    → attribute_at pool access None (attribute_bytes a ++ rest) ≡ Ok (Some (found_before c rest), rest)
unfolding attribute_at method_code_at
found_again pool access a c rest f n g e d =
    let y : Read (Option Found) = Ok (Some (found_before c rest), rest) in
    let text : List ℕ = code_outline_bytes c in
    let behind : List ℕ = u4 (length a.info) ++ (a.info ++ rest) in
    let told : behind ≡ u4 (length text) ++ (text ++ rest) = ap (λ i. u4 (length i) ++ (i ++ rest)) e in
    bind_at (u2_at (u2 a.name ++ behind)) (a.name, behind) _ y (u2_again a.name behind f.0)
    (cond-true (is_code_name (text_at pool a.name)) _ _ (is (text_at pool a.name) n)
    ∙ demand_at (not (is_without_code access) && true) fault.Code (u2 a.name ++ behind) (λ _. code_at behind >>= λ found. Ok (Some found.0, found.1)) y
    (ap (λ b. not b && true) d)
    (bind_at (code_at behind) (found_before c rest, rest) (λ found. Ok (Some found.0, found.1)) y
    (ap code_at told ∙ code_again c rest g (omega (arith, f.1, ap length e))) refl))

others_again : (pool : List Const) (access : ℕ) (before : Option Found) (more : List Attribute) (rest : List ℕ) → AllByRecursion AttributeFits more → AllByRecursion (IsOther pool) more
    → method_attributes_at (length more) pool access before (flat_map attribute_bytes more ++ rest) ≡ Ok (before, rest)
unfolding method_attributes_at
others_again pool access before [] rest f o = refl
others_again pool access before (a ∷ more) rest f o =
    let after : List ℕ = flat_map attribute_bytes more ++ rest in
    ap (method_attributes_at (suc (length more)) pool access before) (append_assoc (attribute_bytes a) (flat_map attribute_bytes more) rest)
    ∙ bind_at (attribute_at pool access before (attribute_bytes a ++ after)) (before, after) (λ first. method_attributes_at (length more) pool access first.0 first.1) (Ok (before, rest))
    (other_again pool access before a after f.0 o.0) (others_again pool access before more rest f.1 o.1)

-- a code among other attributes
pub record FoundAmong (pool : List Const) (access : ℕ) (all : List Attribute) (c : CodeOutline) (rest : List ℕ) : Type 0 where
  pub behind : List ℕ
  pub read : method_attributes_at (length all) pool access None (flat_map attribute_bytes all ++ rest) ≡ Ok (Some (found_before c behind), rest)

found_among : (pool : List Const) (access : ℕ) (before : List Attribute) (a : Attribute) (after : List Attribute) (c : CodeOutline) (rest : List ℕ)
    → AllByRecursion AttributeFits (before ++ a ∷ after) → AllByRecursion (IsOther pool) (before ++ after) → text_at pool a.name ≡ Some code_name
    → CodeOutlineFits c → a.info ≡ code_outline_bytes c → is_without_code access ≡ false → FoundAmong pool access (before ++ a ∷ after) c rest
unfolding method_attributes_at
found_among pool access [] a after c rest f o n g e d =
    let more : List ℕ = flat_map attribute_bytes after ++ rest in
    let y : Read (Option Found) = Ok (Some (found_before c more), rest) in
    record {
      behind = more;
      read = ap (method_attributes_at (suc (length after)) pool access None) (append_assoc (attribute_bytes a) (flat_map attribute_bytes after) rest)
          ∙ bind_at (attribute_at pool access None (attribute_bytes a ++ more)) (Some (found_before c more), more) (λ first. method_attributes_at (length after) pool access first.0 first.1) y
          (found_again pool access a c more f.0 n g e d) (others_again pool access (Some (found_before c more)) after rest f.1 o);
    }
found_among pool access (b ∷ before) a after c rest f o n g e d =
    let tail : List Attribute = before ++ a ∷ after in
    let more : List ℕ = flat_map attribute_bytes tail ++ rest in
    let h = found_among pool access before a after c rest f.1 o.1 n g e d in
    record {
      behind = h.behind;
      read = ap (method_attributes_at (suc (length tail)) pool access None) (append_assoc (attribute_bytes b) (flat_map attribute_bytes tail) rest)
          ∙ bind_at (attribute_at pool access None (attribute_bytes b ++ more)) (None, more) (λ first. method_attributes_at (length tail) pool access first.0 first.1) (Ok (Some (found_before c h.behind), rest))
          (other_again pool access None b more f.0 o.0) h.read;
    }

-- the attributes of a method with its code, or without
pub record AttributesRead (pool : List Const) (access : ℕ) (all : List Attribute) (code : Option Code) (rest : List ℕ) : Type 0 where
  pub found : Option Found
  pub read : method_attributes_at (length all) pool access None (flat_map attribute_bytes all ++ rest) ≡ Ok (found, rest)
  pub is : IsReadOrNone pool found code
  pub due : (is_without_code access || not (is_none found)) ≡ true

has_code : (access : ℕ) → bit_and access 0x0500 ≡ 0 → is_without_code access ≡ false
has_code access e = ap not (eq-eqb (bit_and access 0x0500) 0 e)

has_none : (access : ℕ) → IsWithoutCode access → is_without_code access ≡ true
has_none access e = ap not (ne_eqb (bit_and access 0x0500) 0 e)

pub attributes_read : (pool : List Const) (access : ℕ) (all : List Attribute) (code : Option Code) (rest : List ℕ) → AllByRecursion AttributeFits all
    → IsCodeDue access code → HasCodeOrNone pool all code → AttributesRead pool access all code rest
attributes_read pool access all None rest f d h =
    record { found = None; read = others_again pool access None all rest f h; is = tt; due = or_left (is_without_code access) false (has_none access d) }
attributes_read pool access all (Some code) rest f d h =
    let c : CodeOutline = h.holds.outline in
    let fits = subst (AllByRecursion AttributeFits) h.are f in
    let among = found_among pool access h.before h.attribute h.after c rest fits h.others h.named h.holds.fits h.holds.bytes (has_code access d) in
    let told = subst (λ all. FoundAmong pool access all c rest) (sym h.are) among in
    record {
      found = Some (found_before c told.behind);
      read = told.read;
      is = record {
        max_stack = h.holds.max_stack;
        max_locals = h.holds.max_locals;
        is_code = h.holds.is_code;
        instrs = h.holds.instrs;
        names = h.holds.names;
        rows = h.holds.rows;
        handlers = h.holds.handlers;
      };
      due = or_right (is_without_code access) true refl;
    }

-- ---- members

front_again : (pool : List Const) (keys : List Key) (access name descriptor : ℕ) (rest : List ℕ) → Fits2 access → Fits2 name → Fits2 descriptor
    → IsTrue (names pool kind.Utf8 name) → IsTrue (names pool kind.Utf8 descriptor) → list_any (same_key (key_of pool name descriptor)) keys ≡ false
    → front_at pool keys (u2 access ++ (u2 name ++ (u2 descriptor ++ rest))) ≡ Ok (record { access = access; name = name; descriptor = descriptor }, rest)
unfolding front_at
front_again pool keys access name descriptor rest fa fn fd n d new =
    let y : Read Front = Ok (record { access = access; name = name; descriptor = descriptor }, rest) in
    let b : List ℕ = u2 descriptor ++ rest in
    let a : List ℕ = u2 name ++ b in
    bind_at (u2_at (u2 access ++ a)) (access, a) _ y (u2_again access a fa)
    (bind_at (index_at pool kind.Utf8 a) (name, b) _ y (index_again pool kind.Utf8 name b fn n)
    (bind_at (index_at pool kind.Utf8 b) (descriptor, rest) _ y (index_again pool kind.Utf8 descriptor rest fd d)
    (demand_at (not (list_any (same_key (key_of pool name descriptor)) keys)) fault.Double (u2 access ++ a) _ y (ap not new) refl)))

pub field_again : (pool : List Const) (keys : List Key) (m : Member) (f : FieldInfo) (rest : List ℕ) → MemberFits m → IsNamed pool m
    → list_any (same_key (key pool m)) keys ≡ false → IsField m f
    → field_at pool keys (member_bytes m ++ rest) ≡ Ok (f, rest)
unfolding field_at
field_again pool keys m f rest fits named new is =
    let made : ℕ → ℕ → ℕ → Read FieldInfo = λ a n d. Ok (record { access = a; name = n; descriptor = d }, rest) in
    let y : Read FieldInfo = made m.access m.name m.descriptor in
    let after : List ℕ = counted attribute_bytes m.attributes ++ rest in
    bind_at (front_at pool keys (u2 m.access ++ (u2 m.name ++ (u2 m.descriptor ++ after)))) (record { access = m.access; name = m.name; descriptor = m.descriptor }, after) _ y
    (front_again pool keys m.access m.name m.descriptor after fits.0 fits.1 fits.2 named.0 named.1 new)
    (bind_at (attributes_at after) (tt, rest) _ y (attributes_again m.attributes rest fits.3) refl)
    ∙ ap (λ a. made a m.name m.descriptor) is.0 ∙ ap (λ n. made f.access n m.descriptor) is.1 ∙ ap (made f.access f.name) is.2

pub record MethodAgain (pool : List Const) (keys : List Key) (m : Member) (i : MethodInfo) (rest : List ℕ) : Type 0 where
  pub outline : MethodOutline
  pub read : method_at pool keys (member_bytes m ++ rest) ≡ Ok (outline, rest)
  pub keyed : method_key pool outline ≡ key pool m
  pub is : IsMethodRead pool outline i

pub method_again : (pool : List Const) (keys : List Key) (m : Member) (i : MethodInfo) (rest : List ℕ) → MemberFits m → IsNamed pool m
    → list_any (same_key (key pool m)) keys ≡ false → IsMethod pool m i → MethodAgain pool keys m i rest
unfolding method_at
method_again pool keys m i rest fits named new is =
    let due = subst (λ a. IsCodeDue a i.code) (sym is.0) is.3 in
    let r = attributes_read pool m.access m.attributes i.code rest fits.3.1 due is.4 in
    let made : MethodOutline = record { access = m.access; name = m.name; descriptor = m.descriptor; code = r.found } in
    let y : Read MethodOutline = Ok (made, rest) in
    let all : List ℕ = flat_map attribute_bytes m.attributes ++ rest in
    let after : List ℕ = counted attribute_bytes m.attributes ++ rest in
    record {
      outline = made;
      read = bind_at (front_at pool keys (u2 m.access ++ (u2 m.name ++ (u2 m.descriptor ++ after)))) (record { access = m.access; name = m.name; descriptor = m.descriptor }, after) _ y
          (front_again pool keys m.access m.name m.descriptor after fits.0 fits.1 fits.2 named.0 named.1 new)
          (bind_at (u2_at after) (length m.attributes, all) _ y (u2_again (length m.attributes) all fits.3.0)
          (bind_at (method_attributes_at (length m.attributes) pool m.access None all) (r.found, rest) _ y r.read
          (demand_at (is_without_code m.access || not (is_none r.found)) fault.Code (member_bytes m ++ rest) _ y r.due refl)));
      keyed = refl;
      is = (is.0, is.1, is.2, r.is);
    }
