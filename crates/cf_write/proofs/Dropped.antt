-- What is read of a file has a spelling: its outline without the attributes that were passed over.
use Rattle.std.proofs.Common.{◌≡◌, ℕ, zero, suc, ◌+◌, ◌*◌, ◌<◌, ◌^◌, List, [], ◌∷◌, ◌++◌, length, map, Option, None, Some, refl, sym, subst, ap, arith, Bool, true, false, ◌⊎◌, inl, inr, ⊎_elim}
use Rattle.std.specs.List.{flat_map, AllByRecursion}
use Rattle.std.specs.Str.{bytes_eq}
use Rattle.std.specs.Bool.{Decides}
use Rattle.std.proofs.lemmas.List.{length-append}
use Rattle.std.proofs.lemmas.Slice.Eq.{bytes_eq-Decides}
use Rattle.std.proofs.lemmas.Bool.Decides.{eqb_tells}
use Rattle.cf_form.specs.Pool.{text_at, Fits2, u2, u4}
use Rattle.cf_form.specs.Outline.{Attribute, Member, CodeOutline, code_outline_bytes, CodeOutlineFits, Outline, outline_bytes, OutlineFits, AllFit, MemberFits, AttributeFits, Row, row_bytes}
use Rattle.cf_form.specs.ClassFiles.{code_name, HasCode, HasCodeOrNone, HoldsCode, IsMethod, IsField, Each, key, IsNamed, AreDifferent, Says, Reads, IsFirstCodeName, IsBare, HasNone, HasCodeAlone, Spelled}
use Rattle.cf_form.specs.declared.class_file.ClassFile.{ClassFile}
use Rattle.cf_form.specs.declared.class_file.FieldInfo.{FieldInfo}
use Rattle.cf_form.specs.declared.class_file.MethodInfo.{MethodInfo}
use Rattle.cf_form.specs.declared.code.Code.{Code}
use Rattle.cf_form.specs.declared.constant.Const.{Const}

-- the entry of this index is the text `Code`
abbrev Named : List Const → ℕ → Type 0
Named pool i = text_at pool i ≡ Some code_name

same_text : (text : List ℕ) → (b : Bool) → Decides b (text ≡ code_name) → b ≡ bytes_eq text code_name → (Some text ≡ Some code_name) ⊎ (Some text ≡ Some code_name → ⊥)
same_text text true d is = inl (ap Some (d.0 refl))
same_text text false d is = inr (λ e. grind (arith, d.1, e))

decide_text : (t : Option (List ℕ)) → (t ≡ Some code_name) ⊎ (t ≡ Some code_name → ⊥)
decide_text None = inr (λ e. grind (arith, e))
decide_text (Some text) = same_text text (bytes_eq text code_name) (bytes_eq-Decides text code_name) refl

-- the first such entry below n, if there is one
FirstBelow : List Const → ℕ → Type 0
FirstBelow pool n = ((i : ℕ) → i < n → Named pool i → ⊥) ⊎ ((m : ℕ) × IsFirstCodeName pool m × (m < n))

last_one : (pool : List Const) (n i : ℕ) → ((i : ℕ) → i < n → Named pool i → ⊥) → (Named pool n → ⊥) → i < suc n → Named pool i → ⊥
last_one pool n i none not lt named = ⊎_elim
    (λ same. not (subst (Named pool) same.1 named))
    (λ other. none i (let ne = other.1 in omega (arith, ne)) named)
    (eqb_tells i n)

below : (pool : List Const) (n : ℕ) → FirstBelow pool n
unfolding FirstBelow
below pool zero = inl (λ i lt named. absurd (omega arith))
below pool (suc n) = ⊎_elim
    (λ none. ⊎_elim
    (λ is. inr (n, (is, none), omega arith))
    (λ not. inl (λ i lt named. last_one pool n i none not lt named))
    (decide_text (text_at pool n)))
    (λ found. inr (found.0, found.1, (let lt = found.2 in omega arith)))
    (below pool n)

first_of : (pool : List Const) (n : ℕ) → Named pool n → (m : ℕ) × IsFirstCodeName pool m × (m < suc n)
unfolding FirstBelow
first_of pool n named = ⊎_elim (λ none. absurd (none n (omega arith) named)) (λ found. found) (below pool (suc n))

-- a list with its middle
middle : (before after : List Attribute) (a : Attribute) → AllByRecursion AttributeFits (before ++ a ∷ after) → AttributeFits a
middle [] after a fits = fits.0
middle (b ∷ before) after a fits = middle before after a fits.1

-- a code without attributes of its own
bare : CodeOutline → CodeOutline
bare c = record { max_stack = c.max_stack; max_locals = c.max_locals; code = c.code; rows = c.rows; attributes = [] }

rows_length : (rows : List Row) → length (flat_map row_bytes rows) ≡ 8 * length rows
rows_length [] = refl
rows_length (row ∷ rows) = let rest = rows_length rows in grind (arith, rest)

info_length : (c : CodeOutline) → CodeOutlineFits c → length (code_outline_bytes (bare c)) < 2 ^ 32
unfolding bare
info_length c fits =
    let front : List ℕ = u2 c.max_stack ++ u2 c.max_locals ++ u4 (length c.code) in
    let rows : List ℕ = u2 (length c.rows) ++ flat_map row_bytes c.rows in
    let none : List ℕ = u2 0 ++ [] in
    let all = length-append (front ++ c.code ++ rows) none in
    let most_of = length-append (front ++ c.code) rows in
    let begun = length-append front c.code in
    let head : length front ≡ 8 = refl in
    let pair : length none ≡ 2 = refl in
    let counted = length-append (u2 (length c.rows)) (flat_map row_bytes c.rows) in
    let count : length (u2 (length c.rows)) ≡ 2 = refl in
    let each = rows_length c.rows in
    let most = fits.most in
    let few = fits.rows.0 in
    let bound : length (front ++ c.code ++ rows ++ none) < 2 ^ 32 = omega (arith, all, most_of, begun, head, pair, counted, count, each, most, few) in
    bound

bare_fits : (c : CodeOutline) → CodeOutlineFits c → CodeOutlineFits (bare c)
unfolding bare
bare_fits c fits = record {
  max_stack = fits.max_stack;
  max_locals = fits.max_locals;
  some = fits.some;
  most = fits.most;
  rows = fits.rows;
  attributes = (omega arith, tt);
}

-- the bytes of the bare code hold the same code
bare_holds : (pool : List Const) (info : List ℕ) (code : Code) (h : HoldsCode pool info code) → HoldsCode pool (code_outline_bytes (bare h.outline)) code
unfolding bare
bare_holds pool info code h = record {
  outline = bare h.outline;
  fits = bare_fits h.outline h.fits;
  bytes = refl;
  max_stack = h.max_stack;
  max_locals = h.max_locals;
  is_code = h.is_code;
  instrs = h.instrs;
  names = h.names;
  rows = h.rows;
  handlers = h.handlers;
}

-- attributes that are written, and say the same code
record Plain (pool : List Const) (code : Option Code) : Type 0 where
  attributes : List Attribute
  says : HasCodeOrNone pool attributes code
  fit : AllFit AttributeFits attributes
  plain : AllByRecursion (λ (a : Attribute). IsFirstCodeName pool a.name × IsBare a.info) attributes

plain_code : (pool : List Const) (attributes : List Attribute) (code : Code) → AllByRecursion AttributeFits attributes → HasCode pool attributes code → Plain pool (Some code)
unfolding bare
plain_code pool attributes code fit has =
    let first = first_of pool has.attribute.name has.named in
    let old : AttributeFits has.attribute = middle has.before has.after has.attribute (subst (AllByRecursion AttributeFits) has.are fit) in
    let held = has.holds in
    let info : List ℕ = code_outline_bytes (bare held.outline) in
    let attribute : Attribute = record { name = first.0; info = info } in
    let small : first.0 < 2 ^ 16 = (let low = first.2 in let high = old.0 in omega (arith, low, high)) in
    record {
      attributes = attribute ∷ [];
      says = record { before = []; attribute = attribute; after = []; are = refl; named = first.1.0; others = tt; holds = bare_holds pool has.attribute.info code held };
      fit = (omega arith, ((small, info_length held.outline held.fits), tt));
      plain = ((first.1, (bare held.outline, bare_fits held.outline held.fits, refl, refl)), tt);
    }

plain_attributes : (pool : List Const) (attributes : List Attribute) (code : Option Code) → AllByRecursion AttributeFits attributes → HasCodeOrNone pool attributes code → Plain pool code
plain_attributes pool attributes None fit has = record { attributes = []; says = tt; fit = (omega arith, tt); plain = tt }
plain_attributes pool attributes (Some code) fit has = plain_code pool attributes code fit has

-- methods that are written, and say the same
record PlainMethods (pool : List Const) (old : List Member) (methods : List MethodInfo) : Type 0 where
  members : List Member
  says : Each (IsMethod pool) members methods
  fit : AllByRecursion MemberFits members
  keys : map (key pool) members ≡ map (key pool) old
  named : AllByRecursion (IsNamed pool) members
  many : length members ≡ length old
  plain : AllByRecursion (HasCodeAlone pool) members

plain_methods : (pool : List Const) (old : List Member) (methods : List MethodInfo) → AllByRecursion MemberFits old → AllByRecursion (IsNamed pool) old → Each (IsMethod pool) old methods → PlainMethods pool old methods
plain_methods pool [] [] fit named says = record { members = []; says = tt; fit = tt; keys = refl; named = tt; many = refl; plain = tt }
plain_methods pool [] (i ∷ is) fit named says = absurd says
plain_methods pool (m ∷ ms) [] fit named says = absurd says
plain_methods pool (m ∷ ms) (i ∷ is) fit named says =
    let rest = plain_methods pool ms is fit.1 named.1 says.1 in
    let made = plain_attributes pool m.attributes i.code fit.0.3.1 says.0.4 in
    let member : Member = record { access = m.access; name = m.name; descriptor = m.descriptor; attributes = made.attributes } in
    record {
      members = member ∷ rest.members;
      says = ((says.0.0, says.0.1, says.0.2, says.0.3, made.says), rest.says);
      fit = ((fit.0.0, fit.0.1, fit.0.2, made.fit), rest.fit);
      keys = ap (λ ks. key pool m ∷ ks) rest.keys;
      named = (named.0, rest.named);
      many = ap suc rest.many;
      plain = (made.plain, rest.plain);
    }

-- fields without attributes
bare_member : Member → Member
bare_member m = record { access = m.access; name = m.name; descriptor = m.descriptor; attributes = [] }

record BareFields (pool : List Const) (old : List Member) (fields : List FieldInfo) : Type 0 where
  says : Each IsField (map bare_member old) fields
  fit : AllByRecursion MemberFits (map bare_member old)
  keys : map (key pool) (map bare_member old) ≡ map (key pool) old
  named : AllByRecursion (IsNamed pool) (map bare_member old)
  many : length (map bare_member old) ≡ length old
  plain : AllByRecursion HasNone (map bare_member old)

bare_fields : (pool : List Const) (old : List Member) (fields : List FieldInfo) → AllByRecursion MemberFits old → AllByRecursion (IsNamed pool) old → Each IsField old fields → BareFields pool old fields
unfolding bare_member
bare_fields pool [] [] fit named says = record { says = tt; fit = tt; keys = refl; named = tt; many = refl; plain = tt }
bare_fields pool [] (f ∷ fs) fit named says = absurd says
bare_fields pool (m ∷ ms) [] fit named says = absurd says
bare_fields pool (m ∷ ms) (f ∷ fs) fit named says =
    let rest = bare_fields pool ms fs fit.1 named.1 says.1 in
    record {
      says = (says.0, rest.says);
      fit = ((fit.0.0, fit.0.1, fit.0.2, (omega arith, tt)), rest.fit);
      keys = ap (λ ks. key pool m ∷ ks) rest.keys;
      named = (named.0, rest.named);
      many = ap suc rest.many;
      plain = (refl, rest.plain);
    }

pub rewritten : (file : ClassFile) (bytes : List ℕ) → Reads bytes file → (spelled : List ℕ) × Spelled file spelled
rewritten file bytes reads =
    let old : Outline = reads.0 in
    let fits = reads.1.fits in
    let says = reads.1.says in
    let fields = bare_fields file.pool old.fields file.fields fits.fields.1 says.fields_named.0 says.fields in
    let methods = plain_methods file.pool old.methods file.methods fits.methods.1 says.methods_named.0 says.methods in
    let o : Outline = record {
      minor = old.minor;
      major = old.major;
      constants = old.constants;
      access = old.access;
      this = old.this;
      parent = old.parent;
      interfaces = old.interfaces;
      fields = map bare_member old.fields;
      methods = methods.members;
      attributes = [];
    } in
    let fit : OutlineFits o = record {
      minor = fits.minor;
      major = fits.major;
      constants = fits.constants;
      count = fits.count;
      access = fits.access;
      this = fits.this;
      parent = fits.parent;
      interfaces = fits.interfaces;
      fields = (subst Fits2 (sym fields.many) fits.fields.0, fields.fit);
      methods = (subst Fits2 (sym methods.many) fits.methods.0, methods.fit);
      attributes = (omega arith, tt);
    } in
    let said : Says o file = record {
      minor = says.minor;
      major = says.major;
      version = says.version;
      pool = says.pool;
      refers = says.refers;
      access = says.access;
      this = says.this;
      is_class = says.is_class;
      parent = says.parent;
      has_parent = says.has_parent;
      interfaces = says.interfaces;
      are_classes = says.are_classes;
      fields_named = (fields.named, subst AreDifferent (sym fields.keys) says.fields_named.1);
      fields = fields.says;
      methods_named = (methods.named, subst AreDifferent (sym methods.keys) says.methods_named.1);
      methods = methods.says;
    } in (
      outline_bytes o,
      (
        o,
        record { fits = fit; is_spelled = refl; says = said },
        record {
          fields = fields.plain;
          methods = subst (λ (pool : List Const). AllByRecursion (HasCodeAlone pool) methods.members) (sym says.pool) methods.plain;
          attributes = refl;
        },
      ),
    )
