-- What is read is spelled so: the whole file.
use Rattle.std.proofs.Common.{◌≡◌, sym, ap, ◌∙◌, subst, ℕ, zero, suc, ◌+◌, ◌-◌, ◌^◌, ◌<◌, ◌≤◌, ◌⊎◌, inl, inr, List, [], ◌∷◌, ◌++◌, length, drop, Option, None, Some, Ok, true, false, arith}
use Rattle.std.specs.Prelude.{◌==◌, ◌||◌, not, IsTrue, bit_and}
use Rattle.std.specs.List.{flat_map, AllByRecursion}
use Rattle.std.proofs.lemmas.Bool.{or_cases, eqb-true, eqb-false, not-true, not-false}
use Rattle.std.proofs.lemmas.List.{append-nil, nil_from_length}
use Rattle.cf_form.specs.Pool.{u2, Fits2, names, pool_of, refers_well, constant_bytes, ConstantFits}
use Rattle.cf_form.specs.ClassFiles.{IsField, IsMethod, IsCodeDue, IsWithoutCode, HasCodeOrNone, AreNamed, Each, is_version, Says, Reads}
use Rattle.cf_form.specs.Outline.{counted, AllFit, Attribute, attribute_bytes, AttributeFits, Member, member_bytes, MemberFits, Outline, outline_bytes, OutlineFits}
use Rattle.cf_form.specs.declared.class_file.ClassFile.{ClassFile}
use Rattle.cf_form.specs.declared.class_file.MethodInfo.{MethodInfo}
use Rattle.cf_form.specs.declared.code.Code.{Code}
use Rattle.cf_form.specs.declared.constant.Const.{Const}
use Rattle.cf_form.specs.declared.kind.Kind.TheVariants as kind
use Rattle.cf_read.specs.declared.file_fault.FileKind.TheVariants as fault
use Rattle.cf_read.specs.Codes.{IsReadOrNone, IsMethodRead}
use Rattle.cf_read.specs.Looking.{IsFileRead}
use Rattle.cf_read.specs.Reading.{◌>>=◌, u2_at, index_at, attributes_at, interfaces_at, is_none, is_without_code, Found, MethodOutline, fields_at, methods_at, FileOutline, magic_at, version_at, pool_at, all_references_at, head_at, outline_of}
use Rattle.cf_read.proofs.Takes.{Given, given_bind, given_demand, IsBytes, Takes, then_takes, takes_text, u2_takes, magic_takes, version_takes, VersionTaken}
use Rattle.cf_read.proofs.TakesPool.{CountedPool, pool_takes, all_refer}
use Rattle.cf_read.proofs.TakesParts.{index_takes, attributes_take, interfaces_take, Adds}
use Rattle.cf_read.proofs.TakesMembers.{IsMethodOutline, fields_take, methods_take}

-- ---- methods with their codes

without_code : (access : ℕ) → is_without_code access ≡ true → IsWithoutCode access
without_code access e = eqb-false (bit_and access 0x0500) 0 (not-true (bit_and access 0x0500 == 0) e)

with_code : (access : ℕ) → is_without_code access ≡ false → bit_and access 0x0500 ≡ 0
with_code access e = eqb-true (bit_and access 0x0500) 0 (not-false (bit_and access 0x0500 == 0) e)

joined : (pool : List Const) (access : ℕ) (attributes : List Attribute) (o : Option Found) (c : Option Code) → Adds pool access None o attributes
    → (is_without_code access || not (is_none o)) ≡ true → IsReadOrNone pool o c → IsCodeDue access c × HasCodeOrNone pool attributes c
joined pool access attributes None None a d r = (by (or_cases (is_without_code access) false d), a)
  where
    by : (is_without_code access ≡ true) ⊎ (false ≡ true) → IsWithoutCode access
    by (inl e) = without_code access e
    by (inr e) = absurd cc
joined pool access attributes (Some found) (Some code) a d r = (
  with_code access a.due,
  record {
    before = a.before;
    attribute = a.attribute;
    after = a.after;
    are = a.are;
    named = a.named;
    others = a.others;
    holds = record {
      outline = a.outline;
      fits = a.is.fits;
      bytes = a.info;
      max_stack = a.is.max_stack ∙ r.max_stack;
      max_locals = a.is.max_locals ∙ r.max_locals;
      is_code = r.is_code;
      instrs = a.is.code ∙ r.instrs;
      names = r.names;
      rows = a.is.rows ∙ r.rows;
      handlers = r.handlers;
    };
  },
)
joined pool access attributes None (Some code) a d r = absurd r
joined pool access attributes (Some found) None a d r = absurd r

method_joined : (pool : List Const) (m : Member) (o : MethodOutline) (i : MethodInfo) → IsMethodOutline pool m o → IsMethodRead pool o i → IsMethod pool m i
method_joined pool m o i h r =
    let j = joined pool o.access m.attributes o.code i.code h.adds h.due r.3 in
    (h.access ∙ r.0, h.name ∙ r.1, h.descriptor ∙ r.2, subst (λ a. IsCodeDue a i.code) r.0 j.0, j.1)

methods_joined : (pool : List Const) (ms : List Member) (os : List MethodOutline) (is : List MethodInfo) → Each (IsMethodOutline pool) ms os
    → Each (IsMethodRead pool) os is → Each (IsMethod pool) ms is
methods_joined pool [] [] [] h r = tt
methods_joined pool (m ∷ ms) (o ∷ os) (i ∷ is) h r = (method_joined pool m o i h.0 r.0, methods_joined pool ms os is h.1 r.1)
methods_joined pool [] [] (i ∷ is) h r = absurd r
methods_joined pool [] (o ∷ os) is h r = absurd h
methods_joined pool (m ∷ ms) [] is h r = absurd h
methods_joined pool (m ∷ ms) (o ∷ os) [] h r = absurd r

-- ---- the head

abbrev magic : List ℕ
magic = 0xCA ∷ 0xFE ∷ 0xBA ∷ 0xBE ∷ []

record HeadTaken (bytes : List ℕ) (x : ((ℕ × ℕ) × List Const) × List ℕ) : Type 0 where
  pub constants : List Const
  pub are : x.0.1 ≡ pool_of constants
  pub fits : AllByRecursion ConstantFits constants
  pub count : ℕ
  pub below : count < 2 ^ 16
  pub many : length (pool_of constants) ≡ count - 1
  pub refers : AllByRecursion (λ c. IsTrue (refers_well x.0.1 c)) constants
  pub minor : x.0.0.0 < 2 ^ 16
  pub major : Fits2 x.0.0.1
  pub version : IsTrue (is_version x.0.0.1)
  pub takes : Takes bytes (magic ++ (u2 x.0.0.0 ++ u2 x.0.0.1) ++ u2 count ++ flat_map constant_bytes constants) x.1

head_takes : (bytes : List ℕ) → IsBytes bytes → Given (HeadTaken bytes) (head_at bytes)
unfolding head_at
head_takes bytes h =
    let Q = HeadTaken bytes in
    given_bind _ Q (magic_at bytes) _ (magic_takes bytes h) (λ m p.
    given_bind _ Q (version_at m.1) _ (version_takes m.1 p.fits) (λ v q.
    given_bind _ Q (pool_at v.1) _ (pool_takes v.1 q.0.fits) (λ pool r. more m p v q pool r)))
  where
    refers : (v : List ℕ) (pool : List Const × List ℕ) (r : CountedPool v pool) → Given (λ _. AllByRecursion (λ c. IsTrue (refers_well pool.0 c)) r.pool.constants) (all_references_at pool.0 pool.0 (drop 2 v))
    refers v pool r =
        let pool_is : drop 2 v ≡ flat_map constant_bytes r.pool.constants ++ pool.1 = ap (drop 2) r.first.parts ∙ r.pool.takes.parts in
        subst (λ b. Given (λ _. AllByRecursion (λ c. IsTrue (refers_well pool.0 c)) r.pool.constants) (all_references_at pool.0 pool.0 b)) (sym pool_is)
        (subst (λ cs. Given (λ _. AllByRecursion (λ c. IsTrue (refers_well pool.0 c)) r.pool.constants) (all_references_at pool.0 cs (flat_map constant_bytes r.pool.constants ++ pool.1))) (sym r.pool.are)
        (all_refer pool.0 r.pool.constants pool.1 r.pool.fits))

    more : (m : Unit {0} × List ℕ) → Takes bytes magic m.1 → (v : (ℕ × ℕ) × List ℕ) → VersionTaken m.1 v → (pool : List Const × List ℕ) → CountedPool v.1 pool
        → Given (HeadTaken bytes) (all_references_at pool.0 pool.0 (drop 2 v.1) >>= λ _. Ok ((v.0, pool.0), pool.1))
    more m p v q pool r =
        given_bind _ (HeadTaken bytes) (all_references_at pool.0 pool.0 (drop 2 v.1)) _ (refers v.1 pool r) (λ x s.
        let a = then_takes bytes magic m.1 (u2 v.0.0 ++ u2 v.0.1) v.1 p q.0 in
        let b = then_takes bytes (magic ++ (u2 v.0.0 ++ u2 v.0.1)) v.1 (u2 r.count) r.behind a r.first in
        record {
          constants = r.pool.constants;
          are = r.pool.are;
          fits = r.pool.fits;
          count = r.count;
          below = r.below;
          many = r.pool.many;
          refers = s;
          minor = q.1;
          major = q.2;
          version = q.3;
          takes = then_takes bytes (magic ++ (u2 v.0.0 ++ u2 v.0.1) ++ u2 r.count) r.behind (flat_map constant_bytes r.pool.constants) pool.1 b r.pool.takes;
        })

-- ---- the file

pub record OutlineTaken (bytes : List ℕ) (o : FileOutline) : Type 0 where
  pub constants : List Const
  pub are : o.pool ≡ pool_of constants
  pub constant_fits : AllByRecursion ConstantFits constants
  pub count : Fits2 (1 + length (pool_of constants))
  pub refers : AllByRecursion (λ c. IsTrue (refers_well o.pool c)) constants
  pub minor : Fits2 o.minor
  pub major : Fits2 o.major
  pub version : IsTrue (is_version o.major)
  pub access : Fits2 o.access
  pub this : Fits2 o.this
  pub is_class : IsTrue (names o.pool kind.Class o.this)
  pub parent : Fits2 o.parent
  pub has_parent : IsTrue (names o.pool kind.Class o.parent)
  pub interfaces : AllFit (λ i. Fits2 i × IsTrue (names o.pool kind.Class i)) o.interfaces
  pub fields : List Member
  pub field_fit : AllFit MemberFits fields
  pub field_named : AreNamed o.pool fields
  pub field_each : Each IsField fields o.fields
  pub methods : List Member
  pub method_fit : AllFit MemberFits methods
  pub method_named : AreNamed o.pool methods
  pub method_each : Each (IsMethodOutline o.pool) methods o.methods
  pub attributes : List Attribute
  pub attribute_fit : AllFit AttributeFits attributes
  pub spelled : bytes ≡ outline_bytes (record {
    minor = o.minor;
    major = o.major;
    constants = constants;
    access = o.access;
    this = o.this;
    parent = o.parent;
    interfaces = o.interfaces;
    fields = fields;
    methods = methods;
    attributes = attributes;
  })

-- an index of an empty pool names nothing
some_pool : (pool : List Const) (n : ℕ) → IsTrue (names pool kind.Class n) → 1 ≤ length pool
some_pool [] zero e = absurd cc
some_pool [] (suc n) e = absurd cc
some_pool (c ∷ cs) n e = omega arith

pub outline_takes : (bytes : List ℕ) → IsBytes bytes → Given (OutlineTaken bytes) (outline_of bytes)
unfolding outline_of
outline_takes bytes h =
    let Q = OutlineTaken bytes in
    given_bind _ Q (head_at bytes) _ (head_takes bytes h) (λ d p.
    given_bind _ Q (u2_at d.1) _ (u2_takes d.1 p.takes.fits) (λ a q.
    given_bind _ Q (index_at d.0.1 kind.Class a.1) _ (index_takes d.0.1 kind.Class a.1 q.0.fits) (λ t r.
    given_bind _ Q (index_at d.0.1 kind.Class t.1) _ (index_takes d.0.1 kind.Class t.1 r.0.fits) (λ u s.
    given_bind _ Q (interfaces_at d.0.1 u.1) _ (interfaces_take d.0.1 u.1 s.0.fits) (λ i v.
    given_bind _ Q (fields_at d.0.1 i.1) _ (fields_take d.0.1 i.1 v.0.fits) (λ f w.
    given_bind _ Q (methods_at d.0.1 f.1) _ (methods_take d.0.1 f.1 w.takes.fits) (λ m x.
    given_bind _ Q (attributes_at m.1) _ (attributes_take m.1 x.takes.fits) (λ n y.
    given_demand Q (length n.1 == 0) fault.Rest n.1 _ (λ e.
    let some = some_pool d.0.1 t.0 r.2 in
    let size : p.count ≡ 1 + length (pool_of p.constants) = omega (arith, some, p.many, ap length p.are) in
    let head : List ℕ = magic ++ (u2 d.0.0.0 ++ u2 d.0.0.1) ++ u2 (1 + length (pool_of p.constants)) ++ flat_map constant_bytes p.constants in
    let x0 : Takes bytes head d.1 = takes_text bytes _ head d.1 (ap (λ k. magic ++ (u2 d.0.0.0 ++ u2 d.0.0.1) ++ u2 k ++ flat_map constant_bytes p.constants) size) p.takes in
    let x1 = then_takes bytes head d.1 (u2 a.0) a.1 x0 q.0 in
    let x2 = then_takes bytes (head ++ u2 a.0) a.1 (u2 t.0) t.1 x1 r.0 in
    let x3 = then_takes bytes (head ++ u2 a.0 ++ u2 t.0) t.1 (u2 u.0) u.1 x2 s.0 in
    let x4 = then_takes bytes (head ++ u2 a.0 ++ u2 t.0 ++ u2 u.0) u.1 (counted u2 i.0) i.1 x3 v.0 in
    let x5 = then_takes bytes (head ++ u2 a.0 ++ u2 t.0 ++ u2 u.0 ++ counted u2 i.0) i.1 (counted member_bytes w.members) f.1 x4 w.takes in
    let x6 = then_takes bytes (head ++ u2 a.0 ++ u2 t.0 ++ u2 u.0 ++ counted u2 i.0 ++ counted member_bytes w.members) f.1 (counted member_bytes x.members) m.1 x5 x.takes in
    let x7 = then_takes bytes (head ++ u2 a.0 ++ u2 t.0 ++ u2 u.0 ++ counted u2 i.0 ++ counted member_bytes w.members ++ counted member_bytes x.members) m.1 (counted attribute_bytes y.attributes) n.1 x6 y.takes in
    let text : List ℕ = head ++ u2 a.0 ++ u2 t.0 ++ u2 u.0 ++ counted u2 i.0 ++ counted member_bytes w.members ++ counted member_bytes x.members ++ counted attribute_bytes y.attributes in
    let none : n.1 ≡ [] = nil_from_length n.1 (eqb-true (length n.1) 0 e) in
    record {
      constants = p.constants;
      are = p.are;
      constant_fits = p.fits;
      count = omega (arith, size, p.below);
      refers = p.refers;
      minor = p.minor;
      major = p.major;
      version = p.version;
      access = q.1;
      this = r.1;
      is_class = r.2;
      parent = s.1;
      has_parent = s.2;
      interfaces = v.1;
      fields = w.members;
      field_fit = w.fit;
      field_named = w.named;
      field_each = w.each;
      methods = x.members;
      method_fit = x.fit;
      method_named = x.named;
      method_each = x.each;
      attributes = y.attributes;
      attribute_fit = y.fit;
      spelled = x7.parts ∙ ap (λ l. text ++ l) none ∙ append-nil text;
    })))))))))

all_first : {A : Type 0} (P Q : A → Type 0) (xs : List A) → AllByRecursion (λ x. P x × Q x) xs → AllByRecursion P xs
all_first P Q [] h = tt
all_first P Q (x ∷ xs) h = (h.0.0, all_first P Q xs h.1)

all_second : {A : Type 0} (P Q : A → Type 0) (xs : List A) → AllByRecursion (λ x. P x × Q x) xs → AllByRecursion Q xs
all_second P Q [] h = tt
all_second P Q (x ∷ xs) h = (h.0.1, all_second P Q xs h.1)

-- the file that is read is what the bytes say
pub file_found : (bytes : List ℕ) (o : FileOutline) (file : ClassFile) → OutlineTaken bytes o → IsFileRead o file → Reads bytes file
file_found bytes o file t r =
    let e = r.pool in
    let outline : Outline = record {
      minor = o.minor;
      major = o.major;
      constants = t.constants;
      access = o.access;
      this = o.this;
      parent = o.parent;
      interfaces = o.interfaces;
      fields = t.fields;
      methods = t.methods;
      attributes = t.attributes;
    } in
    let Class = λ (pool : List Const) (n : ℕ). IsTrue (names pool kind.Class n) in
    let joined_methods = methods_joined o.pool t.methods o.methods file.methods t.method_each r.methods in
    let says : Says outline file = record {
      minor = r.minor;
      major = r.major;
      version = subst (λ n. IsTrue (is_version n)) r.major t.version;
      pool = sym t.are ∙ e;
      refers = subst (λ pool. AllByRecursion (λ c. IsTrue (refers_well pool c)) t.constants) e t.refers;
      access = r.access;
      this = r.this;
      is_class = subst (Class file.pool) r.this (subst (λ pool. Class pool o.this) e t.is_class);
      parent = r.parent;
      has_parent = subst (Class file.pool) r.parent (subst (λ pool. Class pool o.parent) e t.has_parent);
      interfaces = r.interfaces;
      are_classes = subst (AllByRecursion (Class file.pool)) r.interfaces (subst (λ pool. AllByRecursion (Class pool) o.interfaces) e (all_second Fits2 (Class o.pool) o.interfaces t.interfaces.1));
      fields_named = subst (λ pool. AreNamed pool t.fields) e t.field_named;
      fields = subst (Each IsField t.fields) r.fields t.field_each;
      methods_named = subst (λ pool. AreNamed pool t.methods) e t.method_named;
      methods = subst (λ pool. Each (IsMethod pool) t.methods file.methods) e joined_methods;
    } in
    let fits : OutlineFits outline = record {
      minor = t.minor;
      major = t.major;
      constants = t.constant_fits;
      count = t.count;
      access = t.access;
      this = t.this;
      parent = t.parent;
      interfaces = (t.interfaces.0, all_first Fits2 (Class o.pool) o.interfaces t.interfaces.1);
      fields = t.field_fit;
      methods = t.method_fit;
      attributes = t.attribute_fit;
    } in
    (outline, record { fits = fits; is_spelled = t.spelled; says = says })

pub whole_found : (bytes : List ℕ) (o : FileOutline) (file : ClassFile) → IsBytes bytes → outline_of bytes ≡ Ok o → IsFileRead o file → Reads bytes file
whole_found bytes o file h e r = file_found bytes o file (subst (Given (OutlineTaken bytes)) e (outline_takes bytes h)) r
