-- What is read is spelled so: fields, methods and the whole file.
use Rattle.std.proofs.Common.{◌≡◌, refl, sym, ap, ◌∙◌, subst, ℕ, zero, suc, ◌^◌, List, [], ◌∷◌, ◌++◌, length, map, Option, None, Some, Ok, Err, true, false}
use Rattle.std.specs.Prelude.{◌≢◌, ◌||◌, not, IsTrue}
use Rattle.std.specs.List.{flat_map, AllByRecursion, list_any}
use Rattle.std.proofs.lemmas.Bool.{and_parts, and_from, or_parts, not-true}
use Rattle.std.proofs.lemmas.Slice.Eq.{bytes_eq-Decides}
use Rattle.cf_form.specs.Pool.{u2, Fits2, names}
use Rattle.cf_form.specs.ClassFiles.{IsField, IsNamed, AreNamed, AreDifferent, Each, key}
use Rattle.cf_form.specs.Outline.{counted, AllFit, attribute_bytes, AttributeFits, Member, member_bytes, MemberFits}
use Rattle.cf_form.specs.declared.constant.Const.{Const}
use Rattle.cf_form.specs.declared.kind.Kind.TheVariants as kind
use Rattle.cf_read.specs.declared.file_fault.FileKind.TheVariants as fault
use Rattle.cf_read.specs.Reading.{Read, u2_at, index_at, attributes_at, is_none, is_without_code, method_attributes_at, Key, key_of, same_text, same_key, MethodOutline, Front, front_at, members_at, field_key, field_at, fields_at, method_key, method_at, methods_at}
use Rattle.cf_read.proofs.Takes.{Given, given_bind, given_demand, IsBytes, Takes, then_takes, NumberTaken, u2_takes}
use Rattle.cf_read.proofs.TakesParts.{index_takes, counted_takes, attributes_take, Adds, method_attributes_take}

-- ---- keys

same_texts : (a b : Option (List ℕ)) → a ≡ b → same_text a b ≡ true
same_texts None None e = refl
same_texts (Some a) (Some b) e = let f : a ≡ b = cc in (bytes_eq-Decides a b).1 f
same_texts None (Some b) e = absurd cc
same_texts (Some a) None e = absurd cc

texts_same : (a b : Option (List ℕ)) → same_text a b ≡ true → a ≡ b
texts_same None None e = refl
texts_same (Some a) (Some b) e = ap (λ t. Some t) ((bytes_eq-Decides a b).0 e)
texts_same None (Some b) e = absurd cc
texts_same (Some a) None e = absurd cc

pub same_keys : (a b : Key) → a ≡ b → same_key a b ≡ true
same_keys a b e = and_from (same_text a.0 b.0) (same_text a.1 b.1) (same_texts a.0 b.0 (ap (λ (k : Key). k.0) e)) (same_texts a.1 b.1 (ap (λ (k : Key). k.1) e))

pub keys_same : (a b : Key) → same_key a b ≡ true → a ≡ b
keys_same a b e =
    let p = and_parts (same_text a.0 b.0) (same_text a.1 b.1) e in
    let made : Option (List ℕ) → Option (List ℕ) → Key = λ x y. (x, y) in
    ap (λ x. made x a.1) (texts_same a.0 b.0 p.0) ∙ ap (made b.0) (texts_same a.1 b.1 p.1)

-- none of the keys is among these
abbrev pub AreFresh : List Key → List Key → Type 0
AreFresh keys ks = AllByRecursion (λ k. list_any (same_key k) keys ≡ false) ks

any_push : (k new : Key) (keys : List Key) → list_any (same_key k) (keys ++ new ∷ []) ≡ false → (list_any (same_key k) keys ≡ false) × (same_key k new ≡ false)
any_push k new [] e = (refl, (or_parts (same_key k new) false e).0)
any_push k new (x ∷ keys) e =
    let p = or_parts (same_key k x) (list_any (same_key k) (keys ++ new ∷ [])) e in
    let q = any_push k new keys p.1 in
    (ap (λ b. b || list_any (same_key k) keys) p.0 ∙ q.0, q.1)

fresh_push : (new : Key) (keys ks : List Key) → AreFresh (keys ++ new ∷ []) ks → AreFresh keys ks × AllByRecursion (λ k. k ≢ new) ks
fresh_push new keys [] h = (tt, tt)
fresh_push new keys (k ∷ ks) h =
    let p = any_push k new keys h.0 in
    let q = fresh_push new keys ks h.1 in
    ((p.0, q.0), (λ e. (let t = same_keys k new e in let f = p.1 in cc), q.1))

-- ---- members

-- members of a kind, each told by a relation
pub record MembersTaken {A : Type 0} (pool : List Const) (R : Member → A → Type 0) (count : ℕ) (keys : List Key) (bytes : List ℕ) (x : List A × List ℕ) : Type 0 where
  pub members : List Member
  pub takes : Takes bytes (flat_map member_bytes members) x.1
  pub all : AllByRecursion MemberFits members
  pub named : AllByRecursion (IsNamed pool) members
  pub many : length members ≡ count
  pub fresh : AreFresh keys (map (key pool) members)
  pub different : AreDifferent (map (key pool) members)
  pub each : Each R members x.0

pub record MemberTaken {A : Type 0} (pool : List Const) (R : Member → A → Type 0) (k : A → Key) (keys : List Key) (bytes : List ℕ) (x : A × List ℕ) : Type 0 where
  pub member : Member
  pub takes : Takes bytes (member_bytes member) x.1
  pub fits : MemberFits member
  pub named : IsNamed pool member
  pub keyed : key pool member ≡ k x.0
  pub fresh : list_any (same_key (key pool member)) keys ≡ false
  pub is : R member x.0

pub members_take : {A : Type 0} (pool : List Const) (R : Member → A → Type 0) (k : A → Key) (one : List Key → List ℕ → Read A)
    → ((keys : List Key) (bytes : List ℕ) → IsBytes bytes → Given (MemberTaken pool R k keys bytes) (one keys bytes))
    → (count : ℕ) (keys : List Key) (bytes : List ℕ) → IsBytes bytes → Given (MembersTaken pool R count keys bytes) (members_at one k count keys bytes)
unfolding members_at
members_take pool R k one f zero keys bytes h =
    record { members = []; takes = record { parts = refl; fits = h }; all = tt; named = tt; many = refl; fresh = tt; different = tt; each = tt }
members_take {A} pool R k one f (suc count) keys bytes h =
    let Q = MembersTaken pool R (suc count) keys bytes in
    given_bind _ Q (one keys bytes) _ (f keys bytes h) (λ x p.
    given_bind _ Q (members_at one k count (keys ++ k x.0 ∷ []) x.1) _ (members_take pool R k one f count (keys ++ k x.0 ∷ []) x.1 p.takes.fits) (λ y q.
    let split = fresh_push (k x.0) keys (map (key pool) q.members) q.fresh in
    let apart = subst (λ n. AllByRecursion (λ m. m ≢ n) (map (key pool) q.members)) (sym p.keyed) split.1 in
    record {
      members = p.member ∷ q.members;
      takes = then_takes bytes (member_bytes p.member) x.1 (flat_map member_bytes q.members) y.1 p.takes q.takes;
      all = (p.fits, q.all);
      named = (p.named, q.named);
      many = ap suc q.many;
      fresh = (p.fresh, split.0);
      different = (apart, q.different);
      each = (p.is, q.each);
    }))

-- the front of a member
pub record FrontTaken (pool : List Const) (keys : List Key) (bytes : List ℕ) (x : Front × List ℕ) : Type 0 where
  pub takes : Takes bytes (u2 x.0.access ++ u2 x.0.name ++ u2 x.0.descriptor) x.1
  pub access : Fits2 x.0.access
  pub name : Fits2 x.0.name
  pub descriptor : Fits2 x.0.descriptor
  pub named : IsTrue (names pool kind.Utf8 x.0.name)
  pub described : IsTrue (names pool kind.Utf8 x.0.descriptor)
  pub fresh : list_any (same_key (key_of pool x.0.name x.0.descriptor)) keys ≡ false

pub front_takes : (pool : List Const) (keys : List Key) (bytes : List ℕ) → IsBytes bytes → Given (FrontTaken pool keys bytes) (front_at pool keys bytes)
unfolding front_at
front_takes pool keys bytes h =
    let Q = FrontTaken pool keys bytes in
    given_bind _ Q (u2_at bytes) _ (u2_takes bytes h) (λ a p.
    given_bind _ Q (index_at pool kind.Utf8 a.1) _ (index_takes pool kind.Utf8 a.1 p.0.fits) (λ n q.
    given_bind _ Q (index_at pool kind.Utf8 n.1) _ (index_takes pool kind.Utf8 n.1 q.0.fits) (λ d r.
    given_demand Q (not (list_any (same_key (key_of pool n.0 d.0)) keys)) fault.Double bytes _ (λ e. record {
      takes = then_takes bytes (u2 a.0 ++ u2 n.0) n.1 (u2 d.0) d.1 (then_takes bytes (u2 a.0) a.1 (u2 n.0) n.1 p.0 q.0) r.0;
      access = p.1;
      name = q.1;
      descriptor = r.1;
      named = q.2;
      described = r.2;
      fresh = not-true (list_any (same_key (key_of pool n.0 d.0)) keys) e;
    }))))

pub field_takes : (pool : List Const) (keys : List Key) (bytes : List ℕ) → IsBytes bytes → Given (MemberTaken pool IsField (field_key pool) keys bytes) (field_at pool keys bytes)
unfolding field_at
field_takes pool keys bytes h =
    let Q = MemberTaken pool IsField (field_key pool) keys bytes in
    given_bind _ Q (front_at pool keys bytes) _ (front_takes pool keys bytes h) (λ f p.
    given_bind _ Q (attributes_at f.1) _ (attributes_take f.1 p.takes.fits) (λ a q. record {
      member = record { access = f.0.access; name = f.0.name; descriptor = f.0.descriptor; attributes = q.attributes };
      takes = then_takes bytes (u2 f.0.access ++ u2 f.0.name ++ u2 f.0.descriptor) f.1 (counted attribute_bytes q.attributes) a.1 p.takes q.takes;
      fits = (p.access, p.name, p.descriptor, q.fit);
      named = (p.named, p.described);
      keyed = refl;
      fresh = p.fresh;
      is = (refl, refl, refl);
    }))

-- a method whose attributes are these
pub record IsMethodOutline (pool : List Const) (m : Member) (o : MethodOutline) : Type 0 where
  pub access : m.access ≡ o.access
  pub name : m.name ≡ o.name
  pub descriptor : m.descriptor ≡ o.descriptor
  pub adds : Adds pool o.access None o.code m.attributes
  pub due : (is_without_code o.access || not (is_none o.code)) ≡ true

pub method_takes : (pool : List Const) (keys : List Key) (bytes : List ℕ) → IsBytes bytes
    → Given (MemberTaken pool (IsMethodOutline pool) (method_key pool) keys bytes) (method_at pool keys bytes)
unfolding method_at
method_takes pool keys bytes h =
    let Q = MemberTaken pool (IsMethodOutline pool) (method_key pool) keys bytes in
    given_bind _ Q (front_at pool keys bytes) _ (front_takes pool keys bytes h) (λ f p.
    given_bind _ Q (u2_at f.1) _ (u2_takes f.1 p.takes.fits) (λ count q.
    given_bind _ Q (method_attributes_at count.0 pool f.0.access None count.1) _ (method_attributes_take count.0 pool f.0.access None count.1 q.0.fits) (λ code r.
    given_demand Q (is_without_code f.0.access || not (is_none code.0)) fault.Code bytes _ (λ e.
    let all = counted_takes attribute_bytes AttributeFits count.0 0 f.1 count.1 code.1 r.attributes q.0 q.1 r.takes r.many r.all in
    record {
      member = record { access = f.0.access; name = f.0.name; descriptor = f.0.descriptor; attributes = r.attributes };
      takes = then_takes bytes (u2 f.0.access ++ u2 f.0.name ++ u2 f.0.descriptor) f.1 (counted attribute_bytes r.attributes) code.1 p.takes all.0;
      fits = (p.access, p.name, p.descriptor, all.1);
      named = (p.named, p.described);
      keyed = refl;
      fresh = p.fresh;
      is = record { access = refl; name = refl; descriptor = refl; adds = r.adds; due = e };
    }))))

-- members after their count
pub record CountedMembers {A : Type 0} (pool : List Const) (R : Member → A → Type 0) (bytes : List ℕ) (x : List A × List ℕ) : Type 0 where
  pub members : List Member
  pub takes : Takes bytes (counted member_bytes members) x.1
  pub fit : AllFit MemberFits members
  pub named : AreNamed pool members
  pub each : Each R members x.0

counted_members : {A : Type 0} (pool : List Const) (R : Member → A → Type 0) (bytes : List ℕ) (count : ℕ × List ℕ) → NumberTaken u2 (2 ^ 16) bytes count → (r : Read (List A))
    → Given (MembersTaken pool R count.0 [] count.1) r → Given (CountedMembers pool R bytes) r
counted_members pool R bytes count p (Err f) q = tt
counted_members pool R bytes count p (Ok x) q =
    let all = counted_takes member_bytes MemberFits count.0 0 bytes count.1 x.1 q.members p.0 p.1 q.takes q.many q.all in
    record { members = q.members; takes = all.0; fit = all.1; named = (q.named, q.different); each = q.each }

pub fields_take : (pool : List Const) (bytes : List ℕ) → IsBytes bytes → Given (CountedMembers pool IsField bytes) (fields_at pool bytes)
unfolding fields_at
fields_take pool bytes h =
    given_bind _ (CountedMembers pool IsField bytes) (u2_at bytes) _ (u2_takes bytes h) (λ count p.
    counted_members pool IsField bytes count p _ (members_take pool IsField (field_key pool) (field_at pool) (field_takes pool) count.0 [] count.1 p.0.fits))

pub methods_take : (pool : List Const) (bytes : List ℕ) → IsBytes bytes → Given (CountedMembers pool (IsMethodOutline pool) bytes) (methods_at pool bytes)
unfolding methods_at
methods_take pool bytes h =
    given_bind _ (CountedMembers pool (IsMethodOutline pool) bytes) (u2_at bytes) _ (u2_takes bytes h) (λ count p.
    counted_members pool (IsMethodOutline pool) bytes count p _ (members_take pool (IsMethodOutline pool) (method_key pool) (method_at pool) (method_takes pool) count.0 [] count.1 p.0.fits))
