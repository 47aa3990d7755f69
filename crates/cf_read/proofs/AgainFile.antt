-- What is spelled so is read: the whole file.
use Rattle.std.proofs.Common.{◌≡◌, refl, sym, ap, ◌∙◌, subst, ℕ, suc, ◌+◌, List, [], ◌∷◌, ◌++◌, length, map, Result, Ok, false, append_assoc}
use Rattle.std.specs.Prelude.{◌≢◌, ◌==◌, IsTrue}
use Rattle.std.specs.List.{flat_map, AllByRecursion, list_any}
use Rattle.std.proofs.lemmas.Bool.{or_from, or_parts, false_from_ne_true}
use Rattle.std.proofs.lemmas.List.{append-nil}
use Rattle.cf_form.specs.Pool.{u2, names, pool_of, refers_well, constant_bytes}
use Rattle.cf_form.specs.ClassFiles.{IsField, IsMethod, IsNamed, AreNamed, AreDifferent, Each, key, is_version, Says, Reads}
use Rattle.cf_form.specs.Outline.{counted, AllFit, attribute_bytes, Member, member_bytes, MemberFits, Outline, outline_bytes, OutlineFits, head_bytes}
use Rattle.cf_form.specs.declared.class_file.ClassFile.{ClassFile}
use Rattle.cf_form.specs.declared.class_file.FieldInfo.{FieldInfo}
use Rattle.cf_form.specs.declared.class_file.MethodInfo.{MethodInfo}
use Rattle.cf_form.specs.declared.constant.Const.{Const}
use Rattle.cf_form.specs.declared.kind.Kind.TheVariants as kind
use Rattle.cf_read.specs.Codes.{IsMethodRead}
use Rattle.cf_read.specs.Looking.{IsReadWhole, IsFileRead}
use Rattle.cf_read.specs.declared.fault.Fault.{Fault}
use Rattle.cf_read.specs.declared.file_fault.FileKind.TheVariants as fault
use Rattle.cf_read.specs.Reading.{Read, ◌>>=◌, demand, u2_at, index_at, attributes_at, interfaces_at, Key, key_of, same_key, members_at, field_key, field_at, fields_at, MethodOutline, method_key, method_at, methods_at, FileOutline, magic_at, version_at, pool_at, all_references_at, head_at, outline_of}
use Rattle.cf_read.proofs.Again.{bind_at, magic_again, version_again, pool_again, references_again}
use Rattle.cf_read.proofs.AgainParts.{interfaces_again, attributes_again, field_again, method_again}
use Rattle.cf_read.proofs.TakesPool.{u2_again, index_again}
use Rattle.cf_read.proofs.TakesMembers.{AreFresh, keys_same}

any_joined : (k new : Key) (keys : List Key) → list_any (same_key k) keys ≡ false → k ≢ new → list_any (same_key k) (keys ++ new ∷ []) ≡ false
any_joined k new [] e n = or_from (same_key k new) false (false_from_ne_true (same_key k new) (λ t. n (keys_same k new t))) refl
any_joined k new (x ∷ keys) e n =
    let p = or_parts (same_key k x) (list_any (same_key k) keys) e in
    or_from (same_key k x) (list_any (same_key k) (keys ++ new ∷ [])) p.0 (any_joined k new keys p.1 n)

fresh_joined : (new : Key) (keys ks : List Key) → AreFresh keys ks → AllByRecursion (λ k. k ≢ new) ks → AreFresh (keys ++ new ∷ []) ks
fresh_joined new keys [] h d = tt
fresh_joined new keys (k ∷ ks) h d = (any_joined k new keys h.0 d.0, fresh_joined new keys ks h.1 d.1)

fresh_none : (ks : List Key) → AreFresh [] ks
fresh_none [] = tt
fresh_none (k ∷ ks) = (refl, fresh_none ks)

-- a member that is read again as a thing
record OneAgain {A I : Type 0} (pool : List Const) (R : A → I → Type 0) (k : A → Key) (one : List Key → List ℕ → Read A) (keys : List Key) (m : Member) (i : I) (rest : List ℕ) : Type 0 where
  pub value : A
  pub read : one keys (member_bytes m ++ rest) ≡ Ok (value, rest)
  pub keyed : k value ≡ key pool m
  pub is : R value i

record ManyAgain {A I : Type 0} (R : A → I → Type 0) (k : A → Key) (one : List Key → List ℕ → Read A) (keys : List Key) (ms : List Member) (is : List I) (rest : List ℕ) : Type 0 where
  pub values : List A
  pub read : members_at one k (length ms) keys (flat_map member_bytes ms ++ rest) ≡ Ok (values, rest)
  pub each : Each R values is

members_again : {A I : Type 0} (pool : List Const) (S : Member → I → Type 0) (R : A → I → Type 0) (k : A → Key) (one : List Key → List ℕ → Read A)
    → ((keys : List Key) (m : Member) (i : I) (rest : List ℕ) → MemberFits m → IsNamed pool m → list_any (same_key (key pool m)) keys ≡ false → S m i → OneAgain pool R k one keys m i rest)
    → (ms : List Member) (is : List I) (keys : List Key) (rest : List ℕ) → AllByRecursion MemberFits ms → AllByRecursion (IsNamed pool) ms → AreFresh keys (map (key pool) ms)
    → AreDifferent (map (key pool) ms) → Each S ms is → ManyAgain R k one keys ms is rest
unfolding members_at
members_again pool S R k one f [] [] keys rest fits named fresh apart each = record { values = []; read = refl; each = tt }
members_again {A} pool S R k one f (m ∷ ms) (i ∷ is) keys rest fits named fresh apart each =
    let after : List ℕ = flat_map member_bytes ms ++ rest in
    let first = f keys m i after fits.0 named.0 fresh.0 each.0 in
    let new = subst (λ n. AreFresh (keys ++ n ∷ []) (map (key pool) ms)) (sym first.keyed) (fresh_joined (key pool m) keys (map (key pool) ms) fresh.1 apart.0) in
    let others = members_again pool S R k one f ms is (keys ++ k first.value ∷ []) rest fits.1 named.1 new apart.1 each.1 in
    let y : Read (List A) = Ok (first.value ∷ others.values, rest) in
    record {
      values = first.value ∷ others.values;
      read = ap (members_at one k (suc (length ms)) keys) (append_assoc (member_bytes m) (flat_map member_bytes ms) rest)
          ∙ bind_at (one keys (member_bytes m ++ after)) (first.value, after) (λ x. members_at one k (length ms) (keys ++ k x.0 ∷ []) x.1 >>= λ others. Ok (x.0 ∷ others.0, others.1)) y first.read
          (bind_at (members_at one k (length ms) (keys ++ k first.value ∷ []) after) (others.values, rest) (λ others. Ok (first.value ∷ others.0, others.1)) y others.read refl);
      each = (first.is, others.each);
    }
members_again pool S R k one f [] (i ∷ is) keys rest fits named fresh apart each = absurd each
members_again pool S R k one f (m ∷ ms) [] keys rest fits named fresh apart each = absurd each

-- one by one the same
each_same : {A : Type 0} (xs ys : List A) → Each (λ x y. x ≡ y) xs ys → xs ≡ ys
each_same [] [] h = refl
each_same (x ∷ xs) (y ∷ ys) h = ap (λ z. z ∷ xs) h.0 ∙ ap (λ zs. y ∷ zs) (each_same xs ys h.1)
each_same [] (y ∷ ys) h = absurd h
each_same (x ∷ xs) [] h = absurd h

fields_again : (pool : List Const) (ms : List Member) (fields : List FieldInfo) (rest : List ℕ) → AllFit MemberFits ms → AreNamed pool ms → Each IsField ms fields
    → fields_at pool (counted member_bytes ms ++ rest) ≡ Ok (fields, rest)
unfolding fields_at
fields_again pool ms fields rest fits named each =
    let y : Read (List FieldInfo) = Ok (fields, rest) in
    let after : List ℕ = flat_map member_bytes ms ++ rest in
    let all = members_again pool IsField (λ (x : FieldInfo) (i : FieldInfo). x ≡ i) (field_key pool) (field_at pool) one ms fields [] rest fits.1 named.0 (fresh_none (map (key pool) ms)) named.1 each in
    let made : List FieldInfo → Read (List FieldInfo) = λ fs. Ok (fs, rest) in
    bind_at (u2_at (u2 (length ms) ++ after)) (length ms, after) _ y (u2_again (length ms) after fits.0) (all.read ∙ ap made (each_same all.values fields all.each))
  where
    one : (keys : List Key) (m : Member) (i : FieldInfo) (rest : List ℕ) → MemberFits m → IsNamed pool m → list_any (same_key (key pool m)) keys ≡ false → IsField m i
        → OneAgain pool (λ (x : FieldInfo) (i : FieldInfo). x ≡ i) (field_key pool) (field_at pool) keys m i rest
    one keys m i rest fits named fresh is = record {
      value = i;
      read = field_again pool keys m i rest fits named fresh is;
      keyed = ap (λ n. key_of pool n i.descriptor) (sym is.1) ∙ ap (λ d. key_of pool m.name d) (sym is.2);
      is = refl;
    }

record MethodsAgain (pool : List Const) (ms : List Member) (infos : List MethodInfo) (rest : List ℕ) : Type 0 where
  pub outlines : List MethodOutline
  pub read : methods_at pool (counted member_bytes ms ++ rest) ≡ Ok (outlines, rest)
  pub each : Each (IsMethodRead pool) outlines infos

methods_again : (pool : List Const) (ms : List Member) (infos : List MethodInfo) (rest : List ℕ) → AllFit MemberFits ms → AreNamed pool ms → Each (IsMethod pool) ms infos
    → MethodsAgain pool ms infos rest
unfolding methods_at
methods_again pool ms infos rest fits named each =
    let after : List ℕ = flat_map member_bytes ms ++ rest in
    let all = members_again pool (IsMethod pool) (IsMethodRead pool) (method_key pool) (method_at pool) one ms infos [] rest fits.1 named.0 (fresh_none (map (key pool) ms)) named.1 each in
    record {
      outlines = all.values;
      read = bind_at (u2_at (u2 (length ms) ++ after)) (length ms, after) _ (Ok (all.values, rest)) (u2_again (length ms) after fits.0) all.read;
      each = all.each;
    }
  where
    one : (keys : List Key) (m : Member) (i : MethodInfo) (rest : List ℕ) → MemberFits m → IsNamed pool m → list_any (same_key (key pool m)) keys ≡ false → IsMethod pool m i
        → OneAgain pool (IsMethodRead pool) (method_key pool) (method_at pool) keys m i rest
    one keys m i rest fits named fresh is =
        let r = method_again pool keys m i rest fits named fresh is in
        record { value = r.outline; read = r.read; keyed = r.keyed; is = r.is }

-- the head of a file
head_again : (o : Outline) (rest : List ℕ) → OutlineFits o → IsTrue (is_version o.major) → AllByRecursion (λ c. IsTrue (refers_well (pool_of o.constants) c)) o.constants
    → head_at (head_bytes o ++ rest) ≡ Ok (((o.minor, o.major), pool_of o.constants), rest)
unfolding head_at
head_again o rest f version_right refers =
    let pool : List Const = pool_of o.constants in
    let y : Read ((ℕ × ℕ) × List Const) = Ok (((o.minor, o.major), pool), rest) in
    let constants : List ℕ = flat_map constant_bytes o.constants ++ rest in
    let count : List ℕ = u2 (1 + length pool) ++ constants in
    let version : List ℕ = u2 o.minor ++ (u2 o.major ++ count) in
    bind_at (magic_at (0xCA ∷ 0xFE ∷ 0xBA ∷ 0xBE ∷ version)) (tt, version) _ y (magic_again version)
    (bind_at (version_at version) ((o.minor, o.major), count) _ y (version_again o.minor o.major count f.minor f.major version_right)
    (bind_at (pool_at count) (pool, rest) _ y (pool_again o.constants rest f.constants f.count)
    (bind_at (all_references_at pool pool constants) tt (λ _. y) y (references_again pool o.constants rest f.constants refers) refl)))

regroup : (h a b c d e f g more : List ℕ) → (h ++ a ++ b ++ c ++ d ++ e ++ f ++ g) ++ more ≡ h ++ (a ++ (b ++ (c ++ (d ++ (e ++ (f ++ (g ++ more)))))))
regroup h a b c d e f g more = simp append_assoc

-- the bytes of an outline, and more behind them: its file is read, and then the end is looked for
pub record OutlineAgain (o : Outline) (file : ClassFile) (more : List ℕ) : Type 0 where
  pub made : FileOutline
  pub read : outline_of (outline_bytes o ++ more) ≡ (demand (length more == 0) fault.Rest more >>= λ _. Ok made)
  pub is : IsFileRead made file

pub outline_to : (o : Outline) (file : ClassFile) (more : List ℕ) → OutlineFits o → Says o file → OutlineAgain o file more
unfolding outline_of
outline_to o file more fits says =
    let pool : List Const = file.pool in
    let e = says.pool in
    let back : List Const → Type 0 = λ p. AllByRecursion (λ c. IsTrue (refers_well p c)) o.constants in
    let refers = subst back (sym e) says.refers in
    let q : List Const = pool_of o.constants in
    let Class = λ (p : List Const) (n : ℕ). IsTrue (names p kind.Class n) in
    let named_fields = subst (λ p. AreNamed p o.fields) (sym e) says.fields_named in
    let named_methods = subst (λ p. AreNamed p o.methods) (sym e) says.methods_named in
    let each_methods = subst (λ p. Each (IsMethod p) o.methods file.methods) (sym e) says.methods in
    let this_class = subst (λ p. Class p o.this) (sym e) (subst (Class file.pool) (sym says.this) says.is_class) in
    let parent_class = subst (λ p. Class p o.parent) (sym e) (subst (Class file.pool) (sym says.parent) says.has_parent) in
    let classes = subst (λ p. AllByRecursion (Class p) o.interfaces) (sym e) (subst (AllByRecursion (Class file.pool)) (sym says.interfaces) says.are_classes) in
    let b7 : List ℕ = counted attribute_bytes o.attributes ++ more in
    let b6 : List ℕ = counted member_bytes o.methods ++ b7 in
    let b5 : List ℕ = counted member_bytes o.fields ++ b6 in
    let b4 : List ℕ = counted u2 o.interfaces ++ b5 in
    let b3 : List ℕ = u2 o.parent ++ b4 in
    let b2 : List ℕ = u2 o.this ++ b3 in
    let b1 : List ℕ = u2 o.access ++ b2 in
    let ms = methods_again q o.methods file.methods b7 fits.methods named_methods each_methods in
    let made : FileOutline = record {
      minor = o.minor;
      major = o.major;
      pool = q;
      access = o.access;
      this = o.this;
      parent = o.parent;
      interfaces = o.interfaces;
      fields = file.fields;
      methods = ms.outlines;
    } in
    let y : Result FileOutline Fault = demand (length more == 0) fault.Rest more >>= λ _. Ok made in
    let read : outline_of (outline_bytes o ++ more) ≡ y =
    ap outline_of (regroup (head_bytes o) (u2 o.access) (u2 o.this) (u2 o.parent) (counted u2 o.interfaces) (counted member_bytes o.fields) (counted member_bytes o.methods) (counted attribute_bytes o.attributes) more)
    ∙ bind_at (head_at (head_bytes o ++ b1)) (((o.minor, o.major), q), b1) _ y
    (head_again o b1 fits (subst (λ n. IsTrue (is_version n)) (sym says.major) says.version) refers)
    (bind_at (u2_at b1) (o.access, b2) _ y (u2_again o.access b2 fits.access)
    (bind_at (index_at q kind.Class b2) (o.this, b3) _ y (index_again q kind.Class o.this b3 fits.this this_class)
    (bind_at (index_at q kind.Class b3) (o.parent, b4) _ y (index_again q kind.Class o.parent b4 fits.parent parent_class)
    (bind_at (interfaces_at q b4) (o.interfaces, b5) _ y (interfaces_again q o.interfaces b5 fits.interfaces classes)
    (bind_at (fields_at q b5) (file.fields, b6) _ y (fields_again q o.fields file.fields b6 fits.fields named_fields says.fields)
    (bind_at (methods_at q b6) (ms.outlines, b7) _ y ms.read
    (bind_at (attributes_at b7) (tt, more) _ y (attributes_again o.attributes more fits.attributes)
    refl))))))) in
    record {
      made = made;
      read = read;
      is = record {
        minor = says.minor;
        major = says.major;
        pool = says.pool;
        access = says.access;
        this = says.this;
        parent = says.parent;
        interfaces = says.interfaces;
        fields = refl;
        methods = ms.each;
      };
    }

pub outline_again : (o : Outline) (file : ClassFile) → OutlineFits o → Says o file → IsReadWhole (outline_bytes o) file
outline_again o file fits says =
    let r = outline_to o file [] fits says in
    (r.made, ap outline_of (sym (append-nil (outline_bytes o))) ∙ r.read, r.is)

pub reads_again : (bytes : List ℕ) (file : ClassFile) → Reads bytes file → IsReadWhole bytes file
reads_again bytes file r = subst (λ b. IsReadWhole b file) (sym r.1.is_spelled) (outline_again r.0 file r.1.fits r.1.says)
