-- The indexes of what is read.
use Rattle.std.proofs.Common.{◌≡◌, ℕ, List, [], ◌∷◌, ◌++◌, map, refl, sym, ap, subst, IsTrue}
use Rattle.std.specs.List.{All, AllByRecursion, flat_map}
use Rattle.std.proofs.lemmas.List.Elements.{All-from_recursion}
use Rattle.cf_form.specs.Pool.{entries_of, pool_of, names, refers_well}
use Rattle.cf_form.specs.Outline.{Member, Outline}
use Rattle.cf_form.specs.ClassFiles.{Each, Reads, ReadsBy, Says, IsField, IsMethod, IsNamed}
use Rattle.cf_form.specs.declared.class_file.ClassFile.{ClassFile}
use Rattle.cf_form.specs.declared.class_file.FieldInfo.{FieldInfo}
use Rattle.cf_form.specs.declared.class_file.MethodInfo.{MethodInfo}
use Rattle.cf_form.specs.declared.constant.Const.{Const}
use Rattle.cf_form.specs.declared.constant.Const.TheVariants as constant
use Rattle.cf_form.specs.declared.kind.Kind.TheVariants as kind
use Rattle.cf_set.specs.Indexes.{AreTexts, IsIndexed}

fields_texts : (pool : List Const) (members : List Member) (fields : List FieldInfo) → AllByRecursion (IsNamed pool) members → Each IsField members fields
    → AllByRecursion (λ (f : FieldInfo). AreTexts pool f.name f.descriptor) fields
fields_texts pool [] [] named are = tt
fields_texts pool (m ∷ members) (f ∷ fields) named are = (
  (subst (λ n. IsTrue (names pool kind.Utf8 n)) are.0.1 named.0.0, subst (λ n. IsTrue (names pool kind.Utf8 n)) are.0.2 named.0.1),
  fields_texts pool members fields named.1 are.1,
)
fields_texts pool _ _ named are = absurd are

methods_texts : (pool : List Const) (members : List Member) (methods : List MethodInfo) → AllByRecursion (IsNamed pool) members → Each (IsMethod pool) members methods
    → AllByRecursion (λ (m : MethodInfo). AreTexts pool m.name m.descriptor) methods
methods_texts pool [] [] named are = tt
methods_texts pool (m ∷ members) (f ∷ methods) named are = (
  (subst (λ n. IsTrue (names pool kind.Utf8 n)) are.0.1 named.0.0, subst (λ n. IsTrue (names pool kind.Utf8 n)) are.0.2 named.0.1),
  methods_texts pool members methods named.1 are.1,
)
methods_texts pool _ _ named are = absurd are

-- what holds of the constants holds of the entries that they take
entries_refer : (pool : List Const) (constants : List Const) → AllByRecursion (λ c. IsTrue (refers_well pool c)) constants
    → AllByRecursion (λ c. IsTrue (refers_well pool c)) (pool_of constants)
entries_refer pool [] all = tt
entries_refer pool (constant.Long x ∷ constants) all = (all.0, (refl, entries_refer pool constants all.1))
entries_refer pool (constant.Double x ∷ constants) all = (all.0, (refl, entries_refer pool constants all.1))
entries_refer pool (c ∷ constants) all = (all.0, entries_refer pool constants all.1)

pub indexed : (bytes : List ℕ) (file : ClassFile) → Reads bytes file → IsIndexed file
indexed bytes file (o, reads) =
    let says = reads.says in
    record {
      this = says.is_class;
      parent = says.has_parent;
      interfaces = All-from_recursion _ file.interfaces says.are_classes;
      fields = All-from_recursion _ file.fields (fields_texts file.pool o.fields file.fields says.fields_named.0 says.fields);
      methods = All-from_recursion _ file.methods (methods_texts file.pool o.methods file.methods says.methods_named.0 says.methods);
      entries = All-from_recursion _ file.pool (subst (AllByRecursion (λ c. IsTrue (refers_well file.pool c))) says.pool (entries_refer file.pool o.constants says.refers));
    }
