-- Class files link to one set at most.
use Rattle.std.proofs.Common.{◌≡◌, ◌∙◌, ℕ, suc, zero, ◌+◌, ◌-◌, ◌<◌, ◌≤◌, ◌⊎◌, inl, inr, Bool, true, false, if◌then◌else◌, List, [], ◌∷◌, ◌++◌, Option, Some, None, slice_get, refl, sym, ap, subst, map, length, arith, true≢false}
use Rattle.std.specs.List.{flat_map}
use Rattle.std.proofs.Math.Logic.{∥∥₁_elim}
use Rattle.std.proofs.Props.{props}
use Rattle.std.proofs.lemmas.Option.{same_Some, none-some}
use Rattle.std.proofs.lemmas.Bool.{cases_lt}
use Rattle.cf_form.specs.ClassFiles.{Each}
use Rattle.cf_form.specs.Pool.{text_at}
use Rattle.cf_form.specs.declared.class_file.ClassFile.{ClassFile}
use Rattle.cf_form.specs.declared.constant.Const.{Const}
use Rattle.cf_form.specs.declared.constant.Const.TheVariants as constant
use Rattle.cf_link.specs.BuiltIns.{built_ins}
use Rattle.cf_link.specs.Classes.{number_of, methods_of}
use Rattle.cf_link.specs.Layout.{table}
use Rattle.cf_link.specs.Link.{Link}
use Rattle.cf_link.specs.Linked.{IsLinked}
use Rattle.cf_link.specs.OfFiles.{names_of, class_named, has_text, IsAt, each_once, string_text, texts_of, ResolvesBy, Resolves, is_main, IsMain}
use Rattle.cf_link.specs.Resolution.{resolved_field, resolved_method}
use Rattle.cf_link.specs.declared.fault.LinkKind.TheVariants.{Twice}
use Rattle.cf_link.specs.declared.linked.Linked.{Linked}
use Rattle.cf_link.specs.declared.linked_class.LinkedClass.{LinkedClass}
use Rattle.cf_link.specs.declared.reference.LinkedRef.{LinkedRef}
use Rattle.cf_link.specs.declared.reference.LinkedRef.TheVariants as ref
use Rattle.cf_set.specs.Names.{AreDistinct}
use Rattle.cf_set.proofs.Distinct.{get_left, get_right, has_at, names_distinct}
use Rattle.cf_layout.specs.One.{AreSame}
use Rattle.cf_layout.proofs.OneList.{one_list}

-- texts, each once, are different
push_distinct : (texts : List (List ℕ)) (t : List ℕ) → AreDistinct texts → has_text texts t ≡ false → AreDistinct (texts ++ t ∷ [])
push_distinct texts t apart new = λ i j text at at'. by i j text at at' (cases_lt i (length texts)) (cases_lt j (length texts))
  where
    last : (k : ℕ) (text : List ℕ) → slice_get (texts ++ t ∷ []) k ≡ Some text → length texts ≤ k → (t ≡ text) × (k ≡ length texts)
    last k text at past = at_last (k - length texts) (omega (arith, past))
      where
        at_last : (n : ℕ) → k ≡ length texts + n → (t ≡ text) × (k ≡ length texts)
        at_last zero is = (same_Some t text (sym (get_right texts (t ∷ []) 0) ∙ ap (slice_get (texts ++ t ∷ [])) (sym is) ∙ at), omega (arith, is))
        at_last (suc n) is = absurd (none-some text (sym (get_right texts (t ∷ []) (suc n)) ∙ ap (slice_get (texts ++ t ∷ [])) (sym is) ∙ at))

    clash : (k : ℕ) (text : List ℕ) → slice_get (texts ++ t ∷ []) k ≡ Some text → k < length texts → ¬ (t ≡ text)
    clash k text at less same = true≢false (sym (has_at texts k t (sym (get_left texts (t ∷ []) k less) ∙ at ∙ ap Some (sym same))) ∙ new)

    by : (i j : ℕ) (text : List ℕ) → slice_get (texts ++ t ∷ []) i ≡ Some text → slice_get (texts ++ t ∷ []) j ≡ Some text
        → (i < length texts) ⊎ (length texts ≤ i) → (j < length texts) ⊎ (length texts ≤ j) → i ≡ j
    by i j text at at' (inl less) (inl less') = apart i j text (sym (get_left texts (t ∷ []) i less) ∙ at) (sym (get_left texts (t ∷ []) j less') ∙ at')
    by i j text at at' (inl less) (inr past') = absurd (clash i text at less (last j text at' past').0)
    by i j text at at' (inr past) (inl less') = absurd (clash j text at' less' (last i text at past).0)
    by i j text at at' (inr past) (inr past') = (last i text at past).1 ∙ sym (last j text at' past').1

once_distinct : (xs found : List (List ℕ)) → AreDistinct found → AreDistinct (each_once found xs)
once_distinct [] found apart = apart
once_distinct (x ∷ xs) found apart = once_distinct xs (if has_text found x then found else found ++ x ∷ []) (by (has_text found x) refl)
  where
    by : (b : Bool) → has_text found x ≡ b → AreDistinct (if has_text found x then found else found ++ x ∷ [])
    by true is = subst (λ c. AreDistinct (if c then found else found ++ x ∷ [])) (sym is) apart
    by false is = subst (λ c. AreDistinct (if c then found else found ++ x ∷ [])) (sym is) (push_distinct found x apart is)

pub texts_distinct : (files : List ClassFile) → AreDistinct (texts_of files)
texts_distinct files = once_distinct (flat_map (λ file. flat_map (string_text file.pool) file.pool) files) [] (λ i j text at at'. absurd (none-some text at))

-- a text has one number
at_one : (texts : List (List ℕ)) → AreDistinct texts → (i j : ℕ) (o : Option (List ℕ)) → IsAt texts i o → IsAt texts j o → i ≡ j
at_one texts apart i j None at at' = absurd at
at_one texts apart i j (Some text) at at' = apart i j text at at'

module _ (names texts : List (List ℕ)) (apart : AreDistinct names) (apart_texts : AreDistinct texts) (classes : List LinkedClass) (pool : List Const) where
  by_one : (resolved : List LinkedClass → ℕ → List ℕ → List ℕ → Option LinkedRef) (class member : ℕ) (r s : LinkedRef)
      → ResolvesBy resolved names classes pool class member r → ResolvesBy resolved names classes pool class member s → r ≡ s
  by_one resolved class member r s (number, name, descriptor, says, is) (number', name', descriptor', says', is') =
      let same_number : number ≡ number' = at_one names apart number number' (class_named pool class) says.of_class says'.of_class in
      let member_is : Some (constant.NameType says.name_index says.descriptor_index) ≡ Some (constant.NameType says'.name_index says'.descriptor_index) = sym says.of_member ∙ says'.of_member in
      let name_at : says.name_index ≡ says'.name_index = cc member_is in
      let descriptor_at : says.descriptor_index ≡ says'.descriptor_index = cc member_is in
      let same_name : name ≡ name' = same_Some name name' (sym says.named ∙ ap (text_at pool) name_at ∙ says'.named) in
      let same_descriptor : descriptor ≡ descriptor' = same_Some descriptor descriptor' (sym says.described ∙ ap (text_at pool) descriptor_at ∙ says'.described) in
      same_Some r s (sym is ∙ ap (λ n. resolved classes n name descriptor) same_number ∙ ap (λ n. resolved classes number' n descriptor) same_name ∙ ap (resolved classes number' name') same_descriptor ∙ is')

  resolves_one : (c : Const) (r s : LinkedRef) → Resolves names texts classes pool c r → Resolves names texts classes pool c s → r ≡ s
  resolves_one (constant.Int x) r s one other = one ∙ sym other
  resolves_one (constant.Long x) r s one other = one ∙ sym other
  resolves_one (constant.Text text) r s one other = one.1 ∙ ap ref.Text (at_one texts apart_texts one.0 other.0 (text_at pool text) one.2 other.2) ∙ sym other.1
  resolves_one (constant.Class name) r s one other = one.1 ∙ ap ref.Class (at_one names apart one.0 other.0 (text_at pool name) one.2 other.2) ∙ sym other.1
  resolves_one (constant.Field class member) r s one other = by_one resolved_field class member r s one other
  resolves_one (constant.Method class member) r s one other = by_one resolved_method class member r s one other
  resolves_one (constant.Interface class member) r s one other = by_one resolved_method class member r s one other
  resolves_one _ r s one other = one ∙ sym other

  entries_one : (cs : List Const) (rs ss : List LinkedRef) → Each (Resolves names texts classes pool) cs rs → Each (Resolves names texts classes pool) cs ss → rs ≡ ss
  entries_one [] [] [] one other = refl
  entries_one (c ∷ cs) (r ∷ rs) (s ∷ ss) one other = ap (λ x. x ∷ rs) (resolves_one c r s one.0 other.0) ∙ ap (λ xs. s ∷ xs) (entries_one cs rs ss one.1 other.1)
  entries_one [] [] (s ∷ ss) one other = absurd other
  entries_one [] (r ∷ rs) ss one other = absurd one
  entries_one (c ∷ cs) [] ss one other = absurd one
  entries_one (c ∷ cs) (r ∷ rs) [] one other = absurd other

-- what the entries of pools resolve to
abbrev AreRefs : List (List ℕ) → List (List ℕ) → List LinkedClass → List (List Const) → List (List LinkedRef) → Type 0
AreRefs names texts classes pools refs = Each (λ pool refs. Each (Resolves names texts classes pool) pool refs) pools refs

refs_one : (names texts : List (List ℕ)) → AreDistinct names → AreDistinct texts → (classes : List LinkedClass) (pools : List (List Const)) (rs ss : List (List LinkedRef))
    → AreRefs names texts classes pools rs → AreRefs names texts classes pools ss → rs ≡ ss
refs_one names texts apart apart' classes [] [] [] one other = refl
refs_one names texts apart apart' classes (p ∷ pools) (r ∷ rs) (s ∷ ss) one other =
    ap (λ x. x ∷ rs) (entries_one names texts apart apart' classes p p r s one.0 other.0) ∙ ap (λ xs. s ∷ xs) (refs_one names texts apart apart' classes pools rs ss one.1 other.1)
refs_one names texts apart apart' classes [] [] (s ∷ ss) one other = absurd other
refs_one names texts apart apart' classes [] (r ∷ rs) ss one other = absurd one
refs_one names texts apart apart' classes (p ∷ pools) [] ss one other = absurd one
refs_one names texts apart apart' classes (p ∷ pools) (r ∷ rs) [] one other = absurd other

main_one : (files : List ClassFile) → AreDistinct (names_of files) → (classes : List LinkedClass) (m n : ℕ × ℕ) → IsMain files classes m → IsMain files classes n → m ≡ n
main_one files apart classes m n one other =
    let class : m.0 ≡ n.0 = apart m.0 n.0 _ one.class other.class in
    let method : m.1 ≡ n.1 = same_Some m.1 n.1 (sym one.method ∙ ap (λ c. number_of is_main (methods_of classes c)) class ∙ other.method) in
    ap (λ c. (c, m.1)) class ∙ ap (λ i. (n.0, i)) method

-- lists with the same at each number, and as many
same_lists : {A : Type 0} (a b : List A) → length a ≡ length b → ((k : ℕ) (x y : A) → slice_get a k ≡ Some x → slice_get b k ≡ Some y → x ≡ y) → a ≡ b
same_lists [] [] count each = refl
same_lists [] (y ∷ b) count each = absurd (omega (arith, count))
same_lists (x ∷ a) [] count each = absurd (omega (arith, count))
same_lists (x ∷ a) (y ∷ b) count each = ap (λ c. c ∷ a) (each 0 x y refl refl) ∙ ap (λ cs. y ∷ cs) (same_lists a b (omega (arith, count)) (λ k x y at at'. each (suc k) x y at at'))

tables_one : (k l : Linked) → k.classes ≡ l.classes → IsLinked k.classes k.tables k.refs k.texts k.main → IsLinked l.classes l.tables l.refs l.texts l.main → k.tables ≡ l.tables
tables_one k l classes one other =
    same_lists k.tables l.tables (one.tables_count ∙ ap length classes ∙ sym other.tables_count)
    (λ class t u at at'. one.each_table class t at ∙ ap (λ cs. table cs class) classes ∙ sym (other.each_table class u at'))

pub one_set : (files : List ClassFile) (k l : Linked) → Link files k → Link files l → AreSame k l
one_set files k l one other = record {
  classes = classes;
  tables = ∥∥₁_elim k.linked (Prim.hlevel props) (λ (is : IsLinked k.classes k.tables k.refs k.texts k.main).
      ∥∥₁_elim l.linked (Prim.hlevel props) (λ (is' : IsLinked l.classes l.tables l.refs l.texts l.main). tables_one k l classes is is'));
  refs = refs_one (names_of files) k.texts apart apart_texts k.classes (map (λ _. []) built_ins ++ map (λ f. f.pool) files) k.refs l.refs one.refs
      (subst (λ ts. AreRefs (names_of files) ts k.classes (map (λ _. []) built_ins ++ map (λ f. f.pool) files) l.refs) (sym texts)
      (subst (λ cs. AreRefs (names_of files) l.texts cs (map (λ _. []) built_ins ++ map (λ f. f.pool) files) l.refs) (sym classes) other.refs));
  texts = texts;
  main = main_one files apart k.classes k.main l.main one.main (subst (λ cs. IsMain files cs l.main) (sym classes) other.main);
}
  where
    apart : AreDistinct (names_of files)
    apart = names_distinct files (one.faultless Twice)

    classes : k.classes ≡ l.classes
    classes = one_list files k.classes l.classes (one.faultless Twice) one.classes other.classes

    texts : k.texts ≡ l.texts
    texts = one.texts ∙ sym other.texts

    apart_texts : AreDistinct k.texts
    apart_texts = subst AreDistinct (sym one.texts) (texts_distinct files)
