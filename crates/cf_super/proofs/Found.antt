-- The classes that the indexes of files name are there, by one number each.
use Rattle.std.proofs.Common.{◌<◌, ◌≡◌, ◌∙◌, ℕ, suc, zero, Bool, true, false, List, [], ◌∷◌, ◌++◌, length, slice_get, Option, Some, None, refl, sym, ap, subst, true≢false, IsTrue}
use Rattle.std.specs.Prelude.{option_to_list, option_and_then}
use Rattle.std.specs.List.{All, AllByRecursion, flat_map}
use Rattle.std.proofs.lemmas.Option.{slice_get_within, get_or_from_slice_get, none-some}
use Rattle.std.proofs.lemmas.List.Elements.{recursion_from_All, All-nil, All-cons}
use Rattle.cf_form.specs.ClassFiles.{Each}
use Rattle.cf_form.specs.Pool.{entry, names, is_some_of, text_at, text_by, refers_well}
use Rattle.cf_form.specs.declared.class_file.ClassFile.{ClassFile}
use Rattle.cf_form.specs.declared.constant.Const.{Const}
use Rattle.cf_form.specs.declared.constant.Const.TheVariants as constant
use Rattle.cf_form.specs.declared.kind.Kind.TheVariants as kind
use Rattle.cf_link.specs.Faults.{no_class, HasNone, AreAbove}
use Rattle.cf_link.specs.OfFiles.{names_of, class_named, text_of, has_text, IsAt}
use Rattle.cf_link.specs.declared.fault.LinkKind.TheVariants.{NoClass}
use Rattle.cf_set.specs.Indexes.{IsIndexed, number_at}
use Rattle.cf_set.specs.Names.{AreDistinct, number_in}
use Rattle.cf_set.proofs.Distinct as distinct
use Rattle.cf_super.specs.Rows.{numbered_at, row_of}

pub all_at : {A : Type 0} (P : A → Type 0) (xs : List A) (i : ℕ) (x : A) → All P xs → slice_get xs i ≡ Some x → P x
all_at P xs i x all at = subst P (get_or_from_slice_get xs i x x at) (all i x (slice_get_within xs i x at))

-- an index of a class and what it names
record NamesClass (pool : List Const) (index : ℕ) : Type 0 where
  text : ℕ
  is : entry pool index ≡ Some (constant.Class text)

names_class : (pool : List Const) (index : ℕ) → IsTrue (names pool kind.Class index) → NamesClass pool index
names_class pool index is = by (entry pool index) refl is
  where
    by : (o : Option Const) → entry pool index ≡ o → is_some_of kind.Class o ≡ true → NamesClass pool index
    by None at one = absurd (true≢false (sym one))
    by (Some (constant.Class text)) at one = record { text = text; is = at }
    by (Some _) at one = absurd (true≢false (sym one))

names_text : (pool : List Const) (index : ℕ) → IsTrue (names pool kind.Utf8 index) → (text : List ℕ) × (text_at pool index ≡ Some text)
names_text pool index is = by (entry pool index) refl is
  where
    by : (o : Option Const) → entry pool index ≡ o → is_some_of kind.Utf8 o ≡ true → (text : List ℕ) × (text_at pool index ≡ Some text)
    by None at one = absurd (true≢false (sym one))
    by (Some (constant.Utf8 text)) at one = (text, ap text_by at)
    by (Some _) at one = absurd (true≢false (sym one))

-- an entry refers well
refers : (pool : List Const) → All (λ c. IsTrue (refers_well pool c)) pool → (index : ℕ) (c : Const) → entry pool index ≡ Some c → IsTrue (refers_well pool c)
refers pool all zero c at = absurd (none-some c at)
refers pool all (suc n) c at = all_at (λ c. IsTrue (refers_well pool c)) pool n c all at

-- the class that an index names is there
pub record IsThere (names : List (List ℕ)) (pool : List Const) (index : ℕ) : Type 0 where
  pub name : List ℕ
  pub number : ℕ
  pub named : class_named pool index ≡ Some name
  pub numbered : number_in names name ≡ Some number

pub there : (files : List ClassFile) → HasNone files NoClass → (i : ℕ) (file : ClassFile) → slice_get files i ≡ Some file → IsIndexed file
    → (index : ℕ) → IsTrue (names file.pool kind.Class index) → IsThere (names_of files) file.pool index
there files none i file at indexed index is = record {
  name = text.0;
  number = number.0;
  named = ap (text_of file.pool) class.is ∙ text.1;
  numbered = number.1;
}
  where
    class : NamesClass file.pool index
    class = names_class file.pool index is

    text : (t : List ℕ) × (text_at file.pool class.text ≡ Some t)
    text = names_text file.pool class.text (refers file.pool indexed.entries index (constant.Class class.text) class.is)

    has : (b : Bool) → has_text (names_of files) text.0 ≡ b → has_text (names_of files) text.0 ≡ true
    has true is = is
    has false is = absurd (none i index text.0 (no_class i index class.text file text.0 at class.is text.1 (λ yes. true≢false (sym yes ∙ is))))

    number : (n : ℕ) × (number_in (names_of files) text.0 ≡ Some n)
    number = distinct.number_there (names_of files) text.0 (has (has_text (names_of files) text.0) refl)

-- one number stands for it
pub one_number : (names : List (List ℕ)) (pool : List Const) (index : ℕ) → (t : IsThere names pool index)
    → (number_at names pool index ≡ Some t.number) × (numbered_at names pool index ≡ t.number ∷ []) × IsAt names t.number (class_named pool index)
one_number names pool index t =
    let is : number_at names pool index ≡ Some t.number = ap (option_and_then (number_in names)) t.named ∙ t.numbered in
    (is, ap option_to_list is, subst (IsAt names t.number) (sym t.named) (distinct.numbered_at names t.name t.number t.numbered))

-- a number whose name an index names is the one that is found
pub number_found : (names : List (List ℕ)) → AreDistinct names → (pool : List Const) (index number : ℕ) → IsAt names number (class_named pool index) → number_at names pool index ≡ Some number
number_found names apart pool index number at = by (class_named pool index) refl at
  where
    by : (o : Option (List ℕ)) → class_named pool index ≡ o → IsAt names number o → number_at names pool index ≡ Some number
    by None is none = absurd none
    by (Some name) is here = ap (option_and_then (number_in names)) is ∙ distinct.number_of_place names apart number name here

-- and the other way
pub found_number : (names : List (List ℕ)) (pool : List Const) (index number : ℕ) → number_at names pool index ≡ Some number → IsAt names number (class_named pool index)
found_number names pool index number found = by (class_named pool index) refl
  where
    by : (o : Option (List ℕ)) → class_named pool index ≡ o → IsAt names number (class_named pool index)
    by None is = absurd (none-some number (sym (ap (option_and_then (number_in names)) is) ∙ found))
    by (Some name) is = subst (IsAt names number) (sym is) (distinct.numbered_at names name number (sym (ap (option_and_then (number_in names)) is) ∙ found))

-- the classes at indexes
abbrev pub AreAt : List (List ℕ) → List Const → List ℕ → List ℕ → Type 0
AreAt names pool indexes numbers = Each (λ index number. IsAt names number (class_named pool index)) indexes numbers

pub each_there : (names : List (List ℕ)) (pool : List Const) (indexes : List ℕ) → AllByRecursion (IsThere names pool) indexes → AreAt names pool indexes (flat_map (numbered_at names pool) indexes)
each_there names pool [] all = tt
each_there names pool (index ∷ indexes) all =
    let one = one_number names pool index all.0 in
    subst (λ xs. AreAt names pool (index ∷ indexes) (xs ++ flat_map (numbered_at names pool) indexes)) (sym one.1) (one.2, each_there names pool indexes all.1)

pub each_only : (names : List (List ℕ)) → AreDistinct names → (pool : List Const) (indexes numbers : List ℕ) → AreAt names pool indexes numbers → flat_map (numbered_at names pool) indexes ≡ numbers
each_only names apart pool [] [] are = refl
each_only names apart pool (index ∷ indexes) (number ∷ numbers) are =
    ap (λ o. option_to_list o ++ flat_map (numbered_at names pool) indexes) (number_found names apart pool index number are.0)
    ∙ ap (λ xs. number ∷ xs) (each_only names apart pool indexes numbers are.1)
each_only names apart pool _ _ are = absurd are

each_within : (names : List (List ℕ)) (pool : List Const) (indexes numbers : List ℕ) → AreAt names pool indexes numbers → All (λ number. number < length names) numbers
each_within names pool [] [] are = All-nil (λ number. number < length names)
each_within names pool (index ∷ indexes) (number ∷ numbers) are =
    All-cons (λ number. number < length names) number numbers (by (class_named pool index) are.0) (each_within names pool indexes numbers are.1)
  where
    by : (o : Option (List ℕ)) → IsAt names number o → number < length names
    by None none = absurd none
    by (Some name) at = slice_get_within names number name at
each_within names pool _ _ are = absurd are

-- the classes above a file's class are there
pub above_there : (files : List ClassFile) → HasNone files NoClass → (i : ℕ) (file : ClassFile) → slice_get files i ≡ Some file → IsIndexed file
    → AreAbove (names_of files) file (row_of (names_of files) file)
above_there files none i file at indexed =
    each_there (names_of files) file.pool (file.parent ∷ file.interfaces)
    (there files none i file at indexed file.parent indexed.parent, weaker file.interfaces (recursion_from_All _ file.interfaces indexed.interfaces))
  where
    weaker : (indexes : List ℕ) → AllByRecursion (λ index. IsTrue (names file.pool kind.Class index)) indexes → AllByRecursion (IsThere (names_of files) file.pool) indexes
    weaker [] all = tt
    weaker (index ∷ indexes) all = (there files none i file at indexed index all.0, weaker indexes all.1)

pub above_within : (names : List (List ℕ)) (file : ClassFile) (numbers : List ℕ) → AreAbove names file numbers → All (λ number. number < length names) numbers
above_within names file numbers are = each_within names file.pool (file.parent ∷ file.interfaces) numbers are
