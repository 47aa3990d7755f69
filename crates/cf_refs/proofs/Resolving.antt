-- What is looked up for an entry is what it resolves to.
use Rattle.std.proofs.Common.{◌≡◌, ◌∙◌, ℕ, List, Option, Some, None, refl, sym, ap}
use Rattle.std.specs.Prelude.{option_map, option_and_then}
use Rattle.std.proofs.lemmas.Option.{none-some, same_Some}
use Rattle.cf_form.specs.Pool.{entry, text_at}
use Rattle.cf_form.specs.declared.constant.Const.{Const}
use Rattle.cf_form.specs.declared.constant.Const.TheVariants as constant
use Rattle.cf_link.specs.Faults.{Lacks, LacksBy}
use Rattle.cf_link.specs.OfFiles.{class_named, IsAt, Says, ResolvesBy, Resolves}
use Rattle.cf_link.specs.Resolution.{resolved_field, resolved_method}
use Rattle.cf_link.specs.declared.linked_class.LinkedClass.{LinkedClass}
use Rattle.cf_link.specs.declared.reference.LinkedRef.{LinkedRef}
use Rattle.cf_link.specs.declared.reference.LinkedRef.TheVariants as ref
use Rattle.cf_set.specs.Indexes.{number_at}
use Rattle.cf_set.specs.Names.{AreDistinct, number_in}
use Rattle.cf_set.proofs.Distinct.{numbered_at, number_of_place, mapped_back}
use Rattle.cf_super.proofs.Found.{number_found, found_number}
use Rattle.cf_refs.specs.Entries.{text_number, member_by, reference_by, resolved}

-- a text that has a number stands at it
text_found : (texts : List (List ℕ)) (pool : List Const) (index n : ℕ) → text_number texts pool index ≡ Some n → IsAt texts n (text_at pool index)
text_found texts pool index n found = by (text_at pool index) found
  where
    by : (o : Option (List ℕ)) → option_and_then (number_in texts) o ≡ Some n → IsAt texts n o
    by None is = absurd (none-some n is)
    by (Some text) is = numbered_at texts text n is

-- and the other way
found_text : (texts : List (List ℕ)) → AreDistinct texts → (pool : List Const) (index n : ℕ) → IsAt texts n (text_at pool index) → text_number texts pool index ≡ Some n
found_text texts apart pool index n at = by (text_at pool index) at
  where
    by : (o : Option (List ℕ)) → IsAt texts n o → option_and_then (number_in texts) o ≡ Some n
    by None is = absurd is
    by (Some text) is = number_of_place texts apart n text is

module _ (found : List LinkedClass → ℕ → List ℕ → List ℕ → Option LinkedRef) (names : List (List ℕ)) (classes : List LinkedClass) (pool : List Const) (class member : ℕ) where
  by_texts : (number : ℕ) → IsAt names number (class_named pool class) → (n d : ℕ) → entry pool member ≡ Some (constant.NameType n d) → (a b : Option (List ℕ))
      → text_at pool n ≡ a → text_at pool d ≡ b → (r : LinkedRef) → option_and_then (λ name. option_and_then (found classes number name) b) a ≡ Some r
      → ResolvesBy found names classes pool class member r
  by_texts number at n d is None b named described r gives = absurd (none-some r gives)
  by_texts number at n d is (Some name) None named described r gives = absurd (none-some r gives)
  by_texts number at n d is (Some name) (Some descriptor) named described r gives = (
    number,
    name,
    descriptor,
    record {
      name_index = n;
      descriptor_index = d;
      of_class = at;
      of_member = is;
      named = named;
      described = described;
    },
    gives,
  )

  by_member : (number : ℕ) → IsAt names number (class_named pool class) → (o : Option Const) → entry pool member ≡ o → (r : LinkedRef)
      → member_by (found classes number) pool o ≡ Some r → ResolvesBy found names classes pool class member r
  by_member number at None is r gives = absurd (none-some r gives)
  by_member number at (Some (constant.NameType n d)) is r gives = by_texts number at n d is (text_at pool n) (text_at pool d) refl refl r gives
  by_member number at (Some _) is r gives = absurd (none-some r gives)

  by_class : (o : Option ℕ) → number_at names pool class ≡ o → (r : LinkedRef) → option_and_then (λ number. member_by (found classes number) pool (entry pool member)) o ≡ Some r
      → ResolvesBy found names classes pool class member r
  by_class None is r gives = absurd (none-some r gives)
  by_class (Some number) is r gives = by_member number (found_number names pool class number is) (entry pool member) refl r gives

  -- what a reference that is looked up resolves to
  looked_up_by : (r : LinkedRef) → reference_by (found classes) names pool class member ≡ Some r → ResolvesBy found names classes pool class member r
  looked_up_by r gives = by_class (number_at names pool class) refl r gives

  -- what a reference says is looked up
  says_is : AreDistinct names → (number : ℕ) (name descriptor : List ℕ) → Says names pool class member number name descriptor
      → reference_by (found classes) names pool class member ≡ found classes number name descriptor
  says_is apart number name descriptor says =
      ap (option_and_then (λ n. member_by (found classes n) pool (entry pool member))) (number_found names apart pool class number says.of_class)
      ∙ ap (member_by (found classes number) pool) says.of_member
      ∙ ap (option_and_then (λ n. option_and_then (found classes number n) (text_at pool says.descriptor_index))) says.named
      ∙ ap (option_and_then (found classes number name)) says.described

  whole_by : AreDistinct names → (r : LinkedRef) → ResolvesBy found names classes pool class member r → reference_by (found classes) names pool class member ≡ Some r
  whole_by apart r (number, name, descriptor, says, gives) = says_is apart number name descriptor says ∙ gives

  lacking_by : AreDistinct names → (told : List ℕ) → LacksBy found names classes pool class member told → reference_by (found classes) names pool class member ≡ None
  lacking_by apart told (named, (number, name, descriptor, says, none)) = says_is apart number name descriptor says ∙ none

pub looked_up : (names texts : List (List ℕ)) (classes : List LinkedClass) (pool : List Const) (c : Const) (r : LinkedRef) → resolved names texts classes pool c ≡ Some r → Resolves names texts classes pool c r
looked_up names texts classes pool (constant.Int x) r is = sym (same_Some (ref.Int x) r is)
looked_up names texts classes pool (constant.Long x) r is = sym (same_Some (ref.Long x) r is)
looked_up names texts classes pool (constant.Text text) r is =
    let found = mapped_back (λ n. ref.Text n) (text_number texts pool text) r is in
    (found.0, sym found.2, text_found texts pool text found.0 found.1)
looked_up names texts classes pool (constant.Class name) r is =
    let found = mapped_back (λ n. ref.Class n) (text_number names pool name) r is in
    (found.0, sym found.2, text_found names pool name found.0 found.1)
looked_up names texts classes pool (constant.Field class member) r is = looked_up_by resolved_field names classes pool class member r is
looked_up names texts classes pool (constant.Method class member) r is = looked_up_by resolved_method names classes pool class member r is
looked_up names texts classes pool (constant.Interface class member) r is = looked_up_by resolved_method names classes pool class member r is
looked_up names texts classes pool _ r is = sym (same_Some ref.Other r is)

pub whole : (names texts : List (List ℕ)) → AreDistinct names → AreDistinct texts → (classes : List LinkedClass) (pool : List Const) (c : Const) (r : LinkedRef) → Resolves names texts classes pool c r → resolved names texts classes pool c ≡ Some r
whole names texts apart apart' classes pool (constant.Int x) r is = ap Some (sym is)
whole names texts apart apart' classes pool (constant.Long x) r is = ap Some (sym is)
whole names texts apart apart' classes pool (constant.Text text) r is = ap (option_map (λ n. ref.Text n)) (found_text texts apart' pool text is.0 is.2) ∙ ap Some (sym is.1)
whole names texts apart apart' classes pool (constant.Class name) r is = ap (option_map (λ n. ref.Class n)) (found_text names apart pool name is.0 is.2) ∙ ap Some (sym is.1)
whole names texts apart apart' classes pool (constant.Field class member) r is = whole_by resolved_field names classes pool class member apart r is
whole names texts apart apart' classes pool (constant.Method class member) r is = whole_by resolved_method names classes pool class member apart r is
whole names texts apart apart' classes pool (constant.Interface class member) r is = whole_by resolved_method names classes pool class member apart r is
whole names texts apart apart' classes pool _ r is = ap Some (sym is)

pub lacking : (names texts : List (List ℕ)) → AreDistinct names → (classes : List LinkedClass) (pool : List Const) (c : Const) (told : List ℕ) → Lacks names classes pool c told → resolved names texts classes pool c ≡ None
lacking names texts apart classes pool (constant.Field class member) told lacks = lacking_by resolved_field names classes pool class member apart told lacks
lacking names texts apart classes pool (constant.Method class member) told lacks = lacking_by resolved_method names classes pool class member apart told lacks
lacking names texts apart classes pool (constant.Interface class member) told lacks = lacking_by resolved_method names classes pool class member apart told lacks
lacking names texts apart classes pool _ told lacks = absurd lacks
