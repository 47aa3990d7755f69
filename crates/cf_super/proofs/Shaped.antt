-- Whether files' classes are of the right shape.
use Rattle.std.proofs.Common.{◌≤◌, ◌<◌, ◌⊎◌, inl, inr, ◌≡◌, ◌∙◌, ℕ, ◌+◌, Bool, true, false, not, List, length, map, get_or, take, slice_get, Option, Some, None, refl, sym, ap, subst, arith, cond, true≢false}
use Rattle.std.specs.Bool.{Decides}
use Rattle.std.specs.Prelude.{◌==◌, option_map}
use Rattle.std.specs.List.{All}
use Rattle.std.specs.Option.{unwrap_or}
use Rattle.std.proofs.lemmas.Option.{slice_get-map, slice_get-get_or, slice_get_within, get_or_from_slice_get, none-some, same_Some}
use Rattle.std.proofs.lemmas.Bool.{agree_below, agree_below_at, cases_lt, not-true, not_from_false}
use Rattle.std.proofs.lemmas.List.{take_all}
use Rattle.std.proofs.lemmas.List.Elements.{All-more}
use Rattle.cf_form.specs.declared.class_file.ClassFile.{ClassFile}
use Rattle.cf_link.specs.BuiltIns.{built_ins}
use Rattle.cf_link.specs.Classes.{is_interface_access}
use Rattle.cf_link.specs.Faults.{IsFault, shape, HasNone, IsFieldText, IsMethodText, IsDescriptor, field, method, interface_at, IsInterfaceAt, IsShaped}
use Rattle.cf_link.specs.OfFiles.{names_of}
use Rattle.cf_link.specs.declared.built_in.TheConstants.{BUILT_INS, RUNNABLE}
use Rattle.cf_link.specs.declared.fault.LinkKind.TheVariants.{Twice, Shape}
use Rattle.cf_set.specs.Indexes.{number_at}
use Rattle.cf_set.proofs.Distinct.{get_left, get_right, names_distinct}
use Rattle.cf_set.proofs.Twice.{earlier}
use Rattle.cf_super.specs.First.{IsFirstShape}
use Rattle.cf_super.proofs.Found.{all_at, number_found, found_number}

-- whether a built-in class is an interface
abbrev built_in_interface : ℕ → Bool
built_in_interface number = unwrap_or (option_map is_interface_access (slice_get (map (λ b. b.access) built_ins) number)) false

built_in_agree : agree_below (λ number. number == RUNNABLE) built_in_interface BUILT_INS ≡ true
built_in_agree = refl

pub built_in_is : (files : List ClassFile) (number : ℕ) → number < BUILT_INS → (number == RUNNABLE) ≡ interface_at files number
built_in_is files number below =
    agree_below_at (λ number. number == RUNNABLE) built_in_interface BUILT_INS number built_in_agree below
    ∙ ap (λ o. unwrap_or (option_map is_interface_access o) false) (sym (get_left (map (λ b. b.access) built_ins) (map (λ f. f.access) files) number below))

pub of_file_is : (files : List ClassFile) (number i : ℕ) → number ≡ BUILT_INS + i → unwrap_or (option_map (λ f. is_interface_access f.access) (slice_get files i)) false ≡ interface_at files number
of_file_is files number i is = sym (
    ap (interface_at files) is
    ∙ ap (λ o. unwrap_or (option_map is_interface_access o) false) (get_right (map (λ b. b.access) built_ins) (map (λ f. f.access) files) i ∙ slice_get-map (λ f. f.access) files i)
    ∙ twice (slice_get files i))
  where
    twice : (o : Option ClassFile) → unwrap_or (option_map is_interface_access (option_map (λ f. f.access) o)) false ≡ unwrap_or (option_map (λ f. is_interface_access f.access) o) false
    twice None = refl
    twice (Some f) = refl

-- what is found of the class at an index
pub is_at_found : (files : List ClassFile) → HasNone files Twice → (is : Bool) (file : ClassFile) (index number : ℕ) → number_at (names_of files) file.pool index ≡ Some number
    → Decides (cond is (interface_at files number) (not (interface_at files number))) (IsInterfaceAt files is file index)
is_at_found files different is file index number found = (
  λ test other at.
      (let same : other ≡ number = same_Some other number (sym (number_found (names_of files) (names_distinct files different) file.pool index other at) ∙ found) in
      ap (interface_at files) same ∙ as_is is (interface_at files number) test),
  λ all. test_of is (interface_at files number) (all number (found_number (names_of files) file.pool index number found)),
)
  where
    as_is : (is b : Bool) → cond is b (not b) ≡ true → b ≡ is
    as_is true b test = test
    as_is false b test = not-true b test

    test_of : (is b : Bool) → b ≡ is → cond is b (not b) ≡ true
    test_of true b same = same
    test_of false b same = not_from_false b same

pub is_at_none : (files : List ClassFile) → HasNone files Twice → (is : Bool) (file : ClassFile) (index : ℕ) → number_at (names_of files) file.pool index ≡ None
    → Decides true (IsInterfaceAt files is file index)
is_at_none files different is file index none = (
  λ test other at. absurd (none-some other (sym none ∙ number_found (names_of files) (names_distinct files different) file.pool index other at)),
  λ all. refl,
)

-- what a fault of the kind says
record SaysShape (files : List ClassFile) (i : ℕ) : Type 0 where
  file : ClassFile
  there : slice_get files i ≡ Some file
  unshaped : ¬ (IsShaped files file)

says_shape : (files : List ClassFile) (i n : ℕ) (told : List ℕ) → IsFault files Shape i n told → SaysShape files i
says_shape files i n told (shape _ file there unshaped) = record { file = file; there = there; unshaped = unshaped }

-- the first files are of the right shape
abbrev pub ShapedTo : List ClassFile → ℕ → Type 0
ShapedTo files i = (k : ℕ) (file : ClassFile) → k < i → slice_get files k ≡ Some file → IsShaped files file

pub shaped_more : (files : List ClassFile) (i : ℕ) (file : ClassFile) → slice_get files i ≡ Some file → IsShaped files file → ShapedTo files i → ShapedTo files (i + 1)
shaped_more files i file there here before k f below at = by (cases_lt k i)
  where
    by : (k < i) ⊎ (i ≤ k) → IsShaped files f
    by (inl less) = before k f less at
    by (inr past) =
        let place : k ≡ i = omega (arith, below, past) in
        let same : file ≡ f = same_Some file f (sym there ∙ ap (slice_get files) (sym place) ∙ at) in
        subst (IsShaped files) same here

pub first_shape : (files : List ClassFile) (i : ℕ) (file : ClassFile) → slice_get files i ≡ Some file → ¬ (IsShaped files file) → ShapedTo files i → IsFirstShape files i
first_shape files i file there unshaped before = (
  file,
  there,
  record {
    is = shape i file there unshaped;
    first = λ j n name fault sooner.
        (let says = says_shape files j n name fault in
        says.unshaped (before j says.file (earlier Shape Shape j n i 0 refl refl sooner) says.there));
  },
)

pub none_shape : (files : List ClassFile) (i : ℕ) → length files ≤ i → ShapedTo files i → HasNone files Shape
none_shape files i all before = λ j n name fault.
    (let says = says_shape files j n name fault in
    says.unshaped (before j says.file (let within = slice_get_within files j says.file says.there in omega (arith, within, all)) says.there))

-- one more of a list that passes
pub decided_all : {A : Type 0} (P : A → Type 0) (xs : List A) (i : ℕ) → length xs ≤ i → All P (take i xs) → Decides true (All P xs)
decided_all P xs i past all = (λ test. subst (All P) (take_all i xs past) all, λ yes. refl)

pub decided_none : {A : Type 0} (P : A → Type 0) (xs : List A) (i : ℕ) (x : A) → slice_get xs i ≡ Some x → (b : Bool) → Decides b (P x) → b ≡ false → Decides false (All P xs)
decided_none P xs i x at b fact fails = (λ test. absurd (true≢false (sym test)), λ all. absurd (true≢false (sym (fact.1 (all_at P xs i x all at)) ∙ fails)))

pub decided_item : {A : Type 0} (P : A → Type 0) (xs : List A) (i : ℕ) (d : A) → i < length xs → (b : Bool) → Decides b (P (get_or xs i d)) → b ≡ false → Decides false (All P xs)
decided_item P xs i d less b fact fails = decided_none P xs i (get_or xs i d) (slice_get-get_or xs i d less) b fact fails

pub more_of : {A : Type 0} (P : A → Type 0) (xs : List A) (i : ℕ) (x : A) → slice_get xs i ≡ Some x → All P (take i xs) → P x → All P (take (i + 1) xs)
more_of P xs i x at all here = All-more P xs i x (slice_get_within xs i x at) all (subst P (sym (get_or_from_slice_get xs i x x at)) here)

-- a text that describes no field is a descriptor where it describes a method
pub descriptor_decides : (text : Option (List ℕ)) (b is : Bool) → Decides b (IsFieldText text) → b ≡ false → Decides is (IsMethodText text) → Decides is (IsDescriptor text)
descriptor_decides text b is fields none methods = (λ yes. method text (methods.0 yes), λ d. by d)
  where
    by : IsDescriptor text → is ≡ true
    by (field _ f) = absurd (true≢false (sym (fields.1 f) ∙ none))
    by (method _ m) = methods.1 m
