-- The names of a set's classes are different, so a name has one number.
use Rattle.std.proofs.Common.{add-one, inl, inr, ◌⊎◌, ◌≤◌, ◌<◌, ◌-◌, ◌≡◌, ◌∙◌, ℕ, suc, zero, ◌+◌, Bool, true, false, not, ◌&&◌, List, [], ◌∷◌, ◌++◌, length, map, take, slice_get, Option, Some, None, is_some, option_map, if◌then◌else◌, refl, sym, ap, subst, arith, true≢false, IsTrue}
use Rattle.std.specs.List.{position_from}
use Rattle.std.specs.Str.{bytes_eq}
use Rattle.std.proofs.lemmas.Option.{slice_get-map, slice_get_within, same_Some, none-some}
use Rattle.std.proofs.lemmas.Bool.{cases_lt, cases_Bool, and_parts, not-true, or_left, or_right}
use Rattle.std.proofs.lemmas.Slice.Eq.{bytes_eq-Decides}
use Rattle.cf_form.specs.declared.class_file.ClassFile.{ClassFile}
use Rattle.cf_link.specs.BuiltIns.{built_ins}
use Rattle.cf_link.specs.Faults.{IsFault, twice, HasNone}
use Rattle.cf_link.specs.OfFiles.{names_of, name_of, has_text}
use Rattle.cf_link.specs.declared.built_in.TheConstants.{BUILT_INS}
use Rattle.cf_link.specs.declared.fault.LinkKind.TheVariants.{Twice}
use Rattle.cf_set.specs.Names.{AreDistinct, number_in}
use Rattle.cf_set.proofs.Missing.{numbered}

-- a text is itself
pub itself : (text : List ℕ) → bytes_eq text text ≡ true
itself text = (bytes_eq-Decides text text).1 refl

-- a text at a number is there
pub has_at : (names : List (List ℕ)) (i : ℕ) (text : List ℕ) → slice_get names i ≡ Some text → has_text names text ≡ true
has_at [] i text at = absurd (none-some text at)
has_at (name ∷ names) zero text at = or_left (bytes_eq text name) (has_text names text) (ap (bytes_eq text) (same_Some name text at) ∙ itself text)
has_at (name ∷ names) (suc i) text at = or_right (bytes_eq text name) (has_text names text) (has_at names i text at)

-- the number of a name, counted from another on
found_from : (text : List ℕ) (k : ℕ) (names : List (List ℕ)) (n : ℕ) → position_from (bytes_eq text) k names ≡ Some n → (i : ℕ) × (n ≡ k + i) × (slice_get names i ≡ Some text)
found_from text k [] n found = absurd (none-some n found)
found_from text k (name ∷ names) n found = by (bytes_eq text name) refl (λ later. found_from text (k + 1) names n later)
  where
    by : (b : Bool) → bytes_eq text name ≡ b → (position_from (bytes_eq text) (k + 1) names ≡ Some n → (i : ℕ) × (n ≡ (k + 1) + i) × (slice_get names i ≡ Some text))
        → (i : ℕ) × (n ≡ k + i) × (slice_get (name ∷ names) i ≡ Some text)
    by true is rest =
        let here : Some k ≡ Some n = sym (ap (λ b. if b then Some k else position_from (bytes_eq text) (k + 1) names) is) ∙ found in
        let same : k ≡ n = same_Some k n here in
        (0, omega (arith, same), ap Some (sym ((bytes_eq-Decides text name).0 is)))
    by false is rest =
        let later = rest (sym (ap (λ b. if b then Some k else position_from (bytes_eq text) (k + 1) names) is) ∙ found) in
        (suc later.0, omega (arith, later.1), later.2)

-- the number of a name is where it stands
pub numbered_at : (names : List (List ℕ)) (text : List ℕ) (n : ℕ) → number_in names text ≡ Some n → slice_get names n ≡ Some text
numbered_at names text n found =
    let at = found_from text 0 names n found in
    let same : n ≡ at.0 = omega (arith, at.1) in
    ap (slice_get names) same ∙ at.2

-- a name that is there has a number
pub number_there : (names : List (List ℕ)) (text : List ℕ) → has_text names text ≡ true → (n : ℕ) × (number_in names text ≡ Some n)
number_there names text has = by (number_in names text) refl (numbered (bytes_eq text) 0 names ∙ has)
  where
    by : (o : Option ℕ) → number_in names text ≡ o → is_some o ≡ true → (n : ℕ) × (number_in names text ≡ Some n)
    by None is there = absurd (true≢false (sym there))
    by (Some n) is there = (n, is)

-- where names are different, a name's number is each at which it stands
pub number_of_place : (names : List (List ℕ)) → AreDistinct names → (n : ℕ) (text : List ℕ) → slice_get names n ≡ Some text → number_in names text ≡ Some n
number_of_place names apart n text at =
    let found = number_there names text (has_at names n text at) in
    found.1 ∙ ap Some (apart found.0 n text (numbered_at names text found.0 found.1) at)

-- whether no name is the same as a later one
abbrev all_differ : List (List ℕ) → Bool
all_differ [] = true
all_differ (name ∷ names) = not (has_text names name) && all_differ names

differ_apart : (names : List (List ℕ)) → all_differ names ≡ true → (i j : ℕ) (text : List ℕ) → i < j → slice_get names i ≡ Some text → ¬ (slice_get names j ≡ Some text)
differ_apart [] all i j text less at again = absurd (none-some text at)
differ_apart (name ∷ names) all i zero text less at again = absurd (omega arith)
differ_apart (name ∷ names) all zero (suc j) text less at again =
    let parts = and_parts (not (has_text names name)) (all_differ names) all in
    true≢false (sym (has_at names j text again) ∙ ap (has_text names) (sym (same_Some name text at)) ∙ not-true (has_text names name) parts.0)
differ_apart (name ∷ names) all (suc i) (suc j) text less at again =
    differ_apart names (and_parts (not (has_text names name)) (all_differ names) all).1 i j text (omega (arith, less)) at again

-- the names of the built-in classes
abbrev built_in_names : List (List ℕ)
built_in_names = map (λ b. b.name) built_ins

built_differ : all_differ built_in_names ≡ true
built_differ = refl

pub count_built : length built_in_names ≡ BUILT_INS
count_built = refl

pub get_left : {A : Type 0} (xs ys : List A) (i : ℕ) → i < length xs → slice_get (xs ++ ys) i ≡ slice_get xs i
get_left [] ys i less = absurd (omega (arith, less))
get_left (x ∷ xs) ys zero less = refl
get_left (x ∷ xs) ys (suc i) less = get_left xs ys i (omega (arith, less))

pub get_right : {A : Type 0} (xs ys : List A) (i : ℕ) → slice_get (xs ++ ys) (length xs + i) ≡ slice_get ys i
get_right [] ys i = ap (slice_get ys) (let e : 0 + i ≡ i = omega arith in e)
get_right (x ∷ xs) ys i = ap (slice_get (x ∷ (xs ++ ys))) (let e : suc (length xs) + i ≡ suc (length xs + i) = omega arith in e) ∙ get_right xs ys i

pub get_front : {A : Type 0} (xs : List A) (n i : ℕ) → i < n → slice_get (take n xs) i ≡ slice_get xs i
get_front xs zero i less = absurd (omega (arith, less))
get_front [] (suc n) i less = refl
get_front (x ∷ xs) (suc n) zero less = refl
get_front (x ∷ xs) (suc n) (suc i) less = get_front xs n i (omega (arith, less))

-- the name of a file's class
pub file_name : (files : List ClassFile) (i : ℕ) → slice_get (names_of files) (BUILT_INS + i) ≡ option_map name_of (slice_get files i)
file_name files i = get_right built_in_names (map name_of files) i ∙ slice_get-map name_of files i

pub mapped_back : {A B : Type 0} (f : A → B) (o : Option A) (y : B) → option_map f o ≡ Some y → (x : A) × (o ≡ Some x) × (f x ≡ y)
mapped_back f None y is = absurd (none-some y is)
mapped_back f (Some x) y is = (x, refl, same_Some (f x) y is)

module _ (files : List ClassFile) (none : HasNone files Twice) where
  names_apart : (i j : ℕ) (text : List ℕ) → i < j → slice_get (names_of files) i ≡ Some text → ¬ (slice_get (names_of files) j ≡ Some text)
  names_apart i j text less at again = by (cases_lt j BUILT_INS)
    where
      of_file : (k : ℕ) → j ≡ BUILT_INS + k → ⊥
      of_file k is =
          let named = mapped_back name_of (slice_get files k) text (sym (file_name files k) ∙ ap (slice_get (names_of files)) (sym is) ∙ again) in
          let before : has_text (take (BUILT_INS + k) (names_of files)) text ≡ true =
          has_at (take (BUILT_INS + k) (names_of files)) i text (get_front (names_of files) (BUILT_INS + k) i (omega (arith, less, is)) ∙ at) in
          none k 0 (name_of named.0) (twice k named.0 named.1 (ap (has_text (take (BUILT_INS + k) (names_of files))) named.2 ∙ before))

      by : (j < BUILT_INS) ⊎ (BUILT_INS ≤ j) → ⊥
      by (inl below) =
          let first : i < BUILT_INS = omega (arith, less, below) in
          differ_apart built_in_names built_differ i j text less
          (sym (get_left built_in_names (map name_of files) i first) ∙ at)
          (sym (get_left built_in_names (map name_of files) j below) ∙ again)
      by (inr past) = of_file (j - BUILT_INS) (omega (arith, past))

  -- the names of all classes are different where none is given twice
  pub names_distinct : AreDistinct (names_of files)
  names_distinct i j text at again = by (cases_lt i j) (cases_lt j i)
    where
      by : (i < j) ⊎ (j ≤ i) → (j < i) ⊎ (i ≤ j) → i ≡ j
      by (inl less) other = absurd (names_apart i j text less at again)
      by (inr most) (inl less) = absurd (names_apart j i text less again at)
      by (inr most) (inr least) = omega (arith, most, least)
