-- Which entry of a pool names a class that isn't there.
use Rattle.std.proofs.Common.{add-one, ◌⊎◌, inl, inr, ◌≤◌, ◌≡◌, ◌∙◌, ℕ, suc, zero, ◌+◌, ◌<◌, Bool, true, false, not, List, [], ◌∷◌, length, slice_get, Option, Some, None, is_some, option_map, ◌||◌, refl, sym, ap, subst, arith, cond, IsTrue, true≢false}
use Rattle.std.specs.Option.{unwrap_or}
use Rattle.std.specs.List.{position_from, list_any}
use Rattle.std.specs.Str.{bytes_eq}
use Rattle.std.proofs.lemmas.Option.{slice_get_within}
use Rattle.std.proofs.lemmas.Bool.{cases_lt, not-true}
use Rattle.cf_form.specs.Pool.{entry, text_at}
use Rattle.cf_form.specs.declared.class_file.ClassFile.{ClassFile}
use Rattle.cf_form.specs.declared.constant.Const.{Const}
use Rattle.cf_form.specs.declared.constant.Const.TheVariants as constant
use Rattle.cf_link.specs.Faults.{IsFault, no_class, ComesBefore, ComesBefore as before, HasNone, rank}
use Rattle.cf_link.specs.OfFiles.{names_of, has_text, text_of}
use Rattle.cf_link.specs.declared.fault.LinkKind.{LinkKind}
use Rattle.cf_link.specs.declared.fault.LinkKind.TheVariants.{NoClass}
use Rattle.cf_set.specs.Names.{number_in}
use Rattle.cf_set.specs.First.{IsFirstNoClass, NoneBefore, lacks_class, LacksAt}

-- a name has a number exactly where it is there
pub numbered : {A : Type 0} (test : A → Bool) (i : ℕ) (items : List A) → is_some (position_from test i items) ≡ list_any test items
numbered test i [] = refl
numbered test i (x ∷ items) = choose (test x) (Some i) (position_from test (i + 1) items) (list_any test items) refl (numbered test (i + 1) items)
  where
    choose : (b : Bool) (first rest : Option ℕ) (any : Bool) → is_some first ≡ true → is_some rest ≡ any → is_some (cond b first rest) ≡ (b || any)
    choose true first rest any here later = here
    choose false first rest any here later = later

flip : (a b : Bool) → a ≡ not b → b ≡ not a
flip a true e = sym (ap not e)
flip a false e = sym (ap not e)

-- one number more that isn't one of these
pub none_more : (is_one : ℕ → Type 0) (i : ℕ) → NoneBefore is_one i → ¬ (is_one i) → NoneBefore is_one (i + 1)
none_more is_one i none here k below one = by (cases_lt k i)
  where
    by : (k < i) ⊎ (i ≤ k) → ⊥
    by (inl less) = none k less one
    by (inr past) = let same : k ≡ i = omega (arith, below, past) in here (subst is_one same one)

-- a file's pool has no entry that names a class that isn't there
abbrev pub NoneMissing : List ClassFile → ℕ → Type 0
NoneMissing files i =
    NoneBefore (λ k. (file : ClassFile) × (n : ℕ) × (slice_get files k ≡ Some file) × LacksAt (names_of files) file.pool n) i

-- what a fault of the kind says
pub record SaysNoClass (files : List ClassFile) (i index : ℕ) (told : List ℕ) : Type 0 where
  pub file : ClassFile
  pub there : slice_get files i ≡ Some file
  pub number : ℕ
  pub at : index ≡ number + 1
  pub lacks : LacksAt (names_of files) file.pool number

-- whether a text is that of a name which isn't there
abbrev pub lacks_text : List (List ℕ) → Option (List ℕ) → Bool
lacks_text names text = unwrap_or (option_map (λ name. not (has_text names name)) text) false

-- an entry whose name was looked up
pub looked_up : (names : List (List ℕ)) (pool : List Const) (entry : Const) (text : ℕ) (name : List ℕ) (found : Option ℕ) (is_none : Bool) → entry ≡ constant.Class text
    → text_at pool text ≡ Some name → found ≡ number_in names name → is_some found ≡ not is_none → is_none ≡ lacks_class names pool entry
looked_up names pool entry text name found is_none is named looked none =
    flip (is_some found) is_none none ∙ ap (λ found. not (is_some found)) looked ∙ ap not (numbered (bytes_eq name) 0 names)
    ∙ sym (ap (lacks_class names pool) is ∙ ap (lacks_text names) named)

-- what an entry that lacks its class is
pub record SaysLacks (names : List (List ℕ)) (pool : List Const) (c : Const) : Type 0 where
  pub text : ℕ
  pub name : List ℕ
  pub is : c ≡ constant.Class text
  pub named : text_at pool text ≡ Some name
  pub new : has_text names name ≡ false

says_lacks : (names : List (List ℕ)) (pool : List Const) (c : Const) → lacks_class names pool c ≡ true → SaysLacks names pool c
says_lacks names pool (constant.Class text) lacks = by (text_at pool text) refl lacks
  where
    by : (o : Option (List ℕ)) → text_at pool text ≡ o → lacks_text names o ≡ true → SaysLacks names pool (constant.Class text)
    by None is e = absurd (true≢false (sym e))
    by (Some name) is e = record { text = text; name = name; is = refl; named = is; new = not-true _ e }
says_lacks names pool _ lacks = absurd (true≢false (sym lacks))

lacks_by : (names : List (List ℕ)) (pool : List Const) (text : ℕ) (name : List ℕ) → text_at pool text ≡ Some name → ¬ (IsTrue (has_text names name))
    → lacks_class names pool (constant.Class text) ≡ true
lacks_by names pool text name named new = ap (lacks_text names) named ∙ by (has_text names name) new
  where
    by : (b : Bool) → ¬ (IsTrue b) → not b ≡ true
    by true none = absurd (none refl)
    by false none = refl

pub says_no_class : (files : List ClassFile) (i n : ℕ) (told : List ℕ) → IsFault files NoClass i n told → SaysNoClass files i n told
says_no_class files i n told (no_class _ zero text file _ there at named new) = absurd cc
says_no_class files i n told (no_class _ (suc number) text file name there at named new) = record {
  file = file;
  there = there;
  number = number;
  at = omega arith;
  lacks = (constant.Class text, at, lacks_by (names_of files) file.pool text name named new);
}

-- an entry that lacks no class isn't one of these
pub not_here : (names : List (List ℕ)) (pool : List Const) (i : ℕ) (entry : Const) → slice_get pool i ≡ Some entry → lacks_class names pool entry ≡ false → ¬ (LacksAt names pool i)
not_here names pool i entry there has (c, at, lacks) =
    let same : c ≡ entry = cc in true≢false (sym lacks ∙ ap (lacks_class names pool) same ∙ has)

-- a file whose pool has no such entry
pub file_clear : (files : List ClassFile) (i : ℕ) (file : ClassFile) (names : List (List ℕ)) → names ≡ names_of files → slice_get files i ≡ Some file
    → NoneBefore (LacksAt names file.pool) (length file.pool) → NoneMissing files i → NoneMissing files (i + 1)
file_clear files i file names are there clear none = none_more _ i none here
  where
    here : ¬ ((f : ClassFile) × (n : ℕ) × (slice_get files i ≡ Some f) × LacksAt (names_of files) f.pool n)
    here (f, n, at, lacks) =
        let same : f ≡ file = cc in
        let lacks_here : LacksAt names file.pool n = subst (λ names. LacksAt names file.pool n) (sym are) (subst (λ f. LacksAt (names_of files) f.pool n) same lacks) in
        clear n (slice_get_within file.pool n lacks_here.0 lacks_here.1) lacks_here

entry_at : (pool : List Const) (number : ℕ) → entry pool (number + 1) ≡ slice_get pool number
entry_at pool number = ap (entry pool) (add-one number)

-- where a fault of the same kind that comes before stands
pub before_alike : (a b : LinkKind) (j n i m : ℕ) → a ≡ b → ComesBefore a j n b i m → (j < i) ⊎ ((j ≡ i) × (n < m))
before_alike a b j n i m alike (before.kind _ _ _ _ _ _ less) = absurd (omega (arith, less, ap rank alike))
before_alike a b j n i m alike (before.file _ _ _ _ _ less) = inl less
before_alike a b j n i m alike (before.index _ _ _ _ less) = inr (refl, less)

-- a file with the first such entry
pub first_no_class : (files : List ClassFile) (i number : ℕ) (file : ClassFile) (names : List (List ℕ)) → names ≡ names_of files → slice_get files i ≡ Some file
    → LacksAt names file.pool number → NoneBefore (LacksAt names file.pool) number → NoneMissing files i → IsFirstNoClass files (i, number)
first_no_class files i number file names are there lacks first none = (
  file,
  says.name,
  there,
  ap (text_of file.pool) (entry_at file.pool number) ∙ at ∙ says.named,
  record {
    is = no_class i (number + 1) says.text file says.name there (entry_at file.pool number ∙ lacks.1 ∙ ap Some says.is) says.named (λ has. true≢false (sym has ∙ new));
    first = λ j n name fault earlier. refuted j n name (says_no_class files j n name fault) (before_alike NoClass NoClass j n i (number + 1) refl earlier);
  },
)
  where
    says : SaysLacks names file.pool lacks.0
    says = says_lacks names file.pool lacks.0 lacks.2

    new : has_text (names_of files) says.name ≡ false
    new = ap (λ names. has_text names says.name) (sym are) ∙ says.new

    at : text_of file.pool (slice_get file.pool number) ≡ text_at file.pool says.text
    at = ap (text_of file.pool) (lacks.1 ∙ ap Some says.is)

    refuted : (j n : ℕ) (name : List ℕ) → SaysNoClass files j n name → (j < i) ⊎ ((j ≡ i) × (n < number + 1)) → ⊥
    refuted j n name other (inl less) = none j less (other.file, other.number, other.there, other.lacks)
    refuted j n name other (inr (same, less)) =
        let same_file : other.file ≡ file = cc in
        let lacks_here : LacksAt names file.pool other.number =
        subst (λ names. LacksAt names file.pool other.number) (sym are) (subst (λ f. LacksAt (names_of files) f.pool other.number) same_file other.lacks) in
        first other.number (omega (arith, other.at, less)) lacks_here

-- no file has one
pub none_no_class : (files : List ClassFile) (i : ℕ) → length files ≤ i → NoneMissing files i → HasNone files NoClass
none_no_class files i all none = λ j n name fault. refuted j n name (says_no_class files j n name fault)
  where
    refuted : (j n : ℕ) (name : List ℕ) → SaysNoClass files j n name → ⊥
    refuted j n name says =
        none j (omega (arith, slice_get_within files j says.file says.there, all)) (says.file, says.number, says.there, says.lacks)
