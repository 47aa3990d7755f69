-- Which class has the name of an earlier one.
use Rattle.std.proofs.Common.{◌⊎◌, inl, inr, if◌then◌else◌, ◌≤◌, append_assoc, add-one, ◌≡◌, ◌∙◌, ℕ, ◌+◌, ◌<◌, true, false, List, [], ◌∷◌, ◌++◌, map, take, length, slice_get, Some, refl, sym, ap, arith, true≢false}
use Rattle.std.proofs.Math.Seq.{take-append-add, take-suc}
use Rattle.std.proofs.lemmas.List.{take-map, take_all, map-append}
use Rattle.std.proofs.lemmas.Option.{slice_get_within, get_or_from_slice_get}
use Rattle.std.proofs.lemmas.Bool.{cases_lt}
use Rattle.cf_form.specs.declared.class_file.ClassFile.{ClassFile}
use Rattle.cf_link.specs.BuiltIns.{built_ins}
use Rattle.cf_link.specs.Faults.{IsFault, twice, ComesBefore, ComesBefore as before, HasNone, rank}
use Rattle.cf_link.specs.OfFiles.{names_of, name_of, has_text}
use Rattle.cf_link.specs.declared.built_in.TheConstants.{BUILT_INS}
use Rattle.cf_link.specs.declared.fault.LinkKind.{LinkKind}
use Rattle.cf_link.specs.declared.fault.LinkKind.TheVariants.{Twice}
use Rattle.cf_set.specs.Names.{with_name}
use Rattle.cf_set.specs.First.{IsFirstTwice}

-- the names of the built-in classes and of the first files
abbrev pub names_to : List ClassFile → ℕ → List (List ℕ)
names_to files i = map (λ b. b.name) built_ins ++ map name_of (take i files)

-- the names of the first files are there, and each was new
pub record AreNamed (files : List ClassFile) (i : ℕ) (names : List (List ℕ)) : Type 0 where
  pub names_are : names ≡ names_to files i
  pub new : (j : ℕ) (file : ClassFile) → j < i → slice_get files j ≡ Some file → has_text (names_to files j) (name_of file) ≡ false

-- what a fault of the kind says
pub record SaysTwice (files : List ClassFile) (i n : ℕ) (told : List ℕ) : Type 0 where
  pub file : ClassFile
  pub there : slice_get files i ≡ Some file
  pub again : has_text (take (BUILT_INS + i) (names_of files)) (name_of file) ≡ true
  pub at : n ≡ 0

pub says_twice : (files : List ClassFile) (i n : ℕ) (told : List ℕ) → IsFault files Twice i n told → SaysTwice files i n told
says_twice files i n told (twice _ file there again) = record { file = file; there = there; again = again; at = refl }

-- the names before a file
pub names_before : (files : List ClassFile) (i : ℕ) → take (BUILT_INS + i) (names_of files) ≡ names_to files i
names_before files i =
    take-append-add (map (λ b. b.name) built_ins) (map name_of files) i
    ∙ ap (λ names. map (λ b. b.name) built_ins ++ names) (take-map name_of i files)

-- a fault before another of the same kind at index 0 is in an earlier file
pub earlier : (a b : LinkKind) (j n i m : ℕ) → a ≡ b → m ≡ 0 → ComesBefore a j n b i m → j < i
earlier a b j n i m alike none (before.kind _ _ _ _ _ _ less) = absurd (omega (arith, less, ap rank alike))
earlier a b j n i m alike none (before.file _ _ _ _ _ less) = less
earlier a b j n i m alike none (before.index _ _ _ _ less) = absurd (omega (arith, less, none))

-- the names with one more file
names_next : (files : List ClassFile) (i : ℕ) (file : ClassFile) → slice_get files i ≡ Some file → names_to files i ++ name_of file ∷ [] ≡ names_to files (i + 1)
names_next files i file there =
    append_assoc (map (λ b. b.name) built_ins) (map name_of (take i files)) (name_of file ∷ [])
    ∙ ap (λ names. map (λ b. b.name) built_ins ++ names) (sym (map-append name_of (take i files) (file ∷ [])) ∙ ap (map name_of) next)
  where
    next : take i files ++ file ∷ [] ≡ take (i + 1) files
    next =
        ap (λ f. take i files ++ f ∷ []) (sym (get_or_from_slice_get files i file file there))
        ∙ sym (take-suc files i file (slice_get_within files i file there)) ∙ ap (λ n. take n files) (sym (add-one i))

-- a file whose name is new
pub one_more : (files : List ClassFile) (i : ℕ) (names after : List (List ℕ)) (file : ClassFile) → AreNamed files i names → slice_get files i ≡ Some file
    → has_text names (name_of file) ≡ false → after ≡ with_name names (name_of file) → AreNamed files (i + 1) after
one_more files i names after file named there is_new put = record {
  names_are = put ∙ ap (λ b. if b then names else names ++ name_of file ∷ []) is_new ∙ ap (λ names. names ++ name_of file ∷ []) named.names_are ∙ names_next files i file there;
  new = λ j f below at. by_file j f at below (cases_lt j i);
}
  where
    by_file : (j : ℕ) (f : ClassFile) → slice_get files j ≡ Some f → j < i + 1 → (j < i) ⊎ (i ≤ j) → has_text (names_to files j) (name_of f) ≡ false
    by_file j f at below (inl less) = named.new j f less at
    by_file j f at below (inr past) =
        let same : j ≡ i = omega arith in
        let same_file : f ≡ file = cc in
        ap (λ n. has_text (names_to files n) (name_of f)) same ∙ ap (λ f. has_text (names_to files i) (name_of f)) same_file
        ∙ ap (λ names. has_text names (name_of file)) (sym named.names_are) ∙ is_new

-- a file whose name is there is the first
pub first_twice : (files : List ClassFile) (i : ℕ) (names : List (List ℕ)) (file : ClassFile) → AreNamed files i names → slice_get files i ≡ Some file
    → has_text names (name_of file) ≡ true → IsFirstTwice files i
first_twice files i names file named there again = (
  file,
  there,
  record {
    is = twice i file there (ap (λ names. has_text names (name_of file)) (names_before files i ∙ sym named.names_are) ∙ again);
    first = λ j n name fault before. refuted j n name (says_twice files j n name fault) (earlier Twice Twice j n i 0 refl refl before);
  },
)
  where
    refuted : (j n : ℕ) (name : List ℕ) → SaysTwice files j n name → j < i → ⊥
    refuted j n name says less =
        true≢false (sym says.again ∙ ap (λ names. has_text names (name_of says.file)) (names_before files j) ∙ named.new j says.file less says.there)

-- no name of all files was there
pub none_twice : (files : List ClassFile) (i : ℕ) (names : List (List ℕ)) → length files ≤ i → AreNamed files i names → HasNone files Twice × (names ≡ names_of files)
none_twice files i names all named = (λ j n name fault. refuted j n name (says_twice files j n name fault), named.names_are ∙ ap (λ fs. map (λ b. b.name) built_ins ++ map name_of fs) (take_all i files all))
  where
    refuted : (j n : ℕ) (name : List ℕ) → SaysTwice files j n name → ⊥
    refuted j n name says =
        true≢false
        (sym says.again ∙ ap (λ names. has_text names (name_of says.file)) (names_before files j)
        ∙ named.new j says.file (omega (arith, slice_get_within files j says.file says.there, all)) says.there)
