-- Which class is the first that is its own ancestor.
use Rattle.std.proofs.Common.{◌≤◌, ◌<◌, ◌⊎◌, inl, inr, ◌≡◌, ◌∙◌, ℕ, ◌+◌, ◌-◌, List, [], length, map, slice_get, Option, Some, None, ◌∷◌, suc, zero, refl, sym, subst, arith}
use Rattle.std.specs.List.{Contains}
use Rattle.std.proofs.lemmas.Option.{slice_get-get_or, none-some}
use Rattle.std.proofs.lemmas.Bool.{cases_lt}
use Rattle.std.proofs.lemmas.List.Elements.{All-contains}
use Rattle.ty_linear.specs.Linear.{parents_of, IsAncestor, parent, beyond, IsAcyclic, IsLeastOnCycle}
use Rattle.cf_form.specs.declared.class_file.ClassFile.{ClassFile}
use Rattle.cf_link.specs.Faults.{IsFault, cyclic, HasNone, AreSupertypes}
use Rattle.cf_link.specs.OfFiles.{names_of}
use Rattle.cf_link.specs.declared.built_in.TheConstants.{BUILT_INS}
use Rattle.cf_link.specs.declared.fault.LinkKind.TheVariants.{Twice, Cyclic}
use Rattle.cf_set.proofs.Twice.{earlier}
use Rattle.cf_set.proofs.Distinct.{get_left}
use Rattle.cf_super.specs.First.{IsFirstCyclic}
use Rattle.cf_super.specs.Rows.{row_of, built_in_rows, rows_of}
use Rattle.cf_super.proofs.Above.{only_supertypes, built_less, count_rows}

-- the classes above one that isn't there are none
none_past : (rows : List (List ℕ)) (class : ℕ) → length rows ≤ class → parents_of rows class ≡ []
none_past [] class past = refl
none_past (row ∷ rows) zero past = absurd (omega arith)
none_past (row ∷ rows) (suc class) past = none_past rows class (omega (arith, past))

has_parent : (rows : List (List ℕ)) (a class : ℕ) → IsAncestor rows a class → (p : ℕ) × Contains (parents_of rows class) p
has_parent rows a class (parent _ _ has) = (a, has)
has_parent rows a class (beyond _ middle _ has up) = (middle, has)

pub below_count : (rows : List (List ℕ)) (a class : ℕ) → IsAncestor rows a class → class < length rows
below_count rows a class up = by (cases_lt class (length rows))
  where
    by : (class < length rows) ⊎ (length rows ≤ class) → class < length rows
    by (inl less) = less
    by (inr past) =
        let p = has_parent rows a class up in
        let has : Contains [] p.0 = subst (λ r. Contains r p.0) (none_past rows class past) p.1 in
        absurd (omega (arith, has.1))

module _ (names : List (List ℕ)) (files : List ClassFile) where
  -- what is above a built-in class has a lesser number
  parent_less : (class p : ℕ) → class < BUILT_INS → Contains (parents_of (rows_of names files) class) p → p < class
  unfolding rows_of built_in_rows
  parent_less class p below has =
      let at : slice_get built_in_rows class ≡ Some (parents_of (rows_of names files) class) =
      sym (get_left built_in_rows (map (row_of names) files) class below)
      ∙ slice_get-get_or (rows_of names files) class [] (omega (arith, below, count_rows names files)) in
      All-contains (λ c. c < class) (parents_of (rows_of names files) class) p (built_less class (parents_of (rows_of names files) class) at) has

  ancestor_less : (a class : ℕ) → class < BUILT_INS → IsAncestor (rows_of names files) a class → a < class
  ancestor_less a class below (parent _ _ has) = parent_less class a below has
  ancestor_less a class below (beyond _ middle _ has up) =
      let less = parent_less class middle below has in
      let further = ancestor_less a middle (omega (arith, less, below)) up in
      omega (arith, less, further)

-- what a fault of the kind says
record SaysCyclic (files : List ClassFile) (i n : ℕ) : Type 0 where
  rows : List (List ℕ)
  are : AreSupertypes files rows
  above : IsAncestor rows (BUILT_INS + i) (BUILT_INS + i)

says_cyclic : (files : List ClassFile) (i n : ℕ) (told : List ℕ) → IsFault files Cyclic i n told → SaysCyclic files i n
says_cyclic files i n told (cyclic _ file rows there are above) = record { rows = rows; are = are; above = above }

-- the class is its own ancestor by the rows that are computed
on_cycle : (files : List ClassFile) → HasNone files Twice → (i n : ℕ) → SaysCyclic files i n → IsAncestor (rows_of (names_of files) files) (BUILT_INS + i) (BUILT_INS + i)
on_cycle files different i n says =
    subst (λ rows. IsAncestor rows (BUILT_INS + i) (BUILT_INS + i)) (sym (only_supertypes files different says.rows says.are)) says.above

none_cyclic : (files : List ClassFile) → HasNone files Twice → IsAcyclic (rows_of (names_of files) files) → HasNone files Cyclic
none_cyclic files different acyclic = λ i n told fault. acyclic (BUILT_INS + i) (on_cycle files different i n (says_cyclic files i n told fault))

-- the least class on a cycle is that of a file
is_of_file : (files : List ClassFile) (class : ℕ) → IsLeastOnCycle (rows_of (names_of files) files) class → BUILT_INS ≤ class
is_of_file files class least = by (cases_lt class BUILT_INS)
  where
    by : (class < BUILT_INS) ⊎ (BUILT_INS ≤ class) → BUILT_INS ≤ class
    by (inl below) = absurd (let less = ancestor_less (names_of files) files class class below least.cyclic in omega (arith, less))
    by (inr past) = past

past_none : {A : Type 0} (xs : List A) (i : ℕ) → i < length xs → ¬ (slice_get xs i ≡ None)
past_none [] i less none = absurd (omega (arith, less))
past_none (x ∷ xs) zero less none = none-some x (sym none)
past_none (x ∷ xs) (suc i) less none = past_none xs i (omega (arith, less)) none

first_at : (files : List ClassFile) → HasNone files Twice → AreSupertypes files (rows_of (names_of files) files) → (i class : ℕ) → class ≡ BUILT_INS + i
    → IsLeastOnCycle (rows_of (names_of files) files) class → (file : ClassFile) → slice_get files i ≡ Some file → IsFirstCyclic files i
first_at files different are i class is least file there = (
  file,
  there,
  record {
    is = cyclic i file (rows_of (names_of files) files) there are (subst (λ c. IsAncestor (rows_of (names_of files) files) c c) is least.cyclic);
    first = λ j n name fault before.
        (let less = earlier Cyclic Cyclic j n i 0 refl refl before in
        least.least (BUILT_INS + j) (omega (arith, less, is)) (on_cycle files different j n (says_cyclic files j n name fault)));
  },
)

first_cyclic : (files : List ClassFile) → HasNone files Twice → AreSupertypes files (rows_of (names_of files) files) → (class : ℕ)
    → IsLeastOnCycle (rows_of (names_of files) files) class → IsFirstCyclic files (class - BUILT_INS)
first_cyclic files different are class least =
    let past = is_of_file files class least in
    let below = below_count (rows_of (names_of files) files) class class least.cyclic in
    let within : class - BUILT_INS < length files = omega (arith, past, below, count_rows (names_of files) files) in
    by (class - BUILT_INS) (omega (arith, past)) within
  where
    by : (i : ℕ) → class ≡ BUILT_INS + i → i < length files → IsFirstCyclic files i
    by i is within = file_at (slice_get files i) refl
      where
        file_at : (o : Option ClassFile) → slice_get files i ≡ o → IsFirstCyclic files i
        file_at None none = absurd (past_none files i within none)
        file_at (Some file) there = first_at files different are i class is least file there

-- the same by any rows of direct supertypes, since these are the ones
pub acyclic_files : (files : List ClassFile) → HasNone files Twice → (table : List (List ℕ)) → AreSupertypes files table → IsAcyclic table → HasNone files Cyclic
acyclic_files files different table are acyclic = none_cyclic files different (subst IsAcyclic (sym (only_supertypes files different table are)) acyclic)

pub past_built_ins : (files : List ClassFile) → HasNone files Twice → (table : List (List ℕ)) → AreSupertypes files table → (class : ℕ) → IsLeastOnCycle table class → BUILT_INS ≤ class
past_built_ins files different table are class least = is_of_file files class (subst (λ t. IsLeastOnCycle t class) (sym (only_supertypes files different table are)) least)

pub first_of_cycle : (files : List ClassFile) → HasNone files Twice → (table : List (List ℕ)) → AreSupertypes files table → (class : ℕ) → IsLeastOnCycle table class → IsFirstCyclic files (class - BUILT_INS)
first_of_cycle files different table are class least =
    let same = sym (only_supertypes files different table are) in
    first_cyclic files different (subst (AreSupertypes files) same are) class (subst (λ t. IsLeastOnCycle t class) same least)
