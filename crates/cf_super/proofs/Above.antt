-- The rows that are computed are the direct supertypes, and the only ones.
use Rattle.std.proofs.Common.{◌≤◌, ◌<◌, ◌⊎◌, inl, inr, ◌≡◌, ◌∙◌, ℕ, suc, zero, ◌+◌, ◌-◌, Bool, true, ◌&&◌, List, [], ◌∷◌, ◌++◌, length, map, get_or, slice_get, Some, refl, sym, ap, subst, arith}
use Rattle.std.specs.Prelude.{option_map, nat_lt}
use Rattle.std.specs.List.{All}
use Rattle.std.specs.declared.vec.Vec.{Vec}
use Rattle.std.proofs.lemmas.Option.{slice_get-map, slice_get-get_or, same_Some, none-some}
use Rattle.std.proofs.lemmas.Bool.{cases_lt, and_parts, ltb-true}
use Rattle.std.proofs.lemmas.List.{length-map, length-append}
use Rattle.std.proofs.lemmas.List.Elements.{All-nil, All-cons}
use Rattle.std.specs.declared.alloc.Global.{Global}
use Rattle.ty_linear.specs.Linear.{rows, AreClasses}
use Rattle.cf_form.specs.ClassFiles.{Each}
use Rattle.cf_form.specs.declared.class_file.ClassFile.{ClassFile}
use Rattle.cf_link.specs.BuiltIns.{built_ins}
use Rattle.cf_link.specs.Faults.{HasNone, AreAbove, AreSupertypes}
use Rattle.cf_link.specs.OfFiles.{names_of, name_of}
use Rattle.cf_link.specs.declared.built_in.TheConstants.{BUILT_INS}
use Rattle.cf_link.specs.declared.fault.LinkKind.TheVariants.{Twice, NoClass}
use Rattle.cf_set.specs.Indexes.{IsIndexed}
use Rattle.cf_set.specs.Names.{AreDistinct}
use Rattle.cf_set.proofs.Distinct.{get_left, get_right, mapped_back, names_distinct}
use Rattle.cf_super.specs.Rows.{row_of, built_in_rows, rows_of}
use Rattle.cf_super.proofs.Found.{all_at, above_there, above_within, each_only}

-- each file with its row
each_row : (names : List (List ℕ)) (rest : List ClassFile) → ((k : ℕ) (file : ClassFile) → slice_get rest k ≡ Some file → AreAbove names file (row_of names file))
    → Each (AreAbove names) rest (map (row_of names) rest)
each_row names [] all = tt
each_row names (file ∷ rest) all = (all 0 file refl, each_row names rest (λ k f at. all (suc k) f at))

pub are_supertypes : (files : List ClassFile) → All IsIndexed files → HasNone files NoClass → AreSupertypes files (rows_of (names_of files) files)
unfolding rows_of built_in_rows
are_supertypes files indexed none = record {
  of_files = map (row_of (names_of files)) files;
  both = refl;
  are_of_files = each_row (names_of files) files (λ k file at. above_there files none k file at (all_at IsIndexed files k file indexed at));
}

only_rows : (names : List (List ℕ)) → AreDistinct names → (files : List ClassFile) (others : List (List ℕ)) → Each (AreAbove names) files others → map (row_of names) files ≡ others
only_rows names apart [] [] are = refl
only_rows names apart (file ∷ files) (numbers ∷ others) are =
    ap (λ row. row ∷ map (row_of names) files) (each_only names apart file.pool (file.parent ∷ file.interfaces) numbers are.0)
    ∙ ap (λ rows. numbers ∷ rows) (only_rows names apart files others are.1)
only_rows names apart _ _ are = absurd are

pub only_supertypes : (files : List ClassFile) → HasNone files Twice → (others : List (List ℕ)) → AreSupertypes files others → rows_of (names_of files) files ≡ others
unfolding rows_of built_in_rows
only_supertypes files different others are =
    ap (λ rows. built_in_rows ++ rows) (only_rows (names_of files) (names_distinct files different) files are.of_files are.are_of_files) ∙ sym are.both

-- whether each class of the rows has a lesser number than the row
abbrev all_less : ℕ → List ℕ → Bool
all_less k [] = true
all_less k (class ∷ classes) = nat_lt class k && all_less k classes

abbrev rising : ℕ → List (List ℕ) → Bool
rising k [] = true
rising k (row ∷ rows) = all_less k row && rising (suc k) rows

less_each : (k : ℕ) (row : List ℕ) → all_less k row ≡ true → All (λ class. class < k) row
less_each k [] all = All-nil (λ class. class < k)
less_each k (class ∷ row) all =
    let parts = and_parts (nat_lt class k) (all_less k row) all in
    All-cons (λ class. class < k) class row (ltb-true class k parts.0) (less_each k row parts.1)

rising_each : (k : ℕ) (rows : List (List ℕ)) → rising k rows ≡ true → (i : ℕ) (row : List ℕ) → slice_get rows i ≡ Some row → All (λ class. class < k + i) row
rising_each k [] all i row at = absurd (none-some row at)
rising_each k (first ∷ rows) all zero row at =
    let parts = and_parts (all_less k first) (rising (suc k) rows) all in
    let here : first ≡ row = same_Some first row at in
    let place : k ≡ k + 0 = omega arith in
    subst (λ n. All (λ class. class < n) row) place (less_each k row (subst (λ r. all_less k r ≡ true) here parts.0))
rising_each k (first ∷ rows) all (suc i) row at =
    let parts = and_parts (all_less k first) (rising (suc k) rows) all in
    let place : suc k + i ≡ k + suc i = omega arith in
    subst (λ n. All (λ class. class < n) row) place (rising_each (suc k) rows parts.1 i row at)

built_rising : rising 0 built_in_rows ≡ true
unfolding built_in_rows
built_rising = refl

-- a built-in class is below classes of lesser numbers
pub built_less : (i : ℕ) (row : List ℕ) → slice_get built_in_rows i ≡ Some row → All (λ class. class < i) row
built_less i row at =
    let place : 0 + i ≡ i = omega arith in
    subst (λ n. All (λ class. class < n) row) place (rising_each 0 built_in_rows built_rising i row at)

pub count_rows : (names : List (List ℕ)) (files : List ClassFile) → length (rows_of names files) ≡ BUILT_INS + length files
unfolding rows_of built_in_rows
count_rows names files = length-append built_in_rows (map (row_of names) files) ∙ ap (λ n. BUILT_INS + n) (length-map files (row_of names))

pub count_names : (files : List ClassFile) → length (names_of files) ≡ BUILT_INS + length files
count_names files = length-append (map (λ b. b.name) built_ins) (map name_of files) ∙ ap (λ n. BUILT_INS + n) (length-map files name_of)

-- each class of a row is there
row_within : (files : List ClassFile) → All IsIndexed files → HasNone files NoClass → (k : ℕ) (row : List ℕ) → slice_get (rows_of (names_of files) files) k ≡ Some row
    → All (λ class. class < length (names_of files)) row
unfolding rows_of built_in_rows
row_within files indexed none k row at = by (cases_lt k BUILT_INS)
  where
    names : List (List ℕ)
    names = names_of files

    by : (k < BUILT_INS) ⊎ (BUILT_INS ≤ k) → All (λ class. class < length names) row
    by (inl below) =
        let less = built_less k row (sym (get_left built_in_rows (map (row_of names) files) k below) ∙ at) in
        λ j d within. (let one : get_or row j d < k = less j d within in omega (arith, one, below, count_names files))
    by (inr past) = of_file (k - BUILT_INS) (let e : k ≡ BUILT_INS + (k - BUILT_INS) = omega (arith, past) in e)
      where
        of_file : (i : ℕ) → k ≡ BUILT_INS + i → All (λ class. class < length names) row
        of_file i is =
            let found = mapped_back (row_of names) (slice_get files i) row
            (sym (slice_get-map (row_of names) files i) ∙ sym (get_right built_in_rows (map (row_of names) files) i) ∙ ap (slice_get (rows_of names files)) (sym is) ∙ at) in
            let above = above_there files none i found.0 found.1 (all_at IsIndexed files i found.0 indexed found.1) in
            subst (λ r. All (λ class. class < length names) r) found.2 (above_within names found.0 (row_of names found.0) above)

pub are_classes : (files : List ClassFile) → All IsIndexed files → HasNone files NoClass → (table : List (Vec ℕ Global)) → rows table ≡ rows_of (names_of files) files → AreClasses table
are_classes files indexed none table are = λ k d less.
    let row : Vec ℕ Global = get_or table k d in
    let at : slice_get (rows_of (names_of files) files) k ≡ Some row.items =
    ap (λ rs. slice_get rs k) (sym are) ∙ slice_get-map (λ r. r.items) table k ∙ ap (option_map (λ r. r.items)) (slice_get-get_or table k d less) in
    let count : length table ≡ length (names_of files) = sym (length-map table (λ r. r.items)) ∙ ap length are ∙ count_rows (names_of files) files ∙ sym (count_names files) in
    subst (λ n. All (λ class. class < n) row.items) (sym count) (row_within files indexed none k row.items at)
