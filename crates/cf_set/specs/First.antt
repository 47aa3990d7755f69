-- Which fault of a kind is the first.
use Rattle.std.specs.Prelude.{◌≡◌, ℕ, ◌+◌, ◌<◌, Bool, false, true, not, List, Option, Some, slice_get, option_map, MatchOption}
use Rattle.std.specs.Option.{unwrap_or}
use Rattle.cf_form.specs.Pool.{text_at}
use Rattle.cf_form.specs.declared.class_file.ClassFile.{ClassFile}
use Rattle.cf_form.specs.declared.constant.Const.{Const}
use Rattle.cf_form.specs.declared.constant.Const.TheVariants as constant
use Rattle.cf_link.specs.Faults.{IsFault, ComesBefore}
use Rattle.cf_link.specs.OfFiles.{name_of, class_named, has_text}
use Rattle.cf_link.specs.declared.fault.LinkKind.{LinkKind}
use Rattle.cf_link.specs.declared.fault.LinkKind.TheVariants.{Twice, NoClass}

-- the first fault of a kind stands in this file, at this index of its pool, and tells this class
pub record IsFirst (files : List ClassFile) (of : LinkKind) (i index : ℕ) (told : List ℕ) : Type 0 where
  pub is : IsFault files of i index told
  pub first : (j n : ℕ) (name : List ℕ) → IsFault files of j n name → ¬ (ComesBefore of j n of i index)

-- this file is the first whose class has the name of a built-in one or of one in an earlier file
abbrev pub IsFirstTwice : List ClassFile → ℕ → Type 0
IsFirstTwice files i = (file : ClassFile) × (slice_get files i ≡ Some file) × IsFirst files Twice i 0 (name_of file)

-- this file, at the entry of this number in its pool, is the first that names a class that isn't there
abbrev pub IsFirstNoClass : List ClassFile → ℕ × ℕ → Type 0
IsFirstNoClass files at =
    (file : ClassFile) × (told : List ℕ) × (slice_get files at.0 ≡ Some file)
    × (class_named file.pool (at.1 + 1) ≡ Some told) × IsFirst files NoClass at.0 (at.1 + 1) told

-- no number below this one is one of these
abbrev pub NoneBefore : (ℕ → Type 0) → ℕ → Type 0
NoneBefore is_one i = (k : ℕ) → k < i → ¬ (is_one k)

-- the first number below a bound that is one of these
abbrev pub IfFirst : (ℕ → Type 0) → ℕ → Option ℕ → Type 0
IfFirst is_one count result = MatchOption result (NoneBefore is_one count) (λ k. is_one k × NoneBefore is_one k)

-- whether an entry names a class that has none of the names
abbrev pub lacks_class : List (List ℕ) → List Const → Const → Bool
lacks_class names pool (constant.Class text) = unwrap_or (option_map (λ name. not (has_text names name)) (text_at pool text)) false
lacks_class names pool _ = false

-- the entry of a number in a pool (its index less 1) names a class that has none of the names
abbrev pub LacksAt : List (List ℕ) → List Const → ℕ → Type 0
LacksAt names pool k = (c : Const) × (slice_get pool k ≡ Some c) × (lacks_class names pool c ≡ true)
