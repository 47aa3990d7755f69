-- What the entries of a pool resolve to, as it is looked up.
use Rattle.std.specs.Prelude.{ℕ, List, Option, Some, None, option_map, option_and_then}
use Rattle.cf_form.specs.Pool.{entry, text_at}
use Rattle.cf_form.specs.declared.constant.Const.{Const}
use Rattle.cf_form.specs.declared.constant.Const.TheVariants as constant
use Rattle.cf_link.specs.Resolution.{resolved_field, resolved_method}
use Rattle.cf_link.specs.declared.linked_class.LinkedClass.{LinkedClass}
use Rattle.cf_link.specs.declared.reference.LinkedRef.{LinkedRef}
use Rattle.cf_link.specs.declared.reference.LinkedRef.TheVariants as ref
use Rattle.cf_set.specs.Indexes.{number_at}
use Rattle.cf_set.specs.Names.{number_in}

-- the number of the text at an index
abbrev pub text_number : List (List ℕ) → List Const → ℕ → Option ℕ
text_number texts pool index = option_and_then (number_in texts) (text_at pool index)

-- what is found for the texts at the indexes of a name and a descriptor
abbrev pub found_by : (List ℕ → List ℕ → Option LinkedRef) → List Const → ℕ → ℕ → Option LinkedRef
found_by found pool name descriptor = option_and_then (λ n. option_and_then (found n) (text_at pool descriptor)) (text_at pool name)

-- what is found for a name with its descriptor
abbrev pub member_by : (List ℕ → List ℕ → Option LinkedRef) → List Const → Option Const → Option LinkedRef
member_by found pool (Some (constant.NameType name descriptor)) = found_by found pool name descriptor
member_by found pool _ = None

-- what is found for a reference to a member of a class
abbrev pub reference_by : (ℕ → List ℕ → List ℕ → Option LinkedRef) → List (List ℕ) → List Const → ℕ → ℕ → Option LinkedRef
reference_by found names pool class member = option_and_then (λ number. member_by (found number) pool (entry pool member)) (number_at names pool class)

-- what an entry resolves to, if to anything
abbrev pub resolved : List (List ℕ) → List (List ℕ) → List LinkedClass → List Const → Const → Option LinkedRef
resolved names texts classes pool (constant.Int x) = Some (ref.Int x)
resolved names texts classes pool (constant.Long x) = Some (ref.Long x)
resolved names texts classes pool (constant.Text text) = option_map (λ n. ref.Text n) (text_number texts pool text)
resolved names texts classes pool (constant.Class name) = option_map (λ n. ref.Class n) (text_number names pool name)
resolved names texts classes pool (constant.Field class member) = reference_by (resolved_field classes) names pool class member
resolved names texts classes pool (constant.Method class member) = reference_by (resolved_method classes) names pool class member
resolved names texts classes pool (constant.Interface class member) = reference_by (resolved_method classes) names pool class member
resolved names texts classes pool _ = Some ref.Other
