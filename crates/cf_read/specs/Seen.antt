-- The texts of a pool as numbers, and the members that were read as numbers made of these.
use Rattle.std.specs.Prelude.{◌≡◌, ◌≢◌, [], ℕ, ◌+◌, ◌*◌, ◌^◌, ◌<◌, ◌==◌, ◌&&◌, ◌||◌, Bool, List, Option, None, Some, slice_index, encode_utf8_all}
use Rattle.std.specs.BTreeMap as tree
use Rattle.std.specs.BTreeMap.{BTreeMap}
use Rattle.std.specs.BTreeSet as sorted
use Rattle.std.specs.BTreeSet.{BTreeSet}
use Rattle.std.specs.Borrow.{Bor}
use Rattle.std.specs.Cmp.Lexicographic.{slice_cmp}
use Rattle.std.specs.List.{list_any}
use Rattle.std.specs.Map.{update}
use Rattle.std.specs.Option.{unwrap_or}
use Rattle.std.specs.Ordering.{nat_cmp}
use Rattle.std.specs.Str.{bytes_eq, chars}
use Rattle.cf_form.specs.Pool.{text_at}
use Rattle.cf_form.specs.declared.constant.Const.{Const}
use Rattle.cf_read.specs.Reading.{same_text}
use Rattle.cf_read.specs.declared.seen.Members.{Members}

-- the number of the text at an index
abbrev pub text_number : List ℕ → ℕ → ℕ
text_number texts i = slice_index texts i

-- indexes have the same number exactly where they name the same text, or none of them a text
pub record NumbersTexts (pool : List Const) (texts : List ℕ) : Type 0 where
  pub same : (i j : ℕ) → (text_number texts i == text_number texts j) ≡ same_text (text_at pool i) (text_at pool j)
  pub fit : (i : ℕ) → text_number texts i < 2 ^ 16

-- the first descriptors of names, and the other members, have these numbers of a name and a descriptor
abbrev pub has_numbers : List ℕ → BTreeSet ℕ → ℕ → ℕ → Bool
has_numbers firsts others name descriptor =
    (slice_index firsts name == descriptor + 1) || sorted.contains nat_cmp others (name * 65536 + descriptor)

-- the indexes of a name and a descriptor have these numbers
abbrev pub are_numbered : List ℕ → ℕ → ℕ → ℕ × ℕ → Bool
are_numbered texts name descriptor key = (name == text_number texts key.0) && (descriptor == text_number texts key.1)

-- the numbers of these members are there, and no others
abbrev pub AreSeen : List ℕ → List ℕ → BTreeSet ℕ → List (ℕ × ℕ) → Type 0
AreSeen texts firsts others keys =
    (name descriptor : ℕ) → descriptor < 2 ^ 16 → has_numbers firsts others name descriptor ≡ list_any (are_numbered texts name descriptor) keys

-- the first index that has this text in UTF-8
abbrev pub first_of : BTreeMap (Bor (List ℕ)) ℕ → List ℕ → Option ℕ
first_of firsts bytes = tree.get_by (λ k. slice_cmp nat_cmp bytes k.now) firsts

-- the number of the entry at an index, with the first indexes of texts before it and behind it
abbrev pub IsNumber : BTreeMap (Bor (List ℕ)) ℕ → BTreeMap (Bor (List ℕ)) ℕ → ℕ → Option (List ℕ) → ℕ → Type 0
IsNumber old new index None number =
    (number ≡ 0) × ((bytes : List ℕ) → first_of new bytes ≡ first_of old bytes)
IsNumber old new index (Some text) number =
    (chars (encode_utf8_all text) ≡ text)
    × (number ≡ unwrap_or (first_of old (encode_utf8_all text)) index)
    × ((bytes : List ℕ) → first_of new bytes ≡ update bytes_eq (first_of old) (encode_utf8_all text) (Some number) bytes)

-- nothing, or the numbers of the texts
abbrev pub NumbersIfAny : List Const → List ℕ → Type 0
NumbersIfAny pool texts = texts ≢ [] → NumbersTexts pool texts

-- the members are told apart by what this pool has; the texts have numbers, unless there is no member yet
pub record AreKept (pool : List Const) (texts : List ℕ) (members : Members) : Type 0 where
  pub numbered : members.keys.items ≢ [] → NumbersTexts pool texts
  pub seen : AreSeen texts members.firsts.items members.others members.keys.items
