-- Members have the same number exactly where their keys are the same.
use Rattle.std.proofs.Common.{◌≡◌, ◌≢◌, refl, ap, ◌∙◌, ℕ, ◌^◌, ◌<◌, List, [], ◌∷◌, length, map, arith}
use Rattle.std.specs.Prelude.{◌==◌, ◌&&◌, ◌||◌}
use Rattle.std.specs.BTreeSet.{BTreeSet}
use Rattle.std.specs.List.{list_any}
use Rattle.cf_form.specs.Pool.{text_at}
use Rattle.cf_form.specs.declared.constant.Const.{Const}
use Rattle.cf_read.specs.Reading.{key_of, same_text, same_key}
use Rattle.cf_read.specs.Views.{key_at}
use Rattle.cf_read.specs.Seen.{text_number, NumbersTexts, are_numbered, has_numbers, AreSeen}

module _ (pool : List Const) (texts : List ℕ) (name descriptor : ℕ) (numbered : NumbersTexts pool texts) where
  same_member : (key : ℕ × ℕ) → are_numbered texts (text_number texts name) (text_number texts descriptor) key ≡ same_key (key_of pool name descriptor) (key_at pool key)
  same_member key =
      ap (λ b. b && (text_number texts descriptor == text_number texts key.1)) (numbered.same name key.0)
      ∙ ap (λ b. same_text (text_at pool name) (text_at pool key.0) && b) (numbered.same descriptor key.1)

  same_members : (keys : List (ℕ × ℕ)) → list_any (are_numbered texts (text_number texts name) (text_number texts descriptor)) keys ≡ list_any (same_key (key_of pool name descriptor)) (map (key_at pool) keys)
  same_members [] = refl
  same_members (key ∷ keys) =
      ap (λ b. b || list_any (are_numbered texts (text_number texts name) (text_number texts descriptor)) keys) (same_member key)
      ∙ ap (λ b. same_key (key_of pool name descriptor) (key_at pool key) || b) (same_members keys)

-- so numbers tell whether a key is among those seen; before the first member nothing is seen
pub seen_all : (pool : List Const) (texts : List ℕ) (name descriptor : ℕ) (keys : List (ℕ × ℕ)) (firsts : List ℕ) (others : BTreeSet ℕ) → (keys ≢ [] → NumbersTexts pool texts)
    → AreSeen texts firsts others keys → text_number texts descriptor < 2 ^ 16
    → has_numbers firsts others (text_number texts name) (text_number texts descriptor) ≡ list_any (same_key (key_of pool name descriptor)) (map (key_at pool) keys)
seen_all pool texts name descriptor [] firsts others numbered seen lt = seen (text_number texts name) (text_number texts descriptor) lt
seen_all pool texts name descriptor (key ∷ keys) firsts others numbered seen lt =
    seen (text_number texts name) (text_number texts descriptor) lt
    ∙ same_members pool texts name descriptor (numbered (λ n. absurd cc)) (key ∷ keys)

-- a list of members has numbers before its second
pub numbers_before : (pool : List Const) (texts : List ℕ) (keys : List (ℕ × ℕ)) (count i : ℕ) → i < count → length keys ≡ i → (1 < count → NumbersTexts pool texts) → keys ≢ [] → NumbersTexts pool texts
numbers_before pool texts [] count i lt many h some = absurd (some refl)
numbers_before pool texts (key ∷ keys) count i lt many h some = h (omega (arith, lt, many))
