-- Bytes are UTF-8, or have a first ill-formed sequence.
use Rattle.std.proofs.Common.{◌≡◌, refl, sym, ◌∙◌, subst, ℕ, zero, suc, ◌<◌, ◌≤◌, ◌⊎◌, inl, inr, List, length, take, Bool, true, false, arith}
use Rattle.std.proofs.lemmas.Bool.{both_ways}
use Rattle.std.proofs.lemmas.List.{take_all}
use Rattle.std.proofs.lemmas.Str.{IsUtf8-nil, IsUtf8-from_is_utf8, is_utf8-from_IsUtf8}
use Rattle.std.specs.Str.{IsUtf8, is_utf8}
use Rattle.sl_text.specs.Utf8.{IsWellFormed, IsIllFormedAt}
use Rattle.sl_text.proofs.Spelling.{std_well_formed, std_ill_formed}

-- v is the longest front up to n that is UTF-8
record IsLongestTo (bytes : List ℕ) (n v : ℕ) : Type 0 where
  within : v ≤ n
  front : IsUtf8 (take v bytes)
  longest : (m : ℕ) → v < m → m ≤ n → ¬ (IsUtf8 (take m bytes))

last_or_before : (m n : ℕ) → m ≤ suc n → (m ≤ n) ⊎ (m ≡ suc n)
last_or_before m n le = grind arith

order : (m n : ℕ) → (m < n) ⊎ (n ≤ m)
order m n = grind arith

-- the front of n + 1 bytes is UTF-8, or the longest is the one before
one_longer : (bytes : List ℕ) (n v : ℕ) (test : Bool) → is_utf8 (take (suc n) bytes) ≡ test
    → IsLongestTo bytes n v → (w : ℕ) × IsLongestTo bytes (suc n) w
one_longer bytes n v true e below = (suc n, record { within = omega arith; front = IsUtf8-from_is_utf8 _ e; longest = λ m a b. absurd (omega arith) })
one_longer bytes n v false e below = (
  v,
  record {
    within = omega (arith, below.within);
    front = below.front;
    longest = λ m a b u. elim (last_or_before m n b) [
      | inl le ↦ below.longest m a le u
      | inr same ↦ both_ways _ e (is_utf8-from_IsUtf8 _ (subst (λ k. IsUtf8 (take k bytes)) same u))
    ];
  },
)

longest_to : (bytes : List ℕ) (n : ℕ) → (v : ℕ) × IsLongestTo bytes n v
longest_to bytes zero = (0, record { within = omega arith; front = IsUtf8-nil; longest = λ m a b. absurd (omega arith) })
longest_to bytes (suc n) = let below = longest_to bytes n in one_longer bytes n below.0 _ refl below.1

well_or_ill : (bytes : List ℕ) (v : ℕ) → IsLongestTo bytes (length bytes) v
    → (v < length bytes) ⊎ (length bytes ≤ v) → IsWellFormed bytes ⊎ ((i : ℕ) × IsIllFormedAt bytes i)
well_or_ill bytes v h (inr all) = inl (std_well_formed bytes (subst IsUtf8 (take_all v bytes all) h.front))
well_or_ill bytes v h (inl lt) = inr (v, std_ill_formed bytes v (record { short = lt; front = h.front; longest = longest }))
  where
    longest : (m : ℕ) → v < m → ¬ (IsUtf8 (take m bytes))
    longest m a u = elim (order m (length bytes)) [
      | inl within ↦ h.longest m a (omega arith) u
      | inr all ↦ h.longest (length bytes) lt (omega arith) (subst IsUtf8 (take_all m bytes all ∙ sym (take_all (length bytes) bytes (omega arith))) u)
    ]

pub well_or_ill_formed : (bytes : List ℕ) → IsWellFormed bytes ⊎ ((i : ℕ) × IsIllFormedAt bytes i)
well_or_ill_formed bytes = let found = longest_to bytes (length bytes) in well_or_ill bytes found.0 found.1 (order found.0 (length bytes))
