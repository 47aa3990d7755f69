-- UTF-8 (The Unicode Standard, 3.9): which bytes are well-formed, and the characters that they spell.
use Rattle.std.specs.Prelude.{◌≡◌, ℕ, ◌+◌, ◌-◌, ◌*◌, ◌^◌, ◌<◌, ◌⊎◌, List, [], ◌∷◌, ◌++◌, length, take, drop}
use Rattle.std.specs.Int.{IsInRange}

-- c is a Unicode scalar value: a code point that is no surrogate (D76)
abbrev pub IsScalarValue : ℕ → Type 0
IsScalarValue c = IsInRange 0 0xD7FF c ⊎ IsInRange 0xE000 0x10FFFF c

-- the bytes are one well-formed sequence: a row of table 3-7, named by its first code point
pub data IsByteSequence : List ℕ → Type 0 where
  from_0000 : {a : ℕ} → IsInRange 0x00 0x7F a → IsByteSequence (a ∷ [])
  from_0080 : {a b : ℕ} → IsInRange 0xC2 0xDF a → IsInRange 0x80 0xBF b → IsByteSequence (a ∷ b ∷ [])
  from_0800 : {a b c : ℕ} → a ≡ 0xE0 → IsInRange 0xA0 0xBF b → IsInRange 0x80 0xBF c
      → IsByteSequence (a ∷ b ∷ c ∷ [])
  from_1000 : {a b c : ℕ} → IsInRange 0xE1 0xEC a → IsInRange 0x80 0xBF b → IsInRange 0x80 0xBF c
      → IsByteSequence (a ∷ b ∷ c ∷ [])
  from_D000 : {a b c : ℕ} → a ≡ 0xED → IsInRange 0x80 0x9F b → IsInRange 0x80 0xBF c
      → IsByteSequence (a ∷ b ∷ c ∷ [])
  from_E000 : {a b c : ℕ} → IsInRange 0xEE 0xEF a → IsInRange 0x80 0xBF b → IsInRange 0x80 0xBF c
      → IsByteSequence (a ∷ b ∷ c ∷ [])
  from_10000 : {a b c d : ℕ} → a ≡ 0xF0 → IsInRange 0x90 0xBF b → IsInRange 0x80 0xBF c → IsInRange 0x80 0xBF d
      → IsByteSequence (a ∷ b ∷ c ∷ d ∷ [])
  from_40000 : {a b c d : ℕ} → IsInRange 0xF1 0xF3 a → IsInRange 0x80 0xBF b → IsInRange 0x80 0xBF c
      → IsInRange 0x80 0xBF d → IsByteSequence (a ∷ b ∷ c ∷ d ∷ [])
  from_100000 : {a b c d : ℕ} → a ≡ 0xF4 → IsInRange 0x80 0x8F b → IsInRange 0x80 0xBF c → IsInRange 0x80 0xBF d
      → IsByteSequence (a ∷ b ∷ c ∷ d ∷ [])

-- the code point whose bits a well-formed sequence holds (table 3-6): six in each byte behind the first
abbrev pub code_point : List ℕ → ℕ
code_point [] = 0
code_point (a ∷ []) = a
code_point (a ∷ b ∷ []) = (a - 0xC0) * 2 ^ 6 + (b - 0x80)
code_point (a ∷ b ∷ c ∷ []) = (a - 0xE0) * 2 ^ 12 + (b - 0x80) * 2 ^ 6 + (c - 0x80)
code_point (a ∷ b ∷ c ∷ d ∷ _) = (a - 0xF0) * 2 ^ 18 + (b - 0x80) * 2 ^ 12 + (c - 0x80) * 2 ^ 6 + (d - 0x80)

-- the bytes are the well-formed sequence of the character c
abbrev pub Encodes : List ℕ → ℕ → Type 0
Encodes bytes c = IsByteSequence bytes × (code_point bytes ≡ c)

-- the bytes are the sequences of these characters, one behind the other
abbrev pub Spells : List ℕ → List ℕ → Type 0
Spells bytes [] = bytes ≡ []
Spells bytes (c ∷ cs) = (sequence : List ℕ) × (rest : List ℕ) × (bytes ≡ sequence ++ rest)
    × Encodes sequence c × Spells rest cs

-- the bytes are UTF-8: some characters have them
abbrev pub IsWellFormed : List ℕ → Type 0
IsWellFormed bytes = (cs : List ℕ) × Spells bytes cs

-- a well-formed sequence begins the bytes
abbrev pub StartsWithSequence : List ℕ → Type 0
StartsWithSequence bytes = (sequence : List ℕ) × (rest : List ℕ) × (bytes ≡ sequence ++ rest) × IsByteSequence sequence

-- the first ill-formed sequence begins at the byte `at`: UTF-8 before it, and no well-formed sequence there
pub record IsIllFormedAt (bytes : List ℕ) (at : ℕ) : Type 0 where
  pub within : at < length bytes
  pub before : IsWellFormed (take at bytes)
  pub none : ¬ (StartsWithSequence (drop at bytes))
