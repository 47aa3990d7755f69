-- Modified UTF-8, the form of the texts in class files (JVMS 4.4.7). A text is the list of its characters.
use Rattle.std.specs.Prelude.{◌≡◌, ◌≢◌, ℕ, ◌+◌, ◌-◌, ◌/◌, ◌%◌, ◌<◌, ◌&&◌, List, [], ◌∷◌, ◌++◌, length, nat_lt, true, if◌then◌else◌}
use Rattle.std.specs.Char.{IsScalar}
use Rattle.std.specs.Str.{all_scalars}

-- the bytes of a code unit of UTF-16: one from 0x0001 to 0x007F, two at 0 and to 0x07FF, else three
unfoldable pub unit_bytes : ℕ → List ℕ
unit_bytes u = if nat_lt 0 u && nat_lt u 0x80 then u ∷ []
    else (if nat_lt u 0x800 then (0xC0 + u / 0x40) ∷ (0x80 + u % 0x40) ∷ []
    else (0xE0 + u / 0x1000) ∷ (0x80 + u / 0x40 % 0x40) ∷ (0x80 + u % 0x40) ∷ [])

-- the code units of a character in UTF-16: itself, or a high and a low surrogate
unfoldable pub units_of : ℕ → List ℕ
units_of c = if nat_lt c 0x10000 then c ∷ []
    else (0xD800 + (c - 0x10000) / 0x400) ∷ (0xDC00 + (c - 0x10000) % 0x400) ∷ []

-- the bytes of code units, one after another
abbrev pub units_bytes : List ℕ → List ℕ
units_bytes [] = []
units_bytes (u ∷ us) = unit_bytes u ++ units_bytes us

-- the bytes of a character
unfoldable pub character_bytes : ℕ → List ℕ
character_bytes c = units_bytes (units_of c)

-- the bytes of a text
abbrev pub encoded : List ℕ → List ℕ
encoded [] = []
encoded (c ∷ cs) = character_bytes c ++ encoded cs

-- the numbers are the characters of a text: Unicode scalar values
abbrev pub IsText : List ℕ → Type 0
IsText text = all_scalars text ≡ true

-- the bytes are those of this text
abbrev pub Spells : List ℕ → List ℕ → Type 0
Spells bytes text = IsText text × (bytes ≡ encoded text)

-- no character's bytes begin these
abbrev pub NoCharacterBegins : List ℕ → Type 0
NoCharacterBegins bytes = (c : ℕ) → IsScalar c → (rest : List ℕ) → bytes ≢ character_bytes c ++ rest

-- the first wrong unit begins at the byte `at`: a text's bytes before it, and there bytes that no character's begin
pub record IsBadUnitAt (bytes : List ℕ) (at : ℕ) : Type 0 where
  pub text : List ℕ
  pub rest : List ℕ
  pub is_text : IsText text
  pub splits : bytes ≡ encoded text ++ rest
  pub before : length (encoded text) ≡ at
  pub not_empty : 0 < length rest
  pub wrong : NoCharacterBegins rest
