-- Descriptors (JVMS 4.3), as the bytes of their text in UTF-8. B, C, F, S and D are well formed, and hold references here.
use Rattle.std.specs.Prelude.{◌≢◌, ℕ, List, [], ◌∷◌, ◌++◌, Option, None, Some}
use Rattle.std.specs.List.{All}
use Rattle.cf_link.specs.declared.value_kind.ValueKind.{ValueKind}
use Rattle.cf_link.specs.declared.value_kind.ValueKind.TheVariants.{Int, Long, Reference}

-- a byte of a part of a class name: none of `.`, `;`, `[` and `/`
abbrev pub IsPlain : ℕ → Type 0
IsPlain byte = (byte ≢ 46) × (byte ≢ 59) × (byte ≢ 91) × (byte ≢ 47)

-- a class name: parts joined by `/`, none of them empty
pub data IsClassName : List ℕ → Type 0 where
  part : (first : ℕ) (rest : List ℕ) → All IsPlain (first ∷ rest) → IsClassName (first ∷ rest)
  join : (first : ℕ) (rest more : List ℕ) → All IsPlain (first ∷ rest) → IsClassName more
      → IsClassName ((first ∷ rest) ++ 47 ∷ more)

-- the one letter of a type
pub data IsLetter : ℕ → ValueKind → Type 0 where
  byte : IsLetter 66 Reference
  char : IsLetter 67 Reference
  double : IsLetter 68 Reference
  float : IsLetter 70 Reference
  int : IsLetter 73 Int
  long : IsLetter 74 Long
  short : IsLetter 83 Reference
  boolean : IsLetter 90 Int

-- a type, and the kind of its values: a letter, `L NAME ;`, or `[` and a type
pub data IsType : List ℕ → ValueKind → Type 0 where
  letter : (byte : ℕ) (kind : ValueKind) → IsLetter byte kind → IsType (byte ∷ []) kind
  class : (name : List ℕ) → IsClassName name → IsType (76 ∷ name ++ 59 ∷ []) Reference
  array : (component : List ℕ) (kind : ValueKind) → IsType component kind → IsType (91 ∷ component) Reference

-- types one behind the other
pub data AreTypes : List ℕ → List ValueKind → Type 0 where
  none : AreTypes [] []
  more : (type : List ℕ) (kind : ValueKind) (types : List ℕ) (kinds : List ValueKind) → IsType type kind
      → AreTypes types kinds → AreTypes (type ++ types) (kind ∷ kinds)

-- the result of a method: V, or a type
pub data IsResult : List ℕ → Option ValueKind → Type 0 where
  void : IsResult (86 ∷ []) None
  type : (type : List ℕ) (kind : ValueKind) → IsType type kind → IsResult type (Some kind)

-- `( TYPES ) RESULT`
pub data IsMethodType : List ℕ → List ValueKind → Option ValueKind → Type 0 where
  method : (types : List ℕ) (kinds : List ValueKind) (result : List ℕ) (kind : Option ValueKind) → AreTypes types kinds
      → IsResult result kind → IsMethodType (40 ∷ types ++ 41 ∷ result) kinds kind
