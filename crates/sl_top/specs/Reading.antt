-- What the parts of the reader read. Each is a relation between what is spelled, bytes that begin with it, and the rest.
use Rattle.std.specs.Prelude.{◌≡◌, ℕ, List, [], ◌∷◌, ◌++◌, if◌then◌else◌, ◌==◌, slice_index, flat_map, decimal, ◌↔◌}
use Rattle.std.specs.Char.{IsAsciiDigit}
use Rattle.std.specs.List.{AllByRecursion}
use Rattle.std.specs.Str.Parse.{AllDigits, digits_value}
use Rattle.sl_top.specs.declared.operator.Operator.{Operator}
use Rattle.sl_top.specs.declared.chain.Term.{Term}
use Rattle.sl_top.specs.declared.chain.Chain.{Chain}
use Rattle.sl_top.specs.Listing.{IsLiteral, operator_text, term_text, chain_text, HasLiterals, body_texts, AreLines}

-- the bytes begin with one thing that has a spelling, and this is it
pub record IsRead {X : Type 0} (Spells : X → List ℕ → List ℕ → Type 0) (bytes : List ℕ) (x : X) (rest : List ℕ) : Type 0 where
  pub is : Spells x bytes rest
  pub only : (y : X) (after : List ℕ) → Spells y bytes after → (y ≡ x) × (after ≡ rest)

-- they begin with nothing that has one
abbrev pub NoneRead : {X : Type 0} → (X → List ℕ → List ℕ → Type 0) → List ℕ → Type 0
NoneRead {X} Spells bytes = (x : X) (rest : List ℕ) → Spells x bytes rest → ⊥

-- the bytes without the spaces at the front
unfoldable pub unindented : List ℕ → List ℕ
unindented [] = []
unindented (b ∷ bytes) = if b == 32 then unindented bytes else b ∷ bytes

-- the bytes are lines with these texts, and behind them the rest
abbrev pub LinesThen : List (List ℕ) → List ℕ → List ℕ → Type 0
LinesThen texts bytes rest = (more : List (List ℕ)) → AreLines (texts ++ more) bytes ↔ AreLines more rest

-- they begin with no such lines
abbrev pub NoSuchLines : List (List ℕ) → List ℕ → Type 0
NoSuchLines texts bytes = (more : List (List ℕ)) → AreLines (texts ++ more) bytes → ⊥

-- no digit goes on
abbrev pub NoDigit : List ℕ → Type 0
NoDigit bytes = IsAsciiDigit (slice_index bytes 0) → ⊥

-- digits at the front, and the number that they write
abbrev pub HasDigits : List ℕ → ℕ → List ℕ → Type 0
HasDigits bytes n rest = (digits : List ℕ) × AllDigits 10 digits × (bytes ≡ digits ++ rest) × (digits_value 10 digits ≡ n)

-- a literal that no digit goes on
abbrev pub SpellsLiteral : ℕ → List ℕ → List ℕ → Type 0
SpellsLiteral n bytes rest = IsLiteral n × (bytes ≡ decimal n ++ rest) × NoDigit rest

-- an operator with a space on each side
abbrev pub SpellsOperator : Operator → List ℕ → List ℕ → Type 0
SpellsOperator op bytes rest = bytes ≡ operator_text op ++ rest

-- an operator and a literal that no digit goes on
abbrev pub SpellsTerm : Term → List ℕ → List ℕ → Type 0
SpellsTerm t bytes rest = IsLiteral t.literal × (bytes ≡ term_text t ++ rest) × NoDigit rest

-- terms up to the `)` that ends a line
abbrev pub SpellsTerms : List Term → List ℕ → List ℕ → Type 0
SpellsTerms ts bytes rest = AllByRecursion (λ t. IsLiteral t.literal) ts × (bytes ≡ flat_map term_text ts ++ (41 ∷ 10 ∷ rest))

-- a chain up to the `)` that ends a line
abbrev pub SpellsChain : Chain → List ℕ → List ℕ → Type 0
SpellsChain c bytes rest = HasLiterals c × (bytes ≡ chain_text c ++ (41 ∷ 10 ∷ rest))

-- the lines behind the head of `main`
abbrev pub IsBody : List Chain → List ℕ → Type 0
IsBody chains bytes = AllByRecursion HasLiterals chains × AreLines (body_texts chains) bytes
