-- The files that run today: an object `Main` whose `main` prints chains of literals (SLS 1, in the form with braces).
use Rattle.std.specs.Prelude.{◌≡◌, ℕ, ◌^◌, ◌<◌, List, [], ◌∷◌, ◌++◌, map, flat_map, replicate, codes, decimal}
use Rattle.std.specs.List.{AllByRecursion}
use Rattle.sl_top.specs.declared.operator.Operator.{Operator}
use Rattle.sl_top.specs.declared.operator.Operator.TheVariants.{Add, Sub, Mul}
use Rattle.sl_top.specs.declared.chain.Term.{Term}
use Rattle.sl_top.specs.declared.chain.Chain.{Chain}

-- a literal is in decimal without a leading zero, and at most 2147483647
abbrev pub IsLiteral : ℕ → Type 0
IsLiteral n = n < 2 ^ 31

-- an operator has a space on each side
abbrev pub operator_text : Operator → List ℕ
operator_text Add = codes " + "
operator_text Sub = codes " - "
operator_text Mul = codes " * "

-- an operator and the literal behind it
abbrev pub term_text : Term → List ℕ
term_text t = operator_text t.op ++ decimal t.literal

-- the first literal, and the terms
abbrev pub chain_text : Chain → List ℕ
chain_text c = decimal c.first ++ flat_map term_text c.rest

-- each literal is one
abbrev pub HasLiterals : Chain → Type 0
HasLiterals c = IsLiteral c.first × AllByRecursion (λ t. IsLiteral t.literal) c.rest

-- the line that prints a chain, without its spaces and its LF
abbrev pub print_text : Chain → List ℕ
print_text c = codes "println(" ++ (chain_text c ++ codes ")")

-- the lines behind the head of `main`
abbrev pub body_texts : List Chain → List (List ℕ)
body_texts chains = map print_text chains ++ (codes "}" ∷ codes "}" ∷ [])

-- all lines
abbrev pub listing_texts : List Chain → List (List ℕ)
listing_texts chains = codes "object Main {" ∷ codes "def main(): Unit = {" ∷ body_texts chains

-- a line: perhaps spaces, its text, and LF
abbrev pub line : ℕ → List ℕ → List ℕ
line indent text = replicate indent 32 ++ (text ++ 10 ∷ [])

-- the bytes are one line for each text, in order
abbrev pub AreLines : List (List ℕ) → List ℕ → Type 0
AreLines [] bytes = bytes ≡ []
AreLines (text ∷ texts) bytes =
    (indent : ℕ) × (rest : List ℕ) × (bytes ≡ line indent text ++ rest) × AreLines texts rest

-- the bytes are a file that prints these chains, in order
pub record IsListing (bytes : List ℕ) (chains : List Chain) : Type 0 where
  pub literals : AllByRecursion HasLiterals chains
  pub lines : AreLines (listing_texts chains) bytes
