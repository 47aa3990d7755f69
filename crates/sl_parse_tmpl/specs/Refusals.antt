-- Where tokens that are no file of the grammar cease to begin one.
use Rattle.std.specs.Prelude.{◌≡◌, ◌≤◌, ◌<◌, ℕ, suc, List, ◌++◌, length, take, slice_get}
use Rattle.sl_ast.specs.declared.token.Token.{Token}
use Rattle.sl_ast.specs.declared.unit.Unit as file
use Rattle.sl_parse_expr.specs.Grammar.{IsParArgs}
use Rattle.sl_parse_expr.specs.Until.{IsExprUntil, IsPatternUntil}
use Rattle.sl_parse_tmpl.specs.declared.fault.ParseFault.{ParseFault}
use Rattle.sl_parse_tmpl.specs.declared.fault.ParseKind.{ParseKind}
use Rattle.sl_parse_tmpl.specs.declared.fault.ParseKind.TheVariants as kinds
use Rattle.sl_parse_tmpl.specs.Faults.{nesting, number, next_span}
use Rattle.sl_parse_tmpl.specs.Grammar.{IsUnit, Derives}

-- some file, however deep, begins with the tokens before this number and the token that has it
abbrev pub Continues : List Token → ℕ → Type 0
Continues tokens i = (i < length tokens) × (n : ℕ) × (tree : file.Unit) × (more : List Token) × Derives n tree (take (suc i) tokens ++ more)

-- a file of these tokens: until k tokens are left its expressions and patterns nest at most n deep, and at most m deeper there
abbrev pub DerivesUntil : ℕ → ℕ → ℕ → file.Unit → List Token → Type 0
DerivesUntil k m n = IsUnit (IsExprUntil k m n) (IsParArgs (IsExprUntil k m n) (IsPatternUntil k m n))

-- in some file that begins with the tokens before this number and the token that has it, these lie within n nested
-- expressions and patterns, whatever stands behind them
abbrev pub ContinuesWithin : ℕ → List Token → ℕ → Type 0
ContinuesWithin n tokens i = (i < length tokens) × (m : ℕ) × (tree : file.Unit) × (more : List Token) × DerivesUntil (length more) m n tree (take (suc i) tokens ++ more)

-- The tokens are no file, however deep. This is the number of the first that no file goes on with, or the number of all
-- tokens, where these begin a file; and none before it lies too deep.
pub record IsUnexpected (n : ℕ) (tokens : List Token) (i : ℕ) : Type 0 where
  pub within : i ≤ length tokens
  pub none : (m : ℕ) (tree : file.Unit) → Derives m tree tokens → ⊥
  pub refused : Continues tokens i → ⊥
  pub before : (j : ℕ) → j < i → ContinuesWithin n tokens j

-- The tokens are no file that nests no deeper than n. Some file goes on with the token that has this number, and it is the
-- first that lies deeper in each such file.
pub record IsTooDeep (n : ℕ) (tokens : List Token) (i : ℕ) : Type 0 where
  pub none : (tree : file.Unit) → Derives n tree tokens → ⊥
  pub continued : Continues tokens i
  pub refused : ContinuesWithin n tokens i → ⊥
  pub before : (j : ℕ) → j < i → ContinuesWithin n tokens j

-- a fault of this kind at the token that has this number, or behind all tokens
abbrev pub fault_of_token : List Token → ℕ → ParseKind → ParseFault
fault_of_token tokens i kind = record { kind = kind; at = number i; span = next_span tokens (slice_get tokens i) }

-- what a fault says of the tokens; want of memory says nothing of them
pub data Refuses (tokens : List Token) : ParseFault → Type 0 where
  unexpected : {i : ℕ} → IsUnexpected nesting tokens i → Refuses tokens (fault_of_token tokens i kinds.Unexpected)
  too_deep : {i : ℕ} → IsTooDeep nesting tokens i → Refuses tokens (fault_of_token tokens i kinds.TooDeep)
