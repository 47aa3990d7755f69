-- What reading a file gives: its tree, or its fault with the token and the span where reading stopped.
use Rattle.std.specs.Prelude.{◌-◌, nat_lt, ℕ, Bool, true, false, List, length, Option, Some, None, Ok, Err, if◌then◌else◌, slice_get}
use Rattle.sl_text.specs.declared.span.Span.{Span}
use Rattle.sl_ast.specs.declared.token.Token.{Token}
use Rattle.sl_ast.specs.declared.unit.Unit as file
use Rattle.sl_parse_expr.specs.Reading.{Outcome, head}
use Rattle.sl_parse_tmpl.specs.declared.fault.ParseFault.{ParseFault}
use Rattle.sl_parse_tmpl.specs.declared.fault.ParseKind.{ParseKind}
use Rattle.sl_parse_tmpl.specs.declared.fault.ParseKind.TheVariants as kinds

-- how deep expressions and patterns may nest
abbrev pub nesting : ℕ
nesting = 200

-- the kind of a fault where reading stopped, by whether it stopped for depth
abbrev pub kind_of : Bool → ParseKind
kind_of true = kinds.TooDeep
kind_of false = kinds.Unexpected

-- the number of a token, which stands still at the end of its type
abbrev pub number : ℕ → ℕ
number n = if nat_lt n 4294967295 then n else 4294967295

-- the span of no characters at an offset
abbrev pub empty_at : ℕ → Span
empty_at n = record { from = n; to = n }

-- the empty span behind a token, or at the begin where there is none
abbrev pub behind : Option Token → Span
behind None = empty_at 0
behind (Some t) = empty_at t.span.to

-- the span of the next token, or the empty one behind all tokens
abbrev pub next_span : List Token → Option Token → Span
next_span tokens (Some t) = t.span
next_span tokens None = behind (slice_get tokens (length tokens - 1))

-- a fault where these of the tokens are left
abbrev pub fault_at : List Token → List Token → ParseKind → ParseFault
fault_at tokens left kind = record { kind = kind; at = number (length tokens - length left); span = next_span tokens (head left) }

-- the tree that reading gave
abbrev pub tree_of : Outcome file.Unit → Option file.Unit
tree_of (Ok q) = Some q.0
tree_of (Err stop) = None

-- the fault of tokens in which reading stopped
abbrev pub fault_of : List Token → Outcome file.Unit → Option ParseFault
fault_of tokens (Ok q) = None
fault_of tokens (Err stop) = Some (fault_at tokens stop.at (kind_of stop.deep))
