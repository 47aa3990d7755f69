-- Before which tokens a rule is over, and that its loops and options are over there.
use Rattle.std.proofs.Common.{◌≡◌, Bool, true, false, refl}
use Rattle.sl_parse_expr.specs.declared.ahead.Ahead.{Ahead}
use Rattle.sl_parse_expr.specs.declared.ahead.Ahead.TheVariants as see
use Rattle.sl_parse_expr.specs.Ahead.{same}
use Rattle.sl_parse_expr.specs.declared.chain.Chain.{Chain}
use Rattle.sl_parse_expr.specs.declared.chain.Chain.TheVariants as chain
use Rattle.sl_parse_expr.specs.Starts.{begins_expr}
use Rattle.sl_parse_expr.specs.Rules.{goes_chain}

-- of an expression
abbrev pub closers : Ahead → Bool
closers see.End = true
closers see.CloseParen = true
closers see.CloseBrace = true
closers see.Arrow = true
closers o = false

-- of a pattern
abbrev pub arrows : Ahead → Bool
arrows see.End = true
arrows see.CloseParen = true
arrows see.Arrow = true
arrows o = false

-- of a block
abbrev pub brace : Ahead → Bool
brace see.CloseBrace = true
brace o = false

-- of the head of an `if`
abbrev pub starts : Ahead → Bool
starts o = begins_expr o

-- of a type: anything but a bracket that opens
abbrev pub no_bracket : Ahead → Bool
no_bracket see.OpenBracket = false
no_bracket o = true

pub at_closers : (P : Ahead → Type 0) → P see.End → P see.CloseParen → P see.CloseBrace → P see.Arrow → (o : Ahead) → closers o ≡ true → P o
at_closers P a b c d see.End h = a
at_closers P a b c d see.CloseParen h = b
at_closers P a b c d see.CloseBrace h = c
at_closers P a b c d see.Arrow h = d
at_closers P a b c d o h = absurd cc

pub at_arrows : (P : Ahead → Type 0) → P see.End → P see.CloseParen → P see.Arrow → (o : Ahead) → arrows o ≡ true → P o
at_arrows P a b d see.End h = a
at_arrows P a b d see.CloseParen h = b
at_arrows P a b d see.Arrow h = d
at_arrows P a b d o h = absurd cc

pub at_brace : (P : Ahead → Type 0) → P see.CloseBrace → (o : Ahead) → brace o ≡ true → P o
at_brace P c see.CloseBrace h = c
at_brace P c o h = absurd cc

pub not_bracket : (o : Ahead) → no_bracket o ≡ true → same see.OpenBracket o ≡ false
not_bracket see.OpenBracket h = absurd cc
not_bracket o h = refl

pub not_line : (o : Ahead) → begins_expr o ≡ true → same see.Newline o ≡ false
not_line see.Newline h = absurd cc
not_line o h = refl

pub chain_over : (c : Chain) (o : Ahead) → closers o ≡ true → goes_chain c o ≡ false
chain_over chain.All o h = at_closers (λ o. goes_chain chain.All o ≡ false) refl refl refl refl o h
chain_over chain.Selections o h = at_closers (λ o. goes_chain chain.Selections o ≡ false) refl refl refl refl o h
chain_over chain.Over o h = refl
