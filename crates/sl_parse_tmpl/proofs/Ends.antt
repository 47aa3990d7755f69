-- Before which tokens a rule is over, and that its loops and options are over there.
use Rattle.std.proofs.Common.{◌≡◌, Bool, true, false, refl}
use Rattle.sl_parse_expr.specs.declared.ahead.Ahead.{Ahead}
use Rattle.sl_parse_expr.specs.declared.ahead.Ahead.TheVariants as see
use Rattle.sl_parse_expr.specs.Ahead.{same}
use Rattle.sl_parse_expr.proofs.Ends.{no_bracket}

-- of a template
abbrev pub done : Ahead → Bool
done see.End = true
done o = false

pub at_done : (P : Ahead → Type 0) → P see.End → (o : Ahead) → done o ≡ true → P o
at_done P p see.End h = p
at_done P p o h = absurd cc

-- of the parameters of a list
abbrev pub paren : Ahead → Bool
paren see.CloseParen = true
paren o = false

pub at_paren : (P : Ahead → Type 0) → P see.CloseParen → (o : Ahead) → paren o ≡ true → P o
at_paren P p see.CloseParen h = p
at_paren P p o h = absurd cc

-- of an optional type: anything but a colon or a bracket that opens
abbrev pub no_type : Ahead → Bool
no_type see.OpenBracket = false
no_type see.Colon = false
no_type o = true

pub type_bracket : (o : Ahead) → no_type o ≡ true → no_bracket o ≡ true
type_bracket see.OpenBracket h = absurd cc
type_bracket o h = refl

pub not_colon : (o : Ahead) → no_type o ≡ true → same see.Colon o ≡ false
not_colon see.Colon h = absurd cc
not_colon o h = refl

-- of optional parameters: anything but a parenthesis that opens
abbrev pub no_paren : Ahead → Bool
no_paren see.OpenParen = false
no_paren o = true

pub not_paren : (o : Ahead) → no_paren o ≡ true → same see.OpenParen o ≡ false
not_paren see.OpenParen h = absurd cc
not_paren o h = refl

-- of the modifiers of a member: the word of its definition
abbrev pub val : Ahead → Bool
val see.Val = true
val o = false

pub at_val : (P : Ahead → Type 0) → P see.Val → (o : Ahead) → val o ≡ true → P o
at_val P p see.Val h = p
at_val P p o h = absurd cc

-- of the modifiers of a class, and what stands before its word
abbrev pub class : Ahead → Bool
class see.Class = true
class o = false

pub at_class : (P : Ahead → Type 0) → P see.Class → (o : Ahead) → class o ≡ true → P o
at_class P p see.Class h = p
at_class P p o h = absurd cc
