-- Phrases: of a relation R, `R x a r` says that the tokens a begin with an x, and that r are those behind it.
use Rattle.std.specs.Prelude.{◌≡◌, Bool, true, false, ◌&&◌, ◌||◌, List, [], ◌∷◌, Option, Some, None}
use Rattle.sl_text.specs.declared.span.Span.{Span}
use Rattle.sl_ast.specs.declared.token.Token.{Token}
use Rattle.sl_parse_expr.specs.declared.ahead.Ahead.{Ahead}
use Rattle.sl_parse_expr.specs.declared.ahead.Ahead.TheVariants as see
use Rattle.sl_parse_expr.specs.Ahead.{sort, same}
use Rattle.sl_parse_expr.specs.Reading.{ahead, rest, word}
use Rattle.sl_parse_expr.specs.Tokens.{separates, separator_of}

-- one token that has such a value
pub data IsOne {A : Type 0} (value : Token → Option A) : A → List Token → List Token → Type 0 where
  token : {t : Token} {x : A} {r : List Token} → value t ≡ Some x → IsOne value x (t ∷ r) r

-- a word or a mark, and where it stands
abbrev pub IsWord : Ahead → Span → List Token → List Token → Type 0
IsWord what = IsOne (word what)

-- {sep X}, as far as it goes
pub data IsMore {A : Type 0} (sep : Ahead) (X : A → List Token → List Token → Type 0) : List A → List Token → List Token → Type 0 where
  no_more : {r : List Token} → same sep (ahead r) ≡ false → IsMore sep X [] r r
  one_more : {s : Span} {x : A} {xs : List A} {a b c r : List Token} → IsWord sep s a b → X x b c → IsMore sep X xs c r → IsMore sep X (x ∷ xs) a r

-- [X {',' X}] ')', and where the parenthesis stands
pub data IsListed {A : Type 0} (X : A → List Token → List Token → Type 0) : List A → Span → List Token → List Token → Type 0 where
  none_listed : {s : Span} {a r : List Token} → IsWord see.CloseParen s a r → IsListed X [] s a r
  some_listed : {s : Span} {x : A} {xs : List A} {a b c r : List Token} → X x a b → IsMore see.Comma X xs b c → IsWord see.CloseParen s c r → IsListed X (x ∷ xs) s a r

-- [X], where it can be read
pub data IsOption {A : Type 0} (begins : Ahead → Bool) (X : A → List Token → List Token → Type 0) : Option A → List Token → List Token → Type 0 where
  absent : {r : List Token} → begins (ahead r) ≡ false → IsOption begins X None r r
  present : {x : A} {a r : List Token} → X x a r → IsOption begins X (Some x) a r

-- {nl}
pub data IsLines : List Token → List Token → Type 0 where
  no_line : {r : List Token} → same see.Newline (ahead r) ≡ false → IsLines r r
  a_line : {s : Span} {a b r : List Token} → IsWord see.Newline s a b → IsLines b r → IsLines a r

-- [nl]
pub data IsLine : List Token → List Token → Type 0 where
  no_nl : {r : List Token} → IsLine r r
  one_nl : {s : Span} {a r : List Token} → IsWord see.Newline s a r → IsLine a r

-- [semi], semi being ';' or one or two line ends
pub data IsSemi : List Token → List Token → Type 0 where
  no_semi : {r : List Token} → IsSemi r r
  semicolon : {s : Span} {a r : List Token} → IsWord see.Semicolon s a r → IsSemi a r
  one_line : {s : Span} {a r : List Token} → IsWord see.Newline s a r → IsSemi a r
  two_lines : {s t : Span} {a b r : List Token} → IsWord see.Newline s a b → IsWord see.Newline t b r → IsSemi a r

-- nl '{'
abbrev pub body_follows : List Token → Bool
body_follows r = same see.Newline (ahead r) && same see.OpenBrace (ahead (rest r))

-- what may be held where a reader ends, since an optional part could stand behind it: nothing, `;`, or one or two line ends
pub data Pending : List Token → Type 0 where
  none_held : Pending []
  semi_held : {t : Token} → sort t ≡ see.Semicolon → Pending (t ∷ [])
  line_held : {t : Token} → sort t ≡ see.Newline → Pending (t ∷ [])
  lines_held : {t u : Token} → sort t ≡ see.Newline → sort u ≡ see.Newline → Pending (t ∷ u ∷ [])

-- Seq(X): separators before, between (one or more) and behind; the Bool says whether one stands before, or nothing. Behind
-- an item that ends in a bare `new` no line end and brace may stand.
pub data IsSeq {A : Type 0} (begins : Ahead → Bool) (bare : A → Bool) (X : A → List Token → List Token → Type 0) : Bool → List A → List Token → List Token → Type 0 where
  ended : {apart : Bool} {r : List Token} → (separates (ahead r) || (apart && begins (ahead r))) ≡ false → IsSeq begins bare X apart [] r r
  separated : {apart : Bool} {xs : List A} {a b r : List Token} → IsOne separator_of tt a b → IsSeq begins bare X true xs b r → IsSeq begins bare X apart xs a r
  item : {x : A} {xs : List A} {a b r : List Token} → X x a b → (bare x && body_follows b) ≡ false → IsSeq begins bare X false xs b r → IsSeq begins bare X true (x ∷ xs) a r
