-- What is ahead where the grammar has a token.
use Rattle.std.proofs.Common.{◌≡◌, ℕ, zero, suc, Bool, true, false, List, [], ◌∷◌, Some, None, refl, sym, ap, ◌∙◌, inl, inr}
use Rattle.std.specs.Prelude.{◌==◌, if◌then◌else◌, ◌||◌, encode_utf8_all}
use Rattle.std.proofs.lemmas.Bool.{eqb-true}
use Rattle.sl_text.specs.declared.span.Span.{Span}
use Rattle.sl_ast.specs.declared.token.Token.{Token}
use Rattle.sl_ast.specs.declared.token.TokenKind.{TokenKind}
use Rattle.sl_ast.specs.declared.token.TokenKind.TheVariants as kind
use Rattle.sl_ast.specs.declared.shape.Shape.{Shape}
use Rattle.sl_ast.specs.declared.shape.Shape.TheVariants as shapes
use Rattle.sl_ast.specs.Shape.{shape}
use Rattle.sl_ast.specs.declared.ident.Ident.{Ident}
use Rattle.sl_ast.specs.declared.literal.Literal.{Literal}
use Rattle.sl_ast.specs.declared.operator.Operator.{Operator}
use Rattle.sl_ast.specs.declared.operator.Sign.{Sign}
use Rattle.sl_ast.specs.declared.operator.Sign.TheVariants as signs
use Rattle.sl_ast.specs.declared.binding.Binding.{Binding}
use Rattle.sl_parse_expr.specs.declared.ahead.Ahead.{Ahead}
use Rattle.sl_parse_expr.specs.declared.ahead.Ahead.TheVariants as see
use Rattle.sl_parse_expr.specs.Ahead.{sort, same, code, of_shape, of_kind, of_operator}
use Rattle.sl_parse_expr.specs.Tokens.{ident_of, ident_by, operator_of, operator_by, sign_of, sign_by, sign_text, literal_of, literal_by, literal_word, binding_of, binding_by, separator_of, separates}
use Rattle.sl_parse_expr.specs.Starts.{begins_sign, is_operator, begins_binding}
use Rattle.sl_parse_expr.specs.Reading.{ahead}
use Rattle.sl_parse_expr.specs.Phrases.{IsOne, IsWord}
use Rattle.sl_parse_expr.specs.Phrases as phrase
use Rattle.sl_parse_expr.specs.Grammar.{IsName}
use Rattle.sl_parse_expr.proofs.Theory.{decide}

-- ---- what has the same number is the same

nth : List Ahead → ℕ → Ahead
nth [] n = see.Other
nth (o ∷ os) zero = o
nth (o ∷ os) (suc n) = nth os n

decode : ℕ → Ahead
decode n = nth (see.End ∷ see.Newline ∷ see.Semicolon ∷ see.Id ∷ see.Minus ∷ see.Bar ∷ see.Sign ∷ see.Op ∷ see.Literal ∷ see.If ∷ see.While ∷ see.Try ∷ see.Throw ∷ see.This ∷ see.Super ∷ see.New ∷ see.Else ∷ see.Catch ∷ see.Finally ∷ see.Match ∷ see.Case ∷ see.Val ∷ see.Var ∷ see.Class ∷ see.Object ∷ see.Trait ∷ see.Extends ∷ see.With ∷ see.Lazy ∷ see.Def ∷ see.Override ∷ see.Private ∷ see.Sealed ∷ see.Abstract ∷ see.Underscore ∷ see.Colon ∷ see.Equals ∷ see.Arrow ∷ see.At ∷ see.OpenParen ∷ see.CloseParen ∷ see.OpenBracket ∷ see.CloseBracket ∷ see.OpenBrace ∷ see.CloseBrace ∷ see.Comma ∷ see.Dot ∷ see.Other ∷ []) n

decoded : (o : Ahead) → decode (code o) ≡ o
unfolding decode nth
decoded see.End = refl
decoded see.Newline = refl
decoded see.Semicolon = refl
decoded see.Id = refl
decoded see.Minus = refl
decoded see.Bar = refl
decoded see.Sign = refl
decoded see.Op = refl
decoded see.Literal = refl
decoded see.If = refl
decoded see.While = refl
decoded see.Try = refl
decoded see.Throw = refl
decoded see.This = refl
decoded see.Super = refl
decoded see.New = refl
decoded see.Else = refl
decoded see.Catch = refl
decoded see.Finally = refl
decoded see.Match = refl
decoded see.Case = refl
decoded see.Val = refl
decoded see.Var = refl
decoded see.Class = refl
decoded see.Object = refl
decoded see.Trait = refl
decoded see.Extends = refl
decoded see.With = refl
decoded see.Lazy = refl
decoded see.Def = refl
decoded see.Override = refl
decoded see.Private = refl
decoded see.Sealed = refl
decoded see.Abstract = refl
decoded see.Underscore = refl
decoded see.Colon = refl
decoded see.Equals = refl
decoded see.Arrow = refl
decoded see.At = refl
decoded see.OpenParen = refl
decoded see.CloseParen = refl
decoded see.OpenBracket = refl
decoded see.CloseBracket = refl
decoded see.OpenBrace = refl
decoded see.CloseBrace = refl
decoded see.Comma = refl
decoded see.Dot = refl
decoded see.Other = refl

pub are_same : (o p : Ahead) → same o p ≡ true → p ≡ o
are_same o p h = sym (decoded p) ∙ sym (ap decode (eqb-true (code o) (code p) h)) ∙ decoded o

-- ---- words and values

when_some : {A : Type 0} (b : Bool) (x y : A) → (if b then Some x else None) ≡ Some y → b ≡ true
when_some true x y i = refl
when_some false x y i = absurd cc

pub word_ahead : {what : Ahead} {s : Span} {a r : List Token} → IsWord what s a r → ahead a ≡ what
word_ahead {what = what} {s = s} (phrase.token {t = t} i) = are_same what (sort t) (when_some (same what (sort t)) t.span s i)

pub name_ahead : {x : Ident} {a r : List Token} → IsName x a r → ahead a ≡ see.Id
unfolding ident_of sort
name_ahead {x = x} (phrase.token {t = t} i) = go t.kind t.span i
  where
    go : (k : TokenKind) (p : Span) → ident_by k p ≡ Some x → of_kind k ≡ see.Id
    go (kind.Id n) p i = refl
    go k p i = absurd cc

pub literal_ahead : {x : Literal} {a r : List Token} → IsOne literal_of x a r → ahead a ≡ see.Literal
unfolding literal_of sort
literal_ahead {x = x} (phrase.token {t = t} i) = go t.kind t.span i
  where
    by_shape : (s : Shape) (p : Span) → literal_word s p ≡ Some x → of_shape s ≡ see.Literal
    by_shape shapes.True p i = refl
    by_shape shapes.False p i = refl
    by_shape shapes.Null p i = refl
    by_shape s p i = absurd cc

    go : (k : TokenKind) (p : Span) → literal_by k p ≡ Some x → of_kind k ≡ see.Literal
    go (kind.Number n) p i = refl
    go (kind.Text n) p i = refl
    go (kind.Key n) p i = by_shape (shape (kind.Key n)) p i
    go (kind.Mark n) p i = by_shape (shape (kind.Mark n)) p i
    go (kind.Id n) p i = absurd cc
    go (kind.Op n) p i = absurd cc
    go kind.Newline p i = absurd cc

operator_bytes : (bytes : List ℕ) → is_operator (of_operator bytes) ≡ true
operator_bytes [] = refl
operator_bytes (b ∷ c ∷ bytes) = refl
operator_bytes (b ∷ []) = go (b == 45) (b == 124) ((b == 43) || (b == 33) || (b == 126))
  where
    go : (u v w : Bool) → is_operator (if u then see.Minus else if v then see.Bar else if w then see.Sign else see.Op) ≡ true
    go true v w = refl
    go false true w = refl
    go false false true = refl
    go false false false = refl

pub operator_ahead : {x : Operator} {a r : List Token} → IsOne operator_of x a r → is_operator (ahead a) ≡ true
unfolding operator_of sort
operator_ahead {x = x} (phrase.token {t = t} i) = go t.kind t.span i
  where
    go : (k : TokenKind) (p : Span) → operator_by k p ≡ Some x → is_operator (of_kind k) ≡ true
    go (kind.Id n) p i = refl
    go (kind.Op n) p i = operator_bytes (encode_utf8_all n)
    go k p i = absurd cc

sign_bytes : (x : Sign × Span) (bytes : List ℕ) (p : Span) → sign_text bytes p ≡ Some x → begins_sign (of_operator bytes) ≡ true
sign_bytes x [] p i = absurd cc
sign_bytes x (b ∷ c ∷ bytes) p i = absurd cc
sign_bytes x (b ∷ []) p i = elim (decide (b == 124)) [
  | inl h ↦ (let j : sign_text (124 ∷ []) p ≡ Some x = sym (ap (λ (z : ℕ). sign_text (z ∷ []) p) (eqb-true b 124 h)) ∙ i in absurd cc)
  | inr h ↦ rw h (go (b == 45) (b == 43) (b == 33) (b == 126) i)
]
  where
    go : (u k l m : Bool) → (if u then Some (signs.Minus, p) else if k then Some (signs.Plus, p) else if l then Some (signs.Not, p) else if m then Some (signs.Complement, p) else None) ≡ Some x
        → begins_sign (if u then see.Minus else if false then see.Bar else if k || l || m then see.Sign else see.Op) ≡ true
    go true k l m i = refl
    go false true l m i = refl
    go false false true m i = refl
    go false false false true i = refl
    go false false false false i = absurd cc

pub sign_ahead : {x : Sign × Span} {a r : List Token} → IsOne sign_of x a r → begins_sign (ahead a) ≡ true
unfolding sign_of sort
sign_ahead {x = x} (phrase.token {t = t} i) = go t.kind t.span i
  where
    go : (k : TokenKind) (p : Span) → sign_by k p ≡ Some x → begins_sign (of_kind k) ≡ true
    go (kind.Op n) p i = sign_bytes x (encode_utf8_all n) p i
    go k p i = absurd cc

pub binding_ahead : {x : Binding × Span} {a r : List Token} → IsOne binding_of x a r → begins_binding (ahead a) ≡ true
unfolding binding_of
binding_ahead {x = x} (phrase.token {t = t} i) = go (sort t) t.span i
  where
    go : (o : Ahead) (p : Span) → binding_by o p ≡ Some x → begins_binding o ≡ true
    go see.Val p i = refl
    go see.Var p i = refl
    go o p i = absurd cc

pub separator_ahead : {a r : List Token} → IsOne separator_of tt a r → separates (ahead a) ≡ true
unfolding separator_of
separator_ahead (phrase.token {t = t} i) = when_some (separates (sort t)) tt tt i

-- ---- what a test says of them

pub front : (test : Ahead → Bool) (what : Ahead) (v : Bool) {s : Span} {a r : List Token} → test what ≡ v → IsWord what s a r → test (ahead a) ≡ v
front test what v h w = ap test (word_ahead w) ∙ h

pub front_name : (test : Ahead → Bool) (v : Bool) {x : Ident} {a r : List Token} → test see.Id ≡ v → IsName x a r → test (ahead a) ≡ v
front_name test v h w = ap test (name_ahead w) ∙ h

pub front_literal : (test : Ahead → Bool) (v : Bool) {x : Literal} {a r : List Token} → test see.Literal ≡ v → IsOne literal_of x a r → test (ahead a) ≡ v
front_literal test v h w = ap test (literal_ahead w) ∙ h
