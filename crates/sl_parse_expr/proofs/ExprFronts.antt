-- What an expression of the grammar begins with, and what it doesn't.
use Rattle.std.proofs.Common.{◌≡◌, ℕ, zero, suc, Bool, true, false, List, refl}
use Rattle.std.specs.Prelude.{◌||◌}
use Rattle.sl_ast.specs.declared.token.Token.{Token}
use Rattle.sl_ast.specs.declared.expr.Expr.{Expr}
use Rattle.sl_ast.specs.declared.infix.Infix.{Infix}
use Rattle.sl_ast.specs.declared.infix.Prefix.{Prefix}
use Rattle.sl_ast.specs.declared.simple.Simple.{Simple}
use Rattle.sl_ast.specs.declared.simple.Head.{Head}
use Rattle.sl_ast.specs.declared.block.Stat.{Stat}
use Rattle.sl_ast.specs.declared.block.Block.{Block}
use Rattle.sl_text.specs.declared.span.Span.{Span}
use Rattle.sl_ast.specs.declared.pattern.Pattern.{Pattern}
use Rattle.sl_parse_expr.specs.declared.ahead.Ahead.{Ahead}
use Rattle.sl_parse_expr.specs.declared.ahead.Ahead.TheVariants as see
use Rattle.sl_parse_expr.specs.Ahead.{same}
use Rattle.sl_parse_expr.specs.Tokens.{separates}
use Rattle.sl_parse_expr.specs.Starts.{begins_sign, begins_head, begins_expr, begins_stat, begins_binding}
use Rattle.sl_parse_expr.specs.Reading.{ahead}
use Rattle.sl_parse_expr.specs.Grammar.{IsBraces, IsHead, IsSimple, IsPrefix, IsInfix, IsAnyExpr, IsExpr, IsPattern, IsStat}
use Rattle.sl_parse_expr.specs.Grammar as grammar
use Rattle.sl_parse_expr.proofs.Fronts.{front, front_name, front_literal, sign_ahead, binding_ahead}

abbrev pub begins_operand : Ahead → Bool
begins_operand o = begins_sign o || begins_head o

or_here : (a b : Bool) → a ≡ true → (a || b) ≡ true
or_here a b h = rw h refl

or_there : (a b : Bool) → b ≡ true → (a || b) ≡ true
or_there true b h = refl
or_there false b h = h

operand_begins : (o : Ahead) → begins_operand o ≡ true → begins_expr o ≡ true
operand_begins see.Minus h = refl
operand_begins see.Sign h = refl
operand_begins see.Literal h = refl
operand_begins see.Id h = refl
operand_begins see.This h = refl
operand_begins see.Super h = refl
operand_begins see.New h = refl
operand_begins see.OpenParen h = refl
operand_begins see.OpenBrace h = refl
operand_begins o h = absurd cc

pub no_if : (o : Ahead) → begins_operand o ≡ true → same see.If o ≡ false
no_if see.If h = absurd cc
no_if o h = refl

pub no_while : (o : Ahead) → begins_operand o ≡ true → same see.While o ≡ false
no_while see.While h = absurd cc
no_while o h = refl

pub no_try : (o : Ahead) → begins_operand o ≡ true → same see.Try o ≡ false
no_try see.Try h = absurd cc
no_try o h = refl

pub no_throw : (o : Ahead) → begins_operand o ≡ true → same see.Throw o ≡ false
no_throw see.Throw h = absurd cc
no_throw o h = refl

pub no_line_end : (o : Ahead) → begins_operand o ≡ true → same see.Newline o ≡ false
no_line_end see.Newline h = absurd cc
no_line_end o h = refl

pub no_sign : (o : Ahead) → begins_head o ≡ true → begins_sign o ≡ false
no_sign see.Minus h = absurd cc
no_sign see.Sign h = absurd cc
no_sign o h = refl

pub no_close : (o : Ahead) → begins_expr o ≡ true → same see.CloseParen o ≡ false
no_close see.CloseParen h = absurd cc
no_close o h = refl

pub no_binding : (o : Ahead) → begins_expr o ≡ true → begins_binding o ≡ false
no_binding see.Val h = absurd cc
no_binding see.Var h = absurd cc
no_binding o h = refl

pub no_separator : (o : Ahead) → begins_stat o ≡ true → separates o ≡ false
no_separator see.Semicolon h = absurd cc
no_separator see.Newline h = absurd cc
no_separator o h = refl

module _ (E : Expr → List Token → List Token → Type 0) (Q : Pattern → List Token → List Token → Type 0) where
  pub front_braces : {b : Block} {s : Span} {a r : List Token} (test : Ahead → Bool) (v : Bool) → test see.OpenBrace ≡ v → IsBraces E Q b s a r → test (ahead a) ≡ v
  front_braces test v i (grammar.braces w h k) = front test see.OpenBrace v i w

  pub front_head : {x : Head} {all : Bool} {a r : List Token} → IsHead E Q x all a r → begins_head (ahead a) ≡ true
  front_head (grammar.by_literal h) = front_literal begins_head true refl h
  front_head (grammar.by_name h) = front_name begins_head true refl h
  front_head (grammar.this w) = front begins_head see.This true refl w
  front_head (grammar.«super» w k h) = front begins_head see.Super true refl w
  front_head (grammar.new w k h) = front begins_head see.New true refl w
  front_head (grammar.unit w k) = front begins_head see.OpenParen true refl w
  front_head (grammar.parens w k h) = front begins_head see.OpenParen true refl w
  front_head (grammar.by_block h) = front_braces begins_head true refl h

  pub front_simple : {x : Simple} {a r : List Token} → IsSimple E Q x a r → begins_head (ahead a) ≡ true
  front_simple (grammar.simple h k) = front_head h

  pub front_prefix : {x : Prefix} {a r : List Token} → IsPrefix E Q x a r → begins_operand (ahead a) ≡ true
  front_prefix (grammar.unsigned {a = a} h) = or_there (begins_sign (ahead a)) (begins_head (ahead a)) (front_simple h)
  front_prefix (grammar.signed {a = a} g h) = or_here (begins_sign (ahead a)) (begins_head (ahead a)) (sign_ahead g)

  pub front_infix : {x : Infix} {a r : List Token} → IsInfix E Q x a r → begins_operand (ahead a) ≡ true
  front_infix (grammar.«infix» h k) = front_prefix h

  pub front_any : {x : Expr} {a r : List Token} → IsAnyExpr E Q x a r → begins_expr (ahead a) ≡ true
  front_any (grammar.«if» w c h y) = front begins_expr see.If true refl w
  front_any (grammar.while w c h) = front begins_expr see.While true refl w
  front_any (grammar.try w h c f) = front begins_expr see.Try true refl w
  front_any (grammar.throw w h) = front begins_expr see.Throw true refl w
  front_any (grammar.plain {a = a} h i) = operand_begins (ahead a) (front_infix h)
  front_any (grammar.match {a = a} h w c) = operand_begins (ahead a) (front_infix h)
  front_any (grammar.assign {a = a} h w c) = operand_begins (ahead a) (front_infix h)

  pub front_stat : {x : Stat} {a r : List Token} → ((e : Expr) (a r : List Token) → E e a r → begins_expr (ahead a) ≡ true) → IsStat E Q x a r → begins_stat (ahead a) ≡ true
  front_stat f (grammar.local {a = a} h1 h2 h3 h4 h5) = or_here (begins_binding (ahead a)) (begins_expr (ahead a)) (binding_ahead h1)
  front_stat f (grammar.expression {e = e} {a = a} {r = r} h) = or_there (begins_binding (ahead a)) (begins_expr (ahead a)) (f e a r h)

pub front_expr : (n : ℕ) (x : Expr) (a r : List Token) → IsExpr n x a r → begins_expr (ahead a) ≡ true
front_expr zero x a r h = absurd h
front_expr (suc n) x a r h = front_any (IsExpr n) (IsPattern n) h
