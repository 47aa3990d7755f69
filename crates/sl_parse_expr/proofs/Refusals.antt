-- What no reader of expressions or patterns takes: what begins none, and what stands behind something held.
use Rattle.std.proofs.Common.{◌≡◌, Bool, true, false, List, [], ◌∷◌, Option, None, refl, ap, inl, inr}
use Rattle.std.specs.Prelude.{◌||◌}
use Rattle.sl_text.specs.declared.span.Span.{Span}
use Rattle.sl_ast.specs.declared.token.Token.{Token}
use Rattle.sl_ast.specs.declared.token.TokenKind.{TokenKind}
use Rattle.sl_ast.specs.declared.token.TokenKind.TheVariants as kind
use Rattle.sl_ast.specs.declared.shape.Shape.{Shape}
use Rattle.sl_ast.specs.declared.shape.Shape.TheVariants as shapes
use Rattle.sl_ast.specs.Shape.{shape}
use Rattle.sl_ast.specs.declared.literal.Literal.{Literal}
use Rattle.sl_parse_expr.specs.Tokens.{ident_of, sign_of, literal_of, literal_by, literal_word}
use Rattle.sl_ast.specs.declared.expr.Expr.{Expr}
use Rattle.sl_ast.specs.declared.pattern.Pattern.{Pattern}
use Rattle.sl_parse_expr.specs.declared.ahead.Ahead.{Ahead}
use Rattle.sl_parse_expr.specs.declared.ahead.Ahead.TheVariants as see
use Rattle.sl_parse_expr.specs.Ahead.{sort, same, of_shape, of_kind}
use Rattle.sl_parse_expr.specs.Starts.{begins_sign, begins_head, begins_expr}
use Rattle.sl_parse_expr.specs.Reading.{State, Outcome, Reader, and_then, ◌>>=◌, ahead, one, given, word, expect, choose}
use Rattle.sl_parse_expr.specs.Rules.{name, sign, literal, block_start, braces, literal_start, name_start, this_start, super_start, new_start, parens_start, start, simple, signed, unsigned, prefix, infix_expr, if_expr, while_expr, try_expr, throw_expr, plain, any}
use Rattle.sl_parse_expr.specs.PatternRules.{begins_pattern, inside, minus, no_minus, closed, by_name, by_underscore, by_itself, alternative, any_pattern}
use Rattle.sl_parse_expr.proofs.Theory.{err_of, stop, decide}

pub or_left : (a b : Bool) → (a || b) ≡ false → a ≡ false
or_left true b h = absurd cc
or_left false b h = refl

pub or_right : (a b : Bool) → (a || b) ≡ false → b ≡ false
or_right true b h = absurd cc
or_right false b h = h

-- the reader takes nothing, and this isn't for depth
pub record Refuses {A : Type 0} (q : Reader A) (st : State) : Type 0 where
  pub is : q st ≡ err_of (stop false st.1)

pub refuse : {A B : Type 0} {q : Reader A} (f : A → Reader B) {st : State} → Refuses q st → Refuses (q >>= f) st
refuse {A} {B} {q} f {st} h = record { is = ap (λ (o : Outcome A). and_then o f) h.is }

pub held_one : {A : Type 0} (value : Token → Option A) (u : Token) (d ts : List Token) → one value (u ∷ d, ts) ≡ err_of (stop false ts)
unfolding one
held_one value u d [] = refl
held_one value u d (t ∷ ts) = refl

pub held_word : (what : Ahead) (u : Token) (d ts : List Token) → expect what (u ∷ d, ts) ≡ err_of (stop false ts)
unfolding expect
held_word what u d ts = held_one (word what) u d ts

pub no_word : (what : Ahead) (ts : List Token) → same what (ahead ts) ≡ false → expect what ([], ts) ≡ err_of (stop false ts)
unfolding expect one
no_word what [] h = refl
no_word what (t ∷ ts) h = rw h refl

pub choose_held : {A : Type 0} (test : Ahead → Bool) {q r : Reader A} {st : State} → Refuses q st → Refuses r st → Refuses (choose test q r) st
choose_held {A} test {q} {r} {st} h i = elim (decide (test (ahead st.1))) [ inl k ↦ record { is = rw k h.is } | inr k ↦ record { is = rw k i.is } ]

pub choose_not : {A : Type 0} (test : Ahead → Bool) (q : Reader A) {r : Reader A} {st : State} → test (ahead st.1) ≡ false → Refuses r st → Refuses (choose test q r) st
choose_not {A} test q {r} {st} k i = record { is = rw k i.is }

held_o : {A : Type 0} (value : Token → Option A) {u : Token} {d ts : List Token} → Refuses (one value) (u ∷ d, ts)
held_o {A} value {u} {d} {ts} = record { is = held_one value u d ts }

held_w : (what : Ahead) {u : Token} {d ts : List Token} → Refuses (expect what) (u ∷ d, ts)
held_w what {u} {d} {ts} = record { is = held_word what u d ts }

no_w : (what : Ahead) {ts : List Token} → same what (ahead ts) ≡ false → Refuses (expect what) ([], ts)
no_w what {ts} h = record { is = no_word what ts h }

no_literal : (t : Token) → same see.Literal (sort t) ≡ false → literal_of t ≡ None
unfolding literal_of sort
no_literal t h = by_kind t.kind t.span h
  where
    by_shape : (s : Shape) (p : Span) → same see.Literal (of_shape s) ≡ false → literal_word s p ≡ None
    by_shape shapes.True p h = absurd cc
    by_shape shapes.False p h = absurd cc
    by_shape shapes.Null p h = absurd cc
    by_shape s p h = refl

    by_kind : (k : TokenKind) (p : Span) → same see.Literal (of_kind k) ≡ false → literal_by k p ≡ None
    by_kind (kind.Number v) p h = absurd cc
    by_kind (kind.Text v) p h = absurd cc
    by_kind (kind.Id v) p h = refl
    by_kind (kind.Op v) p h = refl
    by_kind (kind.Key v) p h = by_shape (shape (kind.Key v)) p h
    by_kind (kind.Mark v) p h = by_shape (shape (kind.Mark v)) p h
    by_kind kind.Newline p h = refl

no_l : {ts : List Token} → same see.Literal (ahead ts) ≡ false → Refuses literal ([], ts)
unfolding literal one
no_l {ts = []} h = record { is = refl }
no_l {ts = t ∷ ts} h = record { is = ap (λ (o : Option Literal). given o t ts) (no_literal t h) }

module _ (x : Reader Expr) (y : Reader Pattern) (u : Token) (d ts : List Token) where
  held_start : Refuses (start x y) (u ∷ d, ts)
  unfolding start literal_start literal name_start name this_start super_start new_start parens_start block_start braces
  held_start = choose_held (same see.Literal) (refuse _ (held_o literal_of)) (choose_held (same see.Id) (refuse _ (held_o ident_of)) (choose_held (same see.This) (refuse _ (held_w see.This)) (choose_held (same see.Super) (refuse _ (held_w see.Super)) (choose_held (same see.New) (refuse _ (held_w see.New)) (choose_held (same see.OpenParen) (refuse _ (held_w see.OpenParen)) (refuse _ (refuse _ (held_w see.OpenBrace))))))))

  held_prefix : Refuses (prefix x y) (u ∷ d, ts)
  unfolding prefix signed sign unsigned simple
  held_prefix = choose_held begins_sign (refuse _ (held_o sign_of)) (refuse _ (refuse _ held_start))

  pub held_any : Refuses (any x y) (u ∷ d, ts)
  unfolding any if_expr while_expr try_expr throw_expr plain infix_expr
  held_any = choose_held (same see.If) (refuse _ (held_w see.If)) (choose_held (same see.While) (refuse _ (held_w see.While)) (choose_held (same see.Try) (refuse _ (held_w see.Try)) (choose_held (same see.Throw) (refuse _ (held_w see.Throw)) (refuse _ (refuse _ held_prefix)))))

  pub held_pattern : Refuses (any_pattern y) (u ∷ d, ts)
  unfolding any_pattern alternative by_name name by_underscore by_itself closed inside minus no_minus literal
  held_pattern = refuse _ (choose_held (same see.Id) (refuse _ (held_o ident_of)) (choose_held (same see.Underscore) (refuse _ (held_w see.Underscore)) (refuse _ (choose_held (same see.OpenParen) (refuse _ (held_w see.OpenParen)) (choose_held (same see.Minus) (refuse _ (held_w see.Minus)) (refuse _ (held_o literal_of)))))))

-- where nothing is held, by the token ahead
module _ (x : Reader Expr) (y : Reader Pattern) (ts : List Token) where
  no_start : begins_head (ahead ts) ≡ false → Refuses (start x y) ([], ts)
  unfolding start block_start braces
  no_start h =
      let h6 = or_left _ _ h in
      let h5 = or_left _ _ h6 in
      let h4 = or_left _ _ h5 in
      let h3 = or_left _ _ h4 in
      let h2 = or_left _ _ h3 in
      let h1 = or_left _ _ h2 in
      choose_not (same see.Literal) _ h1 (choose_not (same see.Id) _ (or_right _ _ h2) (choose_not (same see.This) _ (or_right _ _ h3) (choose_not (same see.Super) _ (or_right _ _ h4) (choose_not (same see.New) _ (or_right _ _ h5) (choose_not (same see.OpenParen) _ (or_right _ _ h6) (refuse _ (refuse _ (no_w see.OpenBrace (or_right _ _ h)))))))))

  pub no_any : begins_expr (ahead ts) ≡ false → Refuses (any x y) ([], ts)
  unfolding any plain infix_expr prefix unsigned simple
  no_any h =
      let h5 = or_left _ _ h in
      let h4 = or_left _ _ h5 in
      let h3 = or_left _ _ h4 in
      let h2 = or_left _ _ h3 in
      choose_not (same see.If) _ (or_left _ _ h2) (choose_not (same see.While) _ (or_right _ _ h2) (choose_not (same see.Try) _ (or_right _ _ h3) (choose_not (same see.Throw) _ (or_right _ _ h4) (refuse _ (refuse _ (choose_not begins_sign _ (or_right _ _ h5) (refuse _ (refuse _ (no_start (or_right _ _ h))))))))))

  pub no_pattern : begins_pattern (ahead ts) ≡ false → Refuses (any_pattern y) ([], ts)
  unfolding any_pattern alternative by_itself closed no_minus
  no_pattern h =
      let h4 = or_left _ _ h in
      let h3 = or_left _ _ h4 in
      let h2 = or_left _ _ h3 in
      refuse _ (choose_not (same see.Id) _ (or_left _ _ h2) (choose_not (same see.Underscore) _ (or_right _ _ h2) (refuse _ (choose_not (same see.OpenParen) _ (or_right _ _ h3) (choose_not (same see.Minus) _ (or_right _ _ h4) (refuse _ (no_l (or_right _ _ h))))))))
