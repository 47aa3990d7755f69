-- Each token that begins an expression or a pattern is continued two levels down.
use Rattle.std.proofs.Common.{◌≡◌, ℕ, zero, suc, Bool, true, false, List, [], ◌∷◌, ◌++◌, Option, Some, None, refl, sym, ap, ◌∙◌, inl, inr, ◌⊎◌}
use Rattle.std.specs.Prelude.{◌==◌, if◌then◌else◌, ◌&&◌, ◌||◌, encode_utf8_all}
use Rattle.sl_text.specs.declared.span.Span.{Span}
use Rattle.sl_ast.specs.declared.token.Token.{Token}
use Rattle.sl_ast.specs.declared.token.TokenKind.{TokenKind}
use Rattle.sl_ast.specs.declared.token.TokenKind.TheVariants as kind
use Rattle.sl_ast.specs.declared.shape.Shape.{Shape}
use Rattle.sl_ast.specs.declared.shape.Shape.TheVariants as shapes
use Rattle.sl_ast.specs.Shape.{shape, numbered}
use Rattle.sl_num.specs.declared.number.Numeral.{Numeral}
use Rattle.sl_ast.specs.declared.ident.Ident.{Ident}
use Rattle.sl_ast.specs.declared.literal.Literal.{Literal}
use Rattle.sl_ast.specs.declared.literal.Literal.TheVariants as literals
use Rattle.sl_ast.specs.declared.block.Stat.{Stat}
use Rattle.sl_ast.specs.declared.infix.Operation.{Operation}
use Rattle.sl_ast.specs.declared.operator.Sign.{Sign}
use Rattle.sl_ast.specs.declared.operator.Sign.TheVariants as signs
use Rattle.sl_ast.specs.declared.expr.Expr.{Expr}
use Rattle.sl_ast.specs.declared.infix.Prefix.{Prefix}
use Rattle.sl_ast.specs.declared.simple.Simple.{Simple}
use Rattle.sl_ast.specs.declared.simple.Head.{Head}
use Rattle.sl_ast.specs.declared.pattern.Pattern.{Pattern}
use Rattle.sl_parse_expr.specs.declared.ahead.Ahead.{Ahead}
use Rattle.sl_parse_expr.specs.declared.ahead.Ahead.TheVariants as see
use Rattle.sl_parse_expr.specs.Ahead.{sort, same, of_shape, of_kind, of_operator}
use Rattle.sl_parse_expr.specs.Starts.{begins_sign, begins_stat}
use Rattle.sl_parse_expr.specs.Tokens.{ident_of, ident_by, sign_of, sign_by, sign_text, literal_of, literal_by, literal_word}
use Rattle.sl_parse_expr.specs.Trees.{simple_tree, prefix_tree, infix_tree, plain_expr, literal_head, name_head, this_head, super_tree, new_tree, parens_tree, block_head, block_tree}
use Rattle.sl_parse_expr.specs.Reading.{Reader, absorb, nothing, ahead, one, given, word, expect, choose, clean}
use Rattle.sl_parse_expr.specs.Rules.{added, name, sign, literal, at_suffix, add_suffix, first_chain, at_operator, at_behind, start, suffix, suffixes, simple, signed, unsigned, prefix, operation, operations, infix_expr, plain, any, literal_start, name_start, this_start, super_start, new_start, parens_start, nothing_inside, block_start, braces, block, stats, block_item, at_item, add_item, if_expr, while_expr, try_expr, throw_expr}
use Rattle.sl_parse_expr.proofs.Theory.{ok_of, fold_stays}
use Rattle.sl_parse_expr.proofs.Choices.{both_false}
use Rattle.sl_parse_expr.proofs.Words.{nowhere, key, t_name, lit, close_paren, close_brace, dot}
use Rattle.sl_parse_expr.proofs.Refusals.{or_left, or_right}
use Rattle.sl_parse_expr.proofs.Ends.{closers, at_closers, chain_over}

-- ---- the tokens with a value

pub one_reads : {A : Type 0} (value : Token → Option A) (t : Token) (x : A) (ts : List Token) → value t ≡ Some x → one value ([], t ∷ ts) ≡ ok_of x [] ts
unfolding one
one_reads value t x ts h = ap (λ o. given o t ts) h

pub word_reads : (what : Ahead) (t : Token) (ts : List Token) → same what (sort t) ≡ true → expect what ([], t ∷ ts) ≡ ok_of t.span [] ts
unfolding expect
word_reads what t ts h = one_reads (word what) t t.span ts (ap (λ (z : Bool). if z then Some t.span else None) h)

-- ---- what has a text or a value is no keyword and no mark

plain_shape : Shape → Bool
plain_shape shapes.Number = false
plain_shape shapes.Text = false
plain_shape shapes.Id = false
plain_shape s = true

all_plain : List Shape → Bool
all_plain [] = true
all_plain (s ∷ ss) = plain_shape s && all_plain ss

and_left : (a b : Bool) → (a && b) ≡ true → a ≡ true
and_left true b h = refl
and_left false b h = absurd cc

and_right : (a b : Bool) → (a && b) ≡ true → b ≡ true
and_right true b h = h
and_right false b h = absurd cc

found_plain : (ss : List Shape) (v : ℕ) → all_plain ss ≡ true → plain_shape (numbered ss v) ≡ true
unfolding all_plain plain_shape
found_plain [] v h = refl
found_plain (s ∷ ss) zero h = and_left (plain_shape s) (all_plain ss) h
found_plain (s ∷ ss) (suc v) h = found_plain ss v (and_right (plain_shape s) (all_plain ss) h)

key_plain : (v : ℕ) → plain_shape (shape (kind.Key v)) ≡ true
unfolding all_plain plain_shape
key_plain v = found_plain (shapes.Abstract ∷ shapes.Case ∷ shapes.Catch ∷ shapes.Class ∷ shapes.Def ∷ shapes.Do ∷ shapes.Else ∷ shapes.Extends ∷ shapes.False ∷ shapes.Final ∷ shapes.Finally ∷ shapes.For ∷ shapes.ForSome ∷ shapes.If ∷ shapes.Implicit ∷ shapes.Import ∷ shapes.Lazy ∷ shapes.Macro ∷ shapes.Match ∷ shapes.New ∷ shapes.Null ∷ shapes.Object ∷ shapes.Override ∷ shapes.Package ∷ shapes.Private ∷ shapes.Protected ∷ shapes.Return ∷ shapes.Sealed ∷ shapes.Super ∷ shapes.This ∷ shapes.Throw ∷ shapes.Trait ∷ shapes.Try ∷ shapes.True ∷ shapes.TypeWord ∷ shapes.Val ∷ shapes.Var ∷ shapes.While ∷ shapes.With ∷ shapes.Yield ∷ []) v refl

mark_plain : (v : ℕ) → plain_shape (shape (kind.Mark v)) ≡ true
unfolding all_plain plain_shape
mark_plain v = found_plain (shapes.Underscore ∷ shapes.Colon ∷ shapes.Equals ∷ shapes.Arrow ∷ shapes.LeftArrow ∷ shapes.UpperBound ∷ shapes.ViewBound ∷ shapes.LowerBound ∷ shapes.Hash ∷ shapes.At ∷ shapes.OpenParen ∷ shapes.CloseParen ∷ shapes.OpenBracket ∷ shapes.CloseBracket ∷ shapes.OpenBrace ∷ shapes.CloseBrace ∷ shapes.Comma ∷ shapes.Semicolon ∷ shapes.Dot ∷ []) v refl

line_plain : plain_shape shapes.Newline ≡ true
unfolding plain_shape
line_plain = refl

no_literal_operator : (bytes : List ℕ) (o : Ahead) → (o ≡ see.Literal) ⊎ (o ≡ see.Id) → same o (of_operator bytes) ≡ true → ⊥
no_literal_operator bytes o k h = go bytes (elim k [ inl e ↦ inl (ap (λ (z : Ahead). same z (of_operator bytes)) (sym e) ∙ h) | inr e ↦ inr (ap (λ (z : Ahead). same z (of_operator bytes)) (sym e) ∙ h) ])
  where
    by : (u v w : Bool) → (same see.Literal (if u then see.Minus else if v then see.Bar else if w then see.Sign else see.Op) ≡ true) ⊎ (same see.Id (if u then see.Minus else if v then see.Bar else if w then see.Sign else see.Op) ≡ true) → ⊥
    by true v w (inl h) = absurd cc
    by false true w (inl h) = absurd cc
    by false false true (inl h) = absurd cc
    by false false false (inl h) = absurd cc
    by true v w (inr h) = absurd cc
    by false true w (inr h) = absurd cc
    by false false true (inr h) = absurd cc
    by false false false (inr h) = absurd cc

    go : (bytes : List ℕ) → (same see.Literal (of_operator bytes) ≡ true) ⊎ (same see.Id (of_operator bytes) ≡ true) → ⊥
    go [] (inl h) = absurd cc
    go [] (inr h) = absurd cc
    go (b ∷ c ∷ bytes) (inl h) = absurd cc
    go (b ∷ c ∷ bytes) (inr h) = absurd cc
    go (b ∷ []) h = by (b == 45) (b == 124) ((b == 43) || (b == 33) || (b == 126)) h

-- the tokens of a kind have a value
module _ {A : Type 0} (test : Ahead → Bool) (value : TokenKind → Span → Option A)
    (on_id : (n : List ℕ) (p : Span) → test see.Id ≡ true → (x : A) × (value (kind.Id n) p ≡ Some x))
    (on_op : (n : List ℕ) (p : Span) → test (of_operator (encode_utf8_all n)) ≡ true → (x : A) × (value (kind.Op n) p ≡ Some x))
    (on_number : (n : Numeral) (p : Span) → test see.Literal ≡ true → (x : A) × (value (kind.Number n) p ≡ Some x))
    (on_text : (n : List ℕ) (p : Span) → test see.Literal ≡ true → (x : A) × (value (kind.Text n) p ≡ Some x))
    (on_shape : (k : TokenKind) (p : Span) → plain_shape (shape k) ≡ true → test (of_shape (shape k)) ≡ true → (x : A) × (value k p ≡ Some x)) where
  has_value : (k : TokenKind) (p : Span) → test (of_kind k) ≡ true → (x : A) × (value k p ≡ Some x)
  has_value (kind.Id n) p h = on_id n p h
  has_value (kind.Op n) p h = on_op n p h
  has_value (kind.Number n) p h = on_number n p h
  has_value (kind.Text n) p h = on_text n p h
  has_value (kind.Key n) p h = on_shape (kind.Key n) p (key_plain n) h
  has_value (kind.Mark n) p h = on_shape (kind.Mark n) p (mark_plain n) h
  has_value kind.Newline p h = on_shape kind.Newline p line_plain h

pub is_literal : (t : Token) → same see.Literal (sort t) ≡ true → (x : Literal) × (literal_of t ≡ Some x)
unfolding literal_of sort plain_shape
is_literal t h = has_value (same see.Literal) literal_by (λ n p h. absurd cc) (λ n p h. absurd (no_literal_operator (encode_utf8_all n) see.Literal (inl refl) h)) (λ n p h. (_, refl)) (λ n p h. (_, refl)) (λ k p q h. by_kind k p q h) t.kind t.span h
  where
    by_shape : (s : Shape) (p : Span) → plain_shape s ≡ true → same see.Literal (of_shape s) ≡ true → (x : Literal) × (literal_word s p ≡ Some x)
    by_shape shapes.True p q h = (_, refl)
    by_shape shapes.False p q h = (_, refl)
    by_shape shapes.Null p q h = (_, refl)
    by_shape shapes.Number p q h = absurd cc
    by_shape shapes.Text p q h = absurd cc
    by_shape s p q h = absurd cc

    by_kind : (k : TokenKind) (p : Span) → plain_shape (shape k) ≡ true → same see.Literal (of_shape (shape k)) ≡ true → (x : Literal) × (literal_by k p ≡ Some x)
    by_kind (kind.Number v) p q h = (_, refl)
    by_kind (kind.Text v) p q h = (_, refl)
    by_kind (kind.Id v) p q h = absurd cc
    by_kind (kind.Op v) p q h = absurd cc
    by_kind (kind.Key v) p q h = by_shape (shape (kind.Key v)) p q h
    by_kind (kind.Mark v) p q h = by_shape (shape (kind.Mark v)) p q h
    by_kind kind.Newline p q h = absurd cc

pub is_name : (t : Token) → same see.Id (sort t) ≡ true → (x : Ident) × (ident_of t ≡ Some x)
unfolding ident_of sort plain_shape
is_name t h = has_value (same see.Id) ident_by (λ n p h. (_, refl)) (λ n p h. absurd (no_literal_operator (encode_utf8_all n) see.Id (inr refl) h)) (λ n p h. absurd cc) (λ n p h. absurd cc) (λ k p q h. absurd (no_shape (shape k) q h)) t.kind t.span h
  where
    no_shape : (s : Shape) → plain_shape s ≡ true → same see.Id (of_shape s) ≡ true → ⊥
    no_shape shapes.Id q h = absurd cc
    no_shape s q h = absurd cc

pub is_sign : (t : Token) → begins_sign (sort t) ≡ true → (x : Sign × Span) × (sign_of t ≡ Some x)
unfolding sign_of sort plain_shape
is_sign t h = has_value begins_sign sign_by (λ n p h. absurd cc) (λ n p h. by_text (encode_utf8_all n) p h) (λ n p h. absurd cc) (λ n p h. absurd cc) (λ k p q h. absurd (no_shape (shape k) h)) t.kind t.span h
  where
    no_shape : (s : Shape) → begins_sign (of_shape s) ≡ true → ⊥
    no_shape shapes.Id h = absurd cc
    no_shape s h = absurd cc

    choices : (u v a b c : Bool) (p : Span) → begins_sign (if u then see.Minus else if v then see.Bar else if a || b || c then see.Sign else see.Op) ≡ true → (x : Sign × Span) × ((if u then Some (signs.Minus, p) else if a then Some (signs.Plus, p) else if b then Some (signs.Not, p) else if c then Some (signs.Complement, p) else None) ≡ Some x)
    choices true v a b c p h = (_, refl)
    choices false true a b c p h = absurd cc
    choices false false true b c p h = (_, refl)
    choices false false false true c p h = (_, refl)
    choices false false false false true p h = (_, refl)
    choices false false false false false p h = absurd cc

    by_text : (bytes : List ℕ) (p : Span) → begins_sign (of_operator bytes) ≡ true → (x : Sign × Span) × (sign_text bytes p ≡ Some x)
    by_text [] p h = absurd cc
    by_text (b ∷ c ∷ bytes) p h = absurd cc
    by_text (b ∷ []) p h = choices (b == 45) (b == 124) (b == 43) (b == 33) (b == 126) p h

-- ---- what stands behind a head where nothing follows

pub skip : {A : Type 0} (test : Ahead → Bool) (q r : Reader A) (ts : List Token) → test (ahead ts) ≡ false → choose test q r ([], ts) ≡ r ([], ts)
skip test q r ts h = rw h refl

pub enter : {A : Type 0} (test : Ahead → Bool) (q r : Reader A) (ts : List Token) → test (ahead ts) ≡ true → choose test q r ([], ts) ≡ q ([], ts)
enter test q r ts h = rw h refl

-- what begins an expression by a word of its own or a sign
abbrev opening : Ahead → Bool
opening o = same see.If o || same see.While o || same see.Try o || same see.Throw o || begins_sign o

module _ (x : Reader Expr) (y : Reader Pattern) (ts follow : List Token) (end : closers (ahead follow) ≡ true) where
  abbrev alone : Head → Simple
  alone h = simple_tree h []

  simple_alone : (h : Head) (all : Bool) → start x y ([], ts) ≡ ok_of (h, all) [] follow → simple x y ([], ts) ≡ ok_of (simple_tree h []) [] follow
  unfolding simple suffixes
  simple_alone h all e = rw e (rw (fold_stays (clean at_suffix) (suffix x y) add_suffix (λ s d. ap (λ (z : Bool). nothing d && z) (chain_over s.0 see.End refl) ∙ both_false (nothing d)) (first_chain all, []) [] follow (chain_over (first_chain all) (ahead follow) end)) refl)

  infix_alone : (p : Prefix) → prefix x y ([], ts) ≡ ok_of p [] follow → infix_expr x y ([], ts) ≡ ok_of (infix_tree p []) [] follow
  unfolding infix_expr operations
  infix_alone p e = rw e (rw (fold_stays (clean at_operator) (operation x y) added (λ s d. both_false (nothing d)) [] [] follow (at_closers (λ o. at_operator {A = Operation} [] o ≡ false) refl refl refl refl (ahead follow) end)) refl)

  plain_alone : (p : Prefix) → prefix x y ([], ts) ≡ ok_of p [] follow → plain x y ([], ts) ≡ ok_of (plain_expr (infix_tree p [])) [] follow
  unfolding plain
  plain_alone p e = rw (infix_alone p e) (rw (at_closers (λ o. at_behind o ≡ false) refl refl refl refl (ahead follow) end) refl)

  any_plain : (same see.If (ahead ts) || same see.While (ahead ts) || same see.Try (ahead ts) || same see.Throw (ahead ts)) ≡ false → any x y ([], ts) ≡ plain x y ([], ts)
  unfolding any
  any_plain h =
      let h3 = or_left _ _ h in
      let h2 = or_left _ _ h3 in
      let i : same see.If (ahead ts) ≡ false = or_left _ _ h2 in
      let j : same see.While (ahead ts) ≡ false = or_right _ _ h2 in
      let k : same see.Try (ahead ts) ≡ false = or_right _ _ h3 in
      let l : same see.Throw (ahead ts) ≡ false = or_right _ _ h in
      skip (same see.If) (if_expr x y) (choose (same see.While) (while_expr x y) (choose (same see.Try) (try_expr x y) (choose (same see.Throw) (throw_expr x y) (plain x y)))) ts i
      ∙ skip (same see.While) (while_expr x y) (choose (same see.Try) (try_expr x y) (choose (same see.Throw) (throw_expr x y) (plain x y))) ts j
      ∙ skip (same see.Try) (try_expr x y) (choose (same see.Throw) (throw_expr x y) (plain x y)) ts k
      ∙ skip (same see.Throw) (throw_expr x y) (plain x y) ts l

  any_alone : (h : Head) (all : Bool) → opening (ahead ts) ≡ false → start x y ([], ts) ≡ ok_of (h, all) [] follow → any x y ([], ts) ≡ ok_of (plain_expr (infix_tree (prefix_tree None (simple_tree h [])) [])) [] follow
  unfolding prefix unsigned
  any_alone h all q e =
      let i : begins_sign (ahead ts) ≡ false = or_right _ _ q in
      any_plain (or_left _ _ q) ∙ plain_alone (prefix_tree None (simple_tree h [])) (skip begins_sign (signed x y) (unsigned x y) ts i ∙ rw (simple_alone h all e) refl)

-- `null` alone
lit_start : (x : Reader Expr) (y : Reader Pattern) (follow : List Token) → start x y ([], lit ++ follow) ≡ ok_of (literal_head (literals.Null nowhere), true) [] follow
unfolding start literal_start literal literal_of one sort
lit_start x y follow = refl

lit_opens : opening (sort (key 20)) ≡ false
unfolding sort
lit_opens = refl

abbrev pub lit_tree : Expr
lit_tree = plain_expr (infix_tree (prefix_tree None (simple_tree (literal_head (literals.Null nowhere)) [])) [])

pub reads_lit : (x : Reader Expr) (y : Reader Pattern) (follow : List Token) → closers (ahead follow) ≡ true → any x y ([], lit ++ follow) ≡ ok_of lit_tree [] follow
reads_lit x y follow end = any_alone x y (lit ++ follow) follow end (literal_head (literals.Null nowhere)) true lit_opens (lit_start x y follow)

abbrev a_name : Ident
a_name = record { name = []; span = nowhere }

name_is : ident_of t_name ≡ Some (record { name = []; span = nowhere })
unfolding ident_of
name_is = refl

dot_is : same see.Dot (sort dot) ≡ true
unfolding sort
dot_is = refl

close_paren_is : same see.CloseParen (sort close_paren) ≡ true
unfolding sort
close_paren_is = refl

close_brace_is : same see.CloseBrace (sort close_brace) ≡ true
unfolding sort
close_brace_is = refl

brace_stays : at_item {A = Stat} begins_stat (true, []) (sort close_brace) ≡ false
unfolding sort
brace_stays = refl

-- ---- the heads

module _ (x : Reader Expr) (y : Reader Pattern) (b : Token) where
  -- a head can be completed
  abbrev Heads : List Token → Type 0
  Heads v = ((follow : List Token) → closers (ahead follow) ≡ true → (h : Head) × (all : Bool) × (start x y ([], b ∷ (v ++ follow)) ≡ ok_of (h, all) [] follow))

  abbrev rest6 : Reader (Head × Bool)
  rest6 = choose (same see.OpenParen) (parens_start x y) (block_start x y)

  abbrev rest5 : Reader (Head × Bool)
  rest5 = choose (same see.New) (new_start x y) (choose (same see.OpenParen) (parens_start x y) (block_start x y))

  abbrev rest4 : Reader (Head × Bool)
  rest4 = choose (same see.Super) (super_start x y) (choose (same see.New) (new_start x y) (choose (same see.OpenParen) (parens_start x y) (block_start x y)))

  abbrev rest3 : Reader (Head × Bool)
  rest3 = choose (same see.This) (this_start x y) (choose (same see.Super) (super_start x y) (choose (same see.New) (new_start x y) (choose (same see.OpenParen) (parens_start x y) (block_start x y))))

  abbrev rest2 : Reader (Head × Bool)
  rest2 = choose (same see.Id) (name_start x y) (choose (same see.This) (this_start x y) (choose (same see.Super) (super_start x y) (choose (same see.New) (new_start x y) (choose (same see.OpenParen) (parens_start x y) (block_start x y)))))

  module _ (ts : List Token) where
    to_literal : same see.Literal (sort b) ≡ true → start x y ([], b ∷ ts) ≡ literal_start x y ([], b ∷ ts)
    unfolding start
    to_literal e = enter (same see.Literal) (literal_start x y) rest2 (b ∷ ts) e

    to_2 : same see.Literal (sort b) ≡ false → start x y ([], b ∷ ts) ≡ rest2 ([], b ∷ ts)
    unfolding start
    to_2 e = skip (same see.Literal) (literal_start x y) rest2 (b ∷ ts) e

    at_kind : (k : Ahead) → sort b ≡ k → (o : Ahead) (v : Bool) → same o k ≡ v → same o (sort b) ≡ v
    at_kind k e o v h = ap (λ (z : Ahead). same o z) e ∙ h

    to_name : sort b ≡ see.Id → start x y ([], b ∷ ts) ≡ name_start x y ([], b ∷ ts)
    to_name e = to_2 (at_kind see.Id e see.Literal false refl) ∙ enter (same see.Id) (name_start x y) rest3 (b ∷ ts) (at_kind see.Id e see.Id true refl)

    to_this : sort b ≡ see.This → start x y ([], b ∷ ts) ≡ this_start x y ([], b ∷ ts)
    to_this e = to_2 (at_kind see.This e see.Literal false refl) ∙ skip (same see.Id) (name_start x y) rest3 (b ∷ ts) (at_kind see.This e see.Id false refl) ∙ enter (same see.This) (this_start x y) rest4 (b ∷ ts) (at_kind see.This e see.This true refl)

    to_4 : (k : Ahead) → sort b ≡ k → same see.Literal k ≡ false → same see.Id k ≡ false → same see.This k ≡ false → start x y ([], b ∷ ts) ≡ rest4 ([], b ∷ ts)
    to_4 k e h1 h2 h3 = to_2 (at_kind k e see.Literal false h1) ∙ skip (same see.Id) (name_start x y) rest3 (b ∷ ts) (at_kind k e see.Id false h2) ∙ skip (same see.This) (this_start x y) rest4 (b ∷ ts) (at_kind k e see.This false h3)

    to_super : sort b ≡ see.Super → start x y ([], b ∷ ts) ≡ super_start x y ([], b ∷ ts)
    to_super e = to_4 see.Super e refl refl refl ∙ enter (same see.Super) (super_start x y) rest5 (b ∷ ts) (at_kind see.Super e see.Super true refl)

    to_new : sort b ≡ see.New → start x y ([], b ∷ ts) ≡ new_start x y ([], b ∷ ts)
    to_new e = to_4 see.New e refl refl refl ∙ skip (same see.Super) (super_start x y) rest5 (b ∷ ts) (at_kind see.New e see.Super false refl) ∙ enter (same see.New) (new_start x y) rest6 (b ∷ ts) (at_kind see.New e see.New true refl)

    to_6 : (k : Ahead) → sort b ≡ k → same see.Literal k ≡ false → same see.Id k ≡ false → same see.This k ≡ false → same see.Super k ≡ false → same see.New k ≡ false → start x y ([], b ∷ ts) ≡ rest6 ([], b ∷ ts)
    to_6 k e h1 h2 h3 h4 h5 = to_4 k e h1 h2 h3 ∙ skip (same see.Super) (super_start x y) rest5 (b ∷ ts) (at_kind k e see.Super false h4) ∙ skip (same see.New) (new_start x y) rest6 (b ∷ ts) (at_kind k e see.New false h5)

    to_paren : sort b ≡ see.OpenParen → start x y ([], b ∷ ts) ≡ parens_start x y ([], b ∷ ts)
    to_paren e = to_6 see.OpenParen e refl refl refl refl refl ∙ enter (same see.OpenParen) (parens_start x y) (block_start x y) (b ∷ ts) (at_kind see.OpenParen e see.OpenParen true refl)

    to_brace : sort b ≡ see.OpenBrace → start x y ([], b ∷ ts) ≡ block_start x y ([], b ∷ ts)
    to_brace e = to_6 see.OpenBrace e refl refl refl refl refl ∙ skip (same see.OpenParen) (parens_start x y) (block_start x y) (b ∷ ts) (at_kind see.OpenBrace e see.OpenParen false refl)

  pub head_literal : same see.Literal (sort b) ≡ true → Heads ([])
  unfolding literal_start literal
  head_literal e = let l = is_literal b e in λ follow end. (literal_head l.0, true, to_literal follow e ∙ rw (one_reads literal_of b l.0 follow l.1) refl)

  pub head_name : sort b ≡ see.Id → Heads ([])
  unfolding name_start name
  head_name e = let l = is_name b (ap (λ (o : Ahead). same see.Id o) e) in λ follow end. (name_head l.0, true, to_name follow e ∙ rw (one_reads ident_of b l.0 follow l.1) refl)

  pub head_this : sort b ≡ see.This → Heads ([])
  unfolding this_start
  head_this e = λ follow end. (this_head b.span, true, to_this follow e ∙ rw (word_reads see.This b follow (ap (λ (o : Ahead). same see.This o) e)) refl)

  pub head_super : sort b ≡ see.Super → Heads (dot ∷ t_name ∷ [])
  unfolding super_start name
  head_super e = λ follow end. (super_tree b.span a_name, true, to_super (dot ∷ t_name ∷ follow) e ∙ rw (word_reads see.Super b (dot ∷ t_name ∷ follow) (ap (λ (o : Ahead). same see.Super o) e)) (rw (word_reads see.Dot dot (t_name ∷ follow) dot_is) (rw (one_reads ident_of t_name a_name follow name_is) refl)))

  pub head_new : sort b ≡ see.New → Heads (t_name ∷ [])
  unfolding new_start name
  head_new e = λ follow end. (new_tree b.span a_name None, false, to_new (t_name ∷ follow) e ∙ rw (word_reads see.New b (t_name ∷ follow) (ap (λ (o : Ahead). same see.New o) e)) (rw (one_reads ident_of t_name a_name follow name_is) (rw (at_closers (λ o. same see.OpenParen o ≡ false) refl refl refl refl (ahead follow) end) refl)))

  pub head_paren : sort b ≡ see.OpenParen → Heads (close_paren ∷ [])
  unfolding parens_start nothing_inside
  head_paren e = λ follow end. (parens_tree b.span None nowhere, true, to_paren (close_paren ∷ follow) e ∙ rw (word_reads see.OpenParen b (close_paren ∷ follow) (ap (λ (o : Ahead). same see.OpenParen o) e)) (rw close_paren_is (rw (word_reads see.CloseParen close_paren follow close_paren_is) refl)))

  pub head_brace : sort b ≡ see.OpenBrace → Heads (close_brace ∷ [])
  unfolding block_start braces block stats absorb
  head_brace e = λ follow end. (block_head (block_tree []) (record { from = b.span.from; to = 0 }), false, to_brace (close_brace ∷ follow) e ∙ rw (word_reads see.OpenBrace b (close_brace ∷ follow) (ap (λ (o : Ahead). same see.OpenBrace o) e)) (rw (fold_stays (clean (at_item begins_stat)) (block_item x y) add_item (λ s d. ap (λ (z : Bool). nothing d && z) (both_false s.0) ∙ both_false (nothing d)) (true, []) [] (close_brace ∷ follow) brace_stays) (rw (word_reads see.CloseBrace close_brace follow close_brace_is) refl)))

-- ---- whole expressions, over a reader that reads `null`

module _ (x : Reader Expr) (y : Reader Pattern) (reads : (follow : List Token) → closers (ahead follow) ≡ true → x ([], lit ++ follow) ≡ ok_of lit_tree [] follow) (b : Token) where
  abbrev pub Whole : List Token → Type 0
  Whole v = ((follow : List Token) → closers (ahead follow) ≡ true → (u : Expr) × (any x y ([], b ∷ (v ++ follow)) ≡ ok_of u [] follow))

  pub by_head : (k : Ahead) → sort b ≡ k → opening k ≡ false → (v : List Token) → Heads x y b v → Whole v
  by_head k e q v h = λ follow end. let i = h follow end in (_, any_alone x y (b ∷ (v ++ follow)) follow end i.0 i.1 (ap (λ (o : Ahead). opening o) e ∙ q) i.2)

  prefix_signed : (ts : List Token) → begins_sign (ahead ts) ≡ true → prefix x y ([], ts) ≡ signed x y ([], ts)
  unfolding prefix
  prefix_signed ts h = enter begins_sign (signed x y) (unsigned x y) ts h

  pub by_sign : (k : Ahead) → sort b ≡ k → (same see.If k || same see.While k || same see.Try k || same see.Throw k) ≡ false → begins_sign k ≡ true → Whole lit
  unfolding signed sign
  by_sign k e q h =
      let g = is_sign b (ap (λ (o : Ahead). begins_sign o) e ∙ h) in
      (λ follow end. (
        plain_expr (infix_tree (prefix_tree (Some g.0) (simple_tree (literal_head (literals.Null nowhere)) [])) []),
        any_plain x y (b ∷ (lit ++ follow)) follow end (ap (λ (o : Ahead). same see.If o || same see.While o || same see.Try o || same see.Throw o) e ∙ q)
            ∙ plain_alone x y (b ∷ (lit ++ follow)) follow end (prefix_tree (Some g.0) (simple_tree (literal_head (literals.Null nowhere)) []))
            (prefix_signed (b ∷ (lit ++ follow)) (ap (λ (o : Ahead). begins_sign o) e ∙ h) ∙ rw (one_reads sign_of b g.0 (lit ++ follow) g.1) (rw (simple_alone x y (lit ++ follow) follow end (literal_head (literals.Null nowhere)) true (lit_start x y follow)) refl)),
      ))
