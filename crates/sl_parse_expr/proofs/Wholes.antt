-- Each token that begins an expression is continued, over a reader that reads `null`.
use Rattle.std.proofs.Common.{◌≡◌, Bool, true, false, List, [], ◌∷◌, ◌++◌, Option, None, refl, ap, ◌∙◌}
use Rattle.sl_ast.specs.declared.token.Token.{Token}
use Rattle.sl_ast.specs.declared.expr.Expr.{Expr}
use Rattle.sl_ast.specs.declared.pattern.Pattern.{Pattern}
use Rattle.sl_parse_expr.specs.declared.ahead.Ahead.{Ahead}
use Rattle.sl_parse_expr.specs.declared.ahead.Ahead.TheVariants as see
use Rattle.sl_parse_expr.specs.Ahead.{sort, same}
use Rattle.sl_parse_expr.specs.Starts.{begins_expr}
use Rattle.sl_parse_expr.specs.Trees.{if_tree, while_tree, try_tree, throw_tree}
use Rattle.sl_parse_expr.specs.Reading.{Reader, pure, ahead, nothing, expect, choose, clean}
use Rattle.sl_parse_expr.specs.Rules.{at_line, one_more, lines, condition, other, other_by, if_expr, while_expr, try_expr, throw_expr, plain, any}
use Rattle.sl_parse_expr.proofs.Theory.{ok_of, fold_stays}
use Rattle.sl_parse_expr.proofs.Choices.{both_false}
use Rattle.sl_parse_expr.proofs.Words.{key, t_name, lit, open_paren, close_paren, close_brace, dot}
use Rattle.sl_parse_expr.proofs.Ends.{closers, at_closers}
use Rattle.sl_parse_expr.proofs.Begun.{skip, enter, word_reads, lit_tree, Whole, by_head, by_sign, head_literal, head_name, head_this, head_super, head_new, head_paren, head_brace}

-- the tokens that complete what begins with such a one
abbrev pub word_of : Ahead → List Token
word_of see.If = open_paren ∷ key 20 ∷ close_paren ∷ key 20 ∷ []
word_of see.While = open_paren ∷ key 20 ∷ close_paren ∷ key 20 ∷ []
word_of see.Try = lit
word_of see.Throw = lit
word_of see.Minus = lit
word_of see.Sign = lit
word_of see.Super = dot ∷ t_name ∷ []
word_of see.New = t_name ∷ []
word_of see.OpenParen = close_paren ∷ []
word_of see.OpenBrace = close_brace ∷ []
word_of k = []

open_is : same see.OpenParen (sort open_paren) ≡ true
unfolding sort
open_is = refl

close_is : same see.CloseParen (sort close_paren) ≡ true
unfolding sort
close_is = refl

close_ends : closers (sort close_paren) ≡ true
unfolding sort
close_ends = refl

lit_stays : same see.Newline (sort (key 20)) ≡ false
unfolding sort
lit_stays = refl

lines_none : (ts : List Token) → same see.Newline (ahead ts) ≡ false → lines ([], ts) ≡ ok_of tt [] ts
unfolding lines
lines_none ts h = fold_stays (clean at_line) (expect see.Newline) one_more (λ s d. both_false (nothing d)) tt [] ts h

module _ (x : Reader Expr) (y : Reader Pattern) (reads : (follow : List Token) → closers (ahead follow) ≡ true → x ([], lit ++ follow) ≡ ok_of lit_tree [] follow) (b : Token) where
  reads_condition : (ts : List Token) → same see.Newline (ahead ts) ≡ false → condition x y ([], open_paren ∷ (lit ++ (close_paren ∷ ts))) ≡ ok_of lit_tree [] ts
  unfolding condition
  reads_condition ts h = rw (word_reads see.OpenParen open_paren (lit ++ (close_paren ∷ ts)) open_is) (rw (reads (close_paren ∷ ts) close_ends) (rw (word_reads see.CloseParen close_paren ts close_is) (rw (lines_none ts h) refl)))

  other_none : (follow : List Token) → closers (ahead follow) ≡ true → other x y ([], follow) ≡ ok_of None [] follow
  unfolding other
  other_none follow end = ap (λ (q : Reader (Option Expr)). q ([], follow)) (at_closers (λ o. other_by x y o [] ≡ pure None) refl refl refl refl (ahead follow) end)

  at_kind : (k : Ahead) → sort b ≡ k → (o : Ahead) (v : Bool) → same o k ≡ v → same o (sort b) ≡ v
  at_kind k e o v h = ap (λ (z : Ahead). same o z) e ∙ h

  module _ (ts : List Token) where
    to_if : sort b ≡ see.If → any x y ([], b ∷ ts) ≡ if_expr x y ([], b ∷ ts)
    unfolding any
    to_if e = enter (same see.If) (if_expr x y) (choose (same see.While) (while_expr x y) (choose (same see.Try) (try_expr x y) (choose (same see.Throw) (throw_expr x y) (plain x y)))) (b ∷ ts) (at_kind see.If e see.If true refl)

    to_2 : (k : Ahead) → sort b ≡ k → same see.If k ≡ false → any x y ([], b ∷ ts) ≡ choose (same see.While) (while_expr x y) (choose (same see.Try) (try_expr x y) (choose (same see.Throw) (throw_expr x y) (plain x y))) ([], b ∷ ts)
    unfolding any
    to_2 k e h = skip (same see.If) (if_expr x y) (choose (same see.While) (while_expr x y) (choose (same see.Try) (try_expr x y) (choose (same see.Throw) (throw_expr x y) (plain x y)))) (b ∷ ts) (at_kind k e see.If false h)

    to_while : sort b ≡ see.While → any x y ([], b ∷ ts) ≡ while_expr x y ([], b ∷ ts)
    to_while e = to_2 see.While e refl ∙ enter (same see.While) (while_expr x y) (choose (same see.Try) (try_expr x y) (choose (same see.Throw) (throw_expr x y) (plain x y))) (b ∷ ts) (at_kind see.While e see.While true refl)

    to_try : sort b ≡ see.Try → any x y ([], b ∷ ts) ≡ try_expr x y ([], b ∷ ts)
    to_try e = to_2 see.Try e refl ∙ skip (same see.While) (while_expr x y) (choose (same see.Try) (try_expr x y) (choose (same see.Throw) (throw_expr x y) (plain x y))) (b ∷ ts) (at_kind see.Try e see.While false refl) ∙ enter (same see.Try) (try_expr x y) (choose (same see.Throw) (throw_expr x y) (plain x y)) (b ∷ ts) (at_kind see.Try e see.Try true refl)

    to_throw : sort b ≡ see.Throw → any x y ([], b ∷ ts) ≡ throw_expr x y ([], b ∷ ts)
    to_throw e = to_2 see.Throw e refl ∙ skip (same see.While) (while_expr x y) (choose (same see.Try) (try_expr x y) (choose (same see.Throw) (throw_expr x y) (plain x y))) (b ∷ ts) (at_kind see.Throw e see.While false refl) ∙ skip (same see.Try) (try_expr x y) (choose (same see.Throw) (throw_expr x y) (plain x y)) (b ∷ ts) (at_kind see.Throw e see.Try false refl) ∙ enter (same see.Throw) (throw_expr x y) (plain x y) (b ∷ ts) (at_kind see.Throw e see.Throw true refl)

  whole_if : sort b ≡ see.If → Whole x y reads b (open_paren ∷ key 20 ∷ close_paren ∷ key 20 ∷ [])
  unfolding if_expr
  whole_if e = λ follow end. (
    if_tree b.span lit_tree lit_tree None,
    to_if (open_paren ∷ key 20 ∷ close_paren ∷ key 20 ∷ follow) e ∙ rw (word_reads see.If b (open_paren ∷ key 20 ∷ close_paren ∷ key 20 ∷ follow) (at_kind see.If e see.If true refl)) (rw (reads_condition (key 20 ∷ follow) lit_stays) (rw (reads follow end) (rw (other_none follow end) refl))),
  )

  whole_while : sort b ≡ see.While → Whole x y reads b (open_paren ∷ key 20 ∷ close_paren ∷ key 20 ∷ [])
  unfolding while_expr
  whole_while e = λ follow end. (
    while_tree b.span lit_tree lit_tree,
    to_while (open_paren ∷ key 20 ∷ close_paren ∷ key 20 ∷ follow) e ∙ rw (word_reads see.While b (open_paren ∷ key 20 ∷ close_paren ∷ key 20 ∷ follow) (at_kind see.While e see.While true refl)) (rw (reads_condition (key 20 ∷ follow) lit_stays) (rw (reads follow end) refl)),
  )

  whole_try : sort b ≡ see.Try → Whole x y reads b (lit)
  unfolding try_expr
  whole_try e = λ follow end. (
    try_tree b.span lit_tree None None,
    to_try (key 20 ∷ follow) e ∙ rw (word_reads see.Try b (key 20 ∷ follow) (at_kind see.Try e see.Try true refl)) (rw (reads follow end) (rw (at_closers (λ o. same see.Catch o ≡ false) refl refl refl refl (ahead follow) end) (rw (at_closers (λ o. same see.Finally o ≡ false) refl refl refl refl (ahead follow) end) refl))),
  )

  whole_throw : sort b ≡ see.Throw → Whole x y reads b (lit)
  unfolding throw_expr
  whole_throw e = λ follow end. (
    throw_tree b.span lit_tree,
    to_throw (key 20 ∷ follow) e ∙ rw (word_reads see.Throw b (key 20 ∷ follow) (at_kind see.Throw e see.Throw true refl)) (rw (reads follow end) refl),
  )

  pub begun : (k : Ahead) → sort b ≡ k → begins_expr k ≡ true → Whole x y reads b (word_of k)
  begun see.If e h = whole_if e
  begun see.While e h = whole_while e
  begun see.Try e h = whole_try e
  begun see.Throw e h = whole_throw e
  begun see.Minus e h = by_sign x y reads b see.Minus e refl refl
  begun see.Sign e h = by_sign x y reads b see.Sign e refl refl
  begun see.Literal e h = by_head x y reads b see.Literal e refl ([]) (head_literal x y b (at_kind see.Literal e see.Literal true refl))
  begun see.Id e h = by_head x y reads b see.Id e refl ([]) (head_name x y b e)
  begun see.This e h = by_head x y reads b see.This e refl ([]) (head_this x y b e)
  begun see.Super e h = by_head x y reads b see.Super e refl (dot ∷ t_name ∷ []) (head_super x y b e)
  begun see.New e h = by_head x y reads b see.New e refl (t_name ∷ []) (head_new x y b e)
  begun see.OpenParen e h = by_head x y reads b see.OpenParen e refl (close_paren ∷ []) (head_paren x y b e)
  begun see.OpenBrace e h = by_head x y reads b see.OpenBrace e refl (close_brace ∷ []) (head_brace x y b e)
  begun k e h = absurd cc
