-- Each token that begins a pattern is continued, over a reader that reads `_`.
use Rattle.std.proofs.Common.{◌≡◌, Bool, true, false, List, [], ◌∷◌, ◌++◌, Some, refl, ap, ◌∙◌}
use Rattle.sl_ast.specs.declared.token.Token.{Token}
use Rattle.sl_ast.specs.declared.literal.Literal.TheVariants as literals
use Rattle.sl_ast.specs.declared.pattern.Pattern.{Pattern}
use Rattle.sl_ast.specs.declared.pattern.Pat.{Pat}
use Rattle.sl_parse_expr.specs.declared.ahead.Ahead.{Ahead}
use Rattle.sl_parse_expr.specs.declared.ahead.Ahead.TheVariants as see
use Rattle.sl_parse_expr.specs.Ahead.{sort, same}
use Rattle.sl_parse_expr.specs.Tokens.{ident_of, literal_of}
use Rattle.sl_parse_expr.specs.PatternTrees.{any_tree, literal_tree, minus_tree, name_tree, inside_tree, simple_as_pat, pattern_tree}
use Rattle.sl_parse_expr.specs.Reading.{Reader, ahead, nothing, choose, clean}
use Rattle.sl_parse_expr.specs.Rules.{added, name, literal, at_bar}
use Rattle.sl_parse_expr.specs.PatternRules.{begins_pattern, inside, minus, no_minus, closed, at_name, by_name, by_underscore, by_itself, alternative, next_alternative, more_alternatives, any_pattern}
use Rattle.sl_parse_expr.proofs.Theory.{ok_of, fold_stays}
use Rattle.sl_parse_expr.proofs.Choices.{both_false}
use Rattle.sl_parse_expr.proofs.Words.{nowhere, key, mark, lit, under, close_paren}
use Rattle.sl_parse_expr.proofs.Ends.{arrows, at_arrows}
use Rattle.sl_parse_expr.proofs.Begun.{skip, enter, word_reads, one_reads, is_literal, is_name}

-- the tokens that complete what begins with such a one
abbrev pub pattern_word : Ahead → List Token
pattern_word see.OpenParen = mark 0 ∷ close_paren ∷ []
pattern_word see.Minus = lit
pattern_word k = []

pat_alone : (y : Reader Pattern) (ts follow : List Token) (p : Pat) → arrows (ahead follow) ≡ true → alternative y ([], ts) ≡ ok_of p [] follow → any_pattern y ([], ts) ≡ ok_of (pattern_tree p []) [] follow
unfolding any_pattern more_alternatives
pat_alone y ts follow p end e = rw e (rw (fold_stays (clean at_bar) (next_alternative y) added (λ s d. both_false (nothing d)) [] [] follow (at_arrows (λ o. at_bar {A = Pat} [] o ≡ false) refl refl refl (ahead follow) end)) refl)

abbrev pub under_tree : Pattern
under_tree = pattern_tree (simple_as_pat (any_tree nowhere)) []

close_is : same see.CloseParen (sort close_paren) ≡ true
unfolding sort
close_is = refl

close_ends : arrows (sort close_paren) ≡ true
unfolding sort
close_ends = refl

lit_is : literal_of (key 20) ≡ Some (literals.Null nowhere)
unfolding literal_of
lit_is = refl

under_is : sort (mark 0) ≡ see.Underscore
unfolding sort
under_is = refl

module _ (y : Reader Pattern) (b : Token) where
  at_kind : (k : Ahead) → sort b ≡ k → (o : Ahead) (v : Bool) → same o k ≡ v → same o (sort b) ≡ v
  at_kind k e o v h = ap (λ (z : Ahead). same o z) e ∙ h

  module _ (ts : List Token) where
    to_name : sort b ≡ see.Id → alternative y ([], b ∷ ts) ≡ by_name y ([], b ∷ ts)
    unfolding alternative
    to_name e = enter (same see.Id) (by_name y) (choose (same see.Underscore) (by_underscore y) (by_itself y)) (b ∷ ts) (at_kind see.Id e see.Id true refl)

    to_underscore : sort b ≡ see.Underscore → alternative y ([], b ∷ ts) ≡ by_underscore y ([], b ∷ ts)
    unfolding alternative
    to_underscore e = skip (same see.Id) (by_name y) (choose (same see.Underscore) (by_underscore y) (by_itself y)) (b ∷ ts) (at_kind see.Underscore e see.Id false refl) ∙ enter (same see.Underscore) (by_underscore y) (by_itself y) (b ∷ ts) (at_kind see.Underscore e see.Underscore true refl)

    to_itself : (k : Ahead) → sort b ≡ k → same see.Id k ≡ false → same see.Underscore k ≡ false → alternative y ([], b ∷ ts) ≡ by_itself y ([], b ∷ ts)
    unfolding alternative
    to_itself k e h i = skip (same see.Id) (by_name y) (choose (same see.Underscore) (by_underscore y) (by_itself y)) (b ∷ ts) (at_kind k e see.Id false h) ∙ skip (same see.Underscore) (by_underscore y) (by_itself y) (b ∷ ts) (at_kind k e see.Underscore false i)

    to_inside : sort b ≡ see.OpenParen → closed y ([], b ∷ ts) ≡ inside y ([], b ∷ ts)
    unfolding closed
    to_inside e = enter (same see.OpenParen) (inside y) (choose (same see.Minus) (minus y) (no_minus y)) (b ∷ ts) (at_kind see.OpenParen e see.OpenParen true refl)

    to_minus : sort b ≡ see.Minus → closed y ([], b ∷ ts) ≡ minus y ([], b ∷ ts)
    unfolding closed
    to_minus e = skip (same see.OpenParen) (inside y) (choose (same see.Minus) (minus y) (no_minus y)) (b ∷ ts) (at_kind see.Minus e see.OpenParen false refl) ∙ enter (same see.Minus) (minus y) (no_minus y) (b ∷ ts) (at_kind see.Minus e see.Minus true refl)

    to_literal : sort b ≡ see.Literal → closed y ([], b ∷ ts) ≡ no_minus y ([], b ∷ ts)
    unfolding closed
    to_literal e = skip (same see.OpenParen) (inside y) (choose (same see.Minus) (minus y) (no_minus y)) (b ∷ ts) (at_kind see.Literal e see.OpenParen false refl) ∙ skip (same see.Minus) (minus y) (no_minus y) (b ∷ ts) (at_kind see.Literal e see.Minus false refl)

  underscore_reads : (follow : List Token) → sort b ≡ see.Underscore → arrows (ahead follow) ≡ true → any_pattern y ([], b ∷ follow) ≡ ok_of (pattern_tree (simple_as_pat (any_tree b.span)) []) [] follow
  unfolding by_underscore
  underscore_reads follow e end = pat_alone y (b ∷ follow) follow (simple_as_pat (any_tree b.span)) end
      (to_underscore follow e ∙ rw (word_reads see.Underscore b follow (at_kind see.Underscore e see.Underscore true refl)) (rw (at_arrows (λ o. same see.Colon o ≡ false) refl refl refl (ahead follow) end) refl))

pub reads_under : (y : Reader Pattern) (follow : List Token) → arrows (ahead follow) ≡ true → any_pattern y ([], under ++ follow) ≡ ok_of under_tree [] follow
reads_under y follow end = underscore_reads y (mark 0) follow under_is end

module _ (y : Reader Pattern) (reads : (follow : List Token) → arrows (ahead follow) ≡ true → y ([], under ++ follow) ≡ ok_of under_tree [] follow) (b : Token) where
  abbrev pub WholePattern : List Token → Type 0
  WholePattern v = ((follow : List Token) → arrows (ahead follow) ≡ true → (u : Pattern) × (any_pattern y ([], b ∷ (v ++ follow)) ≡ ok_of u [] follow))

  whole_name : sort b ≡ see.Id → WholePattern ([])
  unfolding by_name name
  whole_name e = let l = is_name b (at_kind y b see.Id e see.Id true refl) in λ follow end. (
    pattern_tree (simple_as_pat (name_tree l.0)) [],
    pat_alone y (b ∷ follow) follow (simple_as_pat (name_tree l.0)) end
        (to_name y b follow e ∙ rw (one_reads ident_of b l.0 follow l.1) (rw (at_arrows (λ o. at_name o ≡ false) refl refl refl (ahead follow) end) refl)),
  )

  whole_inside : sort b ≡ see.OpenParen → WholePattern (mark 0 ∷ close_paren ∷ [])
  unfolding by_itself inside
  whole_inside e = λ follow end. (
    pattern_tree (simple_as_pat (inside_tree b.span under_tree nowhere)) [],
    pat_alone y (b ∷ mark 0 ∷ close_paren ∷ follow) follow (simple_as_pat (inside_tree b.span under_tree nowhere)) end
        (to_itself y b (mark 0 ∷ close_paren ∷ follow) see.OpenParen e refl refl ∙ rw (to_inside y b (mark 0 ∷ close_paren ∷ follow) e) (rw (word_reads see.OpenParen b (mark 0 ∷ close_paren ∷ follow) (at_kind y b see.OpenParen e see.OpenParen true refl)) (rw (reads (close_paren ∷ follow) close_ends) (rw (word_reads see.CloseParen close_paren follow close_is) refl)))),
  )

  whole_minus : sort b ≡ see.Minus → WholePattern (lit)
  unfolding by_itself minus literal
  whole_minus e = λ follow end. (
    pattern_tree (simple_as_pat (minus_tree b.span (literals.Null nowhere))) [],
    pat_alone y (b ∷ key 20 ∷ follow) follow (simple_as_pat (minus_tree b.span (literals.Null nowhere))) end
        (to_itself y b (key 20 ∷ follow) see.Minus e refl refl ∙ rw (to_minus y b (key 20 ∷ follow) e) (rw (word_reads see.Minus b (key 20 ∷ follow) (at_kind y b see.Minus e see.Minus true refl)) (rw (one_reads literal_of (key 20) (literals.Null nowhere) follow lit_is) refl))),
  )

  whole_literal : sort b ≡ see.Literal → WholePattern ([])
  unfolding by_itself no_minus literal
  whole_literal e = let l = is_literal b (at_kind y b see.Literal e see.Literal true refl) in λ follow end. (
    pattern_tree (simple_as_pat (literal_tree l.0)) [],
    pat_alone y (b ∷ follow) follow (simple_as_pat (literal_tree l.0)) end
        (to_itself y b follow see.Literal e refl refl ∙ rw (to_literal y b follow e) (rw (one_reads literal_of b l.0 follow l.1) refl)),
  )

  pub begun_pattern : (k : Ahead) → sort b ≡ k → begins_pattern k ≡ true → WholePattern (pattern_word k)
  begun_pattern see.Id e h = whole_name e
  begun_pattern see.Underscore e h = λ follow end. (pattern_tree (simple_as_pat (any_tree b.span)) [], underscore_reads y b follow e end)
  begun_pattern see.OpenParen e h = whole_inside e
  begun_pattern see.Minus e h = whole_minus e
  begun_pattern see.Literal e h = whole_literal e
  begun_pattern k e h = absurd cc
