-- What is read as an expression is one by the grammar. A rule's proof repeats its definition.
use Rattle.std.proofs.Common.{◌≡◌, ℕ, zero, suc, Bool, true, false, List, [], ◌∷◌, ◌++◌, Option, Some, None, Ok, Err, refl, sym, ap, subst, ◌∙◌, append_assoc}
use Rattle.std.specs.Prelude.{if◌then◌else◌, ◌&&◌, ◌||◌, Result, IfOk}
use Rattle.std.proofs.lemmas.List.{append-nil}
use Rattle.sl_text.specs.declared.span.Span.{Span}
use Rattle.sl_ast.specs.declared.token.Token.{Token}
use Rattle.sl_ast.specs.declared.expr.Expr.{Expr}
use Rattle.sl_ast.specs.declared.infix.Infix.{Infix}
use Rattle.sl_ast.specs.declared.infix.Operation.{Operation}
use Rattle.sl_ast.specs.declared.infix.Prefix.{Prefix}
use Rattle.sl_ast.specs.declared.simple.Suffix.{Suffix}
use Rattle.sl_ast.specs.declared.block.Stat.{Stat}
use Rattle.sl_parse_expr.specs.declared.ahead.Ahead.{Ahead}
use Rattle.sl_parse_expr.specs.declared.ahead.Ahead.TheVariants as see
use Rattle.sl_parse_expr.specs.declared.cursor.Waiting.{Waiting}
use Rattle.sl_parse_expr.specs.declared.cursor.Waiting.TheVariants as waiting
use Rattle.sl_parse_expr.specs.declared.chain.Chain.{Chain}
use Rattle.sl_parse_expr.specs.declared.chain.Chain.TheVariants as chain
use Rattle.sl_parse_expr.specs.Ahead.{sort, same}
use Rattle.sl_parse_expr.specs.Starts.{begins_stat, begins_binding, begins_sign, begins_expr, is_operator}
use Rattle.sl_parse_expr.specs.LastNew.{stat_ends_in_new}
use Rattle.sl_parse_expr.specs.Tokens.{operator_of, sign_of, binding_of, separator_of, separates}
use Rattle.sl_parse_expr.specs.Trees.{parens_tree, cases_tree, infix_tree, operation_tree, plain_expr, select, apply, apply_block}
use Rattle.sl_parse_expr.specs.Reading.{State, Reads, Reader, ◌>>◌, pure, stuck, word, expect, absorb, hold, ahead, rest, nothing, waits, clean}
use Rattle.sl_parse_expr.specs.Rules.{operator, sign, binding, separator, at_line, one_more, lines, next_arg, more_args, some_args, no_args, par_args, typed, local, expr_as_stat, stat, apart, stat_item, block_item, stats, block, braces, at_item, add_item, no_brace, bare_line, behind_bare, behind_new, behind_item, literal_start, name_start, this_start, super_start, new_args, new_start, nothing_inside, expr_inside, parens_start, block_start, start, selection, call, block_call, behind_line, line_call, suffix, suffixes, first_chain, goes_chain, at_suffix, add_suffix, simple, signed, unsigned, prefix, line_operand, operand, operation, operations, infix_expr, guarded, case_reader, more_cases, cases, with_else, third, third_by, second, second_by, other, other_by, semi_from, line_from, condition, if_expr, while_expr, handler, finalizer, try_expr, throw_expr, at_behind, match_behind, assign_behind, behind_infix, plain, any, too_deep}
use Rattle.sl_parse_expr.specs.PatternRules.{pattern}
use Rattle.sl_parse_expr.specs.Levels.{expr}
use Rattle.sl_parse_expr.specs.declared.stopped.Stopped.{Stopped}
use Rattle.sl_parse_expr.specs.Phrases.{IsOne, IsWord, IsMore, IsListed, IsOption, IsLines, IsLine, IsSemi, IsSeq, body_follows, Pending, none_held, semi_held, line_held, lines_held}
use Rattle.sl_parse_expr.specs.Phrases as phrase
use Rattle.sl_parse_expr.specs.Grammar.{IsTyped, IsPattern, IsParArgs, IsStat, IsBlock, IsBraces, IsHead, IsSuffixes, IsSimple, IsPrefix, IsOperations, IsInfix, IsGuard, IsCase, IsMoreCases, IsCases, IsHandler, IsFinalizer, IsOther, IsCondition, IsAnyExpr, IsExpr, suffix_follows, else_follows}
use Rattle.sl_parse_expr.specs.Grammar as grammar
use Rattle.sl_parse_expr.proofs.Theory.{Held, stop}
use Rattle.sl_parse_expr.proofs.Good.{newline, item_none, suffix_none}
use Rattle.sl_parse_expr.proofs.Loops.{eats_of}
use Rattle.sl_parse_expr.proofs.Gives.{Gives, Clean, Loose, give, stopped, same_as, weaker, looser, as_loose, next, upon, map_clean, map_loose, single, marked, either, both, branch_by, holding, looked, absorbed, settled, perhaps, perhaps_clean, loop, listing, IsNext, behind, one_behind}
use Rattle.sl_parse_expr.proofs.Inside.{SoundExprs, expr_items}
use Rattle.sl_parse_expr.proofs.PatternSound.{name_is, literal_is, type_is, sound_patterns}
use Rattle.sl_ast.specs.declared.pattern.Pattern.{Pattern}

-- ---- single tokens and line ends

binding_is : (d : Held) (a : List Token) → Gives binding d a (Clean (λ x r. IsOne binding_of x (d ++ a) r))
unfolding binding
binding_is d a = single binding_of d a

sign_is : (d : Held) (a : List Token) → Gives sign d a (Clean (λ x r. IsOne sign_of x (d ++ a) r))
unfolding sign
sign_is d a = single sign_of d a

operator_is : (d : Held) (a : List Token) → Gives operator d a (Clean (λ x r. IsOne operator_of x (d ++ a) r))
unfolding operator
operator_is d a = single operator_of d a

separator_is : (d : Held) (a : List Token) → Gives separator d a (Clean (λ x r. IsOne separator_of x (d ++ a) r))
unfolding separator
separator_is d a = single separator_of d a

lines_is : (a : List Token) → Gives lines [] a (Clean (λ _ r. IsLines a r))
unfolding lines
lines_is a = loop at_line (expect see.Newline) one_more (λ _. refl) (eats_of 0 (newline 0) refl) So (Clean (λ _ r. IsLines a r)) step done tt [] a (refl, λ q k. k)
  where
    So : Unit {0} → Held → List Token → Type 0
    So _ d b = (d ≡ []) × ((q : List Token) → IsLines b q → IsLines a q)

    step : (u : Unit {0}) (d : Held) (b : List Token) → So u d b → clean at_line u (ahead b) d ≡ true → Gives (expect see.Newline) d b (λ x e c. So (one_more u x) e c)
    step u d b inv h = weaker (marked see.Newline d b) (λ s e c k. (k.none, λ q m. inv.1 q (subst (λ (z : Held). IsLines (z ++ b) q) inv.0 (phrase.a_line k.is m))))

    done : (u : Unit {0}) (d : Held) (b : List Token) → So u d b → clean at_line u (ahead b) d ≡ false → Clean (λ _ r. IsLines a r) u d b
    done u d b inv h = record { none = inv.0; is = inv.1 b (phrase.no_line (subst (λ (z : Held). clean at_line u (ahead b) z ≡ false) inv.0 h)) }

line_separates : (o : Ahead) → same see.Newline o ≡ true → separates o ≡ true
line_separates see.Newline h = refl
line_separates o h = absurd cc

when_some : {A : Type 0} (b : Bool) (x y : A) → (if b then Some x else None) ≡ Some y → b ≡ true
when_some true x y i = refl
when_some false x y i = absurd cc

line_word : (t : Token) (s : Span) → word see.Newline t ≡ Some s → same see.Newline (sort t) ≡ true
line_word t s i = when_some (same see.Newline (sort t)) t.span s i

-- ---- the rules, over the expressions inside

module _ {exprs : Reader Expr} {patterns : Reader Pattern} {E : Expr → List Token → List Token → Type 0} {Q : Pattern → List Token → List Token → Type 0} (ok : SoundExprs exprs patterns E Q) where
  next_arg_is : (d : Held) (a : List Token) → Gives (next_arg exprs patterns) d a (Loose (λ x r. IsNext see.Comma E x (d ++ a) r))
  unfolding next_arg
  next_arg_is d a = upon (marked see.Comma d a) (λ s b h. as_loose (ok.is [] b) (λ x r k. behind h k))

  some_args_is : (d : Held) (a : List Token) → Gives (some_args exprs patterns) d a (Clean (λ xs r. IsListed E xs.0 xs.1 (d ++ a) r))
  unfolding some_args more_args
  some_args_is d a = next (ok.is d a) (λ x e b h. next (listing (same see.Comma) (next_arg exprs patterns) refl refl refl ok.items.arg (IsNext see.Comma E) (IsMore see.Comma E)
      (λ ys c. (s : Span) (r : List Token) → IsWord see.CloseParen s c r → IsListed E ys s (d ++ a) r) (λ r m. phrase.no_more m) (one_behind see.Comma E) next_arg_is (x ∷ []) e b (h.held, λ zs c m s r w. phrase.some_listed h.is m w))
      (λ ys e2 c k. map_clean _ (marked see.CloseParen e2 c) (λ s r w. k.is s r w)))

  no_args_is : (d : Held) (a : List Token) → Gives (no_args exprs patterns) d a (Clean (λ xs r. IsListed E xs.0 xs.1 (d ++ a) r))
  unfolding no_args
  no_args_is d a = map_clean _ (marked see.CloseParen d a) (λ s r w. phrase.none_listed w)

  pub par_args_is : (d : Held) (a : List Token) → Gives (par_args exprs patterns) d a (Clean (λ x r. IsParArgs E Q x (d ++ a) r))
  unfolding par_args
  par_args_is d a = upon (marked see.OpenParen d a) (λ s b h. map_clean _ (both (same see.CloseParen) (no_args_is [] b) (some_args_is [] b)) (λ xs r k. grammar.par_args h k))

  -- ---- statements

  typed_is : (d : Held) (a : List Token) → Gives (typed exprs patterns) d a (Clean (λ t r. IsOption (same see.Colon) IsTyped t (d ++ a) r))
  unfolding typed
  typed_is d a = upon (marked see.Colon d a) (λ s b h. map_clean _ (type_is [] b) (λ t r k. phrase.present (grammar.typed h k)))

  local_is : (d : Held) (a : List Token) → Gives (local exprs patterns) d a (Loose (λ x r. IsStat E Q x (d ++ a) r))
  unfolding local
  local_is d a = upon (binding_is d a) (λ g b h. upon (name_is [] b) (λ x c i. upon (perhaps_clean (same see.Colon) None (typed_is [] c) (λ k. phrase.absent k)) (λ t c1 j. upon (marked see.Equals [] c1) (λ s c2 k. map_loose _ (ok.is [] c2) (λ e r m. grammar.local h i j k m)))))

  expr_as_stat_is : (d : Held) (a : List Token) → Gives (expr_as_stat exprs patterns) d a (Loose (λ x r. IsStat E Q x (d ++ a) r))
  unfolding expr_as_stat
  expr_as_stat_is d a = map_loose _ (ok.is d a) (λ e r k. grammar.expression k)

  stat_is : (d : Held) (a : List Token) → Gives (stat exprs patterns) d a (Loose (λ x r. IsStat E Q x (d ++ a) r))
  unfolding stat
  stat_is d a = both begins_binding (local_is d a) (expr_as_stat_is d a)

  -- ---- what stands behind a statement

  abbrev Stats : Bool → List Stat → List Token → List Token → Type 0
  Stats = IsSeq begins_stat stat_ends_in_new (IsStat E Q)

  -- whether a separator stands before what follows
  abbrev parted : Bool → Bool
  parted true = false
  parted false = true

  after : (b : Bool) (t : Token) (c : List Token) (zs : List Stat) (q : List Token) → separates (sort t) ≡ true → Stats true zs c q → Stats b zs (t ∷ c) q
  unfolding separator_of
  after b t c zs q i m = phrase.separated (phrase.token (ap (λ (z : Bool). if z then Some tt else None) i)) m

  abbrev Behind : Bool → List Token → Bool → Held → List Token → Type 0
  Behind bare m c e r = (e ≡ []) × ((bare && body_follows m) ≡ false) × ((zs : List Stat) (q : List Token) → Stats (parted c) zs r q → Stats false zs m q)

  absorb_is : (d : Held) (a : List Token) → Pending d → Gives absorb d a (Behind false (d ++ a))
  unfolding absorb
  absorb_is d a none_held = same_as {q = absorb} {p = pure true} {c = []} {b = a} refl (give true (refl, refl, λ zs q m. m))
  absorb_is d a (semi_held {t = t} i) = same_as {q = absorb} {p = pure false} {c = []} {b = a} refl (give false (refl, refl, λ zs q m. after false t a zs q (ap separates i) m))
  absorb_is d a (line_held {t = t} i) = same_as {q = absorb} {p = pure false} {c = []} {b = a} refl (give false (refl, refl, λ zs q m. after false t a zs q (ap separates i) m))
  absorb_is d a (lines_held {t = t} {u = u} i j) = same_as {q = absorb} {p = pure false} {c = []} {b = a} refl (give false (refl, refl, λ zs q m. after false t (u ∷ a) zs q (ap separates i) (after true u a zs q (ap separates j) m)))

  no_brace_is : (a : List Token) → Gives no_brace [] a (Clean (λ _ r. (r ≡ a) × (same see.OpenBrace (ahead a) ≡ false)))
  unfolding no_brace
  no_brace_is a = either (λ e o. same see.OpenBrace o) (λ _. stopped (stop false a) refl) (λ h. give tt (record { none = refl; is = (refl, h) }))

  line_passed : (a b : List Token) (s : Span) → IsWord see.Newline s a b → (r : List Token) → r ≡ b → same see.OpenBrace (ahead b) ≡ false → Behind true a false [] r
  line_passed a b s (phrase.token {t = t} i) r j k = (
    refl,
    rw (line_word t s i) k,
    λ zs q m. after false t b zs q (line_separates (sort t) (line_word t s i)) (subst (λ (z : List Token). Stats true zs z q) j m),
  )

  bare_line_is : (a : List Token) → Gives bare_line [] a (Behind true a)
  unfolding bare_line
  bare_line_is a = upon (marked see.Newline [] a) (λ s b h. upon (no_brace_is b) (λ _ r k. give false (line_passed a b s h r k.0 k.1)))

  behind_bare_is : (d : Held) (a : List Token) → Pending d → Gives (behind_bare (waits d)) [] a (Behind true (d ++ a))
  behind_bare_is d a none_held = either (λ e o. nothing e && same see.Newline o) (λ _. bare_line_is a) (λ h. let i : same see.Newline (ahead a) ≡ false = h in give true (refl, rw i refl, λ zs q m. m))
  behind_bare_is d a (semi_held {t = t} i) = same_as {q = behind_bare (waits (t ∷ []))} {p = pure false} {c = []} {b = a} (ap (λ (o : Ahead). behind_bare (if same see.Newline o then waiting.Line else waiting.More) ([], a)) i) (give false (refl, rw i refl, λ zs q m. after false t a zs q (ap separates i) m))
  behind_bare_is d a (line_held {t = t} i) = same_as {q = behind_bare (waits (t ∷ []))} {p = no_brace >> pure false} {c = []} {b = a} (ap (λ (o : Ahead). behind_bare (if same see.Newline o then waiting.Line else waiting.More) ([], a)) i)
      (upon (no_brace_is a) (λ _ r k. give false (refl, rw i k.1, λ zs q m. after false t a zs q (ap separates i) (subst (λ (z : List Token). Stats true zs z q) k.0 m))))
  behind_bare_is d a (lines_held {t = t} {u = u} i j) = give false (refl, rw i (rw j refl), λ zs q m. after false t (u ∷ a) zs q (ap separates i) (after true u a zs q (ap separates j) m))

  behind_item_is : (bare : Bool) (d : Held) (a : List Token) → Pending d → Gives (behind_item bare) d a (Behind bare (d ++ a))
  unfolding behind_new
  behind_item_is false d a k = absorb_is d a k
  behind_item_is true d a k = settled _ (behind_bare_is d a k)

  -- ---- blocks

  -- an item: a separator, or a statement and whether nothing was held behind it
  abbrev parted_by : Option (Stat × Bool) → Bool
  parted_by None = true
  parted_by (Some x) = parted x.1

  abbrev found : Option (Stat × Bool) → List Stat
  found None = []
  found (Some x) = x.0 ∷ []

  abbrev ItemIs : List Token → Option (Stat × Bool) → Held → List Token → Type 0
  ItemIs a y e r = (e ≡ []) × ((b : Bool) (zs : List Stat) (q : List Token) → (separates (ahead a) || (b && begins_stat (ahead a))) ≡ true → Stats (parted_by y) zs r q → Stats b (found y ++ zs) a q)

  apart_is : (a : List Token) → Gives (apart exprs patterns) [] a (ItemIs a)
  unfolding apart
  apart_is a = upon (separator_is [] a) (λ u b h. give None (refl, λ v zs q k m. phrase.separated h m))

  must_part : (s b o : Bool) → s ≡ false → (s || (b && o)) ≡ true → b ≡ true
  must_part true b o i k = absurd cc
  must_part false true o i k = refl
  must_part false false o i k = absurd cc

  stat_item_is : (a : List Token) → separates (ahead a) ≡ false → Gives (stat_item exprs patterns) [] a (ItemIs a)
  unfolding stat_item
  stat_item_is a free = next (stat_is [] a) (λ x e b h. next (behind_item_is (stat_ends_in_new x) e b h.held) (λ c e2 r k. give (Some (x, c)) (k.0, λ v zs q g m. subst (λ (z : Bool). Stats z (x ∷ zs) a q) (sym (must_part (separates (ahead a)) v (begins_stat (ahead a)) free g)) (phrase.item h.is k.1 (k.2 zs q m)))))

  block_item_is : (a : List Token) → Gives (block_item exprs patterns) [] a (ItemIs a)
  unfolding block_item
  block_item_is a = either (λ e o. separates o) (λ _. apart_is a) (λ h. stat_item_is a h)

  module _ (m : List Token) where
    abbrev StatsSo : Bool × List Stat → Held → List Token → Type 0
    StatsSo w d a = (d ≡ []) × ((zs : List Stat) (q : List Token) → Stats w.0 zs a q → Stats true (w.1 ++ zs) m q)

    stats_add : (b : Bool) (xs : List Stat) (a : List Token) → StatsSo (b, xs) [] a → (separates (ahead a) || (b && begins_stat (ahead a))) ≡ true → (y : Option (Stat × Bool)) (e : Held) (r : List Token) → ItemIs a y e r → StatsSo (add_item (b, xs) y) e r
    stats_add b xs a inv g None e r k = (k.0, λ zs q i. inv.1 zs q (k.1 b zs q g i))
    stats_add b xs a inv g (Some (x, true)) e r k = (k.0, λ zs q i. subst (λ (z : List Stat). Stats true z m q) (sym (append_assoc xs (x ∷ []) zs)) (inv.1 (x ∷ zs) q (k.1 b zs q g i)))
    stats_add b xs a inv g (Some (x, false)) e r k = (k.0, λ zs q i. subst (λ (z : List Stat). Stats true z m q) (sym (append_assoc xs (x ∷ []) zs)) (inv.1 (x ∷ zs) q (k.1 b zs q g i)))

    stats_step : (w : Bool × List Stat) (d : Held) (a : List Token) → StatsSo w d a → clean (at_item begins_stat) w (ahead a) d ≡ true → Gives (block_item exprs patterns) d a (λ y e r. StatsSo (add_item w y) e r)
    stats_step w [] a inv h = weaker (block_item_is a) (λ y e r k. stats_add w.0 w.1 a inv h y e r k)
    stats_step w (t ∷ d) a inv h = absurd cc

    stats_done : (w : Bool × List Stat) (d : Held) (a : List Token) → StatsSo w d a → clean (at_item begins_stat) w (ahead a) d ≡ false → Clean (λ w r. Stats true w.1 m r) w d a
    stats_done w [] a inv h = record { none = refl; is = subst (λ (z : List Stat). Stats true z m a) (append-nil w.1) (inv.1 [] a (phrase.ended h)) }
    stats_done w (t ∷ d) a inv h = absurd (let i = inv.0 in cc)

  stats_is : (a : List Token) → Gives (stats exprs patterns) [] a (Clean (λ w r. Stats true w.1 a r))
  unfolding stats
  stats_is a = loop (at_item begins_stat) (block_item exprs patterns) add_item item_none ok.items.item (StatsSo a) (Clean (λ w r. Stats true w.1 a r)) (stats_step a) (stats_done a) (true, []) [] a (refl, λ zs q k. k)

  block_is : (a : List Token) → Gives (block exprs patterns) [] a (Clean (λ x r. IsBlock E Q x a r))
  unfolding block
  block_is a = absorbed (map_clean _ (stats_is a) (λ w r k. grammar.block k))

  braces_is : (d : Held) (a : List Token) → Gives (braces exprs patterns) d a (Clean (λ x r. IsBraces E Q x.0 x.1 (d ++ a) r))
  unfolding braces
  braces_is d a = upon (marked see.OpenBrace d a) (λ s b h. upon (block_is b) (λ x c k. map_clean _ (marked see.CloseBrace [] c) (λ t r w. grammar.braces h k w)))

  -- ---- simple expressions

  literal_start_is : (d : Held) (a : List Token) → Gives (literal_start exprs patterns) d a (Clean (λ x r. IsHead E Q x.0 x.1 (d ++ a) r))
  unfolding literal_start
  literal_start_is d a = map_clean _ (literal_is d a) (λ x r k. grammar.by_literal k)

  name_start_is : (d : Held) (a : List Token) → Gives (name_start exprs patterns) d a (Clean (λ x r. IsHead E Q x.0 x.1 (d ++ a) r))
  unfolding name_start
  name_start_is d a = map_clean _ (name_is d a) (λ x r k. grammar.by_name k)

  this_start_is : (d : Held) (a : List Token) → Gives (this_start exprs patterns) d a (Clean (λ x r. IsHead E Q x.0 x.1 (d ++ a) r))
  unfolding this_start
  this_start_is d a = map_clean _ (marked see.This d a) (λ s r w. grammar.this w)

  super_start_is : (d : Held) (a : List Token) → Gives (super_start exprs patterns) d a (Clean (λ x r. IsHead E Q x.0 x.1 (d ++ a) r))
  unfolding super_start
  super_start_is d a = upon (marked see.Super d a) (λ s b h. upon (marked see.Dot [] b) (λ t c i. map_clean _ (name_is [] c) (λ x r k. grammar.«super» h i k)))

  new_args_is : (d : Held) (a : List Token) → Gives (new_args exprs patterns) d a (Clean (λ p r. IsOption (same see.OpenParen) (IsParArgs E Q) p (d ++ a) r))
  unfolding new_args
  new_args_is d a = map_clean _ (par_args_is d a) (λ x r k. phrase.present k)

  new_start_is : (d : Held) (a : List Token) → Gives (new_start exprs patterns) d a (Clean (λ x r. IsHead E Q x.0 x.1 (d ++ a) r))
  unfolding new_start
  new_start_is d a = upon (marked see.New d a) (λ s b h. upon (name_is [] b) (λ x c i. map_clean _ (perhaps_clean (same see.OpenParen) None (new_args_is [] c) (λ k. phrase.absent k)) (λ p r k. grammar.new h i k)))

  nothing_inside_is : (d : Held) (a : List Token) (R : Option Expr × Span → List Token → Type 0) → ((t : Span) (r : List Token) → IsWord see.CloseParen t (d ++ a) r → R (None, t) r) → Gives (nothing_inside exprs patterns) d a (Clean R)
  unfolding nothing_inside
  nothing_inside_is d a R f = map_clean _ (marked see.CloseParen d a) f

  expr_inside_is : (d : Held) (a : List Token) (R : Option Expr × Span → List Token → Type 0) → ((x : Expr) (t : Span) (c r : List Token) → E x (d ++ a) c → IsWord see.CloseParen t c r → R (Some x, t) r) → Gives (expr_inside exprs patterns) d a (Clean R)
  unfolding expr_inside
  expr_inside_is d a R f = next (ok.is d a) (λ x e c k. map_clean _ (marked see.CloseParen e c) (λ t r w. f x t (e ++ c) r k.is w))

  parens_start_is : (d : Held) (a : List Token) → Gives (parens_start exprs patterns) d a (Clean (λ x r. IsHead E Q x.0 x.1 (d ++ a) r))
  unfolding parens_start
  parens_start_is d a = upon (marked see.OpenParen d a) (λ s b h. map_clean _ (both (same see.CloseParen)
      (nothing_inside_is [] b (λ x r. IsHead E Q (parens_tree s x.0 x.1) true (d ++ a) r) (λ t r w. grammar.unit h w))
      (expr_inside_is [] b (λ x r. IsHead E Q (parens_tree s x.0 x.1) true (d ++ a) r) (λ x t c r k w. grammar.parens h k w))) (λ x r k. k))

  block_start_is : (d : Held) (a : List Token) → Gives (block_start exprs patterns) d a (Clean (λ x r. IsHead E Q x.0 x.1 (d ++ a) r))
  unfolding block_start
  block_start_is d a = map_clean _ (braces_is d a) (λ x r k. grammar.by_block k)

  start_is : (d : Held) (a : List Token) → Gives (start exprs patterns) d a (Clean (λ x r. IsHead E Q x.0 x.1 (d ++ a) r))
  unfolding start
  start_is d a = both (same see.Literal) (literal_start_is d a) (both (same see.Id) (name_start_is d a) (both (same see.This) (this_start_is d a) (both (same see.Super) (super_start_is d a) (both (same see.New) (new_start_is d a) (both (same see.OpenParen) (parens_start_is d a) (block_start_is d a))))))

  -- ---- suffixes

  abbrev Suffixes : Bool → List Suffix → List Token → List Token → Type 0
  Suffixes = IsSuffixes E Q

  -- a suffix stands where the chain goes on; without one what follows begins none
  abbrev SuffixIs : List Token → Option Suffix → Held → List Token → Type 0
  SuffixIs a None e r = Pending e × (e ++ r ≡ a) × ((all : Bool) → goes_chain (first_chain all) (ahead a) ≡ true → suffix_follows all a ≡ false)
  SuffixIs a (Some x) e r = (e ≡ []) × ((all : Bool) → goes_chain (first_chain all) (ahead a) ≡ true → (xs : List Suffix) (q : List Token) → Suffixes true xs r q → Suffixes all (x ∷ xs) a q)

  selection_is : (a : List Token) → Gives (selection exprs patterns) [] a (SuffixIs a)
  unfolding selection
  selection_is a = upon (marked see.Dot [] a) (λ s b h. next (name_is [] b) (λ x e r k. give (Some (select x)) (k.none, λ all g xs q m. grammar.selection h k.is m)))

  -- where no dot is all suffixes may follow
  all_may : (all : Bool) (o : Ahead) → same see.Dot o ≡ false → goes_chain (first_chain all) o ≡ true → all ≡ true
  all_may true o i k = refl
  all_may false o i k = absurd (let j : false ≡ true = sym i ∙ k in cc)

  call_is : (a : List Token) → same see.Dot (ahead a) ≡ false → Gives (call exprs patterns) [] a (SuffixIs a)
  unfolding call
  call_is a free = next (par_args_is [] a) (λ x e r k. give (Some (apply x)) (k.none, λ all g xs q m. subst (λ (z : Bool). Suffixes z (apply x ∷ xs) a q) (sym (all_may all (ahead a) free g)) (grammar.call k.is m)))

  block_call_is : (a : List Token) → same see.Dot (ahead a) ≡ false → (d : Held) (b : List Token) → IsLine a (d ++ b) → Gives (block_call exprs patterns) d b (SuffixIs a)
  unfolding block_call
  block_call_is a free d b line = next (braces_is d b) (λ x e r k. give (Some (apply_block x.0 x.1)) (k.none, λ all g xs q m. subst (λ (z : Bool). Suffixes z (apply_block x.0 x.1 ∷ xs) a q) (sym (all_may all (ahead a) free g)) (grammar.block_call line k.is m)))

  line_token : (t : Token) → same see.Newline (sort t) ≡ true → sort t ≡ see.Newline
  line_token t h = by (sort t) h
    where
      by : (o : Ahead) → same see.Newline o ≡ true → o ≡ see.Newline
      by see.Newline h = refl
      by o h = absurd cc

  behind_line_is : (t : Token) (b : List Token) → sort t ≡ see.Newline → Gives (behind_line exprs patterns) (t ∷ []) b (SuffixIs (t ∷ b))
  unfolding behind_line
  behind_line_is t b i = either (λ e o. same see.OpenBrace o)
      (λ h. absorbed (block_call_is (t ∷ b) (ap (λ (o : Ahead). same see.Dot o) i) [] b (phrase.one_nl {s = t.span} (phrase.token (rw i refl)))))
      (λ h. give None (line_held i, refl, λ all g. none all h))
    where
      none : (all : Bool) → same see.OpenBrace (ahead b) ≡ false → suffix_follows all (t ∷ b) ≡ false
      none true h = rw i (rw h refl)
      none false h = rw i refl

  line_call_is : (a : List Token) → same see.Dot (ahead a) ≡ false → Gives (line_call exprs patterns) [] a (SuffixIs a)
  unfolding line_call
  line_call_is [] free = stopped (stop false []) refl
  line_call_is (t ∷ b) free = looked (λ o _. if same see.Newline o then hold (behind_line exprs patterns) else stuck) (branch_by (same see.Newline (sort t)) (λ h. holding (behind_line_is t b (line_token t h))) (λ h. stopped (stop false (t ∷ b)) refl))

  suffix_is : (a : List Token) → Gives (suffix exprs patterns) [] a (SuffixIs a)
  unfolding suffix
  suffix_is a = either (λ e o. same see.Dot o) (λ _. selection_is a) (λ free. both (same see.OpenParen) (call_is a free) (both (same see.OpenBrace) (block_call_is a free [] a phrase.no_nl) (line_call_is a free)))

  module _ (whole : Bool) (m : List Token) where
    abbrev SuffixesSo : Chain × List Suffix → Held → List Token → Type 0
    SuffixesSo (chain.All, xs) d a = (d ≡ []) × ((zs : List Suffix) (q : List Token) → Suffixes true zs a q → Suffixes whole (xs ++ zs) m q)
    SuffixesSo (chain.Selections, xs) d a = (d ≡ []) × ((zs : List Suffix) (q : List Token) → Suffixes false zs a q → Suffixes whole (xs ++ zs) m q)
    SuffixesSo (chain.Over, xs) d a = Pending d × Suffixes whole xs m (d ++ a)

    suffixes_add : (all : Bool) (xs : List Suffix) (a : List Token) → ((zs : List Suffix) (q : List Token) → Suffixes all zs a q → Suffixes whole (xs ++ zs) m q) → goes_chain (first_chain all) (ahead a) ≡ true
        → (y : Option Suffix) (e : Held) (r : List Token) → SuffixIs a y e r → SuffixesSo (add_suffix (first_chain all, xs) y) e r
    suffixes_add all xs a inv g (Some x) e r k = (k.0, λ zs q i. subst (λ (z : List Suffix). Suffixes whole z m q) (sym (append_assoc xs (x ∷ []) zs)) (inv (x ∷ zs) q (k.1 all g zs q i)))
    suffixes_add all xs a inv g None e r k = (k.0, subst (λ (z : List Token). Suffixes whole xs m z) (sym k.1) (subst (λ (z : List Suffix). Suffixes whole z m a) (append-nil xs) (inv [] a (grammar.no_suffix (k.2 all g)))))

    suffixes_step : (w : Chain × List Suffix) (d : Held) (a : List Token) → SuffixesSo w d a → clean at_suffix w (ahead a) d ≡ true → Gives (suffix exprs patterns) d a (λ y e r. SuffixesSo (add_suffix w y) e r)
    suffixes_step (chain.All, xs) [] a inv h = weaker (suffix_is a) (λ y e r k. suffixes_add true xs a inv.1 h y e r k)
    suffixes_step (chain.Selections, xs) [] a inv h = weaker (suffix_is a) (λ y e r k. suffixes_add false xs a inv.1 h y e r k)
    suffixes_step (chain.Over, xs) [] a inv h = absurd cc
    suffixes_step w (t ∷ d) a inv h = absurd cc

    no_more_suffix : (all : Bool) (a : List Token) → goes_chain (first_chain all) (ahead a) ≡ false → suffix_follows all a ≡ false
    no_more_suffix false a h = let i : same see.Dot (ahead a) ≡ false = h in rw i refl
    no_more_suffix true a h = by (ahead a) (same see.OpenBrace (ahead (rest a))) h
      where
        by : (o : Ahead) (v : Bool) → goes_chain chain.All o ≡ false → (same see.Dot o || (true && (same see.OpenParen o || same see.OpenBrace o || (same see.Newline o && v)))) ≡ false
        by see.Dot v h = absurd cc
        by see.OpenParen v h = absurd cc
        by see.OpenBrace v h = absurd cc
        by see.Newline v h = absurd cc
        by o v h = refl

    suffixes_done : (w : Chain × List Suffix) (d : Held) (a : List Token) → SuffixesSo w d a → clean at_suffix w (ahead a) d ≡ false → Loose (λ w r. Suffixes whole w.1 m r) w d a
    suffixes_done (chain.All, xs) [] a inv h = record { held = none_held; is = subst (λ (z : List Suffix). Suffixes whole z m a) (append-nil xs) (inv.1 [] a (grammar.no_suffix (no_more_suffix true a h))) }
    suffixes_done (chain.Selections, xs) [] a inv h = record { held = none_held; is = subst (λ (z : List Suffix). Suffixes whole z m a) (append-nil xs) (inv.1 [] a (grammar.no_suffix (no_more_suffix false a h))) }
    suffixes_done (chain.Over, xs) d a inv h = record { held = inv.0; is = inv.1 }
    suffixes_done (chain.All, xs) (t ∷ d) a inv h = absurd (let i = inv.0 in cc)
    suffixes_done (chain.Selections, xs) (t ∷ d) a inv h = absurd (let i = inv.0 in cc)

  suffixes_is : (all : Bool) (a : List Token) → Gives (suffixes exprs patterns all) [] a (Loose (λ w r. Suffixes all w.1 a r))
  unfolding suffixes
  suffixes_is all a = loop at_suffix (suffix exprs patterns) add_suffix suffix_none ok.items.suffixed (SuffixesSo all a) (Loose (λ w r. Suffixes all w.1 a r)) (suffixes_step all a) (suffixes_done all a) (first_chain all, []) [] a (begin all)
    where
      begin : (all : Bool) → SuffixesSo all a (first_chain all, []) [] a
      begin true = (refl, λ zs q k. k)
      begin false = (refl, λ zs q k. k)

  simple_is : (d : Held) (a : List Token) → Gives (simple exprs patterns) d a (Loose (λ x r. IsSimple E Q x (d ++ a) r))
  unfolding simple
  simple_is d a = upon (start_is d a) (λ x b h. map_loose _ (suffixes_is x.1 b) (λ w r k. grammar.simple h k))

  -- ---- operators

  signed_is : (d : Held) (a : List Token) → Gives (signed exprs patterns) d a (Loose (λ x r. IsPrefix E Q x (d ++ a) r))
  unfolding signed
  signed_is d a = upon (sign_is d a) (λ g b h. map_loose _ (simple_is [] b) (λ x r k. grammar.signed h k))

  unsigned_is : (d : Held) (a : List Token) → Gives (unsigned exprs patterns) d a (Loose (λ x r. IsPrefix E Q x (d ++ a) r))
  unfolding unsigned
  unsigned_is d a = map_loose _ (simple_is d a) (λ x r k. grammar.unsigned k)

  prefix_is : (d : Held) (a : List Token) → Gives (prefix exprs patterns) d a (Loose (λ x r. IsPrefix E Q x (d ++ a) r))
  unfolding prefix
  prefix_is d a = both begins_sign (signed_is d a) (unsigned_is d a)

  abbrev Operations : List Operation → List Token → List Token → Type 0
  Operations = IsOperations E Q

  operand_is : (a : List Token) (R : Prefix → List Token → Type 0) → ((x : Prefix) (b r : List Token) → IsLine a b → IsPrefix E Q x b r → R x r) → Gives (operand exprs patterns) [] a (Loose R)
  unfolding operand line_operand
  operand_is a R f = both (same see.Newline) (upon (marked see.Newline [] a) (λ s b h. as_loose (prefix_is [] b) (λ x r k. f x b r (phrase.one_nl h) k))) (as_loose (prefix_is [] a) (λ x r k. f x a r phrase.no_nl k))

  -- one more operation before those that are read behind it
  abbrev OneOperation : Operation → List Token → List Token → Type 0
  OneOperation y a r = (ys : List Operation) (q : List Token) → Operations ys r q → Operations (y ∷ ys) a q

  operation_is : (d : Held) (a : List Token) → Gives (operation exprs patterns) d a (Loose (λ y r. OneOperation y (d ++ a) r))
  unfolding operation
  operation_is d a = upon (operator_is d a) (λ o b h. map_loose _ (operand_is b (λ x r. OneOperation (operation_tree o x) (d ++ a) r) (λ x c r i k ys q m. grammar.operation h i k m)) (λ x r k. k))

  infix_is : (d : Held) (a : List Token) → Gives (infix_expr exprs patterns) d a (Loose (λ x r. IsInfix E Q x (d ++ a) r))
  unfolding infix_expr operations
  infix_is d a = next (prefix_is d a) (λ x e b h. map_loose _ (listing is_operator (operation exprs patterns) refl refl refl ok.items.operated OneOperation Operations
      (λ ys r. IsInfix E Q (infix_tree x ys) (d ++ a) r) (λ r m. grammar.no_operation m) (λ y ys a b r k m. k ys r m) operation_is [] e b (h.held, λ zs r m. grammar.«infix» h.is m)) (λ ys r k. k))

  -- ---- cases

  guarded_is : (d : Held) (a : List Token) → Gives (guarded exprs patterns) d a (Loose (λ x r. IsOption (same see.If) (IsGuard E Q) x (d ++ a) r))
  unfolding guarded
  guarded_is d a = upon (marked see.If d a) (λ s b h. map_loose _ (infix_is [] b) (λ x r k. phrase.present (grammar.guard h k)))

  case_is : (d : Held) (a : List Token) → Gives (case_reader exprs patterns) d a (Clean (λ x r. IsCase E Q x (d ++ a) r))
  unfolding case_reader
  case_is d a = upon (marked see.Case d a) (λ s b h. next (ok.inside.is [] b) (λ p e c i. next (perhaps (same see.If) None i.held refl refl (guarded_is e c) (λ k. phrase.absent k)) (λ g e2 c2 j. upon (marked see.Arrow e2 c2) (λ t c3 w. map_clean _ (block_is c3) (λ x r k. grammar.«case» h i.is j.is w k)))))

  cases_is : (d : Held) (a : List Token) → Gives (cases exprs patterns) d a (Clean (λ c r. IsCases E Q c.0 c.1 (d ++ a) r))
  unfolding cases more_cases
  cases_is d a = upon (marked see.OpenBrace d a) (λ s0 b h. upon (case_is [] b) (λ x c i. next (listing (same see.Case) (case_reader exprs patterns) refl refl refl ok.items.a_case (IsCase E Q) (IsMoreCases E Q)
      (λ ys q. (s : Span) (r : List Token) → IsWord see.CloseBrace s q r → IsCases E Q (cases_tree x ys) s (d ++ a) r) (λ r m. grammar.no_case m) (λ y ys a b r k m. grammar.a_case k m) (λ e q. looser (case_is e q)) [] [] c (none_held, λ zs q m s r w. grammar.cases h i m w))
      (λ ys e q k. map_clean _ (marked see.CloseBrace e q) (λ s r w. k.is s r w))))

  -- ---- else

  abbrev OtherIs : List Token → Option Expr → List Token → Type 0
  OtherIs m y r = IsOther E Q y m r

  with_else_is : (d : Held) (a m : List Token) → IsSemi m a → Gives (with_else exprs patterns) d a (Loose (OtherIs m))
  unfolding with_else
  with_else_is d a m i = absorbed (upon (marked see.Else [] a) (λ s b h. map_loose _ (ok.is [] b) (λ x r k. grammar.an_else i h k)))

  else_or : (q : Reader (Option Expr)) (d : Held) (a : List Token) → IsSemi (d ++ a) a → (same see.Else (ahead a) ≡ false → Gives q d a (Loose (OtherIs (d ++ a)))) → Gives (if same see.Else (ahead a) then with_else exprs patterns else q) d a (Loose (OtherIs (d ++ a)))
  else_or q d a i f = branch_by (same see.Else (ahead a)) (λ _. with_else_is d a (d ++ a) i) f

  no_other : (d : Held) (a : List Token) → Pending d → else_follows (d ++ a) ≡ false → Gives (pure None) d a (Loose (OtherIs (d ++ a)))
  no_other d a k h = give None (record { held = k; is = grammar.no_else h })

  semi_at : (t : Token) (b : List Token) → sort t ≡ see.Semicolon → IsSemi (t ∷ b) b
  semi_at t b i = phrase.semicolon {s = t.span} (phrase.token (rw i refl))

  line_at : (t : Token) (b : List Token) → sort t ≡ see.Newline → IsSemi (t ∷ b) b
  line_at t b i = phrase.one_line {s = t.span} (phrase.token (rw i refl))

  lines_at : (t u : Token) (b : List Token) → sort t ≡ see.Newline → sort u ≡ see.Newline → IsSemi (t ∷ u ∷ b) b
  lines_at t u b i j = phrase.two_lines {s = t.span} {t = u.span} (phrase.token (rw i refl)) (phrase.token (rw j refl))

  third_is : (d : Held) (b : List Token) → Pending d → IsSemi (d ++ b) b → (same see.Else (ahead b) ≡ false → else_follows (d ++ b) ≡ false) → Gives (third exprs patterns) d b (Loose (OtherIs (d ++ b)))
  unfolding third
  third_is d b k i f = looked (third_by exprs patterns) (else_or (pure None) d b i (λ h. no_other d b k (f h)))

  behind_semi : (t : Token) (b : List Token) → sort t ≡ see.Semicolon → Gives (third exprs patterns) (t ∷ []) b (Loose (OtherIs (t ∷ b)))
  behind_semi t b i = third_is (t ∷ []) b (semi_held i) (semi_at t b i) (λ h. rw i (rw h refl))

  behind_lines : (t u : Token) (b : List Token) → sort t ≡ see.Newline → sort u ≡ see.Newline → Gives (third exprs patterns) (t ∷ u ∷ []) b (Loose (OtherIs (t ∷ u ∷ b)))
  behind_lines t u b i j = third_is (t ∷ u ∷ []) b (lines_held i j) (lines_at t u b i j) (λ h. rw i (rw j (rw h refl)))

  -- a second line end, or none
  more_lines : (t : Token) (b : List Token) → sort t ≡ see.Newline → same see.Else (ahead b) ≡ false → Gives (if same see.Newline (ahead b) then hold (third exprs patterns) else pure None) (t ∷ []) b (Loose (OtherIs (t ∷ b)))
  more_lines t [] i k = no_other (t ∷ []) [] (line_held i) (rw i refl)
  more_lines t (u ∷ b) i k = branch_by (same see.Newline (sort u)) (λ h. holding (behind_lines t u b i (line_token u h))) (λ h. no_other (t ∷ []) (u ∷ b) (line_held i) (rw i (rw k (rw h refl))))

  behind_one : (t : Token) (b : List Token) → sort t ≡ see.Newline → Gives (second exprs patterns) (t ∷ []) b (Loose (OtherIs (t ∷ b)))
  unfolding second
  behind_one t b i = looked (second_by exprs patterns) (else_or (if same see.Newline (ahead b) then hold (third exprs patterns) else pure None) (t ∷ []) b (line_at t b i) (λ k. more_lines t b i k))

  semi_token : (o : Ahead) → same see.Semicolon o ≡ true → o ≡ see.Semicolon
  semi_token see.Semicolon h = refl
  semi_token o h = absurd cc

  abbrev by_waiting : Waiting → Ahead → Reader (Option Expr)
  by_waiting w o = if semi_from w o then hold (third exprs patterns) else if line_from w o then hold (second exprs patterns) else pure None

  nothing_waits : (a : List Token) → same see.Else (ahead a) ≡ false → Gives (by_waiting waiting.Nothing (ahead a)) [] a (Loose (OtherIs a))
  nothing_waits [] k = no_other [] [] none_held refl
  nothing_waits (t ∷ b) k = branch_by (same see.Semicolon (sort t)) (λ h. holding (behind_semi t b (semi_token (sort t) h))) (λ h. branch_by (same see.Newline (sort t)) (λ l. holding (behind_one t b (line_token t l))) (λ l. no_other [] (t ∷ b) none_held (rw k (rw h (rw l refl)))))

  other_from : (d : Held) (a : List Token) → Pending d → same see.Else (ahead a) ≡ false → Gives (by_waiting (waits d) (ahead a)) d a (Loose (OtherIs (d ++ a)))
  other_from d a none_held k = nothing_waits a k
  other_from d a (semi_held {t = t} i) k = same_as {q = by_waiting (waits (t ∷ [])) (ahead a)} {p = by_waiting waiting.More (ahead a)} {c = t ∷ []} {b = a} (ap (λ (o : Ahead). by_waiting (if same see.Newline o then waiting.Line else waiting.More) (ahead a) (t ∷ [], a)) i) (no_other (t ∷ []) a (semi_held i) (rw i (rw k refl)))
  other_from d a (line_held {t = t} i) k = same_as {q = by_waiting (waits (t ∷ [])) (ahead a)} {p = by_waiting waiting.Line (ahead a)} {c = t ∷ []} {b = a} (ap (λ (o : Ahead). by_waiting (if same see.Newline o then waiting.Line else waiting.More) (ahead a) (t ∷ [], a)) i) (more_lines t a i k)
  other_from d a (lines_held {t = t} {u = u} i j) k = no_other (t ∷ u ∷ []) a (lines_held i j) (rw i (rw j (rw k refl)))

  semi_before : (d : Held) (a : List Token) → Pending d → IsSemi (d ++ a) a
  semi_before d a none_held = phrase.no_semi
  semi_before d a (semi_held {t = t} i) = semi_at t a i
  semi_before d a (line_held {t = t} i) = line_at t a i
  semi_before d a (lines_held {t = t} {u = u} i j) = lines_at t u a i j

  other_is : (d : Held) (a : List Token) → Pending d → Gives (other exprs patterns) d a (Loose (OtherIs (d ++ a)))
  unfolding other
  other_is d a k = looked (other_by exprs patterns) (else_or (by_waiting (waits d) (ahead a)) d a (semi_before d a k) (λ h. other_from d a k h))

  -- ---- expressions

  condition_is : (d : Held) (a : List Token) → Gives (condition exprs patterns) d a (Clean (λ c r. IsCondition E Q c (d ++ a) r))
  unfolding condition
  condition_is d a = upon (marked see.OpenParen d a) (λ s b h. next (ok.is [] b) (λ c e c1 i. upon (marked see.CloseParen e c1) (λ t c2 w. map_clean _ (lines_is c2) (λ _ r k. grammar.condition h i.is w k))))

  if_is : (d : Held) (a : List Token) → Gives (if_expr exprs patterns) d a (Loose (λ x r. IsAnyExpr E Q x (d ++ a) r))
  unfolding if_expr
  if_is d a = upon (marked see.If d a) (λ s b h. upon (condition_is [] b) (λ c c1 i. next (ok.is [] c1) (λ x e c2 j. map_loose _ (other_is e c2 j.held) (λ y r k. grammar.«if» h i j.is k))))

  while_is : (d : Held) (a : List Token) → Gives (while_expr exprs patterns) d a (Loose (λ x r. IsAnyExpr E Q x (d ++ a) r))
  unfolding while_expr
  while_is d a = upon (marked see.While d a) (λ s b h. upon (condition_is [] b) (λ c c1 i. map_loose _ (ok.is [] c1) (λ x r k. grammar.while h i k)))

  handler_is : (d : Held) (a : List Token) → Gives (handler exprs patterns) d a (Clean (λ c r. IsOption (same see.Catch) (IsHandler E Q) c (d ++ a) r))
  unfolding handler
  handler_is d a = upon (marked see.Catch d a) (λ s b h. map_clean _ (cases_is [] b) (λ c r k. phrase.present (grammar.handler h k)))

  finalizer_is : (d : Held) (a : List Token) → Gives (finalizer exprs patterns) d a (Loose (λ f r. IsOption (same see.Finally) (IsFinalizer E Q) f (d ++ a) r))
  unfolding finalizer
  finalizer_is d a = upon (marked see.Finally d a) (λ s b h. map_loose _ (ok.is [] b) (λ x r k. phrase.present (grammar.finalizer h k)))

  try_is : (d : Held) (a : List Token) → Gives (try_expr exprs patterns) d a (Loose (λ x r. IsAnyExpr E Q x (d ++ a) r))
  unfolding try_expr
  try_is d a = upon (marked see.Try d a) (λ s b h. next (ok.is [] b) (λ x e c i. next (perhaps (same see.Catch) None i.held refl refl (looser (handler_is e c)) (λ k. phrase.absent k)) (λ g e2 c2 j. map_loose _ (perhaps (same see.Finally) None j.held refl refl (finalizer_is e2 c2) (λ k. phrase.absent k)) (λ f r m. grammar.try h i.is j.is m))))

  throw_is : (d : Held) (a : List Token) → Gives (throw_expr exprs patterns) d a (Loose (λ x r. IsAnyExpr E Q x (d ++ a) r))
  unfolding throw_expr
  throw_is d a = upon (marked see.Throw d a) (λ s b h. map_loose _ (ok.is [] b) (λ x r k. grammar.throw h k))

  match_is : (i : Infix) (d : Held) (a m : List Token) → IsInfix E Q i m (d ++ a) → Gives (match_behind exprs patterns i) d a (Loose (λ x r. IsAnyExpr E Q x m r))
  unfolding match_behind
  match_is i d a m k = looser (upon (marked see.Match d a) (λ s b h. map_clean _ (cases_is [] b) (λ c r w. grammar.match k h w)))

  assign_is : (i : Infix) (d : Held) (a m : List Token) → IsInfix E Q i m (d ++ a) → Gives (assign_behind exprs patterns i) d a (Loose (λ x r. IsAnyExpr E Q x m r))
  unfolding assign_behind
  assign_is i d a m k = upon (marked see.Equals d a) (λ s b h. map_loose _ (ok.is [] b) (λ x r w. grammar.assign k h w))

  plain_is : (d : Held) (a : List Token) → Gives (plain exprs patterns) d a (Loose (λ x r. IsAnyExpr E Q x (d ++ a) r))
  unfolding plain behind_infix
  plain_is d a = next (infix_is d a) (λ i e b h. perhaps at_behind (plain_expr i) h.held refl refl (both (same see.Match) (match_is i e b (d ++ a) h.is) (assign_is i e b (d ++ a) h.is)) (λ k. grammar.plain h.is k))

  pub any_is : (d : Held) (a : List Token) → Gives (any exprs patterns) d a (Loose (λ x r. IsAnyExpr E Q x (d ++ a) r))
  unfolding any
  any_is d a = both (same see.If) (if_is d a) (both (same see.While) (while_is d a) (both (same see.Try) (try_is d a) (both (same see.Throw) (throw_is d a) (plain_is d a))))

pub expr_is : (n : ℕ) (d : Held) (a : List Token) → Gives (expr n) d a (Loose (λ x r. IsExpr n x (d ++ a) r))
unfolding expr too_deep
expr_is zero d a = stopped (stop (begins_expr (ahead a) && nothing d) a) refl
expr_is (suc n) d a = any_is (record { items = expr_items n; is = expr_is n; inside = sound_patterns n }) d a

pub sound_exprs : (n : ℕ) → SoundExprs (expr n) (pattern n) (IsExpr n) (IsPattern n)
sound_exprs n = record { items = expr_items n; is = expr_is n; inside = sound_patterns n }

pub is_derived : (n : ℕ) (st new : State) (result : Result Expr Stopped) → Reads (expr n st) result new → IfOk result (λ x. IsExpr n x (st.0 ++ st.1) (new.0 ++ new.1))
is_derived n st new (Ok x) h = ((expr_is n st.0 st.1).gives x new.0 new.1 h).is
is_derived n st new (Err e) h = tt

pub is_held : (n : ℕ) (st new : State) (result : Result Expr Stopped) → Reads (expr n st) result new → IfOk result (λ _. Pending new.0)
is_held n st new (Ok x) h = ((expr_is n st.0 st.1).gives x new.0 new.1 h).held
is_held n st new (Err e) h = tt
