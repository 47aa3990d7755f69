-- Simple expressions and operators that are in the grammar are read, over the expressions inside.
use Rattle.std.proofs.Common.{◌≡◌, Bool, true, false, List, [], ◌∷◌, ◌++◌, Option, Some, None, refl, sym, ap, ◌∙◌, append_assoc, inl, inr, ◌⊎◌}
use Rattle.std.specs.Prelude.{if◌then◌else◌, ◌&&◌, ◌||◌}
use Rattle.std.proofs.lemmas.List.{append-nil}
use Rattle.sl_text.specs.declared.span.Span.{Span}
use Rattle.sl_ast.specs.declared.token.Token.{Token}
use Rattle.sl_ast.specs.declared.expr.Expr.{Expr}
use Rattle.sl_ast.specs.declared.pattern.Pattern.{Pattern}
use Rattle.sl_ast.specs.declared.infix.Infix.{Infix}
use Rattle.sl_ast.specs.declared.infix.Operation.{Operation}
use Rattle.sl_ast.specs.declared.infix.Prefix.{Prefix}
use Rattle.sl_ast.specs.declared.operator.Operator.{Operator}
use Rattle.sl_ast.specs.declared.ident.Ident.{Ident}
use Rattle.sl_ast.specs.declared.simple.Simple.{Simple}
use Rattle.sl_ast.specs.declared.simple.Head.{Head}
use Rattle.sl_ast.specs.declared.simple.Suffix.{Suffix}
use Rattle.sl_ast.specs.declared.args.ParArgs.{ParArgs}
use Rattle.sl_ast.specs.declared.block.Block.{Block}
use Rattle.sl_parse_expr.specs.declared.ahead.Ahead.{Ahead}
use Rattle.sl_parse_expr.specs.declared.ahead.Ahead.TheVariants as see
use Rattle.sl_parse_expr.specs.declared.chain.Chain.{Chain}
use Rattle.sl_parse_expr.specs.declared.chain.Chain.TheVariants as chain
use Rattle.sl_parse_expr.specs.Ahead.{sort, same}
use Rattle.sl_parse_expr.specs.Starts.{begins_sign, is_operator}
use Rattle.sl_parse_expr.specs.Tokens.{operator_of}
use Rattle.sl_parse_expr.specs.Trees.{select, apply, apply_block, simple_tree, operation_tree}
use Rattle.sl_parse_expr.specs.Reading.{Outcome, State, ◌>>◌, pure, stuck, hold, ahead, nothing, choose, absorb, fold, clean, Reader}
use Rattle.sl_parse_expr.specs.Rules.{added, literal_start, name_start, this_start, super_start, new_args, new_start, nothing_inside, expr_inside, parens_start, block_start, start, selection, call, block_call, behind_line, line_call, suffix, suffixes, first_chain, goes_chain, at_suffix, add_suffix, simple, signed, unsigned, prefix, line_operand, operand, operation, operations, infix_expr}
use Rattle.sl_parse_expr.specs.Phrases.{IsOne, IsWord, IsLine, Pending, none_held, line_held}
use Rattle.sl_parse_expr.specs.Phrases as phrase
use Rattle.sl_parse_expr.specs.Grammar.{IsPattern, IsExpr, IsParArgs, IsBraces, IsHead, IsSuffixes, IsSimple, IsPrefix, IsOperations, IsInfix, suffix_follows}
use Rattle.sl_parse_expr.specs.Grammar as grammar
use Rattle.sl_parse_expr.proofs.Theory.{Held, ok_of, decide, fold_goes, fold_stays}
use Rattle.sl_parse_expr.proofs.Choices.{both_false}
use Rattle.sl_parse_expr.proofs.Begun.{skip}
use Rattle.sl_parse_expr.proofs.Good.{suffix_none}
use Rattle.sl_parse_expr.proofs.Fronts.{front, front_name, front_literal, word_ahead, operator_ahead, sign_ahead}
use Rattle.sl_parse_expr.proofs.ExprFronts.{front_braces, front_simple, front_prefix, no_close, no_sign, no_line_end}
use Rattle.sl_parse_expr.proofs.Reaches.{Reaches, Lands, From, next, next_clean, upon, upon_clean, map, map_clean, map_from, marked, closing, optional_clean, left, right, left_clean, right_clean, stays, goes}
use Rattle.sl_parse_expr.proofs.Complete.{reads_name, reads_operator, reads_sign, reads_literal}
use Rattle.sl_parse_expr.proofs.BlockComplete.{reads_par_args, reads_braces}
use Rattle.sl_parse_expr.proofs.Inside.{CompleteExprs}

-- what goes on where no suffix follows is a line end without a brace behind it
no_goes : (all : Bool) (o p : Ahead) → (same see.Dot o || (all && (same see.OpenParen o || same see.OpenBrace o || (same see.Newline o && same see.OpenBrace p)))) ≡ false → goes_chain (first_chain all) o ≡ true → (all ≡ true) × (o ≡ see.Newline) × (same see.OpenBrace p ≡ false)
no_goes true see.Newline see.OpenBrace h k = absurd cc
no_goes true see.Newline p h k = (refl, refl, refl)
no_goes true see.Dot p h k = absurd cc
no_goes true see.OpenParen p h k = absurd cc
no_goes true see.OpenBrace p h k = absurd cc
no_goes true o p h k = absurd cc
no_goes false see.Dot p h k = absurd cc
no_goes false o p h k = absurd cc

dot_goes : (all : Bool) → goes_chain (first_chain all) see.Dot ≡ true
dot_goes true = refl
dot_goes false = refl

-- ---- the rules, over the expressions inside

module _ {exprs : Reader Expr} {patterns : Reader Pattern} {E : Expr → List Token → List Token → Type 0} {Q : Pattern → List Token → List Token → Type 0} (ok : CompleteExprs exprs patterns E Q) where
  front_args : (x : ParArgs) (a r : List Token) → IsParArgs E Q x a r → same see.OpenParen (ahead a) ≡ true
  front_args x a r (grammar.par_args w k) = front (same see.OpenParen) see.OpenParen true refl w

  reads_new_args : (x : ParArgs) (a r : List Token) → IsParArgs E Q x a r → Lands (new_args exprs patterns) [] a (Some x) r
  unfolding new_args
  reads_new_args x a r h = map_clean _ (reads_par_args ok h)

  reads_head : {x : Head} {all : Bool} {a r : List Token} → IsHead E Q x all a r → Lands (start exprs patterns) [] a (x, all) r
  unfolding start literal_start name_start this_start super_start new_start parens_start nothing_inside expr_inside block_start
  reads_head (grammar.by_literal h) = left_clean _ (same see.Literal) (front_literal (same see.Literal) true refl h) (map_clean _ (reads_literal h))
  reads_head (grammar.by_name h) = right_clean _ (same see.Literal) (front_name (same see.Literal) false refl h) (left_clean _ (same see.Id) (front_name (same see.Id) true refl h) (map_clean _ (reads_name h)))
  reads_head (grammar.this w) = right_clean _ (same see.Literal) (front (same see.Literal) see.This false refl w) (right_clean _ (same see.Id) (front (same see.Id) see.This false refl w) (left_clean _ (same see.This) (front (same see.This) see.This true refl w) (map_clean _ (marked see.This w))))
  reads_head (grammar.«super» w k h) = right_clean _ (same see.Literal) (front (same see.Literal) see.Super false refl w) (right_clean _ (same see.Id) (front (same see.Id) see.Super false refl w) (right_clean _ (same see.This) (front (same see.This) see.Super false refl w) (left_clean _ (same see.Super) (front (same see.Super) see.Super true refl w) (upon_clean _ (marked see.Super w) (upon_clean _ (marked see.Dot k) (map_clean _ (reads_name h)))))))
  reads_head (grammar.new w k h) = right_clean _ (same see.Literal) (front (same see.Literal) see.New false refl w) (right_clean _ (same see.Id) (front (same see.Id) see.New false refl w) (right_clean _ (same see.This) (front (same see.This) see.New false refl w) (right_clean _ (same see.Super) (front (same see.Super) see.New false refl w) (left_clean _ (same see.New) (front (same see.New) see.New true refl w) (upon_clean _ (marked see.New w) (upon_clean _ (reads_name k) (map_clean _ (optional_clean (same see.OpenParen) front_args reads_new_args h))))))))
  reads_head (grammar.unit w k) = right_clean _ (same see.Literal) (front (same see.Literal) see.OpenParen false refl w) (right_clean _ (same see.Id) (front (same see.Id) see.OpenParen false refl w) (right_clean _ (same see.This) (front (same see.This) see.OpenParen false refl w) (right_clean _ (same see.Super) (front (same see.Super) see.OpenParen false refl w) (right_clean _ (same see.New) (front (same see.New) see.OpenParen false refl w) (left_clean _ (same see.OpenParen) (front (same see.OpenParen) see.OpenParen true refl w) (upon_clean _ (marked see.OpenParen w) (map_clean _ (left_clean _ (same see.CloseParen) (front (same see.CloseParen) see.CloseParen true refl k) (map_clean _ (marked see.CloseParen k))))))))))
  reads_head (grammar.parens {e = e} {b = b} {c = c} w h k) = right_clean _ (same see.Literal) (front (same see.Literal) see.OpenParen false refl w) (right_clean _ (same see.Id) (front (same see.Id) see.OpenParen false refl w) (right_clean _ (same see.This) (front (same see.This) see.OpenParen false refl w) (right_clean _ (same see.Super) (front (same see.Super) see.OpenParen false refl w) (right_clean _ (same see.New) (front (same see.New) see.OpenParen false refl w) (left_clean _ (same see.OpenParen) (front (same see.OpenParen) see.OpenParen true refl w) (upon_clean _ (marked see.OpenParen w) (map_clean _ (right_clean _ (same see.CloseParen) (no_close (ahead b) (ok.fronts e b c h)) (next_clean _ (ok.reads e b c h) (closing see.CloseParen refl refl refl k (map_clean _ (marked see.CloseParen k))))))))))))
  reads_head (grammar.by_block h) = right_clean _ (same see.Literal) (front_braces E Q (same see.Literal) false refl h) (right_clean _ (same see.Id) (front_braces E Q (same see.Id) false refl h) (right_clean _ (same see.This) (front_braces E Q (same see.This) false refl h) (right_clean _ (same see.Super) (front_braces E Q (same see.Super) false refl h) (right_clean _ (same see.New) (front_braces E Q (same see.New) false refl h) (right_clean _ (same see.OpenParen) (front_braces E Q (same see.OpenParen) false refl h) (map_clean _ (reads_braces ok h)))))))

  -- ---- suffixes

  never : (s : Chain × List Suffix) (d : Held) → clean at_suffix s see.End d ≡ false
  never s d = ap (λ (b : Bool). nothing d && b) (suffix_none s) ∙ both_false (nothing d)

  loop : Chain × List Suffix → State → Outcome (Chain × List Suffix)
  loop s st = fold (clean at_suffix) (suffix exprs patterns) add_suffix s st

  loop_goes : (s : Chain × List Suffix) (a : List Token) (y : Option Suffix) (e : Held) (r : List Token) → at_suffix s (ahead a) ≡ true → suffix exprs patterns ([], a) ≡ ok_of y e r → loop s ([], a) ≡ loop (add_suffix s y) (e, r)
  unfolding loop
  loop_goes s a y e r h g = fold_goes (clean at_suffix) (suffix exprs patterns) add_suffix never s [] a y e r h g (ok.items.suffixed.eats ([], a) y (e, r) g)

  loop_ends : (s : Chain × List Suffix) (a : List Token) → at_suffix s (ahead a) ≡ false → loop s ([], a) ≡ ok_of s [] a
  unfolding loop
  loop_ends s a h = fold_stays (clean at_suffix) (suffix exprs patterns) add_suffix never s [] a h

  loop_over : (xs : List Suffix) (d : Held) (a : List Token) → loop (chain.Over, xs) (d, a) ≡ ok_of (chain.Over, xs) d a
  unfolding loop
  loop_over xs d a = fold_stays (clean at_suffix) (suffix exprs patterns) add_suffix never (chain.Over, xs) d a (both_false (nothing d))

  line_alone : (t : Token) (b : List Token) → sort t ≡ see.Newline → same see.OpenBrace (ahead b) ≡ false → line_call exprs patterns ([], t ∷ b) ≡ ok_of None (t ∷ []) b
  unfolding line_call behind_line
  line_alone t b i k = ap (λ (o : Ahead). (if same see.Newline o then hold (behind_line exprs patterns) else stuck) ([], t ∷ b)) i ∙ ap (λ (v : Bool). (if v then (absorb >> block_call exprs patterns) else pure None) (t ∷ [], b)) k

  line_suffix : (t : Token) (b : List Token) → sort t ≡ see.Newline → same see.OpenBrace (ahead b) ≡ false → suffix exprs patterns ([], t ∷ b) ≡ ok_of None (t ∷ []) b
  unfolding suffix
  line_suffix t b i k = skip (same see.Dot) (selection exprs patterns) (choose (same see.OpenParen) (call exprs patterns) (choose (same see.OpenBrace) (block_call exprs patterns) (line_call exprs patterns))) (t ∷ b) (ap (same see.Dot) i)
      ∙ skip (same see.OpenParen) (call exprs patterns) (choose (same see.OpenBrace) (block_call exprs patterns) (line_call exprs patterns)) (t ∷ b) (ap (same see.OpenParen) i)
      ∙ skip (same see.OpenBrace) (block_call exprs patterns) (line_call exprs patterns) (t ∷ b) (ap (same see.OpenBrace) i)
      ∙ line_alone t b i k

  selected : {s : Span} {x : Suffix} {a b c : List Token} → IsWord see.Dot s a b → Lands (selection exprs patterns) [] a (Some x) c → Lands (suffix exprs patterns) [] a (Some x) c
  unfolding suffix
  selected w h = left_clean _ (same see.Dot) (front (same see.Dot) see.Dot true refl w) h

  reads_selection : {s : Span} {x : Ident} {a b c : List Token} → IsWord see.Dot s a b → grammar.IsName x b c → Lands (suffix exprs patterns) [] a (Some (select x)) c
  unfolding selection
  reads_selection w h = selected w (upon_clean _ (marked see.Dot w) (map_clean _ (reads_name h)))

  reads_call : {x : ParArgs} {a r : List Token} → IsParArgs E Q x a r → Lands (suffix exprs patterns) [] a (Some (apply x)) r
  unfolding suffix call
  reads_call (grammar.par_args w k) = right_clean _ (same see.Dot) (front (same see.Dot) see.OpenParen false refl w) (left_clean _ (same see.OpenParen) (front (same see.OpenParen) see.OpenParen true refl w) (map_clean _ (reads_par_args ok (grammar.par_args w k))))

  reads_block_suffix : {x : Block} {s : Span} {a r : List Token} → IsBraces E Q x s a r → Lands (block_call exprs patterns) [] a (Some (apply_block x s)) r
  unfolding block_call
  reads_block_suffix h = map_clean _ (reads_braces ok h)

  reads_line_call : {x : Block} {s : Span} {r : List Token} (t : Token) (b : List Token) → sort t ≡ see.Newline → IsBraces E Q x s b r → Lands (line_call exprs patterns) [] (t ∷ b) (Some (apply_block x s)) r
  unfolding line_call behind_line absorb
  reads_line_call t b i h = record { reads = ap (λ (o : Ahead). (if same see.Newline o then hold (behind_line exprs patterns) else stuck) ([], t ∷ b)) i ∙ ap (λ (v : Bool). (if v then (absorb >> block_call exprs patterns) else pure None) (t ∷ [], b)) (front_braces E Q (same see.OpenBrace) true refl h) ∙ (reads_block_suffix h).reads }

  reads_block_call : {x : Block} {s : Span} {a b c : List Token} → IsLine a b → IsBraces E Q x s b c → Lands (suffix exprs patterns) [] a (Some (apply_block x s)) c
  unfolding suffix
  reads_block_call phrase.no_nl h = right_clean _ (same see.Dot) (front_braces E Q (same see.Dot) false refl h) (right_clean _ (same see.OpenParen) (front_braces E Q (same see.OpenParen) false refl h) (left_clean _ (same see.OpenBrace) (front_braces E Q (same see.OpenBrace) true refl h) (reads_block_suffix h)))
  reads_block_call (phrase.one_nl (phrase.token {t = t} {r = b} i)) h =
      let k : sort t ≡ see.Newline = word_ahead (phrase.token {t = t} {r = b} i) in
      right_clean _ (same see.Dot) (ap (same see.Dot) k) (right_clean _ (same see.OpenParen) (ap (same see.OpenParen) k) (right_clean _ (same see.OpenBrace) (ap (same see.OpenBrace) k) (reads_line_call t b k h)))

  front_call : {x : Block} {s : Span} {a b c : List Token} → IsLine a b → IsBraces E Q x s b c → goes_chain chain.All (ahead a) ≡ true
  front_call phrase.no_nl h = front_braces E Q (goes_chain chain.All) true refl h
  front_call (phrase.one_nl w) h = front (goes_chain chain.All) see.Newline true refl w

  abbrev Suffixed : Chain → List Suffix → List Suffix → List Token → List Token → Type 0
  Suffixed c acc xs a r = (last : Chain) × (e : Held) × (b : List Token) × Pending e × (e ++ b ≡ r) × (loop (c, acc) ([], a) ≡ ok_of (last, acc ++ xs) e b)

  one_suffix : (all : Bool) (acc : List Suffix) (x : Suffix) (xs : List Suffix) (a b r : List Token) → goes_chain (first_chain all) (ahead a) ≡ true → Lands (suffix exprs patterns) [] a (Some x) b → Suffixed chain.All (acc ++ x ∷ []) xs b r → Suffixed (first_chain all) acc (x ∷ xs) a r
  one_suffix all acc x xs a b r h g k = (k.0, k.1, k.2, k.3, k.4, loop_goes (first_chain all, acc) a (Some x) [] b h g.reads ∙ k.5 ∙ ap (λ (z : List Suffix). ok_of (k.0, z) k.1 k.2) (append_assoc acc (x ∷ []) xs))

  none_more : (all : Bool) (acc : List Suffix) (r : List Token) → suffix_follows all r ≡ false → (goes_chain (first_chain all) (ahead r) ≡ true) ⊎ (goes_chain (first_chain all) (ahead r) ≡ false) → Suffixed (first_chain all) acc [] r r
  none_more all acc r h (inr i) = (first_chain all, [], r, none_held, refl, loop_ends (first_chain all, acc) r i ∙ ap (λ (z : List Suffix). ok_of (first_chain all, z) [] r) (sym (append-nil acc)))
  none_more true acc [] h (inl i) = absurd cc
  none_more false acc [] h (inl i) = absurd cc
  none_more all acc (t ∷ b) h (inl i) =
      let k = no_goes all (sort t) (ahead b) h i in
      (chain.Over, t ∷ [], b, line_held k.1, refl, loop_goes (first_chain all, acc) (t ∷ b) None (t ∷ []) b i (line_suffix t b k.1 k.2) ∙ loop_over acc (t ∷ []) b ∙ ap (λ (z : List Suffix). ok_of (chain.Over, z) (t ∷ []) b) (sym (append-nil acc)))

  reads_suffixes : {all : Bool} {xs : List Suffix} {a r : List Token} → IsSuffixes E Q all xs a r → (acc : List Suffix) → Suffixed (first_chain all) acc xs a r
  reads_suffixes (grammar.no_suffix {all = all} {r = r} h) acc = none_more all acc r h (decide (goes_chain (first_chain all) (ahead r)))
  reads_suffixes (grammar.selection {all = all} {x = x} {xs = xs} {a = a} {c = c} {r = r} w h k) acc = one_suffix all acc (select x) xs a c r (front (goes_chain (first_chain all)) see.Dot true (dot_goes all) w) (reads_selection w h) (reads_suffixes k (acc ++ select x ∷ []))
  reads_suffixes (grammar.call {x = x} {xs = xs} {a = a} {b = b} {r = r} h k) acc = one_suffix true acc (apply x) xs a b r (called h) (reads_call h) (reads_suffixes k (acc ++ apply x ∷ []))
    where
      called : {x : ParArgs} {a b : List Token} → IsParArgs E Q x a b → goes_chain chain.All (ahead a) ≡ true
      called (grammar.par_args w k) = front (goes_chain chain.All) see.OpenParen true refl w
  reads_suffixes (grammar.block_call {x = x} {s = s} {xs = xs} {a = a} {c = c} {r = r} l h k) acc = one_suffix true acc (apply_block x s) xs a c r (front_call l h) (reads_block_call l h) (reads_suffixes k (acc ++ apply_block x s ∷ []))

  suffixes_reach : {all : Bool} {xs : List Suffix} {a r : List Token} → IsSuffixes E Q all xs a r → (last : Chain) × Reaches (suffixes exprs patterns all) [] a (last, xs) r
  unfolding suffixes loop
  suffixes_reach h = let g = reads_suffixes h [] in (g.0, record { held = g.1; left = g.2; pending = g.3; whole = g.4; reads = g.5 })

  reads_simple : {x : Simple} {a r : List Token} → IsSimple E Q x a r → Reaches (simple exprs patterns) [] a x r
  unfolding simple
  reads_simple (grammar.simple {x = x} h k) = let g = suffixes_reach k in upon _ (reads_head h) (map (λ (w : Chain × List Suffix). simple_tree x w.1) g.1)

  -- ---- operators

  reads_prefix : {x : Prefix} {a r : List Token} → IsPrefix E Q x a r → Reaches (prefix exprs patterns) [] a x r
  unfolding prefix signed unsigned
  reads_prefix (grammar.unsigned {a = a} h) = right _ begins_sign (no_sign (ahead a) (front_simple E Q h)) (map _ (reads_simple h))
  reads_prefix (grammar.signed g h) = left _ begins_sign (sign_ahead g) (upon _ (reads_sign g) (map _ (reads_simple h)))

  reads_operand : {x : Prefix} {a b r : List Token} → IsLine a b → IsPrefix E Q x b r → Reaches (operand exprs patterns) [] a x r
  unfolding operand line_operand
  reads_operand {a = a} phrase.no_nl h = right _ (same see.Newline) (no_line_end (ahead a) (front_prefix E Q h)) (reads_prefix h)
  reads_operand (phrase.one_nl w) h = left _ (same see.Newline) (front (same see.Newline) see.Newline true refl w) (upon _ (marked see.Newline w) (reads_prefix h))

  reads_operation : {o : Operator} {x : Prefix} {a b c r : List Token} → IsOne operator_of o a b → IsLine b c → IsPrefix E Q x c r → Reaches (operation exprs patterns) [] a (operation_tree o x) r
  unfolding operation
  reads_operation h l k = upon _ (reads_operator h) (map _ (reads_operand l k))

  reads_operations : {ys : List Operation} {m r : List Token} (xs : List Operation) → IsOperations E Q ys m r → From (fold (clean (λ _ o. is_operator o)) (operation exprs patterns) added xs) m (xs ++ ys) r
  reads_operations xs (grammar.no_operation {r = r} h) = stays is_operator (operation exprs patterns) refl refl refl ok.items.operated xs r h
  reads_operations xs (grammar.operation {o = o} {x = x} {xs = ys} {a = a} {d = d} {r = r} h l k m) = goes is_operator (operation exprs patterns) refl refl refl ok.items.operated xs (operation_tree o x) ys a d r (operator_ahead h) (reads_operation h l k) (reads_operations (xs ++ operation_tree o x ∷ []) m)

  pub reads_infix : {x : Infix} {a r : List Token} → IsInfix E Q x a r → Reaches (infix_expr exprs patterns) [] a x r
  unfolding infix_expr operations
  reads_infix (grammar.«infix» h k) = next _ (reads_prefix h) (map_from _ (reads_operations [] k))
