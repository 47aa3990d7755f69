-- Arguments, statements and blocks that are in the grammar are read, over the expressions inside.
use Rattle.std.proofs.Common.{◌≡◌, Bool, true, false, List, [], ◌∷◌, ◌++◌, Option, Some, None, refl, sym, ap, ◌∙◌, append_assoc, inl, inr, ◌⊎◌}
use Rattle.std.specs.Prelude.{if◌then◌else◌, ◌&&◌, ◌||◌, not}
use Rattle.std.proofs.lemmas.List.{append-nil}
use Rattle.sl_text.specs.declared.span.Span.{Span}
use Rattle.sl_ast.specs.declared.token.Token.{Token}
use Rattle.sl_ast.specs.declared.type_tree.TypeTree.{TypeTree}
use Rattle.sl_ast.specs.declared.expr.Expr.{Expr}
use Rattle.sl_ast.specs.declared.pattern.Pattern.{Pattern}
use Rattle.sl_ast.specs.declared.args.ParArgs.{ParArgs}
use Rattle.sl_ast.specs.declared.block.Block.{Block}
use Rattle.sl_ast.specs.declared.block.Stat.{Stat}
use Rattle.sl_parse_expr.specs.declared.ahead.Ahead.{Ahead}
use Rattle.sl_parse_expr.specs.declared.ahead.Ahead.TheVariants as see
use Rattle.sl_parse_expr.specs.declared.cursor.Waiting.TheVariants as waiting
use Rattle.sl_parse_expr.specs.Ahead.{sort, same}
use Rattle.sl_parse_expr.specs.Tokens.{separates, separator_of}
use Rattle.sl_parse_expr.specs.Starts.{begins_stat, begins_binding}
use Rattle.sl_parse_expr.specs.LastNew.{stat_ends_in_new}
use Rattle.sl_parse_expr.specs.Trees.{block_tree}
use Rattle.sl_parse_expr.specs.Reading.{Outcome, State, and_then, ◌>>=◌, ◌>>◌, pure, stuck, ahead, rest, nothing, choose, absorb, settle, fold, clean, Reader}
use Rattle.sl_parse_expr.specs.Rules.{next_arg, more_args, some_args, no_args, par_args, typed, local, expr_as_stat, stat, apart, stat_item, block_item, stats, block, braces, at_item, add_item, no_brace, bare_line, behind_bare, behind_new, behind_item}
use Rattle.sl_parse_expr.specs.Phrases.{IsWord, IsMore, IsListed, IsSeq, body_follows, Pending, none_held, semi_held, line_held, lines_held}
use Rattle.sl_parse_expr.specs.Phrases as phrase
use Rattle.sl_parse_expr.specs.Grammar.{IsTyped, IsPattern, IsExpr, IsParArgs, IsStat, IsBlock, IsBraces}
use Rattle.sl_parse_expr.specs.Grammar as grammar
use Rattle.sl_parse_expr.proofs.Theory.{Held, ok_of, decide, fold_goes, fold_stays}
use Rattle.sl_parse_expr.proofs.Choices.{both_false}
use Rattle.sl_parse_expr.proofs.Begun.{word_reads}
use Rattle.sl_parse_expr.proofs.Good.{item_none}
use Rattle.sl_parse_expr.proofs.Fronts.{front, are_same, binding_ahead, separator_ahead}
use Rattle.sl_parse_expr.proofs.ExprFronts.{front_stat, no_close, no_binding, no_separator}
use Rattle.sl_parse_expr.proofs.Reaches.{Reaches, Lands, From, cleared, next_clean, upon, upon_clean, map, map_clean, through_clean, marked, closing, optional_clean, left, right, left_clean, right_clean, stays, goes}
use Rattle.sl_parse_expr.proofs.Complete.{reads_name, reads_binding, reads_separator, reads_type}
use Rattle.sl_parse_expr.proofs.Inside.{CompleteExprs}

-- ---- what stands behind a statement: what is held then goes away, or a line end behind a bare `new` does

no_brace_reads : (b : List Token) → same see.OpenBrace (ahead b) ≡ false → no_brace ([], b) ≡ ok_of tt [] b
unfolding no_brace
no_brace_reads b h = ap (λ (v : Bool). (if v then stuck else pure tt) ([], b)) h

bare_line_reads : (t : Token) (b : List Token) → same see.Newline (sort t) ≡ true → same see.OpenBrace (ahead b) ≡ false → bare_line ([], t ∷ b) ≡ ok_of false [] b
unfolding bare_line
bare_line_reads t b h k = ap (λ (o : Outcome Span). and_then o (λ _. no_brace >> pure false)) (word_reads see.Newline t b h) ∙ ap (λ (o : Outcome (Unit {0})). and_then o (λ _. pure false)) (no_brace_reads b k)

pub record Behind (bare : Bool) (e : Held) (b : List Token) : Type 0 where
  pub held : Held
  pub left : List Token
  pub pending : Pending held
  pub whole : held ++ left ≡ e ++ b
  pub reads : behind_item bare (e, b) ≡ ok_of (nothing held) [] left

and_right : (a b : Bool) → a ≡ true → (a && b) ≡ false → b ≡ false
and_right true b h k = k
and_right false b h k = absurd cc

behind_plain : (b : List Token) → body_follows b ≡ false → (same see.Newline (ahead b) ≡ true) ⊎ (same see.Newline (ahead b) ≡ false) → Behind true [] b
unfolding behind_new settle
behind_plain b h (inr i) = record { held = []; left = b; pending = none_held; whole = refl; reads = ap (λ (v : Bool). (if v then bare_line else pure true) ([], b)) i }
behind_plain [] h (inl i) = absurd cc
behind_plain (t ∷ b) h (inl i) = record {
  held = t ∷ [];
  left = b;
  pending = line_held (are_same see.Newline (sort t) i);
  whole = refl;
  reads = ap (λ (v : Bool). (if v then bare_line else pure true) ([], t ∷ b)) i ∙ bare_line_reads t b i (and_right (same see.Newline (sort t)) (same see.OpenBrace (ahead b)) i h);
}

pub reads_behind : (bare : Bool) (e : Held) (b : List Token) → Pending e → (bare && body_follows (e ++ b)) ≡ false → Behind bare e b
unfolding behind_new settle absorb
reads_behind false e b p h = record { held = e; left = b; pending = p; whole = refl; reads = refl }
reads_behind true e b none_held h = behind_plain b h (decide (same see.Newline (ahead b)))
reads_behind true e b (semi_held {t = t} k) h = record { held = t ∷ []; left = b; pending = semi_held k; whole = refl; reads = ap (λ (o : Ahead). behind_bare (if same see.Newline o then waiting.Line else waiting.More) ([], b)) k }
reads_behind true e b (line_held {t = t} k) h = record {
  held = t ∷ [];
  left = b;
  pending = line_held k;
  whole = refl;
  reads = ap (λ (o : Ahead). behind_bare (if same see.Newline o then waiting.Line else waiting.More) ([], b)) k ∙ ap (λ (o : Outcome (Unit {0})). and_then o (λ _. pure false)) (no_brace_reads b (and_right (same see.Newline (sort t)) (same see.OpenBrace (ahead b)) (ap (same see.Newline) k) h));
}
reads_behind true e b (lines_held {t = t} {u = u} k l) h = record { held = t ∷ u ∷ []; left = b; pending = lines_held k l; whole = refl; reads = refl }

-- ---- the rules

module _ {exprs : Reader Expr} {patterns : Reader Pattern} {E : Expr → List Token → List Token → Type 0} {Q : Pattern → List Token → List Token → Type 0} (ok : CompleteExprs exprs patterns E Q) where
  reads_next_arg : {s : Span} {x : Expr} {a b c : List Token} → IsWord see.Comma s a b → E x b c → Reaches (next_arg exprs patterns) [] a x c
  unfolding next_arg
  reads_next_arg w h = upon _ (marked see.Comma w) (ok.reads _ _ _ h)

  reads_more_args : {ps : List Expr} {m r : List Token} (xs : List Expr) → IsMore see.Comma E ps m r → From (more_args exprs patterns xs) m (xs ++ ps) r
  unfolding more_args
  reads_more_args xs (phrase.no_more {r = r} h) = stays (same see.Comma) (next_arg exprs patterns) refl refl refl ok.items.arg xs r h
  reads_more_args xs (phrase.one_more {x = x} {xs = ys} {a = a} {c = c} {r = r} w h k) = goes (same see.Comma) (next_arg exprs patterns) refl refl refl ok.items.arg xs x ys a c r (front (same see.Comma) see.Comma true refl w) (reads_next_arg w h) (reads_more_args (xs ++ x ∷ []) k)

  reads_listed : {ps : List Expr} {t : Span} {a r : List Token} → IsListed E ps t a r → Lands (choose (same see.CloseParen) (no_args exprs patterns) (some_args exprs patterns)) [] a (ps, t) r
  unfolding no_args some_args
  reads_listed (phrase.none_listed w) = left_clean _ (same see.CloseParen) (front (same see.CloseParen) see.CloseParen true refl w) (map_clean _ (marked see.CloseParen w))
  reads_listed (phrase.some_listed {x = x} {a = a} {b = b} h m w) = right_clean _ (same see.CloseParen) (no_close (ahead a) (ok.fronts x a b h)) (next_clean _ (ok.reads x a b h) (through_clean _ (reads_more_args (x ∷ []) m) (closing see.CloseParen refl refl refl w (map_clean _ (marked see.CloseParen w)))))

  pub reads_par_args : {x : ParArgs} {a r : List Token} → IsParArgs E Q x a r → Lands (par_args exprs patterns) [] a x r
  unfolding par_args
  reads_par_args (grammar.par_args w k) = upon_clean _ (marked see.OpenParen w) (map_clean _ (reads_listed k))

  -- ---- statements

  front_typed : (t : TypeTree) (a r : List Token) → IsTyped t a r → same see.Colon (ahead a) ≡ true
  front_typed t a r (grammar.typed w h) = front (same see.Colon) see.Colon true refl w

  reads_typed : (t : TypeTree) (a r : List Token) → IsTyped t a r → Lands (typed exprs patterns) [] a (Some t) r
  unfolding typed
  reads_typed t a r (grammar.typed w h) = upon_clean _ (marked see.Colon w) (map_clean _ (reads_type h))

  reads_stat : {x : Stat} {a r : List Token} → IsStat E Q x a r → Reaches (stat exprs patterns) [] a x r
  unfolding stat local expr_as_stat
  reads_stat (grammar.local h1 h2 h3 w h) = left _ begins_binding (binding_ahead h1) (upon _ (reads_binding h1) (upon _ (reads_name h2) (upon _ (optional_clean (same see.Colon) front_typed reads_typed h3) (upon _ (marked see.Equals w) (map _ (ok.reads _ _ _ h))))))
  reads_stat (grammar.expression {e = e} {a = a} {r = r} h) = right _ begins_binding (no_binding (ahead a) (ok.fronts e a r h)) (map _ (ok.reads e a r h))

  -- ---- blocks

  abbrev Stats : Bool → List Stat → List Token → List Token → Type 0
  Stats = IsSeq begins_stat stat_ends_in_new (IsStat E Q)

  never : (s : Bool × List Stat) (d : Held) → clean (at_item begins_stat) s see.End d ≡ false
  never s d = ap (λ (b : Bool). nothing d && b) (item_none s) ∙ both_false (nothing d)

  loop : Bool × List Stat → State → Outcome (Bool × List Stat)
  loop s st = fold (clean (at_item begins_stat)) (block_item exprs patterns) add_item s st

  item_goes : (s : Bool × List Stat) (a : List Token) (y : Option (Stat × Bool)) (r : List Token) → at_item begins_stat s (ahead a) ≡ true → Lands (block_item exprs patterns) [] a y r → loop s ([], a) ≡ loop (add_item s y) ([], r)
  unfolding loop
  item_goes s a y r h g = fold_goes (clean (at_item begins_stat)) (block_item exprs patterns) add_item never s [] a y [] r h g.reads (ok.items.item.eats ([], a) y ([], r) g.reads)

  loop_ends : (s : Bool × List Stat) (a : List Token) → at_item begins_stat s (ahead a) ≡ false → loop s ([], a) ≡ ok_of s [] a
  unfolding loop
  loop_ends s a h = fold_stays (clean (at_item begins_stat)) (block_item exprs patterns) add_item never s [] a h

  reads_apart : {a b : List Token} → phrase.IsOne separator_of tt a b → Lands (block_item exprs patterns) [] a None b
  unfolding block_item apart
  reads_apart h = left_clean _ separates (separator_ahead h) (map_clean (λ _. None) (reads_separator h))

  reads_item : {x : Stat} {a b : List Token} → separates (ahead a) ≡ false → IsStat E Q x a b → (stat_ends_in_new x && body_follows b) ≡ false
      → (e : Held) × (c : List Token) × Pending e × (e ++ c ≡ b) × Lands (block_item exprs patterns) [] a (Some (x, nothing e)) c
  unfolding block_item stat_item
  reads_item {x} {a} {b} free h k =
      let g = reads_stat h in
      let i = reads_behind (stat_ends_in_new x) g.held g.left g.pending (ap (λ (z : List Token). stat_ends_in_new x && body_follows z) g.whole ∙ k) in (
        i.held,
        i.left,
        i.pending,
        i.whole ∙ g.whole,
        right_clean _ separates free (record {
          reads = ap (λ (o : Outcome Stat). and_then o (λ x. behind_item (stat_ends_in_new x) >>= λ c. pure (Some (x, c)))) g.reads ∙ ap (λ (o : Outcome Bool). and_then o (λ c. pure (Some (x, c)))) i.reads;
        }),
      )

  -- whether a separator stands before, when these are held
  abbrev state_of : Bool → Held → Bool
  state_of before [] = before
  state_of before (t ∷ d) = true

  added_item : (acc : List Stat) (x : Stat) (e : Held) → add_item (true, acc) (Some (x, nothing e)) ≡ (state_of false e, acc ++ x ∷ [])
  added_item acc x [] = refl
  added_item acc x (t ∷ e) = refl

  cleared_item : (e : Held) (b a : List Token) → Pending e → e ++ b ≡ a → separates (ahead a) ≡ false → (e ≡ []) × (b ≡ a)
  cleared_item e b a p i h = cleared (λ o. not (separates o)) refl refl e b a p i (ap not h)

  or_left : (a b : Bool) → (a || b) ≡ false → a ≡ false
  or_left true b h = absurd cc
  or_left false b h = refl

  abbrev SeqReads : Bool → List Stat → List Token → List Token → List Stat → Held → List Token → Type 0
  SeqReads before xs a r acc e b = (last : Bool) × (loop (state_of before e, acc) ([], b) ≡ ok_of (last, acc ++ xs) [] r)

  moved : (before : Bool) (xs : List Stat) (a r : List Token) (acc : List Stat) (e : Held) (b : List Token) → (e ≡ []) × (b ≡ a) → (last : Bool) × (loop (before, acc) ([], a) ≡ ok_of (last, acc ++ xs) [] r) → SeqReads before xs a r acc e b
  moved before xs a r acc e b c g = (g.0, ap (λ (z : Held). loop (state_of before z, acc) ([], b)) c.0 ∙ ap (λ (z : List Token). loop (before, acc) ([], z)) c.1 ∙ g.1)

  reads_seq : {before : Bool} {xs : List Stat} {a r : List Token} → Stats before xs a r → (acc : List Stat) (e : Held) (b : List Token) → Pending e → e ++ b ≡ a → SeqReads before xs a r acc e b
  reads_seq (phrase.ended {apart = before} {r = r} h) acc e b p i =
      moved before [] r r acc e b (cleared_item e b r p i (or_left (separates (ahead r)) (before && begins_stat (ahead r)) h)) (before, loop_ends (before, acc) r h ∙ ap (λ (z : List Stat). ok_of (before, z) [] r) (sym (append-nil acc)))
  reads_seq (phrase.separated {apart = before} {xs = xs} {r = r} (phrase.token {t = t} {r = c} j) k) acc e b none_held i =
      let g = reads_seq k acc [] c none_held refl in
      (g.0, ap (λ (z : List Token). loop (before, acc) ([], z)) i ∙ item_goes (before, acc) (t ∷ c) None c (part_goes (separator_ahead (phrase.token {t = t} {r = c} j)) (before && begins_stat (sort t))) (reads_apart (phrase.token {t = t} {r = c} j)) ∙ g.1)
    where
      part_goes : {a : Bool} → a ≡ true → (b : Bool) → (a || b) ≡ true
      part_goes h b = rw h refl
  reads_seq (phrase.separated (phrase.token j) k) acc e b (semi_held l) i = reads_seq k acc [] b none_held (ap rest i)
  reads_seq (phrase.separated (phrase.token j) k) acc e b (line_held l) i = reads_seq k acc [] b none_held (ap rest i)
  reads_seq (phrase.separated (phrase.token j) k) acc e b (lines_held {u = u} l o) i = reads_seq k acc (u ∷ []) b (line_held o) (ap rest i)
  reads_seq (phrase.item {x = x} {xs = xs} {a = a} {b = m} {r = r} h f k) acc e b p i =
      let s = front_stat E Q ok.fronts h in
      let free = no_separator (ahead a) s in
      let y = reads_item free h f in
      let g = reads_seq k (acc ++ x ∷ []) y.0 y.1 y.2 y.3 in
      moved true (x ∷ xs) a r acc e b (cleared_item e b a p i free) (
        g.0,
        item_goes (true, acc) a (Some (x, nothing y.0)) y.1 (stat_goes (separates (ahead a)) (begins_stat (ahead a)) s) y.4 ∙ ap (λ (z : Bool × List Stat). loop z ([], y.1)) (added_item acc x y.0) ∙ g.1 ∙ ap (λ (z : List Stat). ok_of (g.0, z) [] r) (append_assoc acc (x ∷ []) xs),
      )
    where
      stat_goes : (a b : Bool) → b ≡ true → (a || (true && b)) ≡ true
      stat_goes true b h = refl
      stat_goes false b h = h

  pub reads_block : {x : Block} {a r : List Token} → IsBlock E Q x a r → Lands (block exprs patterns) [] a x r
  unfolding block absorb stats loop
  reads_block (grammar.block {a = a} k) = let g = reads_seq k [] [] a none_held refl in record { reads = ap (λ (o : Outcome (Bool × List Stat)). and_then o (λ s. pure (block_tree s.1))) g.1 }

  pub reads_braces : {x : Block} {s : Span} {a r : List Token} → IsBraces E Q x s a r → Lands (braces exprs patterns) [] a (x, s) r
  unfolding braces
  reads_braces (grammar.braces w h z) = upon_clean _ (marked see.OpenBrace w) (upon_clean _ (reads_block h) (map_clean _ (marked see.CloseBrace z)))
