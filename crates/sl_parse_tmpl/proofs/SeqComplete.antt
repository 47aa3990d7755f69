-- Sequences that are in the grammar are read, over any items.
use Rattle.std.proofs.Common.{◌≡◌, Bool, true, false, List, [], ◌∷◌, ◌++◌, Option, Some, None, refl, sym, ap, ◌∙◌, append_assoc}
use Rattle.std.specs.Prelude.{◌&&◌, ◌||◌, not}
use Rattle.std.proofs.lemmas.List.{append-nil}
use Rattle.sl_ast.specs.declared.token.Token.{Token}
use Rattle.sl_parse_expr.specs.declared.ahead.Ahead.{Ahead}
use Rattle.sl_parse_expr.specs.declared.ahead.Ahead.TheVariants as see
use Rattle.sl_parse_expr.specs.Ahead.{sort}
use Rattle.sl_parse_expr.specs.Tokens.{separates, separator_of}
use Rattle.sl_parse_expr.specs.Reading.{Outcome, Reader, and_then, ◌>>=◌, pure, ahead, rest, nothing, fold, clean}
use Rattle.sl_parse_expr.specs.Rules.{behind_item, at_item, add_item}
use Rattle.sl_parse_expr.specs.Phrases.{IsOne, IsSeq, body_follows, Pending, none_held, semi_held, line_held, lines_held}
use Rattle.sl_parse_expr.specs.Phrases as phrase
use Rattle.sl_parse_expr.proofs.Theory.{Held, ok_of, fold_goes, fold_stays}
use Rattle.sl_parse_expr.proofs.Choices.{both_false}
use Rattle.sl_parse_expr.proofs.Loops.{Eats}
use Rattle.sl_parse_expr.proofs.Fronts.{separator_ahead}
use Rattle.sl_parse_expr.proofs.Reaches.{Reaches, Lands, cleared, map_clean, left_clean, right_clean}
use Rattle.sl_parse_expr.proofs.Complete.{reads_separator}
use Rattle.sl_parse_expr.proofs.BlockComplete.{reads_behind}
use Rattle.sl_parse_tmpl.proofs.SeqSound.{item}

or_left : (a b : Bool) → (a || b) ≡ false → a ≡ false
or_left true b h = absurd cc
or_left false b h = refl

first_goes : (a b : Bool) → a ≡ true → (a || b) ≡ true
first_goes a b h = rw h refl

second_goes : (a b : Bool) → b ≡ true → (a || (true && b)) ≡ true
second_goes true b h = refl
second_goes false b h = h

-- whether a separator stands before, when these are held
abbrev state_of : Bool → Held → Bool
state_of before [] = before
state_of before (t ∷ d) = true

added_item : {X : Type 0} (acc : List X) (x : X) (e : Held) → add_item (true, acc) (Some (x, nothing e)) ≡ (state_of false e, acc ++ x ∷ [])
added_item acc x [] = refl
added_item acc x (t ∷ e) = refl

cleared_item : (e : Held) (b a : List Token) → Pending e → e ++ b ≡ a → separates (ahead a) ≡ false → (e ≡ []) × (b ≡ a)
cleared_item e b a p i h = cleared (λ o. not (separates o)) refl refl e b a p i (ap not h)

module _ {X : Type 0} (begins : Ahead → Bool) (bare : X → Bool) (R : X → List Token → List Token → Type 0) (one : Reader X)
    (reads : (x : X) (a r : List Token) → R x a r → Reaches one [] a x r) (fronts : (x : X) (a r : List Token) → R x a r → begins (ahead a) ≡ true) (free : (o : Ahead) → begins o ≡ true → separates o ≡ false)
    (stays : (s : Bool × List X) → at_item begins s see.End ≡ false) (eats : Eats (item bare one)) where
  abbrev of_one : Reader (Option (X × Bool))
  of_one = item bare one

  never : (s : Bool × List X) (d : Held) → clean (at_item begins) s see.End d ≡ false
  never s d = ap (λ (b : Bool). nothing d && b) (stays s) ∙ both_false (nothing d)

  loop : Bool × List X → Reader (Bool × List X)
  loop s st = fold (clean (at_item begins)) of_one add_item s st

  item_goes : (s : Bool × List X) (a : List Token) (y : Option (X × Bool)) (r : List Token) → at_item begins s (ahead a) ≡ true → Lands of_one [] a y r → loop s ([], a) ≡ loop (add_item s y) ([], r)
  unfolding loop
  item_goes s a y r h g = fold_goes (clean (at_item begins)) of_one add_item never s [] a y [] r h g.reads (eats.eats ([], a) y ([], r) g.reads)

  loop_ends : (s : Bool × List X) (a : List Token) → at_item begins s (ahead a) ≡ false → loop s ([], a) ≡ ok_of s [] a
  unfolding loop
  loop_ends s a h = fold_stays (clean (at_item begins)) of_one add_item never s [] a h

  reads_apart : {a b : List Token} → IsOne separator_of tt a b → Lands of_one [] a None b
  reads_apart h = left_clean _ separates (separator_ahead h) (map_clean (λ _. None) (reads_separator h))

  reads_item : {x : X} {a b : List Token} → separates (ahead a) ≡ false → R x a b → (bare x && body_follows b) ≡ false
      → (e : Held) × (c : List Token) × Pending e × (e ++ c ≡ b) × Lands of_one [] a (Some (x, nothing e)) c
  reads_item {x} {a} {b} apart h k =
      let g = reads x a b h in
      let i = reads_behind (bare x) g.held g.left g.pending (ap (λ (z : List Token). bare x && body_follows z) g.whole ∙ k) in (
        i.held,
        i.left,
        i.pending,
        i.whole ∙ g.whole,
        right_clean _ separates apart (record {
          reads = ap (λ (o : Outcome X). and_then o (λ x. behind_item (bare x) >>= λ c. pure (Some (x, c)))) g.reads ∙ ap (λ (o : Outcome Bool). and_then o (λ c. pure (Some (x, c)))) i.reads;
        }),
      )

  abbrev SeqReads : Bool → List X → List Token → List Token → List X → Held → List Token → Type 0
  SeqReads before xs a r acc e b = (last : Bool) × (loop (state_of before e, acc) ([], b) ≡ ok_of (last, acc ++ xs) [] r)

  moved : (before : Bool) (xs : List X) (a r : List Token) (acc : List X) (e : Held) (b : List Token) → (e ≡ []) × (b ≡ a) → (last : Bool) × (loop (before, acc) ([], a) ≡ ok_of (last, acc ++ xs) [] r) → SeqReads before xs a r acc e b
  moved before xs a r acc e b c g = (g.0, ap (λ (z : Held). loop (state_of before z, acc) ([], b)) c.0 ∙ ap (λ (z : List Token). loop (before, acc) ([], z)) c.1 ∙ g.1)

  reads_seq : {before : Bool} {xs : List X} {a r : List Token} → IsSeq begins bare R before xs a r → (acc : List X) (e : Held) (b : List Token) → Pending e → e ++ b ≡ a → SeqReads before xs a r acc e b
  reads_seq (phrase.ended {apart = before} {r = r} h) acc e b p i =
      moved before [] r r acc e b (cleared_item e b r p i (or_left (separates (ahead r)) (before && begins (ahead r)) h)) (before, loop_ends (before, acc) r h ∙ ap (λ (z : List X). ok_of (before, z) [] r) (sym (append-nil acc)))
  reads_seq (phrase.separated {apart = before} {xs = xs} {r = r} (phrase.token {t = t} {r = c} j) k) acc e b none_held i =
      let g = reads_seq k acc [] c none_held refl in
      (g.0, ap (λ (z : List Token). loop (before, acc) ([], z)) i ∙ item_goes (before, acc) (t ∷ c) None c (first_goes (separates (sort t)) (before && begins (sort t)) (separator_ahead (phrase.token {t = t} {r = c} j))) (reads_apart (phrase.token {t = t} {r = c} j)) ∙ g.1)
  reads_seq (phrase.separated (phrase.token j) k) acc e b (semi_held l) i = reads_seq k acc [] b none_held (ap rest i)
  reads_seq (phrase.separated (phrase.token j) k) acc e b (line_held l) i = reads_seq k acc [] b none_held (ap rest i)
  reads_seq (phrase.separated (phrase.token j) k) acc e b (lines_held {u = u} l o) i = reads_seq k acc (u ∷ []) b (line_held o) (ap rest i)
  reads_seq (phrase.item {x = x} {xs = xs} {a = a} {b = m} {r = r} h f k) acc e b p i =
      let s = fronts x a m h in
      let apart = free (ahead a) s in
      let y = reads_item apart h f in
      let g = reads_seq k (acc ++ x ∷ []) y.0 y.1 y.2 y.3 in
      moved true (x ∷ xs) a r acc e b (cleared_item e b a p i apart) (
        g.0,
        item_goes (true, acc) a (Some (x, nothing y.0)) y.1 (second_goes (separates (ahead a)) (begins (ahead a)) s) y.4 ∙ ap (λ (z : Bool × List X). loop z ([], y.1)) (added_item acc x y.0) ∙ g.1 ∙ ap (λ (z : List X). ok_of (g.0, z) [] r) (append_assoc acc (x ∷ []) xs),
      )

  -- and whether a separator stands at its end, or nothing
  pub seq_reads : (xs : List X) (a r : List Token) → IsSeq begins bare R true xs a r → (last : Bool) × Lands (fold (clean (at_item begins)) of_one add_item (true, [])) [] a (last, xs) r
  unfolding loop
  seq_reads xs a r k = let g = reads_seq k [] [] a none_held refl in (g.0, record { reads = g.1 })
