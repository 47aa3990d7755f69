-- What is read as a sequence is one by the grammar, over any items.
use Rattle.std.proofs.Common.{◌≡◌, Bool, true, false, List, [], ◌∷◌, ◌++◌, Option, Some, None, refl, sym, ap, subst, append_assoc}
use Rattle.std.specs.Prelude.{if◌then◌else◌, ◌&&◌, ◌||◌}
use Rattle.std.proofs.lemmas.List.{append-nil}
use Rattle.sl_text.specs.declared.span.Span.{Span}
use Rattle.sl_ast.specs.declared.token.Token.{Token}
use Rattle.sl_parse_expr.specs.declared.ahead.Ahead.{Ahead}
use Rattle.sl_parse_expr.specs.declared.ahead.Ahead.TheVariants as see
use Rattle.sl_parse_expr.specs.declared.cursor.Waiting.TheVariants as waiting
use Rattle.sl_parse_expr.specs.Ahead.{sort, same}
use Rattle.sl_parse_expr.specs.Tokens.{separator_of, separates}
use Rattle.sl_parse_expr.specs.Reading.{Reader, ◌>>=◌, ◌>>◌, pure, absorb, ahead, nothing, waits, choose, fold, clean}
use Rattle.sl_parse_expr.specs.Rules.{separator, no_brace, bare_line, behind_bare, behind_new, behind_item, at_item, add_item}
use Rattle.sl_parse_expr.specs.Phrases.{IsOne, IsWord, IsSeq, body_follows, Pending, none_held, semi_held, line_held, lines_held}
use Rattle.sl_parse_expr.specs.Phrases as phrase
use Rattle.sl_parse_expr.proofs.Theory.{Held, stop}
use Rattle.sl_parse_expr.proofs.Loops.{Eats}
use Rattle.sl_parse_expr.proofs.Fronts.{word_ahead}
use Rattle.sl_parse_expr.proofs.Gives.{Gives, Clean, Loose, give, stopped, same_as, weaker, next, upon, single, marked, either, settled, loop}

separator_is : (a : List Token) → Gives separator [] a (Clean (λ x r. IsOne separator_of x a r))
unfolding separator
separator_is a = single separator_of [] a

no_brace_is : (a : List Token) → Gives no_brace [] a (Clean (λ _ r. (r ≡ a) × (same see.OpenBrace (ahead a) ≡ false)))
unfolding no_brace
no_brace_is a = either (λ e o. same see.OpenBrace o) (λ _. stopped (stop false a) refl) (λ h. give tt (record { none = refl; is = (refl, h) }))

-- whether a separator stands before what follows
abbrev parted : Bool → Bool
parted true = false
parted false = true

-- a separator, or an item and whether nothing was held behind it
abbrev pub item : {X : Type 0} → (X → Bool) → Reader X → Reader (Option (X × Bool))
item bare one = choose separates (separator >>= λ _. pure None) (one >>= λ x. behind_item (bare x) >>= λ c. pure (Some (x, c)))

must_part : (s b o : Bool) → s ≡ false → (s || (b && o)) ≡ true → b ≡ true
must_part true b o i k = absurd cc
must_part false true o i k = refl
must_part false false o i k = absurd cc

module _ {X : Type 0} (begins : Ahead → Bool) (bare : X → Bool) (R : X → List Token → List Token → Type 0) where
  abbrev Seq : Bool → List X → List Token → List Token → Type 0
  Seq = IsSeq begins bare R

  after : (b : Bool) (t : Token) (c : List Token) (zs : List X) (q : List Token) → separates (sort t) ≡ true → Seq true zs c q → Seq b zs (t ∷ c) q
  unfolding separator_of
  after b t c zs q i m = phrase.separated (phrase.token (ap (λ (z : Bool). if z then Some tt else None) i)) m

  -- ---- what stands behind an item

  abbrev Behind : Bool → List Token → Bool → Held → List Token → Type 0
  Behind is_bare m c e r = (e ≡ []) × ((is_bare && body_follows m) ≡ false) × ((zs : List X) (q : List Token) → Seq (parted c) zs r q → Seq false zs m q)

  absorb_is : (d : Held) (a : List Token) → Pending d → Gives absorb d a (Behind false (d ++ a))
  unfolding absorb
  absorb_is d a none_held = same_as {q = absorb} {p = pure true} {c = []} {b = a} refl (give true (refl, refl, λ zs q m. m))
  absorb_is d a (semi_held {t = t} i) = same_as {q = absorb} {p = pure false} {c = []} {b = a} refl (give false (refl, refl, λ zs q m. after false t a zs q (ap separates i) m))
  absorb_is d a (line_held {t = t} i) = same_as {q = absorb} {p = pure false} {c = []} {b = a} refl (give false (refl, refl, λ zs q m. after false t a zs q (ap separates i) m))
  absorb_is d a (lines_held {t = t} {u = u} i j) = same_as {q = absorb} {p = pure false} {c = []} {b = a} refl (give false (refl, refl, λ zs q m. after false t (u ∷ a) zs q (ap separates i) (after true u a zs q (ap separates j) m)))

  line_passed : (a b : List Token) (s : Span) → IsWord see.Newline s a b → (r : List Token) → r ≡ b → same see.OpenBrace (ahead b) ≡ false → Behind true a false [] r
  line_passed a b s (phrase.token {t = t} i) r j k =
      let w : sort t ≡ see.Newline = word_ahead {what = see.Newline} {s = s} {a = t ∷ b} {r = b} (phrase.token i) in
      (refl, rw w k, λ zs q m. after false t b zs q (ap separates w) (subst (λ (z : List Token). Seq true zs z q) j m))

  bare_line_is : (a : List Token) → Gives bare_line [] a (Behind true a)
  unfolding bare_line
  bare_line_is a = upon (marked see.Newline [] a) (λ s b h. upon (no_brace_is b) (λ _ r k. give false (line_passed a b s h r k.0 k.1)))

  behind_bare_is : (d : Held) (a : List Token) → Pending d → Gives (behind_bare (waits d)) [] a (Behind true (d ++ a))
  behind_bare_is d a none_held = either (λ e o. nothing e && same see.Newline o) (λ _. bare_line_is a) (λ h. let i : same see.Newline (ahead a) ≡ false = h in give true (refl, rw i refl, λ zs q m. m))
  behind_bare_is d a (semi_held {t = t} i) = same_as {q = behind_bare (waits (t ∷ []))} {p = pure false} {c = []} {b = a} (ap (λ (o : Ahead). behind_bare (if same see.Newline o then waiting.Line else waiting.More) ([], a)) i) (give false (refl, rw i refl, λ zs q m. after false t a zs q (ap separates i) m))
  behind_bare_is d a (line_held {t = t} i) = same_as {q = behind_bare (waits (t ∷ []))} {p = no_brace >> pure false} {c = []} {b = a} (ap (λ (o : Ahead). behind_bare (if same see.Newline o then waiting.Line else waiting.More) ([], a)) i)
      (upon (no_brace_is a) (λ _ r k. give false (refl, rw i k.1, λ zs q m. after false t a zs q (ap separates i) (subst (λ (z : List Token). Seq true zs z q) k.0 m))))
  behind_bare_is d a (lines_held {t = t} {u = u} i j) = give false (refl, rw i (rw j refl), λ zs q m. after false t (u ∷ a) zs q (ap separates i) (after true u a zs q (ap separates j) m))

  behind_item_is : (is_bare : Bool) (d : Held) (a : List Token) → Pending d → Gives (behind_item is_bare) d a (Behind is_bare (d ++ a))
  unfolding behind_new
  behind_item_is false d a k = absorb_is d a k
  behind_item_is true d a k = settled _ (behind_bare_is d a k)

  -- ---- items

  abbrev parted_by : Option (X × Bool) → Bool
  parted_by None = true
  parted_by (Some x) = parted x.1

  abbrev found : Option (X × Bool) → List X
  found None = []
  found (Some x) = x.0 ∷ []

  abbrev ItemIs : List Token → Option (X × Bool) → Held → List Token → Type 0
  ItemIs a y e r = (e ≡ []) × ((b : Bool) (zs : List X) (q : List Token) → (separates (ahead a) || (b && begins (ahead a))) ≡ true → Seq (parted_by y) zs r q → Seq b (found y ++ zs) a q)

  module _ (m : List Token) where
    abbrev SeqSo : Bool × List X → Held → List Token → Type 0
    SeqSo w d a = (d ≡ []) × ((zs : List X) (q : List Token) → Seq w.0 zs a q → Seq true (w.1 ++ zs) m q)

    seq_add : (b : Bool) (xs : List X) (a : List Token) → SeqSo (b, xs) [] a → (separates (ahead a) || (b && begins (ahead a))) ≡ true → (y : Option (X × Bool)) (e : Held) (r : List Token) → ItemIs a y e r → SeqSo (add_item (b, xs) y) e r
    seq_add b xs a inv g None e r k = (k.0, λ zs q i. inv.1 zs q (k.1 b zs q g i))
    seq_add b xs a inv g (Some (x, true)) e r k = (k.0, λ zs q i. subst (λ (z : List X). Seq true z m q) (sym (append_assoc xs (x ∷ []) zs)) (inv.1 (x ∷ zs) q (k.1 b zs q g i)))
    seq_add b xs a inv g (Some (x, false)) e r k = (k.0, λ zs q i. subst (λ (z : List X). Seq true z m q) (sym (append_assoc xs (x ∷ []) zs)) (inv.1 (x ∷ zs) q (k.1 b zs q g i)))

    seq_done : (w : Bool × List X) (d : Held) (a : List Token) → SeqSo w d a → clean (at_item begins) w (ahead a) d ≡ false → Clean (λ w r. Seq true w.1 m r) w d a
    seq_done w [] a inv h = record { none = refl; is = subst (λ (z : List X). Seq true z m a) (append-nil w.1) (inv.1 [] a (phrase.ended h)) }
    seq_done w (t ∷ d) a inv h = absurd (let i = inv.0 in cc)

  module _ (one : Reader X) (one_is : (a : List Token) → Gives one [] a (Loose (λ x r. R x a r))) where
    abbrev apart : Reader (Option (X × Bool))
    apart = separator >>= λ _. pure None

    abbrev whole : Reader (Option (X × Bool))
    whole = one >>= λ x. behind_item (bare x) >>= λ c. pure (Some (x, c))

    apart_is : (a : List Token) → Gives apart [] a (ItemIs a)
    apart_is a = upon (separator_is a) (λ u b h. give None (refl, λ v zs q k m. phrase.separated h m))

    whole_is : (a : List Token) → separates (ahead a) ≡ false → Gives whole [] a (ItemIs a)
    whole_is a free = next (one_is a) (λ x e b h. next (behind_item_is (bare x) e b h.held) (λ c e2 r k. give (Some (x, c)) (k.0, λ v zs q g m. subst (λ (z : Bool). Seq z (x ∷ zs) a q) (sym (must_part (separates (ahead a)) v (begins (ahead a)) free g)) (phrase.item h.is k.1 (k.2 zs q m)))))

    item_is : (a : List Token) → Gives (item bare one) [] a (ItemIs a)
    item_is a = either (λ e o. separates o) (λ _. apart_is a) (λ h. whole_is a h)

    module _ (stays : (s : Bool × List X) → at_item begins s see.End ≡ false) (eats : Eats (item bare one)) where
      step : (m : List Token) (w : Bool × List X) (d : Held) (a : List Token) → SeqSo m w d a → clean (at_item begins) w (ahead a) d ≡ true → Gives (item bare one) d a (λ y e r. SeqSo m (add_item w y) e r)
      step m w [] a inv h = weaker (item_is a) (λ y e r k. seq_add m w.0 w.1 a inv h y e r k)
      step m w (t ∷ d) a inv h = absurd cc

      pub seq_is : (a : List Token) → Gives (fold (clean (at_item begins)) (item bare one) add_item (true, [])) [] a (Clean (λ w r. Seq true w.1 a r))
      seq_is a = loop (at_item begins) (item bare one) add_item stays eats (SeqSo a) (Clean (λ w r. Seq true w.1 a r)) (step a) (seq_done a) (true, []) [] a (refl, λ zs q k. k)
