-- The law where an exception comes, also where the lowered program stands further down in frames that do nothing with it.
use Rattle.std.proofs.Common.{◌≡◌, ℕ, ◌+◌, ◌≤◌, ◌⊎◌, inl, inr, ⊎_elim, true, List, [], ◌∷◌, ◌++◌, length, drop, Option, Some, None, refl, arith, ap, sym, subst, ◌∙◌, drop-drop, true≢false}
use Rattle.ty_prog.specs.Tree.{Tree}
use Rattle.ty_prog.specs.Shape.{Shape, shape}
use Rattle.ty_prog.specs.declared.program.Program.{Program}
use Rattle.sm_state.specs.declared.heap.Heap.{Heap}
use Rattle.sm_state.specs.declared.thread.Context.{Context}
use Rattle.sm_state.specs.declared.thread.Level.{Level}
use Rattle.sm_state.specs.declared.value.Value.{Value}
use Rattle.sm_rule.specs.declared.moves.Move.{Move}
use Rattle.sm_rule.specs.declared.moves.Move.TheVariants as move
use Rattle.sm_rule.specs.Moves.{kept, caught}
use Rattle.sm_rule.specs.Step.{After, Landing, caught_at, landing, lands, unwinds, next_of}
use Rattle.sm_law.specs.Twins.{Frame, Rung, Twin, up_levels, up_kept, frames_levels, frames_kept, low_levels, low_kept, FramesKeep, NoneCatches, copy}
use Rattle.sm_law.specs.Passes.{Pass, up_context, low_context, low_deeper, CatchesBoth, CatchesNone, Chain, AtNode, TwinFits, Pair, ups, lows, AllFit, rungs_debt, debts}
use Rattle.sm_law.specs.Copies.{ByCatching, EndTogether, Laws, Same}
use Rattle.sm_law.proofs.Alike.{kept_alike, caught_alike}
use Rattle.sm_law.proofs.Chains.{own_dropped, over, Idle}
use Rattle.sm_law.proofs.Carrying.{Embodied, carry}
use Rattle.sm_law.proofs.Leaving.{copied_escapes}
use Rattle.sm_placed.proofs.Fitting.{Fits, SomeFits, caught_fits}

-- operands of one more level go
pub skipped : (n m : ℕ) (xs own rest : List Value) → drop n xs ≡ own ++ rest → length own ≡ m → drop (n + m) xs ≡ rest
skipped n m xs own rest e len = sym (drop-drop m n xs) ∙ ap (drop m) e ∙ own_dropped m own rest len

-- a fit without an object to make fits anyhow
widened : (Made : Type 0) (own : ℕ) (s : Shape) (m : Move) → Fits ⊥ own s m → Fits Made own s m
widened Made own s move.Embody fit = absurd fit
widened Made own s move.Stuck fit = tt
widened Made own s (move.Turn i) fit = fit
widened Made own s (move.Fresh i) fit = fit
widened Made own s (move.Keep i v) fit = fit
widened Made own s (move.Bind x v i) fit = fit
widened Made own s (move.Shelve i raised v) fit = fit
widened Made own s (move.Open class i of) fit = fit
widened Made own s (move.Hold class) fit = fit
widened Made own s (move.Again v i a) fit = fit
widened Made own s (move.Advance i) fit = fit
widened Made own s (move.Publish i) fit = fit
widened Made own s move.Pass fit = fit
widened Made own s (move.End v) fit = tt
widened Made own s (move.Store x v gives) fit = tt
widened Made own s (move.Do a) fit = tt
widened Made own s (move.Raise x) fit = tt
widened Made own s (move.Fail class message) fit = tt

-- frames that do nothing with the exception are passed over
frames_left : (x : Value) (fs : List Frame) (levels : List Level) (n : ℕ) (xs operands : List Value) → NoneCatches fs → FramesKeep fs → drop n xs ≡ frames_kept fs operands
    → (m : ℕ) × (landing x n (frames_levels fs levels) ≡ landing x m levels) × (drop m xs ≡ operands)
frames_left x [] levels n xs operands none keep e = (n, refl, e)
frames_left x (f ∷ fs) levels n xs operands none keep e =
    let m = n + kept (shape f.node) f.child in
    let more = frames_left x fs levels m xs operands none.1 keep.1 (skipped n (kept (shape f.node) f.child) xs f.kept (frames_kept fs operands) e keep.0) in
    (more.0, ap (λ o. caught_at o m (record { node = f.node; child = f.child }) (frames_levels fs levels) (landing x m (frames_levels fs levels))) (none.0 x) ∙ more.1, more.2)

-- frames of frames
frames_levels_join : (fs gs : List Frame) (levels : List Level) → frames_levels (fs ++ gs) levels ≡ frames_levels fs (frames_levels gs levels)
frames_levels_join [] gs levels = refl
frames_levels_join (f ∷ fs) gs levels = ap (λ l. record { node = f.node; child = f.child } ∷ l) (frames_levels_join fs gs levels)

frames_kept_join : (fs gs : List Frame) (operands : List Value) → frames_kept (fs ++ gs) operands ≡ frames_kept fs (frames_kept gs operands)
frames_kept_join [] gs operands = refl
frames_kept_join (f ∷ fs) gs operands = ap (λ l. f.kept ++ l) (frames_kept_join fs gs operands)

keep_join : (fs gs : List Frame) → FramesKeep (fs ++ gs) → FramesKeep fs × FramesKeep gs
keep_join [] gs keep = (tt, keep)
keep_join (f ∷ fs) gs keep = let more = keep_join fs gs keep.1 in ((keep.0, more.0), more.1)

-- a special level that catches an exception, where both programs land: the pass answers
pub record LandsSpecially {X : Type 0} (P : Pass X) (w : Twin) (x : Value) (K L : Landing) (xs ys : List Value) : Type 0 where
  pub rung : Rung
  pub above : List Rung
  pub both : CatchesBoth rung
  pub fits : TwinFits P (over w rung above)
  pub at : AtNode P (over w rung above)
  pub free : ℕ
  pub special : P.Special w.class w.part rung free w.low_locals
  pub up_node : K.node ≡ rung.node
  pub up_above : K.levels ≡ up_levels above
  pub up_move : K.move ≡ both.up x
  pub up_left : drop K.taken xs ≡ up_kept above
  pub low_node : L.node ≡ both.at.node
  pub low_above : L.levels ≡ frames_levels both.outer (low_levels above)
  pub low_move : L.move ≡ both.low x
  pub low_left : drop L.taken ys ≡ frames_kept both.outer (low_kept above)

module _ {X : Type 0} (P : Pass X) (p q : Program) {Heaps : Heap → Heap → Type 0} (laws : Laws P Heaps p q) (t : ℕ) (es : List (Pair X)) (rest : AllFit P p q es) (most : ℕ)
    (w : Twin) (is_idle : Idle w) (fits : TwinFits P w) (x : Value) (h k : Heap) (heaps : Heaps h k) (deep : Tree) (down : List Level) (ys : List Value) where
  abbrev Both : After → After → Type 0
  Both = Same P Heaps p q most w.class w.part w.this es

  -- the context of the lowered program, which may stand further down
  abbrev low : Context
  low = low_deeper P w deep down ys

  abbrev xs : List Value
  xs = up_kept w.rungs

  -- both land alike, or at a special level; or none does anything with the exception
  abbrev pub Landed : Option Landing → Option Landing → Type 0
  Landed None None = Unit {0}
  Landed (Some K) (Some L) = Both (unwinds p h t (up_context w) (ups es) x (Some K)) (unwinds q k t low (lows P es) x (Some L)) ⊎ LandsSpecially P w x K L xs ys
  Landed _ _ = ⊥

  module _ (r : Rung) (rs : List Rung) (first : ℕ) (chain : Chain P w.class w.part w.low_locals first (r ∷ rs)) (owed : rungs_debt P w.class w.part rs + debts P es ≤ most) (n m : ℕ)
      (up_left : drop n xs ≡ r.kept ++ up_kept rs) (low_left : drop m ys ≡ frames_kept r.under (low_kept rs)) where
    above_fits : TwinFits P (over w r rs)
    above_fits = record { chain = chain.5; agree = fits.agree; main = λ e. absurd (true≢false (sym e ∙ is_idle)) }

    abbrev N : ℕ
    N = n + kept (shape r.node) r.child

    up_skips : drop N xs ≡ up_kept rs
    up_skips = skipped n (kept (shape r.node) r.child) xs r.kept (up_kept rs) up_left chain.2

    abbrev Further : Type 0
    Further = (a b : ℕ) → drop a xs ≡ up_kept rs → drop b ys ≡ low_kept rs → Landed (landing x a (up_levels rs)) (landing x b (low_levels rs))

    -- the program does nothing at this level
    passed_over : caught r.child x (shape r.node) ≡ None → landing x n (up_levels (r ∷ rs)) ≡ landing x N (up_levels rs)
    passed_over none = ap (λ o. caught_at o N (record { node = r.node; child = r.child }) (up_levels rs) (landing x N (up_levels rs))) none

    neither : CatchesNone r → Further → Landed (landing x n (up_levels (r ∷ rs))) (landing x m (low_levels (r ∷ rs)))
    neither none further =
        let left = frames_left x r.under (low_levels rs) m ys (low_kept rs) none.0 chain.3 low_left in
        rw (passed_over (none.1 x), left.1) (further N left.0 up_skips left.2)

    copied_lands : (M : ℕ) → drop M ys ≡ low_kept rs → P.is_copied w.class w.part (shape r.node) ≡ true → (move : Move) → caught r.child x (shape r.node) ≡ Some move
        → Landed (Some (record { node = r.node; levels = up_levels rs; taken = N; move = move })) (Some (record { node = r.low; levels = low_levels rs; taken = M; move = move }))
    copied_lands M low_skips copied move is =
        let o = over w r rs in
        let counts : Fits ⊥ 0 (shape r.node) move = subst (SomeFits (shape r.node)) is (caught_fits r.child x (shape r.node)) in
        inl (rw (up_skips, low_skips) (carry P p q laws t es rest most o is_idle above_fits (chain.0, chain.1) copied owed
        [] r.node r.low (up_levels rs) (low_levels rs) o (refl, refl, inl refl) above_fits owed refl refl h k heaps move
        (ByCatching r.child x is) (widened (Embodied P o (up_context o) (low_context P o)) 0 (shape r.node) move counts)))

    copied : P.is_copied w.class w.part (shape r.node) ≡ true → r.under ≡ copy r → Further → Landed (landing x n (up_levels (r ∷ rs))) (landing x m (low_levels (r ∷ rs)))
    copied is under further =
        let like = (laws.copied w.class w.part r.free r.node r.low chain.0 is).0 in
        let M = m + kept (shape r.low) r.child in
        let kept_is = kept_alike (shape r.node) (shape r.low) like r.child in
        let left : drop m ys ≡ r.kept ++ low_kept rs = low_left ∙ ap (λ u. frames_kept u (low_kept rs)) under in
        let low_skips : drop M ys ≡ low_kept rs = skipped m (kept (shape r.low) r.child) ys r.kept (low_kept rs) left (chain.2 ∙ sym kept_is) in
        let low_is : landing x m (low_levels (r ∷ rs)) ≡ caught_at (caught r.child x (shape r.node)) M (record { node = r.low; child = r.child }) (low_levels rs) (landing x M (low_levels rs))
        = ap (λ u. landing x m (frames_levels u (low_levels rs))) under
        ∙ ap (λ o. caught_at o M (record { node = r.low; child = r.child }) (low_levels rs) (landing x M (low_levels rs))) (caught_alike (shape r.node) (shape r.low) like r.child x) in
        subst (Landed (landing x n (up_levels (r ∷ rs)))) (sym low_is) (on M low_skips (caught r.child x (shape r.node)) refl)
      where
        on : (M : ℕ) → drop M ys ≡ low_kept rs → (o : Option Move) → caught r.child x (shape r.node) ≡ o
            → Landed (caught_at o N (record { node = r.node; child = r.child }) (up_levels rs) (landing x N (up_levels rs))) (caught_at o M (record { node = r.low; child = r.child }) (low_levels rs) (landing x M (low_levels rs)))
        on M low_skips None c = further N M up_skips low_skips
        on M low_skips (Some move) c = copied_lands M low_skips is move c

    special : (free : ℕ) → P.Special w.class w.part r free w.low_locals → CatchesBoth r → Landed (landing x n (up_levels (r ∷ rs))) (landing x m (low_levels (r ∷ rs)))
    special free told both =
        let keeps = keep_join both.inner (both.at ∷ both.outer) (subst FramesKeep both.under chain.3) in
        let outer = frames_levels both.outer (low_levels rs) in
        let left : drop m ys ≡ frames_kept both.inner (both.at.kept ++ frames_kept both.outer (low_kept rs)) = low_left ∙ ap (λ u. frames_kept u (low_kept rs)) both.under ∙ frames_kept_join both.inner (both.at ∷ both.outer) (low_kept rs) in
        let in_at = frames_left x both.inner (record { node = both.at.node; child = both.at.child } ∷ outer) m ys (both.at.kept ++ frames_kept both.outer (low_kept rs)) both.none keeps.0 left in
        let M = in_at.0 + kept (shape both.at.node) both.at.child in
        let low_is : landing x m (low_levels (r ∷ rs)) ≡ Some (record { node = both.at.node; levels = outer; taken = M; move = both.low x })
        = ap (λ u. landing x m (frames_levels u (low_levels rs))) both.under
        ∙ ap (landing x m) (frames_levels_join both.inner (both.at ∷ both.outer) (low_levels rs))
        ∙ in_at.1
        ∙ ap (λ o. caught_at o M (record { node = both.at.node; child = both.at.child }) outer (landing x M outer)) (both.low_is x) in
        let up_is : landing x n (up_levels (r ∷ rs)) ≡ Some (record { node = r.node; levels = up_levels rs; taken = N; move = both.up x })
        = ap (λ o. caught_at o N (record { node = r.node; child = r.child }) (up_levels rs) (landing x N (up_levels rs))) (both.up_is x) in
        rw (up_is, low_is) (inr (record {
          rung = r;
          above = rs;
          both = both;
          fits = above_fits;
          at = (chain.0, chain.1);
          free = free;
          special = told;
          up_node = refl;
          up_above = refl;
          up_move = refl;
          up_left = up_skips;
          low_node = refl;
          low_above = refl;
          low_move = refl;
          low_left = skipped in_at.0 (kept (shape both.at.node) both.at.child) ys both.at.kept (frames_kept both.outer (low_kept rs)) in_at.2 keeps.1.0;
        }))

    level : Further → Landed (landing x n (up_levels (r ∷ rs))) (landing x m (low_levels (r ∷ rs)))
    level further = ⊎_elim (λ a. copied a.0 a.1 further) (λ a. ⊎_elim (λ none. neither none further) (λ both. special first a.1 both) a.2) chain.4

  -- the exception goes up the rungs
  unwound : (rs : List Rung) (v : Twin) → Chain P w.class w.part w.low_locals v.free rs → (n m : ℕ) → drop n xs ≡ up_kept rs → drop m ys ≡ low_kept rs
      → rungs_debt P w.class w.part rs + debts P es ≤ most → Landed (landing x n (up_levels rs)) (landing x m (low_levels rs))
  unwound [] v chain n m up_left low_left owed = tt
  unwound (r ∷ rs) v chain n m up_left low_left owed =
      level r rs v.free chain (omega (arith, owed)) n m up_left low_left
      (λ a b c d. unwound rs (over w r rs) chain.5 a b c d (omega (arith, owed)))

-- THE LAW, where an exception comes to both. The lowered program may stand further down, in frames that do nothing with it. Either
-- a node does something with it: then both programs make the same move, or land at a special level; or it leaves both contexts
module _ {X : Type 0} (P : Pass X) (p q : Program) {Heaps : Heap → Heap → Type 0} (laws : Laws P Heaps p q) (t : ℕ) (es : List (Pair X)) (rest : AllFit P p q es) (most : ℕ)
    (w : Twin) (is_idle : Idle w) (fits : TwinFits P w) (owed : rungs_debt P w.class w.part w.rungs + debts P es ≤ most) (x : Value) (h k : Heap) (heaps : Heaps h k)
    (fs : List Frame) (none : NoneCatches fs) (keep : FramesKeep fs) (deep : Tree) where
  abbrev pub down : List Level
  down = frames_levels fs (low_levels w.rungs)

  abbrev pub left : List Value
  left = frames_kept fs (low_kept w.rungs)

  pub copied_lands_both : Landed P p q laws t es rest most w is_idle fits x h k heaps deep down left (landing x 0 (up_levels w.rungs)) (landing x 0 down)
  copied_lands_both =
      let passed = frames_left x fs (low_levels w.rungs) 0 left (low_kept w.rungs) none keep refl in
      rw passed.1 (unwound P p q laws t es rest most w is_idle fits x h k heaps deep down left w.rungs w fits.chain 0 passed.0 refl passed.2 owed)

  -- where no node does anything with it, it leaves both contexts
  abbrev pub Thrown : Type 0
  Thrown =
      Same P Heaps p q most w.class w.part w.this es (next_of p h t (up_context w ∷ ups es) None (Some x)) (next_of q k t (low_deeper P w deep down left ∷ lows P es) None (Some x))
      ⊎ ((K : Landing) × (L : Landing) × (landing x 0 (up_levels w.rungs) ≡ Some K) × (landing x 0 down ≡ Some L) × LandsSpecially P w x K L (up_kept w.rungs) left)

  pub copied_throws : P.is_left w.class w.part ≡ true → EndTogether (ups es) (lows P es) → Thrown
  copied_throws is_left end = on (landing x 0 (up_levels w.rungs)) (landing x 0 down) refl refl copied_lands_both
    where
      within : debts P es ≤ most
      within = omega (arith, owed)

      on : (o u : Option Landing) → landing x 0 (up_levels w.rungs) ≡ o → landing x 0 down ≡ u → Landed P p q laws t es rest most w is_idle fits x h k heaps deep down left o u → Thrown
      on None None up low c = inl (rw (up, low) (copied_escapes P p q laws t es rest most within end w is_left deep down left h k heaps x))
      on (Some K) (Some L) up low (inl same) = inl (rw (up, low) same)
      on (Some K) (Some L) up low (inr lands) = inr (K, L, up, low, lands)
      on None (Some L) up low c = absurd c
      on (Some K) None up low c = absurd c
