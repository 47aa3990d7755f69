-- The law where a copied node begins, and where `main` reads its object.
use Rattle.std.proofs.Common.{◌≡◌, ℕ, ◌+◌, ◌≤◌, inl, inr, true, List, [], ◌∷◌, Some, None, refl, ap, sym, subst, ◌∙◌, true≢false}
use Rattle.ty_prog.specs.Shape.{shape}
use Rattle.ty_prog.specs.declared.program.Program.{Program}
use Rattle.sm_state.specs.declared.heap.Heap.{Heap}
use Rattle.sm_state.specs.declared.part.Part.{Part}
use Rattle.sm_state.specs.declared.value.Value.{Value}
use Rattle.sm_state.specs.declared.value.Value.TheVariants as value
use Rattle.sm_rule.specs.declared.act.Act.TheVariants as act
use Rattle.sm_rule.specs.Moves.{begun}
use Rattle.sm_rule.specs.Perform.{perform}
use Rattle.sm_rule.specs.Step.{After, awaits_object, begins, begins_or_reads, carried, child_number, done, goes, hands_up, leaves, sight, next_of}
use Rattle.sm_law.specs.Twins.{Twin, up_levels, low_levels}
use Rattle.sm_law.specs.Passes.{Pass, up_context, low_context, AtNode, TwinFits, Pair, ups, lows, AllFit, rungs_debt, debts}
use Rattle.sm_law.specs.Copies.{ByBeginning, SeesAlike, Laws, Same}
use Rattle.sm_law.proofs.Alike.{begun_alike}
use Rattle.sm_law.proofs.Chains.{Idle}
use Rattle.sm_law.proofs.Going.{go_done, go_on}
use Rattle.sm_law.proofs.Carrying.{Embodied, carry}
use Rattle.sm_law.proofs.Seeing.{sees}
use Rattle.sm_placed.proofs.Fitting.{begun_fits}

-- only `main` before its object is there waits for it: its object is null
null_of : (v : Value) (part : Part) → awaits_object v part ≡ true → v ≡ value.Null
null_of value.Null part e = refl
null_of value.Unit part e = absurd (true≢false (sym e))
null_of _ part e = absurd (true≢false (sym e))

-- a copied node that sees the same begins with the move that it began with
module _ {X : Type 0} (P : Pass X) (p q : Program) {Heaps : Heap → Heap → Type 0} (laws : Laws P Heaps p q) (w : Twin) (fits : TwinFits P w) (at : AtNode P w)
    (copied : P.is_copied w.class w.part (shape w.node) ≡ true) (view : SeesAlike (sight (up_context w)) (sight (low_context P w)) (shape w.node)) where
  pub begun_is : begun (sight (low_context P w)) (shape w.low) ≡ begun (sight (up_context w)) (shape w.node)
  begun_is =
      begun_alike (shape w.node) (shape w.low) (laws.copied w.class w.part w.free w.node w.low at.0 copied).0 (sight (low_context P w))
      ∙ sees (sight (up_context w)) (sight (low_context P w)) refl (shape w.node) (λ names. laws.this_is w.class w.part (shape w.node) w.this copied names)
      (λ x reads. laws.reads w (child_number (up_levels w.rungs)) x at copied reads fits.agree) view

module _ {X : Type 0} (P : Pass X) (p q : Program) {Heaps : Heap → Heap → Type 0} (laws : Laws P Heaps p q) (t : ℕ) (es : List (Pair X)) (rest : AllFit P p q es) (most : ℕ)
    (w : Twin) (fits : TwinFits P w) (owed : rungs_debt P w.class w.part w.rungs + debts P es ≤ most) where
  abbrev Both : After → After → Type 0
  Both = Same P Heaps p q most w.class w.part w.this es

  -- both nodes make the same move
  module _ (is_idle : Idle w) (at : AtNode P w) (copied : P.is_copied w.class w.part (shape w.node) ≡ true)
      (view : SeesAlike (sight (up_context w)) (sight (low_context P w)) (shape w.node)) where
    begins_both : (h k : Heap) → Heaps h k → Both (begins p h t (up_context w) (ups es)) (begins q k t (low_context P w) (lows P es))
    begins_both h k heaps =
        let m = begun (sight (up_context w)) (shape w.node) in
        subst (λ z. Both (begins p h t (up_context w) (ups es)) (carried q k t (low_context P w) (low_context P w) w.low (low_levels w.rungs) (lows P es) z)) (sym (begun_is P p q laws w fits at copied view))
        (carry P p q laws t es rest most w is_idle fits at copied owed [] w.node w.low (up_levels w.rungs) (low_levels w.rungs) w (refl, refl, inl refl) fits owed refl refl h k heaps m
        (ByBeginning (sight (up_context w)) refl refl)
        (begun_fits (Embodied P w (up_context w) (low_context P w)) (sight (up_context w)) (λ null. (refl, refl, null)) (shape w.node)))

    -- THE LAW, where a copied node begins
    pub copied_begins : (h k : Heap) → Heaps h k → Both (next_of p h t (up_context w ∷ ups es) None None) (next_of q k t (low_context P w ∷ lows P es) None None)
    copied_begins h k heaps =
        rw (laws.awaits w.class w.part w.this, is_idle) (begins_both h k heaps)

  -- ---- `main` before its object is there

  module _ (reads : awaits_object w.this w.part ≡ true) where
    low_reads : awaits_object (P.this_below w.class w.part w.this) (P.part_below w.class w.part) ≡ true
    low_reads = laws.awaits w.class w.part w.this ∙ reads

    -- THE LAW, where `main` reads its object
    pub main_reads : (h k : Heap) → Heaps h k → Both (next_of p h t (up_context w ∷ ups es) None None) (next_of q k t (low_context P w ∷ lows P es) None None)
    main_reads h k heaps =
        subst (λ b. Both (begins_or_reads p h t (up_context w) (ups es) b) (next_of q k t (low_context P w ∷ lows P es) None None)) (sym reads)
        (subst (λ b. Both (done p h (up_context w) (up_context w) (ups es) (perform p h t (act.ReadModule p.main))) (begins_or_reads q k t (low_context P w) (lows P es) b)) (sym low_reads)
        (go_done P p q laws es rest most w.class w.part w.this w (refl, refl, inl refl) fits owed w (refl, refl, inl refl) fits owed h k heaps
        (perform p h t (act.ReadModule p.main)) (perform q k t (act.ReadModule q.main)) (laws.main_reads t h k heaps)))

    up_gets : (h : Heap) (v : Value) → w.rungs ≡ [] → next_of p h t (up_context w ∷ ups es) (Some v) None ≡ goes h (record (up_context w) { this = v } ∷ ups es) None
    up_gets h v root =
        ap (λ rs. hands_up p h t (up_context w) (ups es) v (up_levels rs)) root ∙ ap (leaves p h (up_context w) (ups es) v) reads

    low_gets : (k : Heap) (v : Value) → w.rungs ≡ [] → next_of q k t (low_context P w ∷ lows P es) (Some v) None ≡ goes k (record (low_context P w) { this = v } ∷ lows P es) None
    low_gets k v root =
        ap (λ rs. hands_up q k t (low_context P w) (lows P es) v (low_levels rs)) root ∙ ap (leaves q k (low_context P w) (lows P es) v) low_reads

    -- THE LAW, where `main` gets its object
    pub main_gets : (h k : Heap) → Heaps h k → (v : Value) → w.rungs ≡ [] → Both (next_of p h t (up_context w ∷ ups es) (Some v) None) (next_of q k t (low_context P w ∷ lows P es) (Some v) None)
    main_gets h k heaps v root =
        let object = laws.main_is w v reads fits.agree in
        let with_object : Twin = record w { this = v } in
        let both : Both (goes h (record (up_context w) { this = v } ∷ ups es) None) (goes k (record (low_context P w) { this = v } ∷ lows P es) None)
        = subst (λ z. Both (goes h (record (up_context w) { this = v } ∷ ups es) None) (goes k (record (low_context P w) { this = z } ∷ lows P es) None)) object.0
        (go_on P p q laws es rest most w.class w.part w.this with_object (refl, refl, inr (null_of w.this w.part reads))
        (record { chain = fits.chain; agree = object.1; main = λ e. fits.main reads }) owed None None (fits.main reads).1 h k heaps) in
        subst (λ z. Both z (next_of q k t (low_context P w ∷ lows P es) (Some v) None)) (sym (up_gets h v root))
        (subst (Both (goes h (record (up_context w) { this = v } ∷ ups es) None)) (sym (low_gets k v root)) both)
