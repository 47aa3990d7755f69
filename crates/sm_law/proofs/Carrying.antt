-- A move of a copied node, as both programs make it: by cases on the move.
use Rattle.std.proofs.Common.{◌≡◌, ℕ, inl, inr, true, false, List, [], ◌∷◌, ◌++◌, length, Option, Some, None, option_map, slice_get, refl, sym, subst, true≢false}
use Rattle.ty_prog.specs.Tree.{Tree, children}
use Rattle.ty_prog.specs.Shape.{shape}
use Rattle.ty_prog.specs.declared.program.Program.{Program}
use Rattle.sm_state.specs.declared.heap.Heap.{Heap}
use Rattle.sm_state.specs.declared.module.Module.TheVariants as modules
use Rattle.sm_state.specs.declared.thread.Context.{Context}
use Rattle.sm_state.specs.declared.thread.Level.{Level}
use Rattle.sm_state.specs.declared.value.Value.{Value}
use Rattle.sm_state.specs.declared.value.Value.TheVariants as value
use Rattle.sm_state.specs.Layout.{made}
use Rattle.sm_rule.specs.declared.act.Act.{Act}
use Rattle.sm_rule.specs.declared.answer.Edit.TheVariants as edit
use Rattle.sm_rule.specs.declared.moves.Move.{Move}
use Rattle.sm_rule.specs.declared.moves.Move.TheVariants as move
use Rattle.sm_rule.specs.Edits.{edited}
use Rattle.sm_rule.specs.Moves.{kept}
use Rattle.sm_rule.specs.Perform.{perform}
use Rattle.sm_rule.specs.Machine.{act_of}
use Rattle.sm_rule.specs.Step.{After, goes, throws, fails, done, opens, parameter, at_child, child_begins, advances, carried}
use Rattle.sm_law.specs.Twins.{Twin, up_levels, up_kept, low_levels, low_kept}
use Rattle.sm_law.specs.Passes.{Pass, up_context, low_context, AtNode, TwinFits, Pair, ups, lows, AllFit}
use Rattle.sm_law.specs.Copies.{Makes, CopiedMove, local_set, Laws, InPart, Same}
use Rattle.sm_law.proofs.Chains.{copied_rung, at_rungs, set, Idle, awaiting_fits, set_fits}
use Rattle.sm_law.proofs.Going.{Owed, up_child, low_child, go_on, go_throw, go_value, go_fail, down, owed_below, go_child, go_stage, go_done}
use Rattle.sm_placed.proofs.Fitting.{Fits}

-- whether the object that is made is that of both contexts as they stand, which have none yet
abbrev pub Embodied : {X : Type 0} → Pass X → Twin → Context → Context → Type 0
Embodied P w c d = (up_context w ≡ c) × (low_context P w ≡ d) × (w.this ≡ value.Null)

module _ {X : Type 0} (P : Pass X) (p q : Program) {Heaps : Heap → Heap → Type 0} (laws : Laws P Heaps p q) (t : ℕ)
    (es : List (Pair X)) (rest : AllFit P p q es) (most : ℕ) (w : Twin) (is_idle : Idle w) (fits : TwinFits P w) (at : AtNode P w)
    (copied : P.is_copied w.class w.part (shape w.node) ≡ true) (owed : Owed P p q laws es rest most w.class w.part w.this w) where
  abbrev Both : After → After → Type 0
  Both = Same P Heaps p q most w.class w.part w.this es

  inside : InPart w.class w.part w.this w
  inside = (refl, refl, inl refl)

  -- a child begins with these operands, in the twin as it is, or with a local set
  child : (i : ℕ) (os : List Value) → length os ≡ kept (shape w.node) i → (h k : Heap) → Heaps h k
      → Both (child_begins h (ups es) (option_map (λ n. up_child w i os n) (slice_get (children w.node) i))) (child_begins k (lows P es) (option_map (λ n. low_child P w i os n) (slice_get (children w.low) i)))
  child = go_child P p q laws es rest most w.class w.part w.this w inside is_idle fits at copied owed

  -- a part of a case class's object is looked at
  opened : (h k : Heap) → Heaps h k → (i : ℕ) (of : Value) → 2 ≡ kept (shape w.node) i → (o : Option Value)
      → Both (opens h (up_context w) (ups es) w.node (up_levels w.rungs) i of o) (opens k (low_context P w) (lows P es) w.low (low_levels w.rungs) i of o)
  opened h k heaps i of two None = go_value P p q laws es rest most w.class w.part w.this w inside fits owed (value.Bool false) h k heaps
  opened h k heaps i of two (Some v) = child i (v ∷ of ∷ []) two h k heaps

  -- both contexts stand where these operands are kept, at whatever nodes; and exceptions are thrown in the twin s
  module _ (own : List Value) (un ln : Tree) (ul ll : List Level) (s : Twin) (in_s : InPart w.class w.part w.this s) (fits_s : TwinFits P s) (owed_s : Owed P p q laws es rest most w.class w.part w.this s)
      (up_is : up_context s ≡ record (up_context w) { node = un; levels = ul; operands = own ++ up_kept w.rungs })
      (low_is : low_context P s ≡ record (low_context P w) { node = ln; levels = ll; operands = own ++ low_kept w.rungs }) where
    abbrev up_c : Context
    up_c = record (up_context w) { node = un; levels = ul; operands = own ++ up_kept w.rungs }

    abbrev low_c : Context
    low_c = record (low_context P w) { node = ln; levels = ll; operands = own ++ low_kept w.rungs }

    -- what the operands are, and what is owed where an object is made
    abbrev pub Counts : Move → Type 0
    Counts = Fits (Embodied P w up_c low_c) (length own) (shape w.node)

    abbrev Carried : Heap → Heap → Move → Type 0
    Carried h k m = Both (carried p h t up_c (up_context w) w.node (up_levels w.rungs) (ups es) m) (carried q k t low_c (low_context P w) w.low (low_levels w.rungs) (lows P es) m)

    -- the contexts as they stand are those of s
    standing : (F : Context → Context → Type 0) → F (up_context s) (low_context P s) → F up_c low_c
    standing F f = subst (λ c. F c low_c) up_is (subst (λ d. F (up_context s) d) low_is f)

    move_of : (m : Move) → Makes w.this (shape w.node) m → CopiedMove P w m
    move_of m makes = record { at = at; copied = copied; makes = makes }

    sets : (h k : Heap) → Heaps h k → (m : Move) → CopiedMove P w m → (x : ℕ) (v : Value) → local_set m ≡ Some x → TwinFits P (set x v w)
    sets h k heaps m move_is x v is = set_fits P p q laws w m x v is_idle move_is is fits

    awaits : (h k : Heap) → Heaps h k → (i : ℕ) (os : List Value) → length os ≡ kept (shape w.node) i → (m : Move) (a : Act) → CopiedMove P w m → act_of m ≡ Some a
        → Both (done p h up_c (up_context (at_rungs w (copied_rung w i os ∷ w.rungs))) (ups es) (perform p h t a))
        (done q k low_c (low_context P (at_rungs w (copied_rung w i os ∷ w.rungs))) (lows P es) (perform q k t a))
    awaits h k heaps i os len m a move_is is =
        let v = at_rungs w (copied_rung w i os ∷ w.rungs) in
        standing (λ c d. Both (done p h c (up_context v) (ups es) (perform p h t a)) (done q k d (low_context P v) (lows P es) (perform q k t a)))
        (go_done P p q laws es rest most w.class w.part w.this v inside
        (awaiting_fits P w is_idle fits at copied (down P p q laws es rest most w.class w.part w.this w inside is_idle fits at copied owed).0 i os len)
        (owed_below P p q laws es rest most w.class w.part w.this w inside is_idle fits at copied owed i os w.node w.low)
        s in_s fits_s owed_s h k heaps (perform p h t a) (perform q k t a) (laws.performs w m a t h k move_is is heaps))

    -- the object of a constructor is made
    embodied : (h k : Heap) → Heaps h k → CopiedMove P w move.Embody → Embodied P w up_c low_c → Carried h k move.Embody
    embodied h k heaps move_is is = subst (λ c. Both (carried p h t c (up_context w) w.node (up_levels w.rungs) (ups es) move.Embody) (carried q k t low_c (low_context P w) w.low (low_levels w.rungs) (lows P es) move.Embody)) is.0
        (subst (λ d. Both (carried p h t (up_context w) (up_context w) w.node (up_levels w.rungs) (ups es) move.Embody) (carried q k t d (low_context P w) w.low (low_levels w.rungs) (lows P es) move.Embody)) is.1
        (rw (laws.objects h k heaps) with_object))
      where
        v : Value
        v = value.Ref (length h.objects)

        h1 : Heap
        h1 = edited (edit.AddObject (made p.classes w.class None)) h

        k1 : Heap
        k1 = edited (edit.AddObject (made q.classes w.class None)) k

        with_fits : TwinFits P (record w { this = v })
        with_fits = record { chain = fits.chain; agree = laws.embodies w v move_is fits.agree; main = λ e. absurd (true≢false (sym e)) }

        with_object : Both (goes h1 (record (up_context w) { this = v } ∷ ups es) None) (goes k1 (record (low_context P w) { this = v } ∷ lows P es) None)
        with_object = subst (λ z. Both (goes h1 (record (up_context w) { this = v } ∷ ups es) None) (goes k1 (record (low_context P w) { this = z } ∷ lows P es) None)) (laws.object_is w move.Embody v move_is refl)
            (go_on P p q laws es rest most w.class w.part w.this (record w { this = v }) (refl, refl, inr is.2) with_fits owed None None at h1 k1 (laws.makes w.class None h k heaps))

    -- both programs make the same move
    pub carry : (h k : Heap) → Heaps h k → (m : Move) → Makes w.this (shape w.node) m → Counts m → Carried h k m
    carry h k heaps move.Stuck makes fit = tt
    carry h k heaps move.Pass makes fit = tt
    carry h k heaps (move.End v) makes fit = go_value P p q laws es rest most w.class w.part w.this w inside fits owed v h k heaps
    carry h k heaps (move.Store x v gives) makes fit =
        go_value P p q laws es rest most w.class w.part w.this (set x v w) inside (sets h k heaps (move.Store x v gives) (move_of _ makes) x v refl) owed gives h k heaps
    carry h k heaps (move.Turn i) makes fit = child i own (sym fit) h k heaps
    carry h k heaps (move.Fresh i) makes fit = child i [] (sym fit) h k heaps
    carry h k heaps (move.Keep i v) makes fit = child i (v ∷ own) (sym fit) h k heaps
    carry h k heaps (move.Bind x v i) makes fit =
        go_child P p q laws es rest most w.class w.part w.this (set x v w) inside is_idle (sets h k heaps (move.Bind x v i) (move_of _ makes) x v refl) at copied owed i [] (sym fit) h k heaps
    carry h k heaps (move.Shelve i raised v) makes fit = child i (v ∷ value.Bool raised ∷ []) (sym fit) h k heaps
    carry h k heaps (move.Open class i of) makes fit =
        subst (λ o. Both (opens h (up_context w) (ups es) w.node (up_levels w.rungs) i of (parameter p h class i of)) (opens k (low_context P w) (lows P es) w.low (low_levels w.rungs) i of o))
        (sym (laws.parameters w class i of h k (move_of _ makes) heaps)) (opened h k heaps i of (sym fit) (parameter p h class i of))
    carry h k heaps (move.Hold class) makes fit =
        rw (laws.objects h k heaps) (child 0 (value.Ref (length h.objects) ∷ []) (sym fit) (edited (edit.AddObject (made p.classes class None)) h) (edited (edit.AddObject (made q.classes class None)) k) (laws.makes class None h k heaps))
    carry h k heaps (move.Do a) makes fit =
        standing (λ c d. Both (carried p h t c (up_context w) w.node (up_levels w.rungs) (ups es) (move.Do a)) (carried q k t d (low_context P w) w.low (low_levels w.rungs) (lows P es) (move.Do a)))
        (go_done P p q laws es rest most w.class w.part w.this w inside fits owed s in_s fits_s owed_s h k heaps (perform p h t a) (perform q k t a) (laws.performs w (move.Do a) a t h k (move_of _ makes) refl heaps))
    carry h k heaps (move.Again None i a) makes fit = awaits h k heaps i [] (sym fit.0) (move.Again None i a) a (move_of _ makes) refl
    carry h k heaps (move.Again (Some v) i a) makes fit = awaits h k heaps i (v ∷ []) (sym fit.0) (move.Again (Some v) i a) a (move_of _ makes) refl
    carry h k heaps move.Embody makes fit = embodied h k heaps (move_of _ makes) fit
    carry h k heaps (move.Advance i) makes fit =
        go_stage P p q laws es rest most w.class w.part w.this w inside is_idle fits at copied owed i (laws.object_is w (move.Advance i) w.this (move_of _ makes) refl) (sym fit) h k heaps
    carry h k heaps (move.Publish i) makes fit =
        let object = laws.object_is w (move.Publish i) w.this (move_of _ makes) refl in
        subst (λ z. Both (carried p h t up_c (up_context w) w.node (up_levels w.rungs) (ups es) (move.Publish i)) (advances (edited (edit.Module w.class (modules.Running t z)) k) (low_context P w) (lows P es) (at_child w.low (low_levels w.rungs) i (low_context P w)))) (sym object)
        (go_stage P p q laws es rest most w.class w.part w.this w inside is_idle fits at copied owed i object (sym fit)
        (edited (edit.Module w.class (modules.Running t w.this)) h) (edited (edit.Module w.class (modules.Running t w.this)) k) (laws.publishes w i t h k (move_of _ makes) heaps))
    carry h k heaps (move.Raise x) makes fit =
        standing (λ c d. Both (throws h (c ∷ ups es) x) (throws k (d ∷ lows P es) x)) (go_throw P p q laws es rest most w.class w.part w.this s in_s fits_s owed_s x h k heaps)
    carry h k heaps (move.Fail class message) makes fit =
        standing (λ c d. Both (fails p h (c ∷ ups es) class message) (fails q k (d ∷ lows P es) class message)) (go_fail P p q laws es rest most w.class w.part w.this s in_s fits_s owed_s class message h k heaps)
