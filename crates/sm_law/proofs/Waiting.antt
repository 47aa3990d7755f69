-- A copied node makes the same act in both programs, so both wait where one does, for the same.
use Rattle.std.proofs.Common.{◌≡◌, true, List, ◌∷◌, Some, None, ap, sym, subst, ◌∙◌}
use Rattle.ty_prog.specs.Shape.{shape}
use Rattle.ty_prog.specs.declared.program.Program.{Program}
use Rattle.sm_state.specs.declared.heap.Heap.{Heap}
use Rattle.sm_state.specs.declared.value.Value.{Value}
use Rattle.sm_rule.specs.Moves.{kept, received}
use Rattle.sm_rule.specs.Machine.{act_of, act_at}
use Rattle.sm_rule.specs.Step.{sight}
use Rattle.sm_law.specs.Twins.{Rung, Twin, up_kept, low_kept, copy}
use Rattle.sm_law.specs.Passes.{Pass, up_context, low_context, AtNode, TwinFits, Pair, Plain, ups, lows}
use Rattle.sm_law.specs.Copies.{SeesAlike, Laws}
use Rattle.sm_law.proofs.Alike.{kept_alike, received_alike}
use Rattle.sm_law.proofs.Beginning.{begun_is}
use Rattle.sm_law.proofs.Chains.{own_taken, at_rungs, Idle}
use Rattle.sm_law.proofs.Receiving.{as_copied, as_copied_is}
use Rattle.sm_law.proofs.Seeing.{received_this}

module _ {X : Type 0} (P : Pass X) (p q : Program) {Heaps : Heap → Heap → Type 0} (laws : Laws P Heaps p q) (es : List (Pair X)) where
  -- the act of a copied node that gets the value of its child
  act_received : (w : Twin) (r : Rung) (rs : List Rung) → TwinFits P (at_rungs w (as_copied r ∷ rs)) → P.is_copied w.class w.part (shape r.node) ≡ true → (v : Value)
      → act_at q (lows P (Plain (at_rungs w (as_copied r ∷ rs)) ∷ es)) (Some v) None ≡ act_at p (ups (Plain (at_rungs w (as_copied r ∷ rs)) ∷ es)) (Some v) None
  act_received w r rs fits copied v =
      let like = (laws.copied w.class w.part r.free r.node r.low fits.chain.0 copied).0 in
      let this = P.this_below w.class w.part w.this in
      let n = kept (shape r.node) r.child in
      let m = kept (shape r.low) r.child in
      ap (λ os. act_of (received this r.child v os (shape r.low))) (own_taken m r.kept (low_kept rs) (fits.chain.2 ∙ sym (kept_alike (shape r.node) (shape r.low) like r.child)))
      ∙ ap act_of (received_alike (shape r.node) (shape r.low) like this r.child v r.kept)
      ∙ ap act_of (received_this (shape r.node) w.this this (λ names. laws.this_is w.class w.part (shape r.node) w.this copied names) r.child v r.kept)
      ∙ sym (ap (λ os. act_of (received w.this r.child v os (shape r.node))) (own_taken n r.kept (up_kept rs) fits.chain.2))

  -- THE LAW, of the act of a copied node that gets the value of its child
  pub copied_act : (w : Twin) (r : Rung) (rs : List Rung) → TwinFits P (at_rungs w (r ∷ rs)) → P.is_copied w.class w.part (shape r.node) ≡ true → r.under ≡ copy r → (v : Value)
      → act_at q (low_context P (at_rungs w (r ∷ rs)) ∷ lows P es) (Some v) None ≡ act_at p (up_context (at_rungs w (r ∷ rs)) ∷ ups es) (Some v) None
  copied_act w r rs fits copied under v =
      let is = as_copied_is r under in
      subst (λ z. act_at q (low_context P (at_rungs w (z ∷ rs)) ∷ lows P es) (Some v) None ≡ act_at p (up_context (at_rungs w (z ∷ rs)) ∷ ups es) (Some v) None) is
      (act_received w r rs (subst (λ z. TwinFits P (at_rungs w (z ∷ rs))) (sym is) fits) copied v)

  -- THE LAW, of the act with which a copied node begins
  pub copied_begin_act : (w : Twin) → TwinFits P w → Idle w → AtNode P w → P.is_copied w.class w.part (shape w.node) ≡ true
      → SeesAlike (sight (up_context w)) (sight (low_context P w)) (shape w.node)
      → act_at q (low_context P w ∷ lows P es) None None ≡ act_at p (up_context w ∷ ups es) None None
  copied_begin_act w fits is_idle at copied view =
      rw (laws.awaits w.class w.part w.this, is_idle)
      (ap act_of (begun_is P p q laws w fits at copied view))
