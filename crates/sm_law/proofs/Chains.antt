-- Twins that a move makes out of one: where a node has ended, where its child begins, where a local is set.
use Rattle.std.proofs.Common.{◌≡◌, ℕ, inl, inr, ⊎_elim, Bool, true, false, List, [], ◌∷◌, ◌++◌, length, take, drop, Option, Some, slice_set, refl, sym, subst, ◌∙◌, true≢false}
use Rattle.std.proofs.Math.Seq.{take-append_seam, drop-append_seam}
use Rattle.ty_prog.specs.Tree.{Tree}
use Rattle.ty_prog.specs.Shape.{shape}
use Rattle.ty_prog.specs.declared.program.Program.{Program}
use Rattle.sm_state.specs.declared.heap.Heap.{Heap}
use Rattle.sm_state.specs.declared.part.Part.{Part}
use Rattle.sm_state.specs.declared.value.Value.{Value}
use Rattle.sm_rule.specs.declared.moves.Move.{Move}
use Rattle.sm_rule.specs.Moves.{kept}
use Rattle.sm_rule.specs.Step.{awaits_object}
use Rattle.sm_law.specs.Twins.{Rung, Twin}
use Rattle.sm_law.specs.Passes.{Pass, Chain, AtNode, TwinFits}
use Rattle.sm_law.specs.Copies.{Alike, CopiedMove, local_set, Laws}
use Rattle.sm_law.proofs.Alike.{kept_alike}

-- a node's own operands are the latest
pub own_taken : {A : Type 0} (n : ℕ) (os rest : List A) → length os ≡ n → take n (os ++ rest) ≡ os
own_taken n os rest e = subst (λ k. take k (os ++ rest) ≡ os) e (take-append_seam os rest)

pub own_dropped : {A : Type 0} (n : ℕ) (os rest : List A) → length os ≡ n → drop n (os ++ rest) ≡ rest
own_dropped n os rest e = subst (λ k. drop k (os ++ rest) ≡ rest) e (drop-append_seam os rest)

-- the twin with other rungs
abbrev pub at_rungs : Twin → List Rung → Twin
at_rungs w rs = record w { rungs = rs }

-- the twin where the node of a rung has ended
abbrev pub over : Twin → Rung → List Rung → Twin
over w r rs = record w { node = r.node; low = r.low; free = r.free; rungs = rs }

-- the rung of a copied node over its child
abbrev pub copied_rung : Twin → ℕ → List Value → Rung
copied_rung w i os = record {
  node = w.node;
  low = w.low;
  free = w.free;
  child = i;
  kept = os;
  under = record { node = w.low; child = i; kept = os } ∷ [];
}

-- the twin at a child of a copied node
abbrev pub below : Twin → ℕ → List Value → Tree → Tree → Twin
below w i os n m = record w { node = n; low = m; rungs = copied_rung w i os ∷ w.rungs }

-- the twin with a local set in both contexts
abbrev pub set : ℕ → Value → Twin → Twin
set x v w = record w { up_locals = slice_set w.up_locals x (Some v); low_locals = slice_set w.low_locals x (Some v) }

-- the node doesn't wait for the object of `main`
abbrev pub Idle : Twin → Type 0
Idle w = awaits_object w.this w.part ≡ false

module _ {X : Type 0} (P : Pass X) where
  idle : {A : Type 0} (w : Twin) → Idle w → awaits_object w.this w.part ≡ true → A
  idle w is e = absurd (true≢false (sym e ∙ is))

  -- a twin below a rung is idle
  pub idle_below : (w : Twin) (r : Rung) (rs : List Rung) → TwinFits P (at_rungs w (r ∷ rs)) → Idle w
  idle_below w r rs fits = on (awaits_object w.this w.part) refl
    where
      on : (b : Bool) → awaits_object w.this w.part ≡ b → Idle w
      on false is = is
      on true is = absurd (cons_nil (fits.main is).0)
        where
          cons_nil : r ∷ rs ≡ [] → ⊥
          cons_nil e = cc

  pub over_at : (w : Twin) (r : Rung) (rs : List Rung) → TwinFits P (at_rungs w (r ∷ rs)) → AtNode P (over w r rs)
  over_at w r rs fits = (fits.chain.0, fits.chain.1)

  pub over_fits : (w : Twin) (r : Rung) (rs : List Rung) → TwinFits P (at_rungs w (r ∷ rs)) → TwinFits P (over w r rs)
  over_fits w r rs fits = record { chain = fits.chain.5; agree = fits.agree; main = idle w (idle_below w r rs fits) }

  -- the rungs fit where locals change that special levels don't rely on
  pub chain_set : (class : ℕ) (part : Part) (f g : List (Option Value)) → ((n : ℕ) (r : Rung) → P.Special class part r n f → P.Special class part r n g)
      → (n : ℕ) (rs : List Rung) → Chain P class part f n rs → Chain P class part g n rs
  chain_set class part f g keeps n [] h = h
  chain_set class part f g keeps n (r ∷ rs) h =
      (h.0, h.1, h.2, h.3, ⊎_elim (λ a. inl a) (λ a. inr (a.0, keeps n r a.1, a.2)) h.4, chain_set class part f g keeps r.free rs h.5)

  module _ (w : Twin) (is_idle : Idle w) (fits : TwinFits P w) (at : AtNode P w) (copied : P.is_copied w.class w.part (shape w.node) ≡ true) (like : Alike (shape w.node) (shape w.low)) where
    -- the rungs with that of a child of a copied node
    pub rung_chain : (i : ℕ) (os : List Value) → length os ≡ kept (shape w.node) i → Chain P w.class w.part w.low_locals w.free (copied_rung w i os ∷ w.rungs)
    rung_chain i os len = (at.0, at.1, len, (len ∙ sym (kept_alike (shape w.node) (shape w.low) like i), tt), inl (copied, refl, refl), fits.chain)

    -- where the node awaits what an act gives
    pub awaiting_fits : (i : ℕ) (os : List Value) → length os ≡ kept (shape w.node) i → TwinFits P (at_rungs w (copied_rung w i os ∷ w.rungs))
    awaiting_fits i os len = record { chain = rung_chain i os len; agree = fits.agree; main = idle w is_idle }

    pub below_fits : (i : ℕ) (os : List Value) (n m : Tree) → length os ≡ kept (shape w.node) i → TwinFits P (below w i os n m)
    below_fits i os n m len = record { chain = rung_chain i os len; agree = fits.agree; main = idle w is_idle }

  module _ (p q : Program) {Heaps : Heap → Heap → Type 0} (laws : Laws P Heaps p q) where
    -- a move of a copied node sets a local
    pub set_fits : (w : Twin) (m : Move) (x : ℕ) (v : Value) → Idle w → CopiedMove P w m → local_set m ≡ Some x → TwinFits P w → TwinFits P (set x v w)
    set_fits w m x v is_idle move is fits = record {
      chain = chain_set w.class w.part w.low_locals (slice_set w.low_locals x (Some v)) (λ n r s. laws.keeps_special w m x v move is n r s) w.free w.rungs fits.chain;
      agree = laws.sets w m x v move is fits.agree;
      main = idle w is_idle;
    }
