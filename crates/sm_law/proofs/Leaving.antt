-- The law where a value or an exception leaves both contexts.
use Rattle.std.proofs.Common.{◌≡◌, ℕ, ◌≤◌, inr, Bool, true, false, List, [], ◌∷◌, length, Some, None, refl, ap, sym, subst}
use Rattle.ty_prog.specs.Tree.{Tree}
use Rattle.ty_prog.specs.declared.program.Program.{Program}
use Rattle.sm_state.specs.declared.heap.Heap.{Heap}
use Rattle.sm_state.specs.declared.thread.Context.{Context}
use Rattle.sm_state.specs.declared.thread.Level.{Level}
use Rattle.sm_state.specs.declared.value.Value.{Value}
use Rattle.sm_state.specs.declared.value.Value.TheVariants as value
use Rattle.sm_state.specs.Layout.{made}
use Rattle.sm_rule.specs.declared.answer.Edit.TheVariants as edit
use Rattle.sm_rule.specs.Edits.{edited}
use Rattle.sm_rule.specs.Step.{After, goes, throws, value_for, noted, leaves, dropped, is_replaced, uncaught, escapes, escapes_as, unwinds, next_of}
use Rattle.sm_law.specs.Twins.{Twin}
use Rattle.sm_law.specs.Passes.{Pass, up_context, low_context, low_deeper, Pair, Plain, Extra, Before, ups, lows, AllFit, TopAtNode, debts}
use Rattle.sm_law.specs.Copies.{Laws, Same, EndTogether}
use Rattle.sm_law.proofs.Chains.{Idle}

module _ {X : Type 0} (P : Pass X) where
  -- a value for no context at its node
  value_top : (es : List (Pair X)) (v : Value) → TopAtNode P es (value_for (ups es) v) None
  value_top [] v = tt
  value_top (Plain w ∷ es) v = tt
  value_top (Extra x ∷ es) v = tt
  value_top (Before e b f c ∷ es) v = tt

  thrown_top : (es : List (Pair X)) (x : Value) → TopAtNode P es None (Some x)
  thrown_top [] x = tt
  thrown_top (Plain w ∷ es) x = tt
  thrown_top (Extra y ∷ es) x = tt
  thrown_top (Before e b f c ∷ es) x = tt

  -- contexts are left below both or below none
  value_for_same : (cs ds : List Context) → EndTogether cs ds → (v : Value) → value_for ds v ≡ value_for cs v
  value_for_same [] [] end v = refl
  value_for_same (c ∷ cs) (d ∷ ds) end v = refl
  value_for_same [] (d ∷ ds) end v = absurd end
  value_for_same (c ∷ cs) [] end v = absurd end

  module _ (p q : Program) {Heaps : Heap → Heap → Type 0} (laws : Laws P Heaps p q) (t : ℕ) (es : List (Pair X)) (rest : AllFit P p q es) (most : ℕ) (owed : debts P es ≤ most)
      (end : EndTogether (ups es) (lows P es)) (w : Twin) where
    abbrev Both : After → After → Type 0
    Both = Same P Heaps p q most w.class w.part w.this es

    -- ---- a value

    leaves_both : P.is_left w.class w.part ≡ true → (h k : Heap) → Heaps h k → (v : Value)
        → Both (leaves p h (up_context w) (ups es) v false) (leaves q k (low_context P w) (lows P es) v false)
    leaves_both left h k heaps v =
        subst (λ z. Both (leaves p h (up_context w) (ups es) v false) (goes (edited (noted q k (low_context P w) v (P.part_below w.class w.part)) k) (lows P es) z)) (sym (value_for_same (ups es) (lows P es) end v))
        (record {
          threads = record { pairs = es; value = value_for (ups es) v; thrown = None };
          up = refl;
          low = refl;
          fit = (rest, value_top es v);
          heaps = laws.notes w v h k left heaps;
          born = tt;
          owed = owed;
          how = inr (inr refl);
        })

    -- THE LAW, where a value leaves both contexts, which are at their roots
    pub copied_leaves : Idle w → P.is_left w.class w.part ≡ true → (h k : Heap) → Heaps h k → (v : Value) → w.rungs ≡ []
        → Both (next_of p h t (up_context w ∷ ups es) (Some v) None) (next_of q k t (low_context P w ∷ lows P es) (Some v) None)
    copied_leaves is_idle left h k heaps v root =
        rw (root, laws.awaits w.class w.part w.this, is_idle) (leaves_both left h k heaps v)

    -- ---- an exception

    -- both threads have ended
    ended : (h k : Heap) → Heaps h k → (x : Value) → ups es ≡ [] → lows P es ≡ []
        → Both (goes (edited (uncaught p h t x) h) [] None) (goes (edited (uncaught q k t x) k) [] None)
    ended h k heaps x up low = record {
      threads = record { pairs = es; value = None; thrown = None };
      up = ap (λ cs. record { contexts = cs; value = None; thrown = None }) (sym up);
      low = ap (λ cs. record { contexts = cs; value = None; thrown = None }) (sym low);
      fit = (rest, ended_top es up);
      heaps = laws.reports t x h k heaps;
      born = tt;
      owed = owed;
      how = inr (inr refl);
    }
      where
        ended_top : (es : List (Pair X)) → ups es ≡ [] → TopAtNode P es None None
        ended_top [] up = tt
        ended_top (Plain u ∷ us) up = absurd (cc)
        ended_top (Extra y ∷ us) up = tt
        ended_top (Before e b f c ∷ us) up = tt

    -- the exception goes on below
    goes_on : (h k : Heap) → Heaps h k → (x : Value) → Both (throws h (ups es) x) (throws k (lows P es) x)
    goes_on h k heaps x = record {
      threads = record { pairs = es; value = None; thrown = Some x };
      up = refl;
      low = refl;
      fit = (rest, thrown_top es x);
      heaps = heaps;
      born = tt;
      owed = owed;
      how = inr (inr refl);
    }

    escapes_both : (h k : Heap) → Heaps h k → (x : Value) → Both (escapes p h t x (ups es)) (escapes q k t x (lows P es))
    escapes_both h k heaps x = on (ups es) (lows P es) refl refl end
      where
        on : (cs ds : List Context) → ups es ≡ cs → lows P es ≡ ds → EndTogether cs ds → Both (escapes p h t x cs) (escapes q k t x ds)
        on [] [] up low end = ended h k heaps x up low
        on (c ∷ cs) (d ∷ ds) up low end = subst (λ z. Both (throws h z x) (throws k (d ∷ ds) x)) up
            (subst (λ z. Both (throws h (ups es) x) (throws k z x)) low (goes_on h k heaps x))
        on [] (d ∷ ds) up low end = absurd end
        on (c ∷ cs) [] up low end = absurd end

    escapes_as_both : (h k : Heap) → Heaps h k → (x : Value) (b : Bool) → Both (escapes_as p h t x (ups es) b) (escapes_as q k t x (lows P es) b)
    escapes_as_both h k heaps x false = escapes_both h k heaps x
    escapes_as_both h k heaps x true =
        rw (laws.objects h k heaps) (escapes_both (edited (edit.AddObject (made p.classes 14 (Some value.Null))) h) (edited (edit.AddObject (made q.classes 14 (Some value.Null))) k) (laws.makes 14 (Some value.Null) h k heaps) (value.Ref (length h.objects)))

    -- THE LAW, where an exception leaves both contexts; the lowered program may stand further down
    pub copied_escapes : P.is_left w.class w.part ≡ true → (node : Tree) (levels : List Level) (operands : List Value) (h k : Heap) → Heaps h k → (x : Value)
        → Both (unwinds p h t (up_context w) (ups es) x None) (unwinds q k t (low_deeper P w node levels operands) (lows P es) x None)
    copied_escapes left node levels operands h k heaps x =
        let below = low_deeper P w node levels operands in
        let part = P.part_below w.class w.part in
        subst (λ b. Both (unwinds p h t (up_context w) (ups es) x None) (escapes_as q (edited (dropped q k below part) k) t x (lows P es) b)) (sym (laws.replaces w node levels operands x h k left heaps))
        (escapes_as_both (edited (dropped p h (up_context w) w.part) h) (edited (dropped q k below part) k) (laws.drops w node levels operands h k left heaps) x (is_replaced p h (up_context w) x w.part))
