-- What comes of a move where both threads go on: in the same part, in one that is entered, or with an exception.
use Rattle.std.proofs.Common.{◌≡◌, ℕ, ◌+◌, ◌≤◌, inl, inr, true, List, [], ◌∷◌, ◌++◌, length, replicate, ◌-◌, Option, Some, None, option_map, slice_get, refl, arith, ap, sym, subst}
use Rattle.runs.specs.System.{Goes}
use Rattle.ty_prog.specs.Tree.{Tree, children}
use Rattle.ty_prog.specs.Shape.{shape}
use Rattle.ty_prog.specs.declared.program.Program.{Program}
use Rattle.sm_state.specs.declared.entry.Body.{Body}
use Rattle.sm_state.specs.declared.entry.Entry.{Entry}
use Rattle.sm_state.specs.declared.heap.Heap.{Heap}
use Rattle.sm_state.specs.declared.part.Part.{Part}
use Rattle.sm_state.specs.declared.thread.Context.{Context}
use Rattle.sm_state.specs.declared.thread.Thread.{Thread}
use Rattle.sm_state.specs.declared.value.Value.{Value}
use Rattle.sm_state.specs.declared.value.Value.TheVariants as value
use Rattle.sm_state.specs.Entering.{body_of, entered, begun_thread}
use Rattle.sm_state.specs.Layout.{made}
use Rattle.sm_rule.specs.declared.answer.Answer.{Answer}
use Rattle.sm_rule.specs.declared.answer.Answer.TheVariants as answer
use Rattle.sm_rule.specs.declared.answer.Edit.TheVariants as edit
use Rattle.sm_rule.specs.Edits.{edited}
use Rattle.sm_rule.specs.Moves.{kept}
use Rattle.sm_rule.specs.Step.{After, goes, throws, fails, enters, starts, starts_in, started, done, child_begins, advances}
use Rattle.sm_law.specs.Twins.{Twin, up_levels, up_kept, low_levels, low_kept}
use Rattle.sm_law.specs.Passes.{Pass, up_context, low_context, AtNode, TwinFits, Pair, Plain, Before, ups, lows, PairFits, AllFit, TopAtNode, rungs_debt, debts}
use Rattle.sm_law.specs.Copies.{Alike, ChildLows, EntryFits, EntriesFit, SameAnswer, Laws, BornFit, InPart, Same}
use Rattle.sm_law.proofs.Chains.{below, Idle, below_fits}

-- the children of the nodes of a twin as contexts, with these operands on top
abbrev pub up_child : Twin → ℕ → List Value → Tree → Context
up_child w i os n = record (up_context w) { node = n; levels = record { node = w.node; child = i } ∷ up_levels w.rungs; operands = os ++ up_kept w.rungs }

abbrev pub low_child : {X : Type 0} → Pass X → Twin → ℕ → List Value → Tree → Context
low_child P w i os n = record (low_context P w) { node = n; levels = record { node = w.low; child = i } ∷ low_levels w.rungs; operands = os ++ low_kept w.rungs }

module _ {X : Type 0} (P : Pass X) (p q : Program) {Heaps : Heap → Heap → Type 0} (laws : Laws P Heaps p q) where
  -- a part that both enter, as a pair
  record EnteredPair (a b : Entry) (B : Body) : Type 0 where
    pair : Pair X
    body : Body
    there : body_of q b.class b.part ≡ Some body
    up : (es : List (Pair X)) → ups (pair ∷ es) ≡ entered a B ∷ ups es
    low : (es : List (Pair X)) → lows P (pair ∷ es) ≡ entered b body ∷ lows P es
    fits : PairFits P p q pair
    top : (es : List (Pair X)) → TopAtNode P (pair ∷ es) None None
    owes : (es : List (Pair X)) → debts P (pair ∷ es) ≡ debts P es

  entered_plainly : (a : Entry) (B : Body) → P.is_entered a.class a.part ≡ true → body_of p a.class a.part ≡ Some B
      → EnteredPair a (record { class = a.class; part = P.part_below a.class a.part; this = P.this_below a.class a.part a.this; args = a.args }) B
  entered_plainly a B is there =
      let w = laws.enters a.class a.part B is there in
      let twin : Twin = record {
        class = a.class;
        part = a.part;
        this = a.this;
        node = B.node;
        low = w.0.node;
        free = P.fresh a.class a.part;
        rungs = [];
        up_locals = a.args ++ replicate (B.locals - length a.args) None;
        low_locals = a.args ++ replicate (w.0.locals - length a.args) None;
      } in record {
        pair = Plain twin;
        body = w.0;
        there = w.1;
        up = λ es. refl;
        low = λ es. refl;
        fits = record { chain = refl; agree = w.3 a.this a.args; main = λ e. (refl, (w.2, tt)) };
        top = λ es. (w.2, tt);
        owes = λ es. omega arith;
      }

  entered_pair : (a b : Entry) (B : Body) → EntryFits P a b → body_of p a.class a.part ≡ Some B → EnteredPair a b B
  entered_pair a b B (inl is) there = subst (λ z. EnteredPair a z B) (sym is.1) (entered_plainly a B is.0 there)
  entered_pair a b B (inr ahead) there =
      let c = laws.ahead a b B ahead there in record {
        pair = Before a B b c.0;
        body = c.0;
        there = c.1;
        up = λ es. refl;
        low = λ es. refl;
        fits = (ahead, there, c.1);
        top = λ es. tt;
        owes = λ es. refl;
      }

  module _ (es : List (Pair X)) (rest : AllFit P p q es) (most class : ℕ) (part : Part) (this : Value) where
    abbrev pub Both : After → After → Type 0
    Both = Same P Heaps p q most class part this es

    -- a twin that both may go on at
    abbrev pub Owed : Twin → Type 0
    Owed w = rungs_debt P w.class w.part w.rungs + debts P es ≤ most

    -- both go on in the part
    pub go_on : (w : Twin) → InPart class part this w → TwinFits P w → Owed w → (v x : Option Value) → TopAtNode P (Plain w ∷ es) v x → (h k : Heap) → Heaps h k
        → Both (Goes (record { heap = h; thread = record { contexts = up_context w ∷ ups es; value = v; thrown = x }; begun = None }))
        (Goes (record { heap = k; thread = record { contexts = low_context P w ∷ lows P es; value = v; thrown = x }; begun = None }))
    go_on w inside fits owed v x top h k heaps = record {
      threads = record { pairs = Plain w ∷ es; value = v; thrown = x };
      up = refl;
      low = refl;
      fit = ((fits, rest), top);
      heaps = heaps;
      born = tt;
      owed = owed;
      how = inl (w, inside, refl);
    }

    -- with an exception
    pub go_throw : (w : Twin) → InPart class part this w → TwinFits P w → Owed w → (x : Value) (h k : Heap) → Heaps h k
        → Both (throws h (up_context w ∷ ups es) x) (throws k (low_context P w ∷ lows P es) x)
    go_throw w inside fits owed x h k heaps = go_on w inside fits owed None (Some x) tt h k heaps

    -- with a value
    pub go_value : (w : Twin) → InPart class part this w → TwinFits P w → Owed w → (v : Value) (h k : Heap) → Heaps h k
        → Both (goes h (up_context w ∷ ups es) (Some v)) (goes k (low_context P w ∷ lows P es) (Some v))
    go_value w inside fits owed v h k heaps = go_on w inside fits owed (Some v) None tt h k heaps

    -- with a new exception
    pub go_fail : (w : Twin) → InPart class part this w → TwinFits P w → Owed w → (c : ℕ) (message : Value) (h k : Heap) → Heaps h k
        → Both (fails p h (up_context w ∷ ups es) c message) (fails q k (low_context P w ∷ lows P es) c message)
    go_fail w inside fits owed c message h k heaps =
        rw (laws.objects h k heaps) (go_throw w inside fits owed (value.Ref (length h.objects)) (edited (edit.AddObject (made p.classes c (Some message))) h) (edited (edit.AddObject (made q.classes c (Some message))) k) (laws.makes c (Some message) h k heaps))

    -- ---- a child of a copied node

    module _ (w : Twin) (inside : InPart class part this w) (is_idle : Idle w) (fits : TwinFits P w) (at : AtNode P w) (copied : P.is_copied w.class w.part (shape w.node) ≡ true) (owed : Owed w) where
      -- what the law of copied nodes of the pass says of the node
      abbrev pub down : Alike (shape w.node) (shape w.low) × ((i : ℕ) → ChildLows P w.class w.part w.free (slice_get (children w.node) i) (slice_get (children w.low) i))
      down = laws.copied w.class w.part w.free w.node w.low at.0 copied

      pub owed_below : (i : ℕ) (os : List Value) (n m : Tree) → Owed (below w i os n m)
      owed_below i os n m = rw copied (omega (arith, owed))

      to_child : (i : ℕ) (os : List Value) → length os ≡ kept (shape w.node) i → (h k : Heap) → Heaps h k → (n m : Tree) → slice_get (children w.node) i ≡ Some n → P.Lows w.class w.part w.free n m
          → Both (goes h (up_child w i os n ∷ ups es) None) (goes k (low_child P w i os m ∷ lows P es) None)
      to_child i os len h k heaps n m is lows_n =
          go_on (below w i os n m) inside (below_fits P w is_idle fits at copied down.0 i os n m len) (owed_below i os n m) None None (lows_n, is) h k heaps

      -- both go to the child with a number
      pub go_child : (i : ℕ) (os : List Value) → length os ≡ kept (shape w.node) i → (h k : Heap) → Heaps h k
          → Both (child_begins h (ups es) (option_map (λ n. up_child w i os n) (slice_get (children w.node) i))) (child_begins k (lows P es) (option_map (λ n. low_child P w i os n) (slice_get (children w.low) i)))
      go_child i os len h k heaps = on (slice_get (children w.node) i) (slice_get (children w.low) i) refl (down.1 i)
        where
          on : (o u : Option Tree) → slice_get (children w.node) i ≡ o → ChildLows P w.class w.part w.free o u
              → Both (child_begins h (ups es) (option_map (λ n. up_child w i os n) o)) (child_begins k (lows P es) (option_map (λ n. low_child P w i os n) u))
          on None u is c = tt
          on (Some n) (Some m) is c = to_child i os len h k heaps n m is c
          on (Some n) None is c = absurd c

      -- the same where the node may end with its object
      pub go_stage : (i : ℕ) → P.this_below w.class w.part w.this ≡ w.this → 0 ≡ kept (shape w.node) i → (h k : Heap) → Heaps h k
          → Both (advances h (up_context w) (ups es) (option_map (λ n. up_child w i [] n) (slice_get (children w.node) i))) (advances k (low_context P w) (lows P es) (option_map (λ n. low_child P w i [] n) (slice_get (children w.low) i)))
      go_stage i object len h k heaps = on (slice_get (children w.node) i) (slice_get (children w.low) i) refl (down.1 i)
        where
          on : (o u : Option Tree) → slice_get (children w.node) i ≡ o → ChildLows P w.class w.part w.free o u
              → Both (advances h (up_context w) (ups es) (option_map (λ n. up_child w i [] n) o)) (advances k (low_context P w) (lows P es) (option_map (λ n. low_child P w i [] n) u))
          on None None is c = subst (λ z. Both (goes h (up_context w ∷ ups es) (Some w.this)) (goes k (low_context P w ∷ lows P es) (Some z))) (sym object) (go_value w inside fits owed w.this h k heaps)
          on (Some n) (Some m) is c = to_child i [] len h k heaps n m is c
          on (Some n) None is c = absurd c
          on None (Some m) is c = absurd c

    -- ---- what comes of an act

    module _ (w : Twin) (inside : InPart class part this w) (fits : TwinFits P w) (owed : Owed w) where
      -- a part is entered
      pub go_enter : (a b : Entry) → EntryFits P a b → (h k : Heap) → Heaps h k
          → Both (enters h (up_context w) (ups es) a (body_of p a.class a.part)) (enters k (low_context P w) (lows P es) b (body_of q b.class b.part))
      go_enter a b same h k heaps = on (body_of p a.class a.part) refl
        where
          in_pair : (B : Body) → EnteredPair a b B → Both (enters h (up_context w) (ups es) a (Some B)) (enters k (low_context P w) (lows P es) b (body_of q b.class b.part))
          in_pair B e = rw e.there (record {
            threads = record { pairs = e.pair ∷ Plain w ∷ es; value = None; thrown = None };
            up = ap (λ cs. record { contexts = cs; value = None; thrown = None }) (sym (e.up (Plain w ∷ es)));
            low = ap (λ cs. record { contexts = cs; value = None; thrown = None }) (sym (e.low (Plain w ∷ es)));
            fit = ((e.fits, (fits, rest)), e.top (Plain w ∷ es));
            heaps = heaps;
            born = tt;
            owed = rw (e.owes (Plain w ∷ es)) owed;
            how = inr (inl (e.pair, w, inside, refl));
          })

          on : (o : Option Body) → body_of p a.class a.part ≡ o → Both (enters h (up_context w) (ups es) a o) (enters k (low_context P w) (lows P es) b (body_of q b.class b.part))
          on None is = tt
          on (Some B) is = in_pair B (entered_pair a b B same is)

      -- a thread begins
      go_start : (h k : Heap) → Heaps h k → (x y : Thread) → BornFit P p q (Some x) (Some y)
          → Both (starts h (up_context w) (ups es) x) (starts k (low_context P w) (lows P es) y)
      go_start h k heaps x y born = record {
        threads = record { pairs = Plain w ∷ es; value = Some value.Unit; thrown = None };
        up = refl;
        low = refl;
        fit = ((fits, rest), tt);
        heaps = heaps;
        born = born;
        owed = owed;
        how = inl (w, inside, refl);
      }

      go_start_in : (a b : Entry) → EntryFits P a b → (h k : Heap) → Heaps h k
          → Both (starts_in h (up_context w) (ups es) a (body_of p a.class a.part)) (starts_in k (low_context P w) (lows P es) b (body_of q b.class b.part))
      go_start_in a b same h k heaps = on (body_of p a.class a.part) refl
        where
          in_pair : (B : Body) → EnteredPair a b B → Both (starts_in h (up_context w) (ups es) a (Some B)) (starts_in k (low_context P w) (lows P es) b (body_of q b.class b.part))
          in_pair B e = rw e.there (go_start h k heaps (begun_thread (Some (entered a B))) (begun_thread (Some (entered b e.body))) (
            record { pairs = e.pair ∷ []; value = None; thrown = None },
            ap (λ cs. record { contexts = cs; value = None; thrown = None }) (sym (e.up [])),
            ap (λ cs. record { contexts = cs; value = None; thrown = None }) (sym (e.low [])),
            ((e.fits, tt), e.top []),
            e.owes [],
          ))

          on : (o : Option Body) → body_of p a.class a.part ≡ o → Both (starts_in h (up_context w) (ups es) a o) (starts_in k (low_context P w) (lows P es) b (body_of q b.class b.part))
          on None is = tt
          on (Some B) is = in_pair B (entered_pair a b B same is)

      go_started : (a b : Option Entry) → EntriesFit P a b → (h k : Heap) → Heaps h k → Both (started p h (up_context w) (ups es) a) (started q k (low_context P w) (lows P es) b)
      go_started None None same h k heaps = go_start h k heaps (begun_thread None) (begun_thread None) (record { pairs = []; value = None; thrown = None }, refl, refl, (tt, tt), refl)
      go_started (Some a) (Some b) same h k heaps = go_start_in a b same h k heaps
      go_started None (Some b) same h k heaps = absurd same
      go_started (Some a) None same h k heaps = absurd same

      -- what comes of an answer, where an exception is thrown in the contexts of s
      pub go_done : (s : Twin) → InPart class part this s → TwinFits P s → Owed s → (h k : Heap) → Heaps h k → (a b : Answer) → SameAnswer P Heaps h k a b
          → Both (done p h (up_context s) (up_context w) (ups es) a) (done q k (low_context P s) (low_context P w) (lows P es) b)
      go_done s in_s fits_s owed_s h k heaps (answer.Gives d v) (answer.Gives e u) same =
          subst (λ z. Both (goes (edited d h) (up_context w ∷ ups es) (Some v)) (goes (edited e k) (low_context P w ∷ lows P es) (Some z))) (sym same.0) (go_value w inside fits owed v (edited d h) (edited e k) same.1)
      go_done s in_s fits_s owed_s h k heaps (answer.Enters d a) (answer.Enters e b) same = go_enter a b same.0 (edited d h) (edited e k) same.1
      go_done s in_s fits_s owed_s h k heaps (answer.Starts d a) (answer.Starts e b) same = go_started a b same.0 (edited d h) (edited e k) same.1
      go_done s in_s fits_s owed_s h k heaps (answer.Throws c m) (answer.Throws d n) same = rw (same.0, same.1) (go_fail s in_s fits_s owed_s c m h k heaps)
      go_done s in_s fits_s owed_s h k heaps answer.Waits answer.Waits same = tt
      go_done s in_s fits_s owed_s h k heaps answer.Wrong b same = tt
      go_done s in_s fits_s owed_s h k heaps (answer.Gives d v) answer.Waits same = absurd same
      go_done s in_s fits_s owed_s h k heaps (answer.Gives d v) _ same = absurd same
      go_done s in_s fits_s owed_s h k heaps (answer.Enters d a) answer.Waits same = absurd same
      go_done s in_s fits_s owed_s h k heaps (answer.Enters d a) _ same = absurd same
      go_done s in_s fits_s owed_s h k heaps (answer.Starts d a) answer.Waits same = absurd same
      go_done s in_s fits_s owed_s h k heaps (answer.Starts d a) _ same = absurd same
      go_done s in_s fits_s owed_s h k heaps (answer.Throws c m) answer.Waits same = absurd same
      go_done s in_s fits_s owed_s h k heaps (answer.Throws c m) _ same = absurd same
      go_done s in_s fits_s owed_s h k heaps answer.Waits answer.Wrong same = absurd same
      go_done s in_s fits_s owed_s h k heaps answer.Waits _ same = absurd same
