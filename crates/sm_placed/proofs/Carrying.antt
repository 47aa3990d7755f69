-- A move leaves its thread at nodes of the parts of its contexts, and so does each step.
use Rattle.std.proofs.Common.{◌≡◌, ℕ, zero, suc, ◌+◌, ◌-◌, ◌≤◌, inl, inr, ⊎_elim, Bool, true, false, List, [], ◌∷◌, ◌++◌, length, take, drop, replicate, Option, Some, None, option_map, slice_get, slice_set, refl, arith, ap, sym, subst, ◌∙◌, length-append, length-drop, length-set}
use Rattle.std.proofs.lemmas.List.{length-replicate}
use Rattle.std.specs.List.{AllByRecursion}
use Rattle.ty_prog.specs.Tree.{Tree, ExprTree, CaseTree, PatternTree, ConstructorTree, StageTree, ExprLevel, children, expr_parts, handler_children}
use Rattle.ty_prog.specs.Shape.{ExprShape, shape, expr_form, handler_form}
use Rattle.ty_prog.specs.declared.expr.Expr.{Expr, out-Expr}
use Rattle.ty_prog.specs.declared.catch.Catch.TheOpen.{Expr-F}
use Rattle.ty_prog.specs.declared.program.Program.{Program}
use Rattle.sm_state.specs.declared.entry.Body.{Body}
use Rattle.sm_state.specs.declared.entry.Entry.{Entry}
use Rattle.sm_state.specs.declared.heap.Heap.{Heap}
use Rattle.sm_state.specs.declared.thread.Context.{Context}
use Rattle.sm_state.specs.declared.thread.Level.{Level}
use Rattle.sm_state.specs.declared.value.Value.{Value}
use Rattle.sm_state.specs.declared.value.Value.TheVariants as value
use Rattle.sm_state.specs.declared.module.Module.TheVariants as modules
use Rattle.sm_state.specs.Entering.{body_of, entered}
use Rattle.sm_state.specs.Layout.{made}
use Rattle.sm_rule.specs.declared.act.Act.TheVariants as act
use Rattle.sm_rule.specs.declared.answer.Answer.{Answer}
use Rattle.sm_rule.specs.declared.answer.Answer.TheVariants as answer
use Rattle.sm_rule.specs.declared.answer.Edit.TheVariants as edit
use Rattle.sm_rule.specs.declared.moves.Move.{Move}
use Rattle.sm_rule.specs.declared.moves.Move.TheVariants as move
use Rattle.sm_rule.specs.Edits.{edited}
use Rattle.sm_rule.specs.Moves.{kept, begun, received, passed, caught}
use Rattle.sm_rule.specs.Perform.{perform}
use Rattle.sm_rule.specs.Step.{goes, enters, starts_in, started, done, at_child, child_begins, advances, parameter, opens, with_own, carried, sight, begins, ended_at, passes, carried_or_passed, receives, awaits_object, noted, value_for, leaves, hands_up, caught_at, landing, dropped, escapes_as, is_replaced, unwinds, begins_or_reads, next_of}
use Rattle.sm_placed.specs.Placed.{StandsBelow, kept_by, AtNode, StandsOrAwaits, Placed, ContextsPlaced, AfterPlaced}
use Rattle.sm_placed.proofs.Fitting.{Fits, IsCase, own_count, SomeFits, received_fits, begun_fits, passed_fits, caught_fits}

-- a context at a node is also one to which a value may come
pub placed_of : (p : Program) (c : Context) → AtNode p c → Placed p c
placed_of p c at = record { body = at.body; of_part = at.of_part; stands = inl at.stands; operands = at.operands; locals = at.locals }

-- a part as it is entered
pub entered_at : (p : Program) (entry : Entry) (b : Body) → body_of p entry.class entry.part ≡ Some b → AtNode p (entered entry b)
entered_at p entry b is =
    let unset : Option Value = None in
    let all : length (entry.args ++ replicate (b.locals - length entry.args) unset) ≡ length entry.args + length (replicate (b.locals - length entry.args) unset) = length-append entry.args (replicate (b.locals - length entry.args) None) in
    let more : length (replicate (b.locals - length entry.args) unset) ≡ b.locals - length entry.args = length-replicate (b.locals - length entry.args) None in
    record { body = b; of_part = is; stands = refl; operands = refl; locals = omega (arith, all, more) }

-- a case is no first child of a node that has cases
level_passed_first : (level : ExprLevel) (child : Tree) (operands : List Value) → slice_get (expr_parts handler_children ExprTree CaseTree level) 0 ≡ Some child → IsCase (shape child)
    → Fits ⊥ (kept (ExprShape (expr_form handler_form level)) 0) (ExprShape (expr_form handler_form level)) (passed 0 operands (ExprShape (expr_form handler_form level)))
level_passed_first (Expr-F.Match of cases) child operands is case = absurd (first_is of child is case)
  where
    tree_or : Tree → Option Tree → Tree
    tree_or d None = d
    tree_or d (Some x) = x

    first_is : (e : Expr) (child : Tree) → Some (ExprTree e) ≡ Some child → IsCase (shape child) → ⊥
    first_is e child is case = subst (λ x. IsCase (shape x)) (sym (ap (tree_or child) is)) case
level_passed_first (Expr-F.Try body handler last) child operands is case = absurd (first_is body child is case)
  where
    tree_or : Tree → Option Tree → Tree
    tree_or d None = d
    tree_or d (Some x) = x

    first_is : (e : Expr) (child : Tree) → Some (ExprTree e) ≡ Some child → IsCase (shape child) → ⊥
    first_is e child is case = subst (λ x. IsCase (shape x)) (sym (ap (tree_or child) is)) case
level_passed_first (Expr-F.Int n) child operands is case = tt
level_passed_first _ child operands is case = tt

passed_first : (tree child : Tree) (operands : List Value) → slice_get (children tree) 0 ≡ Some child → IsCase (shape child) → Fits ⊥ (kept (shape tree) 0) (shape tree) (passed 0 operands (shape tree))
passed_first (ExprTree e) child operands is case = level_passed_first (out-Expr e) child operands is case
passed_first (CaseTree c) child operands is case = tt
passed_first (PatternTree p) child operands is case = tt
passed_first (ConstructorTree class) child operands is case = tt
passed_first (StageTree stage) child operands is case = tt

passed_all : (tree child : Tree) (i : ℕ) (operands : List Value) → slice_get (children tree) i ≡ Some child → IsCase (shape child) → Fits ⊥ (kept (shape tree) i) (shape tree) (passed i operands (shape tree))
passed_all tree child zero operands is case = passed_first tree child operands is case
passed_all tree child (suc i) operands is case = passed_fits ⊥ i operands (shape tree)

module _ (p : Program) (t : ℕ) (cs : List Context) (rest : AllByRecursion (Placed p) cs) where
  -- ---- a move of the node `tree` below these levels, where the context has these operands when the node has ended

  module _ (c : Context) (tree : Tree) (levels : List Level) (os : List Value) (at : AtNode p (record c { node = tree; levels = levels; operands = os })) where
    abbrev over : Context
    over = record c { node = tree; levels = levels; operands = os }

    abbrev child : Tree → ℕ → List Value → List (Option Value) → Context
    child n i operands locals = record c { node = n; levels = record { node = tree; child = i } ∷ levels; operands = operands; locals = locals }

    child_at : (i : ℕ) (operands : List Value) (locals : List (Option Value)) → length operands ≡ kept (shape tree) i + kept_by levels → at.body.locals ≤ length locals
        → (n : Tree) → slice_get (children tree) i ≡ Some n → AtNode p (child n i operands locals)
    child_at i operands locals count more n is = record { body = at.body; of_part = at.of_part; stands = (is, at.stands); operands = count; locals = more }

    child_placed : (h : Heap) (i : ℕ) (operands : List Value) (locals : List (Option Value)) → length operands ≡ kept (shape tree) i + kept_by levels → at.body.locals ≤ length locals
        → AfterPlaced p (child_begins h cs (at_child tree levels i (record c { operands = operands; locals = locals })))
    child_placed h i operands locals count more = on (slice_get (children tree) i) refl
      where
        on : (o : Option Tree) → slice_get (children tree) i ≡ o → AfterPlaced p (child_begins h cs (option_map (λ n. child n i operands locals) o))
        on None is = tt
        on (Some n) is = ((child_at i operands locals count more n is, rest), tt)

    advances_placed : (h : Heap) (i : ℕ) → kept (shape tree) i ≡ 0 → AfterPlaced p (advances h over cs (at_child tree levels i over))
    advances_placed h i none = on (slice_get (children tree) i) refl
      where
        on : (o : Option Tree) → slice_get (children tree) i ≡ o → AfterPlaced p (advances h over cs (option_map (λ n. child n i os c.locals) o))
        on None is = ((placed_of p over at, rest), tt)
        on (Some n) is = ((child_at i os c.locals (omega (arith, none, at.operands)) at.locals n is, rest), tt)

    opens_placed : (h : Heap) (i : ℕ) (of : Value) (o : Option Value) → kept (shape tree) i ≡ 2 → AfterPlaced p (opens h over cs tree levels i of o)
    opens_placed h i of None two = ((placed_of p over at, rest), tt)
    opens_placed h i of (Some v) two = child_placed h i (v ∷ of ∷ os) c.locals (omega (arith, two, at.operands)) at.locals

  enters_placed : (h : Heap) (e : Context) (entry : Entry) → Placed p e → (o : Option Body) → body_of p entry.class entry.part ≡ o → AfterPlaced p (enters h e cs entry o)
  enters_placed h e entry ended None is = tt
  enters_placed h e entry ended (Some b) is = ((entered_at p entry b is, (ended, rest)), tt)

  starts_placed : (h : Heap) (e : Context) (entry : Entry) → Placed p e → (o : Option Body) → body_of p entry.class entry.part ≡ o → AfterPlaced p (starts_in h e cs entry o)
  starts_placed h e entry ended None is = tt
  starts_placed h e entry ended (Some b) is = ((ended, rest), (entered_at p entry b is, tt))

  started_placed : (h : Heap) (e : Context) → Placed p e → (o : Option Entry) → AfterPlaced p (started p h e cs o)
  started_placed h e ended None = ((ended, rest), tt)
  started_placed h e ended (Some entry) = starts_placed h e entry ended (body_of p entry.class entry.part) refl

  done_placed : (h : Heap) (c e : Context) → Placed p c → Placed p e → (a : Answer) → AfterPlaced p (done p h c e cs a)
  done_placed h c e stands ended (answer.Gives change v) = ((ended, rest), tt)
  done_placed h c e stands ended (answer.Enters change entry) = enters_placed (edited change h) e entry ended (body_of p entry.class entry.part) refl
  done_placed h c e stands ended (answer.Starts change entry) = started_placed (edited change h) e ended entry
  done_placed h c e stands ended (answer.Throws class message) = ((stands, rest), tt)
  done_placed h c e stands ended answer.Waits = tt
  done_placed h c e stands ended answer.Wrong = tt

  with_own_count : (own : Option Value) (os : List Value) → length (with_own own os) ≡ own_count own + length os
  with_own_count None os = omega arith
  with_own_count (Some v) os = omega arith

  carry : (Made : Type 0) (c : Context) (tree : Tree) (levels : List Level) (os : List Value) → (Made → AtNode p c) → Placed p c → (at : AtNode p (record c { node = tree; levels = levels; operands = os })) → (own : ℕ) → length c.operands ≡ own + kept_by levels
      → (h : Heap) (m : Move) → Fits Made own (shape tree) m → AfterPlaced p (carried p h t c (record c { node = tree; levels = levels; operands = os }) tree levels cs m)
  carry Made c tree levels os owed stands at own count h move.Stuck fits = tt
  carry Made c tree levels os owed stands at own count h (move.End v) fits = ((placed_of p _ at, rest), tt)
  carry Made c tree levels os owed stands at own count h (move.Store x v gives) fits = ((record { body = at.body; of_part = at.of_part; stands = inl at.stands; operands = at.operands; locals = rw (length-set c.locals x (Some v)) at.locals }, rest), tt)
  carry Made c tree levels os owed stands at own count h (move.Turn i) fits = child_placed c tree levels os at h i c.operands c.locals (omega (arith, fits, count)) at.locals
  carry Made c tree levels os owed stands at own count h (move.Fresh i) fits = child_placed c tree levels os at h i os c.locals (omega (arith, fits, at.operands)) at.locals
  carry Made c tree levels os owed stands at own count h (move.Keep i v) fits = child_placed c tree levels os at h i (v ∷ c.operands) c.locals (omega (arith, fits, count)) at.locals
  carry Made c tree levels os owed stands at own count h (move.Bind x v i) fits = child_placed c tree levels os at h i os (slice_set c.locals x (Some v)) (omega (arith, fits, at.operands)) (rw (length-set c.locals x (Some v)) at.locals)
  carry Made c tree levels os owed stands at own count h (move.Shelve i raised v) fits = child_placed c tree levels os at h i (v ∷ value.Bool raised ∷ os) c.locals (omega (arith, fits, at.operands)) at.locals
  carry Made c tree levels os owed stands at own count h (move.Open class i of) fits = opens_placed c tree levels os at h i of (parameter p h class i of) fits
  carry Made c tree levels os owed stands at own count h (move.Hold class) fits = child_placed c tree levels os at (edited (edit.AddObject (made p.classes class None)) h) 0 (value.Ref (length h.objects) ∷ os) c.locals (omega (arith, fits, at.operands)) at.locals
  carry Made c tree levels os owed stands at own count h (move.Do a) fits = done_placed h c _ stands (placed_of p _ at) (perform p h t a)
  carry Made c tree levels os owed stands at own count h (move.Again v i a) fits =
      done_placed h c _ stands
      (record { body = at.body; of_part = at.of_part; stands = inr (refl, fits.1, at.stands); operands = omega (arith, with_own_count v os, fits.0, at.operands); locals = at.locals })
      (perform p h t a)
  carry Made c tree levels os owed stands at own count h move.Embody fits =
      let m = owed fits in
      ((record { body = m.body; of_part = m.of_part; stands = m.stands; operands = m.operands; locals = m.locals }, rest), tt)
  carry Made c tree levels os owed stands at own count h (move.Advance i) fits = advances_placed c tree levels os at h i fits
  carry Made c tree levels os owed stands at own count h (move.Publish i) fits = advances_placed c tree levels os at (edited (edit.Module c.class (modules.Running t c.this)) h) i fits
  carry Made c tree levels os owed stands at own count h (move.Raise x) fits = ((stands, rest), tt)
  carry Made c tree levels os owed stands at own count h (move.Fail class message) fits = ((stands, rest), tt)
  carry Made c tree levels os owed stands at own count h move.Pass fits = tt

  -- ---- a node begins

  begins_placed : (h : Heap) (c : Context) → AtNode p c → AfterPlaced p (begins p h t c cs)
  begins_placed h c at = carry (AtNode p c) c c.node c.levels c.operands (λ a. a) (placed_of p c at) at 0 (omega (arith, at.operands)) h (begun (sight c) (shape c.node)) (begun_fits (AtNode p c) (sight c) (λ e. at) (shape c.node))

  begins_or_reads_placed : (h : Heap) (c : Context) (b : Bool) → AtNode p c → AfterPlaced p (begins_or_reads p h t c cs b)
  begins_or_reads_placed h c true at = done_placed h c c (placed_of p c at) (placed_of p c at) (perform p h t (act.ReadModule p.main))
  begins_or_reads_placed h c false at = begins_placed h c at

  -- ---- a node gets a value

  -- the node of the innermost level has ended
  over_at : (c : Context) (l : Level) (levels : List Level) → Placed p c → c.levels ≡ l ∷ levels → AtNode p (ended_at c (kept (shape l.node) l.child) l levels)
  over_at c l levels placed is =
      let all : length c.operands ≡ kept (shape l.node) l.child + kept_by levels = placed.operands ∙ ap kept_by is in
      let dropped : length (drop (kept (shape l.node) l.child) c.operands) ≡ length c.operands - kept (shape l.node) l.child = length-drop (kept (shape l.node) l.child) c.operands in
      let stands : StandsOrAwaits placed.body.node c.node (l ∷ levels) = subst (StandsOrAwaits placed.body.node c.node) is placed.stands in
      record {
        body = placed.body;
        of_part = placed.of_part;
        stands = ⊎_elim (λ a. a.1) (λ b. b.2) stands;
        operands = omega (arith, all, dropped);
        locals = placed.locals;
      }

  passes_placed : (h : Heap) (c : Context) (levels : List Level) → AtNode p c → c.levels ≡ levels → IsCase (shape c.node) → AfterPlaced p (passes p h t c levels cs)
  passes_placed h c [] at is case = tt
  passes_placed h c (l ∷ levels) at is case =
      let placed = placed_of p c at in
      let all : length c.operands ≡ kept (shape l.node) l.child + kept_by levels = at.operands ∙ ap kept_by is in
      let stands : StandsBelow at.body.node c.node (l ∷ levels) = subst (StandsBelow at.body.node c.node) is at.stands in
      carry ⊥ c l.node levels (drop (kept (shape l.node) l.child) c.operands) (λ b. absurd b) placed (over_at c l levels placed is) (kept (shape l.node) l.child) all h
      (passed l.child (take (kept (shape l.node) l.child) c.operands) (shape l.node))
      (passed_all l.node c.node l.child (take (kept (shape l.node) l.child) c.operands) stands.0 case)

  carried_or_passed_placed : (c : Context) (l : Level) (levels : List Level) → Placed p c → c.levels ≡ l ∷ levels → (h : Heap) (m : Move) → Fits ⊥ (kept (shape l.node) l.child) (shape l.node) m
      → AfterPlaced p (carried_or_passed p h t c (ended_at c (kept (shape l.node) l.child) l levels) l.node levels cs m)
  carried_or_passed_placed c l levels placed is h move.Pass fits = passes_placed h (ended_at c (kept (shape l.node) l.child) l levels) levels (over_at c l levels placed is) refl fits
  carried_or_passed_placed c l levels placed is h move.Stuck fits = tt
  carried_or_passed_placed c l levels placed is h m fits =
      carry ⊥ c l.node levels (drop (kept (shape l.node) l.child) c.operands) (λ b. absurd b) placed (over_at c l levels placed is) (kept (shape l.node) l.child) (placed.operands ∙ ap kept_by is) h m fits

  receives_placed : (h : Heap) (c : Context) (v : Value) (l : Level) (levels : List Level) → Placed p c → c.levels ≡ l ∷ levels → AfterPlaced p (receives p h t c cs v l levels)
  receives_placed h c v l levels placed is =
      carried_or_passed_placed c l levels placed is h (received c.this l.child v (take (kept (shape l.node) l.child) c.operands) (shape l.node))
      (received_fits ⊥ c.this l.child v (take (kept (shape l.node) l.child) c.operands) (shape l.node))

  -- ---- a context is left

  value_goes : (h : Heap) (v : Value) → AfterPlaced p (goes h cs (value_for cs v))
  value_goes h v = on cs rest
    where
      on : (ds : List Context) → AllByRecursion (Placed p) ds → AfterPlaced p (goes h ds (value_for ds v))
      on [] all = (tt, tt)
      on (d ∷ ds) all = (all, tt)

  at_root : (root node : Tree) (levels : List Level) → levels ≡ [] → StandsOrAwaits root node levels → StandsBelow root node levels
  at_root root node [] is stands = ⊎_elim (λ a. a) (λ b. absurd b) stands
  at_root root node (l ∷ levels) is stands = absurd (cc)

  leaves_placed : (h : Heap) (c : Context) (v : Value) (b : Bool) → Placed p c → c.levels ≡ [] → AfterPlaced p (leaves p h c cs v b)
  leaves_placed h c v true placed is =
      ((record { body = placed.body; of_part = placed.of_part; stands = at_root placed.body.node c.node c.levels is placed.stands; operands = placed.operands; locals = placed.locals }, rest), tt)
  leaves_placed h c v false placed is = value_goes (edited (noted p h c v c.part) h) v

  hands_up_placed : (h : Heap) (c : Context) (v : Value) (levels : List Level) → Placed p c → c.levels ≡ levels → AfterPlaced p (hands_up p h t c cs v levels)
  hands_up_placed h c v [] placed is = leaves_placed h c v (awaits_object c.this c.part) placed is
  hands_up_placed h c v (l ∷ levels) placed is = receives_placed h c v l levels placed is

  -- ---- exceptions

  escapes_as_placed : (h : Heap) (x : Value) (b : Bool) → AfterPlaced p (escapes_as p h t x cs b)
  escapes_as_placed h x b = on b cs rest
    where
      on : (b : Bool) (ds : List Context) → AllByRecursion (Placed p) ds → AfterPlaced p (escapes_as p h t x ds b)
      on true [] all = (tt, tt)
      on true (d ∷ ds) all = (all, tt)
      on false [] all = (tt, tt)
      on false (d ∷ ds) all = (all, tt)

  -- the nodes of these levels stand below the root
  Above : Tree → List Level → Type 0
  Above root [] = Unit {0}
  Above root (l ∷ levels) = StandsBelow root l.node levels

  above_of : (root node : Tree) (levels : List Level) → StandsBelow root node levels → Above root levels
  unfolding Above
  above_of root node [] stands = tt
  above_of root node (l ∷ levels) stands = stands.1

  above_or : (root node : Tree) (levels : List Level) → StandsOrAwaits root node levels → Above root levels
  unfolding Above
  above_or root node [] stands = tt
  above_or root node (l ∷ levels) stands = ⊎_elim (λ a. a.1) (λ b. b.2) stands

  module _ (h : Heap) (c : Context) (x : Value) (placed : Placed p c) where
    unwound : (n : ℕ) (levels : List Level) → length c.operands - n ≡ kept_by levels → Above placed.body.node levels → AfterPlaced p (unwinds p h t c cs x (landing x n levels))
    unfolding Above
    unwound n [] count above = escapes_as_placed (edited (dropped p h c c.part) h) x (is_replaced p h c x c.part)
    unwound n (l ∷ levels) count above = on (caught l.child x (shape l.node)) (caught_fits l.child x (shape l.node)) (unwound (n + kept (shape l.node) l.child) levels fewer (above_of placed.body.node l.node levels above))
      where
        fewer : length c.operands - (n + kept (shape l.node) l.child) ≡ kept_by levels
        fewer = omega (arith, count)

        here : AtNode p (record c { node = l.node; levels = levels; operands = drop (n + kept (shape l.node) l.child) c.operands })
        here = record { body = placed.body; of_part = placed.of_part; stands = above; operands = length-drop (n + kept (shape l.node) l.child) c.operands ∙ fewer; locals = placed.locals }

        on : (o : Option Move) → SomeFits (shape l.node) o → AfterPlaced p (unwinds p h t c cs x (landing x (n + kept (shape l.node) l.child) levels))
            → AfterPlaced p (unwinds p h t c cs x (caught_at o (n + kept (shape l.node) l.child) l levels (landing x (n + kept (shape l.node) l.child) levels)))
        on None fits further = further
        on (Some m) fits further =
            carry ⊥ (record c { node = l.node; levels = levels; operands = drop (n + kept (shape l.node) l.child) c.operands }) l.node levels (drop (n + kept (shape l.node) l.child) c.operands) (λ b. absurd b) (placed_of p _ here) here 0
            (omega (arith, here.operands)) h m fits

    unwinds_placed : AfterPlaced p (unwinds p h t c cs x (landing x 0 c.levels))
    unwinds_placed = unwound 0 c.levels (omega (arith, placed.operands)) (above_or placed.body.node c.node c.levels placed.stands)

-- each step of a thread that stands so leaves it so
pub next_placed : (p : Program) (h : Heap) (t : ℕ) (cs : List Context) (v x : Option Value) → ContextsPlaced p cs v x → AfterPlaced p (next_of p h t cs v x)
next_placed p h t [] v x placed = tt
next_placed p h t (c ∷ cs) v (Some x) placed = unwinds_placed p t cs placed.1 h c x placed.0
next_placed p h t (c ∷ cs) None None placed = begins_or_reads_placed p t cs placed.1 h c (awaits_object c.this c.part) placed.0
next_placed p h t (c ∷ cs) (Some v) None placed = hands_up_placed p t cs placed.1 h c v c.levels placed.0 refl
