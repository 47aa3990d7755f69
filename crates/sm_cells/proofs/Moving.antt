-- A step keeps, of the contexts of its thread, those that run a cell which still runs; a cell that it claims gets one.
use Rattle.std.proofs.Common.{◌≡◌, ℕ, ◌+◌, ◌⊎◌, inl, inr, ⊎_elim, Bool, true, false, if◌then◌else◌, nat_lt, List, [], ◌∷◌, length, take, drop, Option, Some, None, option_map, slice_get, slice_set, refl, ap, sym, subst, ◌∙◌}
use Rattle.runs.specs.System.{Goes, Waits, Ended, Stuck}
use Rattle.ty_prog.specs.Tree.{Tree, children}
use Rattle.ty_prog.specs.Shape.{Shape, ExprShape, CaseShape, PatternShape, ConstructorShape, StageShape, ExprForm, shape}
use Rattle.ty_prog.specs.declared.catch.Catch.TheOpen.{Expr-F}
use Rattle.ty_prog.specs.declared.kind.Kind.{Kind}
use Rattle.ty_prog.specs.declared.kind.Kind.TheVariants as kind
use Rattle.ty_prog.specs.declared.program.Program.{Program}
use Rattle.sm_state.specs.Entering.{body_of, entered}
use Rattle.sm_state.specs.Layout.{linear_of, cell_number, made}
use Rattle.sm_state.specs.declared.entry.Body.{Body}
use Rattle.sm_state.specs.declared.entry.Entry.{Entry}
use Rattle.sm_state.specs.declared.heap.Heap.{Heap}
use Rattle.sm_state.specs.declared.heap.Object.{Object}
use Rattle.sm_state.specs.declared.module.Module.{Module}
use Rattle.sm_state.specs.declared.module.Module.TheVariants as modules
use Rattle.sm_state.specs.declared.once.Once.{Once}
use Rattle.sm_state.specs.declared.once.Once.TheVariants as once
use Rattle.sm_state.specs.declared.part.Part.{Part}
use Rattle.sm_state.specs.declared.part.Part.TheVariants as part
use Rattle.sm_state.specs.declared.thread.Context.{Context}
use Rattle.sm_state.specs.declared.thread.Level.{Level}
use Rattle.sm_state.specs.declared.value.Value.{Value}
use Rattle.sm_state.specs.declared.value.Value.TheVariants as value
use Rattle.sm_rule.specs.declared.act.Act.TheVariants as act
use Rattle.sm_rule.specs.declared.answer.Answer.{Answer}
use Rattle.sm_rule.specs.declared.answer.Answer.TheVariants as answer
use Rattle.sm_rule.specs.declared.answer.Edit.{Edit}
use Rattle.sm_rule.specs.declared.answer.Edit.TheVariants as edit
use Rattle.sm_rule.specs.declared.moves.Move.{Move}
use Rattle.sm_rule.specs.declared.moves.Move.TheVariants as move
use Rattle.sm_rule.specs.Edits.{edited}
use Rattle.sm_rule.specs.Moves.{handler_len, kept, begun, received, passed, expr_passed, unmatched, rethrown, caught}
use Rattle.sm_rule.specs.Perform.{perform}
use Rattle.sm_rule.specs.Step.{After, fails, enters, starts_in, started, done, at_child, child_begins, advances, parameter, opens, with_own, carried, sight, begins, ended_at, passes, carried_or_passed, receives, awaits_object, class_kind, module_edit, cell_edit_at, cell_edit_in, cell_edit, noted, leaves, hands_up, Landing, caught_at, landing, dropped, uncaught_in, uncaught, escapes, escapes_as, is_replaced, unwinds, begins_or_reads, next_of}
use Rattle.sm_placed.proofs.Fitting.{Fits, SomeFits, received_fits, begun_fits, caught_fits}
use Rattle.sm_cells.specs.Running.{cell_at, RunsCell, RunsIn}
use Rattle.sm_cells.proofs.Editing.{SameClasses, edit_classes, classes_trans, ClaimsNone, RanBefore, cell_set, ran_before, made_at_rest}
use Rattle.sm_cells.proofs.Performing.{Claim, Claims, performs}

-- ---- contexts that run a cell

pub runs_on : (p : Program) (h g : Heap) (i at : ℕ) (c : Context) → SameClasses h g → RunsCell p h i at c → RunsCell p g i at c
runs_on p h g i at c same r =
    let x = same i r.of r.there in
    record { cell = r.cell; part = r.part; this = r.this; of = x.0; there = x.1; number = ap (λ k. cell_number p.classes k c.class r.cell) x.2 ∙ r.number }

pub run_on : (p : Program) (h g : Heap) (i at : ℕ) (cs : List Context) → SameClasses h g → RunsIn p h i at cs → RunsIn p g i at cs
run_on p h g i at [] same r = r
run_on p h g i at (c ∷ cs) same r = ⊎_elim (λ a. inl (runs_on p h g i at c same a)) (λ b. inr (run_on p h g i at cs same b)) r

-- what comes of a heap and contexts: a cell that runs has been claimed by t, which has a context of it; or it ran before, and
-- is run by the contexts if it was
abbrev pub Kept : Program → ℕ → Heap → List Context → Heap → List Context → Type 0
Kept p t h cs g ds =
    SameClasses h g
    × ((i at u : ℕ) → cell_at g i at ≡ Some (once.Running u)
    → ((u ≡ t) × RunsIn p g i at ds) ⊎ ((cell_at h i at ≡ Some (once.Running u)) × (RunsIn p h i at cs → RunsIn p g i at ds)))

abbrev pub StepKept : Program → ℕ → Heap → List Context → After → Type 0
StepKept p t h cs (Goes x) = Kept p t h cs x.heap x.thread.contexts
StepKept p t h cs Waits = Unit {0}
StepKept p t h cs Ended = Unit {0}
StepKept p t h cs Stuck = Unit {0}

-- no cell is claimed
abbrev Onto : Program → List Context → List Context → Type 0
Onto p cs ds = (g : Heap) (i at : ℕ) → RunsIn p g i at cs → RunsIn p g i at ds

module _ (p : Program) (t : ℕ) where
  keep : (h g : Heap) (cs ds : List Context) → SameClasses h g → RanBefore h g → Onto p cs ds → Kept p t h cs g ds
  keep h g cs ds same before onto = (same, λ i at u e. inr (before i at u e, λ r. onto g i at (run_on p h g i at cs same r)))

  keep_edit : (h : Heap) (change : Edit) (cs ds : List Context) → ClaimsNone change → Onto p cs ds → Kept p t h cs (edited change h) ds
  keep_edit h change cs ds none onto = keep h (edited change h) cs ds (edit_classes change h) (ran_before change h none) onto

  keep_heap : (h : Heap) (cs ds : List Context) → Onto p cs ds → Kept p t h cs h ds
  keep_heap h cs ds onto = keep h h cs ds (λ i o e. (o, e, refl)) (λ i at u e. e) onto

  -- a further change of the heap that claims none
  keep_more : (h g : Heap) (change : Edit) (cs ds : List Context) → ClaimsNone change → Kept p t h cs g ds → Kept p t h cs (edited change g) ds
  keep_more h g change cs ds none kept = (
    classes_trans h g (edited change g) kept.0 (edit_classes change g),
    λ i at u e. ⊎_elim
        (λ a. inl (a.0, run_on p g (edited change g) i at ds (edit_classes change g) a.1))
        (λ b. inr (b.0, λ r. run_on p g (edited change g) i at ds (edit_classes change g) (b.1 r)))
        (kept.1 i at u (ran_before change g none i at u e)),
  )

  from_other : (h : Heap) (cs ds : List Context) (x : After) → ((i at : ℕ) → RunsIn p h i at cs → RunsIn p h i at ds) → StepKept p t h ds x → StepKept p t h cs x
  from_other h cs ds (Goes x) onto kept = (kept.0, λ i at u e. ⊎_elim (λ a. inl a) (λ b. inr (b.0, λ r. b.1 (onto i at r))) (kept.1 i at u e))
  from_other h cs ds Waits onto kept = tt
  from_other h cs ds Ended onto kept = tt
  from_other h cs ds Stuck onto kept = tt

  module _ (cs : List Context) where
    -- the same context further on in its part
    moved : (c : Context) (node : Tree) (levels : List Level) (os : List Value) (xs : List (Option Value)) → Onto p (c ∷ cs) (record c { node = node; levels = levels; operands = os; locals = xs } ∷ cs)
    moved c node levels os xs g i at r = ⊎_elim (λ a. inl (record { cell = a.cell; part = a.part; this = a.this; of = a.of; there = a.there; number = a.number })) (λ b. inr b) r

    abbrev Step : Context → Heap → After → Type 0
    Step c h x = StepKept p t h (c ∷ cs) x

    -- an object is made only where there is none
    abbrev EmbodyFits : Type 0 → Move → Type 0
    EmbodyFits Made move.Embody = Made
    EmbodyFits Made other = Unit {0}

    embody_of : (Made : Type 0) (own : ℕ) (s : Shape) (m : Move) → Fits Made own s m → EmbodyFits Made m
    embody_of Made own s move.Embody fits = fits
    embody_of Made own s move.Stuck fits = tt
    embody_of Made own s _ fits = tt

    embody_never : (Made : Type 0) (own : ℕ) (s : Shape) (m : Move) → Fits ⊥ own s m → EmbodyFits Made m
    embody_never Made own s move.Embody fits = absurd fits
    embody_never Made own s move.Stuck fits = tt
    embody_never Made own s _ fits = tt

    module _ (c : Context) (tree : Tree) (levels : List Level) (os : List Value) where
      abbrev over : Context
      over = record c { node = tree; levels = levels; operands = os }

      child_kept : (h g : Heap) (i : ℕ) (operands : List Value) (xs : List (Option Value)) → SameClasses h g → RanBefore h g
          → Step c h (child_begins g cs (at_child tree levels i (record c { operands = operands; locals = xs })))
      child_kept h g i operands xs same before = on (slice_get (children tree) i)
        where
          on : (o : Option Tree) → Step c h (child_begins g cs (option_map (λ n. record c { node = n; levels = record { node = tree; child = i } ∷ levels; operands = operands; locals = xs }) o))
          on None = tt
          on (Some n) = keep h g (c ∷ cs) (record c { node = n; levels = record { node = tree; child = i } ∷ levels; operands = operands; locals = xs } ∷ cs) same before (moved c n (record { node = tree; child = i } ∷ levels) operands xs)

      child_here : (h : Heap) (i : ℕ) (operands : List Value) (xs : List (Option Value)) → Step c h (child_begins h cs (at_child tree levels i (record c { operands = operands; locals = xs })))
      child_here h i operands xs = child_kept h h i operands xs (λ i o e. (o, e, refl)) (λ i at u e. e)

      advances_kept : (h g : Heap) (i : ℕ) → SameClasses h g → RanBefore h g → Step c h (advances g over cs (at_child tree levels i over))
      advances_kept h g i same before = on (slice_get (children tree) i)
        where
          on : (o : Option Tree) → Step c h (advances g over cs (option_map (λ n. record c { node = n; levels = record { node = tree; child = i } ∷ levels; operands = os; locals = c.locals }) o))
          on None = keep h g (c ∷ cs) (over ∷ cs) same before (moved c tree levels os c.locals)
          on (Some n) = keep h g (c ∷ cs) (record c { node = n; levels = record { node = tree; child = i } ∷ levels; operands = os; locals = c.locals } ∷ cs) same before (moved c n (record { node = tree; child = i } ∷ levels) os c.locals)

      opens_kept : (h : Heap) (i : ℕ) (of : Value) (o : Option Value) → Step c h (opens h over cs tree levels i of o)
      opens_kept h i of None = keep_heap h (c ∷ cs) (over ∷ cs) (moved c tree levels os c.locals)
      opens_kept h i of (Some v) = child_here h i (v ∷ of ∷ os) c.locals

    -- ---- what comes of an answer

    module _ (c e : Context) (onto : Onto p (c ∷ cs) (e ∷ cs)) where
      claim_kept : (h : Heap) (change : Edit) (entry : Entry) (b : Body) → Claim p h t change entry → Kept p t h (c ∷ cs) (edited change h) (entered entry b ∷ e ∷ cs)
      claim_kept h change entry b claim = (
        edit_classes change h,
        λ i at u ran. ⊎_elim
            (λ same. inl (owner u same.2, inl (runs i at same.0 same.1)))
            (λ other. inr (other.0, λ r. inr (onto (edited change h) i at (run_on p h (edited change h) i at (c ∷ cs) (edit_classes change h) r))))
            (cell_set h claim.object claim.at (once.Running t) i at u (subst (λ x. cell_at (edited x h) i at ≡ Some (once.Running u)) claim.edit_is ran)),
      )
        where
          number : Once → ℕ
          number once.Empty = 0
          number (once.Running u) = u
          number (once.Done v) = 0

          owner : (u : ℕ) → once.Running t ≡ once.Running u → u ≡ t
          owner u e = sym (ap number e)

          runs : (i at : ℕ) → claim.object ≡ i → claim.at ≡ at → RunsCell p (edited change h) i at (entered entry b)
          runs i at is numbered =
              let x = edit_classes change h claim.object claim.of claim.there in
              record {
                cell = claim.cell;
                part = ap (λ x. x.part) claim.entry_is;
                this = ap (λ x. x.this) claim.entry_is ∙ ap value.Ref is;
                of = x.0;
                there = subst (λ j. slice_get (edited change h).objects j ≡ Some x.0) is x.1;
                number = ap (λ k. cell_number p.classes k entry.class claim.cell) x.2 ∙ claim.number ∙ ap Some numbered;
              }

      enters_kept : (h : Heap) (change : Edit) (entry : Entry) → ClaimsNone change ⊎ Claim p h t change entry → (o : Option Body) → Step c h (enters (edited change h) e cs entry o)
      enters_kept h change entry fine None = tt
      enters_kept h change entry fine (Some b) = ⊎_elim (λ none. keep_edit h change (c ∷ cs) (entered entry b ∷ e ∷ cs) none (λ g i at r. inr (onto g i at r))) (λ claim. claim_kept h change entry b claim) fine

      starts_kept : (h : Heap) (change : Edit) (entry : Entry) → ClaimsNone change → (o : Option Body) → Step c h (starts_in (edited change h) e cs entry o)
      starts_kept h change entry none None = tt
      starts_kept h change entry none (Some b) = keep_edit h change (c ∷ cs) (e ∷ cs) none onto

      started_kept : (h : Heap) (change : Edit) → ClaimsNone change → (o : Option Entry) → Step c h (started p (edited change h) e cs o)
      started_kept h change none None = keep_edit h change (c ∷ cs) (e ∷ cs) none onto
      started_kept h change none (Some entry) = starts_kept h change entry none (body_of p entry.class entry.part)

      fails_kept : (h : Heap) (class : ℕ) (message : Value) → Step c h (fails p h (c ∷ cs) class message)
      fails_kept h class message = keep_edit h (edit.AddObject (made p.classes class (Some message))) (c ∷ cs) (c ∷ cs) (made_at_rest p.classes (linear_of p.classes class)) (λ g i at r. r)

      done_kept : (h : Heap) (a : Answer) → Claims p h t a → Step c h (done p h c e cs a)
      done_kept h (answer.Gives change v) none = keep_edit h change (c ∷ cs) (e ∷ cs) none onto
      done_kept h (answer.Enters change entry) fine = enters_kept h change entry fine (body_of p entry.class entry.part)
      done_kept h (answer.Starts change entry) none = started_kept h change none entry
      done_kept h (answer.Throws class message) fine = fails_kept h class message
      done_kept h answer.Waits fine = tt
      done_kept h answer.Wrong fine = tt

    -- ---- what a move does

    carry : (c : Context) (tree : Tree) (levels : List Level) (os : List Value) (h : Heap) (m : Move) → EmbodyFits (c.this ≡ value.Null) m
        → Step c h (carried p h t c (record c { node = tree; levels = levels; operands = os }) tree levels cs m)
    carry c tree levels os h move.Stuck fits = tt
    carry c tree levels os h (move.End v) fits = keep_heap h (c ∷ cs) (record c { node = tree; levels = levels; operands = os } ∷ cs) (moved c tree levels os c.locals)
    carry c tree levels os h (move.Store x v gives) fits = keep_heap h (c ∷ cs) (record c { node = tree; levels = levels; operands = os; locals = slice_set c.locals x (Some v) } ∷ cs) (moved c tree levels os (slice_set c.locals x (Some v)))
    carry c tree levels os h (move.Turn i) fits = child_here c tree levels os h i c.operands c.locals
    carry c tree levels os h (move.Fresh i) fits = child_here c tree levels os h i os c.locals
    carry c tree levels os h (move.Keep i v) fits = child_here c tree levels os h i (v ∷ c.operands) c.locals
    carry c tree levels os h (move.Bind x v i) fits = child_here c tree levels os h i os (slice_set c.locals x (Some v))
    carry c tree levels os h (move.Shelve i raised v) fits = child_here c tree levels os h i (v ∷ value.Bool raised ∷ os) c.locals
    carry c tree levels os h (move.Open class i of) fits = opens_kept c tree levels os h i of (parameter p h class i of)
    carry c tree levels os h (move.Hold class) fits =
        let change = edit.AddObject (made p.classes class None) in
        child_kept c tree levels os h (edited change h) 0 (value.Ref (length h.objects) ∷ os) c.locals (edit_classes change h) (ran_before change h (made_at_rest p.classes (linear_of p.classes class)))
    carry c tree levels os h (move.Do a) fits = done_kept c (record c { node = tree; levels = levels; operands = os }) (moved c tree levels os c.locals) h (perform p h t a) (performs p h t a)
    carry c tree levels os h (move.Again v i a) fits =
        done_kept c (record c { node = tree; levels = record { node = tree; child = i } ∷ levels; operands = with_own v os }) (moved c tree (record { node = tree; child = i } ∷ levels) (with_own v os) c.locals) h (perform p h t a) (performs p h t a)
    carry c tree levels os h move.Embody fits =
        keep_edit h (edit.AddObject (made p.classes c.class None)) (c ∷ cs) (record c { this = value.Ref (length h.objects) } ∷ cs) (made_at_rest p.classes (linear_of p.classes c.class))
        (λ g i at r. ⊎_elim (λ a. absurd (no_ref i (sym fits ∙ a.this))) (λ b. inr b) r)
      where
        no_ref : (i : ℕ) → value.Null ≡ value.Ref i → ⊥
        no_ref i e = cc
    carry c tree levels os h (move.Advance i) fits = advances_kept c tree levels os h h i (λ i o e. (o, e, refl)) (λ i at u e. e)
    carry c tree levels os h (move.Publish i) fits =
        let change = edit.Module c.class (modules.Running t c.this) in
        advances_kept c tree levels os h (edited change h) i (edit_classes change h) (ran_before change h tt)
    carry c tree levels os h (move.Raise x) fits = keep_heap h (c ∷ cs) (c ∷ cs) (λ g i at r. r)
    carry c tree levels os h (move.Fail class message) fits = fails_kept c c (λ g i at r. r) h class message
    carry c tree levels os h move.Pass fits = tt

    -- ---- a node begins

    begins_kept : (h : Heap) (c : Context) → Step c h (begins p h t c cs)
    begins_kept h c =
        carry c c.node c.levels c.operands h (begun (sight c) (shape c.node))
        (embody_of (c.this ≡ value.Null) 0 (shape c.node) (begun (sight c) (shape c.node)) (begun_fits (c.this ≡ value.Null) (sight c) (λ e. e) (shape c.node)))

    begins_or_reads_kept : (h : Heap) (c : Context) (b : Bool) → Step c h (begins_or_reads p h t c cs b)
    begins_or_reads_kept h c true = done_kept c c (λ g i at r. r) h (perform p h t (act.ReadModule p.main)) (performs p h t (act.ReadModule p.main))
    begins_or_reads_kept h c false = begins_kept h c

    -- ---- a node gets a value

    choice_fits : (Made : Type 0) (b : Bool) (one other : Move) → EmbodyFits Made one → EmbodyFits Made other → EmbodyFits Made (if b then one else other)
    choice_fits Made true one other x y = x
    choice_fits Made false one other x y = y

    unmatched_fits : (Made : Type 0) (os : List Value) → EmbodyFits Made (unmatched os)
    unmatched_fits Made [] = tt
    unmatched_fits Made (v ∷ os) = tt

    rethrown_fits : (Made : Type 0) (os : List Value) → EmbodyFits Made (rethrown os)
    rethrown_fits Made [] = tt
    rethrown_fits Made (v ∷ os) = tt

    expr_passed_fits : (Made : Type 0) (i : ℕ) (os : List Value) (form : ExprForm) → EmbodyFits Made (expr_passed i os form)
    expr_passed_fits Made i os (Expr-F.Match of cases) = choice_fits Made (nat_lt i (length cases)) (move.Turn (i + 1)) (unmatched os) tt (unmatched_fits Made os)
    expr_passed_fits Made i os (Expr-F.Try body handler last) = choice_fits Made (nat_lt i (handler_len handler)) (move.Turn (i + 1)) (rethrown os) tt (rethrown_fits Made os)
    expr_passed_fits Made i os (Expr-F.Int n) = tt
    expr_passed_fits Made i os _ = tt

    passed_fits : (Made : Type 0) (i : ℕ) (os : List Value) (s : Shape) → EmbodyFits Made (passed i os s)
    passed_fits Made i os (ExprShape e) = expr_passed_fits Made i os e
    passed_fits Made i os (CaseShape x) = tt
    passed_fits Made i os (PatternShape x) = tt
    passed_fits Made i os (ConstructorShape x) = tt
    passed_fits Made i os (StageShape x) = tt

    passes_kept : (h : Heap) (c : Context) (levels : List Level) → Step c h (passes p h t c levels cs)
    passes_kept h c [] = tt
    passes_kept h c (l ∷ levels) =
        carry c l.node levels (drop (kept (shape l.node) l.child) c.operands) h (passed l.child (take (kept (shape l.node) l.child) c.operands) (shape l.node))
        (passed_fits (c.this ≡ value.Null) l.child (take (kept (shape l.node) l.child) c.operands) (shape l.node))

    carried_or_passed_kept : (h : Heap) (c : Context) (l : Level) (levels : List Level) (m : Move) → EmbodyFits (c.this ≡ value.Null) m
        → Step c h (carried_or_passed p h t c (ended_at c (kept (shape l.node) l.child) l levels) l.node levels cs m)
    carried_or_passed_kept h c l levels move.Pass fits =
        let e = ended_at c (kept (shape l.node) l.child) l levels in
        from_other h (c ∷ cs) (e ∷ cs) (passes p h t e levels cs) (λ i at r. moved c l.node levels (drop (kept (shape l.node) l.child) c.operands) c.locals h i at r) (passes_kept h e levels)
    carried_or_passed_kept h c l levels move.Stuck fits = tt
    carried_or_passed_kept h c l levels m fits = carry c l.node levels (drop (kept (shape l.node) l.child) c.operands) h m fits

    receives_kept : (h : Heap) (c : Context) (v : Value) (l : Level) (levels : List Level) → Step c h (receives p h t c cs v l levels)
    receives_kept h c v l levels =
        let m = received c.this l.child v (take (kept (shape l.node) l.child) c.operands) (shape l.node) in
        carried_or_passed_kept h c l levels m
        (embody_of (c.this ≡ value.Null) (kept (shape l.node) l.child) (shape l.node) m (received_fits (c.this ≡ value.Null) c.this l.child v (take (kept (shape l.node) l.child) c.operands) (shape l.node)))

    -- ---- a context is left

    -- the change that tells of the end: of a cell, or of an object definition
    abbrev told : Heap → Context → Once → Edit → Part → Edit
    told h c x other (part.Method m) = edit.Nothing
    told h c x other (part.Init cell) = cell_edit p h c.class cell x c.this
    told h c x other part.Constructor = other

    edit_at_none : (r : ℕ) (x : Once) → ((u : ℕ) → x ≡ once.Running u → ⊥) → (o : Option ℕ) → ClaimsNone (cell_edit_at r x o)
    edit_at_none r x rest None = tt
    edit_at_none r x rest (Some at) = rest

    edit_in_none : (class cell r : ℕ) (x : Once) → ((u : ℕ) → x ≡ once.Running u → ⊥) → (o : Option Object) → ClaimsNone (cell_edit_in p class cell r x o)
    edit_in_none class cell r x rest None = tt
    edit_in_none class cell r x rest (Some o) = edit_at_none r x rest (cell_number p.classes o.class class cell)

    edit_none : (h : Heap) (class cell : ℕ) (x : Once) → ((u : ℕ) → x ≡ once.Running u → ⊥) → (v : Value) → ClaimsNone (cell_edit p h class cell x v)
    edit_none h class cell x rest (value.Ref r) = edit_in_none class cell r x rest (slice_get h.objects r)
    edit_none h class cell x rest value.Unit = tt
    edit_none h class cell x rest _ = tt

    told_none : (h : Heap) (c : Context) (x : Once) (other : Edit) → ((u : ℕ) → x ≡ once.Running u → ⊥) → ClaimsNone other → (y : Part) → ClaimsNone (told h c x other y)
    told_none h c x other rest none (part.Method m) = tt
    told_none h c x other rest none (part.Init cell) = edit_none h c.class cell x rest c.this
    told_none h c x other rest none part.Constructor = none

    cell_of : Part → ℕ
    cell_of (part.Method m) = 0
    cell_of (part.Init cell) = cell
    cell_of part.Constructor = 0

    -- a cell that the context runs doesn't run behind that change
    told_ends : (h : Heap) (c : Context) (x : Once) (other : Edit) → ((u : ℕ) → x ≡ once.Running u → ⊥) → (y : Part) → c.part ≡ y → (i at u : ℕ) → RunsCell p h i at c → cell_at (edited (told h c x other y) h) i at ≡ Some (once.Running u) → ⊥
    unfolding cell_of
    told_ends h c x other rest (part.Method m) is i at u r ran = no_init (sym is ∙ r.part)
      where
        no_init : part.Method m ≡ part.Init r.cell → ⊥
        no_init e = cc
    told_ends h c x other rest part.Constructor is i at u r ran = no_init (sym is ∙ r.part)
      where
        no_init : part.Constructor ≡ part.Init r.cell → ⊥
        no_init e = cc
    told_ends h c x other rest (part.Init cell) is i at u r ran =
        let same : r.cell ≡ cell = ap cell_of (sym r.part ∙ is) in
        let numbered : cell_number p.classes r.of.class c.class cell ≡ Some at = ap (λ k. cell_number p.classes r.of.class c.class k) (sym same) ∙ r.number in
        let change : cell_edit p h c.class cell x c.this ≡ edit.Cell i at x = ap (cell_edit p h c.class cell x) r.this ∙ ap (cell_edit_in p c.class cell i x) r.there ∙ ap (cell_edit_at i x) numbered in
        ⊎_elim (λ set. rest u set.2) (λ not_set. not_set.1 refl refl) (cell_set h i at x i at u (subst (λ y. cell_at (edited y h) i at ≡ Some (once.Running u)) change ran))

    told_kept : (h : Heap) (c : Context) (x : Once) (other : Edit) → ((u : ℕ) → x ≡ once.Running u → ⊥) → ClaimsNone other → Kept p t h (c ∷ cs) (edited (told h c x other c.part) h) cs
    told_kept h c x other rest none =
        let change = told h c x other c.part in
        let claims : ClaimsNone change = told_none h c x other rest none c.part in
        let same = edit_classes change h in (
          same,
          λ i at u ran. inr (
            ran_before change h claims i at u ran,
            λ r. ⊎_elim (λ a. absurd (told_ends h c x other rest c.part refl i at u a ran)) (λ b. run_on p h (edited change h) i at cs same b) r,
          ),
        )

    module_none : (class : ℕ) (state : Module) (k : Kind) → ClaimsNone (module_edit class state k)
    module_none class state kind.Object = tt
    module_none class state kind.Class = tt
    module_none class state kind.Abstract = tt
    module_none class state kind.Trait = tt

    noted_is : (h : Heap) (c : Context) (v : Value) (y : Part) → told h c (once.Done v) (module_edit c.class (modules.Ready c.this) (class_kind p c.class)) y ≡ noted p h c v y
    noted_is h c v (part.Method m) = refl
    noted_is h c v (part.Init cell) = refl
    noted_is h c v part.Constructor = refl

    dropped_is : (h : Heap) (c : Context) (y : Part) → told h c once.Empty (module_edit c.class modules.Bad (class_kind p c.class)) y ≡ dropped p h c y
    dropped_is h c (part.Method m) = refl
    dropped_is h c (part.Init cell) = refl
    dropped_is h c part.Constructor = refl

    noted_kept : (h : Heap) (c : Context) (v : Value) → Kept p t h (c ∷ cs) (edited (noted p h c v c.part) h) cs
    noted_kept h c v =
        subst (λ change. Kept p t h (c ∷ cs) (edited change h) cs) (noted_is h c v c.part)
        (told_kept h c (once.Done v) (module_edit c.class (modules.Ready c.this) (class_kind p c.class)) no_run (module_none c.class (modules.Ready c.this) (class_kind p c.class)))
      where
        no_run : (u : ℕ) → once.Done v ≡ once.Running u → ⊥
        no_run u e = cc

    dropped_kept : (h : Heap) (c : Context) → Kept p t h (c ∷ cs) (edited (dropped p h c c.part) h) cs
    dropped_kept h c =
        subst (λ change. Kept p t h (c ∷ cs) (edited change h) cs) (dropped_is h c c.part)
        (told_kept h c once.Empty (module_edit c.class modules.Bad (class_kind p c.class)) no_run (module_none c.class modules.Bad (class_kind p c.class)))
      where
        no_run : (u : ℕ) → once.Empty ≡ once.Running u → ⊥
        no_run u e = cc

    init_awaits : (v : Value) (k : ℕ) → awaits_object v (part.Init k) ≡ true → ⊥
    init_awaits value.Null k e = cc
    init_awaits value.Unit k e = cc
    init_awaits _ k e = cc

    leaves_kept : (h : Heap) (c : Context) (v : Value) (b : Bool) → awaits_object c.this c.part ≡ b → Step c h (leaves p h c cs v b)
    leaves_kept h c v true is =
        keep_heap h (c ∷ cs) (record c { this = v } ∷ cs) (λ g i at r. ⊎_elim (λ a. absurd (init_awaits c.this a.cell (ap (awaits_object c.this) (sym a.part) ∙ is))) (λ b. inr b) r)
    leaves_kept h c v false is = noted_kept h c v

    hands_up_kept : (h : Heap) (c : Context) (v : Value) (levels : List Level) → Step c h (hands_up p h t c cs v levels)
    hands_up_kept h c v [] = leaves_kept h c v (awaits_object c.this c.part) refl
    hands_up_kept h c v (l ∷ levels) = receives_kept h c v l levels

    -- ---- exceptions

    uncaught_in_none : (o : Option Object) → ClaimsNone (uncaught_in p t o)
    uncaught_in_none None = tt
    uncaught_in_none (Some o) = tt

    uncaught_none : (g : Heap) (x : Value) → ClaimsNone (uncaught p g t x)
    uncaught_none g (value.Ref r) = uncaught_in_none (slice_get g.objects r)
    uncaught_none g value.Unit = tt
    uncaught_none g _ = tt

  escapes_kept : (h g : Heap) (cs ds : List Context) (x : Value) → Kept p t h cs g ds → StepKept p t h cs (escapes p g t x ds)
  escapes_kept h g cs [] x kept = keep_more h g (uncaught p g t x) cs [] (uncaught_none [] g x) kept
  escapes_kept h g cs (d ∷ ds) x kept = kept

  escapes_as_kept : (h g : Heap) (cs ds : List Context) (x : Value) (b : Bool) → Kept p t h cs g ds → StepKept p t h cs (escapes_as p g t x ds b)
  escapes_as_kept h g cs ds x true kept =
      let change = edit.AddObject (made p.classes 14 (Some value.Null)) in
      escapes_kept h (edited change g) cs ds (value.Ref (length g.objects)) (keep_more h g change cs ds (made_at_rest p.classes (linear_of p.classes 14)) kept)
  escapes_as_kept h g cs ds x false kept = escapes_kept h g cs ds x kept

  abbrev LandingFits : Type 0 → Option Landing → Type 0
  LandingFits Made None = Unit {0}
  LandingFits Made (Some k) = EmbodyFits [] Made k.move

  caught_landing : (Made : Type 0) (o : Option Move) (n : ℕ) (l : Level) (levels : List Level) (rest : Option Landing) → SomeFits (shape l.node) o → LandingFits Made rest → LandingFits Made (caught_at o n l levels rest)
  caught_landing Made None n l levels rest fits further = further
  caught_landing Made (Some m) n l levels rest fits further = embody_never [] Made 0 (shape l.node) m fits

  landing_fits : (Made : Type 0) (x : Value) (n : ℕ) (levels : List Level) → LandingFits Made (landing x n levels)
  landing_fits Made x n [] = tt
  landing_fits Made x n (l ∷ levels) =
      caught_landing Made (caught l.child x (shape l.node)) (n + kept (shape l.node) l.child) l levels (landing x (n + kept (shape l.node) l.child) levels) (caught_fits l.child x (shape l.node))
      (landing_fits Made x (n + kept (shape l.node) l.child) levels)

  unwinds_kept : (h : Heap) (c : Context) (cs : List Context) (x : Value) (o : Option Landing) → LandingFits (c.this ≡ value.Null) o → StepKept p t h (c ∷ cs) (unwinds p h t c cs x o)
  unwinds_kept h c cs x None fits = escapes_as_kept h (edited (dropped p h c c.part) h) (c ∷ cs) cs x (is_replaced p h c x c.part) (dropped_kept cs h c)
  unwinds_kept h c cs x (Some k) fits =
      let e : Context = record c { node = k.node; levels = k.levels; operands = drop k.taken c.operands } in
      from_other h (c ∷ cs) (e ∷ cs) (carried p h t e e k.node k.levels cs k.move) (λ i at r. moved cs c k.node k.levels (drop k.taken c.operands) c.locals h i at r)
      (carry cs e k.node k.levels (drop k.taken c.operands) h k.move fits)

  pub next_kept : (h : Heap) (cs : List Context) (v x : Option Value) → StepKept p t h cs (next_of p h t cs v x)
  next_kept h [] v x = tt
  next_kept h (c ∷ cs) v (Some x) = unwinds_kept h c cs x (landing x 0 c.levels) (landing_fits (c.this ≡ value.Null) x 0 c.levels)
  next_kept h (c ∷ cs) None None = begins_or_reads_kept cs h c (awaits_object c.this c.part)
  next_kept h (c ∷ cs) (Some v) None = hands_up_kept cs h c v c.levels
