-- The law where a copied node gets the value of a child, and where one of its cases doesn't match.
use Rattle.std.proofs.Common.{◌≡◌, ℕ, zero, suc, ◌+◌, ◌≤◌, inl, true, List, [], ◌∷◌, ◌++◌, length, take, Option, Some, None, slice_get, refl, arith, ap, sym, subst, ◌∙◌}
use Rattle.ty_prog.specs.Tree.{Tree, ExprTree, CaseTree, PatternTree, ConstructorTree, StageTree, ExprLevel, children, expr_parts, handler_children}
use Rattle.ty_prog.specs.Shape.{ExprShape, shape, expr_form, handler_form}
use Rattle.ty_prog.specs.declared.catch.Catch.TheOpen.{Expr-F}
use Rattle.ty_prog.specs.declared.expr.Expr.{Expr, out-Expr}
use Rattle.ty_prog.specs.declared.program.Program.{Program}
use Rattle.sm_state.specs.declared.heap.Heap.{Heap}
use Rattle.sm_state.specs.declared.value.Value.{Value}
use Rattle.sm_rule.specs.declared.moves.Move.{Move}
use Rattle.sm_rule.specs.declared.moves.Move.TheVariants as move
use Rattle.sm_rule.specs.Moves.{kept, received, passed}
use Rattle.sm_rule.specs.Step.{After, carried, carried_or_passed, passes, receives, next_of}
use Rattle.sm_law.specs.Twins.{Rung, Twin, up_levels, up_kept, low_levels, low_kept, copy}
use Rattle.sm_law.specs.Passes.{Pass, up_context, low_context, IsChild, TwinFits, Pair, ups, lows, AllFit, rungs_debt, debts}
use Rattle.sm_law.specs.Copies.{Alike, Makes, ByReceiving, ByPassing, TopCopied, Laws, Same}
use Rattle.sm_law.proofs.Alike.{kept_alike, received_alike, passed_alike}
use Rattle.sm_law.proofs.Chains.{own_taken, own_dropped, at_rungs, over, idle_below, over_at, over_fits}
use Rattle.sm_law.proofs.Carrying.{Embodied, carry}
use Rattle.sm_law.proofs.Seeing.{received_this}
use Rattle.sm_placed.proofs.Fitting.{Fits, IsCase, received_fits, passed_fits}

-- ---- a case is no first child of a node that has cases

tree_or : Tree → Option Tree → Tree
tree_or d None = d
tree_or d (Some x) = x

first_is : (e : Expr) (child : Tree) → Some (ExprTree e) ≡ Some child → IsCase (shape child) → ⊥
unfolding tree_or
first_is e child is case = subst (λ x. IsCase (shape x)) (sym (ap (tree_or child) is)) case

module _ (Made : Type 0) where
  level_passed_first : (level : ExprLevel) (child : Tree) (operands : List Value) → slice_get (expr_parts handler_children ExprTree CaseTree level) 0 ≡ Some child → IsCase (shape child)
      → Fits Made (kept (ExprShape (expr_form handler_form level)) 0) (ExprShape (expr_form handler_form level)) (passed 0 operands (ExprShape (expr_form handler_form level)))
  level_passed_first (Expr-F.Match of cases) child operands is case = absurd (first_is of child is case)
  level_passed_first (Expr-F.Try body handler last) child operands is case = absurd (first_is body child is case)
  level_passed_first (Expr-F.Int n) child operands is case = tt
  level_passed_first _ child operands is case = tt

  passed_first : (tree child : Tree) (operands : List Value) → slice_get (children tree) 0 ≡ Some child → IsCase (shape child) → Fits Made (kept (shape tree) 0) (shape tree) (passed 0 operands (shape tree))
  passed_first (ExprTree e) child operands is case = level_passed_first (out-Expr e) child operands is case
  passed_first (CaseTree c) child operands is case = tt
  passed_first (PatternTree p) child operands is case = tt
  passed_first (ConstructorTree class) child operands is case = tt
  passed_first (StageTree stage) child operands is case = tt

  -- a node whose child is a case that doesn't match leaves as many operands as the next child keeps
  passed_all : (tree child : Tree) (i : ℕ) (operands : List Value) → slice_get (children tree) i ≡ Some child → IsCase (shape child) → Fits Made (kept (shape tree) i) (shape tree) (passed i operands (shape tree))
  passed_all tree child zero operands is case = passed_first tree child operands is case
  passed_all tree child (suc i) operands is case = passed_fits Made i operands (shape tree)

-- the rung of a copied node
abbrev pub as_copied : Rung → Rung
as_copied r = record r { under = copy r }

pub as_copied_is : (r : Rung) → r.under ≡ copy r → as_copied r ≡ r
as_copied_is r e = ap (λ u. record r { under = u }) (sym e)

module _ {X : Type 0} (P : Pass X) (p q : Program) {Heaps : Heap → Heap → Type 0} (laws : Laws P Heaps p q) (t : ℕ) (es : List (Pair X)) (rest : AllFit P p q es) (most : ℕ) where
  -- a move of the node of a copied rung, where the node below it stands in the twin w
  module _ (w : Twin) (r : Rung) (rs : List Rung) (fits : TwinFits P (at_rungs w (as_copied r ∷ rs))) (copied : P.is_copied w.class w.part (shape r.node) ≡ true)
      (owed : rungs_debt P w.class w.part rs + debts P es ≤ most) where
    abbrev pub Both : After → After → Type 0
    Both = Same P Heaps p q most w.class w.part w.this es

    abbrev inner : Twin
    inner = at_rungs w (as_copied r ∷ rs)

    abbrev outer : Twin
    outer = over w r rs

    like : Alike (shape r.node) (shape r.low)
    like = (laws.copied w.class w.part r.free r.node r.low fits.chain.0 copied).0

    len : length r.kept ≡ kept (shape r.low) r.child
    len = fits.chain.2 ∙ sym (kept_alike (shape r.node) (shape r.low) like r.child)

    abbrev Counts : Move → Type 0
    Counts = Fits (Embodied P outer (up_context inner) (low_context P inner)) (length r.kept) (shape r.node)

    moves : (h k : Heap) → Heaps h k → (m : Move) → Makes w.this (shape r.node) m → Counts m
        → Both (carried p h t (up_context inner) (up_context outer) r.node (up_levels rs) (ups es) m) (carried q k t (low_context P inner) (low_context P outer) r.low (low_levels rs) (lows P es) m)
    moves h k heaps m makes fit =
        carry P p q laws t es rest most outer (idle_below P w (as_copied r) rs fits) (over_fits P w (as_copied r) rs fits) (over_at P w (as_copied r) rs fits) copied owed
        r.kept w.node w.low (up_levels (as_copied r ∷ rs)) (low_levels (as_copied r ∷ rs)) inner (refl, refl, inl refl) fits (rw copied (omega (arith, owed))) refl refl h k heaps m makes fit

    -- what the program does
    up_receives : (h : Heap) (v : Value) → receives p h t (up_context inner) (ups es) v (record { node = r.node; child = r.child }) (up_levels rs)
        ≡ carried_or_passed p h t (up_context inner) (up_context outer) r.node (up_levels rs) (ups es) (received w.this r.child v r.kept (shape r.node))
    up_receives h v =
        let n = kept (shape r.node) r.child in
        ap (λ os. carried_or_passed p h t (up_context inner) (record (up_context outer) { operands = os }) r.node (up_levels rs) (ups es) (received w.this r.child v (take n (r.kept ++ up_kept rs)) (shape r.node))) (own_dropped n r.kept (up_kept rs) fits.chain.2)
        ∙ ap (λ os. carried_or_passed p h t (up_context inner) (up_context outer) r.node (up_levels rs) (ups es) (received w.this r.child v os (shape r.node))) (own_taken n r.kept (up_kept rs) fits.chain.2)

    -- what the lowered program does
    low_receives : (k : Heap) (v : Value) → receives q k t (low_context P inner) (lows P es) v (record { node = r.low; child = r.child }) (low_levels rs)
        ≡ carried_or_passed q k t (low_context P inner) (low_context P outer) r.low (low_levels rs) (lows P es) (received w.this r.child v r.kept (shape r.node))
    low_receives k v =
        let n = kept (shape r.low) r.child in
        let this = P.this_below w.class w.part w.this in
        ap (λ os. carried_or_passed q k t (low_context P inner) (record (low_context P outer) { operands = os }) r.low (low_levels rs) (lows P es) (received this r.child v (take n (r.kept ++ low_kept rs)) (shape r.low))) (own_dropped n r.kept (low_kept rs) len)
        ∙ ap (λ os. carried_or_passed q k t (low_context P inner) (low_context P outer) r.low (low_levels rs) (lows P es) (received this r.child v os (shape r.low))) (own_taken n r.kept (low_kept rs) len)
        ∙ ap (carried_or_passed q k t (low_context P inner) (low_context P outer) r.low (low_levels rs) (lows P es))
        (received_alike (shape r.node) (shape r.low) like this r.child v r.kept
        ∙ received_this (shape r.node) w.this this (λ names. laws.this_is w.class w.part (shape r.node) w.this copied names) r.child v r.kept)

    -- the node of this rung is told that its case doesn't match
    passes_both : (h k : Heap) → Heaps h k → IsCase (shape w.node) → IsChild w.node (as_copied r ∷ rs)
        → Both (passes p h t (up_context inner) (up_levels (as_copied r ∷ rs)) (ups es)) (passes q k t (low_context P inner) (low_levels (as_copied r ∷ rs)) (lows P es))
    passes_both h k heaps case child =
        let n = kept (shape r.node) r.child in
        let m = kept (shape r.low) r.child in
        subst (λ z. Both z (passes q k t (low_context P inner) (low_levels (as_copied r ∷ rs)) (lows P es))) (sym (
        ap (λ os. carried p h t (up_context inner) (record (up_context outer) { operands = os }) r.node (up_levels rs) (ups es) (passed r.child (take n (r.kept ++ up_kept rs)) (shape r.node))) (own_dropped n r.kept (up_kept rs) fits.chain.2)
        ∙ ap (λ os. carried p h t (up_context inner) (up_context outer) r.node (up_levels rs) (ups es) (passed r.child os (shape r.node))) (own_taken n r.kept (up_kept rs) fits.chain.2)))
        (subst (Both (carried p h t (up_context inner) (up_context outer) r.node (up_levels rs) (ups es) (passed r.child r.kept (shape r.node)))) (sym (
        ap (λ os. carried q k t (low_context P inner) (record (low_context P outer) { operands = os }) r.low (low_levels rs) (lows P es) (passed r.child (take m (r.kept ++ low_kept rs)) (shape r.low))) (own_dropped m r.kept (low_kept rs) len)
        ∙ ap (λ os. carried q k t (low_context P inner) (low_context P outer) r.low (low_levels rs) (lows P es) (passed r.child os (shape r.low))) (own_taken m r.kept (low_kept rs) len)
        ∙ ap (carried q k t (low_context P inner) (low_context P outer) r.low (low_levels rs) (lows P es)) (passed_alike (shape r.node) (shape r.low) like r.child r.kept)))
        (moves h k heaps (passed r.child r.kept (shape r.node)) (ByPassing r.child r.kept refl)
        (subst (λ z. Fits (Embodied P outer (up_context inner) (low_context P inner)) z (shape r.node) (passed r.child r.kept (shape r.node))) (sym fits.chain.2)
        (passed_all (Embodied P outer (up_context inner) (low_context P inner)) r.node w.node r.child r.kept child case))))

  -- the same, whatever the innermost rung is
  module _ (w : Twin) (case : IsCase (shape w.node)) (h k : Heap) (heaps : Heaps h k) where
    PassesSame : List Rung → Type 0
    PassesSame rs = Same P Heaps p q most w.class w.part w.this es (passes p h t (up_context (at_rungs w rs)) (up_levels rs) (ups es)) (passes q k t (low_context P (at_rungs w rs)) (low_levels rs) (lows P es))

    passes_copied : (r : Rung) (rs : List Rung) → TwinFits P (at_rungs w (as_copied r ∷ rs)) → IsChild w.node (as_copied r ∷ rs) → P.is_copied w.class w.part (shape r.node) ≡ true
        → rungs_debt P w.class w.part rs + debts P es ≤ most → PassesSame (as_copied r ∷ rs)
    unfolding PassesSame
    passes_copied r rs fits child copied owed = passes_both w r rs fits copied owed h k heaps case child

    passes_at : (rs : List Rung) → TwinFits P (at_rungs w rs) → IsChild w.node rs → TopCopied P w.class w.part rs → rungs_debt P w.class w.part rs + debts P es ≤ most → PassesSame rs
    unfolding PassesSame
    passes_at [] fits child top owed = tt
    passes_at (r ∷ rs) fits child top owed =
        subst (λ z. PassesSame (z ∷ rs)) (as_copied_is r top.1)
        (passes_copied r rs (subst (λ z. TwinFits P (at_rungs w (z ∷ rs))) (sym (as_copied_is r top.1)) fits) child top.0 (omega (arith, owed)))

  -- a move of the node of a copied rung, or of the node above where that is a case that doesn't match
  module _ (w : Twin) (r : Rung) (rs : List Rung) (fits : TwinFits P (at_rungs w (as_copied r ∷ rs))) (copied : P.is_copied w.class w.part (shape r.node) ≡ true)
      (owed : rungs_debt P w.class w.part rs + debts P es ≤ most) (cases : IsCase (shape r.node) → TopCopied P w.class w.part rs) where
    moves_or_passes : (h k : Heap) → Heaps h k → (m : Move) → Makes w.this (shape r.node) m
        → Fits (Embodied P (over w r rs) (up_context (at_rungs w (as_copied r ∷ rs))) (low_context P (at_rungs w (as_copied r ∷ rs)))) (length r.kept) (shape r.node) m
        → Both w r rs fits copied owed (carried_or_passed p h t (up_context (at_rungs w (as_copied r ∷ rs))) (up_context (over w r rs)) r.node (up_levels rs) (ups es) m)
        (carried_or_passed q k t (low_context P (at_rungs w (as_copied r ∷ rs))) (low_context P (over w r rs)) r.low (low_levels rs) (lows P es) m)
    unfolding PassesSame
    moves_or_passes h k heaps move.Pass makes fit = passes_at (over w r rs) fit h k heaps rs (over_fits P w (as_copied r) rs fits) (over_at P w (as_copied r) rs fits).1 (cases fit) owed
    moves_or_passes h k heaps move.Stuck makes fit = tt
    moves_or_passes h k heaps m makes fit = moves w r rs fits copied owed h k heaps m makes fit

    receives_both : (h k : Heap) → Heaps h k → (v : Value)
        → Both w r rs fits copied owed (next_of p h t (up_context (at_rungs w (as_copied r ∷ rs)) ∷ ups es) (Some v) None) (next_of q k t (low_context P (at_rungs w (as_copied r ∷ rs)) ∷ lows P es) (Some v) None)
    receives_both h k heaps v =
        let m = received w.this r.child v r.kept (shape r.node) in
        let Made = Embodied P (over w r rs) (up_context (at_rungs w (as_copied r ∷ rs))) (low_context P (at_rungs w (as_copied r ∷ rs))) in
        subst (λ z. Both w r rs fits copied owed z (next_of q k t (low_context P (at_rungs w (as_copied r ∷ rs)) ∷ lows P es) (Some v) None)) (sym (up_receives w r rs fits copied owed h v))
        (subst (Both w r rs fits copied owed (carried_or_passed p h t (up_context (at_rungs w (as_copied r ∷ rs))) (up_context (over w r rs)) r.node (up_levels rs) (ups es) m)) (sym (low_receives w r rs fits copied owed k v))
        (moves_or_passes h k heaps m (ByReceiving r.child v r.kept refl)
        (subst (λ n. Fits Made n (shape r.node) m) (sym fits.chain.2) (received_fits Made w.this r.child v r.kept (shape r.node)))))

  -- THE LAW, where a copied node gets the value of its child: both programs make the same move. Where it is a case, which may not
  -- match, the node above is copied too
  pub copied_receives : (w : Twin) (r : Rung) (rs : List Rung) → TwinFits P (at_rungs w (r ∷ rs)) → P.is_copied w.class w.part (shape r.node) ≡ true → r.under ≡ copy r
      → (IsCase (shape r.node) → TopCopied P w.class w.part rs) → rungs_debt P w.class w.part rs + debts P es ≤ most → (h k : Heap) → Heaps h k → (v : Value)
      → Same P Heaps p q most w.class w.part w.this es (next_of p h t (up_context (at_rungs w (r ∷ rs)) ∷ ups es) (Some v) None) (next_of q k t (low_context P (at_rungs w (r ∷ rs)) ∷ lows P es) (Some v) None)
  copied_receives w r rs fits copied under cases owed h k heaps v =
      let is = as_copied_is r under in
      subst (λ z. Same P Heaps p q most w.class w.part w.this es (next_of p h t (up_context (at_rungs w (z ∷ rs)) ∷ ups es) (Some v) None) (next_of q k t (low_context P (at_rungs w (z ∷ rs)) ∷ lows P es) (Some v) None)) is
      (receives_both w r rs (subst (λ z. TwinFits P (at_rungs w (z ∷ rs))) (sym is) fits) copied owed cases h k heaps v)
