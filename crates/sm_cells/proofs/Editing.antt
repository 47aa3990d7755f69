-- What edits do to cells and to the classes of objects.
use Rattle.std.proofs.Common.{◌≡◌, ℕ, zero, suc, ◌⊎◌, inl, inr, ⊎_elim, nat_eq, Bool, true, false, List, [], ◌∷◌, ◌++◌, map, Option, Some, None, slice_get, slice_set, refl, ap, sym, subst, ◌∙◌, true≢false, eqb-true, eq-eqb}
use Rattle.std.specs.Option.{option_and_then}
use Rattle.ty_prog.specs.declared.cell.Cell.{Cell}
use Rattle.ty_prog.specs.declared.class.Class.{Class}
use Rattle.sm_state.specs.Layout.{cells_of, made_cells}
use Rattle.sm_state.specs.declared.heap.Heap.{Heap}
use Rattle.sm_state.specs.declared.heap.Object.{Object}
use Rattle.sm_state.specs.declared.once.Once.{Once}
use Rattle.sm_state.specs.declared.once.Once.TheVariants as once
use Rattle.sm_rule.specs.declared.answer.Edit.{Edit}
use Rattle.sm_rule.specs.declared.answer.Edit.TheVariants as edit
use Rattle.sm_rule.specs.Edits.{with_field, with_cell, changed_to, changed, edited}
use Rattle.sm_cells.specs.Running.{cell_at}
use Rattle.sm_cells.proofs.Slices.{some_same, none_at, get_set_same, get_set_other, get_append, get_appended}

-- numbers are the same or not
pub same_or_not : (i j : ℕ) → (i ≡ j) ⊎ (i ≡ j → ⊥)
same_or_not i j = on (nat_eq i j) refl
  where
    on : (b : Bool) → nat_eq i j ≡ b → (i ≡ j) ⊎ (i ≡ j → ⊥)
    on true e = inl (eqb-true i j e)
    on false e = inr (λ same. true≢false (sym (eq-eqb i j same) ∙ e))

changed_other : (objects : List Object) (r i : ℕ) (f : Object → Object) → (r ≡ i → ⊥) → slice_get (changed objects r f) i ≡ slice_get objects i
changed_other objects r i f ne = on (slice_get objects r)
  where
    on : (o : Option Object) → slice_get (changed_to objects r f o) i ≡ slice_get objects i
    on None = refl
    on (Some o) = get_set_other objects r i (f o) ne

changed_same : (objects : List Object) (r : ℕ) (f : Object → Object) (o : Object) → slice_get objects r ≡ Some o → slice_get (changed objects r f) r ≡ Some (f o)
changed_same objects r f o e =
    ap (λ x. slice_get (changed_to objects r f x) r) e ∙ get_set_same objects r (f o) o e

-- an object that is there after a change of one was there before, and is the same or changed
changed_back : (objects : List Object) (r i : ℕ) (f : Object → Object) (x : Object) → slice_get (changed objects r f) i ≡ Some x → (o : Object) × (slice_get objects i ≡ Some o) × ((x ≡ o) × (r ≡ i → ⊥) ⊎ (x ≡ f o) × (r ≡ i))
changed_back objects r i f x e = ⊎_elim same other (same_or_not r i)
  where
    other : (r ≡ i → ⊥) → (o : Object) × (slice_get objects i ≡ Some o) × ((x ≡ o) × (r ≡ i → ⊥) ⊎ (x ≡ f o) × (r ≡ i))
    other ne = (x, sym (changed_other objects r i f ne) ∙ e, inl (refl, ne))

    at : (o : Option Object) → slice_get objects i ≡ o → slice_get (changed_to objects i f o) i ≡ Some x → r ≡ i → (o : Object) × (slice_get objects i ≡ Some o) × ((x ≡ o) × (r ≡ i → ⊥) ⊎ (x ≡ f o) × (r ≡ i))
    at None is e is_r = absurd (no_some (sym is ∙ e))
      where
        no_some : None ≡ Some x → ⊥
        no_some e = cc
    at (Some o) is e is_r = (o, is, inr (some_same x (f o) (sym e ∙ get_set_same objects i (f o) o is), is_r))

    same : r ≡ i → (o : Object) × (slice_get objects i ≡ Some o) × ((x ≡ o) × (r ≡ i → ⊥) ⊎ (x ≡ f o) × (r ≡ i))
    same is = at (slice_get objects i) refl (subst (λ j. slice_get (changed objects j f) i ≡ Some x) is e) is

-- ---- classes of objects stay

abbrev pub SameClasses : Heap → Heap → Type 0
SameClasses h g = (i : ℕ) (o : Object) → slice_get h.objects i ≡ Some o → (x : Object) × (slice_get g.objects i ≡ Some x) × (x.class ≡ o.class)

changed_classes : (objects : List Object) (r : ℕ) (f : Object → Object) → ((o : Object) → (f o).class ≡ o.class) → (i : ℕ) (o : Object) → slice_get objects i ≡ Some o → (x : Object) × (slice_get (changed objects r f) i ≡ Some x) × (x.class ≡ o.class)
changed_classes objects r f stays i o e =
    ⊎_elim
    (λ is. (f o, subst (λ j. slice_get (changed objects j f) i ≡ Some (f o)) (sym is) (changed_same objects i f o e), stays o))
    (λ ne. (o, changed_other objects r i f ne ∙ e, refl))
    (same_or_not r i)

pub edit_classes : (change : Edit) (h : Heap) → SameClasses h (edited change h)
edit_classes edit.Nothing h i o e = (o, e, refl)
edit_classes (edit.Field r at v) h i o e = changed_classes h.objects r (with_field at v) (λ o. refl) i o e
edit_classes (edit.Cell r at x) h i o e = changed_classes h.objects r (with_cell at x) (λ o. refl) i o e
edit_classes (edit.Module class state) h i o e = (o, e, refl)
edit_classes (edit.AddObject x) h i o e = (o, get_append h.objects x i o e, refl)
edit_classes edit.AddLatch h i o e = (o, e, refl)
edit_classes (edit.OpenLatch at) h i o e = (o, e, refl)
edit_classes (edit.AddEvent x) h i o e = (o, e, refl)

pub classes_trans : (h g k : Heap) → SameClasses h g → SameClasses g k → SameClasses h k
classes_trans h g k one two i o e =
    let a = one i o e in
    let b = two i a.0 a.1 in
    (b.0, b.1, b.2 ∙ a.2)

-- ---- edits that claim no cell

-- nobody runs a cell of the object
abbrev pub AtRest : Object → Type 0
AtRest o = (at t : ℕ) → slice_get o.cells at ≡ Some (once.Running t) → ⊥

abbrev pub ClaimsNone : Edit → Type 0
ClaimsNone (edit.Cell r at x) = (t : ℕ) → x ≡ once.Running t → ⊥
ClaimsNone (edit.AddObject o) = AtRest o
ClaimsNone other = Unit {0}

-- what ran in h' ran in h
abbrev pub RanBefore : Heap → Heap → Type 0
RanBefore h g = (object at t : ℕ) → cell_at g object at ≡ Some (once.Running t) → cell_at h object at ≡ Some (once.Running t)

-- a cell that is told of is one of an object that is there
pub cell_there : (objects : List Object) (i at : ℕ) (x : Once) → option_and_then (λ o. slice_get o.cells at) (slice_get objects i) ≡ Some x → (o : Object) × (slice_get objects i ≡ Some o) × (slice_get o.cells at ≡ Some x)
cell_there objects i at x = on (slice_get objects i) refl
  where
    on : (o : Option Object) → slice_get objects i ≡ o → option_and_then (λ o. slice_get o.cells at) o ≡ Some x → (o : Object) × (slice_get objects i ≡ Some o) × (slice_get o.cells at ≡ Some x)
    on None is e = absurd (no_some e)
      where
        no_some : None ≡ Some x → ⊥
        no_some e = cc
    on (Some o) is e = (o, is, e)

pub cell_is : (objects : List Object) (i at : ℕ) (o : Object) (x : Once) → slice_get objects i ≡ Some o → slice_get o.cells at ≡ Some x → option_and_then (λ o. slice_get o.cells at) (slice_get objects i) ≡ Some x
cell_is objects i at o x is e = ap (option_and_then (λ o. slice_get o.cells at)) is ∙ e

-- a cell that is changed runs as told, and another one as before
pub cell_set : (h : Heap) (r n : ℕ) (x : Once) (i at t : ℕ) → cell_at (edited (edit.Cell r n x) h) i at ≡ Some (once.Running t)
    → ((r ≡ i) × (n ≡ at) × (x ≡ once.Running t)) ⊎ ((cell_at h i at ≡ Some (once.Running t)) × ((r ≡ i) → (n ≡ at) → ⊥))
cell_set h r n x i at t e =
    let new = cell_there (changed h.objects r (with_cell n x)) i at (once.Running t) e in
    let old = changed_back h.objects r i (with_cell n x) new.0 new.1 in
    ⊎_elim
    (λ stays. inr (cell_is h.objects i at old.0 (once.Running t) old.1 (subst (λ o. slice_get o.cells at ≡ Some (once.Running t)) stays.0 new.2), (λ is same. stays.1 is)))
    (λ moves. at_cell old.0 old.1 moves.1 (subst (λ o. slice_get o.cells at ≡ Some (once.Running t)) moves.0 new.2) (same_or_not n at))
    old.2
  where
    at_cell : (o : Object) → slice_get h.objects i ≡ Some o → r ≡ i → slice_get (slice_set o.cells n x) at ≡ Some (once.Running t) → (n ≡ at) ⊎ (n ≡ at → ⊥)
        → ((r ≡ i) × (n ≡ at) × (x ≡ once.Running t)) ⊎ ((cell_at h i at ≡ Some (once.Running t)) × ((r ≡ i) → (n ≡ at) → ⊥))
    at_cell o there is e (inl same) = inl (is, same, set_is (slice_get o.cells at) refl (subst (λ k. slice_get (slice_set o.cells k x) at ≡ Some (once.Running t)) same e))
      where
        set_is : (y : Option Once) → slice_get o.cells at ≡ y → slice_get (slice_set o.cells at x) at ≡ Some (once.Running t) → x ≡ once.Running t
        set_is (Some y) was e = some_same x (once.Running t) (sym (get_set_same o.cells at x y was) ∙ e)
        set_is None was e = absurd (past_set o.cells at x was e)
          where
            past_set : (xs : List Once) (k : ℕ) (x : Once) → slice_get xs k ≡ None → slice_get (slice_set xs k x) k ≡ Some (once.Running t) → ⊥
            past_set [] k x was e = none_at k (once.Running t) e
            past_set (z ∷ xs) zero x was e = cc
            past_set (z ∷ xs) (suc k) x was e = past_set xs k x was e
    at_cell o there is e (inr ne) = inr (cell_is h.objects i at o (once.Running t) there (sym (get_set_other o.cells n at x ne) ∙ e), (λ a b. ne b))

pub ran_before : (change : Edit) (h : Heap) → ClaimsNone change → RanBefore h (edited change h)
ran_before edit.Nothing h none i at t e = e
ran_before (edit.Field r n v) h none i at t e =
    let new = cell_there (changed h.objects r (with_field n v)) i at (once.Running t) e in
    let old = changed_back h.objects r i (with_field n v) new.0 new.1 in
    cell_is h.objects i at old.0 (once.Running t) old.1
    (⊎_elim (λ stays. subst (λ o. slice_get o.cells at ≡ Some (once.Running t)) stays.0 new.2) (λ moves. subst (λ o. slice_get o.cells at ≡ Some (once.Running t)) moves.0 new.2) old.2)
ran_before (edit.Cell r n x) h none i at t e = ⊎_elim (λ same. absurd (none t same.2)) (λ other. other.0) (cell_set h r n x i at t e)
ran_before (edit.Module class state) h none i at t e = e
ran_before (edit.AddObject o) h none i at t e =
    let new = cell_there (h.objects ++ o ∷ []) i at (once.Running t) e in
    ⊎_elim (λ was. cell_is h.objects i at new.0 (once.Running t) was new.2) (λ is. absurd (none at t (subst (λ o. slice_get o.cells at ≡ Some (once.Running t)) is new.2))) (get_appended h.objects o i new.0 new.1)
ran_before edit.AddLatch h none i at t e = e
ran_before (edit.OpenLatch n) h none i at t e = e
ran_before (edit.AddEvent x) h none i at t e = e

pub before_trans : (h g k : Heap) → RanBefore h g → RanBefore g k → RanBefore h k
before_trans h g k one two i at t e = one i at t (two i at t e)

-- ---- an object as it is made

empties : (cells : List Cell) (rest : List Once) → ((at t : ℕ) → slice_get rest at ≡ Some (once.Running t) → ⊥) → (at t : ℕ) → slice_get (map (λ cell. once.Empty) cells ++ rest) at ≡ Some (once.Running t) → ⊥
empties [] rest none at t e = none at t e
empties (c ∷ cells) rest none zero t e = cc
empties (c ∷ cells) rest none (suc at) t e = empties cells rest none at t e

pub made_at_rest : (classes : List Class) (linear : List ℕ) (at t : ℕ) → slice_get (made_cells classes linear) at ≡ Some (once.Running t) → ⊥
made_at_rest classes [] at t e = none_at at (once.Running t) e
made_at_rest classes (c ∷ linear) at t e = empties (cells_of classes c) (made_cells classes linear) (made_at_rest classes linear) at t e
