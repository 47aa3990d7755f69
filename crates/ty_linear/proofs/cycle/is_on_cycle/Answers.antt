use Rattle.std.proofs.Common.{◌≡◌, ◌<◌, ◌∙◌, sym, ap, inl, refl, ℕ, Vec, [], ◌+◌, length, reverse, get_or, eqb, arith}
use Rattle.std.specs.declared.alloc.Global.{Global}
use Rattle.std.specs.List.{All}
use Rattle.std.proofs.lemmas.List.{get_or_read, length-map}
use Rattle.ty_linear.specs.Linear.{rows, parents_of, is_in}
use Rattle.ty_linear.specs.Gather.{gathered}
use Rattle.ty_linear.proofs.Within.{Within-rows, row_within}
use Rattle.ty_linear.proofs.Tables.{row_read}
use Rattle.ty_linear.proofs.Search.{search_start, search_more, search_all, search_short, search_within}
use Rattle.ty_linear.proofs.cycle.is_on_cycle.Goals as goal

pub loop-number-init : goal.loop-number-init
loop-number-init c =
    let parents = rows c.args.parents.now in
    let ps : c.deref.result.now ≡ parents_of parents c.args.class =
    c.deref.ensures.value ∙ sym (row_read c.args.parents.now c.args.class c.index-parents-class.result c.requires.class c.index-parents-class.is) in
    record {
      searched = search_start parents c.args.class c.gather.new.found.items
          (c.in_ok-gather.ensures.gathered ∙ ap (λ found. gathered found (reverse c.deref.result.now)) c.new-found.ensures.items ∙ ap (λ ys. gathered [] (reverse ys)) ps);
      marked = c.in_ok-gather.ensures.marked;
    }

pub bounds-parents-ancestor : goal.bounds-parents-ancestor
bounds-parents-ancestor c =
    let parents = rows c.args.parents.now in
    let count : length parents ≡ length c.args.parents.now = length-map c.args.parents.now (λ (r : Vec ℕ Global). r.items) in
    let is = get_or_read c.loop-number.found.items c.loop-number.number c.index.result.now (omega arith) c.index.ensures 0 in
    let low = search_within parents (Within-rows c.args.parents.now c.requires.classes) c.args.class c.loop-number.found.items c.loop-number.number
    c.loop-number.invariant.searched (omega arith) in
    omega (arith, is, low)

pub gather-requires-in-loop-number-clause-within : goal.gather-requires-in-loop-number-clause-within
gather-requires-in-loop-number-clause-within c =
    let parents = rows c.args.parents.now in
    let count : length parents ≡ length c.args.parents.now = length-map c.args.parents.now (λ (r : Vec ℕ Global). r.items) in
    let is = get_or_read c.loop-number.found.items c.loop-number.number c.index.result.now (omega arith) c.index.ensures 0 in
    let low = search_within parents (Within-rows c.args.parents.now c.requires.classes) c.args.class c.loop-number.found.items c.loop-number.number
    c.loop-number.invariant.searched (omega arith) in
    let here : c.index.result.now < length c.args.parents.now = omega (arith, is, low) in
    let all = row_within c.args.parents.now c.requires.classes c.index.result.now c.index-parents-ancestor.result here c.index-parents-ancestor.is in
    let marks : length c.loop-number.marks ≡ length c.args.parents.now = omega (arith, c.gather.auto.marks) in
    let read : All (λ (x : ℕ). x < length c.args.parents.now) c.deref-in-loop-number.result.now = rw c.deref-in-loop-number.ensures.value all in
    λ k d h. let below = read k d h in omega (arith, below, marks)

pub loop-number-smaller : goal.loop-number-smaller
loop-number-smaller c =
    let parents = rows c.args.parents.now in
    let count : length parents ≡ length c.args.parents.now = length-map c.args.parents.now (λ (r : Vec ℕ Global). r.items) in
    let short = search_short parents (Within-rows c.args.parents.now c.requires.classes) c.args.class c.loop-number.found.items c.loop-number.number
    c.loop-number.invariant.searched in
    omega (arith, short, count)

pub loop-number-preserved : goal.loop-number-preserved
loop-number-preserved c =
    let parents = rows c.args.parents.now in
    let count : length parents ≡ length c.args.parents.now = length-map c.args.parents.now (λ (r : Vec ℕ Global). r.items) in
    let is = get_or_read c.loop-number.found.items c.loop-number.number c.index.result.now (omega arith) c.index.ensures 0 in
    let low = search_within parents (Within-rows c.args.parents.now c.requires.classes) c.args.class c.loop-number.found.items c.loop-number.number
    c.loop-number.invariant.searched (omega arith) in
    let here : c.index.result.now < length c.args.parents.now = omega (arith, is, low) in
    let ps : c.deref-in-loop-number.result.now ≡ parents_of parents (get_or c.loop-number.found.items c.loop-number.number 0) =
    c.deref-in-loop-number.ensures.value
    ∙ sym (row_read c.args.parents.now c.index.result.now c.index-parents-ancestor.result here c.index-parents-ancestor.is)
    ∙ ap (parents_of parents) is in
    record {
      searched = search_more parents c.args.class c.loop-number.found.items c.gather-in-loop-number.new.found.items c.loop-number.number
          c.loop-number.invariant.searched (omega arith)
          (c.in_ok-gather-2.ensures.gathered ∙ ap (λ ys. gathered c.loop-number.found.items (reverse ys)) ps);
      marked = c.in_ok-gather-2.ensures.marked;
    }

pub returns-clause-answer : goal.returns-clause-answer
returns-clause-answer c =
    let parents = rows c.args.parents.now in
    let mark : eqb (get_or c.loop-number.marks c.args.class 0) (c.args.class + 1) ≡ is_in c.loop-number.found.items c.args.class =
    c.loop-number.invariant.marked.each c.args.class (omega arith) in (
      λ h. c.loop-number.invariant.searched.above c.args.class (sym mark ∙ h),
      λ a. mark ∙ search_all parents c.args.class c.loop-number.found.items c.loop-number.number c.loop-number.invariant.searched (omega arith)
          c.args.class c.args.class (inl refl) a,
    )

pub returns-clause-below : goal.returns-clause-below
returns-clause-below c = c.loop-number.invariant.marked.below
