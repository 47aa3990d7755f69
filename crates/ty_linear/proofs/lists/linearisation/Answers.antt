use Rattle.std.proofs.Common.{◌≡◌, ◌∙◌, sym, length, get_or, Vec, ℕ, arith}
use Rattle.std.specs.declared.alloc.Global.{Global}
use Rattle.std.proofs.lemmas.List.{length-map}
use Rattle.ty_linear.specs.Linear.{rows, none}
use Rattle.ty_linear.proofs.Gathered.{AreMarked-fresh}
use Rattle.ty_linear.proofs.Within.{Within-rows, linear_within}
use Rattle.ty_linear.proofs.Tables.{row_read, parent_list, merge_more, merge_all}
use Rattle.ty_linear.proofs.lists.linearisation.Goals as goal

pub loop-parent-init : goal.loop-parent-init
loop-parent-init c = record {
  items = row_read c.args.parents.now c.args.class c.index-parents-class.result c.requires.class c.index-parents-class.is ∙ sym c.deref-parent-items.ensures.value;
  merged = (rw c.new-merged.ensures.items none);
  marked = (rw c.new-merged.ensures.items (AreMarked-fresh c.args.marks.now c.args.stamp c.requires.fresh));
}

pub gather-requires-clause-within : goal.gather-requires-clause-within
gather-requires-clause-within c =
    let parents = rows c.args.parents.now in
    let within = Within-rows c.args.parents.now c.requires.classes in
    let count : length parents ≡ length c.args.parents.now = length-map c.args.parents.now (λ (r : Vec ℕ Global). r.items) in
    let read = parent_list parents c.args.lists.now c.args.class c.loop-parent.parent-index c.deref-parent-items.result.now c.deref.result.now
    c.index-lists-parent.result within c.loop-parent.invariant.items (omega arith) (omega arith) c.requires.above c.index-lists-parent.is c.deref.ensures.value in
    let all = linear_within parents within (get_or c.deref-parent-items.result.now c.loop-parent.parent-index 0) c.deref.result.now read.0 read.1 in
    λ k d h. let low = all k d h in omega (arith, low)

pub loop-parent-preserved : goal.loop-parent-preserved
loop-parent-preserved c =
    let parents = rows c.args.parents.now in
    let within = Within-rows c.args.parents.now c.requires.classes in
    let count : length parents ≡ length c.args.parents.now = length-map c.args.parents.now (λ (r : Vec ℕ Global). r.items) in
    let read = parent_list parents c.args.lists.now c.args.class c.loop-parent.parent-index c.deref-parent-items.result.now c.deref.result.now
    c.index-lists-parent.result within c.loop-parent.invariant.items (omega arith) (omega arith) c.requires.above c.index-lists-parent.is c.deref.ensures.value in
    record {
      items = c.loop-parent.invariant.items;
      merged = merge_more parents c.deref-parent-items.result.now c.loop-parent.parent-index c.loop-parent.merged.items c.deref.result.now
          c.gather.new.found.items (omega arith) c.loop-parent.invariant.merged read.1 c.in_ok-gather.ensures.gathered;
      marked = c.in_ok-gather.ensures.marked;
    }

pub returns-clause-list : goal.returns-clause-list
returns-clause-list c =
    merge_all (rows c.args.parents.now) c.args.class c.loop-parent.parent-index c.deref-parent-items.result.now c.loop-parent.merged.items
    c.push.new.self.items c.reverse.new.self.items c.loop-parent.invariant.items (omega arith) c.loop-parent.invariant.merged c.in_ok-push.ensures.items c.reverse.ensures.items

pub returns-clause-below : goal.returns-clause-below
returns-clause-below c = c.loop-parent.invariant.marked.below
