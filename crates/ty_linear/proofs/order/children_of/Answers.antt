use Rattle.std.proofs.Common.{◌≡◌, ◌∙◌, sym, ap, subst, ℕ, Vec, List, length, arith}
use Rattle.std.specs.declared.alloc.Global.{Global}
use Rattle.std.specs.Vec.{with_items}
use Rattle.std.proofs.lemmas.List.{with_items_is, length-map}
use Rattle.ty_linear.specs.Linear.{rows, parents_of}
use Rattle.ty_linear.proofs.Tables.{row_read}
use Rattle.ty_linear.proofs.Children.{AreAdded, children_none, children_more, children_all}
use Rattle.ty_linear.proofs.order.children_of.Goals as goal

pub loop-child-init : goal.loop-child-init
loop-child-init c = record {
  count = c.in_ok-children.ensures.count;
  children = rw c.in_ok-children.ensures.rows (children_none (rows c.args.parents.now) (length c.args.parents.now));
}

pub loop-child-preserved : goal.loop-child-preserved
loop-child-preserved c =
    let k = c.loop-child.child in
    let long : length c.add_child.new.children ≡ c.loop-child.children.len = omega (arith, c.add_child.auto.children, c.deref_mut.ensures.len) in
    let items : (with_items c.loop-child.children c.add_child.new.children).items ≡ c.add_child.new.children = with_items_is c.loop-child.children c.add_child.new.children long in
    let ps : parents_of (rows c.args.parents.now) k ≡ c.deref.result.now =
    row_read c.args.parents.now k c.index-parents-child.result (omega arith) c.index-parents-child.is ∙ sym c.deref.ensures.value in
    let added : AreAdded c.loop-child.children.items c.add_child.new.children k c.deref.result.now =
    subst (λ (before : List (Vec ℕ Global)). AreAdded before c.add_child.new.children k c.deref.result.now) c.deref_mut.ensures.value c.in_ok-add_child.ensures in
    record {
      count = ap length items ∙ omega arith;
      children = rw items (children_more (rows c.args.parents.now) c.loop-child.children.items c.add_child.new.children k c.deref.result.now ps c.loop-child.invariant.children added);
    }

pub returns-clause-each : goal.returns-clause-each
returns-clause-each c =
    children_all (rows c.args.parents.now) (rows c.loop-child.children.items) c.loop-child.child
    (let count : length (rows c.args.parents.now) ≡ length c.args.parents.now = length-map c.args.parents.now (λ (r : Vec ℕ Global). r.items) in omega (arith, count))
    c.loop-child.invariant.children
