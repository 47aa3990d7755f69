use Rattle.std.proofs.Common.{◌≡◌, ◌<◌, ◌≤◌, ◌∙◌, ap, subst, ℕ, Vec, ◌++◌, length, take, drop, get_or, arith}
use Rattle.std.specs.declared.alloc.Global.{Global}
use Rattle.std.specs.List.{All}
use Rattle.std.proofs.lemmas.List.{length-map, length-set, length-replicate, take_all, take_at}
use Rattle.std.proofs.lemmas.List.Elements.{All-replicate, All-nil}
use Rattle.ty_linear.specs.Linear.{rows, parents_of}
use Rattle.ty_linear.proofs.Tables.{Have, Have-more, Have-parents}
use Rattle.ty_linear.proofs.lists.lists_of.Goals as goal

pub loop-number-init : goal.loop-number-init
loop-number-init c = record {
  lists = c.in_ok-lists.ensures.count;
  marks = ap length (c.in_ok-marks.ensures.items_if_clones_equal (λ y h. h)) ∙ length-replicate (length c.args.parents.now) 0;
  below = (rw (c.in_ok-marks.ensures.items_if_clones_equal (λ y h. h)) (All-replicate (λ mark. mark ≤ 0) (length c.args.parents.now) 0 (omega arith)));
  have = All-nil _;
}

pub linearisation-requires-clause-above : goal.linearisation-requires-clause-above
linearisation-requires-clause-above c =
    let class = get_or c.args.order.now c.loop-number.number 0 in
    let have = Have-parents (rows c.args.parents.now) c.loop-number.lists.items c.args.order.now (parents_of (rows c.args.parents.now) class) c.loop-number.number
    c.loop-number.invariant.have (c.requires.order.behind c.loop-number.number (omega arith)) in
    rw c.deref.ensures.value have

pub linearisation-requires-clause-fresh : goal.linearisation-requires-clause-fresh
linearisation-requires-clause-fresh c =
    let below : All (λ mark. mark ≤ c.loop-number.number) c.deref_mut.result.now = rw c.deref_mut.ensures.value c.loop-number.invariant.below in
    λ k d h. let low = below k d h in omega (arith, low)

pub loop-number-preserved : goal.loop-number-preserved
loop-number-preserved c =
    let class = get_or c.args.order.now c.loop-number.number 0 in
    let long : length c.linearisation.new.marks ≡ c.loop-number.marks.len = omega (arith, c.linearisation.auto.marks, c.deref_mut.ensures.len) in
    let same : take c.loop-number.marks.len (c.linearisation.new.marks ++ drop (length c.linearisation.new.marks) c.loop-number.marks.items) ≡ c.linearisation.new.marks
    = take_at c.linearisation.new.marks (drop (length c.linearisation.new.marks) c.loop-number.marks.items) c.loop-number.marks.len long in
    let count : length (rows c.args.parents.now) ≡ length c.args.parents.now = length-map c.args.parents.now (λ (r : Vec ℕ Global). r.items) in
    let low : class < length c.loop-number.lists.items = omega (arith, c.requires.order.within c.loop-number.number 0 (omega arith)) in
    record {
      lists = length-set c.loop-number.lists.items class c.in_ok-list.list ∙ c.loop-number.invariant.lists;
      marks = ap length same ∙ omega arith;
      below = (rw same c.in_ok-list.ensures.below);
      have = Have-more (rows c.args.parents.now) c.loop-number.lists.items c.args.order.now c.loop-number.number c.in_ok-list.list (omega arith)
          low c.in_ok-list.ensures.list c.loop-number.invariant.have;
    }

pub returns-clause-each : goal.returns-clause-each
returns-clause-each c =
    let all : take c.loop-number.number c.args.order.now ≡ c.args.order.now = take_all c.loop-number.number c.args.order.now (omega arith) in
    subst (Have (rows c.args.parents.now) c.loop-number.lists.items) all c.loop-number.invariant.have
