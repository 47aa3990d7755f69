use Rattle.std.proofs.Common.{◌≡◌, ◌≤◌, ◌∙◌, ap, ℕ, Vec, ◌++◌, length, take, drop, below_more, arith}
use Rattle.std.specs.declared.alloc.Global.{Global}
use Rattle.std.proofs.lemmas.Bool.{both_ways}
use Rattle.std.proofs.lemmas.List.{length-map, length-replicate, take_at}
use Rattle.std.proofs.lemmas.List.Elements.{All-replicate}
use Rattle.ty_linear.specs.Linear.{rows}
use Rattle.ty_linear.proofs.Within.{Within-rows, ancestor_within}
use Rattle.ty_linear.proofs.cycle.least_on_cycle.Goals as goal

pub loop-class-init : goal.loop-class-init
loop-class-init c =
    let zeros = c.in_ok-marks.ensures.items_if_clones_equal (λ y h. h) in
    record {
      marks = ap length zeros ∙ length-replicate (length c.args.parents.now) 0;
      below = rw zeros (All-replicate (λ mark. mark ≤ 0) (length c.args.parents.now) 0 (omega arith));
      others = λ x h. absurd (omega (arith, h));
    }

pub is_on_cycle-requires-clause-fresh : goal.is_on_cycle-requires-clause-fresh
is_on_cycle-requires-clause-fresh c = rw c.deref_mut.ensures.value c.loop-class.invariant.below

pub returns-then-branch : goal.returns-then-branch
returns-then-branch c = record {
  cyclic = c.in_ok-is_on_cycle.ensures.answer.0 c.if-branch.true;
  least = c.loop-class.invariant.others;
}

pub loop-class-preserved : goal.loop-class-preserved
loop-class-preserved c =
    let long : length c.is_on_cycle.new.marks ≡ c.loop-class.marks.len = omega (arith, c.is_on_cycle.auto.marks, c.deref_mut.ensures.len) in
    let same : take c.loop-class.marks.len (c.is_on_cycle.new.marks ++ drop (length c.is_on_cycle.new.marks) c.loop-class.marks.items) ≡ c.is_on_cycle.new.marks
    = take_at c.is_on_cycle.new.marks (drop (length c.is_on_cycle.new.marks) c.loop-class.marks.items) c.loop-class.marks.len long in
    record {
      marks = ap length same ∙ omega arith;
      below = rw same c.in_ok-is_on_cycle.ensures.below;
      others = below_more _ _ c.loop-class.invariant.others (λ a.
          let yes = c.in_ok-is_on_cycle.ensures.answer.1 a in
          let no = c.if-branch.false in
          both_ways c.in_ok-is_on_cycle.field-0 no yes);
    }

pub returns : goal.returns
returns c = λ class a.
    let count : length (rows c.args.parents.now) ≡ length c.args.parents.now = length-map c.args.parents.now (λ (r : Vec ℕ Global). r.items) in
    let low = ancestor_within (rows c.args.parents.now) (Within-rows c.args.parents.now c.requires.classes) class class a in
    c.loop-class.invariant.others class (omega (arith, low, count)) a
