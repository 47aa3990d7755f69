use Rattle.std.proofs.Common.{◌≡◌, [], ◌∷◌, ◌++◌, ◌+◌, ◌-◌, ◌<◌, true, false, length, reverse, drop, get_or, sym, ap, ◌∙◌, arith}
use Rattle.std.proofs.lemmas.Bool.{ne_eqb, eq-eqb}
use Rattle.std.proofs.lemmas.List.{drop_all}
use Rattle.ty_linear.specs.Linear.{is_in}
use Rattle.ty_linear.specs.Gather.{gathered}
use Rattle.ty_linear.proofs.Gathered.{gathered_more, put_there, put_new, AreMarked-push}
use Rattle.ty_linear.proofs.gather.gather.Goals as goal

pub loop-number-init : goal.loop-number-init
loop-number-init c = record {
  gathered = ap (λ ys. gathered c.args.found.now.items (reverse ys)) (sym (drop_all (length c.args.classes.now) c.args.classes.now (omega arith)));
  marked = c.requires.marked;
  within = omega arith;
}

pub loop-number-preserved-in-Continue-1 : goal.loop-number-preserved-in-Continue-1
loop-number-preserved-in-Continue-1 c =
    let k = c.loop-number.number - 1 in
    let x = get_or c.args.classes.now k 0 in
    let next : k + 1 ≡ c.loop-number.number = omega arith in
    let here : k < length c.args.classes.now = omega arith in
    let in_marks : x < length c.loop-number.marks = omega (arith, c.requires.within k 0 here) in
    let missing : is_in c.loop-number.found.items x ≡ false = sym (c.loop-number.invariant.marked.each x in_marks) ∙ ne_eqb _ _ c.if-marks-class.true in
    let pushed : c.push.new.self.items ≡ c.loop-number.found.items ++ x ∷ [] = c.in_ok-push.ensures.items in
    record {
      gathered = pushed ∙ sym (put_new c.loop-number.found.items x missing)
          ∙ sym (gathered_more c.args.found.now.items c.args.classes.now c.loop-number.found.items k c.loop-number.number here next c.loop-number.invariant.gathered);
      marked = rw pushed (AreMarked-push c.loop-number.marks c.args.stamp c.loop-number.found.items x in_marks c.loop-number.invariant.marked);
      within = omega arith;
    }

pub loop-number-preserved : goal.loop-number-preserved
loop-number-preserved c =
    let k = c.loop-number.number - 1 in
    let x = get_or c.args.classes.now k 0 in
    let next : k + 1 ≡ c.loop-number.number = omega arith in
    let here : k < length c.args.classes.now = omega arith in
    let in_marks : x < length c.loop-number.marks = omega (arith, c.requires.within k 0 here) in
    let there : is_in c.loop-number.found.items x ≡ true = sym (c.loop-number.invariant.marked.each x in_marks) ∙ eq-eqb _ _ c.if-marks-class.false in
    record {
      gathered = sym (put_there c.loop-number.found.items x there)
          ∙ sym (gathered_more c.args.found.now.items c.args.classes.now c.loop-number.found.items k c.loop-number.number here next c.loop-number.invariant.gathered);
      marked = c.loop-number.invariant.marked;
      within = omega arith;
    }

pub returns-clause-gathered : goal.returns-clause-gathered
returns-clause-gathered c =
    let done : c.loop-number.number ≡ 0 = omega arith in
    c.loop-number.invariant.gathered ∙ ap (λ k. gathered c.args.found.now.items (reverse (drop k c.args.classes.now))) done
