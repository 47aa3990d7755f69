use Rattle.std.proofs.Common.{◌≡◌, ◌≤◌, drop, [], arith, subst}
use Rattle.std.proofs.lemmas.List.{drop_more}
use Rattle.std.proofs.Math.ListN.{drop_of_length-le}
use Rattle.lz_proto.specs.Promises.{count_of}
use Rattle.lz_proto.proofs.Midway.{Midway, at_most_one, goes_on, over, all_follow}
use Rattle.lz_proto.proofs.proto.Proto.run.Goals as goal

pub overflow_add-made : goal.overflow_add-made
overflow_add-made c =
    let one : count_of c.step.result ≤ 1 = at_most_one c.step.result in
    omega (arith, c.loop-given.invariant.1, c.loop-given-test.true, c.requires.room, c.kept.ensures.room, c.count-made.ensures, one)

pub loop-given-preserved : goal.loop-given-preserved
loop-given-preserved c =
    let one : count_of c.step.result ≤ 1 = at_most_one c.step.result in
    let was = subst (λ rest. Midway c.args.self.now c.args.acts.now c.loop-given.self rest c.loop-given.made) (drop_more c.args.acts.now c.loop-given.given-index _ c.loop-given-test.true) c.loop-given.invariant.0 in (
      rw c.count-made.ensures (goes_on c.args.self.now c.args.acts.now c.loop-given.self _ _ _ c.loop-given.made was c.step.result _ c.step.ensures.done),
      omega (arith, c.loop-given.invariant.1, c.count-made.ensures, one),
    )

pub returns-clause-state : goal.returns-clause-state
returns-clause-state c =
    let none : drop c.loop-given.given-index c.args.acts.now ≡ [] = drop_of_length-le c.args.acts.now (omega (arith, c.loop-given-test.false)) in
    (over c.args.self.now c.args.acts.now c.loop-given.self c.loop-given.made (subst (λ rest. Midway c.args.self.now c.args.acts.now c.loop-given.self rest c.loop-given.made) none c.loop-given.invariant.0)).0

pub returns-clause-count : goal.returns-clause-count
returns-clause-count c =
    let none : drop c.loop-given.given-index c.args.acts.now ≡ [] = drop_of_length-le c.args.acts.now (omega (arith, c.loop-given-test.false)) in
    (over c.args.self.now c.args.acts.now c.loop-given.self c.loop-given.made (subst (λ rest. Midway c.args.self.now c.args.acts.now c.loop-given.self rest c.loop-given.made) none c.loop-given.invariant.0)).1

pub returns-clause-rules : goal.returns-clause-rules
returns-clause-rules c = all_follow c.args.acts.now c.args.self.now c.kept.ensures.kept c.requires.there
