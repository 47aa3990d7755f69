use Rattle.std.proofs.Common.{◌≡◌, ◌≢◌, ◌<◌, ◌≤◌, ◌∙◌, sym, ap, subst, ◌-◌, [], ◌∷◌, ◌++◌, length, get_or, take, arith}
use Rattle.std.proofs.lemmas.List.{append-nil, append_assoc, take_all, get_or-set_same}
use Rattle.ty_linear.proofs.Counts.{AreFewer, still_waits, fewer_more, ready_push, ready_wait}
use Rattle.ty_linear.proofs.order.release.Goals as goal
use Rattle.ty_linear.proofs.order.release.Goals.{then-waiting-at-eq0+in_ok-push, else-waiting-at-eq0}

pub loop-class-init : goal.loop-class-init
loop-class-init c = record {
  fewer = λ class h. omega arith;
  ready = c.requires.ready;
  behind = ([], sym (append-nil c.args.ready.now.items));
}

pub overflow_sub-waiting : goal.overflow_sub-waiting
overflow_sub-waiting c =
    let i = c.loop-class.class-index in
    let low = c.requires.within i 0 (omega arith) in
    still_waits c.args.waiting.now c.loop-class.waiting c.args.classes.now i (omega arith) low c.loop-class.invariant.fewer
    (c.requires.enough (get_or c.args.classes.now i 0) low)

pub loop-class-preserved : goal.loop-class-preserved
loop-class-preserved c =
    let i = c.loop-class.class-index in
    let x = get_or c.args.classes.now i 0 in
    let before = c.loop-class.waiting in
    let low = c.requires.within i 0 (omega arith) in
    let here : x < length before = omega (arith, low) in
    let some : 1 ≤ get_or before x 0 =
    still_waits c.args.waiting.now before c.args.classes.now i (omega arith) low c.loop-class.invariant.fewer (c.requires.enough x low) in
    let new = get_or-set_same before x (get_or before x 0 - 1) 0 here in
    record {
      fewer = fewer_more c.args.waiting.now before c.args.classes.now i (omega arith) (omega arith) low c.loop-class.invariant.fewer some;
      ready = elim c.if-waiting-at-eq0.branch [
        | then-waiting-at-eq0+in_ok-push w ↦ (
            let zero : get_or before x 0 - 1 ≡ 0 = sym new ∙ w.if-waiting-at-eq0.true in
            let items : c.if-waiting-at-eq0.ready.items ≡ c.loop-class.ready.items ++ x ∷ [] = rw w.ready-is w.in_ok-push.ensures.items in
            rw items (ready_push before c.loop-class.ready.items x c.loop-class.invariant.ready here some zero))
        | else-waiting-at-eq0 w ↦ (
            let more : (get_or before x 0 - 1) ≢ 0 = λ e. w.if-waiting-at-eq0.false (new ∙ e) in
            rw w.ready-is (ready_wait before c.loop-class.ready.items x c.loop-class.invariant.ready here some more))
      ];
      behind = elim c.if-waiting-at-eq0.branch [
        | then-waiting-at-eq0+in_ok-push w ↦ (
            let items : c.if-waiting-at-eq0.ready.items ≡ c.loop-class.ready.items ++ x ∷ [] = rw w.ready-is w.in_ok-push.ensures.items in (
              c.loop-class.invariant.behind.0 ++ x ∷ [],
              items ∙ ap (λ l. l ++ x ∷ []) c.loop-class.invariant.behind.1 ∙ append_assoc c.args.ready.now.items c.loop-class.invariant.behind.0 (x ∷ []),
            ))
        | else-waiting-at-eq0 w ↦ (rw w.ready-is c.loop-class.invariant.behind)
      ];
    }

pub returns-clause-fewer : goal.returns-clause-fewer
returns-clause-fewer c =
    let all : take c.loop-class.class-index c.args.classes.now ≡ c.args.classes.now = take_all c.loop-class.class-index c.args.classes.now (omega arith) in
    subst (AreFewer c.args.waiting.now c.loop-class.waiting) all c.loop-class.invariant.fewer
